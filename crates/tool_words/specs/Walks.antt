-- How the words of a command are read, from left to right.
use Rattle.std.specs.Prelude.{ℕ, ◌==◌, Bool, true, false, if◌then◌else◌, List, [], ◌∷◌, ◌++◌, Option, None, Some, find, codes}
use Rattle.std.specs.List.{list_any, before_first, after_first}
use Rattle.std.specs.Option.{option_map, option_map_or}
use Rattle.std.specs.Str.{bytes_eq}
use Rattle.lift_core.specs.declared.Tool.{Tool}
use Rattle.tool_words.specs.Choices.{Choice, flag, valued, name_of, is_named, has_letter, choices_of}

abbrev pub Text : Type 0
Text = List ℕ

-- the next step is taken, or the words are refused
infixl 10 ◌>>=◌
abbrev pub ◌>>=◌ : {A B : Type 0} → Option A → (A → Option B) → Option B
None >>= f = None
(Some x) >>= f = f x

-- ---- what is given

-- what the words give, in order: the names of flags, options and of the positional word, which is
-- `project`, each with its text; a flag's text is `true`
abbrev pub Given : Type 0
Given = List (Text × Text)

abbrev pub is_given : Text → Given → Bool
is_given name given = list_any (λ g. bytes_eq g.0 name) given

abbrev pub text_given : Text → Given → Option Text
text_given name given = option_map (λ g. g.1) (find (λ g. bytes_eq g.0 name) given)

abbrev pub is_true : Option Text → Bool
is_true text = option_map_or (λ t. bytes_eq t (codes "true")) text false

-- each flag and each option stands at most once, and so does the positional word
abbrev pub put : Text → Text → Given → Option Given
put name text given = if is_given name given then None else Some (given ++ (name, text) ∷ [])

-- ---- what a word is

-- `--`, `--name` or `--name=value`, letters behind one dash, or a word that is none of these: one
-- that does not begin with a dash, and the lone dash, which is no number and no project's name
pub data Form : Type 0 where
  end_mark : Form
  long_word : Text → Option Text → Form
  letters : Text → Form
  plain : Form

-- the value behind the first `=` (61)
abbrev pub value_in : Text → Option Text
value_in text =
    if list_any (λ x. x == 61) text then Some (after_first (λ x. x == 61) text) else None

abbrev pub long_form : Text → Form
long_form [] = end_mark
long_form (b ∷ bs) = long_word (before_first (λ x. x == 61) (b ∷ bs)) (value_in (b ∷ bs))

abbrev pub form_of : Text → Form
form_of [] = plain
form_of (a ∷ []) = plain
form_of (a ∷ b ∷ bs) =
    if a == 45 then (if b == 45 then long_form bs else letters (b ∷ bs)) else plain

-- ---- the walk

-- what is given so far, the option whose value the next word is, and whether `--` was met
pub record Reading : Type 0 where
  pub given : Given
  pub awaited : Option Text
  pub is_ended : Bool

abbrev pub with_text : Text → Text → Reading → Option Reading
with_text name text r =
    put name text r.given >>= (λ more. Some (record r { given = more; awaited = None }))

-- a long name is not shortened, and a flag has no value
abbrev pub read_long : Option Choice → Option Text → Reading → Option Reading
read_long None value r = None
read_long (Some (flag name letter)) None r = with_text name (codes "true") r
read_long (Some (flag name letter)) (Some value) r = None
read_long (Some (valued name)) None r = Some (record r { awaited = Some name })
read_long (Some (valued name)) (Some value) r = with_text name value r

-- each letter is a flag's
abbrev pub read_letters : List Choice → Text → Given → Option Given
read_letters choices [] given = Some given
read_letters choices (b ∷ bs) given = find (has_letter b) choices
    >>= (λ choice. put (name_of choice) (codes "true") given) >>= read_letters choices bs

-- a word before `--` that is no option's value
abbrev pub read_form : List Choice → Form → Text → Reading → Option Reading
read_form choices end_mark word r = Some (record r { is_ended = true })
read_form choices (long_word name value) word r = read_long (find (is_named name) choices) value r
read_form choices (letters bs) word r =
    read_letters choices bs r.given >>= (λ more. Some (record r { given = more }))
read_form choices plain word r = with_text (codes "project") word r

-- an option's value does not begin with a dash
abbrev pub read_value : Text → Form → Text → Reading → Option Reading
read_value name plain word r = with_text name word r
read_value name end_mark word r = None
read_value name (long_word long value) word r = None
read_value name (letters bs) word r = None

abbrev pub read_open : List Choice → Option Text → Text → Reading → Option Reading
read_open choices None word r = read_form choices (form_of word) word r
read_open choices (Some name) word r = read_value name (form_of word) word r

-- every word after `--` is a positional word
abbrev pub read_word : List Choice → Text → Reading → Option Reading
read_word choices word r =
    if r.is_ended then with_text (codes "project") word r else read_open choices r.awaited word r

abbrev pub read_all : List Choice → List Text → Reading → Option Reading
read_all choices [] r = Some r
read_all choices (word ∷ words) r = read_word choices word r >>= read_all choices words

-- no value is left out
abbrev pub given_by : Option Text → Given → Option Given
given_by None given = Some given
given_by (Some name) given = None

abbrev pub read_whole : Reading → Option Given
read_whole r = given_by r.awaited r.given

-- what the words give, where they are flags, options and at most one positional word
abbrev pub given_of : Tool → List Text → Option Given
given_of tool words =
    read_all (choices_of tool) words (record { given = []; awaited = None; is_ended = false })
    >>= read_whole
