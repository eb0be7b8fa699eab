-- What the words give is what `clap` finds in them, and both refuse the same lists of words.
use Rattle.std.proofs.Common.{◌≡◌, false, List, [], ◌∷◌, map, Option, None, Some, IsUtf8, refl, sym, subst}
use Rattle.clap.specs.Walk.{Held, Text, Walk, settled, walked}
use Rattle.clap.specs.Faults.{turn_fault, settle_fault}
use Rattle.tool_words.specs.Choices.{Choice}
use Rattle.tool_words.specs.Walks.{Given, Reading, Form, end_mark, long_word, letters, is_given, put, with_text, form_of, long_form, read_letters, read_long, read_form, read_value, read_open, read_word, ◌>>=◌}
use Rattle.tool_words.specs.Walks as w
use Rattle.tool_words.proofs.Rules.{rules_for, shape_for}
use Rattle.tool_words.proofs.Uses.{IsProper, or_else_both, or_else_left, or_else_right, awaited_fault}
use Rattle.tool_words.proofs.Steps.{StandsBy, Stands, Doomed, WordComes}
use Rattle.std.specs.List.{AllByRecursion}
use Rattle.std.proofs.Common.{fold}
use Rattle.clap.specs.Walk.{nothing_held, walk, walk_from}
use Rattle.clap.specs.Faults.{walk_fault}
use Rattle.tool_words.specs.Walks.{read_all, read_whole, given_of, text_given, is_true}
use Rattle.tool_words.proofs.Rules.{shown, listed}
use Rattle.tool_words.proofs.WordSteps.{word_comes, doomed_comes}

abbrev pub AreUtf8 : List Text → Type 0
AreUtf8 words = AllByRecursion IsUtf8 words

-- ---- the walk over all words

abbrev pub end_of : List Choice → Walk → List Text → Walk
end_of choices walk words = fold (walked (rules_for choices) []) walk words

abbrev pub WalkComes : List Choice → Walk → List Text → Option Reading → Type 0
WalkComes choices walk words None = walk_fault (shape_for choices) [] walk words ≡ [] → Doomed choices (end_of choices walk words)
WalkComes choices walk words (Some r) = (walk_fault (shape_for choices) [] walk words ≡ []) × Stands choices (end_of choices walk words) r

doomed_walk : (choices : List Choice) (words : List Text) → AreUtf8 words → (walk : Walk) → Doomed choices walk → walk_fault (shape_for choices) [] walk words ≡ [] → Doomed choices (end_of choices walk words)
unfolding walk_fault
doomed_walk choices [] utf8 walk doomed fault = doomed
doomed_walk choices (word ∷ words) utf8 walk doomed fault =
    doomed_walk choices words utf8.1 (walked (rules_for choices) [] walk word) (doomed_comes choices word utf8.0 walk doomed (or_else_left _ _ fault)) (or_else_right _ _ fault)

walk_more : (choices : List Choice) (word : Text) (words : List Text) (walk : Walk) → turn_fault (shape_for choices) [] walk word ≡ [] → (got : Option Reading) →
    WalkComes choices (walked (rules_for choices) [] walk word) words got → WalkComes choices walk (word ∷ words) got
unfolding walk_fault
walk_more choices word words walk turn None come = λ fault. come (or_else_right _ _ fault)
walk_more choices word words walk turn (Some r) come = (or_else_both _ _ turn come.0, come.1)

walk_comes : (choices : List Choice) → IsProper choices → (words : List Text) → AreUtf8 words → (walk : Walk) (r : Reading) → Stands choices walk r → WalkComes choices walk words (read_all choices words r)
unfolding walk_fault
walk_comes choices proper [] utf8 walk r stands = (refl, stands)
walk_comes choices proper (word ∷ words) utf8 walk r stands =
    elim (read_word choices word r) as (λ got. WordComes choices walk word got → WalkComes choices walk (word ∷ words) (got >>= read_all choices words)) [
      | None ↦ λ come. λ fault. doomed_walk choices words utf8.1 (walked (rules_for choices) [] walk word) (come (or_else_left _ _ fault)) (or_else_right _ _ fault)
      | Some s ↦ λ come. walk_more choices word words walk come.0 _ (walk_comes choices proper words utf8.1 (walked (rules_for choices) [] walk word) s come.1)
    ] (word_comes choices proper word utf8.0 walk r.given r.awaited r.is_ended stands)

-- ---- the end

-- the end has no fault, and what is settled there is what is given
pub record IsSettled (choices : List Choice) (held : Held) (given : Given) : Type 0 where
  pub sound : settle_fault (rules_for choices) false held ≡ []
  pub same : map shown (settled (rules_for choices) held).rows ≡ map listed given

abbrev pub AllComes : List Choice → List Text → Option Given → Type 0
AllComes choices words None = walk_fault (shape_for choices) [] (walk_from nothing_held) words ≡ [] → settle_fault (rules_for choices) false (walk (rules_for choices) [] nothing_held words).held ≡ [] → ⊥
AllComes choices words (Some given) = (walk_fault (shape_for choices) [] (walk_from nothing_held) words ≡ []) × IsSettled choices (walk (rules_for choices) [] nothing_held words).held given

whole_comes : (choices : List Choice) (words : List Text) (r : Reading) → (walk_fault (shape_for choices) [] (walk_from nothing_held) words ≡ []) → (awaited : Option Text) →
    StandsBy choices (walk (rules_for choices) [] nothing_held words) r.given awaited r.is_ended → AllComes choices words (Rattle.tool_words.specs.Walks.given_by awaited r.given)
whole_comes choices words r fault None stands = (fault, subst (λ (m : Walk). IsSettled choices m.held r.given) (sym stands.1.1.0) (record { sound = stands.1.1.1.sound; same = stands.1.1.1.same }))
whole_comes choices words r fault (Some name) stands = λ _ settle. awaited_fault choices stands.0 r.given name stands.1.1.1
    (subst (λ (m : Walk). settle_fault (rules_for choices) false m.held ≡ []) stands.1.1.0 settle)

start_stands : (choices : List Choice) → Stands choices (walk_from nothing_held) (record { given = []; awaited = None; is_ended = false })
start_stands choices = ([], (None, (refl, record { sound = refl; same = refl })))

pub all_comes : (choices : List Choice) → IsProper choices → (words : List Text) → AreUtf8 words → AllComes choices words (read_all choices words (record { given = []; awaited = None; is_ended = false }) >>= read_whole)
all_comes choices proper words utf8 =
    elim (read_all choices words (record { given = []; awaited = None; is_ended = false })) as (λ got. WalkComes choices (walk_from nothing_held) words got → AllComes choices words (got >>= read_whole)) [
      | None ↦ λ come. λ fault settle.
          let doomed = come fault in
          doomed.1.1.1.1.1.1.0 (subst (λ (m : Walk). settle_fault (rules_for choices) false m.held ≡ []) doomed.1.1.1.1.1.0 settle)
      | Some r ↦ λ come. whole_comes choices words r come.0 r.awaited come.1
    ] (walk_comes choices proper words utf8 (walk_from nothing_held) (record { given = []; awaited = None; is_ended = false }) (start_stands choices))
