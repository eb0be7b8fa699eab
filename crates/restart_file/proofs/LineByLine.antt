-- The lines of a file one after another, and what the whole of them says.
use Rattle.std.proofs.Common.{◌≡◌, ◌≢◌, ◌≤◌, ◌+◌, ℕ, List, [], ◌∷◌, ◌++◌, length, Option, Some, None, refl, sym, ap, subst, ◌∙◌, arith, IfSome, length-append}
use Rattle.std.specs.Prelude.{Result, Ok, Err, OnOk, IsErrAnd, unwrap_or}
use Rattle.std.specs.FinMap.{get}
use Rattle.std.specs.Option.{option_map}
use Rattle.outside.specs.Files.{Files}
use Rattle.lift_core.specs.Systems.{ToolSystem}
use Rattle.stage_store.specs.Stage.{StageValue}
use Rattle.restart_file.specs.declared.drafts.Draft.{Draft}
use Rattle.restart_file.specs.declared.dues.Due.TheVariants.{LastLine}
use Rattle.restart_file.specs.declared.ends.RestartEnd.{RestartEnd}
use Rattle.restart_file.specs.declared.ends.RestartEnd.TheVariants.{Bad, Failed, Memory}
use Rattle.restart_file.specs.declared.ends.RestartFault.TheVariants.{Missing, Text}
use Rattle.restart_file.specs.declared.windows.Window.{Window}
use Rattle.restart_file.specs.Texts.{Progress}
use Rattle.restart_file.specs.Reading.{Cursor, HasNoLine, IsLine, IsSealed, ReadsToEnd, reading_lines, reading_missing, reads_fault, reads_more, reads_no_line, reads_on, start}
use Rattle.restart_file.specs.Stored.{HasRestartCause, Restores}
use Rattle.restart_file.specs.Inside.Drafts.{IsTrueSoFar, ReadsTo, TakesLine, progress_in}
use Rattle.restart_file.specs.Inside.Ways.{Builds, IsOnTheWay, IsLineRead, ReadsLine}
use Rattle.restart_file.specs.Inside.Windows.{IsTextLeft, TellsText}
use Rattle.restart_file.proofs.Steps.{sound_step}

-- ---- one line
pub line_read : {T : Type 0} (S : ToolSystem) (text rest line : List ℕ) (w : Window) (c next : Cursor) (l : ℕ) (r : Result T RestartEnd)
    → IsLine line × ((others : List ℕ) × (rest ≡ line ++ others) × IsTextLeft text w others) → TakesLine S c.version c.due c.so_far line l next r → ReadsLine S text rest w c next l r
line_read S text rest line w c next l (Ok t) h s = record {
  others = h.1.0;
  left = h.1.2;
  fewer = omega (arith, ap length h.1.1, length-append line h.1.0, ap length h.0.ended, length-append h.0.text (10 ∷ []));
  leads = λ out r. reads_on h.0 h.1.1 s r;
}
line_read S text rest line w c next l (Err (Bad f)) h s = reads_fault h.1.0 h.0 h.1.1 s
line_read S text rest line w c next l (Err Failed) h s = tt
line_read S text rest line w c next l (Err Memory) h s = tt

pub line_sound : {T : Type 0} (S : ToolSystem) (line : List ℕ) (c next : Cursor) (l : ℕ) (r : Result T RestartEnd) → IsTrueSoFar S c → TakesLine S c.version c.due c.so_far line l next r → OnOk r (IsTrueSoFar S next)
line_sound S line c next l (Ok t) sound s = sound_step S c.version c.due c.so_far line next sound s
line_sound S line c next l (Err e) sound s = tt

pub line_cause : {T : Type 0} (S : ToolSystem) (line : List ℕ) (c next : Cursor) (l : ℕ) (r : Result T RestartEnd) (before now : ℕ) → before ≤ now → TakesLine S c.version c.due c.so_far line l next r → HasRestartCause before now r
line_cause S line c next l (Ok t) before now h s = record { later = h; failed = λ q. absurd cc }
line_cause S line c next l (Err (Bad f)) before now h s = record { later = h; failed = λ q. absurd cc }
line_cause S line c next l (Err Failed) before now h s = absurd s
line_cause S line c next l (Err Memory) before now h s = record { later = h; failed = λ q. absurd cc }

pub no_line_read : (T : Type 0) (S : ToolSystem) (text rest : List ℕ) (w : Window) (c next : Cursor) (l : ℕ) (e : RestartEnd) → e ≡ Bad (Text l) → c.due ≢ LastLine → HasNoLine rest → ReadsLine {T = T} S text rest w c next l (Err e)
no_line_read T S text rest w c next l e is due h = subst (λ x. ReadsLine {T = T} S text rest w c next l (Err x)) (sym is) (reads_no_line due h)

-- ---- line after line
pub way_start : (S : ToolSystem) (text : List ℕ) (w : Window) (c : Cursor) → c ≡ start → IsTextLeft text w text → IsOnTheWay S text w c 1 0
way_start S text w c is left = record {
  rest = text;
  left = left;
  fewer = omega arith;
  leads = λ out r. subst (λ x. ReadsToEnd S x 1 text out) is r;
}

module _ (S : ToolSystem) (text : List ℕ) (w : Window) (c : Cursor) (l turns : ℕ) (way : IsOnTheWay S text w c l turns) where
  pub way_on : (v : Window) (next : Cursor) → ((rest : List ℕ) → IsTextLeft text w rest → IsLineRead S text rest v c next l) → IsOnTheWay S text v next (l + 1) (turns + 1)
  way_on v next read =
      let r : IsLineRead S text way.rest v c next l = read way.rest way.left in
      record { rest = r.others; left = r.left; fewer = omega (arith, r.fewer, way.fewer); leads = λ out h. way.leads out (r.leads out h) }

  pub way_fault : (T : Type 0) (v : Window) (next : Cursor) (e : RestartEnd) → ((rest : List ℕ) → IsTextLeft text w rest → ReadsLine {T = T} S text rest v c next l (Err e)) → ReadsTo S start 1 text (Err e)
  way_fault T v next (Bad f) read = way.leads (Err f) (read way.rest way.left)
  way_fault T v next Failed read = tt
  way_fault T v next Memory read = tt

  pub way_end : (r : Result Draft RestartEnd) → ReadsTo S c l way.rest r → ReadsTo S start 1 text r
  way_end (Ok d) h = way.leads (Ok (progress_in d)) h
  way_end (Err (Bad f)) h = way.leads (Err f) h
  way_end (Err Failed) h = tt
  way_end (Err Memory) h = tt

pub none_left : (rest : List ℕ) → length rest ≡ 0 → rest ≡ []
none_left [] e = refl
none_left (b ∷ rest) e = absurd (omega (arith, e))

-- ---- the end of the lines
pub ended_early : (S : ToolSystem) (c : Cursor) (l : ℕ) (bytes : List ℕ) (e : RestartEnd) → e ≡ Bad (Text l) → c.due ≢ LastLine → (c.due ≢ LastLine → bytes ≡ []) → ReadsTo S c l bytes (Err e)
ended_early S c l bytes e is due none = subst (λ x. ReadsTo S c l bytes (Err x)) (sym is) (reads_no_line due (subst (λ (b : List ℕ). HasNoLine b) (sym (none due)) tt))

pub ended_long : (S : ToolSystem) (c : Cursor) (l : ℕ) (bytes : List ℕ) (e : RestartEnd) → e ≡ Bad (Text l) → c.due ≡ LastLine → length bytes ≢ 72 → ReadsTo S c l bytes (Err e)
ended_long S c l bytes e is due more = subst (λ x. ReadsTo S c l bytes (Err x)) (sym is) (reads_more due more)

-- ---- the whole file
pub lines_bad : (S : ToolSystem) (text : List ℕ) (e : RestartEnd) → IsSealed text → ReadsTo S start 1 text (Err e) → Restores S (Some text) (Err e)
lines_bad S text (Bad f) sealed h = reading_lines sealed h
lines_bad S text Failed sealed h = tt
lines_bad S text Memory sealed h = tt

pub stage_restored : (S : ToolSystem) (text : List ℕ) (d : Draft) (r : Result StageValue RestartEnd) → IsSealed text → ReadsTo S start 1 text (Ok d) → Builds S d r → Restores S (Some text) r
stage_restored S text d (Ok s) sealed h b = (b.0, reading_lines sealed (subst (λ (p : Progress). ReadsToEnd S start 1 text (Ok p)) (sym b.1) h))
stage_restored S text d (Err (Bad f)) sealed h b = absurd b
stage_restored S text d (Err Failed) sealed h b = absurd b
stage_restored S text d (Err Memory) sealed h b = tt

found_file : (o : Option (List ℕ)) (n : ℕ) → Some n ≡ option_map length o → (bytes : List ℕ) × (o ≡ Some bytes) × (n ≡ length bytes)
found_file None n e = absurd cc
found_file (Some bytes) n e = (bytes, refl, ap (λ o. unwrap_or o 0) e)

no_file : (o : Option (List ℕ)) → None ≡ option_map length o → o ≡ None
no_file None e = refl
no_file (Some bytes) e = absurd cc

-- there is a file of so many bytes
pub restored : (S : ToolSystem) (name : List ℕ) (held : Option Files) (o : Option ℕ) (n : ℕ) (r : Result StageValue RestartEnd) → o ≡ Some n → IfSome held (λ files. o ≡ option_map length (get files name))
    → ((text : List ℕ) → TellsText held name text → n ≡ length text → Restores S (Some text) r) → IfSome held (λ files. Restores S (get files name) r)
restored S name None o n r is size main = tt
restored S name (Some files) o n r is size main =
    let f : (bytes : List ℕ) × (get files name ≡ Some bytes) × (n ≡ length bytes) = found_file (get files name) n (sym is ∙ size) in
    subst (λ (o : Option (List ℕ)). Restores S o r) (sym f.1) (main f.0 (record { files = files; told = refl; bytes = ap (λ (o : Option (List ℕ)). unwrap_or o []) f.1 }) f.2)

-- there is no file
pub restored_none : (S : ToolSystem) (name : List ℕ) (held : Option Files) (o : Option ℕ) → o ≡ None → IfSome held (λ files. o ≡ option_map length (get files name)) → IfSome held (λ files. Restores S (get files name) (Err (Bad Missing)))
restored_none S name None o is size = tt
restored_none S name (Some files) o is size = subst (λ (o : Option (List ℕ)). Restores S o (Err (Bad Missing))) (sym (no_file (get files name) (sym is ∙ size))) reading_missing

-- ---- answers that are handed on
pub handed_lines : (S : ToolSystem) (text : List ℕ) (r : Result Draft RestartEnd) (e : RestartEnd) → IsErrAnd r (λ y. y ≡ e) → ReadsTo S start 1 text (Err e) → ReadsTo S start 1 text r
handed_lines S text (Ok d) e h g = absurd h
handed_lines S text (Err y) e h g = subst (λ x. ReadsTo S start 1 text (Err x)) (sym h) g

pub handed_stage : (S : ToolSystem) (file : Option (List ℕ)) (r : Result StageValue RestartEnd) (e : RestartEnd) → IsErrAnd r (λ y. y ≡ e) → Restores S file (Err e) → Restores S file r
handed_stage S file (Ok s) e h g = absurd h
handed_stage S file (Err y) e h g = subst (λ x. Restores S file (Err x)) (sym h) g
