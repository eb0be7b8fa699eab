-- A file that is cut short: what is accepted ends with its last line, so the longer file has a fault there. A file has
-- one reading, and so the two are not both accepted.
use Rattle.std.proofs.Common.{◌≡◌, ◌≢◌, ◌+◌, ℕ, List, [], ◌∷◌, ◌++◌, length, Some, refl, sym, ap, subst, ◌∙◌, arith, append_assoc, length-append}
use Rattle.std.specs.Prelude.{Result, Ok, Err}
use Rattle.lift_core.specs.Systems.{ToolSystem}
use Rattle.lift_core.specs.ToolSystems.{IsToolSystem}
use Rattle.restart_file.specs.declared.ends.RestartFault.{RestartFault}
use Rattle.restart_file.specs.declared.ends.RestartFault.TheVariants.{Text}
use Rattle.restart_file.specs.Texts.{Progress}
use Rattle.restart_file.specs.Reading.{Cursor, IsReading, IsSealed, ReadsToEnd, reading_lines, reading_unsealed, reads_end, reads_fault, reads_more, reads_no_line, reads_on, reads_too_few, start}
use Rattle.restart_file.proofs.OneReading.{one_reading}

is_longer : (xs ys : List ℕ) → ys ≢ [] → length (xs ++ ys) ≢ length xs
is_longer xs [] h e = h refl
is_longer xs (y ∷ ys) h e = omega (arith, e, length-append xs (y ∷ ys))

pub no_error : {p : Progress} {f : RestartFault} → Err f ≡ Ok p → ⊥
no_error e = absurd cc

module _ (S : ToolSystem) (p : Progress) (more : List ℕ) (some : more ≢ []) where
  -- bytes behind the last line are its fault
  runs_over : (c : Cursor) (l : ℕ) (bytes : List ℕ) (out : Result Progress RestartFault)
      → ReadsToEnd S c l bytes out → out ≡ Ok p → (n : ℕ) × ReadsToEnd S c l (bytes ++ more) (Err (Text n))
  runs_over c l bytes out (reads_on {next = m} {line = line} {rest = rest} h e f r) o =
      let t : (n : ℕ) × ReadsToEnd S m (l + 1) (rest ++ more) (Err (Text n)) = runs_over m (l + 1) rest out r o in
      (t.0, reads_on h (ap (λ b. b ++ more) e ∙ append_assoc line rest more) f t.1)
  runs_over c l bytes out (reads_fault rest h e w) o = absurd (no_error o)
  runs_over c l bytes out (reads_no_line d n) o = absurd (no_error o)
  runs_over c l bytes out (reads_more d n) o = absurd (no_error o)
  runs_over c l bytes out (reads_too_few d n q) o = absurd (no_error o)
  runs_over c l bytes out (reads_end d n q) o = (l, reads_more d (λ e. is_longer bytes more some (e ∙ sym n)))

-- the lines and the seal of a file that is accepted
pub accepted_seal : (S : ToolSystem) (bytes : List ℕ) (out : Result Progress RestartFault) (p : Progress)
    → IsReading S (Some bytes) out → out ≡ Ok p → IsSealed bytes
accepted_seal S bytes out p (reading_unsealed u) o = absurd (no_error o)
accepted_seal S bytes out p (reading_lines s r) o = s

pub accepted_lines : (S : ToolSystem) (bytes : List ℕ) (out : Result Progress RestartFault) (p : Progress)
    → IsReading S (Some bytes) out → out ≡ Ok p → ReadsToEnd S start 1 bytes out
accepted_lines S bytes out p (reading_unsealed u) o = absurd (no_error o)
accepted_lines S bytes out p (reading_lines s r) o = r

pub no_proper_prefix : (S : ToolSystem) (bytes front rest : List ℕ) (p q : Progress) → IsToolSystem S
    → IsReading S (Some bytes) (Ok p) → bytes ≡ front ++ rest → rest ≢ [] → IsReading S (Some front) (Ok q) → ⊥
no_proper_prefix S bytes front rest p q fits whole e some cut =
    let lines : ReadsToEnd S start 1 front (Ok q) = accepted_lines S front (Ok q) q cut refl in
    let over : (n : ℕ) × ReadsToEnd S start 1 (front ++ rest) (Err (Text n)) = runs_over S q rest some start 1 front (Ok q) lines refl in
    let fault : IsReading S (Some bytes) (Err (Text over.0)) =
    reading_lines (accepted_seal S bytes (Ok p) p whole refl) (subst (λ (b : List ℕ). ReadsToEnd S start 1 b (Err (Text over.0))) (sym e) over.1)
    in
    no_error (one_reading S (Some bytes) (Err (Text over.0)) (Ok p) fits fault whole)
