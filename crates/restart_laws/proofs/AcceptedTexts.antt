-- A file that is accepted: its lines up to the last are those of the text of what it says, and its last 72 bytes are
-- the line of the digest.
use Rattle.std.proofs.Common.{◌≡◌, ◌+◌, ℕ, List, [], ◌∷◌, ◌++◌, length, drop, get_or, Some, refl, sym, ap, ap₂, subst, ◌∙◌, arith, append_assoc, length-append}
use Rattle.std.specs.Prelude.{Result, Ok, Err}
use Rattle.std.specs.List.{concat}
use Rattle.lift_core.specs.Systems.{ToolSystem}
use Rattle.restart_file.specs.declared.lines.Version.{Version}
use Rattle.restart_file.specs.declared.dues.Due.{Due}
use Rattle.restart_file.specs.declared.dues.Due.TheVariants.{FirstLine}
use Rattle.restart_file.specs.declared.ends.RestartFault.{RestartFault}
use Rattle.restart_file.specs.Texts.{Progress, digest_line, place_lines, restart_lines, restart_text, sealed, system_lines, version_line}
use Rattle.restart_file.specs.Reading.{Cursor, IsFor, IsReading, IsSealed, ReadsToEnd, nothing_read, reads_end, reads_fault, reads_more, reads_no_line, reads_on, reads_too_few, start}
use Rattle.restart_file.proofs.Seals.{digest_line_length}
use Rattle.restart_laws.proofs.LinesLeft.{IsTail, line_more}
use Rattle.restart_laws.proofs.PrefixReadings.{accepted_lines, accepted_seal, no_error}

-- the lines that are left, and the last 72 bytes
record IsEnding (S : ToolSystem) (c : Cursor) (bytes : List ℕ) (p : Progress) : Type 0 where
  pub lines : List (List ℕ)
  pub last : List ℕ
  pub tail : IsTail S c.version c.due c.so_far p lines
  pub whole : bytes ≡ concat lines ++ last
  pub bytes_left : length last ≡ 72

progress_or : Progress → Result Progress RestartFault → Progress
progress_or p (Ok q) = q
progress_or p (Err f) = p

module _ (S : ToolSystem) (p : Progress) where
  ending : (c : Cursor) (l : ℕ) (bytes : List ℕ) (out : Result Progress RestartFault)
      → ReadsToEnd S c l bytes out → out ≡ Ok p → IsEnding S c bytes p
  unfolding progress_or
  ending c l bytes out (reads_on {next = m} {line = line} {rest = rest} h e f r) o =
      let t : IsEnding S m rest p = ending m (l + 1) rest out r o in
      record {
        lines = line ∷ t.lines;
        last = t.last;
        tail = line_more S c.version c.so_far p line m t.lines h t.tail c.due f;
        whole = e ∙ ap (λ b. line ++ b) t.whole ∙ sym (append_assoc line (concat t.lines) t.last);
        bytes_left = t.bytes_left;
      }
  ending c l bytes out (reads_fault rest h e w) o = absurd (no_error o)
  ending c l bytes out (reads_no_line d n) o = absurd (no_error o)
  ending c l bytes out (reads_more d n) o = absurd (no_error o)
  ending c l bytes out (reads_too_few d n q) o = absurd (no_error o)
  ending c l bytes out (reads_end d n q) o = record {
    lines = [];
    last = bytes;
    tail = subst (λ (due : Due). IsTail S c.version due c.so_far p []) (sym d) (sym (ap (progress_or p) o), refl);
    whole = refl;
    bytes_left = n;
  }

same_front : (a b x y : List ℕ) → a ++ x ≡ b ++ y → length x ≡ length y → a ≡ b
same_front a b x y e n = fronts a b e (omega (arith, ap length e, length-append a x, length-append b y, n))
  where
    fronts : (a b : List ℕ) → a ++ x ≡ b ++ y → length a ≡ length b → a ≡ b
    fronts [] [] e n = refl
    fronts [] (d ∷ b) e n = absurd (omega (arith, n))
    fronts (c ∷ a) [] e n = absurd (omega (arith, n))
    fronts (c ∷ a) (d ∷ b) e n = ap₂ (λ u v. u ∷ v) (ap (λ (l : List ℕ). get_or l 0 0) e) (fronts a b (ap (drop 1) e) (omega (arith, n)))

-- what stands before the seal
sealed_text : (bytes body last : List ℕ) → IsSealed bytes → bytes ≡ body ++ last → length last ≡ 72 → bytes ≡ sealed body
sealed_text bytes body last s e n =
    s.whole
    ∙ ap sealed (same_front s.body body (digest_line s.body) last (sym s.whole ∙ e) (digest_line_length s.body ∙ sym n))

pub text_of_what_it_says : (S : ToolSystem) (bytes : List ℕ) (p : Progress) → IsReading S (Some bytes) (Ok p)
    → (v : Version) × (bytes ≡ restart_text v S p) × IsFor S v
text_of_what_it_says S bytes p h =
    let t : IsEnding S start bytes p = ending S p start 1 bytes (Ok p) (accepted_lines S bytes (Ok p) p h refl) refl in
    let s : IsTail S start.version FirstLine nothing_read p t.lines = t.tail in
    let lines : t.lines ≡ restart_lines s.0 S p =
    s.4 ∙ ap (λ more. version_line s.0 ∷ (system_lines s.0 S ++ more)) (s.3.written ∙ ap (λ (r : Progress). place_lines s.0 r) (sym s.3.is))
    in (
      s.0,
      sealed_text bytes (concat t.lines) t.last (accepted_seal S bytes (Ok p) p h refl) t.whole t.bytes_left ∙ ap (λ ls. sealed (concat ls)) lines,
      s.2,
    )
