-- The lines of the system in a written restart text: each is a line, and they are read in turn.
use Rattle.std.proofs.Common.{◌≡◌, ◌<◌, ◌≤◌, ◌+◌, ◌*◌, inl, inr, ℕ, List, [], ◌∷◌, ◌++◌, length, Option, Some, None, Bool, refl, sym, ap, subst, ◌∙◌, arith, append_assoc, append-nil, length-append}
use Rattle.std.specs.Prelude.{ℤ, pos, map, codes, slice_index_or, if◌then◌else◌}
use Rattle.std.specs.List.{All, AllByRecursion, concat}
use Rattle.std.proofs.lemmas.Bool.{le-leb, lt-leb}
use Rattle.std.proofs.lemmas.List.Elements.{recursion_from_All}
use Rattle.std.proofs.Math.Seq.{get_or-append_seam}
use Rattle.int_vector.specs.Range.{InRange, IsCap}
use Rattle.lift_core.specs.Systems.{ToolSystem}
use Rattle.lift_core.specs.declared.Tool.{Tool}
use Rattle.lift_core.specs.declared.Tool.TheVariants.{Graver, Hilbert, Zsolve}
use Rattle.lift_core.specs.ToolSystems.{IsSign, IsToolSystem, width}
use Rattle.restart_file.specs.declared.lines.Version.TheVariants.{Second}
use Rattle.restart_file.specs.declared.dues.Due.{Due}
use Rattle.restart_file.specs.declared.dues.Due.TheVariants.{PlaceLine, SystemLine}
use Rattle.restart_file.specs.Texts.{Progress, cap_text, caps_line, row_line, shape_line, signs_line, spaced, system_lines, tool_line}
use Rattle.restart_file.specs.Reading.{IsLine, at, system_due}
use Rattle.restart_file.specs.Inside.Windows.{IsPlain}
use Rattle.restart_laws.proofs.WrittenLines.{cell_length, cell_plain, cells_line, counts_line_made, line_made, plain_both, plain_word}
use Rattle.restart_laws.proofs.WrittenRows.{ReadsAll, step_back}

-- ---- each line
tool_made : (t : Tool) → IsLine (tool_line t)
tool_made Graver =
    line_made (codes "tool graver") (plain_word (codes "tool graver") refl) (omega arith)
tool_made Hilbert =
    line_made (codes "tool hilbert") (plain_word (codes "tool hilbert") refl) (omega arith)
tool_made Zsolve =
    line_made (codes "tool zsolve") (plain_word (codes "tool zsolve") refl) (omega arith)

shape_made : (S : ToolSystem) → IsToolSystem S → IsLine (shape_line S)
shape_made S fits =
    counts_line_made (codes "shape ") (S.n ∷ width S.equations ∷ length S.equations.rows ∷ [])
    (plain_word (codes "shape ") refl) (omega arith) (
      omega (arith, fits.most_columns),
      (omega (arith, fits.most_width), (omega (arith, fits.most_rows), tt)),
    ) (omega arith)

sign_small : (s : ℤ) → IsSign s → InRange s
sign_small s (inl e) = subst (λ (x : ℤ). InRange x) (sym e) (omega arith)
sign_small s (inr (inl e)) = subst (λ (x : ℤ). InRange x) (sym e) (omega arith)
sign_small s (inr (inr e)) = subst (λ (x : ℤ). InRange x) (sym e) (omega arith)

signs_small : (ss : List ℤ) → AllByRecursion IsSign ss → AllByRecursion InRange ss
signs_small [] h = tt
signs_small (s ∷ ss) h = (sign_small s h.0, signs_small ss h.1)

signs_made : (S : ToolSystem) → IsToolSystem S → IsLine (signs_line S)
signs_made S fits =
    cells_line (codes "signs ") S.equations.signs (plain_word (codes "signs ") refl) (omega arith)
    (signs_small S.equations.signs (recursion_from_All IsSign S.equations.signs fits.signs))
    (omega (arith, fits.most_width))

cap_plain : (c : Option ℕ) → IsCap c → IsPlain (cap_text c)
cap_plain None h = plain_word (codes "*") refl
cap_plain (Some n) h = cell_plain (pos n) h

cap_length : (c : Option ℕ) → IsCap c → length (cap_text c) ≤ 20
cap_length None h = omega arith
cap_length (Some n) h = cell_length (pos n) h

caps_plain : (cs : List (Option ℕ)) → AllByRecursion IsCap cs → IsPlain (spaced (map cap_text cs))
caps_plain [] h = tt
caps_plain (c ∷ []) h = cap_plain c h.0
caps_plain (c ∷ d ∷ cs) h =
    plain_both (cap_text c) (32 ∷ spaced (map cap_text (d ∷ cs))) (cap_plain c h.0)
    ((λ e. omega (arith, e)), caps_plain (d ∷ cs) h.1)

caps_length : (cs : List (Option ℕ)) → AllByRecursion IsCap cs
    → length (spaced (map cap_text cs)) ≤ 21 * length cs
caps_length [] h = omega arith
caps_length (c ∷ []) h = omega (arith, cap_length c h.0)
caps_length (c ∷ d ∷ cs) h =
    omega (
      arith,
      length-append (cap_text c) (32 ∷ spaced (map cap_text (d ∷ cs))),
      cap_length c h.0,
      caps_length (d ∷ cs) h.1,
    )

spaced_made : (caps : List (Option ℕ)) → AllByRecursion IsCap caps → length caps ≤ 129
    → IsLine (codes "caps " ++ spaced (map cap_text caps) ++ 10 ∷ [])
spaced_made caps known few =
    subst (λ (t : List ℕ). IsLine t)
    (append_assoc (codes "caps ") (spaced (map cap_text caps)) (10 ∷ []))
    (line_made (codes "caps " ++ spaced (map cap_text caps))
    (plain_both (codes "caps ") (spaced (map cap_text caps)) (plain_word (codes "caps ") refl)
    (caps_plain caps known))
    (omega (
      arith,
      length-append (codes "caps ") (spaced (map cap_text caps)),
      caps_length caps known,
      few,
    )))

caps_made : (S : ToolSystem) → IsToolSystem S → IsLine (caps_line S)
caps_made S fits =
    spaced_made S.equations.caps (recursion_from_All IsCap S.equations.caps fits.caps.known)
    (omega (arith, fits.cap_count, fits.most_width))

rows_made : (w : ℕ) (rows : List (List ℤ)) → w ≤ 129 → AllByRecursion (λ r. length r ≡ w) rows
    → AllByRecursion (λ r. All InRange r) rows → AllByRecursion IsLine (map row_line rows)
rows_made w [] small lengths range = tt
rows_made w (r ∷ rows) small lengths range = (
  cells_line (codes "row ") r (plain_word (codes "row ") refl) (omega arith)
      (recursion_from_All InRange r range.0) (omega (arith, small, lengths.0)),
  rows_made w rows small lengths.1 range.1,
)

pub system_made : (S : ToolSystem) → IsToolSystem S → AllByRecursion IsLine (system_lines Second S)
system_made S fits =
    let rows : AllByRecursion IsLine (map row_line S.equations.rows) =
    rows_made (width S.equations) S.equations.rows fits.most_width
    (recursion_from_All (λ r. length r ≡ width S.equations) S.equations.rows fits.row_lengths)
    (recursion_from_All (λ r. All InRange r) S.equations.rows fits.entries)
    in
    (tool_made S.tool, (shape_made S fits, (signs_made S fits, (caps_made S fits, rows))))

-- ---- one after another
due_behind : (S : ToolSystem) (i : ℕ) → length (system_lines Second S) ≤ i
    → system_due Second S i ≡ PlaceLine
due_behind S i h =
    ap (λ (b : Bool). if b then PlaceLine else SystemLine i)
    (le-leb (length (system_lines Second S)) i h)

pub due_before : (S : ToolSystem) (i : ℕ) → i < length (system_lines Second S)
    → system_due Second S i ≡ SystemLine i
due_before S i h =
    ap (λ (b : Bool). if b then PlaceLine else SystemLine i)
    (lt-leb (length (system_lines Second S)) i h)

-- the lines `todo` of the system are to come behind the lines `done`, and the others behind them
module _ (S : ToolSystem) (q p : Progress) (others : List (List ℕ)) (tail : List ℕ)
    (behind : ReadsAll S (at Second PlaceLine q) (concat others ++ tail) p) where
  pub system_back : (done todo : List (List ℕ)) → done ++ todo ≡ system_lines Second S
      → AllByRecursion IsLine todo
      → ReadsAll S (at Second (system_due Second S (length done)) q)
      (concat (todo ++ others) ++ tail) p
  system_back done [] e lines =
      subst (λ (due : Due). ReadsAll S (at Second due q) (concat others ++ tail) p)
      (sym (due_behind S (length done) (omega (arith, ap length e, ap length (append-nil done)))))
      behind
  system_back done (line ∷ todo) e lines =
      let whole : (done ++ line ∷ []) ++ todo ≡ system_lines Second S =
      append_assoc done (line ∷ []) todo ∙ e in
      let here : line ≡ slice_index_or (system_lines Second S) (length done) [] =
      sym (get_or-append_seam done line todo [])
      ∙ ap (λ (xs : List (List ℕ)). slice_index_or xs (length done) []) e in
      let more : length (done ++ line ∷ []) ≡ length done + 1 =
      omega (arith, length-append done (line ∷ [])) in
      let inside : length done < length (system_lines Second S) =
      omega (arith, ap length e, length-append done (line ∷ todo)) in
      subst
      (λ (due : Due). ReadsAll S (at Second due q) (concat ((line ∷ todo) ++ others) ++ tail) p)
      (sym (due_before S (length done) inside))
      (step_back S (at Second (SystemLine (length done)) q)
      (at Second (system_due Second S (length done + 1)) q) line (todo ++ others) tail p lines.0
      (here, refl)
      (subst
      (λ (n : ℕ). ReadsAll S (at Second (system_due Second S n) q)
      (concat (todo ++ others) ++ tail) p)
      more (system_back (done ++ line ∷ []) todo whole lines.1)))
