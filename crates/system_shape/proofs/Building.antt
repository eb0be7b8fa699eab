-- Files without a fault give a user's system within the limits, and the linear system that it stands for is one that
-- can be built.
use Rattle.std.proofs.Common.{◌≡◌, ℕ, ◌+◌, ◌-◌, ◌*◌, ◌/◌, ◌%◌, ◌<◌, ◌≤◌, List, [], ◌∷◌, ◌++◌, length, drop, replicate, refl, lit≤, ap, ap₂, sym, ◌∙◌, subst, inl, arith, Bool, true, false, Some, None, length-append, append-nil}
use Rattle.std.specs.Prelude.{ℤ, pos}
use Rattle.std.specs.List.{All, AllByRecursion}
use Rattle.std.proofs.Math.Seq.{drop-append_seam}
use Rattle.std.specs.declared.option.Option.{Option}
use Rattle.std.proofs.lemmas.List.{length-replicate}
use Rattle.std.proofs.lemmas.List.Elements.{All-nil, All-cons, All-append, All-replicate, All-from_recursion, recursion_from_All}
use Rattle.std.proofs.Math.Nat.{mul-mod_left, mul-div_cancel, mul-le-mul_right}
use Rattle.lift_core.specs.Systems.{ToolSystem}
use Rattle.int_vector.specs.Range.{InRange, IsCap}
use Rattle.lift_core.specs.ToolSystems.{IsSign, AreCaps, caps_behind, built_system as entries_system}
use Rattle.lift_core.specs.Lists.{cut_rows}
use Rattle.lift_core.specs.declared.Tool.{Tool}
use Rattle.lift_core.specs.declared.Tool.TheVariants.{Graver, Hilbert, Zsolve}
use Rattle.lift_core.proofs.Cells.{length-cut_rows, cut_rows-lengths, cut_rows-entries}
use Rattle.mat_files.specs.Cells.{Matrix}
use Rattle.mat_files.specs.Grids.{IsMatrix}
use Rattle.mat_files.specs.declared.relations.Rel.{Rel}
use Rattle.system_shape.specs.declared.faults.ShapeFault.{ShapeFault}
use Rattle.std.specs.Option.{IfNone}
use Rattle.system_shape.specs.declared.files.Input.{Input}
use Rattle.system_shape.specs.Problem.{UserSystem}
use Rattle.system_shape.specs.Laws.{IsWellFormed}
use Rattle.system_shape.specs.Slacks.{slack_count, slack_parts, x0_signs, x0_caps, linear_system}
use Rattle.system_shape.specs.Shape.{given_signs, given_relations, given_rights, given_caps, user_rows, has_x0, user_system}
use Rattle.system_shape.specs.Inside.Cells.{slack_total, cells_from}
use Rattle.system_shape.specs.Inside.Accepted.{AreSigns, AreRights, AreUserCaps, AreFitting}
use Rattle.system_shape.proofs.Law.{parts_count, rows_count}
use Rattle.system_shape.proofs.RowCells.{cells_are_rows, cut_rows-joined, length-joined, rows_long, cells_small}
use Rattle.system_shape.proofs.UserRows.{length-user_rows, slack_count-user_rows, few_slacks, coefficients_have, rights_have}

-- a user's system of 1 to 64 columns and at most 64 rows, whose numbers are in range
pub record IsAccepted (tool : Tool) (U : UserSystem) : Type 0 where
  pub well : IsWellFormed U
  pub x0 : U.has_x0 ≡ has_x0 tool
  pub caps : All IsCap U.caps
  pub some_columns : 1 ≤ length U.signs
  pub most_columns : length U.signs ≤ 64
  pub most_rows : length U.rows ≤ 64
  pub signs : All IsSign U.signs
  pub coefficients : AllByRecursion (λ r. All InRange r.coefficients) U.rows
  pub rights : AllByRecursion (λ r. InRange r.right) U.rows

-- files without a fault fit the matrix
pub fitting_from : (tool : Tool) (input : Input) (mat : Matrix) (o : Option ShapeFault) → mat ≡ input.mat → IsMatrix mat.rows mat.cols mat.cells → mat.rows ≤ 64 → mat.cols ≤ 64
    → AreSigns mat.cols (given_signs tool mat.cols input.sign) → length (given_relations mat.rows input.rel) ≡ mat.rows → AreRights mat.rows (given_rights mat.rows input.rhs) → IfNone o (AreUserCaps mat.cols (given_caps mat.cols input.cap)) → IfNone o (AreFitting tool input)
fitting_from tool input mat (Some fault) e i rows cols signs relations rights caps = tt
fitting_from tool input mat None e i rows cols signs relations rights caps =
    let j : IsMatrix input.mat.rows input.mat.cols input.mat.cells = subst (λ (m : Matrix). IsMatrix m.rows m.cols m.cells) e i in
    record {
      entries = j.count;
      some_columns = j.wide;
      most_columns = subst (λ (m : Matrix). m.cols ≤ 64) e cols;
      most_rows = subst (λ (m : Matrix). m.rows ≤ 64) e rows;
      small = j.small;
      signs = subst (λ (m : Matrix). AreSigns m.cols (given_signs tool m.cols input.sign)) e signs;
      relations = subst (λ (m : Matrix). length (given_relations m.rows input.rel) ≡ m.rows) e relations;
      rights = subst (λ (m : Matrix). AreRights m.rows (given_rights m.rows input.rhs)) e rights;
      caps = subst (λ (m : Matrix). AreUserCaps m.cols (given_caps m.cols input.cap)) e caps;
    }

pub fitting_accepted : (tool : Tool) (input : Input) → AreFitting tool input → IsAccepted tool (user_system tool input)
fitting_accepted tool input f =
    let m : ℕ = input.mat.rows in
    let n : ℕ = input.mat.cols in
    let rows : List (List ℤ) = cut_rows m n input.mat.cells in
    let relations : List Rel = given_relations m input.rel in
    let rights : List ℤ = given_rights m input.rhs in
    let long : AllByRecursion (λ r. length r ≡ n) rows = recursion_from_All (λ r. length r ≡ n) rows (cut_rows-lengths m n input.mat.cells f.entries) in
    let small : AllByRecursion (λ r. All InRange r) rows =
    recursion_from_All (λ r. All InRange r) rows (cut_rows-entries InRange m n input.mat.cells (All-from_recursion InRange input.mat.cells f.small)) in
    let count : length (user_rows rows relations rights) ≡ m = length-user_rows rows relations rights m (length-cut_rows m n input.mat.cells) f.relations f.rights.count in
    record {
      well = record {
        caps = f.caps.count ∙ sym f.signs.count;
        rows = subst (λ k. AllByRecursion (λ r. length r.coefficients ≡ k) (user_rows rows relations rights)) (sym f.signs.count) (coefficients_have (λ r. length r ≡ n) rows relations rights long);
      };
      x0 = refl;
      caps = f.caps.known;
      some_columns = omega (arith, f.some_columns, f.signs.count);
      most_columns = omega (arith, f.most_columns, f.signs.count);
      most_rows = omega (arith, count, f.most_rows);
      signs = f.signs.known;
      coefficients = coefficients_have (λ r. All InRange r) rows relations rights small;
      rights = rights_have InRange rows relations rights f.rights.small;
    }

-- the slack columns of the relations are those of the system
slacks_counted : (tool : Tool) (input : Input) → AreFitting tool input → slack_count (user_system tool input).rows ≡ slack_total (given_relations input.mat.rows input.rel)
slacks_counted tool input f =
    let m : ℕ = input.mat.rows in
    let rows : List (List ℤ) = cut_rows m input.mat.cols input.mat.cells in
    slack_count-user_rows rows (given_relations m input.rel) (given_rights m input.rhs) (length-cut_rows m input.mat.cols input.mat.cells ∙ sym f.relations) (f.rights.count ∙ sym f.relations)

-- so its columns have these signs
pub signs_are : (tool : Tool) (input : Input) → AreFitting tool input → (n slacks : ℕ) (relations : List Rel) (signs : List ℤ) → n ≡ input.mat.cols → relations ≡ given_relations input.mat.rows input.rel → slacks ≡ slack_total relations
    → signs ≡ given_signs tool n input.sign ++ (replicate slacks (pos 1) ++ x0_signs (has_x0 tool)) → signs ≡ (linear_system (user_system tool input)).signs
signs_are tool input f n slacks relations signs is_n is_relations is_slacks is_signs =
    is_signs
    ∙ ap₂ (λ k s. given_signs tool k input.sign ++ (replicate s (pos 1) ++ x0_signs (has_x0 tool))) is_n (is_slacks ∙ ap slack_total is_relations ∙ sym (slacks_counted tool input f))

-- and their caps
pub caps_are : (tool : Tool) (input : Input) → AreFitting tool input → (n slacks : ℕ) (relations : List Rel) (caps : List (Option ℕ)) → n ≡ input.mat.cols → relations ≡ given_relations input.mat.rows input.rel → slacks ≡ slack_total relations
    → caps ≡ given_caps n input.cap ++ (replicate slacks None ++ x0_caps (has_x0 tool)) → caps ≡ (linear_system (user_system tool input)).caps
caps_are tool input f n slacks relations caps is_n is_relations is_slacks is_caps =
    is_caps
    ∙ ap₂ (λ k s. given_caps k input.cap ++ (replicate s None ++ x0_caps (has_x0 tool))) is_n (is_slacks ∙ ap slack_total is_relations ∙ sym (slacks_counted tool input f))

one_x0 : (x0 : Bool) → length (x0_signs x0) ≤ 1
one_x0 true = omega arith
one_x0 false = omega arith

x0_known : (x0 : Bool) → All IsSign (x0_signs x0)
x0_known true = All-cons IsSign (pos 1) [] (inl refl) (All-nil IsSign)
x0_known false = All-nil IsSign

no_x0 : (s : ℕ) → replicate {A = Option ℕ} s None ++ [] ≡ replicate (s + 0) None
no_x0 s = append-nil (replicate s None) ∙ ap (λ k. replicate k None) (omega arith)

-- only x0 has a cap among those behind the user's
behind_same : (tool : Tool) (s : ℕ) → replicate s None ++ x0_caps (has_x0 tool) ≡ caps_behind tool (s + length (x0_signs (has_x0 tool)))
behind_same Graver s = no_x0 s
behind_same Hilbert s = no_x0 s
behind_same Zsolve s = let e : s ≡ s + 1 - 1 = omega arith in ap (λ k. replicate k None ++ (Some 1 ∷ [])) e

x0_cap_known : (x0 : Bool) → All IsCap (x0_caps x0)
x0_cap_known true = All-cons IsCap (Some 1) [] (lit≤ tt) (All-nil IsCap)
x0_cap_known false = All-nil IsCap

as_many_x0 : (x0 : Bool) → length (x0_caps x0) ≡ length (x0_signs x0)
as_many_x0 true = refl
as_many_x0 false = refl

module _ (tool : Tool) (U : UserSystem) (a : IsAccepted tool U) where
  width_is : length (linear_system U).signs ≡ length U.signs + (slack_count U.rows + length (x0_signs U.has_x0))
  width_is =
      omega (
        arith,
        length-append U.signs (replicate (slack_count U.rows) (pos 1) ++ x0_signs U.has_x0),
        length-append (replicate (slack_count U.rows) (pos 1)) (x0_signs U.has_x0),
        length-replicate (slack_count U.rows) (pos 1),
      )

  pub first_columns : length U.signs ≤ length (linear_system U).signs
  first_columns = omega (arith, width_is)

  pub most_width : length (linear_system U).signs ≤ 129
  most_width = omega (arith, width_is, few_slacks U.rows, a.most_rows, a.most_columns, one_x0 U.has_x0)

  some_width : 0 < length (linear_system U).signs
  some_width = omega (arith, first_columns, a.some_columns)

  rows_same_width : AllByRecursion (λ w. length w ≡ length (linear_system U).signs) (linear_system U).rows
  rows_same_width = subst (λ n. AllByRecursion (λ w. length w ≡ n) (linear_system U).rows) (sym width_is) (rows_long U.has_x0 U.rows (length U.signs) a.well.rows)

  as_many : length (linear_system U).rows ≡ length U.rows
  as_many = rows_count U.has_x0 U.rows (slack_parts U.rows) (parts_count U.rows)

  pub entries_count : length (cells_from U.has_x0 0 U.rows) ≡ length U.rows * length (linear_system U).signs
  entries_count =
      ap length (cells_are_rows U.has_x0 U.rows) ∙ length-joined (length (linear_system U).signs) (linear_system U).rows rows_same_width ∙ ap (λ m. m * length (linear_system U).signs) as_many

  pub whole_rows : length (cells_from U.has_x0 0 U.rows) % length (linear_system U).signs ≡ 0
  whole_rows = ap (λ k. k % length (linear_system U).signs) entries_count ∙ mul-mod_left (length U.rows) (length (linear_system U).signs)

  pub few_entries : length (cells_from U.has_x0 0 U.rows) ≤ 64 * length (linear_system U).signs
  few_entries = omega (arith, entries_count, mul-le-mul_right (length (linear_system U).signs) a.most_rows)

  pub entries_small : All InRange (cells_from U.has_x0 0 U.rows)
  entries_small = cells_small U.has_x0 0 U.rows a.coefficients a.rights

  pub signs_known : All IsSign (linear_system U).signs
  signs_known =
      All-append IsSign U.signs (replicate (slack_count U.rows) (pos 1) ++ x0_signs U.has_x0) a.signs
      (All-append IsSign (replicate (slack_count U.rows) (pos 1)) (x0_signs U.has_x0) (All-replicate IsSign (slack_count U.rows) (pos 1) (inl refl)) (x0_known U.has_x0))

  pub cap_count : length (linear_system U).caps ≡ length (linear_system U).signs
  cap_count =
      omega (
        arith,
        width_is,
        a.well.caps,
        as_many_x0 U.has_x0,
        length-append U.caps (replicate (slack_count U.rows) None ++ x0_caps U.has_x0),
        length-append (replicate (slack_count U.rows) None) (x0_caps U.has_x0),
        length-replicate {A = Option ℕ} (slack_count U.rows) None,
      )

  pub caps_fit : AreCaps tool (length U.signs) (linear_system U).caps
  caps_fit =
      let s : ℕ = slack_count U.rows in
      let rest : List (Option ℕ) = replicate s None ++ x0_caps U.has_x0 in
      let left : length (linear_system U).caps - length U.signs ≡ s + length (x0_signs U.has_x0) = omega (arith, cap_count, width_is) in
      record {
        known = All-append IsCap U.caps rest a.caps (All-append IsCap (replicate s None) (x0_caps U.has_x0) (All-replicate IsCap s None tt) (x0_cap_known U.has_x0));
        behind = ap (λ n. drop n (U.caps ++ rest)) (sym a.well.caps) ∙ drop-append_seam U.caps rest ∙ ap (λ h. replicate s None ++ x0_caps h) a.x0 ∙ behind_same tool s
            ∙ ap (λ h. caps_behind tool (s + length (x0_signs h))) (sym a.x0) ∙ ap (caps_behind tool) (sym left);
      }

  same_rows : cut_rows (length (cells_from U.has_x0 0 U.rows) / length (linear_system U).signs) (length (linear_system U).signs) (cells_from U.has_x0 0 U.rows) ≡ (linear_system U).rows
  same_rows =
      let w : ℕ = length (linear_system U).signs in
      let count : length (cells_from U.has_x0 0 U.rows) / w ≡ length (linear_system U).rows =
      ap (λ k. k / w) entries_count ∙ mul-div_cancel (length U.rows) {n = w} some_width ∙ sym as_many in
      ap₂ (λ m cells. cut_rows m w cells) count (cells_are_rows U.has_x0 U.rows) ∙ cut_rows-joined w (linear_system U).rows rows_same_width

  -- the system that is built from these signs, caps and entries
  pub built : (n : ℕ) (signs : List ℤ) (caps : List (Option ℕ)) (cells : List ℤ) (w : ℕ) → signs ≡ (linear_system U).signs → caps ≡ (linear_system U).caps → cells ≡ cells_from U.has_x0 0 U.rows → w ≡ length signs
      → entries_system tool n signs caps (length cells / w) cells ≡ record { tool = tool; n = n; equations = linear_system U }
  built n signs caps cells w is_signs is_caps is_cells is_width =
      let whole : List ℤ → List ℤ → ToolSystem = λ s t. entries_system tool n s caps (length t / length s) t in
      let made : List (Option ℕ) → List (List ℤ) → ToolSystem = λ cs rs. record { tool = tool; n = n; equations = record { signs = (linear_system U).signs; caps = cs; rows = rs } } in
      ap (λ k. entries_system tool n signs caps (length cells / k) cells) is_width
      ∙ ap₂ whole is_signs is_cells
      ∙ ap₂ made is_caps same_rows
