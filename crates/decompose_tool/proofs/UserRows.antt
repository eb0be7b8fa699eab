-- The user's rows by their places, and files without a fault.
use Rattle.std.proofs.Common.{◌≡◌, ℕ, zero, suc, ◌+◌, ◌*◌, ◌<◌, ◌≤◌, List, [], ◌∷◌, length, get_or, take, drop, refl, ap, ap₂, sym, ◌∙◌, subst, arith, length-take, Option, None, Some, true, false}
use Rattle.std.proofs.lemmas.Bool.{eqb-true}
use Rattle.std.specs.Prelude.{ℤ, pos, nat_abs, ◌*ℤ◌, ◌==◌, ◌↔◌}
use Rattle.std.specs.List.{AllZip}
use Rattle.std.proofs.lemmas.List.{drop_more}
use Rattle.int_vector.specs.Vectors.{dot}
use Rattle.lift_core.specs.Columns.{HasSign, IsCapped}
use Rattle.std.specs.Option.{option_or}
use Rattle.lift_core.specs.declared.Tool.{Tool}
use Rattle.lift_core.proofs.Cells.{length-cut_rows}
use Rattle.mat_files.specs.declared.relations.Rel.{Rel}
use Rattle.mat_files.specs.declared.relations.Rel.TheVariants.{Equal}
use Rattle.system_shape.specs.Problem.{UserRow}
use Rattle.system_shape.specs.Shape.{line_fault, relation_of, user_rows, user_system, given_relations, given_rights, sign_fault, relation_fault, right_fault, cap_fault, shape_fault}
use Rattle.system_shape.specs.declared.files.Input.{Input}
use Rattle.system_shape.specs.declared.faults.ShapeFault.{ShapeFault}
use Rattle.system_files.specs.Kernel.{rows_in}
use Rattle.decompose_tool.specs.Inside.Steps.{IsStanding, no_row}

pub rows_at : (A : List (List ℤ)) (R : List Rel) (B : List ℤ) (m i : ℕ) → length A ≡ m → length R ≡ m → length B ≡ m → i < m →
    get_or (user_rows A R B) i no_row ≡ record { coefficients = get_or A i []; relation = relation_of (get_or R i Equal); right = get_or B i (pos 0) }
rows_at [] R B m i e f g l = absurd (omega arith)
rows_at (a ∷ A) [] B m i e f g l = absurd (omega arith)
rows_at (a ∷ A) (k ∷ R) [] m i e f g l = absurd (omega arith)
rows_at (a ∷ A) (k ∷ R) (b ∷ B) zero i e f g l = absurd (omega arith)
rows_at (a ∷ A) (k ∷ R) (b ∷ B) (suc m) zero e f g l = refl
rows_at (a ∷ A) (k ∷ R) (b ∷ B) (suc m) (suc i) e f g l = rows_at A R B m i (omega arith) (omega arith) (omega arith) (omega arith)

pub rows_count : (A : List (List ℤ)) (R : List Rel) (B : List ℤ) (m : ℕ) → length A ≡ m → length R ≡ m → length B ≡ m → length (user_rows A R B) ≡ m
rows_count [] R B m e f g = e
rows_count (a ∷ A) [] B m e f g = absurd (omega arith)
rows_count (a ∷ A) (k ∷ R) [] m e f g = absurd (omega arith)
rows_count (a ∷ A) (k ∷ R) (b ∷ B) zero e f g = absurd (omega arith)
rows_count (a ∷ A) (k ∷ R) (b ∷ B) (suc m) e f g = ap suc (rows_count A R B m (omega arith) (omega arith) (omega arith))

few_rows : (A : List (List ℤ)) (R : List Rel) (B : List ℤ) → length (user_rows A R B) ≤ length A
few_rows [] R B = omega arith
few_rows (a ∷ A) [] B = omega arith
few_rows (a ∷ A) (k ∷ R) [] = omega arith
few_rows (a ∷ A) (k ∷ R) (b ∷ B) = omega (arith, few_rows A R B)

-- no more of the user's rows than rows of the matrix
pub few_user_rows : (tool : Tool) (input : Input) → length (user_system tool input).rows ≤ input.mat.rows
few_user_rows tool input =
    omega (arith, few_rows (rows_in input.mat) (given_relations input.mat.rows input.rel) (given_rights input.mat.rows input.rhs), length-cut_rows input.mat.rows input.mat.cols input.mat.cells)

-- ---- no fault in all files is none in each
neither : (o p : Option ShapeFault) → option_or o p ≡ None → (o ≡ None) × (p ≡ None)
neither None p e = (refl, e)
neither (Some f) p e = absurd (cc)

pub record HaveNoFault (tool : Tool) (input : Input) : Type 0 where
  pub relations : relation_fault input.mat.rows input.rel ≡ None
  pub rights : right_fault tool input.mat.rows input.rhs ≡ None

pub no_faults : (tool : Tool) (input : Input) → shape_fault tool input ≡ None → HaveNoFault tool input
no_faults tool input e =
    let first = neither (sign_fault tool input.mat.cols input.sign)
    (option_or (relation_fault input.mat.rows input.rel) (option_or (right_fault tool input.mat.rows input.rhs) (cap_fault input.mat.cols input.cap))) e in
    let second = neither (relation_fault input.mat.rows input.rel) (option_or (right_fault tool input.mat.rows input.rhs) (cap_fault input.mat.cols input.cap)) first.1 in
    let third = neither (right_fault tool input.mat.rows input.rhs) (cap_fault input.mat.cols input.cap) second.1 in
    record { relations = second.0; rights = third.0 }

-- a file of one row of m cells
pub line_fits : (r c m : ℕ) (f : ShapeFault) → line_fault r c m f ≡ None → (r ≡ 1) × (c ≡ m)
line_fits r c m f e =
    elim (r == 1) as (λ b. (r == 1) ≡ b → (r ≡ 1) × (c ≡ m)) [
      | false ↦ λ p. absurd (let g : line_fault r c m f ≡ Some f = rw p refl in cc)
      | true ↦ λ p.
          elim (c == m) as (λ b. (c == m) ≡ b → (r ≡ 1) × (c ≡ m)) [
            | false ↦ λ q. absurd (let g : line_fault r c m f ≡ Some f = rw (p, q) refl in cc)
            | true ↦ λ q. (eqb-true r 1 p, eqb-true c m q)
          ] refl
    ] refl

-- how a row stands, from its three parts
pub standing_is : (A : List (List ℤ)) (R : List Rel) (B : List ℤ) (m i : ℕ) (c : ℤ) (x : List ℤ) (k : Rel) (p q b : ℤ) (a : List ℤ) → length A ≡ m → length R ≡ m → length B ≡ m → i < m →
    k ≡ get_or R i Equal → a ≡ get_or A i [] → p ≡ dot a x → b ≡ get_or B i (pos 0) → q ≡ b *ℤ c → nat_abs p ≤ 9223372036854775808 * 9223372036854775807 →
    IsStanding (get_or (user_rows A R B) i no_row) c x (record { relation = k; product = p; right = q })
standing_is A R B m i c x k p q b a e f g l is_k is_a is_p is_b is_q small =
    subst (λ (r : UserRow). IsStanding r c x (record { relation = k; product = p; right = q })) (sym (rows_at A R B m i e f g l))
    (record { relation = ap relation_of is_k; product = is_p ∙ ap (λ v. dot v x) is_a; right = is_q ∙ ap (λ z. z *ℤ c) is_b; small = small })

-- ---- the columns
first_entry : {X Y : Type 0} (P : X → Y → Type 0) (xs : List X) (ys : List Y) (n j : ℕ) (d : X) (e : Y) → j < n → n ≤ length xs → n ≡ length ys →
    AllZip P (drop j (take n xs)) (drop j ys) ↔ (P (get_or xs j d) (get_or ys j e) × AllZip P (drop (j + 1) (take n xs)) (drop (j + 1) ys))
first_entry P xs ys n j d e l m q =
    let long : length (take n xs) ≡ n = omega (arith, length-take n xs) in
    let first : drop j (take n xs) ≡ get_or (take n xs) j d ∷ drop (j + 1) (take n xs) = drop_more (take n xs) j d (omega arith) in
    let second : drop j ys ≡ get_or ys j e ∷ drop (j + 1) ys = drop_more ys j e (omega arith) in
    let at : get_or (take n xs) j d ≡ get_or xs j d = taken_at xs n j d l in
    let both : AllZip P (drop j (take n xs)) (drop j ys) ≡ (P (get_or xs j d) (get_or ys j e) × AllZip P (drop (j + 1) (take n xs)) (drop (j + 1) ys)) =
    ap₂ (AllZip P) first second ∙ ap (λ a. P a (get_or ys j e) × AllZip P (drop (j + 1) (take n xs)) (drop (j + 1) ys)) at in (
      λ h. subst (λ T. T) both h,
      λ h. subst (λ T. T) (sym both) h,
    )
  where
    taken_at : {X : Type 0} (xs : List X) (n j : ℕ) (d : X) → j < n → get_or (take n xs) j d ≡ get_or xs j d
    taken_at [] (suc n) j d l = refl
    taken_at [] zero j d l = absurd (omega arith)
    taken_at (x ∷ xs) zero j d l = absurd (omega arith)
    taken_at (x ∷ xs) (suc n) zero d l = refl
    taken_at (x ∷ xs) (suc n) (suc j) d l = taken_at xs n j d (omega arith)

-- what is left of the columns decides
abbrev pub ColumnsFit : List ℤ → List (Option ℕ) → List ℤ → ℕ → Type 0
ColumnsFit signs caps x j = AllZip HasSign (drop j (take (length x) signs)) (drop j x) × AllZip IsCapped (drop j (take (length x) caps)) (drop j x)

pub column_split : (signs : List ℤ) (caps : List (Option ℕ)) (x : List ℤ) (j : ℕ) → j < length x → length x ≤ length signs → length caps ≡ length signs →
    ColumnsFit signs caps x j ↔ ((HasSign (get_or signs j (pos 0)) (get_or x j (pos 0)) × IsCapped (get_or caps j None) (get_or x j (pos 0))) × ColumnsFit signs caps x (j + 1))
column_split signs caps x j l m e =
    let a = first_entry HasSign signs x (length x) j (pos 0) (pos 0) l m refl in
    let b = first_entry IsCapped caps x (length x) j None (pos 0) l (omega arith) refl in (
      λ h. let p = a.0 h.0 in let q = b.0 h.1 in ((p.0, q.0), (p.1, q.1)),
      λ h. (a.1 ((h.0).0, (h.1).0), b.1 ((h.0).1, (h.1).1)),
    )

pub no_columns_left : (signs : List ℤ) (caps : List (Option ℕ)) (x : List ℤ) → length x ≤ length signs → length caps ≡ length signs → ColumnsFit signs caps x (length x)
no_columns_left signs caps x m e = (none HasSign signs x m, none IsCapped caps x (omega arith))
  where
    none : {X : Type 0} (P : X → ℤ → Type 0) (xs : List X) (ys : List ℤ) → length ys ≤ length xs → AllZip P (drop (length ys) (take (length ys) xs)) (drop (length ys) ys)
    none P [] [] l = tt
    none P (x ∷ xs) [] l = tt
    none P [] (y ∷ ys) l = absurd (omega arith)
    none P (x ∷ xs) (y ∷ ys) l = none P xs ys (omega arith)
