-- The full vector, difference by difference, and its norm.
use Rattle.std.proofs.Common.{◌≡◌, ℕ, zero, suc, ◌+◌, ◌<◌, ◌≤◌, List, [], ◌∷◌, ◌++◌, length, get_or, take, drop, refl, ap, sym, ◌∙◌, subst, arith, Option, None, Some, append_assoc, true, false}
use Rattle.std.specs.Prelude.{IfSome, ℤ, pos, nat_abs, ◌≤ℤ◌, ◌*ℤ◌, ◌-ℤ◌}
use Rattle.std.specs.List.{AllByRecursion}
use Rattle.std.proofs.lemmas.Int.{ints}
use Rattle.std.proofs.lemmas.List.{drop_more}
use Rattle.int_vector.specs.Range.{InRange}
use Rattle.int_vector.specs.Vectors.{dot, norm, largest}
use Rattle.system_shape.specs.Problem.{Relation, at_most, equal_to, at_least, UserRow, Stands, difference_before, differences, x0_entry}
use Rattle.system_shape.specs.Shape.{relation_of}
use Rattle.decompose_tool.specs.declared.rows.Standing.{Standing}
use Rattle.decompose_tool.specs.Inside.Steps.{IsStanding, no_row, in_front, RowsStand}

pub norm-append : (u v : List ℤ) → norm (u ++ v) ≡ norm u + norm v
norm-append [] v = omega arith
norm-append (x ∷ u) v = omega (arith, norm-append u v)

pub norm_range : (v : List ℤ) → norm v ≤ largest → AllByRecursion InRange v
norm_range [] h = tt
norm_range (x ∷ v) h = (omega arith, norm_range v (omega arith))

pub each_at : {X : Type 0} (P : X → Type 0) (xs : List X) (i : ℕ) (d : X) → AllByRecursion P xs → i < length xs → P (get_or xs i d)
each_at P [] i d h l = absurd (omega arith)
each_at P (x ∷ xs) zero d h l = h.0
each_at P (x ∷ xs) (suc i) d h l = each_at P xs i d h.1 (omega arith)

pub each_more : {X : Type 0} (P : X → Type 0) (xs : List X) (i : ℕ) (d : X) → i < length xs → AllByRecursion P (take i xs) → P (get_or xs i d) → AllByRecursion P (take (i + 1) xs)
each_more P [] i d l h p = absurd (omega arith)
each_more P (x ∷ xs) zero d l h p = (p, tt)
each_more P (x ∷ xs) (suc i) d l h p = let e : suc i + 1 ≡ suc (i + 1) = omega arith in rw e (h.0, each_more P xs i d (omega arith) h.1 p)

-- what is left of the rows decides
pub split_stand : (rows : List UserRow) (i : ℕ) (c : ℤ) (x : List ℤ) (s : Standing) → i < length rows → IsStanding (get_or rows i no_row) c x s →
    RowsStand (drop i rows) c x ≡ (Stands (relation_of s.relation) s.product s.right × RowsStand (drop (i + 1) rows) c x)
split_stand rows i c x s l h =
    ap (λ rs. RowsStand rs c x) (drop_more rows i no_row l) ∙ rw (h.relation, h.product, h.right) refl

pub stands_at : (rows : List UserRow) (i : ℕ) (c : ℤ) (x : List ℤ) (s : Standing) → i < length rows → IsStanding (get_or rows i no_row) c x s → RowsStand rows c x →
    Stands (relation_of s.relation) s.product s.right
stands_at rows i c x s l h all =
    let one : Stands (get_or rows i no_row).relation (dot (get_or rows i no_row).coefficients x) ((get_or rows i no_row).right *ℤ c) = each_at (λ r. Stands r.relation (dot r.coefficients x) (r.right *ℤ c)) rows i no_row all l in
    rw (h.relation, h.product, h.right) one

-- ---- the differences
AsDifference : Standing → Option ℤ → Type 0
AsDifference s o = (rest : List ℤ) → difference_before (relation_of s.relation) s.product s.right rest ≡ in_front o rest

pub next_difference : (rows : List UserRow) (i : ℕ) (c : ℤ) (x : List ℤ) (s : Standing) (o : Option ℤ) → i < length rows → IsStanding (get_or rows i no_row) c x s →
    ((rest : List ℤ) → difference_before (relation_of s.relation) s.product s.right rest ≡ in_front o rest) →
    differences (drop i rows) c x ≡ in_front o (differences (drop (i + 1) rows) c x)
next_difference rows i c x s o l h is =
    let rest = differences (drop (i + 1) rows) c x in
    let r = get_or rows i no_row in
    let e : difference_before r.relation (dot r.coefficients x) (r.right *ℤ c) rest ≡ difference_before (relation_of s.relation) s.product s.right rest = rw (h.relation, h.product, h.right) refl in
    ap (λ rs. differences rs c x) (drop_more rows i no_row l) ∙ e ∙ is rest

-- ---- the loop that appends them
append_none : (v : List ℤ) → v ++ [] ≡ v
append_none [] = refl
append_none (x ∷ v) = ap (λ w. x ∷ w) (append_none v)

in_front_of : (o : Option ℤ) (items rest : List ℤ) → items ++ in_front o rest ≡ (items ++ in_front o []) ++ rest
in_front_of None items rest = ap (λ v. v ++ rest) (sym (append_none items))
in_front_of (Some d) items rest = sym (append_assoc items (d ∷ []) rest)

pub next_pushed : (rows : List UserRow) (i : ℕ) (c : ℤ) (x : List ℤ) (s : Standing) (o : Option ℤ) (items new whole : List ℤ) → i < length rows → IsStanding (get_or rows i no_row) c x s →
    ((rest : List ℤ) → difference_before (relation_of s.relation) s.product s.right rest ≡ in_front o rest) → new ≡ items ++ in_front o [] →
    items ++ differences (drop i rows) c x ≡ whole → new ++ differences (drop (i + 1) rows) c x ≡ whole
next_pushed rows i c x s o items new whole l h is e done =
    let rest = differences (drop (i + 1) rows) c x in
    ap (λ t. t ++ rest) e ∙ sym (in_front_of o items rest) ∙ ap (λ t. items ++ t) (sym (next_difference rows i c x s o l h is)) ∙ done

pub too_wide : (rows : List UserRow) (i : ℕ) (c : ℤ) (x : List ℤ) (s : Standing) (o : Option ℤ) (items whole : List ℤ) → i < length rows → IsStanding (get_or rows i no_row) c x s →
    ((rest : List ℤ) → difference_before (relation_of s.relation) s.product s.right rest ≡ in_front o rest) → largest < norm (items ++ in_front o []) →
    items ++ differences (drop i rows) c x ≡ whole → largest < norm whole
too_wide rows i c x s o items whole l h is wide done =
    let rest = differences (drop (i + 1) rows) c x in
    let e : norm ((items ++ in_front o []) ++ rest) ≡ norm whole = ap norm (sym (in_front_of o items rest) ∙ ap (λ t. items ++ t) (sym (next_difference rows i c x s o l h is)) ∙ done) in
    omega (arith, e, norm-append (items ++ in_front o []) rest, wide)

pub one_too_wide : (items : List ℤ) (d : ℤ) → largest < nat_abs d → largest < norm (items ++ d ∷ [])
one_too_wide items d h = omega (arith, norm-append items (d ∷ []), h)

pub none_pushed : (items : List ℤ) → items ≡ items ++ in_front None []
none_pushed items = sym (append_none items)

-- a difference is not negative where the relation holds
by_relation : (k : Relation) (p q d : ℤ) → Stands k p q → difference_before k p q [] ≡ d ∷ [] → pos 0 ≤ℤ d
by_relation at_most p q d h e = let f : q -ℤ p ≡ d = ap (λ l. get_or l 0 (pos 0)) e in subst (λ (z : ℤ). pos 0 ≤ℤ z) f (omega (arith, ints, h))
by_relation equal_to p q d h e = absurd (omega (arith, ap length e))
by_relation at_least p q d h e = let f : p -ℤ q ≡ d = ap (λ l. get_or l 0 (pos 0)) e in subst (λ (z : ℤ). pos 0 ≤ℤ z) f (omega (arith, ints, h))

pub not_negative : (s : Standing) (d : ℤ) → Stands (relation_of s.relation) s.product s.right →
    ((rest : List ℤ) → difference_before (relation_of s.relation) s.product s.right rest ≡ in_front (Some d) rest) → pos 0 ≤ℤ d
not_negative s d h is = by_relation (relation_of s.relation) s.product s.right d h (is [])

pub not_negative_each : (s : Standing) (o : Option ℤ) → Stands (relation_of s.relation) s.product s.right →
    ((rest : List ℤ) → difference_before (relation_of s.relation) s.product s.right rest ≡ in_front o rest) → IfSome o (λ d. pos 0 ≤ℤ d)
not_negative_each s None h is = tt
not_negative_each s (Some d) h is = not_negative s d h is

no_rows : (rows : List UserRow) (i : ℕ) → length rows ≤ i → drop i rows ≡ []
no_rows [] zero l = refl
no_rows [] (suc i) l = refl
no_rows (r ∷ rows) zero l = absurd (omega arith)
no_rows (r ∷ rows) (suc i) l = no_rows rows i (omega arith)

pub all_pushed : (rows : List UserRow) (i : ℕ) (c : ℤ) (x items whole : List ℤ) → length rows ≤ i → items ++ differences (drop i rows) c x ≡ whole → items ≡ whole
all_pushed rows i c x items whole l done =
    sym (append_none items) ∙ ap (λ rs. items ++ differences rs c x) (sym (no_rows rows i l)) ∙ done

pub all_stand : (rows : List UserRow) (i : ℕ) (c : ℤ) (x : List ℤ) → length rows ≤ i → RowsStand (drop i rows) c x
all_stand rows i c x l = subst (λ rs. RowsStand rs c x) (sym (no_rows rows i l)) tt

-- ---- the whole vector
pub x0_appended : (x d items : List ℤ) (c : ℤ) (new : List ℤ) → items ≡ x ++ d → new ≡ items ++ c ∷ [] → new ≡ x ++ (d ++ x0_entry true c)
x0_appended x d items c new e f = f ∙ ap (λ t. t ++ (c ∷ [])) e ∙ append_assoc x d (c ∷ [])

pub no_x0_appended : (x d items : List ℤ) (c : ℤ) → items ≡ x ++ d → items ≡ x ++ (d ++ x0_entry false c)
no_x0_appended x d items c e = e ∙ ap (λ t. x ++ t) (sym (append_none d))

pub wide_before : (x d e : List ℤ) → largest < norm (x ++ d) → largest < norm (x ++ (d ++ e))
wide_before x d e h = omega (arith, norm-append x d, norm-append x (d ++ e), norm-append d e, h)
