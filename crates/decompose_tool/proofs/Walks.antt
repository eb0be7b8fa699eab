-- What is true of each walk, by recursion on the candidates.
use Rattle.std.proofs.Common.{◌≡◌, ℕ, suc, ◌≤◌, List, [], ◌∷◌, ◌++◌, length, replicate, refl, ap, ap₂, sym, ◌∙◌, subst, subst₂, arith, inl, inr}
use Rattle.std.specs.Prelude.{ℤ, pos, ◌+ℤ◌}
use Rattle.std.proofs.lemmas.Int.{ints}
use Rattle.std.specs.List.{AllByRecursion}
use Rattle.int_vector.specs.Operations.{add, subtract, total}
use Rattle.int_vector.specs.Vectors.{◌⊑◌, IsZero}
use Rattle.int_vector.proofs.Vectors.{below_refl, below_trans, length-below, difference_below, add-subtract}
use Rattle.lift_core.proofs.Totals.{add-assoc, length-zeros}
use Rattle.decompose_tool.specs.Walks.{times, IsMost, Term, IsWalk, multiples, vectors, AreDifferent}
use Rattle.decompose_tool.proofs.Multiples.{times_once, first_below, more_below, zeros-add, length-add}

-- what is left is below where the walk began
pub left_below : (us : List (List ℤ)) (rest : List ℤ) (terms : List Term) (left : List ℤ) → IsWalk us rest terms left → left ⊑ rest
left_below [] rest terms left h = subst (λ (v : List ℤ). left ⊑ v) (sym h.1) (below_refl left)
left_below (u ∷ us) rest terms left (inl h) = left_below us rest terms left h.1
left_below (u ∷ us) rest terms left (inr h) =
    below_trans left (subtract rest (times h.0 u)) rest (left_below us (subtract rest (times h.0 u)) h.1 left h.5) (difference_below (times h.0 u) rest h.3.below)

each_below : (vs : List (List ℤ)) (v w : List ℤ) → v ⊑ w → AllByRecursion (λ u. u ⊑ v) vs → AllByRecursion (λ u. u ⊑ w) vs
each_below [] v w b h = tt
each_below (u ∷ vs) v w b h = (below_trans u v w h.0 b, each_below vs v w b h.1)

pub terms_are_below : (us : List (List ℤ)) (rest : List ℤ) (terms : List Term) (left : List ℤ) → IsWalk us rest terms left → AllByRecursion (λ u. u ⊑ rest) (vectors terms)
terms_are_below [] rest terms left h = subst (λ (ts : List Term). AllByRecursion (λ u. u ⊑ rest) (vectors ts)) (sym h.0) tt
terms_are_below (u ∷ us) rest terms left (inl h) = terms_are_below us rest terms left h.1
terms_are_below (u ∷ us) rest terms left (inr h) =
    let others = each_below (vectors h.1) (subtract rest (times h.0 u)) rest (difference_below (times h.0 u) rest h.3.below) (terms_are_below us (subtract rest (times h.0 u)) h.1 left h.5) in
    subst (λ (ts : List Term). AllByRecursion (λ w. w ⊑ rest) (vectors ts)) (sym h.4) (first_below h.0 u rest h.2 h.3.below, others)

-- what was taken as often as it fits does not fit once more
no_more : (c : ℕ) (u rest : List ℤ) → IsMost u rest c → u ⊑ subtract rest (times c u) → ⊥
no_more c u rest m b = let l : suc c ≤ c = m.most (suc c) (more_below c u rest m.below b) in omega arith

none_again : (c : ℕ) (u rest : List ℤ) (vs : List (List ℤ)) → IsMost u rest c → AllByRecursion (λ w. w ⊑ subtract rest (times c u)) vs → AllByRecursion (λ w. u ≡ w → ⊥) vs
none_again c u rest [] m h = tt
none_again c u rest (w ∷ vs) m h =
    (λ e. no_more c u rest m (subst (λ (v : List ℤ). v ⊑ subtract rest (times c u)) (sym e) h.0), none_again c u rest vs m h.1)

pub terms_differ : (us : List (List ℤ)) (rest : List ℤ) (terms : List Term) (left : List ℤ) → IsWalk us rest terms left → AreDifferent (vectors terms)
terms_differ [] rest terms left h = subst (λ (ts : List Term). AreDifferent (vectors ts)) (sym h.0) tt
terms_differ (u ∷ us) rest terms left (inl h) = terms_differ us rest terms left h.1
terms_differ (u ∷ us) rest terms left (inr h) =
    let later = terms_are_below us (subtract rest (times h.0 u)) h.1 left h.5 in
    subst (λ (ts : List Term). AreDifferent (vectors ts)) (sym h.4) (none_again h.0 u rest (vectors h.1) h.3 later, terms_differ us (subtract rest (times h.0 u)) h.1 left h.5)

pub nothing_fits : (us : List (List ℤ)) (rest : List ℤ) (terms : List Term) (left : List ℤ) → IsWalk us rest terms left → AllByRecursion (λ u. u ⊑ left → ⊥) us
nothing_fits [] rest terms left h = tt
nothing_fits (u ∷ us) rest terms left (inl h) = (
  λ b.
      let fits : times 1 u ⊑ rest = subst (λ (v : List ℤ). v ⊑ rest) (sym (times_once u)) (below_trans u left rest b (left_below us rest terms left h.1)) in
      let l : 1 ≤ 0 = h.0.most 1 fits in omega arith,
  nothing_fits us rest terms left h.1,
)
nothing_fits (u ∷ us) rest terms left (inr h) = (
  λ b. no_more h.0 u rest h.3 (below_trans u left (subtract rest (times h.0 u)) b (left_below us (subtract rest (times h.0 u)) h.1 left h.5)),
  nothing_fits us (subtract rest (times h.0 u)) h.1 left h.5,
)

-- ---- the sum
long : (n : ℕ) (us : List (List ℤ)) (rest : List ℤ) (terms : List Term) (left : List ℤ) → length rest ≡ n → IsWalk us rest terms left → length (total n (multiples terms)) ≡ n
long n [] rest terms left e h = subst (λ (ts : List Term). length (total n (multiples ts)) ≡ n) (sym h.0) (length-zeros n)
long n (u ∷ us) rest terms left e (inl h) = long n us rest terms left e h.1
long n (u ∷ us) rest terms left e (inr h) =
    let l : length (times h.0 u) ≡ n = length-below (times h.0 u) rest h.3.below ∙ e in
    let s : length (subtract rest (times h.0 u)) ≡ n = length-below (subtract rest (times h.0 u)) rest (difference_below (times h.0 u) rest h.3.below) ∙ e in
    let r : length (total n (multiples h.1)) ≡ n = long n us (subtract rest (times h.0 u)) h.1 left s h.5 in
    subst (λ (ts : List Term). length (total n (multiples ts)) ≡ n) (sym h.4) (length-add (times h.0 u) (total n (multiples h.1)) (l ∙ sym r) ∙ r)

adds_up : (n : ℕ) (us : List (List ℤ)) (rest : List ℤ) (terms : List Term) (left : List ℤ) → length rest ≡ n → IsWalk us rest terms left → add (total n (multiples terms)) left ≡ rest
adds_up n [] rest terms left e h =
    subst (λ (ts : List Term). add (total n (multiples ts)) left ≡ rest) (sym h.0)
    (ap (λ k. add (replicate k (pos 0)) left) (sym e ∙ ap length h.1) ∙ zeros-add left ∙ sym h.1)
adds_up n (u ∷ us) rest terms left e (inl h) = adds_up n us rest terms left e h.1
adds_up n (u ∷ us) rest terms left e (inr h) =
    let taken = times h.0 u in
    let other = subtract rest taken in
    let l : length taken ≡ n = length-below taken rest h.3.below ∙ e in
    let s : length other ≡ n = length-below other rest (difference_below taken rest h.3.below) ∙ e in
    let r : length (total n (multiples h.1)) ≡ n = long n us other h.1 left s h.5 in
    let k : length left ≡ n = length-below left other (left_below us other h.1 left h.5) ∙ s in
    subst (λ (ts : List Term). add (total n (multiples ts)) left ≡ rest) (sym h.4)
    (add-assoc taken (total n (multiples h.1)) left (l ∙ sym k) (r ∙ sym k) ∙ ap (add taken) (adds_up n us other h.1 left s h.5) ∙ add-subtract taken rest (l ∙ sym e))

pub walks_add_up : (us : List (List ℤ)) (v : List ℤ) (terms : List Term) (left : List ℤ) → IsWalk us v terms left → add (total (length v) (multiples terms)) left ≡ v
walks_add_up us v terms left h = adds_up (length v) us v terms left refl h

plus_zero : (x : ℤ) → x +ℤ pos 0 ≡ x
plus_zero x = omega (arith, ints)

-- ---- one walk after another
pub walk_append : (us vs : List (List ℤ)) (rest mid left : List ℤ) (terms more : List Term) → IsWalk us rest terms mid → IsWalk vs mid more left → IsWalk (us ++ vs) rest (terms ++ more) left
walk_append [] vs rest mid left terms more h k =
    subst₂ (λ (ts : List Term) (r : List ℤ). IsWalk vs r (ts ++ more) left) (sym h.0) (sym h.1) k
walk_append (u ∷ us) vs rest mid left terms more (inl h) k = inl (h.0, walk_append us vs rest mid left terms more h.1 k)
walk_append (u ∷ us) vs rest mid left terms more (inr h) k =
    inr (h.0, h.1 ++ more, h.2, h.3, ap (λ (ts : List Term). ts ++ more) h.4, walk_append us vs (subtract rest (times h.0 u)) mid left h.1 more h.5 k)

-- ---- one walk alone
same_most : (u rest : List ℤ) (c d : ℕ) → IsMost u rest c → IsMost u rest d → c ≡ d
same_most u rest c d m k = let l : c ≤ d = k.most c m.below in let n : d ≤ c = m.most d k.below in omega arith

not_both : (u rest : List ℤ) (c : ℕ) → IsMost u rest 0 → 1 ≤ c → IsMost u rest c → ⊥
not_both u rest c m l k = let e : 0 ≡ c = same_most u rest 0 c m k in omega arith

pub one_walk : (us : List (List ℤ)) (v left left' : List ℤ) (terms terms' : List Term) → IsWalk us v terms left → IsWalk us v terms' left' → (terms ≡ terms') × (left ≡ left')
one_walk [] v left left' terms terms' h k = (h.0 ∙ sym k.0, sym h.1 ∙ k.1)
one_walk (u ∷ us) v left left' terms terms' (inl h) (inl k) = one_walk us v left left' terms terms' h.1 k.1
one_walk (u ∷ us) v left left' terms terms' (inl h) (inr k) = absurd (not_both u v k.0 h.0 k.2 k.3)
one_walk (u ∷ us) v left left' terms terms' (inr h) (inl k) = absurd (not_both u v h.0 k.0 h.2 h.3)
one_walk (u ∷ us) v left left' terms terms' (inr h) (inr k) =
    let e : h.0 ≡ k.0 = same_most u v h.0 k.0 h.3 k.3 in
    let moved : IsWalk us (subtract v (times h.0 u)) k.1 left' = subst (λ (c : ℕ). IsWalk us (subtract v (times c u)) k.1 left') (sym e) k.5 in
    let o = one_walk us (subtract v (times h.0 u)) left left' h.1 k.1 h.5 moved in
    (h.4 ∙ ap₂ (λ (c : ℕ) (ts : List Term). record { count = c; vector = u } ∷ ts) e o.0 ∙ sym k.4, o.1)

-- where nothing is left, the terms add up to where the walk began
zero_right : (u v : List ℤ) → length u ≡ length v → IsZero v → add u v ≡ u
zero_right [] [] e z = refl
zero_right (x ∷ u) (y ∷ v) e z = ap₂ (λ a w. a ∷ w) (ap (λ b. x +ℤ b) z.0 ∙ plus_zero x) (zero_right u v (omega arith) z.1)
zero_right [] (y ∷ v) e z = absurd (omega arith)
zero_right (x ∷ u) [] e z = absurd (omega arith)

pub whole_sum : (us : List (List ℤ)) (v : List ℤ) (terms : List Term) (left : List ℤ) → IsWalk us v terms left → IsZero left → total (length v) (multiples terms) ≡ v
whole_sum us v terms left h z =
    sym (zero_right (total (length v) (multiples terms)) left (long (length v) us v terms left refl h ∙ sym (length-below left v (left_below us v terms left h))) z)
    ∙ walks_add_up us v terms left h
