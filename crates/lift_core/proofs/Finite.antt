-- A set whose members stand in a list has its ascending list.
-- Finite are the elements of a list that pass a test, their images, unions of two such sets and of as many as a list
-- has; insertion puts them in order.
use Rattle.std.proofs.Common.{◌≡◌, List, [], ◌∷◌, ◌++◌, refl, ap, sym, ◌∙◌, subst, inl, inr, ◌⊎◌, Ordering, Less, Equal, Greater}
use Rattle.std.specs.Prelude.{◌↔◌}
use Rattle.std.specs.List.{Contains}
use Rattle.std.specs.List.Sorted.{IsStrictlySortedBy}
use Rattle.std.specs.Cmp.{IsTotalOrder}
use Rattle.std.specs.Ordering.{ordering_reverse}
use Rattle.std.proofs.lemmas.List.Elements.{Contains-append_left, Contains-append_right, Contains-append_cases}
use Rattle.lift_core.specs.Lists.{IsListOf}
use Rattle.lift_core.proofs.Lists.{contains_cases, contains_head, contains_tail, contains_nothing, each_contained, each_from_contained}

-- a list of the members
pub record IsFinite {X : Type 0} (P : X → Type 0) : Type 0 where
  pub elements : List X
  pub members : (x : X) → Contains elements x ↔ P x

pub finite_list : {X : Type 0} (xs : List X) → IsFinite (Contains xs)
finite_list xs = record { elements = xs; members = λ x. (λ c. c, λ c. c) }

pub finite_same : {X : Type 0} (P Q : X → Type 0) → ((x : X) → P x ↔ Q x) → IsFinite P → IsFinite Q
finite_same P Q same p = record { elements = p.elements; members = λ x. (λ c. (same x).0 ((p.members x).0 c), λ q. (p.members x).1 ((same x).1 q)) }

pub finite_either : {X : Type 0} (P Q : X → Type 0) → IsFinite P → IsFinite Q → IsFinite (λ x. P x ⊎ Q x)
finite_either P Q p q = record {
  elements = p.elements ++ q.elements;
  members = λ x. (
    λ c. elim (Contains-append_cases p.elements q.elements x c) [ inl d ↦ inl ((p.members x).0 d) | inr d ↦ inr ((q.members x).0 d) ],
    λ c. elim c [ inl d ↦ Contains-append_left p.elements q.elements x ((p.members x).1 d) | inr d ↦ Contains-append_right p.elements q.elements x ((q.members x).1 d) ],
  );
}

-- the members that pass a test, each turned into an element
module _ {X Y : Type 0} (Q : X → Type 0) (test : (x : X) → Q x ⊎ (Q x → ⊥)) (f : X → Y) where
  pub finite_image : (xs : List X) → IsFinite (λ y. (x : X) × Contains xs x × Q x × (y ≡ f x))
  finite_image [] = record { elements = []; members = λ y. (λ c. absurd (contains_nothing y c), λ m. absurd (contains_nothing m.0 m.1)) }
  finite_image (a ∷ xs) =
      let rest : IsFinite (λ y. (x : X) × Contains xs x × Q x × (y ≡ f x)) = finite_image xs in
      elim (test a) [
        | inl q ↦ record {
          elements = f a ∷ rest.elements;
          members = λ y. (
            λ c. elim (contains_cases (f a) rest.elements y c) [
              | inl e ↦ (a, contains_head a xs, q, sym e)
              | inr d ↦ let m : (x : X) × Contains xs x × Q x × (y ≡ f x) = (rest.members y).0 d in (m.0, contains_tail a xs m.0 m.1, m.2, m.3)
            ],
            λ m. elim (contains_cases a xs m.0 m.1) [
              | inl e ↦ subst (Contains (f a ∷ rest.elements)) (ap f e ∙ sym m.3) (contains_head (f a) rest.elements)
              | inr d ↦ contains_tail (f a) rest.elements y ((rest.members y).1 (m.0, d, m.2, m.3))
            ],
          );
        }
        | inr out ↦ record {
          elements = rest.elements;
          members = λ y. (
            λ c. let m : (x : X) × Contains xs x × Q x × (y ≡ f x) = (rest.members y).0 c in (m.0, contains_tail a xs m.0 m.1, m.2, m.3),
            λ m. elim (contains_cases a xs m.0 m.1) [
              | inl e ↦ absurd (out (subst Q (sym e) m.2))
              | inr d ↦ (rest.members y).1 (m.0, d, m.2, m.3)
            ],
          );
        }
      ]

-- for each element of a list a finite set
module _ {X Y : Type 0} (Q : X → Y → Type 0) (finite : (x : X) → IsFinite (Q x)) where
  pub finite_union : (xs : List X) → IsFinite (λ y. (x : X) × Contains xs x × Q x y)
  finite_union [] = record { elements = []; members = λ y. (λ c. absurd (contains_nothing y c), λ m. absurd (contains_nothing m.0 m.1)) }
  finite_union (a ∷ xs) =
      let rest : IsFinite (λ y. (x : X) × Contains xs x × Q x y) = finite_union xs in
      let here : IsFinite (Q a) = finite a in
      record {
        elements = here.elements ++ rest.elements;
        members = λ y. (
          λ c. elim (Contains-append_cases here.elements rest.elements y c) [
            | inl d ↦ (a, contains_head a xs, (here.members y).0 d)
            | inr d ↦ let m : (x : X) × Contains xs x × Q x y = (rest.members y).0 d in (m.0, contains_tail a xs m.0 m.1, m.2)
          ],
          λ m. elim (contains_cases a xs m.0 m.1) [
            | inl e ↦ Contains-append_left here.elements rest.elements y ((here.members y).1 (subst (λ x. Q x y) (sym e) m.2))
            | inr d ↦ Contains-append_right here.elements rest.elements y ((rest.members y).1 (m.0, d, m.2))
          ],
        );
      }

-- ---- the ascending list
module _ {X : Type 0} (cmp : X → X → Ordering) (total : IsTotalOrder cmp) (same : (x y : X) → cmp x y ≡ Equal → x ≡ y) where
  Inserted : X → List X → Type 0
  Inserted x ys = (zs : List X) × IsListOf cmp (λ z. (x ≡ z) ⊎ Contains ys z) zs

  -- behind the head y, which comes before x
  further : (x y : X) (ys : List X) → IsStrictlySortedBy cmp (y ∷ ys) → cmp x y ≡ Greater → Inserted x ys → Inserted x (y ∷ ys)
  unfolding IsStrictlySortedBy Inserted
  further x y ys s e r =
      let f : cmp y x ≡ Less = total.antisymm y x ∙ ap ordering_reverse e in (
        y ∷ r.0,
        record {
          ascending = (each_from_contained (λ z. cmp y z ≡ Less) r.0 (λ z c. elim ((r.1.members z).0 c) [ inl d ↦ subst (λ w. cmp y w ≡ Less) d f | inr d ↦ each_contained (λ w. cmp y w ≡ Less) ys z s.0 d ]), r.1.ascending);
          members = λ z. (
            λ c. elim (contains_cases y r.0 z c) [
              | inl d ↦ inr (subst (Contains (y ∷ ys)) d (contains_head y ys))
              | inr d ↦ elim ((r.1.members z).0 d) [ inl q ↦ inl q | inr q ↦ inr (contains_tail y ys z q) ]
            ],
            λ m. elim m [
              | inl d ↦ contains_tail y r.0 z ((r.1.members z).1 (inl d))
              | inr d ↦ elim (contains_cases y ys z d) [
                | inl q ↦ subst (Contains (y ∷ r.0)) q (contains_head y r.0)
                | inr q ↦ contains_tail y r.0 z ((r.1.members z).1 (inr q))
              ]
            ],
          );
        },
      )

  -- the list ys with x in its place
  inserted : (x : X) (ys : List X) → IsStrictlySortedBy cmp ys → Inserted x ys
  unfolding IsStrictlySortedBy Inserted
  inserted x [] s = (x ∷ [], record { ascending = (tt, tt); members = λ z. (λ c. elim (contains_cases x [] z c) [ inl e ↦ inl e | inr d ↦ inr d ], λ m. elim m [ inl e ↦ subst (Contains (x ∷ [])) e (contains_head x []) | inr d ↦ absurd (contains_nothing z d) ]) })
  inserted x (y ∷ ys) s = let r : Inserted x ys = inserted x ys s.1 in elim (cmp x y) as (λ o. cmp x y ≡ o → Inserted x (y ∷ ys)) [
    | Less ↦ λ e. (
      x ∷ y ∷ ys,
      record {
        ascending = ((e, each_from_contained (λ z. cmp x z ≡ Less) ys (λ z c. total.trans x y z e (each_contained (λ w. cmp y w ≡ Less) ys z s.0 c))), s);
        members = λ z. (λ c. elim (contains_cases x (y ∷ ys) z c) [ inl d ↦ inl d | inr d ↦ inr d ], λ m. elim m [ inl d ↦ subst (Contains (x ∷ y ∷ ys)) d (contains_head x (y ∷ ys)) | inr d ↦ contains_tail x (y ∷ ys) z d ]);
      },
    )
    | Equal ↦ λ e. (
      y ∷ ys,
      record {
        ascending = s;
        members = λ z. (λ c. inr c, λ m. elim m [ inl d ↦ subst (Contains (y ∷ ys)) (sym (same x y e) ∙ d) (contains_head y ys) | inr d ↦ d ]);
      },
    )
    | Greater ↦ λ e. further x y ys s e r
  ] refl

  pub ascending_list : (xs : List X) → (ys : List X) × IsListOf cmp (Contains xs) ys
  unfolding IsStrictlySortedBy Inserted
  ascending_list [] = ([], record { ascending = tt; members = λ z. (λ c. c, λ c. c) })
  ascending_list (x ∷ xs) =
      let r : (ys : List X) × IsListOf cmp (Contains xs) ys = ascending_list xs in
      let s : (zs : List X) × IsListOf cmp (λ z. (x ≡ z) ⊎ Contains r.0 z) zs = inserted x r.0 r.1.ascending in (
        s.0,
        record {
          ascending = s.1.ascending;
          members = λ z. (
            λ c. elim ((s.1.members z).0 c) [ inl e ↦ subst (Contains (x ∷ xs)) e (contains_head x xs) | inr d ↦ contains_tail x xs z ((r.1.members z).0 d) ],
            λ c. elim (contains_cases x xs z c) [ inl e ↦ (s.1.members z).1 (inl e) | inr d ↦ (s.1.members z).1 (inr ((r.1.members z).1 d)) ],
          );
        },
      )

  -- a finite set has its ascending list
  pub finite_ascending : (P : X → Type 0) → IsFinite P → (ys : List X) × IsListOf cmp P ys
  finite_ascending P p =
      let r : (ys : List X) × IsListOf cmp (Contains p.elements) ys = ascending_list p.elements in
      (r.0, record { ascending = r.1.ascending; members = λ z. (λ c. (p.members z).0 ((r.1.members z).0 c), λ m. (r.1.members z).1 ((p.members z).1 m)) })
