-- Solutions of the user's system and vectors that solve the linear system belong to each other one by one, and so do
-- the minimal ones.
use Rattle.std.proofs.Common.{◌≡◌, ◌↔◌, ℕ, List, [], ◌∷◌, ◌++◌, length, take, ap, ap₂, sym, ◌∙◌, subst, append_assoc, Bool, true, false}
use Rattle.std.specs.Prelude.{ℤ}
use Rattle.std.proofs.Math.Seq.{take-append_seam}
use Rattle.std.proofs.lemmas.List.Elements.{length_all_zip}
use Rattle.int_vector.specs.Vectors.{◌⊑◌, IsZero, lex_cmp}
use Rattle.lift_core.specs.Columns.{HasSign, SolutionKind, Homogeneous, Inhomogeneous, Every}
use Rattle.lift_core.specs.Systems.{Solves, IsMinimalSolution}
use Rattle.lift_core.specs.Lists.{IsListOf}
use Rattle.lift_core.specs.Stages.{last}
use Rattle.lift_core.specs.Kinds.{HasX0}
use Rattle.lift_core.specs.Inside.Written.{IsWrittenOf}
use Rattle.lift_core.proofs.Stages.{last-push}
use Rattle.system_shape.specs.Problem.{UserSystem, SolvesUser, differences, x0_entry, full_vector, IsX0, IsUserSolution, IsMinimalForUser, IsOfKind, IsMinimalOfKind}
use Rattle.system_shape.specs.Slacks.{slack_parts, linear_system}
use Rattle.system_shape.specs.Laws.{IsWellFormed, HasKind, x0_in, StandsFor}
use Rattle.system_shape.proofs.Law.{full_solves, is_full, parts_count, rows_count}

-- the entry of a full vector in the column of x0
last-joined : (x s : List ℤ) (c : ℤ) → last (x ++ (s ++ (c ∷ []))) ≡ c
last-joined x s c = ap last (sym (append_assoc x s (c ∷ []))) ∙ last-push (x ++ s) c

x0_is : (x0 : Bool) (x s : List ℤ) (c : ℤ) → IsX0 x0 c → x0_in x0 (x ++ (s ++ x0_entry x0 c)) ≡ c
x0_is true x s c h = last-joined x s c
x0_is false x s c h = sym h

first_is : (n : ℕ) (x rest : List ℤ) → n ≡ length x → take n (x ++ rest) ≡ x
first_is n x rest h = ap (λ k. take k (x ++ rest)) h ∙ take-append_seam x rest

module _ (U : UserSystem) where
  pub x0_of_full : (c : ℤ) (x : List ℤ) → IsUserSolution U c x → x0_in U.has_x0 (full_vector U c x) ≡ c
  x0_of_full c x h = x0_is U.has_x0 x (differences U.rows c x) c h.factor

  pub first_of_full : (c : ℤ) (x : List ℤ) → IsUserSolution U c x → take (length U.signs) (full_vector U c x) ≡ x
  first_of_full c x h = first_is (length U.signs) x (differences U.rows c x ++ x0_entry U.has_x0 c) (length_all_zip HasSign U.signs x h.solves.signs)

  pub one_solution : (c d : ℤ) (x y : List ℤ) → IsUserSolution U c x → IsUserSolution U d y → full_vector U c x ≡ full_vector U d y → (c ≡ d) × (x ≡ y)
  one_solution c d x y h k e =
      (sym (x0_of_full c x h) ∙ ap (x0_in U.has_x0) e ∙ x0_of_full d y k, sym (first_of_full c x h) ∙ ap (take (length U.signs)) e ∙ first_of_full d y k)

  module _ (well : IsWellFormed U) where
    -- what v is the full vector of
    user_of : List ℤ → Type 0
    user_of v = IsUserSolution U (x0_in U.has_x0 v) (take (length U.signs) v) × (v ≡ full_vector U (x0_in U.has_x0 v) (take (length U.signs) v))

    user_from : (v : List ℤ) (c : ℤ) (x : List ℤ) → IsUserSolution U c x → v ≡ full_vector U c x → user_of v
    unfolding user_of
    user_from v c x h e =
        let x0 : c ≡ x0_in U.has_x0 v = sym (ap (x0_in U.has_x0) e ∙ x0_of_full c x h) in
        let first : x ≡ take (length U.signs) v = sym (ap (take (length U.signs)) e ∙ first_of_full c x h) in
        (subst (λ d. IsUserSolution U d (take (length U.signs) v)) x0 (subst (IsUserSolution U c) first h), e ∙ ap₂ (full_vector U) x0 first)

    pub solution_of : (v : List ℤ) → Solves (linear_system U) (length U.rows) v → IsUserSolution U (x0_in U.has_x0 v) (take (length U.signs) v) × (v ≡ full_vector U (x0_in U.has_x0 v) (take (length U.signs) v))
    unfolding user_of
    solution_of v h =
        let f : (c : ℤ) × (x : List ℤ) × IsX0 U.has_x0 c × SolvesUser U c x × (v ≡ full_vector U c x) = is_full U well v h in
        user_from v f.0 f.1 (record { factor = f.2; solves = f.3 }) f.4

    pub solves_full : (c : ℤ) (x : List ℤ) → IsUserSolution U c x → Solves (linear_system U) (length U.rows) (full_vector U c x)
    solves_full c x h = full_solves U well c x h.factor h.solves

    pub one_vector : (c : ℤ) (x v : List ℤ) → StandsFor U c x v ↔ (IsUserSolution U c x × (v ≡ full_vector U c x))
    one_vector c x v = (
      λ s. let f : IsUserSolution U (x0_in U.has_x0 v) (take (length U.signs) v) × (v ≡ full_vector U (x0_in U.has_x0 v) (take (length U.signs) v)) = solution_of v s.solves in
          (subst (λ d. IsUserSolution U d x) (sym s.x0) (subst (IsUserSolution U (x0_in U.has_x0 v)) (sym s.first) f.0), f.1 ∙ ap₂ (full_vector U) (sym s.x0) (sym s.first)),
      λ p. record {
        solves = subst (Solves (linear_system U) (length U.rows)) (sym p.1) (solves_full c x p.0);
        first = sym (ap (take (length U.signs)) p.1 ∙ first_of_full c x p.0);
        x0 = sym (ap (x0_in U.has_x0) p.1 ∙ x0_of_full c x p.0);
      },
    )

    pub first_decide : (v w : List ℤ) → Solves (linear_system U) (length U.rows) v → Solves (linear_system U) (length U.rows) w → take (length U.signs) v ≡ take (length U.signs) w
        → x0_in U.has_x0 v ≡ x0_in U.has_x0 w → v ≡ w
    first_decide v w h k e f = (solution_of v h).1 ∙ ap₂ (full_vector U) f e ∙ sym (solution_of w k).1

    -- ---- minimal ones
    same_count : length (linear_system U).rows ≡ length U.rows
    same_count = rows_count U.has_x0 U.rows (slack_parts U.rows) (parts_count U.rows)

    member_of : (v : List ℤ) → Solves (linear_system U) (length (linear_system U).rows) v → Solves (linear_system U) (length U.rows) v
    member_of v h = subst (λ k. Solves (linear_system U) k v) same_count h

    member_in : (v : List ℤ) → Solves (linear_system U) (length U.rows) v → Solves (linear_system U) (length (linear_system U).rows) v
    member_in v h = subst (λ k. Solves (linear_system U) k v) (sym same_count) h

    minimal_out : (v : List ℤ) → IsMinimalSolution (linear_system U) (length (linear_system U).rows) v → IsMinimalForUser U (x0_in U.has_x0 v) (take (length U.signs) v)
    minimal_out v m =
        let f : IsUserSolution U (x0_in U.has_x0 v) (take (length U.signs) v) × (v ≡ full_vector U (x0_in U.has_x0 v) (take (length U.signs) v)) = solution_of v (member_of v m.member) in
        record {
          solution = f.0;
          nonzero = λ z. m.nonzero (subst IsZero (sym f.1) z);
          least = λ d y s n b.
              one_solution d (x0_in U.has_x0 v) y (take (length U.signs) v) s f.0
              (m.least (full_vector U d y) (member_in (full_vector U d y) (solves_full d y s)) n (subst (λ u. full_vector U d y ⊑ u) (sym f.1) b) ∙ f.1);
        }

    minimal_in : (c : ℤ) (x : List ℤ) → IsMinimalForUser U c x → IsMinimalSolution (linear_system U) (length (linear_system U).rows) (full_vector U c x)
    minimal_in c x m = record {
      member = member_in (full_vector U c x) (solves_full c x m.solution);
      nonzero = m.nonzero;
      least = λ w h n b.
          let f : IsUserSolution U (x0_in U.has_x0 w) (take (length U.signs) w) × (w ≡ full_vector U (x0_in U.has_x0 w) (take (length U.signs) w)) = solution_of w (member_of w h) in
          let same : (x0_in U.has_x0 w ≡ c) × (take (length U.signs) w ≡ x) =
          m.least (x0_in U.has_x0 w) (take (length U.signs) w) f.0 (λ z. n (subst IsZero (sym f.1) z)) (subst (λ u. u ⊑ full_vector U c x) f.1 b) in
          f.1 ∙ ap₂ (full_vector U) same.0 same.1;
    }

    kind_out : (x0 : Bool) (kind : SolutionKind) (v : List ℤ) → HasKind x0 kind → HasX0 kind v → IsOfKind kind (x0_in x0 v)
    kind_out true Homogeneous v k h = h
    kind_out true Inhomogeneous v k h = h
    kind_out x0 Every v k h = tt
    kind_out false Homogeneous v k h = absurd k
    kind_out false Inhomogeneous v k h = absurd k

    kind_in : (x0 : Bool) (kind : SolutionKind) (v : List ℤ) → HasKind x0 kind → IsOfKind kind (x0_in x0 v) → HasX0 kind v
    kind_in true Homogeneous v k h = h
    kind_in true Inhomogeneous v k h = h
    kind_in x0 Every v k h = tt
    kind_in false Homogeneous v k h = absurd k
    kind_in false Inhomogeneous v k h = absurd k

    written_out : (kind : SolutionKind) (x : List ℤ) → HasKind U.has_x0 kind → IsWrittenOf (linear_system U) (length U.signs) kind x → IsMinimalOfKind U kind x
    written_out kind x k w = record {
      c = x0_in U.has_x0 w.solution;
      of_kind = kind_out U.has_x0 kind w.solution k w.x0;
      minimal = subst (IsMinimalForUser U (x0_in U.has_x0 w.solution)) (sym w.is) (minimal_out w.solution w.minimal);
    }

    written_in : (kind : SolutionKind) (x : List ℤ) → HasKind U.has_x0 kind → IsMinimalOfKind U kind x → IsWrittenOf (linear_system U) (length U.signs) kind x
    written_in kind x k w = record {
      solution = full_vector U w.c x;
      minimal = minimal_in w.c x w.minimal;
      x0 = kind_in U.has_x0 kind (full_vector U w.c x) k (subst (IsOfKind kind) (sym (x0_of_full w.c x w.minimal.solution)) w.of_kind);
      is = sym (first_of_full w.c x w.minimal.solution);
    }

    pub written : (n : ℕ) (kind : SolutionKind) (x : List ℤ) → n ≡ length U.signs → HasKind U.has_x0 kind → IsWrittenOf (linear_system U) n kind x ↔ IsMinimalOfKind U kind x
    written n kind x e k = (
      λ w. written_out kind x k (subst (λ m. IsWrittenOf (linear_system U) m kind x) e w),
      λ w. subst (λ m. IsWrittenOf (linear_system U) m kind x) (sym e) (written_in kind x k w),
    )

-- a list has exactly the members of one set where it has exactly those of an equal set
pub same_list : (P Q : List ℤ → Type 0) (rows : List (List ℤ)) → ((x : List ℤ) → P x ↔ Q x) → IsListOf lex_cmp P rows ↔ IsListOf lex_cmp Q rows
same_list P Q rows same = (
  λ l. record { ascending = l.ascending; members = λ x. (λ c. (same x).0 ((l.members x).0 c), λ q. (l.members x).1 ((same x).1 q)) },
  λ l. record { ascending = l.ascending; members = λ x. (λ c. (same x).1 ((l.members x).0 c), λ q. (l.members x).1 ((same x).0 q)) },
)

-- so does a condition on two members
pub same_pairs : (P Q : List ℤ → Type 0) (x y : List ℤ) (R : Type 0) → P x ↔ Q x → P y ↔ Q y → (P x × (P y → R)) ↔ (Q x × (Q y → R))
same_pairs P Q x y R h k = (λ p. (h.0 p.0, λ q. p.1 (k.1 q)), λ p. (h.1 p.0, λ q. p.1 (k.0 q)))
