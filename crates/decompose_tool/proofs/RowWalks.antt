-- The walk over the candidates of a row, of the rows one after another, and of the files.
use Rattle.std.proofs.Common.{◌≡◌, ℕ, zero, suc, ◌+◌, ◌<◌, List, [], ◌∷◌, ◌++◌, length, get_or, take, refl, ap, sym, ◌∙◌, subst, subst₂, inl, inr, arith, append_assoc, append-nil, ◌⊎◌}
use Rattle.std.specs.Prelude.{ℤ, pos, ◌↔◌}
use Rattle.int_vector.specs.Vectors.{negated}
use Rattle.lift_core.specs.declared.Tool.{Tool}
use Rattle.lift_core.specs.declared.Tool.TheVariants.{Graver, Hilbert, Zsolve}
use Rattle.system_shape.specs.Problem.{UserSystem, full_vector, IsUserSolution}
use Rattle.system_shape.specs.Slacks.{linear_system}
use Rattle.system_files.specs.Kernel.{rows_in}
use Rattle.system_files.specs.declared.systems.Shaped.{Shaped}
use Rattle.decompose_tool.specs.declared.reading.Sets.{Sets}
use Rattle.decompose_tool.specs.declared.walking.Walk.{Walk}
use Rattle.decompose_tool.specs.Rows.{times_of, point_of, second_part, unless_zero, AreOfRow, AreOfRows}
use Rattle.decompose_tool.specs.Walks.{IsWalk}
use Rattle.decompose_tool.specs.Inside.Steps.{user_of, IsRead, Obeys, IsAllLeft, Walked, WalksOn, GoesOnWhere, GoesOverRow, GoesOverRows, GoesOverParts, cells_of}
use Rattle.decompose_tool.proofs.FullVectors.{no_x0, zero_times}
use Rattle.decompose_tool.proofs.Going.{goes_append}
use Rattle.decompose_tool.proofs.Opposite.{full_negated, opposite}

-- ---- one row
-- a row of hilbert or zsolve
pub plain_row : (tool : Tool) (U : UserSystem) (c : ℤ) (x : List ℤ) (n k : ℕ) (v : List ℤ) (old new : Walk) → (tool ≡ Hilbert) ⊎ (tool ≡ Zsolve) → k ≡ n → v ≡ full_vector U c x →
    WalksOn k (unless_zero v) old new → GoesOverRow n tool U c x old new
plain_row tool U c x n k v old new (inl e) l f h =
    (unless_zero (full_vector U c x), subst (λ (t : Tool). AreOfRow t U c x (unless_zero (full_vector U c x))) (sym e) refl, subst₂ (λ (m : ℕ) (w : List ℤ). WalksOn m (unless_zero w) old new) l f h)
plain_row tool U c x n k v old new (inr e) l f h =
    (unless_zero (full_vector U c x), subst (λ (t : Tool). AreOfRow t U c x (unless_zero (full_vector U c x))) (sym e) refl, subst₂ (λ (m : ℕ) (w : List ℤ). WalksOn m (unless_zero w) old new) l f h)

graver_at_zero : (s : Shaped) (x : List ℤ) (n : ℕ) (v : List ℤ) (old mid new : Walk) → IsRead s → s.system.tool ≡ Graver → IsUserSolution (user_of s) (pos 0) x → v ≡ full_vector (user_of s) (pos 0) x →
    WalksOn n (unless_zero v) old mid → GoesOnWhere (Obeys s.system.equations (negated v)) n (unless_zero (negated v)) mid new → GoesOverRow n Graver (user_of s) (pos 0) x old new
graver_at_zero s x n v old mid new r e h f one two =
    let U = user_of s in
    let u = full_vector U (pos 0) x in
    let first : WalksOn n (unless_zero u) old mid = subst (λ (w : List ℤ). WalksOn n (unless_zero w) old mid) f one in
    let both : Obeys (linear_system U) (negated u) ↔ IsUserSolution U (pos 0) (negated x) = opposite U r.shaped.formed (no_x0 s e) x h in
    let second : GoesOnWhere (Obeys (linear_system U) (negated u)) n (unless_zero (negated u)) mid new =
    subst (λ (w : List ℤ). GoesOnWhere (Obeys (linear_system U) (negated w)) n (unless_zero (negated w)) mid new) f
    (subst (λ t. GoesOnWhere (Obeys t.equations (negated v)) n (unless_zero (negated v)) mid new) r.shaped.is two) in
    elim second [
      | inl k ↦
          let w = full_vector U (pos 0) (negated x) in
          let next : WalksOn n (unless_zero w) mid new = subst (λ (z : List ℤ). WalksOn n (unless_zero z) mid new) (sym (full_negated U x (no_x0 s e))) k.1 in
          (unless_zero u ++ unless_zero w, inl (both.0 k.0, refl), goes_append n (unless_zero u) (unless_zero w) old mid new first next)
      | inr k ↦ (
        unless_zero u,
        inr (λ t. k.0 (both.1 t), refl),
        subst (λ (us : List (List ℤ)). WalksOn n us old new) (append-nil (unless_zero u)) (goes_append n (unless_zero u) [] old mid new first k.1),
      )
    ]

pub graver_row : (s : Shaped) (c : ℤ) (x : List ℤ) (n k : ℕ) (v w : List ℤ) (old mid new : Walk) → IsRead s → s.system.tool ≡ Graver → IsUserSolution (user_of s) c x → k ≡ n →
    v ≡ full_vector (user_of s) c x → w ≡ full_vector (user_of s) c x →
    WalksOn k (unless_zero v) old mid → GoesOnWhere (Obeys s.system.equations (negated w)) k (unless_zero (negated w)) mid new → GoesOverRow n s.system.tool (user_of s) c x old new
graver_row s c x n k v w old mid new r e h l f g one two =
    let z : c ≡ pos 0 = zero_times s c x e h in
    let one' : WalksOn n (unless_zero v) old mid = subst (λ (m : ℕ). WalksOn m (unless_zero v) old mid) l one in
    let same : w ≡ v = g ∙ sym f in
    let two' : GoesOnWhere (Obeys s.system.equations (negated v)) n (unless_zero (negated v)) mid new =
    subst₂ (λ (m : ℕ) (y : List ℤ). GoesOnWhere (Obeys s.system.equations (negated y)) m (unless_zero (negated y)) mid new) l same two in
    subst₂ (λ (t : Tool) (d : ℤ). GoesOverRow n t (user_of s) d x old new) (sym e) (sym z)
    (graver_at_zero s x n v old mid new r e (subst (λ (d : ℤ). IsUserSolution (user_of s) d x) z h) (f ∙ ap (λ d. full_vector (user_of s) d x) z) one' two')

-- ---- the rows
of_rows_more : (tool : Tool) (U : UserSystem) (c : ℤ) (rows : List (List ℤ)) (i : ℕ) (us vs : List (List ℤ)) → i < length rows → AreOfRows tool U c (take i rows) us → AreOfRow tool U c (get_or rows i []) vs →
    AreOfRows tool U c (take (i + 1) rows) (us ++ vs)
of_rows_more tool U c [] i us vs l h k = absurd (omega arith)
of_rows_more tool U c (x ∷ rows) zero us vs l h k = (vs, [], k, refl, ap (λ t. t ++ vs) h ∙ sym (append-nil vs))
of_rows_more tool U c (x ∷ rows) (suc i) us vs l h k =
    let e : suc i + 1 ≡ suc (i + 1) = omega arith in
    let more : AreOfRows tool U c (take (i + 1) rows) (h.1 ++ vs) = of_rows_more tool U c rows i h.1 vs (omega arith) h.3 k in
    let all : AreOfRows tool U c (take (suc (i + 1)) (x ∷ rows)) (us ++ vs) = (h.0, h.1 ++ vs, h.2, more, ap (λ t. t ++ vs) h.4 ∙ append_assoc h.0 h.1 vs) in
    subst (λ (m : ℕ). AreOfRows tool U c (take m (x ∷ rows)) (us ++ vs)) (sym e) all

pub rows_more : (n : ℕ) (tool : Tool) (U : UserSystem) (c : ℤ) (rows : List (List ℤ)) (i : ℕ) (x : List ℤ) (old mid new : Walk) → i < length rows → x ≡ get_or rows i [] →
    GoesOverRows n tool U c (take i rows) old mid → GoesOverRow n tool U c x mid new → GoesOverRows n tool U c (take (i + 1) rows) old new
rows_more n tool U c rows i x old mid new l e h k =
    (h.0 ++ k.0, of_rows_more tool U c rows i h.0 k.0 l h.1 (subst (λ (y : List ℤ). AreOfRow tool U c y k.0) e k.1), goes_append n h.0 k.0 old mid new h.2 k.2)

-- ---- the files
pub walked_of : (s : Shaped) (sets : Sets) (start mid new : Walk) → IsAllLeft (full_vector (user_of s) (times_of s.system.tool) (point_of sets)) start →
    GoesOverRows s.input.mat.cols s.system.tool (user_of s) (times_of s.system.tool) (rows_in sets.first) start mid →
    GoesOverParts s.input.mat.cols s.system.tool (user_of s) (second_part sets.second) mid new → Walked s sets new
walked_of s sets start mid new b h k =
    let g = goes_append s.input.mat.cols h.0 k.0 start mid new h.2 k.2 in record {
      candidates = h.0 ++ k.0;
      terms = g.terms;
      candidates_are = (h.0, k.0, h.1, k.1, refl);
      walk_is = subst (λ (v : List ℤ). IsWalk (h.0 ++ k.0) v g.terms new.rest.items) b.rest g.walk;
      rows = g.rows;
      cells = g.cells ∙ ap (λ t. t ++ cells_of s.input.mat.cols g.terms) b.cells;
      count = omega (arith, g.count, b.terms);
    }
