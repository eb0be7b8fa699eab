-- The law between the user's system and the linear system, both ways: a row of the linear system, times a full
-- vector, is the user's row times x, plus or minus
-- its slack, minus c times its right side.
use Rattle.std.proofs.Common.{◌≡◌, ℕ, zero, suc, ◌*◌, ◌≤◌, List, [], ◌∷◌, ◌++◌, length, take, map, replicate, refl, ap, sym, ◌∙◌, subst, subst₂, arith, Bool, true, false, None}
use Rattle.std.specs.Prelude.{ℤ, pos, negsuc, neg_ℤ, nat_abs, ◌+ℤ◌, ◌*ℤ◌, ◌≤ℤ◌}
use Rattle.std.specs.List.{AllZip, AllByRecursion}
use Rattle.std.proofs.lemmas.Int.{ints}
use Rattle.std.proofs.lemmas.List.{length-replicate}
use Rattle.std.proofs.lemmas.List.Elements.{length_all_zip}
use Rattle.std.proofs.Math.Seq.{take-length}
use borrow.Author.Differences.{up, down, same_in, same_out, neg_is}
use Rattle.int_vector.specs.Vectors.{dot}
use Rattle.lift_core.specs.Columns.{HasSign, IsCapped}
use Rattle.lift_core.specs.Systems.{Solves}
use Rattle.system_shape.specs.Problem.{Relation, at_most, equal_to, at_least, UserRow, UserSystem, SolvesUser, differences, x0_entry, full_vector, IsX0}
use Rattle.system_shape.specs.Slacks.{slack_count_of, slack_count, with_part, slack_parts, x0_part, rows_with_slacks, x0_signs, x0_caps, linear_system}
use Rattle.system_shape.specs.Laws.{IsWellFormed}
use Rattle.system_shape.proofs.Append.{dot-append, zip_append, zip_parts, Split, zip_split}
use Rattle.system_shape.proofs.Slacks.{NotNegative, Holds, Stand, slacks_out, Given, slacks_in}

-- ---- the parts of the rows
unfoldable pub AreLong : List (List ℤ) → ℕ → Type 0
AreLong parts n = AllByRecursion (λ p. length p ≡ n) parts

long_map : (parts : List (List ℤ)) (n : ℕ) → AreLong parts n → AreLong (map (λ p. pos 0 ∷ p) parts) (suc n)
unfolding AreLong
long_map [] n h = tt
long_map (p ∷ parts) n h = (ap suc h.0, long_map parts n h.1)

long_step : (k : Relation) (n : ℕ) (parts : List (List ℤ)) → AreLong parts n → AreLong (with_part k n parts) (slack_count_of k n)
unfolding AreLong
long_step at_most n parts h = (ap suc (length-replicate n (pos 0)), long_map parts n h)
long_step equal_to n parts h = (length-replicate n (pos 0), h)
long_step at_least n parts h = (ap suc (length-replicate n (pos 0)), long_map parts n h)

pub parts_long : (rows : List UserRow) → AreLong (slack_parts rows) (slack_count rows)
unfolding AreLong
parts_long [] = tt
parts_long (r ∷ rows) = long_step r.relation (slack_count rows) (slack_parts rows) (parts_long rows)

count_map : (parts : List (List ℤ)) → length (map (λ p. pos 0 ∷ p) parts) ≡ length parts
count_map [] = refl
count_map (p ∷ parts) = ap suc (count_map parts)

count_step : (k : Relation) (n : ℕ) (parts : List (List ℤ)) → length (with_part k n parts) ≡ suc (length parts)
count_step at_most n parts = ap suc (count_map parts)
count_step equal_to n parts = refl
count_step at_least n parts = ap suc (count_map parts)

pub parts_count : (rows : List UserRow) → length (slack_parts rows) ≡ length rows
parts_count [] = refl
parts_count (r ∷ rows) = count_step r.relation (slack_count rows) (slack_parts rows) ∙ ap suc (parts_count rows)

pub rows_count : (x0 : Bool) (rows : List UserRow) (parts : List (List ℤ)) → length parts ≡ length rows → length (rows_with_slacks x0 rows parts) ≡ length rows
rows_count x0 [] parts h = refl
rows_count x0 (r ∷ rows) [] h = absurd (omega arith)
rows_count x0 (r ∷ rows) (p ∷ parts) h = ap suc (rows_count x0 rows parts (omega arith))

-- ---- x0
neg-mul : (b c : ℤ) → (neg_ℤ b *ℤ c) +ℤ pos 0 ≡ neg_ℤ (b *ℤ c)
neg-mul b c = same_in ((neg_ℤ b *ℤ c) +ℤ pos 0) (neg_ℤ (b *ℤ c)) (omega (arith, ints, ap (λ n. n * up c) (neg_is b).0, ap (λ n. n * down c) (neg_is b).0, ap (λ n. n * up c) (neg_is b).1, ap (λ n. n * down c) (neg_is b).1))

x0_dot : (x0 : Bool) (r : UserRow) (c : ℤ) → IsX0 x0 c → dot (x0_part x0 r) (x0_entry x0 c) ≡ neg_ℤ (r.right *ℤ c)
x0_dot true r c h = neg-mul r.right c
x0_dot false r c h = rw h (same_in (pos 0) (neg_ℤ (r.right *ℤ pos 0)) (omega (arith, ints)))

module _ (x0 : Bool) (c : ℤ) (is_x0 : IsX0 x0 c) (x s : List ℤ) where
  full_dot : (r : UserRow) (p : List ℤ) → length r.coefficients ≡ length x → length p ≡ length s → dot (r.coefficients ++ (p ++ x0_part x0 r)) (x ++ (s ++ x0_entry x0 c)) ≡ dot r.coefficients x +ℤ (dot p s +ℤ neg_ℤ (r.right *ℤ c))
  full_dot r p l m =
      dot-append r.coefficients x (p ++ x0_part x0 r) (s ++ x0_entry x0 c) l
      ∙ ap (λ t. dot r.coefficients x +ℤ t) (dot-append p s (x0_part x0 r) (x0_entry x0 c) m ∙ ap (λ t. dot p s +ℤ t) (x0_dot x0 r c is_x0))

  rows_out : (rows : List UserRow) (parts : List (List ℤ)) → length parts ≡ length rows → AllByRecursion (λ r. length r.coefficients ≡ length x) rows → AllByRecursion (λ p. length p ≡ length s) parts
      → AllByRecursion (λ w. dot w (x ++ (s ++ x0_entry x0 c)) ≡ pos 0) (rows_with_slacks x0 rows parts) → AllZip (Holds c x s) rows parts
  unfolding Holds
  rows_out [] [] n l m h = tt
  rows_out [] (p ∷ parts) n l m h = absurd (omega arith)
  rows_out (r ∷ rows) [] n l m h = absurd (omega arith)
  rows_out (r ∷ rows) (p ∷ parts) n l m h = (sym (full_dot r p l.0 m.0) ∙ h.0, rows_out rows parts (omega arith) l.1 m.1 h.1)

  rows_in : (rows : List UserRow) (parts : List (List ℤ)) → AllByRecursion (λ r. length r.coefficients ≡ length x) rows → AllByRecursion (λ p. length p ≡ length s) parts
      → AllZip (Holds c x s) rows parts → AllByRecursion (λ w. dot w (x ++ (s ++ x0_entry x0 c)) ≡ pos 0) (rows_with_slacks x0 rows parts)
  unfolding Holds
  rows_in [] [] l m h = tt
  rows_in [] (p ∷ parts) l m h = absurd h
  rows_in (r ∷ rows) [] l m h = absurd h
  rows_in (r ∷ rows) (p ∷ parts) l m h = (full_dot r p l.0 m.0 ∙ h.0, rows_in rows parts l.1 m.1 h.1)

-- ---- signs and caps of the slacks and of x0
ones_in : (n : ℕ) (s : List ℤ) → length s ≡ n → NotNegative s → AllZip HasSign (replicate n (pos 1)) s
ones_in zero [] l h = tt
ones_in (suc n) (y ∷ s) l h = (record { at_least = λ e. h.0; at_most = λ e. absurd (omega (arith, same_out (pos 1) (negsuc 0) e)) }, ones_in n s (omega arith) h.1)
ones_in zero (y ∷ s) l h = absurd (omega arith)
ones_in (suc n) [] l h = absurd (omega arith)

ones_out : (n : ℕ) (s : List ℤ) → AllZip HasSign (replicate n (pos 1)) s → NotNegative s
ones_out zero [] h = tt
ones_out (suc n) (y ∷ s) h = (h.0.at_least refl, ones_out n s h.1)
ones_out zero (y ∷ s) h = absurd h
ones_out (suc n) [] h = absurd h

free_in : (n : ℕ) (s : List ℤ) → length s ≡ n → AllZip IsCapped (replicate n None) s
free_in zero [] l = tt
free_in (suc n) (y ∷ s) l = (tt, free_in n s (omega arith))
free_in zero (y ∷ s) l = absurd (omega arith)
free_in (suc n) [] l = absurd (omega arith)

x0_sign_in : (x0 : Bool) (c : ℤ) → IsX0 x0 c → AllZip HasSign (x0_signs x0) (x0_entry x0 c)
x0_sign_in true c h = (record { at_least = λ e. h.0; at_most = λ e. absurd (omega (arith, same_out (pos 1) (negsuc 0) e)) }, tt)
x0_sign_in false c h = tt

small_x0 : (c : ℤ) → pos 0 ≤ℤ c → c ≤ℤ pos 1 → nat_abs c ≤ 1
small_x0 c h k = omega (arith, ints)

x0_small : (c : ℤ) → nat_abs c ≤ 1 → c ≤ℤ pos 1
x0_small c h = omega (arith, ints)

x0_cap_in : (x0 : Bool) (c : ℤ) → IsX0 x0 c → AllZip IsCapped (x0_caps x0) (x0_entry x0 c)
x0_cap_in true c h = (small_x0 c h.0 h.1, tt)
x0_cap_in false c h = tt

x0_out : (x0 : Bool) (e : List ℤ) → AllZip HasSign (x0_signs x0) e → AllZip IsCapped (x0_caps x0) e → (c : ℤ) × IsX0 x0 c × (e ≡ x0_entry x0 c)
x0_out true [] h k = absurd h
x0_out true (c ∷ []) h k = (c, (h.0.at_least refl, x0_small c k.0), refl)
x0_out true (c ∷ d ∷ e) h k = absurd h.1
x0_out false [] h k = (pos 0, refl, refl)
x0_out false (c ∷ e) h k = absurd h

coefficients_long : (rows : List UserRow) (n m : ℕ) → n ≡ m → AllByRecursion (λ r. length r.coefficients ≡ n) rows → AllByRecursion (λ r. length r.coefficients ≡ m) rows
coefficients_long [] n m e h = tt
coefficients_long (r ∷ rows) n m e h = (h.0 ∙ e, coefficients_long rows n m e h.1)

parts_long_as : (parts : List (List ℤ)) (n m : ℕ) → n ≡ m → AreLong parts n → AllByRecursion (λ p. length p ≡ m) parts
unfolding AreLong
parts_long_as [] n m e h = tt
parts_long_as (p ∷ parts) n m e h = (h.0 ∙ e, parts_long_as parts n m e h.1)

module _ (U : UserSystem) (well : IsWellFormed U) where
  all_rows : take (length U.rows) (linear_system U).rows ≡ (linear_system U).rows
  all_rows = ap (λ n. take n (linear_system U).rows) (sym (rows_count U.has_x0 U.rows (slack_parts U.rows) (parts_count U.rows))) ∙ take-length (linear_system U).rows

  pub full_solves : (c : ℤ) (x : List ℤ) → IsX0 U.has_x0 c → SolvesUser U c x → Solves (linear_system U) (length U.rows) (full_vector U c x)
  full_solves c x x0 h =
      let n : ℕ = slack_count U.rows in
      let g : Given c x U.rows (slack_parts U.rows) n (differences U.rows c x) = slacks_in c x U.rows h.rows in
      let s : List ℤ = differences U.rows c x in
      let lx : length U.signs ≡ length x = length_all_zip HasSign U.signs x h.signs in
      record {
        signs = zip_append HasSign U.signs (replicate n (pos 1) ++ x0_signs U.has_x0) x (s ++ x0_entry U.has_x0 c) h.signs
            (zip_append HasSign (replicate n (pos 1)) (x0_signs U.has_x0) s (x0_entry U.has_x0 c) (ones_in n s g.long g.positive) (x0_sign_in U.has_x0 c x0));
        caps = zip_append IsCapped U.caps (replicate n None ++ x0_caps U.has_x0) x (s ++ x0_entry U.has_x0 c) h.caps
            (zip_append IsCapped (replicate n None) (x0_caps U.has_x0) s (x0_entry U.has_x0 c) (free_in n s g.long) (x0_cap_in U.has_x0 c x0));
        rows = subst (AllByRecursion (λ w. dot w (full_vector U c x) ≡ pos 0)) (sym all_rows)
            (rows_in U.has_x0 c x0 x s U.rows (slack_parts U.rows) (coefficients_long U.rows (length U.signs) (length x) lx well.rows) (parts_long_as (slack_parts U.rows) n (length s) (sym g.long) (parts_long U.rows)) g.hold);
      }

  pub is_full : (v : List ℤ) → Solves (linear_system U) (length U.rows) v → (c : ℤ) × (x : List ℤ) × IsX0 U.has_x0 c × SolvesUser U c x × (v ≡ full_vector U c x)
  is_full v h =
      let n : ℕ = slack_count U.rows in
      let a : Split HasSign U.signs (replicate n (pos 1) ++ x0_signs U.has_x0) v = zip_split HasSign U.signs (replicate n (pos 1) ++ x0_signs U.has_x0) v h.signs in
      let b : Split HasSign (replicate n (pos 1)) (x0_signs U.has_x0) a.back = zip_split HasSign (replicate n (pos 1)) (x0_signs U.has_x0) a.back a.second in
      let x : List ℤ = a.front in
      let s : List ℤ = b.front in
      let e : List ℤ = b.back in
      let lx : length U.signs ≡ length x = length_all_zip HasSign U.signs x a.first in
      let ls : length (replicate n (pos 1)) ≡ length s = length_all_zip HasSign (replicate n (pos 1)) s b.first in
      let long : n ≡ length s = sym (length-replicate n (pos 1)) ∙ ls in
      let is : v ≡ x ++ (s ++ e) = a.is ∙ ap (λ w. x ++ w) b.is in
      let caps : AllZip IsCapped (U.caps ++ (replicate n None ++ x0_caps U.has_x0)) (x ++ (s ++ e)) = subst (AllZip IsCapped (U.caps ++ (replicate n None ++ x0_caps U.has_x0))) is h.caps in
      let p : AllZip IsCapped U.caps x × AllZip IsCapped (replicate n None ++ x0_caps U.has_x0) (s ++ e) = zip_parts IsCapped U.caps (replicate n None ++ x0_caps U.has_x0) x (s ++ e) (well.caps ∙ lx) caps in
      let q : AllZip IsCapped (replicate n None) s × AllZip IsCapped (x0_caps U.has_x0) e = zip_parts IsCapped (replicate n None) (x0_caps U.has_x0) s e (length-replicate n None ∙ long) p.1 in
      let o : (c : ℤ) × IsX0 U.has_x0 c × (e ≡ x0_entry U.has_x0 c) = x0_out U.has_x0 e b.second q.1 in
      let c : ℤ = o.0 in
      let whole : v ≡ x ++ (s ++ x0_entry U.has_x0 c) = is ∙ ap (λ w. x ++ (s ++ w)) o.2 in
      let rows : AllByRecursion (λ w. dot w (x ++ (s ++ x0_entry U.has_x0 c)) ≡ pos 0) (linear_system U).rows = subst₂ (λ (w : List ℤ) (l : List (List ℤ)). AllByRecursion (λ r. dot r w ≡ pos 0) l) whole all_rows h.rows in
      let holds : AllZip (Holds c x s) U.rows (slack_parts U.rows) = rows_out U.has_x0 c o.1 x s U.rows (slack_parts U.rows) (parts_count U.rows) (coefficients_long U.rows (length U.signs) (length x) lx well.rows) (parts_long_as (slack_parts U.rows) n (length s) long (parts_long U.rows)) rows in
      let r : AllByRecursion (Stand c x) U.rows × (s ≡ differences U.rows c x) = slacks_out c x U.rows s (sym long) (ones_out n s b.first) holds in (
        c,
        x,
        o.1,
        record { signs = a.first; caps = p.0; rows = r.0 },
        whole ∙ ap (λ w. x ++ (w ++ x0_entry U.has_x0 c)) r.1,
      )
