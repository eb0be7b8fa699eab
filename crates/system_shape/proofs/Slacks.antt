-- The differences of a solution are the differences, and no others.
use Rattle.std.proofs.Common.{◌≡◌, ℕ, List, [], ◌∷◌, length, replicate, map, refl, ap₂, arith}
use Rattle.std.specs.Prelude.{ℤ, pos, negsuc, neg_ℤ, ◌+ℤ◌, ◌-ℤ◌, ◌*ℤ◌, ◌≤ℤ◌}
use Rattle.std.specs.List.{AllZip, AllByRecursion}
use Rattle.std.proofs.lemmas.Int.{ints}
use borrow.Author.Differences.{same_in, same_out}
use Rattle.int_vector.specs.Vectors.{dot}
use Rattle.system_shape.specs.Problem.{Relation, at_most, equal_to, at_least, UserRow, Stands, difference_before, differences}
use Rattle.system_shape.specs.Slacks.{slack_count_of, slack_count, with_part, slack_parts}
use Rattle.system_shape.proofs.Append.{dot-zeros}

-- each slack is at least 0
abbrev pub NotNegative : List ℤ → Type 0
NotNegative s = AllByRecursion (λ y. pos 0 ≤ℤ y) s

module _ (c : ℤ) (x : List ℤ) where
  -- the row's product with x, its part with the differences, and c times the right side add up to 0
  unfoldable pub Holds : List ℤ → UserRow → List ℤ → Type 0
  Holds s r p = dot r.coefficients x +ℤ (dot p s +ℤ neg_ℤ (r.right *ℤ c)) ≡ pos 0

  abbrev pub Stand : UserRow → Type 0
  Stand r = Stands r.relation (dot r.coefficients x) (r.right *ℤ c)

  shift_out : (y : ℤ) (s : List ℤ) (rows : List UserRow) (parts : List (List ℤ)) → AllZip (Holds (y ∷ s)) rows (map (λ p. pos 0 ∷ p) parts) → AllZip (Holds s) rows parts
  unfolding Holds
  shift_out y s [] [] h = tt
  shift_out y s (r ∷ rows) (p ∷ parts) h = (same_in (dot r.coefficients x +ℤ (dot p s +ℤ neg_ℤ (r.right *ℤ c))) (pos 0) (omega (arith, ints, same_out (dot r.coefficients x +ℤ (pos 0 *ℤ y +ℤ dot p s +ℤ neg_ℤ (r.right *ℤ c))) (pos 0) h.0)), shift_out y s rows parts h.1)
  shift_out y s [] (p ∷ parts) h = absurd h
  shift_out y s (r ∷ rows) [] h = absurd h

  shift_in : (y : ℤ) (s : List ℤ) (rows : List UserRow) (parts : List (List ℤ)) → AllZip (Holds s) rows parts → AllZip (Holds (y ∷ s)) rows (map (λ p. pos 0 ∷ p) parts)
  unfolding Holds
  shift_in y s [] [] h = tt
  shift_in y s (r ∷ rows) (p ∷ parts) h = (same_in (dot r.coefficients x +ℤ (pos 0 *ℤ y +ℤ dot p s +ℤ neg_ℤ (r.right *ℤ c))) (pos 0) (omega (arith, ints, same_out (dot r.coefficients x +ℤ (dot p s +ℤ neg_ℤ (r.right *ℤ c))) (pos 0) h.0)), shift_in y s rows parts h.1)
  shift_in y s [] (p ∷ parts) h = absurd h
  shift_in y s (r ∷ rows) [] h = absurd h

  Result : List UserRow → List ℤ → Type 0
  Result rows s = AllByRecursion Stand rows × (s ≡ differences rows c x)

  slack_upper : (p q y z : ℤ) → z ≡ pos 0 → pos 0 ≤ℤ y → p +ℤ (pos 1 *ℤ y +ℤ z +ℤ neg_ℤ q) ≡ pos 0 → (p ≤ℤ q) × (y ≡ q -ℤ p)
  slack_upper p q y z e n h = (omega (arith, ints), same_in y (q -ℤ p) (omega (arith, ints)))

  slack_lower : (p q y z : ℤ) → z ≡ pos 0 → pos 0 ≤ℤ y → p +ℤ (negsuc 0 *ℤ y +ℤ z +ℤ neg_ℤ q) ≡ pos 0 → (q ≤ℤ p) × (y ≡ p -ℤ q)
  slack_lower p q y z e n h = (omega (arith, ints), same_in y (p -ℤ q) (omega (arith, ints)))

  slack_none : (p q z : ℤ) → z ≡ pos 0 → p +ℤ (z +ℤ neg_ℤ q) ≡ pos 0 → p ≡ q
  slack_none p q z e h = same_in p q (omega (arith, ints))

  -- one row, by its relation
  out_step : (k : Relation) (a : List ℤ) (b : ℤ) (rows : List UserRow) (n : ℕ) (parts : List (List ℤ)) (s : List ℤ) → length s ≡ slack_count_of k n → NotNegative s
      → ((t : List ℤ) → length t ≡ n → NotNegative t → AllZip (Holds t) rows parts → Result rows t)
      → AllZip (Holds s) (record { coefficients = a; relation = k; right = b } ∷ rows) (with_part k n parts)
      → (Stands k (dot a x) (b *ℤ c) × AllByRecursion Stand rows) × (s ≡ difference_before k (dot a x) (b *ℤ c) (differences rows c x))
  unfolding Holds Result
  out_step at_most a b rows n parts [] l g rest h = absurd (omega arith)
  out_step at_most a b rows n parts (y ∷ s) l g rest h =
      let r : AllByRecursion Stand rows × (s ≡ differences rows c x) = rest s (omega arith) g.1 (shift_out y s rows parts h.1) in
      let f : (dot a x ≤ℤ (b *ℤ c)) × (y ≡ (b *ℤ c) -ℤ dot a x) = slack_upper (dot a x) (b *ℤ c) y (dot (replicate n (pos 0)) s) (dot-zeros n s) g.0 h.0 in
      ((f.0, r.0), ap₂ (λ w t. w ∷ t) f.1 r.1)
  out_step at_least a b rows n parts [] l g rest h = absurd (omega arith)
  out_step at_least a b rows n parts (y ∷ s) l g rest h =
      let r : AllByRecursion Stand rows × (s ≡ differences rows c x) = rest s (omega arith) g.1 (shift_out y s rows parts h.1) in
      let f : ((b *ℤ c) ≤ℤ dot a x) × (y ≡ dot a x -ℤ (b *ℤ c)) = slack_lower (dot a x) (b *ℤ c) y (dot (replicate n (pos 0)) s) (dot-zeros n s) g.0 h.0 in
      ((f.0, r.0), ap₂ (λ w t. w ∷ t) f.1 r.1)
  out_step equal_to a b rows n parts s l g rest h =
      let r : AllByRecursion Stand rows × (s ≡ differences rows c x) = rest s l g h.1 in
      ((slack_none (dot a x) (b *ℤ c) (dot (replicate n (pos 0)) s) (dot-zeros n s) h.0, r.0), r.1)

  pub slacks_out : (rows : List UserRow) (s : List ℤ) → length s ≡ slack_count rows → NotNegative s → AllZip (Holds s) rows (slack_parts rows) → AllByRecursion Stand rows × (s ≡ differences rows c x)
  unfolding Result
  slacks_out [] [] l g h = (tt, refl)
  slacks_out [] (y ∷ s) l g h = absurd (omega arith)
  slacks_out (r ∷ rows) s l g h = out_step r.relation r.coefficients r.right rows (slack_count rows) (slack_parts rows) s l g (slacks_out rows) h

  -- and the other way round
  upper_holds : (p q z : ℤ) → z ≡ pos 0 → p +ℤ (pos 1 *ℤ (q -ℤ p) +ℤ z +ℤ neg_ℤ q) ≡ pos 0
  upper_holds p q z e = same_in (p +ℤ (pos 1 *ℤ (q -ℤ p) +ℤ z +ℤ neg_ℤ q)) (pos 0) (omega (arith, ints))

  lower_holds : (p q z : ℤ) → z ≡ pos 0 → p +ℤ (negsuc 0 *ℤ (p -ℤ q) +ℤ z +ℤ neg_ℤ q) ≡ pos 0
  lower_holds p q z e = same_in (p +ℤ (negsuc 0 *ℤ (p -ℤ q) +ℤ z +ℤ neg_ℤ q)) (pos 0) (omega (arith, ints))

  none_holds : (p q z : ℤ) → z ≡ pos 0 → p ≡ q → p +ℤ (z +ℤ neg_ℤ q) ≡ pos 0
  none_holds p q z e f = same_in (p +ℤ (z +ℤ neg_ℤ q)) (pos 0) (omega (arith, ints))

  pub record Given (rows : List UserRow) (parts : List (List ℤ)) (n : ℕ) (s : List ℤ) : Type 0 where
    pub long : length s ≡ n
    pub positive : NotNegative s
    pub hold : AllZip (Holds s) rows parts

  in_step : (k : Relation) (a : List ℤ) (b : ℤ) (rows : List UserRow) (n : ℕ) (parts : List (List ℤ)) (s : List ℤ) → Stands k (dot a x) (b *ℤ c) → Given rows parts n s
      → Given (record { coefficients = a; relation = k; right = b } ∷ rows) (with_part k n parts) (slack_count_of k n) (difference_before k (dot a x) (b *ℤ c) s)
  unfolding Holds
  in_step at_most a b rows n parts s t g = record {
    long = omega (arith, g.long);
    positive = (omega (arith, ints), g.positive);
    hold = (upper_holds (dot a x) (b *ℤ c) (dot (replicate n (pos 0)) s) (dot-zeros n s), shift_in ((b *ℤ c) -ℤ dot a x) s rows parts g.hold);
  }
  in_step at_least a b rows n parts s t g = record {
    long = omega (arith, g.long);
    positive = (omega (arith, ints), g.positive);
    hold = (lower_holds (dot a x) (b *ℤ c) (dot (replicate n (pos 0)) s) (dot-zeros n s), shift_in (dot a x -ℤ (b *ℤ c)) s rows parts g.hold);
  }
  in_step equal_to a b rows n parts s t g = record {
    long = g.long;
    positive = g.positive;
    hold = (none_holds (dot a x) (b *ℤ c) (dot (replicate n (pos 0)) s) (dot-zeros n s) t, g.hold);
  }

  pub slacks_in : (rows : List UserRow) → AllByRecursion Stand rows → Given rows (slack_parts rows) (slack_count rows) (differences rows c x)
  slacks_in [] h = record { long = refl; positive = tt; hold = tt }
  slacks_in (r ∷ rows) h = in_step r.relation r.coefficients r.right rows (slack_count rows) (slack_parts rows) (differences rows c x) h.0 (slacks_in rows h.1)
