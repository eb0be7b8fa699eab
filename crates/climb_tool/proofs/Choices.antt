-- The first candidate that helps: of a vector and its negative, and of the rows one after another.
use Rattle.std.proofs.Common.{◌≡◌, ℕ, zero, suc, ◌+◌, ◌<◌, ◌≤◌, List, [], ◌∷◌, ◌++◌, length, get_or, take, drop, refl, ap, sym, ◌∙◌, subst}
use Rattle.std.proofs.Common.{arith, append_assoc, Bool, true, false, None, Some}
use Rattle.std.specs.Prelude.{ℤ, pos, neg_ℤ, int_lt, MatchOption, IfSome, Option, ◌≤ℤ◌, ◌<ℤ◌}
use Rattle.std.specs.List.{AllByRecursion}
use Rattle.std.proofs.lemmas.Int.{ints}
use Rattle.std.proofs.lemmas.List.{drop_more, take_more, take-append-drop}
use Rattle.int_vector.specs.Vectors.{dot, negated, norm}
use Rattle.int_vector.specs.Operations.{add}
use Rattle.system_files.specs.Kernel.{IsKernelRow}
use Rattle.system_files.proofs.Negatives.{dot-negated}
use Rattle.climb_tool.specs.Paths.{IsWithinBounds, Helps, candidates, NoneHelps, IsFirstToHelp, FirstHelp}
use Rattle.std.specs.Borrow.{Bor}
use Rattle.std.specs.Option.{option_map}
use Rattle.climb_tool.specs.declared.candidates.Candidate.{Candidate}
use Rattle.climb_tool.specs.Inside.Turns.{vector_of}
use Rattle.climb_tool.proofs.Entries.{less_true}

-- ---- a vector and its negative
above : (p : ℤ) → pos 0 <ℤ p → p <ℤ pos 0 → ⊥
above p h l = grind (arith, ints)

below : (p : ℤ) → (p ≡ pos 0 → ⊥) → p ≤ℤ pos 0 → p <ℤ pos 0
below p n h = grind (arith, ints)

negative_below : (p : ℤ) → pos 0 <ℤ p → neg_ℤ p <ℤ pos 0
negative_below p h = grind (arith, ints)

not_below : (p : ℤ) → p ≤ℤ pos 0 → neg_ℤ p <ℤ pos 0 → ⊥
not_below p h l = grind (arith, ints)

not_at_zero : (p : ℤ) → p ≡ pos 0 → p <ℤ pos 0 → ⊥
not_at_zero p e l = grind (arith, ints)

at_most_zero : (p : ℤ) → p ≡ pos 0 → p ≤ℤ pos 0
at_most_zero p e = grind (arith, ints)

module _ (upper cost x v : List ℤ) where
  negative_cost : dot cost (negated v) <ℤ pos 0 → neg_ℤ (dot cost v) <ℤ pos 0
  negative_cost h = subst (λ (p : ℤ). p <ℤ pos 0) (dot-negated cost v) h

  pub itself_helps : (dot cost v ≡ pos 0 → ⊥) → dot cost v ≤ℤ pos 0 → IsWithinBounds upper (add x v) → FirstHelp upper cost x (v ∷ negated v ∷ []) (Some v)
  itself_helps n h w =
      record { before = []; after = negated v ∷ []; place = refl; none_before = tt; helps = record { within = w; cheaper = below (dot cost v) n h } }

  pub negative_helps : pos 0 <ℤ dot cost v → IsWithinBounds upper (add x (negated v)) → FirstHelp upper cost x (v ∷ negated v ∷ []) (Some (negated v))
  negative_helps h w = record {
    before = v ∷ [];
    after = [];
    place = refl;
    none_before = (λ k. above (dot cost v) h k.cheaper, tt);
    helps = record { within = w; cheaper = subst (λ (p : ℤ). p <ℤ pos 0) (sym (dot-negated cost v)) (negative_below (dot cost v) h) };
  }

  pub none_at_zero : dot cost v ≡ pos 0 → FirstHelp upper cost x (v ∷ negated v ∷ []) None
  none_at_zero e = (λ k. not_at_zero (dot cost v) e k.cheaper, (λ k. not_below (dot cost v) (at_most_zero (dot cost v) e) (negative_cost k.cheaper), tt))

  pub none_below : dot cost v ≤ℤ pos 0 → (IsWithinBounds upper (add x v) → ⊥) → FirstHelp upper cost x (v ∷ negated v ∷ []) None
  none_below h n = (λ k. n k.within, (λ k. not_below (dot cost v) h (negative_cost k.cheaper), tt))

  pub none_above : pos 0 <ℤ dot cost v → (IsWithinBounds upper (add x (negated v)) → ⊥) → FirstHelp upper cost x (v ∷ negated v ∷ []) None
  none_above h n = (λ k. above (dot cost v) h k.cheaper, (λ k. n k.within, tt))

not_less : (a b : ℤ) → int_lt a b ≡ false → b ≤ℤ a
not_less a b h = grind (arith, ints, h)

neither : (a : ℤ) → int_lt a (pos 0) ≡ false → int_lt (pos 0) a ≡ false → a ≡ pos 0
neither a h k = grind (arith, ints, not_less a (pos 0) h, not_less (pos 0) a k)

negative_nonzero : (a : ℤ) → a <ℤ pos 0 → a ≡ pos 0 → ⊥
negative_nonzero a h e = grind (arith, ints)

negative_at_most : (a : ℤ) → a <ℤ pos 0 → a ≤ℤ pos 0
negative_at_most a h = grind (arith, ints)

first_of_tried : (upper cost x : List ℤ) (vectors : List (List ℤ)) (W : Type 0) (candidate : Candidate) (r : Option Candidate) →
    MatchOption r (W → ⊥) (λ c. (c ≡ candidate) × W) →
    (W → FirstHelp upper cost x vectors (Some (vector_of candidate))) →
    ((W → ⊥) → FirstHelp upper cost x vectors None) → FirstHelp upper cost x vectors (option_map vector_of r)
first_of_tried upper cost x vectors W candidate None h taken left = left h
first_of_tried upper cost x vectors W candidate (Some c) h taken left =
    subst (λ (v : List ℤ). FirstHelp upper cost x vectors (Some v)) (ap vector_of (sym h.0)) (taken h.1)

-- of the two the one whose cost is negative
pub tried_itself : (upper cost x : List ℤ) (v : Bor (List ℤ)) (change : ℤ) (r : Option Candidate) → change ≡ dot cost v.now → int_lt change (pos 0) ≡ true →
    MatchOption r (IsWithinBounds upper (add x v.now) → ⊥) (λ c. (c ≡ record { vector = v; negative = false }) × IsWithinBounds upper (add x v.now)) →
    FirstHelp upper cost x (v.now ∷ negated v.now ∷ []) (option_map vector_of r)
tried_itself upper cost x v change r e f h =
    let l : dot cost v.now <ℤ pos 0 = subst (λ (p : ℤ). p <ℤ pos 0) e (less_true change (pos 0) f) in
    first_of_tried upper cost x (v.now ∷ negated v.now ∷ []) (IsWithinBounds upper (add x v.now)) (record { vector = v; negative = false }) r h
    (itself_helps upper cost x v.now (negative_nonzero (dot cost v.now) l) (negative_at_most (dot cost v.now) l))
    (none_below upper cost x v.now (negative_at_most (dot cost v.now) l))

pub tried_negative : (upper cost x : List ℤ) (v : Bor (List ℤ)) (change : ℤ) (r : Option Candidate) → change ≡ dot cost v.now → int_lt (pos 0) change ≡ true →
    MatchOption r (IsWithinBounds upper (add x (negated v.now)) → ⊥)
    (λ c. (c ≡ record { vector = v; negative = true }) × IsWithinBounds upper (add x (negated v.now))) →
    FirstHelp upper cost x (v.now ∷ negated v.now ∷ []) (option_map vector_of r)
tried_negative upper cost x v change r e f h =
    let l : pos 0 <ℤ dot cost v.now = subst (λ (p : ℤ). pos 0 <ℤ p) e (less_true (pos 0) change f) in
    first_of_tried upper cost x (v.now ∷ negated v.now ∷ []) (IsWithinBounds upper (add x (negated v.now))) (record { vector = v; negative = true }) r h
    (negative_helps upper cost x v.now l)
    (none_above upper cost x v.now l)

pub tried_none : (upper cost x v : List ℤ) (change : ℤ) → change ≡ dot cost v → int_lt change (pos 0) ≡ false →
    int_lt (pos 0) change ≡ false → FirstHelp upper cost x (v ∷ negated v ∷ []) None
tried_none upper cost x v change e f g = none_at_zero upper cost x v (sym e ∙ neither change f g)

pub same_vector : (v : Bor (List ℤ)) (b : Bool) (W : Type 0) (r : Option Candidate) →
    MatchOption r (W → ⊥) (λ c. (c ≡ record { vector = v; negative = b }) × W) → IfSome r (λ c. c.vector.now ≡ v.now)
same_vector v b W None h = tt
same_vector v b W (Some c) h = ap (λ k. k.vector.now) h.0

-- ---- one row after another
candidates-append : (xs ys : List (List ℤ)) → candidates (xs ++ ys) ≡ candidates xs ++ candidates ys
candidates-append [] ys = refl
candidates-append (g ∷ xs) ys = ap (λ r. g ∷ negated g ∷ r) (candidates-append xs ys)

each-append : (P : List ℤ → Type 0) (xs ys : List (List ℤ)) → AllByRecursion P xs → AllByRecursion P ys → AllByRecursion P (xs ++ ys)
each-append P [] ys h k = k
each-append P (x ∷ xs) ys h k = (h.0, each-append P xs ys h.1 k)

module _ (upper cost x : List ℤ) (rows : List (List ℤ)) (i : ℕ) (v : List ℤ) (inside : i < length rows) (is : v ≡ get_or rows i [])
    (none : NoneHelps upper cost x (candidates (take i rows))) where
  pub none_more : FirstHelp upper cost x (v ∷ negated v ∷ []) None → NoneHelps upper cost x (candidates (take (i + 1) rows))
  none_more h =
      let split : candidates (take (i + 1) rows) ≡ candidates (take i rows) ++ (v ∷ negated v ∷ []) =
      ap candidates (take_more rows i [] inside ∙ ap (λ w. take i rows ++ w ∷ []) (sym is)) ∙ candidates-append (take i rows) (v ∷ []) in
      subst (NoneHelps upper cost x) (sym split) (each-append (λ g. Helps upper cost x g → ⊥) (candidates (take i rows)) (v ∷ negated v ∷ []) none h)

  pub first_of_all : (h : List ℤ) → IsFirstToHelp upper cost x (v ∷ negated v ∷ []) h → IsFirstToHelp upper cost x (candidates rows) h
  first_of_all h f =
      let front = candidates (take i rows) in
      let back = candidates (drop (i + 1) rows) in
      let split : candidates rows ≡ front ++ (v ∷ negated v ∷ back) =
      ap candidates (sym (take-append-drop i rows) ∙ ap (λ t. take i rows ++ t) (drop_more rows i [] inside ∙ ap (λ w. w ∷ drop (i + 1) rows) (sym is)))
      ∙ candidates-append (take i rows) (v ∷ drop (i + 1) rows) in
      let middle : v ∷ negated v ∷ back ≡ f.before ++ (h ∷ (f.after ++ back)) =
      ap (λ l. l ++ back) f.place ∙ append_assoc f.before (h ∷ f.after) back in record {
        before = front ++ f.before;
        after = f.after ++ back;
        place = split ∙ ap (λ l. front ++ l) middle ∙ sym (append_assoc front f.before (h ∷ (f.after ++ back)));
        none_before = each-append (λ g. Helps upper cost x g → ⊥) front f.before none f.none_before;
        helps = f.helps;
      }

-- the norm of a row in the kernel
pub row_norm : (rows set : List (List ℤ)) (i : ℕ) (v : List ℤ) → i < length set → v ≡ get_or set i [] →
    AllByRecursion (IsKernelRow rows) set → norm v ≤ 9223372036854775807
row_norm rows [] i v l e h = absurd (omega arith)
row_norm rows (g ∷ set) zero v l e h = subst (λ (w : List ℤ). norm w ≤ 9223372036854775807) (sym e) h.0.small
row_norm rows (g ∷ set) (suc i) v l e h = row_norm rows set i v (omega arith) e h.1
