-- The places of the rows that pass a test, and lines over each 64 of them, as more rows come.
use Rattle.std.proofs.Common.{◌≡◌, ◌⊎◌, ℕ, zero, suc, ◌+◌, ◌-◌, ◌*◌, ◌/◌, ◌≤◌, ◌<◌, List, [], ◌∷◌, ◌++◌, length, get_or, take, drop, ap, sym, ◌∙◌, subst, subst₂, arith, inl, inr, Bool, true, false, cond, min, length-append, length-drop}
use Rattle.std.specs.Prelude.{ℤ, Result, Ok, Err, OnOk}
use Rattle.std.specs.List.{AllByRecursion}
use Rattle.std.proofs.lemmas.Bool.{cases_Bool, cases_lt, cases_eq}
use Rattle.std.proofs.lemmas.List.{take_more, take_all, append-nil, length-take-le, get_or_append_left, get_or-append-add}
use Rattle.stage_store.specs.declared.table.Group.{Group}
use Rattle.stage_store.specs.Levels.{BarsLine, ReachesLine}
use Rattle.stage_store.proofs.LineBits.{tell_stays, tell_marked}
use Rattle.std.proofs.lemmas.List.{get_or-set_other, length-set}
use Rattle.std.proofs.lemmas.Grind.{get_or-set_at}
use Rattle.std.proofs.Common.{set, max}
use Rattle.stage_store.specs.Lines.{MarksRow}
use Rattle.stage_store.specs.Levels.{AreTrue}
use Rattle.stage_store.specs.Classes.{row_at, places}
use Rattle.std.proofs.lemmas.List.{take-append-drop}
use Rattle.lift_core.specs.Systems.{LinearSystem}
use Rattle.lift_core.specs.ToolSystems.{width}
use Rattle.stage_store.specs.declared.table.Table.{Table}
use Rattle.lift_core.specs.Stages.{stage_norm}
use Rattle.stage_store.specs.Sieve.{AreBetween, IsGroup, AreGroups, IsSized, AreSized, IsTable, IsBefore}

module _ (test : List ℤ → Bool) where
  pub places_append : (b : ℕ) (xs ys : List (List ℤ)) → places test b (xs ++ ys) ≡ places test b xs ++ places test (b + length xs) ys
  places_append b [] ys = ap (λ n. places test n ys) (omega arith)
  places_append b (x ∷ xs) ys =
      let e : b + 1 + length xs ≡ b + length (x ∷ xs) = omega arith in
      let r : places test (b + 1) (xs ++ ys) ≡ places test (b + 1) xs ++ places test (b + length (x ∷ xs)) ys = places_append (b + 1) xs ys ∙ ap (λ n. places test (b + 1) xs ++ places test n ys) e in
      elim (cases_Bool (test x)) [
        | inl t ↦ rw t (ap (λ l. b ∷ l) r)
        | inr t ↦ rw t r
      ]

  last_place : (rows : List (List ℤ)) (i : ℕ) → i < length rows → places test 0 (take (i + 1) rows) ≡ places test 0 (take i rows) ++ places test i (get_or rows i [] ∷ [])
  last_place rows i l =
      let e : 0 + length (take i rows) ≡ i = omega (arith, length-take-le i rows (omega (arith, l))) in
      ap (places test 0) (take_more rows i [] l) ∙ places_append 0 (take i rows) (get_or rows i [] ∷ []) ∙ ap (λ n. places test 0 (take i rows) ++ places test n (get_or rows i [] ∷ [])) e

  pub one_place : (rows : List (List ℤ)) (i : ℕ) (ids new : List ℕ) → i < length rows → test (get_or rows i []) ≡ true → ids ≡ places test 0 (take i rows) → new ≡ ids ++ (i ∷ []) → new ≡ places test 0 (take (i + 1) rows)
  one_place rows i ids new l t e is = is ∙ ap (λ x. x ++ (i ∷ [])) e ∙ sym (last_place rows i l ∙ ap (λ b. places test 0 (take i rows) ++ cond b (i ∷ []) []) t)

  pub no_place : (rows : List (List ℤ)) (i : ℕ) (ids : List ℕ) → i < length rows → test (get_or rows i []) ≡ false → ids ≡ places test 0 (take i rows) → ids ≡ places test 0 (take (i + 1) rows)
  no_place rows i ids l t e = e ∙ sym (last_place rows i l ∙ ap (λ b. places test 0 (take i rows) ++ cond b (i ∷ []) []) t ∙ append-nil (places test 0 (take i rows)))

  -- each place is that of a row, and each row that passes has its place
  pub places_inside : (b : ℕ) (rows : List (List ℤ)) (m : ℕ) → b + length rows ≤ m → AllByRecursion (λ i. i < m) (places test b rows)
  places_inside b [] m l = tt
  places_inside b (x ∷ rows) m l = elim (cases_Bool (test x)) [
    | inl t ↦ rw t (omega (arith, l), places_inside (b + 1) rows m (omega (arith, l)))
    | inr t ↦ rw t (places_inside (b + 1) rows m (omega (arith, l)))
  ]

  pub has_place : (b : ℕ) (rows : List (List ℤ)) (i : ℕ) → i < length rows → test (get_or rows i []) ≡ true → (k : ℕ) × (k < length (places test b rows)) × (get_or (places test b rows) k 0 ≡ b + i)
  has_place b [] i l t = absurd (omega arith)
  has_place b (x ∷ rows) zero l t = rw t (0, omega arith, omega arith)
  has_place b (x ∷ rows) (suc i) l t =
      let r : (k : ℕ) × (k < length (places test (b + 1) rows)) × (get_or (places test (b + 1) rows) k 0 ≡ b + 1 + i) = has_place (b + 1) rows i (omega arith) t in
      elim (cases_Bool (test x)) [
        | inl s ↦ rw s (suc r.0, omega (arith, r.1), r.2 ∙ omega arith)
        | inr s ↦ rw s (r.0, r.1, r.2 ∙ omega arith)
      ]

-- ---- lines
pub group_part : (ids : List ℕ) (group to : ℕ) → group < (length ids + 63) / 64 → to ≡ min (length ids) (64 * group + 64) → take (to - 64 * group) (drop (64 * group) ids) ≡ take 64 (drop (64 * group) ids)
group_part ids group to l e = elim (cases_lt (length ids) (64 * group + 64)) [
  | inl s ↦
      let n : to ≡ length ids = omega (arith, e, s) in
      take_all (to - 64 * group) (drop (64 * group) ids) (omega (arith, length-drop (64 * group) ids, n))
      ∙ sym (take_all 64 (drop (64 * group) ids) (omega (arith, length-drop (64 * group) ids, s)))
  | inr s ↦ let n : to - 64 * group ≡ 64 = omega (arith, e, s) in ap (λ m. take m (drop (64 * group) ids)) n
]

each_taken : {A : Type 0} (P : A → Type 0) (n : ℕ) (xs : List A) → AllByRecursion P xs → AllByRecursion P (take n xs)
each_taken P zero xs h = tt
each_taken P (suc n) [] h = tt
each_taken P (suc n) (x ∷ xs) h = (h.0, each_taken P n xs h.1)

pub each_cut : {A : Type 0} (P : A → Type 0) (n m : ℕ) (xs : List A) → AllByRecursion P xs → AllByRecursion P (take n (drop m xs))
each_cut P n zero xs h = each_taken P n xs h
each_cut P n (suc m) [] h = each_taken P n [] tt
each_cut P n (suc m) (x ∷ xs) h = each_cut P n m xs h.1

-- ---- more rows come
pub places_few : (test : List ℤ → Bool) (b : ℕ) (rows : List (List ℤ)) → length (places test b rows) ≤ length rows
places_few test b [] = omega arith
places_few test b (x ∷ rows) = elim (cases_Bool (test x)) [
  | inl t ↦ rw t (omega (arith, places_few test (b + 1) rows))
  | inr t ↦ rw t (omega (arith, places_few test (b + 1) rows))
]

pub places_grow : (test : List ℤ → Bool) (n : ℕ) (rows : List (List ℤ)) → n ≤ length rows → places test 0 rows ≡ places test 0 (take n rows) ++ places test n (drop n rows)
places_grow test n rows l =
    let e : 0 + length (take n rows) ≡ n = omega (arith, length-take-le n rows l) in
    ap (places test 0) (sym (take-append-drop n rows)) ∙ places_append test 0 (take n rows) (drop n rows) ∙ ap (λ m. places test 0 (take n rows) ++ places test m (drop n rows)) e

-- ---- tables
all_from : {A : Type 0} (P : A → Type 0) (d : A) (xs : List A) → ((k : ℕ) → k < length xs → P (get_or xs k d)) → AllByRecursion P xs
all_from P d [] h = tt
all_from P d (x ∷ xs) h = (h 0 (omega arith), all_from P d xs (λ k l. h (suc k) (omega (arith, l))))

module _ (S : LinearSystem) (listed : List (List ℤ)) where
  pub inside_table : (P : ℕ → Type 0) (n m : ℕ) (t : Table) → ((i : ℕ) → i < length listed → P i → i < m) → IsTable S listed P n t → AllByRecursion (λ i. i < m) t.ids.items
  inside_table P n m t less h = all_from (λ i. i < m) 0 t.ids.items (λ k l. let x = h.inside k l in less (get_or t.ids.items k 0) x.0 x.1)

  -- one row more
  pub table_put : (P Q : ℕ → Type 0) (n i : ℕ) (old new : Table) → i < length listed → Q i → ((x : ℕ) → x < length listed → P x → Q x) → ((x : ℕ) → x < length listed → Q x → P x ⊎ (x ≡ i)) → IsTable S listed P n old
      → new.ids.items ≡ old.ids.items ++ (i ∷ []) → length new.groups.items ≡ (length new.ids.items + 63) / 64 → AreSized (16 * width S) new.groups.items → AreGroups S listed new.ids.items new.groups.items → IsTable S listed Q (n + 1) new
  table_put P Q n i old new l here more cases h ids count sized groups = record {
    inside = λ k kl. elim (cases_lt k (length old.ids.items)) [
      | inl s ↦
          let x = h.inside k s in
          subst (λ (y : ℕ). (y < length listed) × Q y) (sym (at_old k s)) (x.0, more (get_or old.ids.items k 0) x.0 x.1)
      | inr s ↦ subst (λ (y : ℕ). (y < length listed) × Q y) (sym (at_new k s kl)) (l, here)
    ];
    whole = λ x xl q. elim (cases x xl q) [
      | inl p ↦ let y = h.whole x xl p in (y.0, omega (arith, y.1, longer), at_old y.0 y.1 ∙ y.2)
      | inr e ↦ (length old.ids.items, omega (arith, longer), at_new (length old.ids.items) (omega arith) (omega (arith, longer)) ∙ sym e)
    ];
    few = omega (arith, longer, h.few);
    count = count;
    sized = sized;
    groups = groups;
  }
    where
      longer : length new.ids.items ≡ length old.ids.items + 1
      longer = ap length ids ∙ length-append old.ids.items (i ∷ [])

      at_old : (k : ℕ) → k < length old.ids.items → get_or new.ids.items k 0 ≡ get_or old.ids.items k 0
      at_old k s = ap (λ (xs : List ℕ). get_or xs k 0) ids ∙ get_or_append_left old.ids.items (i ∷ []) 0 k s

      at_new : (k : ℕ) → length old.ids.items ≤ k → k < length new.ids.items → get_or new.ids.items k 0 ≡ i
      at_new k s kl =
          let e : k ≡ length old.ids.items + 0 = omega (arith, s, kl, longer) in
          ap (λ (xs : List ℕ). get_or xs k 0) ids ∙ ap (λ (m : ℕ). get_or (old.ids.items ++ (i ∷ [])) m 0) e ∙ get_or-append-add old.ids.items (i ∷ []) 0 0

  -- the same rows
  pub table_as : (P Q : ℕ → Type 0) (n m : ℕ) (t : Table) → n ≤ m → ((x : ℕ) → x < length listed → P x → Q x) → ((x : ℕ) → x < length listed → Q x → P x) → IsTable S listed P n t → IsTable S listed Q m t
  table_as P Q n m t l more less h = record {
    inside = λ k kl. let x = h.inside k kl in (x.0, more (get_or t.ids.items k 0) x.0 x.1);
    whole = λ x xl q. h.whole x xl (less x xl q);
    few = omega (arith, h.few, l);
    count = h.count;
    sized = h.sized;
    groups = h.groups;
  }

  pub no_table : (P : ℕ → Type 0) (n : ℕ) (t : Table) → ((x : ℕ) → P x → ⊥) → t.ids.items ≡ [] → t.groups.items ≡ [] → IsTable S listed P n t
  no_table P n t none e f = record {
    inside = λ k l. absurd (omega (arith, ap length e, l));
    whole = λ x xl p. absurd (none x p);
    few = omega (arith, ap length e);
    count = omega (arith, ap length e, ap length f);
    sized = λ a d l. absurd (omega (arith, ap length f, l));
    groups = λ a d l. absurd (omega (arith, ap length f, l));
  }

  -- one row more that passes the test, and one that does not
  pub before_more : (test : List ℤ → Bool) (i x : ℕ) → IsBefore listed test i x → IsBefore listed test (i + 1) x
  before_more test i x h = (omega (arith, h.0), h.1)

  pub before_cases : (test : List ℤ → Bool) (i x : ℕ) → IsBefore listed test (i + 1) x → IsBefore listed test i x ⊎ (x ≡ i)
  before_cases test i x h = elim (cases_eq x i) [ inl e ↦ inr e | inr d ↦ inl (omega (arith, h.0, d), h.1) ]

  pub table_less : (test : List ℤ → Bool) (i : ℕ) (t : Table) → test (row_at listed i) ≡ false → IsTable S listed (IsBefore listed test i) i t → IsTable S listed (IsBefore listed test (i + 1)) (i + 1) t
  table_less test i t fails h = table_as (IsBefore listed test i) (IsBefore listed test (i + 1)) i (i + 1) t (omega arith) (λ x xl p. before_more test i x p) (λ x xl q. elim (before_cases test i x q) [
    | inl p ↦ p
    | inr e ↦ absurd (not_both (test (row_at listed i)) fails (subst (λ (y : ℕ). test (row_at listed y) ≡ true) e q.1))
  ]) h
    where
      not_both : (b : Bool) → b ≡ false → b ≡ true → ⊥
      not_both b e f = let g : true ≡ false = sym f ∙ e in cc

-- ---- groups
-- a group that is put at its place
pub groups_put : (S : LinearSystem) (listed : List (List ℤ)) (ids : List ℕ) (groups : List Group) (g : Group) → AreGroups S listed ids groups → IsGroup S listed ids (length groups) g → AreGroups S listed ids (groups ++ (g ∷ []))
groups_put S listed ids groups g h here = λ a d l. elim (cases_lt a (length groups)) [
  | inl s ↦ subst (IsGroup S listed ids a) (sym (get_or_append_left groups (g ∷ []) d a s)) (h a d s)
  | inr s ↦
      let at : a ≡ length groups + 0 = omega (arith, l, length-append groups (g ∷ []), s) in
      let e : get_or (groups ++ (g ∷ [])) a d ≡ g = ap (λ m. get_or (groups ++ (g ∷ [])) m d) at ∙ get_or-append-add groups (g ∷ []) 0 d in
      subst₂ (λ (m : ℕ) (x : Group). IsGroup S listed ids m x) (omega (arith, at)) (sym e) here
]

-- the group at a place
pub group_at : (S : LinearSystem) (listed : List (List ℤ)) (ids : List ℕ) (groups : List Group) (a : ℕ) (g : Group) → AreGroups S listed ids groups → a < length groups → g ≡ get_or groups a g → IsGroup S listed ids a g
group_at S listed ids groups a g h l e = subst (IsGroup S listed ids a) (sym e) (h a g l)

pub sized_at : (n : ℕ) (groups : List Group) (a : ℕ) (g : Group) → AreSized n groups → a < length groups → g ≡ get_or groups a g → IsSized n g
sized_at n groups a g h l e = subst (IsSized n) (sym e) (h a g l)

pub sized_put : (n : ℕ) (groups : List Group) (g : Group) → AreSized n groups → IsSized n g → AreSized n (groups ++ (g ∷ []))
sized_put n groups g h here = λ a d l. elim (cases_lt a (length groups)) [
  | inl s ↦ subst (IsSized n) (sym (get_or_append_left groups (g ∷ []) d a s)) (h a d s)
  | inr s ↦
      let at : a ≡ length groups + 0 = omega (arith, l, length-append groups (g ∷ []), s) in
      subst (IsSized n) (sym (ap (λ m. get_or (groups ++ (g ∷ [])) m d) at ∙ get_or-append-add groups (g ∷ []) 0 d)) here
]

pub sized_set : (n : ℕ) (groups : List Group) (b : ℕ) (g : Group) → AreSized n groups → IsSized n g → AreSized n (set groups b g)
sized_set n groups b g h here = λ a d l. elim (cases_eq a b) [
  | inl s ↦ subst (IsSized n) (sym (get_or-set_at groups b a g d s (omega (arith, l, length-set groups b g, s)))) here
  | inr s ↦ subst (IsSized n) (sym (get_or-set_other groups b a g d s)) (h a d (omega (arith, l, length-set groups b g)))
]

-- the norms of a group
pub between_nothing : (listed : List (List ℤ)) (ids : List ℕ) (a least most : ℕ) → length ids ≤ 64 * a → AreBetween listed ids a least most
between_nothing listed ids a least most l = λ r rl inside. absurd (omega (arith, l, inside))

pub between_stays : (listed : List (List ℤ)) (ids : List ℕ) (i a b q least most : ℕ) → length ids ≡ 64 * b + q → q < 64 → (a ≡ b → ⊥) → AreBetween listed ids a least most → AreBetween listed (ids ++ (i ∷ [])) a least most
between_stays listed ids i a b q least most place small other h = λ r rl inside.
    let l : 64 * a + r < length ids = omega (arith, inside, length-append ids (i ∷ []), place, small, rl, other) in
    subst (λ n. (least ≤ stage_norm (row_at listed n)) × (stage_norm (row_at listed n) ≤ most)) (sym (get_or_append_left ids (i ∷ []) 0 (64 * a + r) l)) (h r rl l)

pub between_more : (listed : List (List ℤ)) (ids : List ℕ) (i b q least most norm : ℕ) → length ids ≡ 64 * b + q → norm ≡ stage_norm (row_at listed i) → AreBetween listed ids b least most
    → AreBetween listed (ids ++ (i ∷ [])) b (min least norm) (max most norm)
between_more listed ids i b q least most norm place is h = λ r rl inside. elim (cases_lt (64 * b + r) (length ids)) [
  | inl l ↦
      let t = h r rl l in
      subst (λ n. (min least norm ≤ stage_norm (row_at listed n)) × (stage_norm (row_at listed n) ≤ max most norm)) (sym (get_or_append_left ids (i ∷ []) 0 (64 * b + r) l)) (omega (arith, t.0), omega (arith, t.1))
  | inr s ↦
      let last : 64 * b + r ≡ length ids + 0 = omega (arith, inside, length-append ids (i ∷ []), s) in
      let at : get_or (ids ++ (i ∷ [])) (64 * b + r) 0 ≡ i = ap (λ k. get_or (ids ++ (i ∷ [])) k 0) last ∙ get_or-append-add ids (i ∷ []) 0 0 in
      subst (λ n. (min least norm ≤ stage_norm (row_at listed n)) × (stage_norm (row_at listed n) ≤ max most norm)) (sym at) (omega (arith, is), omega (arith, is))
]

-- the last group with one row more
pub groups_set : (S : LinearSystem) (listed : List (List ℤ)) (ids : List ℕ) (i : ℕ) (groups : List Group) (b q : ℕ) (g : Group) → length ids ≡ 64 * b + q → q < 64 → AreGroups S listed ids groups → IsGroup S listed (ids ++ (i ∷ [])) b g
    → AreGroups S listed (ids ++ (i ∷ [])) (set groups b g)
groups_set S listed ids i groups b q g place small h here = λ a d l. elim (cases_eq a b) [
  | inl s ↦ subst₂ (λ (m : ℕ) (x : Group). IsGroup S listed (ids ++ (i ∷ [])) m x) (sym s) (sym (get_or-set_at groups b a g d s (omega (arith, l, length-set groups b g, s)))) here
  | inr s ↦
      let r : IsGroup S listed ids a (get_or groups a d) = h a d (omega (arith, l, length-set groups b g)) in
      subst (IsGroup S listed (ids ++ (i ∷ [])) a) (sym (get_or-set_other groups b a g d s)) (record {
        bars = tell_stays (BarsLine S listed) listed ids i a (get_or groups a d).bars r.bars;
        reached = tell_stays ReachesLine listed ids i a (get_or groups a d).reached r.reached;
        norms = between_stays listed ids i a b q (get_or groups a d).least (get_or groups a d).most place small s r.norms;
      })
]

-- the last group with a row marked
pub group_marked : (S : LinearSystem) (listed : List (List ℤ)) (ids : List ℕ) (i b q norm : ℕ) (bars reached bars' reached' : List ℕ) (g : Group) → length ids ≡ 64 * b + q → IsSized (8 * length bars) g → length bars ≡ length reached
    → norm ≡ stage_norm (row_at listed i) → AreTrue (BarsLine S listed (row_at listed i)) true bars → AreTrue (ReachesLine (row_at listed i)) false reached → length bars' ≡ length g.bars → length reached' ≡ length g.reached
    → MarksRow true bars q g.bars bars' → MarksRow false reached q g.reached reached' → IsGroup S listed ids b g
    → IsGroup S listed (ids ++ (i ∷ [])) b (record { bars = bars'; reached = reached'; least = min g.least norm; most = max g.most norm })
group_marked S listed ids i b q norm bars reached bars' reached' g place sized same is above under n m marks marks' h = record {
  bars = tell_marked (BarsLine S listed) listed ids i b q true bars g.bars bars' place n marks (λ k l said. above k (omega (arith, l, sized.bars_count)) said) h.bars;
  reached = tell_marked ReachesLine listed ids i b q false reached g.reached reached' place m marks' (λ k l said. under k (omega (arith, l, sized.reached_count, same)) said) h.reached;
  norms = between_more listed ids i b q g.least g.most norm place is h.norms;
}

pub each_less : (m n : ℕ) (ids : List ℕ) → m ≤ n → AllByRecursion (λ i. i < m) ids → AllByRecursion (λ i. i < n) ids
each_less m n [] l h = tt
each_less m n (i ∷ ids) l h = (omega (arith, l, h.0), each_less m n ids l h.1)

pub on_ok_table : {E : Type 0} (S : LinearSystem) (listed : List (List ℤ)) (P Q : ℕ → Type 0) (n i : ℕ) (old new : Table) (r : Result (Unit {0}) E) → i < length listed → Q i → ((x : ℕ) → x < length listed → P x → Q x)
    → ((x : ℕ) → x < length listed → Q x → P x ⊎ (x ≡ i)) → IsTable S listed P n old → OnOk r (new.ids.items ≡ old.ids.items ++ (i ∷ [])) → OnOk r (length new.groups.items ≡ (length new.ids.items + 63) / 64)
    → OnOk r (AreSized (16 * width S) new.groups.items) → OnOk r (AreGroups S listed new.ids.items new.groups.items) → OnOk r (IsTable S listed Q (n + 1) new)
on_ok_table S listed P Q n i old new (Ok u) l here more cases h ids count sized groups = table_put S listed P Q n i old new l here more cases h ids count sized groups
on_ok_table S listed P Q n i old new (Err x) l here more cases h ids count sized groups = tt

pub on_ok_groups : {E : Type 0} (S : LinearSystem) (listed : List (List ℤ)) (i norm : ℕ) (bars reached ids ids' : List ℕ) (groups groups' : List Group) (r : Result (Unit {0}) E)
    → OnOk r ((S : LinearSystem) (listed : List (List ℤ)) → AreGroups S listed ids groups → norm ≡ stage_norm (row_at listed i) → AreTrue (BarsLine S listed (row_at listed i)) true bars → AreTrue (ReachesLine (row_at listed i)) false reached
    → AreGroups S listed ids' groups')
    → AreGroups S listed ids groups → norm ≡ stage_norm (row_at listed i) → AreTrue (BarsLine S listed (row_at listed i)) true bars → AreTrue (ReachesLine (row_at listed i)) false reached → OnOk r (AreGroups S listed ids' groups')
on_ok_groups S listed i norm bars reached ids ids' groups groups' (Ok u) h before is above under = h S listed before is above under
on_ok_groups S listed i norm bars reached ids ids' groups groups' (Err x) h before is above under = tt
