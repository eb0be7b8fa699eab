-- The stage after a norm is closed: it is a stage, with the classes of its rows, and it is what `publish` promises.
use Rattle.std.proofs.Common.{◌≡◌, ℕ, ◌+◌, ◌^◌, ◌≤◌, ◌<◌, List, [], ◌∷◌, ◌++◌, length, get_or, drop, refl, ap, ap₂, sym, ◌∙◌, subst, subst₂, arith, inl, inr, Bool, true, false, not, eqb, length-append, length-drop}
use Rattle.std.specs.Prelude.{ℤ}
use Rattle.std.specs.List.{Contains, AllByRecursion, filter}
use Rattle.std.proofs.lemmas.Bool.{cases_Bool, eqb-false, eq-eqb, not-true}
use Rattle.std.proofs.lemmas.List.{drop-drop}
use Rattle.std.proofs.lemmas.List.Elements.{Contains-append_cases}
use Rattle.lift_core.specs.Systems.{LinearSystem, ToolSystem}
use Rattle.lift_core.specs.Stages.{stage_norm, has_positive_last, has_negative_last, pairs_within, IsNextNorm, IsListed, IsWaiting, AreUsed}
use Rattle.lift_core.specs.Walks.{still_waiting, used_up_to}
use Rattle.int_vector.specs.Vectors.{largest}
use Rattle.lift_core.proofs.Lists.{contains_cases, contains_nothing, each_contained}
use Rattle.lift_core.proofs.Orders.{from_filter}
use Rattle.lift_core.proofs.Places.{grown_listed, still_waits, used_next}
use Rattle.row_pool.specs.Rows.{PoolValue}
use Rattle.reduce_tree.specs.Tree.{TreeValue}
use Rattle.stage_store.specs.Indexed.{HoldsRows}
use Rattle.stage_store.specs.Classes.{ClassValue, AreClasses, with_class, pairs_of}
use Rattle.stage_store.specs.Stage.{StageValue, IsStage, IsStageRow, IsDefined, used_of}
use Rattle.stage_store.specs.Fields.{Holds}
use Rattle.stage_store.specs.Sieve.{IsSieve}
use Rattle.stage_store.specs.declared.sieve.Sieve.{Sieve}
use Rattle.stage_store.specs.declared.opened.Opened.{Opened}
use Rattle.stage_store.specs.declared.stage.Following.{Following}
use Rattle.stage_store.specs.declared.tally.Tally.{Tally}
use Rattle.stage_store.specs.Tallies.{IsInRange, HasGained, IsTally}
use Rattle.stage_store.proofs.Tallies.{tally_grown, positive_norms}
use Rattle.stage_store.proofs.MoreRows.{ids_after, sieve_after, unknown}
use Rattle.stage_store.specs.Published.{IsGrowth, IsPublished, IsFurther}
use Rattle.stage_store.specs.declared.stage.Growth.{Growth}
use Rattle.stage_store.proofs.StageFields.{norms_within}
use Rattle.stage_store.proofs.Classes.{get_or-default}
use Rattle.stage_store.proofs.Publish.{more_classes}
use Rattle.stage_store.proofs.Closing.{after, next_stage}
use Rattle.stage_store.proofs.FirstWaiting.{ascends_drop, waits_at_least}
use Rattle.stage_store.proofs.Used.{used_to_next, pairs_to_next, pairs_after}
use Rattle.stage_store.proofs.Numbering.{numbered}

-- the classes are of norms below e
pub class_below : (listed : List (List ℤ)) (test : List ℤ → Bool) (cs : List ClassValue) (d e : ℕ) → d < e → AreClasses listed test cs → AllByRecursion (λ z. stage_norm z ≤ d) listed → (b : ClassValue) → Contains cs b → b.norm < e
class_below listed test cs d e l h norms b c =
    let is : (get_or cs c.0 (record { norm = 0; ids = [] })).norm ≡ b.norm = ap (λ (x : ClassValue). x.norm) (get_or-default cs c.0 (record { norm = 0; ids = [] }) b c.1 ∙ c.2) in
    omega (arith, l, is, norms_within listed test cs d h norms c.0 c.1)

module _ (s : StageValue) (e limit : ℕ) (g : Growth) (h : IsStage s) (next : IsNextNorm s.listed s.waiting s.norm e) (small : e ≤ largest) (most : limit ≤ 2 ^ 21) (growth : IsGrowth s e limit g) where
  still_above : (z : List ℤ) → Contains (drop g.taken s.waiting) z → Contains s.waiting z × (e < stage_norm z)
  still_above z c =
      let f : Contains s.waiting z × (not (eqb (stage_norm z) e) ≡ true) = from_filter (λ z. not (eqb (stage_norm z) e)) s.waiting z (subst (λ (l : List (List ℤ)). Contains l z) growth.still c) in
      let d : stage_norm z ≡ e → ⊥ = eqb-false (stage_norm z) e (not-true (eqb (stage_norm z) e) f.1) in
      (f.0, omega (arith, waits_at_least s e h next z f.0, d))

  pub stage_after : IsStage (after s e (s.listed ++ g.rows.rows) (drop g.taken s.waiting))
  stage_after = next_stage s e (s.listed ++ g.rows.rows) (drop g.taken s.waiting) h next small growth.grown
      (omega (arith, length-append s.listed g.rows.rows, growth.within, most)) (ascends_drop g.taken s.waiting h.waiting_ascending) (omega (arith, length-drop g.taken s.waiting, h.waiting_length)) still_above

  pub used_after : used_of (after s e (s.listed ++ g.rows.rows) (drop g.taken s.waiting)) ≡ used_of s + g.pairs
  used_after =
      let a : pairs_within (s.listed ++ g.rows.rows) e ≡ pairs_within s.listed e = pairs_after s.norm e s.listed g.rows.rows next.above h.listed_norms growth.norms
      (λ z c. (each_contained (IsStageRow s.system.equations s.number) (s.listed ++ g.rows.rows) z stage_after.listed_rows c).positive)
      (λ z c. elim (Contains-append_cases s.listed g.rows.rows z c) [
        | inl a ↦ inl (each_contained (λ z. stage_norm z ≤ s.norm) s.listed z h.listed_norms a)
        | inr b ↦ inr (each_contained (λ z. stage_norm z ≡ e) g.rows.rows z growth.norms b)
      ]) in
      omega (arith, a, pairs_to_next s.listed s.waiting s.norm e next, growth.pairs_are)

  pub plus_after : (plus : List ClassValue) → AreClasses s.listed has_positive_last plus → AreClasses (s.listed ++ g.rows.rows) has_positive_last (with_class g.plus.norm g.plus.ids plus)
  plus_after plus p = subst₂ (λ (n : ℕ) (ids : List ℕ). AreClasses (s.listed ++ g.rows.rows) has_positive_last (with_class n ids plus)) (sym growth.plus_norm) (sym growth.plus_ids)
      (more_classes s.listed g.rows.rows has_positive_last plus e (omega (arith, next.above)) p (class_below s.listed has_positive_last plus s.norm e next.above p h.listed_norms) growth.norms)

  pub minus_after : (minus : List ClassValue) → AreClasses s.listed has_negative_last minus → AreClasses (s.listed ++ g.rows.rows) has_negative_last (with_class g.minus.norm g.minus.ids minus)
  minus_after minus p = subst₂ (λ (n : ℕ) (ids : List ℕ). AreClasses (s.listed ++ g.rows.rows) has_negative_last (with_class n ids minus)) (sym growth.minus_norm) (sym growth.minus_ids)
      (more_classes s.listed g.rows.rows has_negative_last minus e (omega (arith, next.above)) p (class_below s.listed has_negative_last minus s.norm e next.above p h.listed_norms) growth.norms)

  pub published_is : (t : StageValue) → t ≡ after s e (s.listed ++ g.rows.rows) (drop g.taken s.waiting) → IsPublished s e t
  published_is t is = subst (λ (v : StageValue). IsPublished s e v) (sym is) (record {
    system = refl;
    number = refl;
    norm = refl;
    before = refl;
    listed = growth.grown;
    waiting = growth.still;
    used = used_after ∙ ap (λ n. used_of s + n) growth.pairs_are ∙ sym (used_to_next s.listed s.waiting s.norm e (used_of s) next);
  })

-- the fields of a stage, as its value
abbrev pub value_of : ToolSystem → ℕ → ℕ → ℕ → List (List ℤ) → List (List ℤ) → StageValue
value_of S k d b listed waiting = record { system = S; number = k; norm = d; before = b; listed = listed; waiting = waiting }

pub value_after : (S : ToolSystem) (k d b e waited taken : ℕ) (listed new grown waiting : List (List ℤ)) → grown ≡ listed ++ new
    → value_of S k e b grown (drop (waited + taken) waiting) ≡ after (value_of S k d b listed (drop waited waiting)) e (listed ++ new) (drop taken (drop waited waiting))
value_after S k d b e waited taken listed new grown waiting is = ap₂ (λ (l w : List (List ℤ)). value_of S k e b l w) is (sym (drop-drop taken waited waiting))

-- ---- where the lists were the defined ones, they are
pub defined_after : (s t : StageValue) (e : ℕ) → IsNextNorm s.listed s.waiting s.norm e → IsPublished s e t → IsDefined s → IsDefined t
defined_after s t e next p h =
    let S : LinearSystem = s.system.equations in
    let l : IsListed s.system.equations s.number e t.listed = grown_listed s.system.equations s.number s.norm s.listed s.waiting h.listed h.waiting e next t.listed p.listed in
    let w : IsWaiting s.system.equations s.number e (still_waiting e s.waiting) = still_waits s.system.equations s.number s.norm s.listed s.waiting h.listed h.waiting e next in
    let u : AreUsed s.system.equations s.number e (used_up_to (used_of s) s.listed s.norm e) = used_next s.system.equations s.number s.norm s.listed s.waiting h.listed h.waiting e next (used_of s) h.used t.listed l in
    record {
      listed = at (λ S k d. IsListed S.equations k d t.listed) l;
      waiting = at (λ S k d. IsWaiting S.equations k d t.waiting) (subst (λ (l : List (List ℤ)). IsWaiting s.system.equations s.number e l) (sym p.waiting) w);
      used = at (λ S k d. AreUsed S.equations k d (used_of t)) (subst (λ (n : ℕ). AreUsed s.system.equations s.number e n) (sym p.used) u);
    }
  where
    at : (P : ToolSystem → ℕ → ℕ → Type 0) → P s.system s.number e → P t.system t.number t.norm
    at P q = subst (λ (d : ℕ). P t.system t.number d) (sym p.norm) (subst (λ (k : ℕ). P t.system k e) (sym p.number) (subst (λ (S : ToolSystem). P S s.number e) (sym p.system) q))

-- ---- each closed norm takes a waiting row or a pair
filter_short : (test : List ℤ → Bool) (xs : List (List ℤ)) → length (filter test xs) ≤ length xs
filter_short test [] = omega arith
filter_short test (x ∷ xs) = elim (cases_Bool (test x)) [
  | inl t ↦ rw t (omega (arith, filter_short test xs))
  | inr t ↦ rw t (omega (arith, filter_short test xs))
]

filter_shorter : (test : List ℤ → Bool) (xs : List (List ℤ)) (z : List ℤ) → Contains xs z → test z ≡ false → length (filter test xs) < length xs
filter_shorter test [] z c e = absurd (contains_nothing z c)
filter_shorter test (x ∷ xs) z c e = elim (contains_cases x xs z c) [
  | inl same ↦ let f : test x ≡ false = ap test same ∙ e in rw f (omega (arith, filter_short test xs))
  | inr d ↦ elim (cases_Bool (test x)) [
    | inl t ↦ rw t (omega (arith, filter_shorter test xs z d e))
    | inr t ↦ rw t (omega (arith, filter_shorter test xs z d e))
  ]
]

pub further_after : (s t : StageValue) (e : ℕ) → IsNextNorm s.listed s.waiting s.norm e → IsPublished s e t → IsFurther s t
further_after s t e next p = elim next.occurs [
  | inl w ↦
      let n : not (eqb (stage_norm w.0) e) ≡ false = ap not (eq-eqb (stage_norm w.0) e w.1.norm_is) in
      inl (omega (arith, ap length p.waiting, filter_shorter (λ z. not (eqb (stage_norm z) e)) s.waiting w.0 w.1.waits n))
  | inr f ↦
      let c : Contains (pairs_of s.listed e) (f.0, f.1) = (numbered s.listed e f.0 f.1).1 (f.2, f.3) in
      inr (omega (arith, c.1, p.used, used_to_next s.listed s.waiting s.norm e (used_of s) next))
]

-- ---- the fields after a norm is closed
pub holds_after : (S : ToolSystem) (k d b e limit waited used : ℕ) (listed grown : PoolValue) (tree tree' : TreeValue) (waiting : PoolValue) (plus minus plus' minus' : List ClassValue) (sieve : Sieve) (following following' : Following) (tally mid tally' : Tally) (ahead ahead' : Opened) (g : Growth)
    → Holds (value_of S k d b listed.rows (drop waited waiting.rows)) listed tree waiting waited used plus minus sieve following tally ahead
    → IsNextNorm listed.rows (drop waited waiting.rows) d e → e ≤ largest → limit ≤ 2 ^ 21 → IsGrowth (value_of S k d b listed.rows (drop waited waiting.rows)) e limit g
    → grown.width ≡ listed.width → grown.rows ≡ listed.rows ++ g.rows.rows → HoldsRows tree' grown → plus' ≡ with_class g.plus.norm g.plus.ids plus → minus' ≡ with_class g.minus.norm g.minus.ids minus → following'.known ≡ false → HasGained tally mid minus g.plus → HasGained mid tally' plus' g.minus → IsInRange tally' → ahead'.known ≡ false → ahead'.defined ≡ ahead.defined
    → Holds (value_of S k e b grown.rows (drop (waited + g.taken) waiting.rows)) grown tree' waiting (waited + g.taken) (used + g.pairs) plus' minus' sieve following' tally' ahead'
holds_after S k d b e limit waited used listed grown tree tree' waiting plus minus plus' minus' sieve following following' tally mid tally' ahead ahead' g h next small most growth w is i p m f o q r a same =
    let s : StageValue = value_of S k d b listed.rows (drop waited waiting.rows) in
    let t : value_of S k e b grown.rows (drop (waited + g.taken) waiting.rows) ≡ after (value_of S k d b listed.rows (drop waited waiting.rows)) e (listed.rows ++ g.rows.rows) (drop g.taken (drop waited waiting.rows)) = value_after S k d b e waited g.taken listed.rows g.rows.rows grown.rows waiting.rows is in
    record {
      stage = subst (λ (v : StageValue). IsStage v) (sym t) (stage_after (value_of S k d b listed.rows (drop waited waiting.rows)) e limit g h.stage next small most growth);
      listed_width = w ∙ h.listed_width;
      indexed = i;
      waiting_width = h.waiting_width;
      waited_inside = omega (arith, growth.taken_inside, length-drop waited waiting.rows, h.waited_inside);
      waiting_most = h.waiting_most;
      used_is = omega (arith, h.used_is, used_after (value_of S k d b listed.rows (drop waited waiting.rows)) e limit g h.stage next small most growth, ap used_of t);
      plus_classes = subst₂ (λ (l : List (List ℤ)) (cs : List ClassValue). AreClasses l has_positive_last cs) (sym is) (sym p) (plus_after (value_of S k d b listed.rows (drop waited waiting.rows)) e limit g h.stage next small most growth plus h.plus_classes);
      minus_classes = subst₂ (λ (l : List (List ℤ)) (cs : List ClassValue). AreClasses l has_negative_last cs) (sym is) (sym m) (minus_after (value_of S k d b listed.rows (drop waited waiting.rows)) e limit g h.stage next small most growth minus h.minus_classes);
      plus_ids = ids_after has_positive_last (length listed.rows) g.rows.rows plus plus' g.plus.norm g.plus.ids h.plus_ids growth.plus_ids p;
      minus_ids = ids_after has_negative_last (length listed.rows) g.rows.rows minus minus' g.minus.norm g.minus.ids h.minus_ids growth.minus_ids m;
      sieve_is = subst (λ (l : List (List ℤ)). IsSieve S.equations l e sieve) (sym is) (sieve_after S.equations listed.rows g.rows.rows d e sieve (omega (arith, next.above)) h.sieve_is);
      following_is = λ t. absurd (unknown following'.known f t);
      tally_is = subst₂ (λ (cs ds : List ClassValue). IsTally cs ds tally') (sym p) (sym m)
          (tally_grown plus minus g.plus g.minus tally mid tally' (omega (arith, next.above, growth.minus_norm))
          (positive_norms (listed.rows ++ g.rows.rows) (with_class g.plus.norm g.plus.ids plus) (plus_after (value_of S k d b listed.rows (drop waited waiting.rows)) e limit g h.stage next small most growth plus h.plus_classes).each)
          h.tally_is o (subst (λ (cs : List ClassValue). HasGained mid tally' cs g.minus) p q) r);
      ahead_is = record {
        defined = λ x. defined_after (value_of S k d b listed.rows (drop waited waiting.rows)) (value_of S k e b grown.rows (drop (waited + g.taken) waiting.rows)) e next
            (published_is (value_of S k d b listed.rows (drop waited waiting.rows)) e limit g h.stage next small most growth (value_of S k e b grown.rows (drop (waited + g.taken) waiting.rows)) t) (h.ahead_is.defined (sym same ∙ x));
        opens = λ x. absurd (unknown ahead'.known a x);
        enough = λ x. absurd (unknown ahead'.known a x);
      };
    }
