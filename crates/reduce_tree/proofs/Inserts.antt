-- The fields of a tree after one row more or less: each bucket has what is filed in it, and each key leads to its bucket.
use Rattle.std.proofs.Common.{◌≡◌, ℕ, zero, suc, ◌+◌, ◌-◌, ◌≤◌, ◌<◌, List, [], ◌∷◌, ◌++◌, length, get_or, set, take, true, false, cond, sym, refl, ap, ◌∙◌, subst, arith, inl, inr, length-append, length-set}
use Rattle.std.specs.Prelude.{ℤ, ◌==◌}
use Rattle.std.specs.List.{AllByRecursion}
use Rattle.std.proofs.lemmas.Bool.{cases_eq, eq-eqb, ne_eqb}
use Rattle.std.proofs.lemmas.List.{get_or_default, get_or-set_same, get_or-set_other}
use Rattle.reduce_tree.specs.declared.index.Index.{Index}
use Rattle.reduce_tree.specs.declared.items.Key.{Key}
use Rattle.reduce_tree.specs.declared.tree.Filed.{Filed}
use Rattle.row_pool.specs.Rows.{PoolValue}
use Rattle.reduce_tree.specs.Items.{size_of, IsKeyOf}
use Rattle.reduce_tree.specs.Signatures.{signature_of}
use Rattle.reduce_tree.specs.Tree.{TreeValue, StandsAt, Fits}
use Rattle.reduce_tree.specs.Inside.Filing.{LeadsToBucket, second_of, third_of, bucket_at, bucket_count, KeepsIndex, in_bucket, IsTree}
use Rattle.reduce_tree.specs.Inside.Tiers.{BranchValue, HasKidAt, kid_at, KeepsSteps}
use Rattle.reduce_tree.proofs.Trees.{tree_value}

-- ---- lists of filed rows
all_append : (P : Filed → Type 0) (fs : List Filed) (f : Filed) → AllByRecursion P fs → P f → AllByRecursion P (fs ++ f ∷ [])
all_append P [] f h p = (p, tt)
all_append P (g ∷ fs) f h p = (h.0, all_append P fs f h.1 p)

all_front : (P : Filed → Type 0) (fs : List Filed) (f : Filed) → AllByRecursion P (fs ++ f ∷ []) → AllByRecursion P fs
all_front P [] f h = tt
all_front P (g ∷ fs) f h = (h.0, all_front P fs f h.1)

all_last : (P : Filed → Type 0) (fs : List Filed) (f : Filed) → AllByRecursion P (fs ++ f ∷ []) → P f
all_last P [] f h = h.0
all_last P (g ∷ fs) f h = all_last P fs f h.1

all_change : (P Q : Filed → Type 0) (fs : List Filed) → ((f : Filed) → P f → Q f) → AllByRecursion P fs → AllByRecursion Q fs
all_change P Q [] g h = tt
all_change P Q (f ∷ fs) g h = (g f h.0, all_change P Q fs g h.1)

-- ---- what leads to a bucket
-- a key leads on where each step of the tiers stays
leads_on : (old new : Index) (key : Key) (b : ℕ) → KeepsSteps old.first new.first → KeepsSteps old.second new.second → KeepsSteps old.third new.third → LeadsToBucket old key b → LeadsToBucket new key b
leads_on old new key b first second third h =
    let one = first key.part key.first h.first in
    let two = second (second_of old key) key.second h.second in
    let at_two : second_of new key ≡ second_of old key = one.1 in
    let at_three : third_of new key ≡ third_of old key = ap (λ n. kid_at new.second n key.second) at_two ∙ two.1 in
    let three = third (third_of old key) key.third h.third in
    record {
      first = one.0;
      second = subst (λ n. HasKidAt new.second n key.second) (sym at_two) two.0;
      third = subst (λ n. HasKidAt new.third n key.third) (sym at_three) three.0;
      bucket = ap (λ n. kid_at new.third n key.third) at_three ∙ three.1 ∙ h.bucket;
    }

steps_same : (old new : List BranchValue) → new ≡ old → KeepsSteps old new
steps_same old new e = subst (λ t. KeepsSteps old t) (sym e) (λ n c s. (s, refl))

-- ---- the index has grown
pub tree_kept : (width levels : ℕ) (fs : List Filed) (old new : Index) → IsTree width levels fs old → KeepsIndex old new → IsTree width levels fs new
tree_kept width levels fs old new h k = record {
  narrow = h.narrow;
  few_levels = h.few_levels;
  few = h.few;
  inside = all_change (λ f. f.bucket < bucket_count old) (λ f. f.bucket < bucket_count new) fs (λ f l. omega (arith, l, k.count)) h.inside;
  leads = all_change (λ f. LeadsToBucket old f.key f.bucket) (λ f. LeadsToBucket new f.key f.bucket) fs (λ f l. leads_on old new f.key f.bucket k.first k.second k.third l) h.leads;
  contents = λ b. k.buckets b ∙ h.contents b;
}

-- ---- one bucket has changed
-- the tiers are the same, and bucket b is now this list
pub record IsSet (old new : Index) (b : ℕ) (bucket : List Filed) : Type 0 where
  pub first : new.first ≡ old.first
  pub second : new.second ≡ old.second
  pub third : new.third ≡ old.third
  pub buckets : new.buckets.items ≡ set old.buckets.items b bucket

module _ (old new : Index) (b : ℕ) (bucket : List Filed) (s : IsSet old new b bucket) where
  set_leads : (key : Key) (n : ℕ) → LeadsToBucket old key n → LeadsToBucket new key n
  set_leads key n = leads_on old new key n (steps_same old.first new.first s.first) (steps_same old.second new.second s.second) (steps_same old.third new.third s.third)

  set_count : bucket_count new ≡ bucket_count old
  set_count = ap length s.buckets ∙ length-set old.buckets.items b bucket

  set_here : b < bucket_count old → bucket_at new b ≡ bucket
  set_here l = ap (λ (bs : List (List Filed)). get_or bs b []) s.buckets ∙ get_or-set_same old.buckets.items b bucket [] l

  set_other : (n : ℕ) → (n ≡ b → ⊥) → bucket_at new n ≡ bucket_at old n
  set_other n d = ap (λ (bs : List (List Filed)). get_or bs n []) s.buckets ∙ get_or-set_other old.buckets.items b n bucket [] d

-- ---- one more
in_bucket_more : (b : ℕ) (fs : List Filed) (f : Filed) → f.bucket ≡ b → in_bucket b (fs ++ f ∷ []) ≡ in_bucket b fs ++ f ∷ []
in_bucket_more b [] f e = ap (λ t. cond t (f ∷ []) []) (eq-eqb f.bucket b e)
in_bucket_more b (g ∷ fs) f e =
    let rest = in_bucket_more b fs f e in
    elim (g.bucket == b) as (λ t. cond t (g ∷ in_bucket b (fs ++ f ∷ [])) (in_bucket b (fs ++ f ∷ [])) ≡ cond t (g ∷ in_bucket b fs) (in_bucket b fs) ++ f ∷ []) [
      | true ↦ ap (λ (l : List Filed). g ∷ l) rest
      | false ↦ rest
    ]

in_bucket_other : (b : ℕ) (fs : List Filed) (f : Filed) → (f.bucket ≡ b → ⊥) → in_bucket b (fs ++ f ∷ []) ≡ in_bucket b fs
in_bucket_other b [] f d = ap (λ t. cond t (f ∷ []) []) (ne_eqb f.bucket b d)
in_bucket_other b (g ∷ fs) f d =
    let rest = in_bucket_other b fs f d in
    elim (g.bucket == b) as (λ t. cond t (g ∷ in_bucket b (fs ++ f ∷ [])) (in_bucket b (fs ++ f ∷ [])) ≡ cond t (g ∷ in_bucket b fs) (in_bucket b fs)) [
      | true ↦ ap (λ (l : List Filed). g ∷ l) rest
      | false ↦ rest
    ]

bucket_is : (index : Index) (b : ℕ) (bucket : List Filed) → b < bucket_count index → bucket ≡ get_or index.buckets.items b bucket → bucket ≡ bucket_at index b
bucket_is index b bucket l e = e ∙ get_or_default index.buckets.items b bucket [] l

module _ (width levels : ℕ) (fs : List Filed) (f : Filed) (index new : Index) (old bucket : List Filed) (s : IsSet index new f.bucket bucket) where
  pub tree_more : IsTree width levels fs index → f.bucket < bucket_count index → LeadsToBucket index f.key f.bucket → length fs + 1 < 4294967296 → old ≡ get_or index.buckets.items f.bucket old → bucket ≡ old ++ f ∷ []
      → IsTree width levels (fs ++ f ∷ []) new
  tree_more h inside leads few is more = record {
    narrow = h.narrow;
    few_levels = h.few_levels;
    few = omega (arith, few, length-append fs (f ∷ []));
    inside = subst (λ n. AllByRecursion (λ (g : Filed). g.bucket < n) (fs ++ f ∷ [])) (sym (set_count index new f.bucket bucket s)) (all_append (λ g. g.bucket < bucket_count index) fs f h.inside inside);
    leads = all_change (λ g. LeadsToBucket index g.key g.bucket) (λ g. LeadsToBucket new g.key g.bucket) (fs ++ f ∷ []) (λ g. set_leads index new f.bucket bucket s g.key g.bucket) (all_append (λ g. LeadsToBucket index g.key g.bucket) fs f h.leads leads);
    contents = λ b. elim (cases_eq b f.bucket) [
      | inl e ↦
          subst (λ n. bucket_at new n ≡ in_bucket n (fs ++ f ∷ [])) (sym e)
          (set_here index new f.bucket bucket s inside ∙ more ∙ ap (λ (l : List Filed). l ++ f ∷ []) (bucket_is index f.bucket old inside is ∙ h.contents f.bucket) ∙ sym (in_bucket_more f.bucket fs f refl))
      | inr d ↦ set_other index new f.bucket bucket s b d ∙ h.contents b ∙ sym (in_bucket_other b fs f (λ e. d (sym e)))
    ];
  }

  -- ---- one less
  pub tree_less : IsTree width levels (fs ++ f ∷ []) index → old ≡ get_or index.buckets.items f.bucket old → bucket ≡ take (length old - 1) old → IsTree width levels fs new
  tree_less h is less = record {
    narrow = h.narrow;
    few_levels = h.few_levels;
    few = omega (arith, h.few, length-append fs (f ∷ []));
    inside = subst (λ n. AllByRecursion (λ (g : Filed). g.bucket < n) fs) (sym (set_count index new f.bucket bucket s)) (all_front (λ g. g.bucket < bucket_count index) fs f h.inside);
    leads = all_change (λ g. LeadsToBucket index g.key g.bucket) (λ g. LeadsToBucket new g.key g.bucket) fs (λ g. set_leads index new f.bucket bucket s g.key g.bucket) (all_front (λ g. LeadsToBucket index g.key g.bucket) fs f h.leads);
    contents = λ b. elim (cases_eq b f.bucket) [
      | inl e ↦
          let inside : f.bucket < bucket_count index = all_last (λ g. g.bucket < bucket_count index) fs f h.inside in
          let was : old ≡ in_bucket f.bucket fs ++ f ∷ [] = bucket_is index f.bucket old inside is ∙ h.contents f.bucket ∙ in_bucket_more f.bucket fs f refl in
          subst (λ n. bucket_at new n ≡ in_bucket n fs) (sym e)
          (set_here index new f.bucket bucket s inside ∙ less ∙ ap (λ (l : List Filed). take (length l - 1) l) was ∙ take_front (in_bucket f.bucket fs) f)
      | inr d ↦ set_other index new f.bucket bucket s b d ∙ h.contents b ∙ in_bucket_other b fs f (λ e. d (sym e))
    ];
  }
    where
      take_front : (l : List Filed) (g : Filed) → take (length (l ++ g ∷ []) - 1) (l ++ g ∷ []) ≡ l
      take_front l g = ap (λ n. take n (l ++ g ∷ [])) (omega (arith, length-append l (g ∷ []))) ∙ front l
        where
          front : (l : List Filed) → take (length l) (l ++ g ∷ []) ≡ l
          front [] = refl
          front (x ∷ l) = ap (λ (r : List Filed). x ∷ r) (front l)

-- a bucket that is set to itself
pub tree_same : (width levels b : ℕ) (fs : List Filed) (index new : Index) (old bucket : List Filed) → IsSet index new b bucket → IsTree width levels fs index → b < bucket_count index → old ≡ get_or index.buckets.items b old → bucket ≡ old → IsTree width levels fs new
tree_same width levels b fs index new old bucket s h inside is same = record {
  narrow = h.narrow;
  few_levels = h.few_levels;
  few = h.few;
  inside = subst (λ n. AllByRecursion (λ (g : Filed). g.bucket < n) fs) (sym (set_count index new b bucket s)) h.inside;
  leads = all_change (λ g. LeadsToBucket index g.key g.bucket) (λ g. LeadsToBucket new g.key g.bucket) fs (λ g. set_leads index new b bucket s g.key g.bucket) h.leads;
  contents = λ n. elim (cases_eq n b) [
    | inl e ↦ subst (λ m. bucket_at new m ≡ in_bucket m fs) (sym e) (set_here index new b bucket s inside ∙ same ∙ bucket_is index b old inside is ∙ h.contents b)
    | inr d ↦ set_other index new b bucket s n d ∙ h.contents n
  ];
}

length_filed : (b : ℕ) (fs : List Filed) → length (in_bucket b fs) ≤ length fs
length_filed b [] = omega arith
length_filed b (f ∷ fs) =
    let r = length_filed b fs in
    elim (f.bucket == b) as (λ t. length (cond t (f ∷ in_bucket b fs) (in_bucket b fs)) ≤ length (f ∷ fs)) [
      | true ↦ omega (arith, r)
      | false ↦ omega (arith, r)
    ]

pub bucket_few : (width levels b : ℕ) (fs : List Filed) (index : Index) (bucket : List Filed) → IsTree width levels fs index → b < bucket_count index → length fs + 1 < 4294967296 → bucket ≡ get_or index.buckets.items b bucket → length bucket + 1 < 4294967296
bucket_few width levels b fs index bucket h inside few e = omega (arith, few, ap (λ (l : List Filed). length l) (bucket_is index b bucket inside e ∙ h.contents b), length_filed b fs)

pub bucket_some : (width levels : ℕ) (fs : List Filed) (f : Filed) (index : Index) (old : List Filed) → IsTree width levels (fs ++ f ∷ []) index → old ≡ get_or index.buckets.items f.bucket old → 0 < length old
bucket_some width levels fs f index old h e =
    let inside : f.bucket < bucket_count index = all_last (λ g. g.bucket < bucket_count index) fs f h.inside in
    let was : old ≡ in_bucket f.bucket fs ++ f ∷ [] = bucket_is index f.bucket old inside e ∙ h.contents f.bucket ∙ in_bucket_more f.bucket fs f refl in
    omega (arith, ap (λ (l : List Filed). length l) was, length-append (in_bucket f.bucket fs) (f ∷ []))

-- ---- some less, one after another
pub cut_once : (fs old : List Filed) (f : Filed) → fs ++ f ∷ [] ≡ take (length (fs ++ f ∷ [])) old → fs ≡ take (length fs) old
cut_once fs old f e =
    let n : length (fs ++ f ∷ []) ≡ length fs + 1 = length-append fs (f ∷ []) in
    sym (take_seam fs) ∙ ap (λ l. take (length fs) l) e ∙ take_take (length fs) (length (fs ++ f ∷ [])) old (omega (arith, n))
  where
    take_seam : (l : List Filed) → take (length l) (l ++ f ∷ []) ≡ l
    take_seam [] = refl
    take_seam (g ∷ l) = ap (λ (r : List Filed). g ∷ r) (take_seam l)

    take_take : (m n : ℕ) (l : List Filed) → m ≤ n → take m (take n l) ≡ take m l
    take_take zero n l h = refl
    take_take (suc m) zero l h = absurd (omega arith)
    take_take (suc m) (suc n) [] h = refl
    take_take (suc m) (suc n) (g ∷ l) h = ap (λ (r : List Filed). g ∷ r) (take_take m n l (omega arith))

-- ---- one more, as it is filed
-- where the bucket of the row has the number that its key leads to
pub tree_filed : (width levels b : ℕ) (fs filed : List Filed) (f : Filed) (key : Key) (index new : Index) (old bucket : List Filed) → IsSet index new b bucket → IsTree width levels fs index → b < bucket_count index → LeadsToBucket index key b
    → f.bucket ≡ b → f.key ≡ key → filed ≡ fs ++ f ∷ [] → length fs + 1 < 4294967296 → old ≡ get_or index.buckets.items b old → bucket ≡ old ++ f ∷ [] → IsTree width levels filed new
tree_filed width levels b fs filed f key index new old bucket s h inside leads e k all few is more =
    subst (λ (l : List Filed). IsTree width levels l new) (sym all)
    (tree_more width levels fs f index new old bucket (subst (λ n. IsSet index new n bucket) (sym e) s) h (subst (λ n. n < bucket_count index) (sym e) inside)
    (subst (λ j. LeadsToBucket index j f.bucket) (sym k) (subst (λ n. LeadsToBucket index key n) (sym e) leads)) few (subst (λ n. old ≡ get_or index.buckets.items n old) (sym e) is) more)

pub filed_stands : (levels place : ℕ) (rows : List (List ℤ)) (row : List ℤ) (f : Filed) (key : Key) → row ≡ get_or rows place [] → place < length rows → f.place ≡ place → f.key ≡ key → IsKeyOf row f.bits key → f.size ≡ size_of row → f.bits ≡ signature_of levels row
    → StandsAt levels rows f
filed_stands levels place rows row f key r l p k of size bits =
    let there : row ≡ get_or rows f.place [] = r ∙ ap (λ i. get_or rows i []) (sym p) in
    record {
      inside = subst (λ i. i < length rows) (sym p) l;
      key = subst (λ u. IsKeyOf u f.bits f.key) there (subst (IsKeyOf row f.bits) (sym k) of);
      size = size ∙ ap size_of there;
      bits = bits ∙ ap (signature_of levels) there;
    }

pub fits_more : (t : TreeValue) (width levels : ℕ) (fs filed : List Filed) (f : Filed) (pool : PoolValue) → tree_value width levels fs ≡ t → Fits t pool → filed ≡ fs ++ f ∷ [] → StandsAt levels pool.rows f → Fits (tree_value width levels filed) pool
fits_more t width levels fs filed f pool e fits all s =
    let was : Fits (tree_value width levels fs) pool = subst (λ v. Fits v pool) (sym e) fits in
    record {
      width = was.width;
      rows = subst (λ (l : List Filed). AllByRecursion (StandsAt levels pool.rows) l) (sym all) (all_append (StandsAt levels pool.rows) fs f was.rows s);
    }
