-- The index of a tree: three tiers that lead from a key to the number of a bucket.
use Rattle.std.specs.Prelude.{◌≡◌, ℕ, ◌<◌, ◌≤◌, ◌==◌, List, [], length, slice_index_or}
use Rattle.std.specs.List.{AllByRecursion, filter}
use Rattle.reduce_tree.specs.declared.index.Index.{Index}
use Rattle.reduce_tree.specs.declared.items.Key.{Key}
use Rattle.reduce_tree.specs.declared.tree.Filed.{Filed}
use Rattle.reduce_tree.specs.Inside.Tiers.{HasKidAt, kid_at, KeepsSteps}

abbrev pub second_of : Index → Key → ℕ
second_of index key = kid_at index.first key.part key.first

abbrev pub third_of : Index → Key → ℕ
third_of index key = kid_at index.second (second_of index key) key.second

-- from the branch of its part, the classes of a key lead to the bucket b
pub record LeadsToBucket (index : Index) (key : Key) (b : ℕ) : Type 0 where
  pub first : HasKidAt index.first key.part key.first
  pub second : HasKidAt index.second (second_of index key) key.second
  pub third : HasKidAt index.third (third_of index key) key.third
  pub bucket : kid_at index.third (third_of index key) key.third ≡ b

-- what stands in bucket b, and nothing where there is no such bucket
abbrev pub bucket_at : Index → ℕ → List Filed
bucket_at index b = slice_index_or index.buckets.items b []

abbrev pub bucket_count : Index → ℕ
bucket_count index = length index.buckets.items

-- all that led somewhere still does, and each bucket is as it was
pub record KeepsIndex (old new : Index) : Type 0 where
  pub first : KeepsSteps old.first new.first
  pub second : KeepsSteps old.second new.second
  pub third : KeepsSteps old.third new.third
  pub buckets : (b : ℕ) → bucket_at new b ≡ bucket_at old b
  pub count : bucket_count old ≤ bucket_count new

-- what is filed in bucket b
abbrev pub in_bucket : ℕ → List Filed → List Filed
in_bucket b filed = filter (λ f. f.bucket == b) filed

-- the fields of a tree: each bucket has what is filed in it, and each key leads to its bucket
pub record IsTree (width levels : ℕ) (filed : List Filed) (index : Index) : Type 0 where
  pub narrow : width ≤ 130
  pub few_levels : levels ≤ 16
  pub few : length filed < 4294967296
  pub inside : AllByRecursion (λ f. f.bucket < bucket_count index) filed
  pub leads : AllByRecursion (λ f. LeadsToBucket index f.key f.bucket) filed
  pub contents : (b : ℕ) → bucket_at index b ≡ in_bucket b filed
