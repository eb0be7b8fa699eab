-- The stage of given lists keeps what each stage keeps, and that of a stage's own lists is that
-- stage; and what the lists of a stage give to who builds it anew.
use Rattle.std.proofs.Common.{◌≡◌, ℕ, ◌+◌, ◌-◌, ◌≤◌, ◌<◌, List, ap, sym, subst, arith, false}
use Rattle.std.specs.List.{AllByRecursion}
use Rattle.lift_core.specs.Systems.{ToolSystem}
use Rattle.lift_core.specs.ToolSystems.{width}
use Rattle.lift_core.specs.Stages.{stage_norm, pairs_within}
use Rattle.lift_core.specs.Stages.{has_positive_last, has_negative_last}
use Rattle.lift_core.proofs.Lists.{each_contained, each_from_contained}
use Rattle.stage_store.specs.Stage.{StageValue, IsStage, IsStageRow, used_of}
use Rattle.row_pool.specs.Rows.{PoolValue}
use Rattle.reduce_tree.specs.Tree.{TreeValue}
use Rattle.stage_store.specs.Indexed.{HoldsRows}
use Rattle.stage_store.specs.Classes.{ClassValue, AreClasses}
use Rattle.stage_store.specs.Opened.{AscendWithin}
use Rattle.stage_store.specs.Sieve.{IsNewSieve}
use Rattle.stage_store.specs.Fields.{Holds}
use Rattle.stage_store.specs.Rebuilt.{stage_of}
use Rattle.stage_store.specs.declared.sieve.Sieve.{Sieve}
use Rattle.stage_store.specs.declared.opened.Opened.{Opened}
use Rattle.stage_store.specs.declared.stage.Following.{Following}
use Rattle.stage_store.specs.declared.tally.Tally.{Tally}
use Rattle.stage_store.specs.Tallies.{IsInRange}
use Rattle.stage_store.proofs.Tallies.{tally_empty}
use Rattle.stage_store.proofs.Sifting.{new_sieve}
use Rattle.stage_store.proofs.MoreRows.{unknown, nothing_ahead}

pub same_stage : (s : StageValue)
    → stage_of s.system s.number s.norm (used_of s) s.listed s.waiting ≡ s
same_stage s =
    ap (λ before. record {
      system = s.system;
      number = s.number;
      norm = s.norm;
      before = before;
      listed = s.listed;
      waiting = s.waiting;
    }) (omega arith)

module _ (s : StageValue) (h : IsStage s) where
  pub listed_positive : AllByRecursion (λ z. 0 < stage_norm z) s.listed
  listed_positive = each_from_contained (λ z. 0 < stage_norm z) s.listed (λ z c.
      (each_contained (IsStageRow s.system.equations s.number) s.listed z h.listed_rows c).positive)

  pub listed_small : AllByRecursion (λ z. stage_norm z ≤ 9223372036854775807) s.listed
  listed_small = each_from_contained (λ z. stage_norm z ≤ 9223372036854775807) s.listed (λ z c.
      (each_contained (IsStageRow s.system.equations s.number) s.listed z h.listed_rows c).small)

-- ---- the fields of a stage of given lists, of which nothing is sifted or known yet
module _ (S : ToolSystem) (k d used pairs : ℕ) (tree : TreeValue) (plus minus : List ClassValue)
    (sieve : Sieve) (following : Following) (tally : Tally) (ahead : Opened) where
  abbrev pub AreFields : PoolValue → PoolValue → Type 0
  AreFields listed waiting =
      Holds
      (record {
        system = S;
        number = k;
        norm = d;
        before = used - pairs;
        listed = listed.rows;
        waiting = waiting.rows;
      })
      listed tree waiting 0 used plus minus sieve following tally ahead

  pub fields_hold : (listed waiting : PoolValue)
      → IsStage (stage_of S k d used listed.rows waiting.rows)
      → listed.width ≡ width S.equations + 1 → waiting.width ≡ width S.equations + 1
      → pairs ≡ pairs_within listed.rows d → pairs_within listed.rows d ≤ used
      → HoldsRows tree listed
      → AreClasses listed.rows has_positive_last plus
      → AreClasses listed.rows has_negative_last minus
      → AscendWithin plus → AscendWithin minus → IsNewSieve sieve
      → following.known ≡ false → IsInRange tally → tally.span ≡ 0 → (ahead.known ≡ false) × (ahead.defined ≡ false)
      → AreFields listed waiting
  fields_hold listed waiting stage wide wait is enough rows p m i j v f o z a = record {
    stage = subst IsStage (ap with_before (sym is)) stage;
    listed_width = wide;
    indexed = rows;
    waiting_width = wait;
    waited_inside = omega arith;
    waiting_most = stage.waiting_length;
    used_is = omega (arith, is, enough);
    plus_classes = p;
    minus_classes = m;
    plus_ids = i;
    minus_ids = j;
    sieve_is = new_sieve S.equations listed.rows d sieve v;
    following_is = λ t. absurd (unknown following.known f t);
    tally_is = tally_empty plus minus tally o z;
    ahead_is = nothing_ahead (with_before pairs) ahead a;
  }
    where
      with_before : ℕ → StageValue
      with_before n = record {
        system = S;
        number = k;
        norm = d;
        before = used - n;
        listed = listed.rows;
        waiting = waiting.rows;
      }
