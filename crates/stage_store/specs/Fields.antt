-- What the fields of a stage keep.
use Rattle.std.specs.Prelude.{◌≡◌, ℕ, ◌+◌, ◌≤◌, ◌^◌, List, length, IsTrue}
use Rattle.lift_core.specs.ToolSystems.{width}
use Rattle.lift_core.specs.Stages.{has_positive_last, has_negative_last}
use Rattle.row_pool.specs.Rows.{PoolValue}
use Rattle.reduce_tree.specs.Tree.{TreeValue}
use Rattle.stage_store.specs.Classes.{ClassValue, AreClasses}
use Rattle.stage_store.specs.Indexed.{HoldsRows}
use Rattle.stage_store.specs.Stage.{StageValue, IsStage, used_of}
use Rattle.stage_store.specs.Sieve.{IsSieve}
use Rattle.stage_store.specs.Opened.{AscendWithin, IsAhead}
use Rattle.stage_store.specs.declared.sieve.Sieve.{Sieve}
use Rattle.stage_store.specs.declared.opened.Opened.{Opened}
use Rattle.stage_store.specs.declared.stage.Following.{Following}
use Rattle.stage_store.specs.declared.tally.Tally.{Tally}
use Rattle.stage_store.specs.Tallies.{IsTally}
use Rattle.stage_store.specs.Answers.{IsNext}

-- the rows that wait are those from the place `waited` on
pub record Holds (s : StageValue) (listed : PoolValue) (tree : TreeValue) (waiting : PoolValue)
    (waited used : ℕ) (plus minus : List ClassValue) (sieve : Sieve) (following : Following)
    (tally : Tally) (ahead : Opened) : Type 0 where
  pub stage : IsStage s
  pub listed_width : listed.width ≡ width s.system.equations + 1
  pub indexed : HoldsRows tree listed
  pub waiting_width : waiting.width ≡ width s.system.equations + 1
  pub waited_inside : waited ≤ length waiting.rows
  pub waiting_most : length waiting.rows ≤ 2 ^ 21
  pub used_is : used ≡ used_of s
  pub plus_classes : AreClasses s.listed has_positive_last plus
  pub minus_classes : AreClasses s.listed has_negative_last minus
  pub plus_ids : AscendWithin plus
  pub minus_ids : AscendWithin minus
  pub sieve_is : IsSieve s.system.equations s.listed s.norm sieve
  pub following_is : IsTrue following.known → IsNext s following.next
  pub tally_is : IsTally plus minus tally
  pub ahead_is : IsAhead s ahead
