-- What was read of a whole text is what each stage keeps.
use Rattle.std.proofs.Common.{◌≡◌, ◌≤◌, ℕ, List, ap, ◌∙◌, arith}
use Rattle.std.specs.Prelude.{ℤ}
use Rattle.std.specs.List.{AllByRecursion}
use Rattle.lift_core.specs.Systems.{ToolSystem}
use Rattle.lift_core.specs.ToolSystems.{IsToolSystem}
use Rattle.lift_core.specs.Stages.{stage_norm}
use Rattle.lift_core.proofs.Lists.{each_contained, each_from_contained}
use Rattle.stage_store.specs.Rebuilt.{stage_of}
use Rattle.stage_store.specs.Stage.{IsStage, IsStageRow, StageValue}
use Rattle.int_vector.specs.Vectors.{largest}
use Rattle.restart_file.specs.declared.drafts.Draft.{Draft}
use Rattle.restart_file.specs.Texts.{progress_of}
use Rattle.restart_file.specs.Reading.{IsStagePlace}
use Rattle.restart_file.specs.Inside.Drafts.{is_placed, progress_in}
use Rattle.restart_file.specs.Inside.Ways.{IsAllRead}

pub rows_small : (S : ToolSystem) (k : ℕ) (rows : List (List ℤ)) → AllByRecursion (IsStageRow S.equations k) rows → AllByRecursion (λ z. stage_norm z ≤ largest) rows
rows_small S k rows h = each_from_contained (λ z. stage_norm z ≤ largest) rows (λ z c. (each_contained (IsStageRow S.equations k) rows z h c).small)

module _ (S : ToolSystem) (d : Draft) (fits : IsToolSystem S) (whole : IsAllRead S d) where
  placed : IsStagePlace S d.number d.norm
  placed = whole.sound.place (ap is_placed whole.last)

  pub is_stage : IsStage (stage_of S d.number d.norm d.used d.listed.rows d.waiting.rows)
  is_stage = record {
    system_kept = fits;
    number_from = omega (arith, placed.from);
    number_to = placed.to;
    norm_small = placed.small;
    before_small = omega (arith, whole.sound.used);
    listed_rows = whole.sound.listed_rows;
    waiting_rows = whole.sound.waiting_rows;
    listed_ascending = whole.sound.listed_ascending;
    waiting_ascending = whole.sound.waiting_ascending;
    listed_norms = whole.sound.listed_norms;
    waiting_norms = whole.sound.waiting_norms;
    listed_length = omega (arith, whole.sound.listed_room);
    waiting_length = omega (arith, whole.sound.waiting_room);
  }

  -- the stage built of it says the same
  pub same_progress : (s : StageValue) → s ≡ stage_of S d.number d.norm d.used d.listed.rows d.waiting.rows → progress_of s ≡ progress_in d
  same_progress s e =
      ap progress_of e
      ∙ ap (λ u. record { number = d.number; norm = d.norm; used = u; listed = d.listed.rows; waiting = d.waiting.rows }) (omega (arith, whole.enough))
