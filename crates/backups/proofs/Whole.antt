-- The last backup stands, whatever the next one leaves in its file.
use Rattle.std.proofs.Common.{◌≡◌, ◌≢◌, ◌∙◌, ℕ, List, [], ◌∷◌, ◌++◌, cond, refl, sym, ap}
use Rattle.std.specs.Prelude.{Some, slice_index_or}
use Rattle.std.specs.FinMap.{get, insert, get-insert}
use Rattle.outside.specs.Files.{Files, name_cmp, written}
use Rattle.outside.proofs.FileMaps.{own_name, other_name}
use Rattle.std.proofs.lemmas.Cmp.{nat_list_cmp_total}
use Rattle.stage_store.specs.Stage.{StageValue}
use Rattle.restart_file.specs.Texts.{text_of_stage}
use Rattle.backups.specs.Backups.{written_in_turn}
use Rattle.backups.specs.Standing.{names_after}

-- a file that was written, and another
pub written_file : (name text : List ℕ) (files : Files) → get (written name text files) name ≡ Some text
written_file name text files = get-insert nat_list_cmp_total files name text name ∙ ap (λ b. cond b
    (Some text) (get files name)) (own_name name name refl)

pub other_file : (name other text : List ℕ) (files : Files) → (other ≡ name → ⊥)
    → get (written name text files) other ≡ get files other
other_file name other text files differ = get-insert nat_list_cmp_total files name text other ∙ ap
    (λ b. cond b (Some text) (get files other)) (other_name other name differ)

pub one_stands : (first second : List ℕ) (stages : List StageValue) (last : StageValue) (files :
    Files) (torn : List ℕ) → (first ≡ second → ⊥)
    → (name : List ℕ) × (get (written (slice_index_or (names_after (first ∷ second ∷ []) (stages ++
    last ∷ [])) 0 []) torn (written_in_turn (first ∷ second ∷ []) (stages ++ last ∷ []) files))
    name ≡ Some (text_of_stage last))
one_stands first second [] last files torn differ = (
  first,
  other_file second first torn (written
      first (text_of_stage last) files) differ ∙ written_file first (text_of_stage last) files,
)
one_stands first second (stage ∷ stages) last files torn differ = one_stands second first stages
    last (written first (text_of_stage stage) files) torn (λ e. differ (sym e))
