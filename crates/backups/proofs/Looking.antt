-- What is found in both restart files, one after the other.
use Rattle.std.proofs.Common.{◌≡◌, ◌≤◌, ◌∙◌, ℕ, List, refl, sym, ap, subst, arith}
use Rattle.std.specs.Prelude.{Option, Some, None, Result, Ok, Err, IfSome, IsErrAnd}
use Rattle.std.specs.FinMap.{get}
use Rattle.outside.specs.Files.{Files}
use Rattle.outside.specs.Causes.{Rose}
use Rattle.lift_core.specs.Systems.{ToolSystem}
use Rattle.restart_file.specs.declared.ends.RestartFault.{RestartFault}
use Rattle.backups.specs.declared.starts.Slot.{Slot}
use Rattle.backups.specs.declared.starts.Start.{Start}
use Rattle.backups.specs.declared.starts.StartEnd.{StartEnd}
use Rattle.backups.specs.declared.starts.StartEnd.TheVariants as end
use Rattle.backups.specs.declared.starts.Content.{Content}
use Rattle.backups.specs.Starts.{Stored, stored_in, FindsStart}
use Rattle.backups.specs.Inside.Contents.{IsContent}

pub found_both : (S : ToolSystem) (held mid : Option Files) (first second : List ℕ) (one two :
    Content) (result : Result Start StartEnd) → mid ≡ held
    → IfSome held (λ files. IsContent S (get files first) one)
    → IfSome mid (λ files. IsContent S (get files second) two)
    → ((T : ToolSystem) (files : Stored) → IsContent T files.first one
    → IsContent T files.second two → FindsStart T files result)
    → IfSome held (λ files. FindsStart S (stored_in first second files) result)
found_both S None mid first second one two result same a b finds = tt
found_both S (Some files) mid first second one two result same a b finds =
    let c : IfSome (Some files) (λ files. IsContent S (get files second) two) = subst (λ m. IfSome m
    (λ files. IsContent S (get files second) two)) same b in
    finds S (stored_in first second files) a c

-- the look into one of them was refused
no_start : (S : ToolSystem) (files : Stored) (e : StartEnd) → ((f g : RestartFault)
    → e ≡ end.Refused f g → ⊥) → FindsStart S files (Err e)
no_start S files (end.Refused f g) sure = absurd (sure f g refl)
no_start S files (end.Failed slot) sure = tt
no_start S files end.Memory sure = tt

pub found_none : (S : ToolSystem) (held : Option Files) (first second : List ℕ) (e : StartEnd) (r :
    Result Start StartEnd) → IsErrAnd r (λ y. y ≡ e) → ((f g : RestartFault) → e ≡ end.Refused f g → ⊥)
    → IfSome held (λ files. FindsStart S (stored_in first second files) r)
found_none S None first second e r err sure = tt
found_none S (Some files) first second e (Ok s) err sure = absurd err
found_none S (Some files) first second e (Err y) err sure = subst (λ x. FindsStart S (stored_in
    first second files) (Err x)) (sym err) (no_start S (stored_in first second files) e sure)
