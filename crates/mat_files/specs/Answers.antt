-- What the readers answer.
use Rattle.std.specs.Prelude.{◌≡◌, Result, Ok, Err}
use Rattle.mat_files.specs.declared.faults.TextFault.{TextFault}
use Rattle.mat_files.specs.declared.faults.TextEnd.{TextEnd}
use Rattle.mat_files.specs.declared.faults.TextEnd.TheVariants.{Bad, Memory}

-- the fault that was answered is the one that reading gives, unless memory ran out
abbrev pub Fails : {Y : Type 0} → TextEnd → Result Y TextFault → Type 0
Fails Memory read = Unit {0}
Fails (Bad fault) read = read ≡ Err fault

-- what a function answered, seen by view, is what reading gives, unless memory ran out
abbrev pub Gives : {X Y : Type 0} → (X → Y) → Result X TextEnd → Result Y TextFault → Type 0
Gives view (Ok x) read = read ≡ Ok (view x)
Gives view (Err e) read = Fails e read
