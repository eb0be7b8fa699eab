-- Calls that are counted, of which the listed ones fail.
use Rattle.std.specs.Prelude.{ℕ, ◌+◌, ◌-◌, ◌/◌, ◌^◌, min, List, Contains, length, take, if◌then◌else◌, ◌==◌}
use Rattle.std.specs.List.{list_any}
use Rattle.std.specs.Coded.{Coded, code_by, coded×, coded_ℕ, coded_list}
use Rattle.std.specs.Prelude.{refl}
use Rattle.outside.specs.Files.{Files}
use Rattle.outside.specs.FileLists.{files_code}

-- the numbers of the calls that fail, and how many calls and failures there were
pub record CallCount : Type 0 where
  pub fail : List ℕ
  pub calls : ℕ
  pub faults : ℕ

-- no call yet
abbrev pub no_call_yet : List ℕ → CallCount
no_call_yet fail = record { fail = fail; calls = 0; faults = 0 }

-- a count that stands still at its last value
abbrev pub raised : ℕ → ℕ
raised n = min (n + 1) (2 ^ 64 - 1)

-- the call that comes next is one of those that fail
abbrev pub FailsNext : CallCount → Type 0
FailsNext t = Contains t.fail (raised t.calls)

-- one more call, and one more fault where it is listed
abbrev pub one_more_call : CallCount → CallCount
one_more_call t = record {
  fail = t.fail;
  calls = raised t.calls;
  faults = if list_any (λ n. n == raised t.calls) t.fail then raised t.faults else t.faults;
}

-- the first half of the bytes, rounded down
abbrev pub half : List ℕ → List ℕ
half bytes = take (length bytes / 2) bytes

-- what a folder holds, and its calls
pub record CountedFiles : Type 0 where
  pub files : Files
  pub count : CallCount

-- a count is stored as its three parts
abbrev pub call_count_code : Coded CallCount
call_count_code =
    code_by (List ℕ × (ℕ × ℕ)) (coded× (coded_list coded_ℕ) (coded× coded_ℕ coded_ℕ))
    (λ t. (t.fail, (t.calls, t.faults)))
    (λ p. record { fail = p.0; calls = p.1.0; faults = p.1.1 }) (λ _. refl)

abbrev pub counted_files_code : Coded CountedFiles
counted_files_code =
    code_by (Files × CallCount) (coded× files_code call_count_code)
    (λ t. (t.files, t.count)) (λ p. record { files = p.0; count = p.1 }) (λ _. refl)

-- what a sink holds, and its calls
pub record CountedBytes : Type 0 where
  pub bytes : List ℕ
  pub count : CallCount
