-- The numbers that the values of options are.
use Rattle.std.specs.Prelude.{ℕ, ◌&&◌, nat_le, Bool, false, if◌then◌else◌, List, [], ◌∷◌, Option, None, Some}
use Rattle.std.specs.List.{list_all}
use Rattle.std.specs.Char.{is_digit}
use Rattle.std.specs.Str.Parse.{digits_value}

-- one or more decimal digits, and nothing else
abbrev pub is_number : List ℕ → Bool
is_number [] = false
is_number (b ∷ bs) = list_all (λ c. is_digit c 10) (b ∷ bs)

-- the number is from the least to the most
abbrev pub is_between : ℕ → ℕ → ℕ → Bool
is_between least most n = nat_le least n && nat_le n most

-- the number of the digits, where it is within the limits; leading zeros are allowed
abbrev pub number_in : ℕ → ℕ → List ℕ → Option ℕ
number_in least most text =
    if is_number text && is_between least most (digits_value 10 text)
    then Some (digits_value 10 text) else None
