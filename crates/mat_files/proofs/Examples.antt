-- The definitions against texts whose readings are known from elsewhere: each row is computed by the checker.
use Rattle.std.proofs.Common.{◌≡◌, ℕ, ◌++◌, List, [], ◌∷◌, Result, Ok, Err, Some, None, refl, codes, pos, negsuc}
use Rattle.mat_files.specs.Words.{words_of, number_value, count_value}
use Rattle.mat_files.specs.Cells.{Matrix, matrix_of, CapTable, cap_table_of}
use Rattle.mat_files.specs.declared.faults.TextFault.{TextFault}
use Rattle.mat_files.specs.declared.faults.TextFault.TheVariants.{NotNumber, NotCap, OutOfRange, Early, Extra, TooManyRows, TooManyCols, NoCols}

-- up to 64 rows and columns
abbrev reading : List ℕ → Result Matrix TextFault
reading text = matrix_of 64 64 text

too_few_cells : reading (codes "2 2\n1 2 3\n") ≡ Err (Early 10)
too_few_cells = refl

empty_file : reading [] ≡ Err (Early 0)
empty_file = refl

only_white_space : reading (32 ∷ 9 ∷ 11 ∷ 12 ∷ 13 ∷ 10 ∷ []) ≡ Err (Early 6)
only_white_space = refl

only_counts : reading (codes "2 2") ≡ Err (Early 3)
only_counts = refl

number_too_large : reading (codes "1 1\n9223372036854775808") ≡ Err (OutOfRange 4)
number_too_large = refl

number_too_small : reading (codes "1 1\n-9223372036854775808") ≡ Err (OutOfRange 4)
number_too_small = refl

least_number : reading (codes "1 1\n-9223372036854775807") ≡ Ok (record { rows = 1; cols = 1; cells = negsuc 9223372036854775806 ∷ [] })
least_number = refl

greatest_number : reading (codes "1 1\n9223372036854775807") ≡ Ok (record { rows = 1; cols = 1; cells = pos 9223372036854775807 ∷ [] })
greatest_number = refl

count_too_large : reading (codes "9223372036854775808 1") ≡ Err (OutOfRange 0)
count_too_large = refl

number_with_a_tail : reading (codes "1 1\n3x") ≡ Err (NotNumber 4)
number_with_a_tail = refl

one_word_more : reading (codes "1 1\n5 6") ≡ Err (Extra 6)
one_word_more = refl

one_word_more_than_none : reading (codes "0 2\n7") ≡ Err (Extra 4)
one_word_more_than_none = refl

too_many_rows : reading (codes "65 1") ≡ Err (TooManyRows 65)
too_many_rows = refl

too_many_columns : reading (codes "1 65") ≡ Err (TooManyCols 65)
too_many_columns = refl

no_columns : reading (codes "1 0") ≡ Err NoCols
no_columns = refl

no_columns_before_more_words : reading (codes "0 0 5") ≡ Err NoCols
no_columns_before_more_words = refl

rows_before_a_bad_word : reading (codes "65 x") ≡ Err (TooManyRows 65)
rows_before_a_bad_word = refl

count_with_minus : reading (codes "-1 2") ≡ Err (NotNumber 0)
count_with_minus = refl

count_minus_zero : reading (codes "1 -0") ≡ Err (NotNumber 2)
count_minus_zero = refl

odd_white_space : reading (codes " 1  2\r\n   +1   -02\r\n\r\n") ≡ Ok (record { rows = 1; cols = 2; cells = pos 1 ∷ negsuc 1 ∷ [] })
odd_white_space = refl

no_rows : reading (codes "0 3") ≡ Ok (record { rows = 0; cols = 3; cells = [] })
no_rows = refl

byte_order_mark : reading (239 ∷ 187 ∷ 191 ∷ codes "1 1\n5") ≡ Err (NotNumber 0)
byte_order_mark = refl

vertical_tab_and_form_feed : reading (codes "1 2" ++ 11 ∷ 49 ∷ 12 ∷ 50 ∷ []) ≡ Ok (record { rows = 1; cols = 2; cells = pos 1 ∷ pos 2 ∷ [] })
vertical_tab_and_form_feed = refl

-- NUL, the next line's byte and the file separator are no white space
nul_byte : reading (codes "1 2\n1" ++ 0 ∷ codes "2") ≡ Err (NotNumber 4)
nul_byte = refl

next_line_byte : reading (codes "1 2\n1 " ++ 133 ∷ codes "-2") ≡ Err (NotNumber 6)
next_line_byte = refl

separator_byte : reading (codes "1 2\n1" ++ 28 ∷ codes "-2 3") ≡ Err (NotNumber 4)
separator_byte = refl

bare_plus : number_value (codes "+") ≡ None
bare_plus = refl

bare_minus : number_value (codes "-") ≡ None
bare_minus = refl

two_minuses : number_value (codes "--1") ≡ None
two_minuses = refl

two_signs : number_value (codes "+-1") ≡ None
two_signs = refl

minus_zero : number_value (codes "-0") ≡ Some (pos 0)
minus_zero = refl

leading_zeros : number_value (codes "-007") ≡ Some (negsuc 6)
leading_zeros = refl

count_with_plus : count_value (codes "+007") ≡ Some 7
count_with_plus = refl

words_and_places : words_of (codes " ab\tc\n") ≡ record { at = 1; bytes = codes "ab" } ∷ record { at = 4; bytes = codes "c" } ∷ []
words_and_places = refl

-- ---- caps
caps : List ℕ → Result CapTable TextFault
caps text = cap_table_of 64 64 text

a_cap_and_none : caps (codes "1 3\n+0 * 9223372036854775807\n") ≡ Ok (record { rows = 1; cols = 3; cells = Some 0 ∷ None ∷ Some 9223372036854775807 ∷ [] })
unfolding caps
a_cap_and_none = refl

negative_cap : caps (codes "1 2\n-1 *\n") ≡ Err (NotCap 4)
unfolding caps
negative_cap = refl

missing_cap : caps (codes "1 2\n*\n") ≡ Err (Early 6)
unfolding caps
missing_cap = refl

two_stars : caps (codes "1 1\n**") ≡ Err (NotCap 4)
unfolding caps
two_stars = refl

bare_plus_as_cap : caps (codes "1 1\n+") ≡ Err (NotCap 4)
unfolding caps
bare_plus_as_cap = refl

cap_too_large : caps (codes "1 1\n9223372036854775808") ≡ Err (OutOfRange 4)
unfolding caps
cap_too_large = refl
