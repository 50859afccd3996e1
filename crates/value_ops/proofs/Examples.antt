-- Each row at its edges, computed.
use Rattle.std.proofs.Common.{◌≡◌, pos, negsuc, true, false, [], ◌∷◌, Some, None, Ok, Err, map, replicate, refl}
use Rattle.std.specs.Prelude.{codes}
use Rattle.std.specs.Fmt.{digits}
use Rattle.wave_base.specs.declared.trap.TrapKind.TheVariants.{Overflow, DivZero, Absent, TooLong}
use Rattle.wave_base.specs.declared.value.Value.TheVariants.{Int, Bool as Flag, Str, Map}
use Rattle.wave_base.specs.Operators.{first_names, operator_names}
use Rattle.value_ops.specs.Operators.{operators, apply_row}
use Rattle.value_ops.specs.Rows.{wave_rows, wave_rows_2, first_builtin}

add_top : apply_row 0 (Int (pos 9223372036854775806) ∷ Int (pos 1) ∷ []) ≡ Ok (Int (pos 9223372036854775807))
unfolding apply_row operators
add_top = refl

add_past : apply_row 0 (Int (pos 9223372036854775807) ∷ Int (pos 1) ∷ []) ≡ Err Overflow
unfolding apply_row operators
add_past = refl

sub_least : apply_row 1 (Int (negsuc 0) ∷ Int (pos 9223372036854775807) ∷ []) ≡ Ok (Int (negsuc 9223372036854775807))
unfolding apply_row operators
sub_least = refl

sub_past : apply_row 1 (Int (negsuc 9223372036854775807) ∷ Int (pos 1) ∷ []) ≡ Err Overflow
unfolding apply_row operators
sub_past = refl

mul_signs : apply_row 2 (Int (negsuc 2) ∷ Int (pos 4) ∷ []) ≡ Ok (Int (negsuc 11))
unfolding apply_row operators
mul_signs = refl

mul_past : apply_row 2 (Int (pos 4294967296) ∷ Int (pos 2147483648) ∷ []) ≡ Err Overflow
unfolding apply_row operators
mul_past = refl

mul_least : apply_row 2 (Int (negsuc 4294967295) ∷ Int (pos 2147483648) ∷ []) ≡ Ok (Int (negsuc 9223372036854775807))
unfolding apply_row operators
mul_least = refl

div_towards_zero : apply_row 3 (Int (pos 7) ∷ Int (negsuc 1) ∷ []) ≡ Ok (Int (negsuc 2))
unfolding apply_row operators
div_towards_zero = refl

div_by_zero : apply_row 3 (Int (pos 1) ∷ Int (pos 0) ∷ []) ≡ Err DivZero
unfolding apply_row operators
div_by_zero = refl

div_least : apply_row 3 (Int (negsuc 9223372036854775807) ∷ Int (negsuc 0) ∷ []) ≡ Err Overflow
unfolding apply_row operators
div_least = refl

rem_sign : apply_row 4 (Int (negsuc 6) ∷ Int (pos 2) ∷ []) ≡ Ok (Int (negsuc 0))
unfolding apply_row operators
rem_sign = refl

rem_of_positive : apply_row 4 (Int (pos 7) ∷ Int (negsuc 1) ∷ []) ≡ Ok (Int (pos 1))
unfolding apply_row operators
rem_of_positive = refl

rem_by_zero : apply_row 4 (Int (pos 0) ∷ Int (pos 0) ∷ []) ≡ Err DivZero
unfolding apply_row operators
rem_by_zero = refl

rem_least : apply_row 4 (Int (negsuc 9223372036854775807) ∷ Int (negsuc 0) ∷ []) ≡ Err Overflow
unfolding apply_row operators
rem_least = refl

neg_top : apply_row 5 (Int (pos 9223372036854775807) ∷ []) ≡ Ok (Int (negsuc 9223372036854775806))
unfolding apply_row operators
neg_top = refl

neg_least : apply_row 5 (Int (negsuc 9223372036854775807) ∷ []) ≡ Err Overflow
unfolding apply_row operators
neg_least = refl

not_true : apply_row 6 (Flag true ∷ []) ≡ Ok (Flag false)
unfolding apply_row operators
not_true = refl

eq_same : apply_row 7 (Int (negsuc 4) ∷ Int (negsuc 4) ∷ []) ≡ Ok (Flag true)
unfolding apply_row operators
eq_same = refl

ne_sign : apply_row 8 (Int (pos 5) ∷ Int (negsuc 4) ∷ []) ≡ Ok (Flag true)
unfolding apply_row operators
ne_sign = refl

lt_sign : apply_row 9 (Int (negsuc 0) ∷ Int (pos 0) ∷ []) ≡ Ok (Flag true)
unfolding apply_row operators
lt_sign = refl

le_same : apply_row 10 (Int (pos 3) ∷ Int (pos 3) ∷ []) ≡ Ok (Flag true)
unfolding apply_row operators
le_same = refl

gt_same : apply_row 11 (Int (pos 3) ∷ Int (pos 3) ∷ []) ≡ Ok (Flag false)
unfolding apply_row operators
gt_same = refl

ge_less : apply_row 12 (Int (negsuc 9223372036854775807) ∷ Int (pos 9223372036854775807) ∷ []) ≡ Ok (Flag false)
unfolding apply_row operators
ge_less = refl

beq_false : apply_row 13 (Flag false ∷ Flag false ∷ []) ≡ Ok (Flag true)
unfolding apply_row operators
beq_false = refl

bne_same : apply_row 14 (Flag true ∷ Flag true ∷ []) ≡ Ok (Flag false)
unfolding apply_row operators
bne_same = refl

teq_case : apply_row 15 (Str (codes "Ab") ∷ Str (codes "ab") ∷ []) ≡ Ok (Flag false)
unfolding apply_row operators
teq_case = refl

tne_prefix : apply_row 16 (Str (codes "a") ∷ Str (codes "ab") ∷ []) ≡ Ok (Flag true)
unfolding apply_row operators
tne_prefix = refl

tlt_by_bytes : apply_row 17 (Str (codes "Zebra") ∷ Str (codes "ant") ∷ []) ≡ Ok (Flag true)
unfolding apply_row operators
tlt_by_bytes = refl

tlt_not_by_length : apply_row 17 (Str (codes "b") ∷ Str (codes "aa") ∷ []) ≡ Ok (Flag false)
unfolding apply_row operators
tlt_not_by_length = refl

tlt_prefix : apply_row 17 (Str (codes "an") ∷ Str (codes "ant") ∷ []) ≡ Ok (Flag true)
unfolding apply_row operators
tlt_prefix = refl

cat_both : apply_row 18 (Str (codes "ab") ∷ Str (codes "cd") ∷ []) ≡ Ok (Str (codes "abcd"))
unfolding apply_row operators
cat_both = refl

cat_longest : apply_row 18 (Str (replicate 999 97) ∷ Str (codes "a") ∷ []) ≡ Ok (Str (replicate 1000 97))
unfolding apply_row operators
cat_longest = refl

cat_too_long : apply_row 18 (Str (replicate 999 97) ∷ Str (codes "aa") ∷ []) ≡ Err TooLong
unfolding apply_row operators
cat_too_long = refl

at_there : apply_row 19 (Map ((negsuc 2, pos 1) ∷ (pos 2, pos 7) ∷ []) ∷ Int (negsuc 2) ∷ []) ≡ Ok (Int (pos 1))
unfolding apply_row operators
at_there = refl

at_absent : apply_row 19 (Map ((negsuc 2, pos 1) ∷ (pos 2, pos 7) ∷ []) ∷ Int (pos 3) ∷ []) ≡ Err Absent
unfolding apply_row operators
at_absent = refl

put_between : apply_row 20 (Map ((negsuc 2, pos 1) ∷ (pos 2, pos 7) ∷ []) ∷ Int (pos 0) ∷ Int (pos 9) ∷ []) ≡ Ok (Map ((negsuc 2, pos 1) ∷ (pos 0, pos 9) ∷ (pos 2, pos 7) ∷ []))
unfolding apply_row operators
put_between = refl

put_over : apply_row 20 (Map ((negsuc 2, pos 1) ∷ (pos 2, pos 7) ∷ []) ∷ Int (pos 2) ∷ Int (pos 8) ∷ []) ≡ Ok (Map ((negsuc 2, pos 1) ∷ (pos 2, pos 8) ∷ []))
unfolding apply_row operators
put_over = refl

cut_there : apply_row 21 (Map ((negsuc 2, pos 1) ∷ (pos 2, pos 7) ∷ []) ∷ Int (negsuc 2) ∷ []) ≡ Ok (Map ((pos 2, pos 7) ∷ []))
unfolding apply_row operators
cut_there = refl

cut_absent : apply_row 21 (Map ((negsuc 2, pos 1) ∷ (pos 2, pos 7) ∷ []) ∷ Int (pos 4) ∷ []) ≡ Ok (Map ((negsuc 2, pos 1) ∷ (pos 2, pos 7) ∷ []))
unfolding apply_row operators
cut_absent = refl

has_key_only : apply_row 22 (Map ((negsuc 2, pos 1) ∷ (pos 2, pos 7) ∷ []) ∷ Int (pos 7) ∷ []) ≡ Ok (Flag false)
unfolding apply_row operators
has_key_only = refl

size_two : apply_row 23 (Map ((negsuc 2, pos 1) ∷ (pos 2, pos 7) ∷ []) ∷ []) ≡ Ok (Int (pos 2))
unfolding apply_row operators
size_two = refl

key_first : apply_row 24 (Map ((negsuc 2, pos 1) ∷ (pos 2, pos 7) ∷ []) ∷ Int (pos 0) ∷ []) ≡ Ok (Int (negsuc 2))
unfolding apply_row operators
key_first = refl

key_past : apply_row 24 (Map ((negsuc 2, pos 1) ∷ (pos 2, pos 7) ∷ []) ∷ Int (pos 2) ∷ []) ≡ Err Absent
unfolding apply_row operators
key_past = refl

key_before : apply_row 24 (Map ((negsuc 2, pos 1) ∷ (pos 2, pos 7) ∷ []) ∷ Int (negsuc 0) ∷ []) ≡ Err Absent
unfolding apply_row operators
key_before = refl

len_three : apply_row 25 (Str (codes "abc") ∷ []) ≡ Ok (Int (pos 3))
unfolding apply_row operators
len_three = refl

str_least : apply_row 26 (Int (negsuc 9223372036854775807) ∷ []) ≡ Ok (Str (codes "-9223372036854775808"))
unfolding apply_row operators digits
str_least = refl

str_zero : apply_row 26 (Int (pos 0) ∷ []) ≡ Ok (Str (codes "0"))
unfolding apply_row operators digits
str_zero = refl

part_middle : apply_row 27 (Str (codes "abcd") ∷ Int (pos 1) ∷ Int (pos 3) ∷ []) ≡ Ok (Str (codes "bc"))
unfolding apply_row operators
part_middle = refl

part_empty : apply_row 27 (Str (codes "abcd") ∷ Int (pos 4) ∷ Int (pos 4) ∷ []) ≡ Ok (Str (codes ""))
unfolding apply_row operators
part_empty = refl

part_past : apply_row 27 (Str (codes "abcd") ∷ Int (pos 2) ∷ Int (pos 5) ∷ []) ≡ Err Absent
unfolding apply_row operators
part_past = refl

part_turned : apply_row 27 (Str (codes "abcd") ∷ Int (pos 3) ∷ Int (pos 2) ∷ []) ≡ Err Absent
unfolding apply_row operators
part_turned = refl

part_before : apply_row 27 (Str (codes "abcd") ∷ Int (negsuc 0) ∷ Int (pos 2) ∷ []) ≡ Err Absent
unfolding apply_row operators
part_before = refl

min_signs : apply_row 28 (Int (negsuc 4) ∷ Int (pos 3) ∷ []) ≡ Ok (Int (negsuc 4))
unfolding apply_row operators
min_signs = refl

min_least : apply_row 28 (Int (pos 9223372036854775807) ∷ Int (negsuc 9223372036854775807) ∷ []) ≡ Ok (Int (negsuc 9223372036854775807))
unfolding apply_row operators
min_least = refl

max_signs : apply_row 29 (Int (negsuc 4) ∷ Int (pos 3) ∷ []) ≡ Ok (Int (pos 3))
unfolding apply_row operators
max_signs = refl

max_same : apply_row 29 (Int (negsuc 9223372036854775807) ∷ Int (negsuc 9223372036854775807) ∷ []) ≡ Ok (Int (negsuc 9223372036854775807))
unfolding apply_row operators
max_same = refl

abs_next : apply_row 30 (Int (negsuc 9223372036854775806) ∷ []) ≡ Ok (Int (pos 9223372036854775807))
unfolding apply_row operators
abs_next = refl

abs_least : apply_row 30 (Int (negsuc 9223372036854775807) ∷ []) ≡ Err Overflow
unfolding apply_row operators
abs_least = refl

sum_none : apply_row 31 (Map [] ∷ []) ≡ Ok (Int (pos 0))
unfolding apply_row operators
sum_none = refl

sum_values : apply_row 31 (Map ((negsuc 2, pos 1) ∷ (pos 2, negsuc 7) ∷ []) ∷ []) ≡ Ok (Int (negsuc 6))
unfolding apply_row operators
sum_values = refl

sum_comes_back : apply_row 31 (Map ((pos 0, pos 9223372036854775807) ∷ (pos 1, pos 1) ∷ (pos 2, negsuc 0) ∷ []) ∷ []) ≡ Ok (Int (pos 9223372036854775807))
unfolding apply_row operators
sum_comes_back = refl

sum_past : apply_row 31 (Map ((pos 0, pos 9223372036854775807) ∷ (pos 1, pos 1) ∷ []) ∷ []) ≡ Err Overflow
unfolding apply_row operators
sum_past = refl

sum_least : apply_row 31 (Map ((pos 0, negsuc 9223372036854775807) ∷ (pos 1, negsuc 0) ∷ []) ∷ []) ≡ Err Overflow
unfolding apply_row operators
sum_least = refl

starts_whole : apply_row 32 (Str (codes "ant") ∷ Str (codes "ant") ∷ []) ≡ Ok (Flag true)
unfolding apply_row operators
starts_whole = refl

starts_empty : apply_row 32 (Str (codes "") ∷ Str (codes "") ∷ []) ≡ Ok (Flag true)
unfolding apply_row operators
starts_empty = refl

starts_longer : apply_row 32 (Str (codes "an") ∷ Str (codes "ant") ∷ []) ≡ Ok (Flag false)
unfolding apply_row operators
starts_longer = refl

starts_other : apply_row 32 (Str (codes "ant") ∷ Str (codes "at") ∷ []) ≡ Ok (Flag false)
unfolding apply_row operators
starts_other = refl

num_zeros : apply_row 33 (Str (codes "-007") ∷ []) ≡ Ok (Int (negsuc 6))
unfolding apply_row operators
num_zeros = refl

num_least : apply_row 33 (Str (codes "-9223372036854775808") ∷ []) ≡ Ok (Int (negsuc 9223372036854775807))
unfolding apply_row operators
num_least = refl

num_past : apply_row 33 (Str (codes "9223372036854775808") ∷ []) ≡ Err Overflow
unfolding apply_row operators
num_past = refl

num_plus : apply_row 33 (Str (codes "+7") ∷ []) ≡ Err Absent
unfolding apply_row operators
num_plus = refl

num_minus_alone : apply_row 33 (Str (codes "-") ∷ []) ≡ Err Absent
unfolding apply_row operators
num_minus_alone = refl

num_empty : apply_row 33 (Str (codes "") ∷ []) ≡ Err Absent
unfolding apply_row operators
num_empty = refl

num_other : apply_row 33 (Str (codes "7a") ∷ []) ≡ Err Absent
unfolding apply_row operators
num_other = refl

num_twenty_digits : apply_row 33 (Str (codes "00000000000000000007") ∷ []) ≡ Err Absent
unfolding apply_row operators
num_twenty_digits = refl

-- each row has its operator's name
row_names : map (λ r. r.name) wave_rows ≡ first_names
unfolding wave_rows operators
row_names = refl

find_part : first_builtin wave_rows (codes "part") ≡ Some 27
unfolding wave_rows operators
find_part = refl

find_put : first_builtin wave_rows (codes "put") ≡ None
unfolding wave_rows operators
find_put = refl

-- and in version 2
row_names_2 : map (λ r. r.name) wave_rows_2 ≡ operator_names
unfolding wave_rows_2 operators
row_names_2 = refl

find_part_2 : first_builtin wave_rows_2 (codes "part") ≡ Some 27
unfolding wave_rows_2 operators
find_part_2 = refl

find_num_2 : first_builtin wave_rows_2 (codes "num") ≡ Some 33
unfolding wave_rows_2 operators
find_num_2 = refl

find_num : first_builtin wave_rows (codes "num") ≡ None
unfolding wave_rows operators
find_num = refl
