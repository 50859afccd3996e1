-- The words of this crate on small texts, computed.
use Rattle.std.proofs.Common.{◌≡◌, pos, negsuc, true, false, [], ◌∷◌, Some, None, refl}
use Rattle.std.specs.Prelude.{codes}
use Rattle.std.specs.Fmt.{digits}
use Rattle.wave_base.specs.Names.{is_digits, is_word}
use Rattle.wave_base.specs.declared.value.Value.TheVariants.{Str, Map}
use Rattle.wave_text.specs.Lines.{lines_of}
use Rattle.wave_text.specs.Numbers.{whole_of}
use Rattle.wave_text.specs.ValueTexts.{value_text}
use Rattle.wave_text.specs.Words.{is_whole}

words_are : is_word (codes "_a9") ≡ true
words_are = refl

words_are_not : is_word (codes "9a") ≡ false
words_are_not = refl

minus_alone : is_whole (codes "-") ≡ false
minus_alone = refl

no_digits : is_digits [] ≡ false
no_digits = refl

least : whole_of (codes "-9223372036854775808") ≡ Some (negsuc 9223372036854775807)
least = refl

below_least : whole_of (codes "-9223372036854775809") ≡ None
below_least = refl

greatest : whole_of (codes "0009223372036854775807") ≡ Some (pos 9223372036854775807)
greatest = refl

past_greatest : whole_of (codes "9223372036854775808") ≡ None
past_greatest = refl

-- a line feed ends a line, and a carriage return before the end is dropped
three_lines : lines_of (97 ∷ 13 ∷ 10 ∷ 13 ∷ 13 ∷ 10 ∷ 98 ∷ 13 ∷ []) ≡ (97 ∷ []) ∷ (13 ∷ []) ∷ (98 ∷ []) ∷ []
three_lines = refl

one_empty_line : lines_of [] ≡ [] ∷ []
one_empty_line = refl

-- a"b\
escapes : value_text (Str (97 ∷ 34 ∷ 98 ∷ 92 ∷ [])) ≡ 34 ∷ 97 ∷ 92 ∷ 34 ∷ 98 ∷ 92 ∷ 92 ∷ 34 ∷ []
escapes = refl

no_pairs : value_text (Map []) ≡ codes "{}"
no_pairs = refl

two_pairs : value_text (Map ((pos 1, negsuc 4) ∷ (pos 2, pos 6) ∷ [])) ≡ codes "{1: -5, 2: 6}"
unfolding digits
two_pairs = refl
