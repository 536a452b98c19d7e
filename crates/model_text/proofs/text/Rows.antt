-- Worked rows: fields and words as draw(3), mouse(3) and rio(4) have them.
use Rattle.std.proofs.Common.{◌≡◌, pos, negsuc, codes, Some, None, refl}
use Rattle.std.specs.Fmt.{digits}
use Rattle.model_text.specs.text.Field.{field, number_field, number, read_field}
use Rattle.model_text.specs.text.Word.{next_word}

word_field : field (codes "x8r8g8b8") ≡ codes "   x8r8g8b8 "
unfolding field
word_field = refl

negative_field : number_field (negsuc 19) ≡ codes "        -20 "
unfolding field digits
negative_field = refl

reads_field : read_field (codes "        -20 rest") ≡ Some (negsuc 19)
unfolding read_field
reads_field = refl

reads_full_field : read_field (codes "00000000007 ") ≡ Some (pos 7)
unfolding read_field
reads_full_field = refl

no_digit : read_field (codes "          - ") ≡ None
unfolding read_field
no_digit = refl

two_blanks_behind : read_field (codes "        20  ") ≡ None
unfolding read_field
two_blanks_behind = refl

too_short : read_field (codes "        20") ≡ None
unfolding read_field
too_short = refl

seven_digits : number 7 (codes "0120") ≡ Some 120
seven_digits = refl

too_many_digits : number 7 (codes "12345678") ≡ None
too_many_digits = refl

second_word : next_word (codes "new -hide") 3 ≡ Some (4, 9)
unfolding next_word
second_word = refl

rest_of_a_word : next_word (codes "new -hide") 5 ≡ Some (5, 9)
unfolding next_word
rest_of_a_word = refl

no_word : next_word (codes "new  ") 3 ≡ None
unfolding next_word
no_word = refl
