-- How long the header of a file is.
use Rattle.std.proofs.Common.{◌≡◌, ◌≤◌, ◌-◌, ◌^◌, ℕ, zero, suc, List, [], ◌∷◌, ◌++◌, length, replicate, Bool, true, false, length-append, arith}
use Rattle.std.specs.Prelude.{◌==◌, if◌then◌else◌, ◌/◌, ◌%◌, ◌≤ℤ◌, pos, negsuc, neg_ℤ, ℤ}
use Rattle.std.specs.Fmt.{decimal, signed_decimal}
use Rattle.std.proofs.lemmas.Fmt.{length-decimal-le}
use Rattle.std.proofs.lemmas.Bool.Decides.{nat_tests}
use Rattle.std.proofs.lemmas.Int.{ints, to_z-of_z}
use Rattle.std.proofs.Common.{to_z, of_z, w64}
use Rattle.std.proofs.lemmas.List.{length-map, length-replicate}
use Rattle.r9_geom.specs.declared.Rect.{Rect}
use Rattle.r9_geom.specs.Geometry.{IsRectNearBy}
use Rattle.model_text.specs.text.Field.{field, number_field}
use Rattle.model_pixel.specs.Channels.{bytes_up_to, channel, channels, is_depth, name}
use Rattle.r9_chan.proofs.NameLemmas.{length-named}
use Rattle.model_draw.specs.imgfile.ImageFile.{file_header}

pub length-field : (text : List ℕ) → length text ≤ 11 → length (field text) ≡ 12
unfolding field
length-field text h =
    omega (
      arith,
      length-append (replicate (11 - length text) 32 ++ text) (32 ∷ []),
      length-append (replicate (11 - length text) 32) text,
      length-replicate {A = ℕ} (11 - length text) 32,
    )

if_more : (none : Bool) (rest : List ℕ) (byte most : ℕ) → length rest ≤ most → length (if none then [] else byte ∷ rest) ≤ suc most
if_more true rest byte most h = omega arith
if_more false rest byte most h = omega arith

length-bytes_up_to : (most word : ℕ) → length (bytes_up_to most word) ≤ most
length-bytes_up_to zero word = omega arith
length-bytes_up_to (suc most) word =
    if_more (word == 0) (bytes_up_to most (word / 256)) (word % 256) most (length-bytes_up_to most (word / 256))

pub length-name : (word : ℕ) → length (name word) ≤ 8
unfolding name channels
length-name word =
    omega (arith, length-named (channels word), length-map (bytes_up_to 4 word) channel, length-bytes_up_to 4 word)

-- a coordinate fits in a field
pub short : (n : ℤ) → neg_ℤ (pos (2 ^ 33)) ≤ℤ n → n ≤ℤ pos (2 ^ 33) → length (signed_decimal n) ≤ 11
short (pos n) low high =
    let small : n ≤ 2 ^ 33 = omega (arith, ints) in length-decimal-le 11 n (omega arith) (omega arith) (omega arith)
short (negsuc n) low high =
    let small : suc n ≤ 2 ^ 33 = omega (arith, ints) in
    let digits : length (decimal (suc n)) ≤ 10 = length-decimal-le 10 (suc n) (omega arith) (omega arith) (omega arith) in
    omega arith

pub length-file_header : (chan : ℕ) (r : Rect) → IsRectNearBy (2 ^ 33) r → length (file_header chan r) ≡ 60
length-file_header chan r near =
    let left = number_field r.min.x in
    let top = number_field r.min.y in
    let right = number_field r.max.x in
    let bottom = number_field r.max.y in
    omega (
      arith,
      length-append (field (name chan)) (left ++ top ++ right ++ bottom),
      length-append (left ++ top ++ right) bottom,
      length-append (left ++ top) right,
      length-append left top,
      length-field (name chan) (omega (arith, length-name chan)),
      length-field (signed_decimal r.min.x) (short r.min.x near.min.left near.min.right),
      length-field (signed_decimal r.min.y) (short r.min.y near.min.top near.min.bottom),
      length-field (signed_decimal r.max.x) (short r.max.x near.max.left near.max.right),
      length-field (signed_decimal r.max.y) (short r.max.y near.max.top near.max.bottom),
    )

pub depth_most : (depth : ℕ) → is_depth depth ≡ true → depth ≤ 32
depth_most depth h = grind (arith, nat_tests)

-- a coordinate is what its 64 bits say
pub kept : (n : ℤ) → neg_ℤ (pos (2 ^ 33)) ≤ℤ n → n ≤ℤ pos (2 ^ 33) → to_z w64 (of_z w64 n) ≡ n
kept n low high = to_z-of_z w64 n (omega (arith, ints))
