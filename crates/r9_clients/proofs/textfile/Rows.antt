-- Inputs, and the places where bytes are none, by computing.
use Rattle.std.specs.Prelude.{◌≡◌, refl, ℕ, List, [], ◌∷◌, ◌++◌, codes, replicate, take, Ok, Err}
use Rattle.model_text.specs.text.Field.{read_field}
use Rattle.r9_clients.specs.textfile.Input.{input_of, is_origin, parts, placed, side, sized}

-- all that the cases compute with
everything : ℕ
unfolding input_of placed sized parts side is_origin read_field
everything = 0

-- the fields of an image
abbrev fields : (left upper right lower : List ℕ) → List ℕ
fields left upper right lower = codes "         k8 " ++ left ++ upper ++ right ++ lower

-- a font of one pixel for each character
abbrev small : List ℕ
small = fields (codes "          0 ") (codes "          0 ") (codes "         95 ") (codes "          1 ")

abbrev pixels : List ℕ
pixels = 0 ∷ replicate 94 255

whole : input_of (small ++ pixels ++ codes "abcde") ≡ Ok (record { width = 1; height = 1; pixels = pixels; text = codes "abcde" })
unfolding everything
whole = refl

no_text : input_of (small ++ pixels) ≡ Ok (record { width = 1; height = 1; pixels = pixels; text = [] })
unfolding everything
no_text = refl

-- 154 bytes
rows_are_short : input_of (small ++ take 94 pixels) ≡ Err 60
unfolding everything
rows_are_short = refl

empty : input_of [] ≡ Err 0
unfolding everything
empty = refl

other_channels : input_of (codes "k8          " ++ small) ≡ Err 0
unfolding everything
other_channels = refl

from_the_right : input_of (fields (codes "          1 ") (codes "          1 ") (codes "         96 ") (codes "          1 ")) ≡ Err 12
unfolding everything
from_the_right = refl

from_below : input_of (fields (codes "          0 ") (codes "         -1 ") (codes "         94 ") (codes "          1 ")) ≡ Err 24
unfolding everything
from_below = refl

not_all_wide : input_of (fields (codes "          0 ") (codes "          0 ") (codes "         96 ") (codes "          0 ")) ≡ Err 36
unfolding everything
not_all_wide = refl

no_width : input_of (fields (codes "          0 ") (codes "          0 ") (codes "          0 ") (codes "          1 ")) ≡ Err 36
unfolding everything
no_width = refl

too_wide : input_of (fields (codes "          0 ") (codes "          0 ") (codes "        855 ") (codes "          1 ")) ≡ Err 36
unfolding everything
too_wide = refl

no_height : input_of (fields (codes "          0 ") (codes "          0 ") (codes "        760 ") (codes "          0 ")) ≡ Err 48
unfolding everything
no_height = refl

too_high : input_of (fields (codes "          0 ") (codes "          0 ") (codes "        760 ") (codes "         17 ")) ≡ Err 48
unfolding everything
too_high = refl

-- the last field lacks its blank
cut_off : input_of (take 59 small) ≡ Err 48
unfolding everything
cut_off = refl

tallest : input_of (fields (codes "          0 ") (codes "          0 ") (codes "        760 ") (codes "         16 ")) ≡ Err 60
unfolding everything
tallest = refl
