-- Worked rows of the definitions, which the check computes.
use Rattle.std.specs.Prelude.{◌≡◌, ℕ, ℤ, pos, negsuc, true, false, [], ◌∷◌, codes, refl}
use Rattle.r9_geom.specs.declared.Rect.{Rect}
use Rattle.model_pixel.specs.Channels.{channels, colour_of, expand, is_descriptor, mask, name, pack, promoted}
use Rattle.model_pixel.specs.Composition.{comp, composed, mul}
use Rattle.model_pixel.specs.Rows.{byte_at, raw_at, row_bytes, row_pixel, rows_of, skip}

abbrev rect : ℤ → ℤ → ℤ → ℤ → Rect
rect left top right bottom = record { min = record { x = left; y = top }; max = record { x = right; y = bottom } }

everything : ℕ
unfolding channels name promoted expand pack mask composed comp raw_at byte_at row_bytes skip rows_of
everything = 0

promoted_1_bits : promoted 1 1 ≡ 255
unfolding everything
promoted_1_bits = refl

promoted_2_bits : promoted 2 2 ≡ 170
unfolding everything
promoted_2_bits = refl

promoted_3_bits : promoted 3 5 ≡ 182
unfolding everything
promoted_3_bits = refl

promoted_4_bits : promoted 4 9 ≡ 153
unfolding everything
promoted_4_bits = refl

promoted_5_bits : promoted 5 17 ≡ 140
unfolding everything
promoted_5_bits = refl

promoted_6_bits : promoted 6 32 ≡ 130
unfolding everything
promoted_6_bits = refl

promoted_7_bits : promoted 7 65 ≡ 131
unfolding everything
promoted_7_bits = refl

promoted_8_bits : promoted 8 77 ≡ 77
unfolding everything
promoted_8_bits = refl

descriptor_x8r8g8b8 : is_descriptor 0x68081828 ≡ true
unfolding everything
descriptor_x8r8g8b8 = refl

descriptor_r5g6b5 : is_descriptor 0x51625 ≡ true
unfolding everything
descriptor_r5g6b5 = refl

descriptor_k1 : is_descriptor 0x31 ≡ true
unfolding everything
descriptor_k1 = refl

descriptor_a8 : is_descriptor 0x48 ≡ true
unfolding everything
descriptor_a8 = refl

descriptor_a8k8 : is_descriptor 0x4838 ≡ true
unfolding everything
descriptor_a8k8 = refl

no_descriptor_colour_map : is_descriptor 0x58 ≡ false
unfolding everything
no_descriptor_colour_map = refl

no_descriptor_lone_red : is_descriptor 0x8 ≡ false
unfolding everything
no_descriptor_lone_red = refl

no_descriptor_red_and_grey : is_descriptor 0x838 ≡ false
unfolding everything
no_descriptor_red_and_grey = refl

no_descriptor_two_alphas : is_descriptor 0x4444 ≡ false
unfolding everything
no_descriptor_two_alphas = refl

no_descriptor_two_ignored : is_descriptor 0x62623264 ≡ false
unfolding everything
no_descriptor_two_ignored = refl

no_descriptor_zero_byte_below : is_descriptor 0x3100 ≡ false
unfolding everything
no_descriptor_zero_byte_below = refl

no_descriptor_nothing : is_descriptor 0x0 ≡ false
unfolding everything
no_descriptor_nothing = refl

no_descriptor_nine_bits : is_descriptor 0x39 ≡ false
unfolding everything
no_descriptor_nine_bits = refl

no_descriptor_depth_of_12 : is_descriptor 0x41424 ≡ false
unfolding everything
no_descriptor_depth_of_12 = refl

-- the first-named channel has the highest byte
named_x8r8g8b8 : name 0x68081828 ≡ codes "x8r8g8b8"
unfolding everything
named_x8r8g8b8 = refl

named_k8 : name 0x38 ≡ codes "k8"
unfolding everything
named_k8 = refl

-- an ignored channel has no part in the colour, and without alpha it is opaque
expanded_x8r8g8b8 : expand 0x68081828 0x11223344 ≡ record { r = 34; g = 51; b = 68; a = 255 }
unfolding everything
expanded_x8r8g8b8 = refl

expanded_r5g6b5 : expand 0x051625 0xf81f ≡ record { r = 255; g = 0; b = 255; a = 255 }
unfolding everything
expanded_r5g6b5 = refl

expanded_k4 : expand 0x34 7 ≡ record { r = 119; g = 119; b = 119; a = 255 }
unfolding everything
expanded_k4 = refl

expanded_a8 : expand 0x48 9 ≡ record { r = 0; g = 0; b = 0; a = 9 }
unfolding everything
expanded_a8 = refl

-- red, green, blue and white in grey
packed_red : pack 0x38 (colour_of 0xff0000ff) ≡ 76
unfolding everything
packed_red = refl

packed_green : pack 0x38 (colour_of 0x00ff00ff) ≡ 149
unfolding everything
packed_green = refl

packed_blue : pack 0x38 (colour_of 0x0000ffff) ≡ 29
unfolding everything
packed_blue = refl

packed_white : pack 0x38 (colour_of 0xffffffff) ≡ 255
unfolding everything
packed_white = refl

-- red 32 beside an ignored 32, which becomes 0
packed_x6r6g6b6 : pack 0x66061626 (expand 0x66061626 0x820000) ≡ 0x020000
unfolding everything
packed_x6r6g6b6 = refl

mask_of_alpha : mask 0x48081828 0x80ffffff ≡ 128
unfolding everything
mask_of_alpha = refl

mask_of_grey : mask 0x68081828 0x00ff0000 ≡ 76
unfolding everything
mask_of_grey = refl

mask_of_bit : mask 0x31 1 ≡ 255
unfolding everything
mask_of_bit = refl

mul_255_255 : mul 255 255 ≡ 255
unfolding everything
mul_255_255 = refl

mul_1_127 : mul 1 127 ≡ 0
unfolding everything
mul_1_127 = refl

mul_1_128 : mul 1 128 ≡ 1
unfolding everything
mul_1_128 = refl

-- half transparent red and opaque white
composed_SoverD : comp 11 (colour_of 0x80000080) 255 (colour_of 0xffffffff) ≡ record { r = 255; g = 127; b = 127; a = 255 }
unfolding everything
composed_SoverD = refl

composed_DxorS : comp 3 (colour_of 0x80000080) 255 (colour_of 0xffffffff) ≡ record { r = 127; g = 127; b = 127; a = 127 }
unfolding everything
composed_DxorS = refl

composed_DatopS : comp 6 (colour_of 0x80000080) 255 (colour_of 0xffffffff) ≡ record { r = 128; g = 128; b = 128; a = 128 }
unfolding everything
composed_DatopS = refl

composed_S : comp 10 (colour_of 0x80000080) 255 (colour_of 0xffffffff) ≡ record { r = 128; g = 0; b = 0; a = 128 }
unfolding everything
composed_S = refl

composed_Clear : comp 0 (colour_of 0x80000080) 255 (colour_of 0xffffffff) ≡ record { r = 0; g = 0; b = 0; a = 0 }
unfolding everything
composed_Clear = refl

composed_masked_S : comp 10 (colour_of 0x80000080) 128 (colour_of 0xffffffff) ≡ record { r = 64; g = 0; b = 0; a = 64 }
unfolding everything
composed_masked_S = refl

-- a row begins at the byte that holds its first bit, counted from x = 0
bytes_of_a_part : row_bytes (rect (pos 3) (pos 0) (pos 11) (pos 1)) 1 ≡ 2
unfolding everything
bytes_of_a_part = refl

bytes_left_of_0 : row_bytes (rect (negsuc 0) (pos 0) (pos 1) (pos 1)) 1 ≡ 2
unfolding everything
bytes_left_of_0 = refl

bytes_of_colours : row_bytes (rect (negsuc 0) (pos 0) (pos 2) (pos 1)) 24 ≡ 9
unfolding everything
bytes_of_colours = refl

-- a row of no pixels has still the byte that it stands within
bytes_of_nothing : row_bytes (rect (pos 5) (pos 0) (pos 5) (pos 1)) 4 ≡ 1
unfolding everything
bytes_of_nothing = refl

rows_of_ones : rows_of (rect (pos 3) (pos 0) (pos 11) (pos 1)) 1 (λ p. 1) ≡ 31 ∷ 224 ∷ []
unfolding everything
rows_of_ones = refl

rows_of_nibbles : rows_of (rect (negsuc 0) (pos 0) (pos 2) (pos 2)) 4 (λ p. 7) ≡ 7 ∷ 119 ∷ 7 ∷ 119 ∷ []
unfolding everything
rows_of_nibbles = refl

-- larger pixels have their lowest byte first
rows_of_words : rows_of (rect (pos 0) (pos 0) (pos 2) (pos 1)) 16 (λ p. 0x1234) ≡ 52 ∷ 18 ∷ 52 ∷ 18 ∷ []
unfolding everything
rows_of_words = refl

first_pixel : row_pixel (rect (pos 3) (pos 0) (pos 11) (pos 1)) 1 (16 ∷ 32 ∷ []) (record { x = pos 3; y = pos 0 }) ≡ 1
unfolding everything
first_pixel = refl

last_pixel : row_pixel (rect (pos 3) (pos 0) (pos 11) (pos 1)) 1 (16 ∷ 32 ∷ []) (record { x = pos 10; y = pos 0 }) ≡ 1
unfolding everything
last_pixel = refl

lower_pixel : row_pixel (rect (pos 0) (pos 5) (pos 1) (pos 7)) 24 (1 ∷ 2 ∷ 3 ∷ 4 ∷ 5 ∷ 6 ∷ []) (record { x = pos 0; y = pos 6 }) ≡ 0x060504
unfolding everything
lower_pixel = refl
