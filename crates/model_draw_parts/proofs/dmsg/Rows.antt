-- Worked cases, which the check computes.
use Rattle.std.specs.Prelude.{◌≡◌, ℕ, ℤ, pos, negsuc, [], ◌∷◌, refl}
use Rattle.r9_geom.specs.declared.Point.{Point}
use Rattle.r9_geom.specs.declared.Rect.{Rect}
use Rattle.model_draw_parts.specs.dmsg.Message.{LowB, UpA, LowC, LowD, UpD, LowF, UpF, LowI, LowL, UpN, LowN, LowO, UpO, LowR, LowS, UpS, LowT, LowV, LowX, LowY}
use Rattle.model_draw_parts.specs.dmsg.Reading.{IsMessage, IsShort, IsUnknown, IsUnsupported, first_message, behind, byte, short, long, signed_byte, coordinate, point, rect, numbers_of, numbers, some_bytes, name, counted, counted_around, string_head, low_b, up_a, low_c, low_d, up_d, low_f, up_f, low_i, low_l, up_n, low_n, low_o, up_o, low_r, low_s, up_s, low_t, low_v, low_x, low_y}

-- all that the cases compute with
everything : ℕ
unfolding first_message behind byte short long signed_byte coordinate point rect numbers_of numbers some_bytes name counted counted_around string_head low_b up_a low_c low_d up_d low_f up_f low_i low_l up_n low_n low_o up_o low_r low_s up_s low_t low_v low_x low_y
everything = 0

abbrev at : ℤ → ℤ → Point
at x y = record { x = x; y = y }

abbrev from_to : (left top right bottom : ℤ) → Rect
from_to left top right bottom = record { min = at left top; max = at right bottom }

-- an image, with a rectangle that begins left of 0 and above it
reads_b : first_message (98 ∷ 5 ∷ 0 ∷ 0 ∷ 0 ∷ 0 ∷ 0 ∷ 0 ∷ 0 ∷ 2 ∷ 40 ∷ 24 ∷ 8 ∷ 104 ∷ 1 ∷ 255 ∷ 255 ∷ 255 ∷ 255 ∷ 254 ∷ 255 ∷ 255 ∷ 255 ∷ 3 ∷ 0 ∷ 0 ∷ 0 ∷ 4 ∷ 0 ∷ 0 ∷ 0 ∷ 1 ∷ 0 ∷ 0 ∷ 192 ∷ 0 ∷ 0 ∷ 0 ∷ 0 ∷ 255 ∷ 255 ∷ 255 ∷ 63 ∷ 1 ∷ 0 ∷ 0 ∷ 0 ∷ 255 ∷ 0 ∷ 0 ∷ 255 ∷ []) ≡ IsMessage (LowB 5 0 2 0x68081828 1 (from_to (negsuc 0) (negsuc 1) (pos 3) (pos 4)) (from_to (negsuc 1073741822) (pos 0) (pos 1073741823) (pos 1)) 0xff0000ff) []
unfolding everything
reads_b = refl

-- a screen
reads_upper_a : first_message (65 ∷ 1 ∷ 0 ∷ 0 ∷ 0 ∷ 0 ∷ 0 ∷ 0 ∷ 0 ∷ 6 ∷ 0 ∷ 0 ∷ 0 ∷ 1 ∷ []) ≡ IsMessage (UpA 1 0 6 1) []
unfolding everything
reads_upper_a = refl

-- a clip rectangle
reads_c : first_message (99 ∷ 7 ∷ 0 ∷ 0 ∷ 0 ∷ 0 ∷ 0 ∷ 0 ∷ 0 ∷ 0 ∷ 0 ∷ 0 ∷ 0 ∷ 0 ∷ 1 ∷ 0 ∷ 0 ∷ 0 ∷ 1 ∷ 0 ∷ 0 ∷ 0 ∷ []) ≡ IsMessage (LowC 7 0 (from_to (pos 0) (pos 0) (pos 1) (pos 1))) []
unfolding everything
reads_c = refl

-- a drawing
reads_d : first_message (100 ∷ 0 ∷ 0 ∷ 0 ∷ 0 ∷ 5 ∷ 0 ∷ 0 ∷ 0 ∷ 1 ∷ 0 ∷ 0 ∷ 0 ∷ 0 ∷ 0 ∷ 0 ∷ 0 ∷ 0 ∷ 0 ∷ 0 ∷ 0 ∷ 1 ∷ 0 ∷ 0 ∷ 0 ∷ 1 ∷ 0 ∷ 0 ∷ 0 ∷ 2 ∷ 0 ∷ 0 ∷ 0 ∷ 3 ∷ 0 ∷ 0 ∷ 0 ∷ 4 ∷ 0 ∷ 0 ∷ 0 ∷ 5 ∷ 0 ∷ 0 ∷ 0 ∷ []) ≡ IsMessage (LowD 0 5 1 (from_to (pos 0) (pos 0) (pos 1) (pos 1)) (at (pos 2) (pos 3)) (at (pos 4) (pos 5))) []
unfolding everything
reads_d = refl

-- a flag
reads_upper_d : first_message (68 ∷ 1 ∷ []) ≡ IsMessage (UpD 1) []
unfolding everything
reads_upper_d = refl

-- an image id freed, and a letter behind it
reads_f : first_message (102 ∷ 2 ∷ 1 ∷ 0 ∷ 0 ∷ 118 ∷ []) ≡ IsMessage (LowF 258) (118 ∷ [])
unfolding everything
reads_f = refl

-- a screen id freed
reads_upper_f : first_message (70 ∷ 3 ∷ 0 ∷ 0 ∷ 0 ∷ []) ≡ IsMessage (UpF 3) []
unfolding everything
reads_upper_f = refl

-- a font
reads_i : first_message (105 ∷ 7 ∷ 0 ∷ 0 ∷ 0 ∷ 1 ∷ 0 ∷ 0 ∷ 0 ∷ 6 ∷ []) ≡ IsMessage (LowI 7 1 6) []
unfolding everything
reads_i = refl

-- a character that is drawn one point left of the pen
reads_l : first_message (108 ∷ 7 ∷ 0 ∷ 0 ∷ 0 ∷ 2 ∷ 0 ∷ 0 ∷ 0 ∷ 3 ∷ 1 ∷ 0 ∷ 0 ∷ 0 ∷ 0 ∷ 0 ∷ 0 ∷ 0 ∷ 0 ∷ 3 ∷ 0 ∷ 0 ∷ 0 ∷ 8 ∷ 0 ∷ 0 ∷ 0 ∷ 0 ∷ 0 ∷ 0 ∷ 0 ∷ 0 ∷ 0 ∷ 0 ∷ 0 ∷ 255 ∷ 5 ∷ []) ≡ IsMessage (LowL 7 2 259 (from_to (pos 0) (pos 0) (pos 3) (pos 8)) (at (pos 0) (pos 0)) (negsuc 0) 5) []
unfolding everything
reads_l = refl

-- a name tied
reads_upper_n : first_message (78 ∷ 9 ∷ 0 ∷ 0 ∷ 0 ∷ 1 ∷ 3 ∷ 112 ∷ 105 ∷ 99 ∷ []) ≡ IsMessage (UpN 9 1 (112 ∷ 105 ∷ 99 ∷ [])) []
unfolding everything
reads_upper_n = refl

-- a name without bytes
reads_n : first_message (110 ∷ 1 ∷ 0 ∷ 0 ∷ 0 ∷ 0 ∷ []) ≡ IsMessage (LowN 1 []) []
unfolding everything
reads_n = refl

-- a window moved
reads_o : first_message (111 ∷ 20 ∷ 0 ∷ 0 ∷ 0 ∷ 40 ∷ 0 ∷ 0 ∷ 0 ∷ 0 ∷ 0 ∷ 0 ∷ 0 ∷ 20 ∷ 0 ∷ 0 ∷ 0 ∷ 255 ∷ 255 ∷ 255 ∷ 255 ∷ []) ≡ IsMessage (LowO 20 (at (pos 40) (pos 0)) (at (pos 20) (negsuc 0))) []
unfolding everything
reads_o = refl

-- an operator
reads_upper_o : first_message (79 ∷ 10 ∷ []) ≡ IsMessage (UpO 10) []
unfolding everything
reads_upper_o = refl

-- pixels read
reads_r : first_message (114 ∷ 22 ∷ 0 ∷ 0 ∷ 0 ∷ 66 ∷ 0 ∷ 0 ∷ 0 ∷ 2 ∷ 0 ∷ 0 ∷ 0 ∷ 67 ∷ 0 ∷ 0 ∷ 0 ∷ 3 ∷ 0 ∷ 0 ∷ 0 ∷ []) ≡ IsMessage (LowR 22 (from_to (pos 66) (pos 2) (pos 67) (pos 3))) []
unfolding everything
reads_r = refl

-- a string of two characters
reads_s : first_message (115 ∷ 0 ∷ 0 ∷ 0 ∷ 0 ∷ 6 ∷ 0 ∷ 0 ∷ 0 ∷ 7 ∷ 0 ∷ 0 ∷ 0 ∷ 10 ∷ 0 ∷ 0 ∷ 0 ∷ 20 ∷ 0 ∷ 0 ∷ 0 ∷ 0 ∷ 0 ∷ 0 ∷ 0 ∷ 0 ∷ 0 ∷ 0 ∷ 0 ∷ 64 ∷ 0 ∷ 0 ∷ 0 ∷ 48 ∷ 0 ∷ 0 ∷ 0 ∷ 0 ∷ 0 ∷ 0 ∷ 0 ∷ 0 ∷ 0 ∷ 0 ∷ 0 ∷ 2 ∷ 0 ∷ 0 ∷ 0 ∷ 1 ∷ 2 ∷ []) ≡ IsMessage (LowS (record { dstid = 0; srcid = 6; fontid = 7; p = (at (pos 10) (pos 20)); clipr = (from_to (pos 0) (pos 0) (pos 64) (pos 48)); sp = (at (pos 0) (pos 0)); indices = 0 ∷ 513 ∷ [] })) []
unfolding everything
reads_s = refl

-- a public screen
reads_upper_s : first_message (83 ∷ 3 ∷ 0 ∷ 0 ∷ 0 ∷ 40 ∷ 24 ∷ 8 ∷ 104 ∷ []) ≡ IsMessage (UpS 3 0x68081828) []
unfolding everything
reads_upper_s = refl

-- a window to the top
reads_t : first_message (116 ∷ 1 ∷ 1 ∷ 0 ∷ 10 ∷ 0 ∷ 0 ∷ 0 ∷ []) ≡ IsMessage (LowT 1 (10 ∷ [])) []
unfolding everything
reads_t = refl

-- what was drawn is shown
reads_v : first_message (118 ∷ []) ≡ IsMessage (LowV) []
unfolding everything
reads_v = refl

-- a string on a background
reads_x : first_message (120 ∷ 0 ∷ 0 ∷ 0 ∷ 0 ∷ 6 ∷ 0 ∷ 0 ∷ 0 ∷ 7 ∷ 0 ∷ 0 ∷ 0 ∷ 10 ∷ 0 ∷ 0 ∷ 0 ∷ 20 ∷ 0 ∷ 0 ∷ 0 ∷ 0 ∷ 0 ∷ 0 ∷ 0 ∷ 0 ∷ 0 ∷ 0 ∷ 0 ∷ 64 ∷ 0 ∷ 0 ∷ 0 ∷ 48 ∷ 0 ∷ 0 ∷ 0 ∷ 0 ∷ 0 ∷ 0 ∷ 0 ∷ 0 ∷ 0 ∷ 0 ∷ 0 ∷ 1 ∷ 0 ∷ 8 ∷ 0 ∷ 0 ∷ 0 ∷ 1 ∷ 0 ∷ 0 ∷ 0 ∷ 2 ∷ 0 ∷ 0 ∷ 0 ∷ 0 ∷ 0 ∷ []) ≡ IsMessage (LowX (record { dstid = 0; srcid = 6; fontid = 7; p = (at (pos 10) (pos 20)); clipr = (from_to (pos 0) (pos 0) (pos 64) (pos 48)); sp = (at (pos 0) (pos 0)); indices = 0 ∷ [] }) 8 (at (pos 1) (pos 2))) []
unfolding everything
reads_x = refl

-- the head of pixels written, with the rows behind it
reads_y : first_message (121 ∷ 8 ∷ 0 ∷ 0 ∷ 0 ∷ 0 ∷ 0 ∷ 0 ∷ 0 ∷ 0 ∷ 0 ∷ 0 ∷ 0 ∷ 1 ∷ 0 ∷ 0 ∷ 0 ∷ 4 ∷ 0 ∷ 0 ∷ 0 ∷ 1 ∷ 2 ∷ 3 ∷ 4 ∷ []) ≡ IsMessage (LowY 8 (from_to (pos 0) (pos 0) (pos 1) (pos 4))) (1 ∷ 2 ∷ 3 ∷ 4 ∷ [])
unfolding everything
reads_y = refl

-- no byte
reads_nothing : first_message ([]) ≡ IsShort
unfolding everything
reads_nothing = refl

-- a number cut off
reads_short_long : first_message (102 ∷ 5 ∷ 0 ∷ 0 ∷ []) ≡ IsShort
unfolding everything
reads_short_long = refl

-- a name cut off
reads_short_name : first_message (78 ∷ 9 ∷ 0 ∷ 0 ∷ 0 ∷ 1 ∷ 3 ∷ 112 ∷ 105 ∷ []) ≡ IsShort
unfolding everything
reads_short_name = refl

-- ids cut off
reads_short_ids : first_message (116 ∷ 1 ∷ 2 ∷ 0 ∷ 10 ∷ 0 ∷ 0 ∷ 0 ∷ []) ≡ IsShort
unfolding everything
reads_short_ids = refl

-- indices cut off
reads_short_indices : first_message (115 ∷ 0 ∷ 0 ∷ 0 ∷ 0 ∷ 6 ∷ 0 ∷ 0 ∷ 0 ∷ 7 ∷ 0 ∷ 0 ∷ 0 ∷ 10 ∷ 0 ∷ 0 ∷ 0 ∷ 20 ∷ 0 ∷ 0 ∷ 0 ∷ 0 ∷ 0 ∷ 0 ∷ 0 ∷ 0 ∷ 0 ∷ 0 ∷ 0 ∷ 64 ∷ 0 ∷ 0 ∷ 0 ∷ 48 ∷ 0 ∷ 0 ∷ 0 ∷ 0 ∷ 0 ∷ 0 ∷ 0 ∷ 0 ∷ 0 ∷ 0 ∷ 0 ∷ 2 ∷ 0 ∷ 0 ∷ 0 ∷ []) ≡ IsShort
unfolding everything
reads_short_indices = refl

-- a letter of no message
reads_unknown : first_message (113 ∷ 1 ∷ 0 ∷ 0 ∷ 0 ∷ []) ≡ IsUnknown
unfolding everything
reads_unknown = refl

-- a letter in the other case
reads_unknown_small : first_message (86 ∷ []) ≡ IsUnknown
unfolding everything
reads_unknown_small = refl

-- Y is left out, whatever stands behind it
reads_left_out_y : first_message (89 ∷ []) ≡ IsUnsupported
unfolding everything
reads_left_out_y = refl

-- L is left out, whatever stands behind it
reads_left_out_l : first_message (76 ∷ []) ≡ IsUnsupported
unfolding everything
reads_left_out_l = refl

-- e is left out, whatever stands behind it
reads_left_out_small_e : first_message (101 ∷ []) ≡ IsUnsupported
unfolding everything
reads_left_out_small_e = refl

-- E is left out, whatever stands behind it
reads_left_out_e : first_message (69 ∷ []) ≡ IsUnsupported
unfolding everything
reads_left_out_e = refl

-- p is left out, whatever stands behind it
reads_left_out_small_p : first_message (112 ∷ []) ≡ IsUnsupported
unfolding everything
reads_left_out_small_p = refl

-- P is left out, whatever stands behind it
reads_left_out_p : first_message (80 ∷ []) ≡ IsUnsupported
unfolding everything
reads_left_out_p = refl
