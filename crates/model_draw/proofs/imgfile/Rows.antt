-- Worked rows of image files.
use Rattle.std.proofs.Common.{◌≡◌, ℕ, refl, pos, codes}
use Rattle.r9_geom.specs.declared.Rect.{Rect}
use Rattle.std.specs.Fmt.{digits}
use Rattle.model_text.specs.text.Field.{field}
use Rattle.model_pixel.specs.Channels.{channels, name}
use Rattle.model_pixel.specs.Rows.{row_bytes}
use Rattle.model_draw.specs.imgfile.ImageFile.{file_header, file_part, image_file, rows_len}

everything : ℕ
unfolding channels name field row_bytes digits
everything = 0

abbrev rect : (left top right bottom : ℕ) → Rect
rect left top right bottom = record { min = record { x = pos left; y = pos top }; max = record { x = pos right; y = pos bottom } }

-- a display of 64 by 48 in x8r8g8b8
display_header : file_header 0x68081828 (rect 0 0 64 48) ≡ codes "   x8r8g8b8           0           0          64          48 "
unfolding everything
display_header = refl

display_rows : rows_len 0x68081828 (rect 0 0 64 48) ≡ 12288
unfolding everything
display_rows = refl

-- three columns of one bit, from the sixth on, in two bytes for each of two rows
narrow_rows : rows_len 0x31 (rect 6 1 9 3) ≡ 4
unfolding everything
narrow_rows = refl

-- a part across the end of the header
across_the_end : file_part (image_file 0x38 (rect 0 0 2 1) (codes "ab")) 58 3 ≡ codes "1 a"
unfolding everything
across_the_end = refl

past_the_end : file_part (image_file 0x38 (rect 0 0 2 1) (codes "ab")) 61 9 ≡ codes "b"
unfolding everything
past_the_end = refl
