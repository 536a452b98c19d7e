-- How long the description of an image is.
use Rattle.std.proofs.Common.{◌≡◌, ◌<◌, ◌^◌, ℕ, ◌++◌, length, Bool, true, false, length-append, arith}
use Rattle.std.specs.Prelude.{pos}
use Rattle.std.specs.Fmt.{signed_decimal}
use Rattle.std.proofs.lemmas.Int.{ints}
use Rattle.r9_geom.specs.declared.Rect.{Rect}
use Rattle.r9_geom.specs.Geometry.{IsRectNearBy}
use Rattle.model_text.specs.text.Field.{field, number_field}
use Rattle.model_pixel.specs.Channels.{name}
use Rattle.model_draw.specs.imgfile.ImageFile.{rect_fields}
use Rattle.model_draw.specs.draw.Files.{flag_number}
use Rattle.r9_imgfile.proofs.FileLemmas.{length-field, length-file_header, length-name, short}
use Rattle.r9_locate.specs.declared.info.Info.{Info}
use Rattle.r9_draw.specs.draw.Described.{fields_of}

length-rect_fields : (r : Rect) → IsRectNearBy (2 ^ 33) r → length (rect_fields r) ≡ 48
length-rect_fields r near =
    omega (
      arith,
      length-file_header 0x38 r near,
      length-append (field (name 0x38)) (rect_fields r),
      length-field (name 0x38) (omega (arith, length-name 0x38)),
    )

length-number_field : (n : ℕ) → n < 2 ^ 32 → length (number_field (pos n)) ≡ 12
length-number_field n h =
    length-field (signed_decimal (pos n)) (short (pos n) (omega (arith, ints)) (omega (arith, ints)))

small_flag : (set : Bool) → flag_number set < 2 ^ 32
small_flag true = omega arith
small_flag false = omega arith

pub length-fields_of : (number id : ℕ) (info : Info) → number < 2 ^ 32 → id < 2 ^ 32 → IsRectNearBy (2 ^ 33) info.r → IsRectNearBy (2 ^ 33) info.clipr → length (fields_of number id info) ≡ 144
length-fields_of number id info number_small id_small near clip =
    let number_text = number_field (pos number) in
    let id_text = number_field (pos id) in
    let chan_text = field (name info.chan) in
    let repl = number_field (pos (flag_number info.repl)) in
    omega (
      arith,
      length-append (number_text ++ id_text ++ chan_text ++ repl ++ rect_fields info.r) (rect_fields info.clipr),
      length-append (number_text ++ id_text ++ chan_text ++ repl) (rect_fields info.r),
      length-append (number_text ++ id_text ++ chan_text) repl,
      length-append (number_text ++ id_text) chan_text,
      length-append number_text id_text,
      length-number_field number number_small,
      length-number_field id id_small,
      length-field (name info.chan) (omega (arith, length-name info.chan)),
      length-number_field (flag_number info.repl) (small_flag info.repl),
      length-rect_fields info.r near,
      length-rect_fields info.clipr clip,
    )
