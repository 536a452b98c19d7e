-- What `ctl` says of an image, by what the image tells of itself.
use Rattle.std.specs.Prelude.{ℕ, pos, List, ◌++◌}
use Rattle.model_text.specs.text.Field.{field, number_field}
use Rattle.model_pixel.specs.Channels.{name}
use Rattle.model_draw.specs.imgfile.ImageFile.{rect_fields}
use Rattle.model_draw.specs.draw.Files.{flag_number}
use Rattle.r9_locate.specs.declared.info.Info.{Info}

abbrev pub fields_of : ℕ → ℕ → Info → List ℕ
fields_of number id info =
    number_field (pos number) ++ number_field (pos id) ++ field (name info.chan) ++ number_field (pos (flag_number info.repl))
    ++ rect_fields info.r ++ rect_fields info.clipr
