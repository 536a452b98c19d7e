use Rattle.std.proofs.Common.{◌≡◌, ◌∙◌, ap, to_z-of_z}
use Rattle.std.specs.Fmt.{signed_decimal}
use Rattle.r9_text.proofs.Short.{signed_decimal-short}
use Rattle.r9_text.proofs.field.push_number.Goals as goal

pub push_word-requires : goal.push_word-requires
push_word-requires c =
    let text : c.as_bytes.result.now ≡ signed_decimal c.args.n = c.as_bytes.ensures.value ∙ c.format.ensures.text ∙ ap signed_decimal (to_z-of_z c.ranges.n) in
    rw text (signed_decimal-short c.args.n c.requires.low c.requires.high)
