use Rattle.std.proofs.Common.{refl}
use Rattle.r9_dmsg.specs.View.{message_of}
use Rattle.r9_used.proofs.looked.Reading.{looked_plain, none_stands}
use Rattle.r9_used.proofs.looked.first.look_first_plain.Goals as goal

pub returns-in_default : goal.returns-in_default
returns-in_default c = λ panes.
    let none = none_stands c.args.bytes.now c.in_default.field-0 c.in_default.ensures.short c.in_default.ensures.unknown c.in_default.ensures.unsupported c.in_default.ensures.memory c.requires.plain in
    record { refusal = none.0; spells = none.1; kept = refl }

pub returns : goal.returns
returns c = λ panes.
    looked_plain panes c.args.bytes.now c.args.uses.now c.look_plain.new.uses (message_of c.in-Ok.message) c.spelled_len.result c.has_rows.result c.in-Ok.ensures.message c.in-Ok.ensures.whole
    c.spelled_len.ensures c.has_rows.ensures (c.in_ok-look_plain.ensures panes)
