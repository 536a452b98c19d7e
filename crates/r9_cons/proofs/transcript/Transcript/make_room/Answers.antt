use Rattle.std.proofs.Common.{◌≡◌, ◌-◌, length, vec_len, ◌∙◌, arith}
use Rattle.r9_cons.proofs.Shortened.{shortened-at}
use Rattle.r9_cons.proofs.transcript.Transcript.make_room.Goals as goal

pub returns-then-len-more : goal.returns-then-len-more
returns-then-len-more c =
    let text = c.self.inside.bytes in
    let len : vec_len text ≡ length text.items = omega (arith, text.ok.0) in
    shortened-at text.items c.copy_within.new.self.items c.truncate.new.self.items (c.len-len.result - 65536) (vec_len text) (omega (arith, c.len-len.ensures, len)) len c.copy_within.ensures.items c.truncate.ensures.items
    ∙ c.self.view_is
