use Rattle.r9_clients.specs.page.Shown.{shape_of}
use Rattle.r9_clients.proofs.typing.Typing.{recorded}
use Rattle.r9_clients.proofs.typing.record.record_of.Goals as goal

pub returns : goal.returns
returns c =
    recorded (shape_of c.args.shape) c.args.pixels.now c.args.text.now c.in_ok-out.out c.push_opening.new.out c.push_pieces.new.out c.requires.shape c.are_bytes.ensures c.requires.all c.in_ok-out.ensures
    c.in_ok-push_opening.ensures c.in_ok-push_pieces.ensures
