use Rattle.std.proofs.Common.{◌∙◌, [], ◌∷◌}
use Rattle.model_clients.specs.page.Text.{moves_bytes, write}
use Rattle.r9_clients.specs.page.Shown.{shape_of}
use Rattle.r9_clients.specs.saying.Lines.{IsSaid}
use Rattle.r9_clients.proofs.typing.Fits.{few}
use Rattle.r9_clients.proofs.saying.Said.{on_ok_then, said_write_as}
use Rattle.r9_clients.proofs.typing.pieces.push_piece.Goals as goal

pub push_write-requires : goal.push_write-requires
push_write-requires c = few c.as_slice.result.now (moves_bytes (shape_of c.args.shape) c.args.moves.now) (c.as_slice.ensures ∙ c.in_ok-bytes.ensures) c.requires.short

pub returns : goal.returns
returns c =
    let moved = moves_bytes (shape_of c.args.shape) c.args.moves.now in
    let before = c.args.out.now in
    let after = c.push_write.new.out in
    let bytes = c.as_slice.result.now in
    on_ok_then c.push_write.result (IsSaid before after (write bytes ∷ [])) (IsSaid before after (write moved ∷ []))
    (said_write_as 2 bytes moved before after (c.as_slice.ensures ∙ c.in_ok-bytes.ensures)) c.push_write.ensures
