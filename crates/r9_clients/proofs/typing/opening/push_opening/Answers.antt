use Rattle.std.proofs.Common.{◌∙◌, ◌++◌, [], ◌∷◌}
use Rattle.model_files.specs.wire.Message.{Tattach, no_fid}
use Rattle.model_clients.specs.client.Files.{to_data, to_new}
use Rattle.model_clients.specs.client.Saying.{hello}
use Rattle.model_clients.specs.page.Text.{asked, making, opening, write}
use Rattle.r9_clients.specs.page.Shown.{shape_of}
use Rattle.r9_clients.specs.saying.Lines.{IsSaid, opens}
use Rattle.r9_clients.proofs.typing.Fits.{making_short}
use Rattle.r9_clients.proofs.saying.Said.{on_ok_then, said_more, said_write_as}
use Rattle.r9_clients.proofs.typing.opening.push_opening.Goals as goal

pub push_write-requires : goal.push_write-requires
push_write-requires c = making_short (shape_of c.args.shape) c.args.pixels.now c.as_slice.result.now c.requires.shape c.requires.all (c.as_slice.ensures ∙ c.in_ok-bytes.ensures)

pub returns : goal.returns
returns c =
    let shape = shape_of c.args.shape in
    let pixels = c.args.pixels.now in
    let before = c.args.out.now in
    let entered = c.push_entering.new.out in
    let connected = c.push_connecting.new.out in
    let after = c.push_write.new.out in
    let bytes = c.as_slice.result.now in
    on_ok_then c.push_write.result (IsSaid connected after (write bytes ∷ [])) (IsSaid before after (opening shape pixels))
    (λ said.
    said_more (hello ∷ Tattach 1 0 no_fid [] (asked shape) ∷ []) ((opens to_new 1 2 ++ opens to_data 2 2) ++ write (making shape pixels) ∷ []) before entered after c.in_ok-push_entering.ensures
    (said_more (opens to_new 1 2 ++ opens to_data 2 2) (write (making shape pixels) ∷ []) entered connected after c.in_ok-push_connecting.ensures
    (said_write_as 2 bytes (making shape pixels) connected after (c.as_slice.ensures ∙ c.in_ok-bytes.ensures) said)))
    c.push_write.ensures
