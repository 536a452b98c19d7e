use Rattle.std.proofs.Common.{◌∙◌, length}
use Rattle.r9_plane.specs.Pixels.{along}
use Rattle.r9_plane.proofs.PlaneLemmas.{some_of}
use Rattle.r9_pixels.proofs.Owning.{own_below, own_is}
use Rattle.r9_pixels.proofs.keeping.KeptPixels.load.Goals as goal

pub get-requires-clause-is : goal.get-requires-clause-is
get-requires-clause-is c =
    let owns = c.args.self.now.owns.items in
    let some = some_of (length c.args.raws.now) c.is_empty.ensures c.if-is_empty.false in
    let live = own_below owns c.args.self.now.cells c.args.i (along c.args.from 0) (c.requires 0 some) in
    own_is owns c.args.i c.index.result.now live c.index.ensures ∙ c.in-Some.is
