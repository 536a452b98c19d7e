use Rattle.std.proofs.Common.{◌≡◌, ◌∙◌, ◌<◌, false, length, None, sym, ap, arith}
use Rattle.std.specs.Option.{option_map_or}
use Rattle.std.proofs.lemmas.Bool.{false≢true}
use Rattle.r9_geom.proofs.GeometryLemmas.{corner}
use Rattle.r9_pixels.specs.Owns.{has_in, own_at}
use Rattle.r9_pixels.proofs.Owning.{own_is}
use Rattle.r9_pixels.proofs.keeping.KeptPixels.load_block.Goals as goal

pub get_block-requires-clause-is : goal.get_block-requires-clause-is
get_block-requires-clause-is c =
    let owns = c.args.self.now.owns.items in
    let there : c.args.i < length owns = omega (arith, c.requires.live, c.args.self.now.owns.ok.0) in
    own_is owns c.args.i c.index.result.now there c.index.ensures ∙ c.in-Some.is

pub unreachable-requires : goal.unreachable-requires
unreachable-requires c =
    let owns = c.args.self.now.owns.items in
    let r = c.args.r.now in
    let there : c.args.i < length owns = omega (arith, c.requires.live, c.args.self.now.owns.ok.0) in
    let was : own_at owns c.args.i ≡ None = own_is owns c.args.i c.index.result.now there c.index.ensures ∙ c.in-None.is in
    false≢true (sym (ap (λ o. option_map_or (has_in c.args.self.now.cells c.args.i r.min) o false) was) ∙ c.requires.has r.min (corner r c.requires.some.across c.requires.some.down))
