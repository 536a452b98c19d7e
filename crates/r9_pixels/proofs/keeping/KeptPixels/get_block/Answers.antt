use Rattle.std.proofs.Common.{◌≡◌, ◌∙◌, false, Some, sym, ap}
use Rattle.std.specs.Option.{option_map_or}
use Rattle.r9_pixels.specs.declared.own.Own.TheVariants.{Whole, Hidden}
use Rattle.r9_pixels.specs.Owns.{has_in, kept_in, own_at}
use Rattle.r9_pixels.proofs.Areas.{tiles_kept}
use Rattle.r9_pixels.proofs.keeping.KeptPixels.get_block.Goals as goal

pub get_block-requires-clause-inside : goal.get_block-requires-clause-inside
get_block-requires-clause-inside c p h =
    let was : own_at c.args.self.now.owns.items c.args.i ≡ Some (Whole c.in-Whole.watched) = c.requires.is ∙ ap (λ o. Some o) c.in-Whole.is in
    sym (ap (λ o. option_map_or (has_in c.args.self.now.cells c.args.i p) o false) was) ∙ c.requires.has p h

pub read_block-requires-clause-near : goal.read_block-requires-clause-near
read_block-requires-clause-near c =
    let was : own_at c.args.self.now.owns.items c.args.i ≡ Some (Hidden c.in-Hidden.extent) = c.requires.is ∙ ap (λ o. Some o) c.in-Hidden.is in
    (c.args.self.now.tabled.windows c.args.i c.in-Hidden.extent was).near

pub read_block-requires-clause-has : goal.read_block-requires-clause-has
read_block-requires-clause-has c p h =
    let was : own_at c.args.self.now.owns.items c.args.i ≡ Some (Hidden c.in-Hidden.extent) = c.requires.is ∙ ap (λ o. Some o) c.in-Hidden.is in
    sym (ap (λ o. option_map_or (has_in c.args.self.now.cells c.args.i p) o false) was) ∙ c.requires.has p h

pub returns-in-Whole-clause-pixels : goal.returns-in-Whole-clause-pixels
returns-in-Whole-clause-pixels c p h =
    let was : own_at c.args.self.now.owns.items c.args.i ≡ Some (Whole c.in-Whole.watched) = c.requires.is ∙ ap (λ o. Some o) c.in-Whole.is in
    c.get_block.ensures.pixels p h ∙ sym (ap (λ o. option_map_or (kept_in c.args.self.now.cells c.args.i p) o 0) was)

pub returns-in-Hidden-clause-pixels : goal.returns-in-Hidden-clause-pixels
returns-in-Hidden-clause-pixels c p h =
    let cells = c.args.self.now.cells in
    let owns = c.args.self.now.owns.items in
    let was : own_at owns c.args.i ≡ Some (Hidden c.in-Hidden.extent) = c.requires.is ∙ ap (λ o. Some o) c.in-Hidden.is in
    let has = sym (ap (λ o. option_map_or (has_in cells c.args.i p) o false) was) ∙ c.requires.has p h in
    c.read_block.ensures.pixels p h ∙ sym (tiles_kept owns cells cells c.args.i c.in-Hidden.extent p was has)
