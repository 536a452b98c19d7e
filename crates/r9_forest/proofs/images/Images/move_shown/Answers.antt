use Rattle.std.proofs.Common.{◌≡◌, ◌∙◌, ◌<◌, ◌≤◌, ◌^◌, sym, ap, subst, arith}
use Rattle.r9_geom.specs.Geometry.{area_of, holds}
use Rattle.model_pixel.specs.Channels.{depth}
use Rattle.model_forest.specs.Stack.{with_windows}
use Rattle.model_forest.specs.World.{World, image_at, IsForest}
use Rattle.r9_locate.specs.declared.locate.lists.Lists.{Lists}
use Rattle.r9_locate.specs.locate.Table.{shape}
use Rattle.r9_pixels.specs.declared.keeping.KeptPixels.{KeptPixels}
use Rattle.r9_pixels.specs.Kept.{kept_at, spare_in, wanted_in, moment, writes}
use Rattle.r9_put.specs.fills.Fills.{fill_at}
use Rattle.r9_relist.proofs.arrive.Canvases.{bare_canvas}
use Rattle.r9_forest.specs.Given.{filled_at, left_of, IsEnough}
use Rattle.r9_forest.specs.Groups.{IsMoved}
use Rattle.r9_forest.specs.Images.{world}
use Rattle.r9_forest.proofs.Placing.{left_small, still_numbers, still_world}
use Rattle.r9_forest.proofs.images.Images.move_shown.Given.{Over}
use Rattle.r9_forest.proofs.images.Images.move_shown.Goals as goal
use Rattle.r9_forest.proofs.images.Images.move_shown.Goals.{After-fill_rows-fill}

pub fill_rows-fill-requires-clause-rows : goal.fill_rows-fill-requires-clause-rows
unfolding world
fill_rows-fill-requires-clause-rows g c =
    let was = c.args.self.now in
    let most = left_small was.lists was.pixels was.spare.items c.args.i c.args.standing was.sound c.requires.stands in
    let same = ap area_of ((bare_canvas (shape was.lists) (kept_at was.pixels)).r c.args.i) in
    omega (arith, most, same, c.requires.rows)

same : (g : Over) (c : After-fill_rows-fill g) → world c.fill_rows-fill.new.self ≡ world c.args.self.now
same g c = still_world c.args.self.now c.fill_rows-fill.new.self c.fill_rows-fill.ensures.lists c.fill_rows-fill.ensures.pixels

pub take_place-requires-clause-stands : goal.take_place-requires-clause-stands
take_place-requires-clause-stands g c =
    ap (λ (w : World). (image_at w c.args.i).standing) (same g (goal.at.take_place-requires-clause-stands g c).After-fill_rows-fill) ∙ c.requires.stands

pub take_place-requires-clause-enough : goal.take_place-requires-clause-enough
take_place-requires-clause-enough g c =
    subst (λ (l : Lists). IsEnough c.fill_rows-fill.result (left_of (shape l) c.args.standing.parent c.args.i)) (sym c.fill_rows-fill.ensures.lists) c.fill_rows-fill.ensures.enough

pub take_place-requires-clause-below : goal.take_place-requires-clause-below
take_place-requires-clause-below g c p =
    subst (λ (l : Lists). filled_at c.fill_rows-fill.result (left_of (shape l) c.args.standing.parent c.args.i) p < 2 ^ depth (image_at (shape l) c.args.standing.parent).chan) (sym c.fill_rows-fill.ensures.lists)
    (c.fill_rows-fill.ensures.below p)

pub take_place-requires-clause-filled : goal.take_place-requires-clause-filled
take_place-requires-clause-filled g c p h =
    let is = same g (goal.at.take_place-requires-clause-filled g c).After-fill_rows-fill in
    let lists = c.fill_rows-fill.ensures.lists in
    let q = c.args.standing.parent in
    (λ j. filled_at c.fill_rows-fill.result (left_of (shape (lists j)) q c.args.i) p)
    ∙ c.fill_rows-fill.ensures.filled p (ap (λ (l : Lists). holds (left_of (shape l) q c.args.i) p) (sym lists) ∙ h)
    ∙ (λ j. fill_at (sym is j) (image_at (shape (sym lists j)) q).chan c.args.standing.fill p)

pub take_place-requires-clause-list : goal.take_place-requires-clause-list
take_place-requires-clause-list g c =
    subst (λ (w : World). IsMoved w c.args.standing.parent c.args.i c.args.list.items) (sym (same g (goal.at.take_place-requires-clause-list g c).After-fill_rows-fill)) c.requires.list

pub take_place-requires-clause-forest : goal.take_place-requires-clause-forest
take_place-requires-clause-forest g c =
    subst (λ (w : World). IsForest (with_windows w c.args.standing.parent c.args.list.items)) (sym (same g (goal.at.take_place-requires-clause-forest g c).After-fill_rows-fill)) c.requires.forest

pub take_place-requires-clause-spare : goal.take_place-requires-clause-spare
take_place-requires-clause-spare g c =
    subst (λ (l : Lists). wanted_in c.fill_rows-fill.new.self.pixels (shape l) c.args.standing.parent c.args.list.items ≤ spare_in c.fill_rows-fill.new.self.pixels) (sym c.fill_rows-fill.ensures.lists)
    (subst (λ (pixels : KeptPixels). wanted_in pixels (shape c.args.self.now.lists) c.args.standing.parent c.args.list.items ≤ spare_in pixels) (sym c.fill_rows-fill.ensures.pixels) c.requires.spare)

pub returns-clause-world : goal.returns-clause-world
returns-clause-world g c =
    c.take_place.ensures.world ∙ ap (λ (w : World). with_windows w c.args.standing.parent c.args.list.items) (same g (goal.at.returns-clause-world g c).After-fill_rows-fill)

pub returns-clause-numbers : goal.returns-clause-numbers
returns-clause-numbers g c =
    c.take_place.ensures.numbers ∙ still_numbers c.args.self.now c.fill_rows-fill.new.self c.fill_rows-fill.ensures.lists c.fill_rows-fill.ensures.spare

pub returns-clause-steps : goal.returns-clause-steps
returns-clause-steps g c =
    let size = ap (λ (w : World). area_of (image_at w c.args.i).r) (same g (goal.at.returns-clause-steps g c).After-fill_rows-fill) in
    omega (arith, size, c.take_place.ensures.steps)

pub returns-clause-moment : goal.returns-clause-moment
returns-clause-moment g c = c.take_place.ensures.moment ∙ ap moment c.fill_rows-fill.ensures.pixels

pub returns-clause-writes : goal.returns-clause-writes
returns-clause-writes g c = let same = ap writes c.fill_rows-fill.ensures.pixels in omega (arith, c.take_place.ensures.writes, same)
