use Rattle.std.proofs.Common.{◌≡◌, ◌∙◌, ◌<◌, ◌≤◌, ◌^◌, List, sym, ap, subst, arith}
use Rattle.r9_geom.specs.Geometry.{area_of, holds}
use Rattle.model_pixel.specs.Channels.{depth}
use Rattle.model_forest.specs.declared.Window.{Window}
use Rattle.model_forest.specs.Stack.{with_windows}
use Rattle.model_forest.specs.World.{World, image_at, IsForest}
use Rattle.r9_locate.specs.declared.locate.lists.Lists.{Lists}
use Rattle.r9_locate.specs.locate.Table.{shape}
use Rattle.r9_pixels.specs.declared.keeping.KeptPixels.{KeptPixels}
use Rattle.r9_pixels.specs.Kept.{spare_in, wanted_in, moment, writes}
use Rattle.r9_put.specs.fills.Fills.{fill_at}
use Rattle.r9_relist.specs.relist.Relisting.{IsAway}
use Rattle.r9_relist.proofs.arrive.Entering.{on_err}
use Rattle.r9_forest.specs.Given.{filled_at, left_of, IsEnough}
use Rattle.r9_forest.specs.Groups.{IsMoved}
use Rattle.r9_forest.specs.Images.{world}
use Rattle.r9_forest.proofs.Placing.{still_numbers, still_world}
use Rattle.r9_forest.proofs.images.Images.move_listed.Given.{Over}
use Rattle.r9_forest.proofs.images.Images.move_listed.Goals as goal
use Rattle.r9_forest.proofs.images.Images.move_listed.Goals.{In_ok-fill}

same : (g : Over) (c : In_ok-fill g) → world c.fill_left.new.self ≡ world c.args.self.now
same g c = still_world c.args.self.now c.fill_left.new.self c.fill_left.ensures.lists c.fill_left.ensures.pixels

pub come_back-requires-clause-away : goal.come_back-requires-clause-away
come_back-requires-clause-away g c =
    subst (λ (ws : List Window). IsAway (shape c.args.self.now.lists) c.args.standing.parent c.args.i ws) c.deref.ensures.value (c.is_away.ensures c.if-is_away.true)

pub take_place-requires-clause-stands : goal.take_place-requires-clause-stands
take_place-requires-clause-stands g c =
    ap (λ (w : World). (image_at w c.args.i).standing) (same g (goal.at.take_place-requires-clause-stands g c).In_ok-fill) ∙ c.requires.stands

pub take_place-requires-clause-enough : goal.take_place-requires-clause-enough
take_place-requires-clause-enough g c =
    subst (λ (l : Lists). IsEnough c.in_ok-fill.fill (left_of (shape l) c.args.standing.parent c.args.i)) (sym c.fill_left.ensures.lists) c.in_ok-fill.ensures.enough

pub take_place-requires-clause-below : goal.take_place-requires-clause-below
take_place-requires-clause-below g c p =
    subst (λ (l : Lists). filled_at c.in_ok-fill.fill (left_of (shape l) c.args.standing.parent c.args.i) p < 2 ^ depth (image_at (shape l) c.args.standing.parent).chan) (sym c.fill_left.ensures.lists)
    (c.in_ok-fill.ensures.below p)

pub take_place-requires-clause-filled : goal.take_place-requires-clause-filled
take_place-requires-clause-filled g c p h =
    let is = same g (goal.at.take_place-requires-clause-filled g c).In_ok-fill in
    let lists = c.fill_left.ensures.lists in
    let q = c.args.standing.parent in
    (λ j. filled_at c.in_ok-fill.fill (left_of (shape (lists j)) q c.args.i) p)
    ∙ c.in_ok-fill.ensures.filled p (ap (λ (l : Lists). holds (left_of (shape l) q c.args.i) p) (sym lists) ∙ h)
    ∙ (λ j. fill_at (sym is j) (image_at (shape (sym lists j)) q).chan c.args.standing.fill p)

pub take_place-requires-clause-list : goal.take_place-requires-clause-list
take_place-requires-clause-list g c =
    subst (λ (w : World). IsMoved w c.args.standing.parent c.args.i c.args.list.items) (sym (same g (goal.at.take_place-requires-clause-list g c).In_ok-fill)) c.requires.list

pub take_place-requires-clause-forest : goal.take_place-requires-clause-forest
take_place-requires-clause-forest g c =
    subst (λ (w : World). IsForest (with_windows w c.args.standing.parent c.args.list.items)) (sym (same g (goal.at.take_place-requires-clause-forest g c).In_ok-fill)) c.requires.forest

pub take_place-requires-clause-spare : goal.take_place-requires-clause-spare
take_place-requires-clause-spare g c =
    subst (λ (l : Lists). wanted_in c.fill_left.new.self.pixels (shape l) c.args.standing.parent c.args.list.items ≤ spare_in c.fill_left.new.self.pixels) (sym c.fill_left.ensures.lists)
    (subst (λ (pixels : KeptPixels). wanted_in pixels (shape c.args.self.now.lists) c.args.standing.parent c.args.list.items ≤ spare_in pixels) (sym c.fill_left.ensures.pixels) c.requires.spare)

pub returns-clause-world : goal.returns-clause-world
returns-clause-world g c =
    c.take_place.ensures.world ∙ ap (λ (w : World). with_windows w c.args.standing.parent c.args.list.items) (same g (goal.at.returns-clause-world g c).In_ok-fill)

pub returns-clause-numbers : goal.returns-clause-numbers
returns-clause-numbers g c =
    c.take_place.ensures.numbers ∙ still_numbers c.args.self.now c.fill_left.new.self c.fill_left.ensures.lists c.fill_left.ensures.spare

pub returns-clause-steps : goal.returns-clause-steps
returns-clause-steps g c =
    let size = ap (λ (w : World). area_of (image_at w c.args.i).r) (same g (goal.at.returns-clause-steps g c).In_ok-fill) in
    omega (arith, size, c.take_place.ensures.steps)

pub returns-in_err-fill-clause-numbers : goal.returns-in_err-fill-clause-numbers
returns-in_err-fill-clause-numbers g c = still_numbers c.args.self.now c.fill_left.new.self c.fill_left.ensures.lists c.fill_left.ensures.spare

pub returns-in_err-fill-clause-err : goal.returns-in_err-fill-clause-err
returns-in_err-fill-clause-err g c = on_err c.from_residual.result (still_world c.args.self.now c.fill_left.new.self c.fill_left.ensures.lists c.fill_left.ensures.pixels)

pub returns-clause-moment : goal.returns-clause-moment
returns-clause-moment g c = c.take_place.ensures.moment ∙ ap moment c.fill_left.ensures.pixels

pub returns-clause-writes : goal.returns-clause-writes
returns-clause-writes g c = let same = ap writes c.fill_left.ensures.pixels in omega (arith, c.take_place.ensures.writes, same)

pub returns-in_err-fill-clause-moment : goal.returns-in_err-fill-clause-moment
returns-in_err-fill-clause-moment g c = ap moment c.fill_left.ensures.pixels

pub returns-in_err-fill-clause-writes : goal.returns-in_err-fill-clause-writes
returns-in_err-fill-clause-writes g c = let same = ap writes c.fill_left.ensures.pixels in omega (arith, same)
