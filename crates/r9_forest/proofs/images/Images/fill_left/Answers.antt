use Rattle.std.proofs.Common.{◌≡◌, ◌∙◌, ◌*◌, ◌<◌, ◌≤◌, ◌^◌, sym, ap, subst, arith}
use Rattle.r9_geom.specs.declared.Rect.{Rect}
use Rattle.r9_geom.specs.Geometry.{area_of, holds}
use Rattle.model_pixel.specs.Channels.{depth}
use Rattle.model_forest.specs.World.{Image}
use Rattle.r9_put.specs.fills.Fills.{fill_at}
use Rattle.r9_forest.specs.Images.{world}
use Rattle.r9_forest.proofs.Placing.{left_small, stood_below, stood_fill, stood_parent}
use Rattle.r9_forest.proofs.images.Images.fill_left.Goals as goal
use Rattle.r9_forest.proofs.images.Images.fill_left.Goals.{After-height, After-place_of-left}

-- the rectangle is not larger than the room
small : (c : After-place_of-left) → area_of c.place_of-left.result ≤ c.args.self.now.room.len
unfolding world
small c =
    let was = c.args.self.now in
    let most = left_small was.lists was.pixels was.spare.items c.args.i c.args.standing.now was.sound c.requires.stands in
    let room = was.fills c.args.i c.args.standing.now.parent (stood_parent was.lists was.pixels was.spare.items c.args.i c.args.standing.now was.sound c.requires.stands) in
    let here = ap area_of c.place_of-left.ensures.value in
    omega (arith, most, room, here)

pub get-requires : goal.get-requires
unfolding world
get-requires c = let was = c.args.self.now in stood_below was.lists was.pixels was.spare.items c.args.i c.args.standing.now was.sound c.requires.stands

pub plain_fill-requires : goal.plain_fill-requires
unfolding world
plain_fill-requires c =
    let was = c.args.self.now in
    record { live = stood_fill was.lists was.pixels was.spare.items c.args.i c.args.standing.now was.sound c.requires.stands }

pub returns-in-Some-clause-below : goal.returns-in-Some-clause-below
returns-in-Some-clause-below c p =
    subst (λ (image : Image). c.in-Some.raw < 2 ^ depth image.chan) (sym c.get.ensures) c.in-Some.ensures.range

pub returns-in-Some-clause-filled : goal.returns-in-Some-clause-filled
returns-in-Some-clause-filled c p h =
    sym (c.in-Some.ensures.inside p (ap (λ (r : Rect). holds r p) c.place_of-left.ensures.value ∙ h))
    ∙ ap (λ (image : Image). fill_at (world c.args.self.now) image.chan c.args.standing.now.fill p) (sym c.get.ensures)

pub overflow_mul-count : goal.overflow_mul-count
overflow_mul-count c =
    let most = small (goal.at.overflow_mul-count c).After-place_of-left in
    let same : c.width.result * c.height.result ≡ area_of c.place_of-left.result = λ j. c.width.ensures j * c.height.ensures j in
    omega (arith, same, most)

pub fill_rows-requires-clause-rows : goal.fill_rows-requires-clause-rows
fill_rows-requires-clause-rows c =
    let same : c.width.result * c.height.result ≡ area_of c.place_of-left.result = λ j. c.width.ensures j * c.height.ensures j in
    let here = ap area_of c.place_of-left.ensures.value in
    omega (arith, same, here, c.in_ok-rows.ensures)
