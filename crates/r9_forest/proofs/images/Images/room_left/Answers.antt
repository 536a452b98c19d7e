use Rattle.std.proofs.Common.{◌≡◌, ◌∙◌, ◌*◌, ◌≤◌, ap, subst, arith}
use Rattle.r9_geom.specs.Geometry.{area_of, IsOrdered}
use Rattle.model_forest.specs.World.{Image}
use Rattle.model_forest.proofs.Changes.{live-standing}
use Rattle.r9_locate.specs.locate.Table.{shape}
use Rattle.r9_pixels.specs.Kept.{kept_at}
use Rattle.r9_forest.specs.Images.{world}
use Rattle.r9_forest.proofs.Going.{parent_is}
use Rattle.r9_forest.proofs.Sounding.{sound_forest, sound_live}
use Rattle.r9_forest.proofs.images.Images.room_left.Goals as goal
use Rattle.r9_forest.proofs.images.Images.room_left.Goals.{After-get}

pub get-requires : goal.get-requires
unfolding world
get-requires c =
    let now = c.args.self.now in
    sound_live now.lists (kept_at now.pixels) c.args.old (live-standing (world now) c.args.old c.args.q c.requires)

-- it is not larger than the room
small : (c : After-get) → area_of c.get.result.now.r ≤ c.args.self.now.room.len
unfolding world
small c =
    let now = c.args.self.now in
    let most = now.fills c.args.old c.args.q (parent_is (shape now.lists) (kept_at now.pixels) c.args.old ∙ c.requires) in
    let size = ap (λ (image : Image). area_of image.r) c.get.ensures in
    omega (arith, most, size)

pub overflow_mul-count : goal.overflow_mul-count
overflow_mul-count c =
    let most = small (goal.at.overflow_mul-count c).After-get in
    let same : c.width.result * c.height.result ≡ area_of c.get.result.now.r = λ j. c.width.ensures j * c.height.ensures j in
    omega (arith, same, most)

ordered : (c : After-get) → IsOrdered c.get.result.now.r
unfolding world
ordered c =
    let now = c.args.self.now in
    let alive = sound_live now.lists (kept_at now.pixels) c.args.old (live-standing (world now) c.args.old c.args.q c.requires) in
    subst (λ (image : Image). IsOrdered image.r) c.get.ensures ((sound_forest now.lists (kept_at now.pixels) now.sound.forest).images c.args.old alive).ordered

pub width-requires : goal.width-requires
width-requires c = ordered (goal.at.width-requires c).After-get

pub height-requires : goal.height-requires
height-requires c = ordered (goal.at.height-requires c).After-get
