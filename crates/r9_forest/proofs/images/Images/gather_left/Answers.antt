use Rattle.std.proofs.Common.{◌∙◌, refl, get_or, sym, ap}
use Rattle.std.specs.Prelude.{if◌then◌else◌}
use Rattle.r9_geom.specs.Geometry.{holds}
use Rattle.model_pixel.specs.Channels.{depth}
use Rattle.r9_plane.specs.Pixels.{number_of}
use Rattle.r9_put.specs.fills.Fills.{fill_at}
use Rattle.r9_forest.specs.Images.{world}
use Rattle.r9_forest.proofs.Going.{fill_below}
use Rattle.r9_forest.proofs.Moves.{pictured_fits}
use Rattle.r9_forest.proofs.images.Images.gather_left.Goals as goal

pub returns-in-Some-clause-below : goal.returns-in-Some-clause-below
returns-in-Some-clause-below c p = c.in-Some.ensures.range

pub returns-in-Some-clause-filled : goal.returns-in-Some-clause-filled
returns-in-Some-clause-filled c p h = sym (c.in-Some.ensures.inside p h)

pub returns-clause-below : goal.returns-clause-below
unfolding world
returns-clause-below c p =
    let was = c.args.self.now in
    let w = world was in
    let left = c.args.left.now in
    let room = c.gather.new.self.room.items in
    pictured_fits (λ z. if holds left z then get_or room (number_of left z) 0 else 0) (λ z. fill_at w c.args.chan.now c.args.fill z) left room (λ z. refl) c.gather.ensures.gathered
    (depth c.args.chan.now) (λ z. fill_below w c.args.chan.now c.args.fill z was.sound.forest c.requires.live c.requires.lawful) p

pub returns-clause-filled : goal.returns-clause-filled
returns-clause-filled c p h =
    ap (λ b. if b then get_or c.gather.new.self.room.items (number_of c.args.left.now p) 0 else 0) h ∙ c.gather.ensures.gathered p h
