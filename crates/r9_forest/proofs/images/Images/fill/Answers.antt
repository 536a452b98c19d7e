use Rattle.std.proofs.Common.{◌∙◌, ◌<◌, ◌^◌, refl, sym, ap, subst}
use Rattle.r9_geom.specs.Geometry.{holds}
use Rattle.model_forest.specs.Draw.{after_fill}
use Rattle.r9_locate.specs.locate.Table.{shape}
use Rattle.r9_pixels.specs.Kept.{kept_at}
use Rattle.r9_forest.specs.Images.{numbers, world}
use Rattle.r9_relist.proofs.arrive.Canvases.{bare_canvas}
use Rattle.r9_forest.proofs.Putting.{put_shown, put_sound, stored_sound}
use Rattle.r9_forest.proofs.Showing.{bits_of}
use Rattle.r9_forest.proofs.images.Images.fill.Goals as goal

pub fill_area-requires-clause-live : goal.fill_area-requires-clause-live
unfolding world
fill_area-requires-clause-live g c = (bare_canvas (shape c.args.self.now.lists) (kept_at c.args.self.now.pixels)).live c.args.i ∙ c.requires.live

pub fill_area-requires-clause-inside : goal.fill_area-requires-clause-inside
unfolding world
fill_area-requires-clause-inside g c p h =
    ap (λ r. holds r p) ((bare_canvas (shape c.args.self.now.lists) (kept_at c.args.self.now.pixels)).r c.args.i) ∙ c.requires.inside p h

pub fill_area-requires-clause-stored : goal.fill_area-requires-clause-stored
fill_area-requires-clause-stored g c = stored_sound c.args.self.now.lists c.args.self.now.pixels c.args.self.now.spare.items c.args.self.now.sound

pub fill_area-requires-clause-below : goal.fill_area-requires-clause-below
unfolding world
fill_area-requires-clause-below g c =
    let was = c.args.self.now in
    subst (λ n. c.args.raw < 2 ^ n) (sym (bits_of was.lists was.pixels was.spare.items c.args.i was.sound c.requires.live)) c.requires.raw

pub invariant_of-self : goal.invariant_of-self
unfolding world
invariant_of-self g c =
    let was = c.args.self.now in
    record {
      sound =
          put_sound was.lists was.pixels c.fill_area.new.pixels was.spare.items c.args.i (holds c.args.r) (λ _. c.args.raw) was.sound c.requires.live c.requires.inside
          (λ p h. c.requires.raw)
          c.fill_area.ensures.written;
      back = was.back;
      fills = was.fills;
    }

pub returns-clause-world : goal.returns-clause-world
unfolding world after_fill
returns-clause-world g c =
    let was = c.args.self.now in
    put_shown was.lists was.pixels c.fill_area.new.pixels was.spare.items c.args.i (holds c.args.r) (λ _. c.args.raw) was.sound c.requires.live c.requires.inside
    c.fill_area.ensures.written

pub returns-clause-numbers : goal.returns-clause-numbers
unfolding numbers
returns-clause-numbers g c = refl

pub returns-clause-moment : goal.returns-clause-moment
returns-clause-moment g c = c.fill_area.ensures.written.moment
