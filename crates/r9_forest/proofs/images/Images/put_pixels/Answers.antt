use Rattle.std.proofs.Common.{◌∙◌, ◌<◌, ◌^◌, get_or, refl, sym, ap, subst}
use Rattle.std.specs.Prelude.{slice_index}
use Rattle.r9_geom.specs.Geometry.{holds}
use Rattle.r9_plane.specs.Pixels.{number_of}
use Rattle.r9_plane.proofs.PlaneLemmas.{number_below}
use Rattle.r9_locate.specs.locate.Table.{shape}
use Rattle.r9_pixels.specs.Kept.{kept_at}
use Rattle.r9_forest.specs.Images.{numbers, world}
use Rattle.r9_relist.proofs.arrive.Canvases.{bare_canvas}
use Rattle.r9_forest.proofs.Putting.{put_shown, put_sound, stored_sound}
use Rattle.r9_forest.proofs.Showing.{bits_of}
use Rattle.r9_forest.proofs.images.Images.put_pixels.Goals as goal

pub put_rows-requires-clause-live : goal.put_rows-requires-clause-live
unfolding world
put_rows-requires-clause-live g c = (bare_canvas (shape c.args.self.now.lists) (kept_at c.args.self.now.pixels)).live c.args.i ∙ c.requires.live

pub put_rows-requires-clause-inside : goal.put_rows-requires-clause-inside
unfolding world
put_rows-requires-clause-inside g c p h =
    ap (λ r. holds r p) ((bare_canvas (shape c.args.self.now.lists) (kept_at c.args.self.now.pixels)).r c.args.i) ∙ c.requires.inside p h

pub put_rows-requires-clause-stored : goal.put_rows-requires-clause-stored
put_rows-requires-clause-stored g c = stored_sound c.args.self.now.lists c.args.self.now.pixels c.args.self.now.spare.items c.args.self.now.sound

pub put_rows-requires-clause-below : goal.put_rows-requires-clause-below
unfolding world
put_rows-requires-clause-below g c k lower =
    let was = c.args.self.now in
    subst (λ n. slice_index c.args.pixels.now k < 2 ^ n) (sym (bits_of was.lists was.pixels was.spare.items c.args.i was.sound c.requires.live)) (c.requires.raws k lower)

pub invariant_of-self : goal.invariant_of-self
unfolding world
invariant_of-self g c =
    let was = c.args.self.now in
    let r = c.args.r.now in
    record {
      sound =
          put_sound was.lists was.pixels c.put_rows.new.pixels was.spare.items c.args.i (holds r) (λ p. get_or c.args.pixels.now (number_of r p) 0) was.sound c.requires.live c.requires.inside
          (λ p h. c.requires.raws (number_of r p) (subst (λ n. number_of r p < n) (sym c.requires.pixels) (number_below r p h)))
          c.put_rows.ensures.written;
      back = was.back;
      fills = was.fills;
    }

pub returns-clause-world : goal.returns-clause-world
unfolding world
returns-clause-world g c =
    let was = c.args.self.now in
    let r = c.args.r.now in
    put_shown was.lists was.pixels c.put_rows.new.pixels was.spare.items c.args.i (holds r) (λ p. get_or c.args.pixels.now (number_of r p) 0) was.sound c.requires.live c.requires.inside
    c.put_rows.ensures.written

pub returns-clause-numbers : goal.returns-clause-numbers
unfolding numbers
returns-clause-numbers g c = refl

pub returns-clause-moment : goal.returns-clause-moment
returns-clause-moment g c = c.put_rows.ensures.written.moment
