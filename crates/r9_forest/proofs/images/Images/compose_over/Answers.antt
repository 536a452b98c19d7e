use Rattle.std.proofs.Common.{◌≡◌, ◌∙◌, true, false, refl, sym, ap, subst, arith, ⊎_elim}
use Rattle.std.proofs.lemmas.Bool.{cases_Bool}
use Rattle.r9_geom.specs.declared.Point.{Point as Spot}
use Rattle.r9_geom.specs.Geometry.{carried, holds}
use Rattle.model_pixel.specs.Channels.{depth}
use Rattle.r9_kern.specs.Over.{over_of}
use Rattle.model_forest.specs.View.{view}
use Rattle.model_forest.specs.World.{image_at}
use Rattle.model_kept.specs.Keeping.{keeping, with_kept}
use Rattle.r9_locate.specs.locate.Table.{shape}
use Rattle.r9_pixels.specs.declared.keeping.KeptPixels.{KeptPixels}
use Rattle.r9_pixels.specs.Kept.{kept_at, moment}
use Rattle.r9_put.specs.put.Written.{IsWritten}
use Rattle.r9_put.proofs.put.Putting.{written_same}
use Rattle.r9_relist.proofs.arrive.Canvases.{bare_canvas}
use Rattle.r9_forest.specs.Images.{numbers, world}
use Rattle.r9_forest.specs.Sound.{IsSound}
use Rattle.r9_forest.proofs.Composing.{over_below}
use Rattle.r9_forest.proofs.Putting.{put_shown, put_sound, stored_sound}
use Rattle.r9_forest.proofs.Showing.{shown_kept}
use Rattle.r9_forest.proofs.images.Images.compose_over.Given.{Over}
use Rattle.r9_forest.proofs.images.Images.compose_over.Goals as goal
use Rattle.r9_forest.proofs.images.Images.compose_over.Goals.{After-compose_area}

-- what is written, seen as what the image shows
written : (g : Over) (c : After-compose_area g) → c.compose_area.result ≡ true → IsWritten (shape c.args.self.now.lists) c.args.i (holds c.args.r.now) (λ p. over_of c.args.over (view (world c.args.self.now) c.args.source (carried p c.args.r.now.min c.args.from)) (view (world c.args.self.now) c.args.i p)) c.args.self.now.pixels c.compose_area.new.pixels
unfolding world
written g c done =
    let was = c.args.self.now in
    let r = c.args.r.now in
    written_same (shape was.lists) c.args.i (holds r) (holds r)
    (λ p. over_of c.args.over (kept_at was.pixels (keeping (shape was.lists) c.args.source (carried p r.min c.args.from))) (kept_at was.pixels (keeping (shape was.lists) c.args.i p)))
    (λ p. over_of c.args.over (view (world was) c.args.source (carried p r.min c.args.from)) (view (world was) c.args.i p))
    was.pixels c.compose_area.new.pixels
    (λ p. refl)
    (λ p h.
    let source_is = shown_kept (shape was.lists) (kept_at was.pixels) c.args.source (carried p r.min c.args.from) was.sound.forest c.requires.live_from (c.requires.inside_from p h) in
    let own_is = shown_kept (shape was.lists) (kept_at was.pixels) c.args.i p was.sound.forest c.requires.live (c.requires.inside p h) in
    sym (λ j. over_of c.args.over (source_is j) (own_is j)))
    (c.compose_area.ensures.written done)

pub compose_area-requires-clause-live : goal.compose_area-requires-clause-live
unfolding world
compose_area-requires-clause-live g c = (bare_canvas (shape c.args.self.now.lists) (kept_at c.args.self.now.pixels)).live c.args.i ∙ c.requires.live

pub compose_area-requires-clause-live_from : goal.compose_area-requires-clause-live_from
unfolding world
compose_area-requires-clause-live_from g c = (bare_canvas (shape c.args.self.now.lists) (kept_at c.args.self.now.pixels)).live c.args.source ∙ c.requires.live_from

pub compose_area-requires-clause-inside : goal.compose_area-requires-clause-inside
unfolding world
compose_area-requires-clause-inside g c p h =
    ap (λ r. holds r p) ((bare_canvas (shape c.args.self.now.lists) (kept_at c.args.self.now.pixels)).r c.args.i) ∙ c.requires.inside p h

pub compose_area-requires-clause-inside_from : goal.compose_area-requires-clause-inside_from
unfolding world
compose_area-requires-clause-inside_from g c p h =
    ap (λ r. holds r (carried p c.args.r.now.min c.args.from)) ((bare_canvas (shape c.args.self.now.lists) (kept_at c.args.self.now.pixels)).r c.args.source) ∙ c.requires.inside_from p h

pub compose_area-requires-clause-stored : goal.compose_area-requires-clause-stored
compose_area-requires-clause-stored g c = stored_sound c.args.self.now.lists c.args.self.now.pixels c.args.self.now.spare.items c.args.self.now.sound

pub invariant_of-self : goal.invariant_of-self
unfolding world
invariant_of-self g c =
    let was = c.args.self.now in
    let at = (goal.at.invariant_of-self g c).After-compose_area in
    let f = λ (p : Spot). over_of c.args.over (view (world was) c.args.source (carried p c.args.r.now.min c.args.from)) (view (world was) c.args.i p) in
    record {
      sound =
          ⊎_elim
          (λ (done : c.compose_area.result ≡ true).
          put_sound was.lists was.pixels c.compose_area.new.pixels was.spare.items c.args.i (holds c.args.r.now) f was.sound c.requires.live c.requires.inside
          (λ p h.
          over_below c.args.over (view (world was) c.args.source (carried p c.args.r.now.min c.args.from)) (view (world was) c.args.i p) (depth (image_at (world was) c.args.i).chan)
          (sym (ap depth ((bare_canvas (shape was.lists) (kept_at was.pixels)).chan c.args.i)) ∙ c.compose_area.ensures.depth done))
          (written g at done))
          (λ (none : c.compose_area.result ≡ false).
          subst (λ (pixels : KeptPixels). IsSound was.lists pixels was.spare.items) (sym (c.compose_area.ensures.unmoved none)) was.sound)
          (cases_Bool c.compose_area.result);
      back = was.back;
      fills = was.fills;
    }

pub returns-clause-world : goal.returns-clause-world
unfolding world
returns-clause-world g c done =
    let was = c.args.self.now in
    put_shown was.lists was.pixels c.compose_area.new.pixels was.spare.items c.args.i (holds c.args.r.now)
    (λ p. over_of c.args.over (view (world was) c.args.source (carried p c.args.r.now.min c.args.from)) (view (world was) c.args.i p)) was.sound c.requires.live c.requires.inside
    (written g (goal.at.returns-clause-world g c).After-compose_area done)

pub returns-clause-numbers : goal.returns-clause-numbers
unfolding numbers
returns-clause-numbers g c = refl

pub returns-clause-steps : goal.returns-clause-steps
returns-clause-steps g c done = omega (arith, c.compose_area.ensures.steps done)

pub returns-clause-unmoved : goal.returns-clause-unmoved
unfolding world
returns-clause-unmoved g c none =
    ap (λ (pixels : KeptPixels). with_kept (shape c.args.self.now.lists) (kept_at pixels)) (c.compose_area.ensures.unmoved none)

pub returns-clause-moment : goal.returns-clause-moment
returns-clause-moment g c =
    ⊎_elim
    (λ (done : c.compose_area.result ≡ true). (c.compose_area.ensures.written done).moment)
    (λ (none : c.compose_area.result ≡ false). ap moment (c.compose_area.ensures.unmoved none))
    (cases_Bool c.compose_area.result)
