use Rattle.std.proofs.Common.{◌≡◌, ◌∙◌, ◌+◌, ◌-◌, ◌<◌, ◌≤◌, ◌^◌, length, get_or, take, drop, ⊎_elim, lit≤, sym, ap, subst, arith}
use Rattle.std.proofs.lemmas.Int.{ints}
use Rattle.std.proofs.lemmas.Bool.{cases_lt}
use Rattle.r9_geom.specs.declared.Point.{Point as Spot}
use Rattle.r9_geom.specs.declared.Rect.{Rect}
use Rattle.r9_geom.specs.Geometry.{distance, holds, reduced, HasPoints, IsRectNearBy}
use Rattle.r9_geom.proofs.GeometryLemmas.{near_wider, rect_near_wider}
use Rattle.r9_plane.specs.Pixels.{along}
use Rattle.model_forest.specs.View.{view}
use Rattle.model_forest.specs.World.{Image, image_at}
use Rattle.r9_locate.specs.locate.Table.{shape}
use Rattle.r9_locate.proofs.locate.Parts.{length-part, length-put_mid, put_mid_before, put_mid_inside}
use Rattle.r9_pixels.specs.Kept.{kept_at}
use Rattle.r9_forest.specs.Images.{world}
use Rattle.r9_relist.proofs.arrive.Canvases.{bare_canvas}
use Rattle.r9_forest.proofs.Repeats.{reduced_run, run_inside}
use Rattle.r9_put.proofs.put.Forms.{image_near}
use borrow.Rule.Slice.PartMut.{put_mid}
use Rattle.r9_forest.proofs.images.Images.read_repeated.Goals as goal
use Rattle.r9_forest.proofs.images.Images.read_repeated.Goals.{After-get}

-- the rectangle that is repeated
rect : (c : After-get) → c.get.result.now.r ≡ (image_at (world c.args.self.now) c.args.i).r
unfolding world
rect c =
    let same = bare_canvas (shape c.args.self.now.lists) (kept_at c.args.self.now.pixels) in
    ap (λ (im : Image). im.r) (sym c.get.ensures) ∙ same.r c.args.i

pub get-requires : goal.get-requires
unfolding world
get-requires c = (bare_canvas (shape c.args.self.now.lists) (kept_at c.args.self.now.pixels)).live c.args.i ∙ c.requires.live

pub reduced-p-requires-clause-point : goal.reduced-p-requires-clause-point
reduced-p-requires-clause-point c =
    let x = ap (λ (p : Spot). p.x) c.along.ensures in
    let y = ap (λ (p : Spot). p.y) c.along.ensures in
    record {
      left = omega (arith, ints, x, c.requires.near.left, c.loop-done.invariant.within, c.requires.width);
      right = omega (arith, ints, x, c.requires.near.right, c.loop-done.invariant.within, c.requires.width, c.loop-done.auto.raws);
      top = omega (arith, ints, y, c.requires.near.top);
      bottom = omega (arith, ints, y, c.requires.near.bottom);
    }

pub along-requires-clause-near : goal.along-requires-clause-near
along-requires-clause-near c = near_wider (2 ^ 41) (2 ^ 42) c.args.from (lit≤ tt) c.requires.near

pub reduced-p-requires-clause-near : goal.reduced-p-requires-clause-near
unfolding world
reduced-p-requires-clause-near c =
    let here = world c.args.self.now in
    let at = (goal.at.reduced-p-requires-clause-near c).After-get in
    rect_near_wider (2 ^ 36) (2 ^ 40) c.get.result.now.r (lit≤ tt)
    (subst (λ (r : Rect). IsRectNearBy (2 ^ 36) r) (sym (rect at)) (image_near here c.args.i c.args.self.now.sound.forest c.requires.live))

pub reduced-p-requires-clause-points : goal.reduced-p-requires-clause-points
unfolding world
reduced-p-requires-clause-points c =
    let at = (goal.at.reduced-p-requires-clause-points c).After-get in
    subst HasPoints (sym (rect at)) ((c.args.self.now.sound.forest.images c.args.i c.requires.live).repeats c.requires.repl)

pub read_view-requires-clause-inside : goal.read_view-requires-clause-inside
read_view-requires-clause-inside c p h =
    let at = (goal.at.read_view-requires-clause-inside c).After-get in
    let r = c.get.result.now.r in
    let long = length-part c.loop-done.raws c.loop-done.done (c.loop-done.done + c.min.result - c.loop-done.done) (omega (arith, c.min.ensures, c.loop-done.invariant.within)) in
    let n : length (take (c.loop-done.done + c.min.result - c.loop-done.done) (drop c.loop-done.done c.loop-done.raws)) ≤ distance c.reduced-p.result.x r.max.x = omega (arith, long, c.min.ensures, c.columns_left.ensures.value) in
    ap (λ (s : Rect). holds s p) (sym (rect at)) ∙ run_inside r c.reduced-p.result p _ c.reduced-p.ensures.inside n h

pub loop-done-smaller : goal.loop-done-smaller
loop-done-smaller c =
    let some : 0 < c.min.result = omega (arith, c.columns_left.ensures.some, c.min.ensures, c.loop-done-test.true) in
    omega (arith, some, c.loop-done-test.true, c.loop-done.invariant.within, c.loop-done.auto.raws)

pub loop-done-preserved : goal.loop-done-preserved
unfolding world
loop-done-preserved c =
    let at = (goal.at.loop-done-preserved c).After-get in
    let r = c.get.result.now.r in
    let raws = c.loop-done.raws in
    let done = c.loop-done.done in
    let size = done + c.min.result - done in
    let within : done ≤ length raws = c.loop-done.invariant.within in
    let fits : done + size ≤ length raws = omega (arith, c.min.ensures, within) in
    let long : length c.read_view.new.raws ≡ size = c.read_view.auto.raws ∙ length-part raws done size fits in
    record {
      within = omega (arith, length-put_mid done size raws c.read_view.new.raws fits long, fits);
      read = λ k below.
          let here = world c.args.self.now in
          ⊎_elim
          (λ (early : k < done). put_mid_before done size raws c.read_view.new.raws k within early ∙ c.loop-done.invariant.read k early)
          (λ (late : done ≤ k).
          let j = k - done in
          let place : k ≡ done + j = omega arith in
          let short : j < size = omega arith in
          let inside : j < length (take size (drop done raws)) = omega (arith, length-part raws done size fits) in
          let start : c.reduced-p.result ≡ reduced r (along c.args.from done) = c.reduced-p.ensures.exact ∙ ap (reduced r) c.along.ensures in
          let edge : j < distance c.reduced-p.result.x r.max.x = omega (arith, short, c.min.ensures, c.columns_left.ensures.value) in
          let points = subst HasPoints (sym (rect at)) ((c.args.self.now.sound.forest.images c.args.i c.requires.live).repeats c.requires.repl) in
          let run = reduced_run r c.args.from done j points (subst (λ (p : Spot). j < distance p.x r.max.x) start edge) in
          ap (λ n. get_or (put_mid done size raws c.read_view.new.raws) n 0) place
          ∙ put_mid_inside done size raws c.read_view.new.raws j within long short
          ∙ c.read_view.ensures j inside
          ∙ ap (λ p. view here c.args.i (along p j)) start
          ∙ ap (view here c.args.i) run
          ∙ (λ i. view here c.args.i (reduced (rect at i) (along c.args.from (sym place i)))))
          (cases_lt k done);
    }
