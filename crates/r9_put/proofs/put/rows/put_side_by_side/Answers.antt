use Rattle.std.proofs.Common.{◌≡◌, ◌∙◌, ◌+◌, ◌-◌, ◌<◌, ◌≤◌, ◌^◌, ◌||◌, length, get_or, take, drop, refl, sym, ap, arith}
use Rattle.r9_geom.specs.declared.Point.{Point as Spot}
use Rattle.r9_geom.specs.Geometry.{distance, holds, strip}
use Rattle.model_forest.specs.View.{top_window}
use Rattle.model_forest.specs.World.{Image, image_at}
use Rattle.model_kept.proofs.Once.{places-forest}
use Rattle.model_kept.proofs.Worlds.{standing-forest}
use Rattle.r9_plane.specs.Pixels.{along}
use Rattle.r9_locate.specs.locate.Forms.{bits_in}
use Rattle.r9_locate.specs.locate.Table.{shape}
use Rattle.r9_locate.proofs.locate.Parts.{get_or-part, length-part}
use Rattle.r9_pixels.specs.Kept.{form_at}
use Rattle.r9_shown.proofs.Pieces.{strip_part, strip_split}
use Rattle.r9_put.proofs.put.Putting.{part_pixel, row_narrow, row_near, stored_more, written_all, written_more}
use Rattle.r9_put.proofs.put.rows.put_side_by_side.Goals as goal

pub along-q-requires-clause-columns : goal.along-q-requires-clause-columns
along-q-requires-clause-columns g c =
    let image = image_at (shape c.args.lists.now) c.args.i in
    let narrow = row_narrow image.r c.args.at (length c.args.raws.now) c.requires.inside in
    let columns = (c.requires.stored.forest.images c.args.i c.requires.live).columns in
    omega (arith, c.loop-done.invariant.within, narrow, columns)

pub put_run-requires-clause-near : goal.put_run-requires-clause-near
put_run-requires-clause-near g c =
    let raws = c.args.raws.now in
    let done = c.loop-done.done in
    let size = done + c.steady_top-len.result - done in
    let part = take size (drop done raws) in
    let fits : done + size ≤ length raws = omega (arith, c.steady_top-len.ensures.most, c.loop-done.invariant.within) in
    let long : length part ≡ size = length-part raws done size fits in
    row_near (shape c.args.lists.now) c.args.i c.along-q.result (length part) c.requires.stored.forest c.requires.live (omega (arith, long, c.steady_top-len.ensures.some))
    (λ p h. c.requires.inside p (strip_part c.args.at done (length part) (length raws) p (omega (arith, long, fits)) (ap (λ (z : Spot). holds (strip z (length part)) p) (sym c.along-q.ensures) ∙ h)))

pub put_run-requires-clause-inside : goal.put_run-requires-clause-inside
put_run-requires-clause-inside g c p h =
    let raws = c.args.raws.now in
    let done = c.loop-done.done in
    let size = done + c.steady_top-len.result - done in
    let part = take size (drop done raws) in
    let fits : done + size ≤ length raws = omega (arith, c.steady_top-len.ensures.most, c.loop-done.invariant.within) in
    let long : length part ≡ size = length-part raws done size fits in
    c.requires.inside p (strip_part c.args.at done (length part) (length raws) p (omega (arith, long, fits)) (ap (λ (z : Spot). holds (strip z (length part)) p) (sym c.along-q.ensures) ∙ h))

pub put_run-requires-clause-steady : goal.put_run-requires-clause-steady
put_run-requires-clause-steady g c k below =
    let raws = c.args.raws.now in
    let done = c.loop-done.done in
    let size = done + c.steady_top-len.result - done in
    let fits : done + size ≤ length raws = omega (arith, c.steady_top-len.ensures.most, c.loop-done.invariant.within) in
    let long = length-part raws done size fits in
    let q = c.along-q.result in
    let windows = c.deref.ensures.value ∙ ap (λ (im : Image). im.windows) (sym c.get.ensures) in
    ap (λ list. top_window list (along q k)) (sym windows)
    ∙ c.steady_top-len.ensures.same k (omega (arith, below, long))
    ∙ ap (λ list. top_window list q) windows

pub put_run-requires-clause-stored : goal.put_run-requires-clause-stored
put_run-requires-clause-stored g c =
    stored_more (shape c.args.lists.now) c.args.i (holds (strip c.args.at c.loop-done.done)) (λ p. get_or c.args.raws.now (distance c.args.at.x p.x) 0) c.args.pixels.now c.loop-done.pixels
    c.loop-done.invariant.written c.requires.stored

pub put_run-requires-clause-below : goal.put_run-requires-clause-below
put_run-requires-clause-below g c k below =
    let raws = c.args.raws.now in
    let done = c.loop-done.done in
    let size = done + c.steady_top-len.result - done in
    let fits : done + size ≤ length raws = omega (arith, c.steady_top-len.ensures.most, c.loop-done.invariant.within) in
    let long = length-part raws done size fits in
    let in_size : k < size = omega (arith, below, long) in
    let here : done + k < length raws = omega (arith, in_size, fits) in
    let bits : 2 ^ bits_in (form_at c.loop-done.pixels) c.args.i ≡ 2 ^ bits_in (form_at c.args.pixels.now) c.args.i = ap (λ forms. 2 ^ bits_in forms c.args.i) c.loop-done.invariant.written.forms in
    omega (arith, get_or-part raws done size k in_size, c.requires.below (done + k) here, bits)

pub loop-done-preserved : goal.loop-done-preserved
loop-done-preserved g c =
    let w = shape c.args.lists.now in
    let at = c.args.at in
    let raws = c.args.raws.now in
    let done = c.loop-done.done in
    let len = c.steady_top-len.result in
    let size = done + len - done in
    let part = take size (drop done raws) in
    let q = c.along-q.result in
    let fits : done + size ≤ length raws = omega (arith, c.steady_top-len.ensures.most, c.loop-done.invariant.within) in
    let long : length part ≡ size = length-part raws done size fits in
    let all : length part ≡ len = long ∙ omega arith in
    let f = λ (p : Spot). get_or raws (distance at.x p.x) 0 in
    record {
      within = omega (arith, fits);
      written =
          written_more w c.args.i (holds (strip at done)) (holds (strip q (length part))) (holds (strip at (done + len))) f (λ p. get_or part (distance q.x p.x) 0) f
          c.args.pixels.now c.loop-done.pixels c.put_run.new.pixels (standing-forest w c.requires.stored.forest) (places-forest w c.requires.stored.forest) c.requires.live
          (λ p. strip_split at done len p ∙ (λ j. holds (strip (sym c.along-q.ensures j) (sym all j)) p || holds (strip at done) p))
          (λ p h. refl)
          (λ p h.
          ap (λ (z : Spot). get_or part (distance z.x p.x) 0) c.along-q.ensures
          ∙ part_pixel raws at done size p (sym (λ j. holds (strip (c.along-q.ensures j) (long j)) p) ∙ h))
          c.loop-done.invariant.written c.put_run.ensures.written;
      steps = omega (arith, c.put_run.ensures.steps, c.loop-done.invariant.steps, long);
      writes = omega (arith, c.put_run.ensures.writes, c.loop-done.invariant.writes);
    }

pub returns-clause-written : goal.returns-clause-written
returns-clause-written g c =
    let at = c.args.at in
    let raws = c.args.raws.now in
    let end : c.loop-done.done ≡ length raws = omega (arith, c.loop-done-test.false, c.loop-done.invariant.within) in
    written_all (shape c.args.lists.now) c.args.i (holds (strip at c.loop-done.done)) (holds (strip at (length raws))) (λ p. get_or raws (distance at.x p.x) 0) c.args.pixels.now c.loop-done.pixels
    (λ p. ap (λ n. holds (strip at n) p) (sym end))
    c.loop-done.invariant.written
