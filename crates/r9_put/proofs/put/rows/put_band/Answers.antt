use Rattle.std.proofs.Common.{◌≡◌, ◌∙◌, ◌+◌, ◌*◌, ◌≤◌, ◌^◌, ◌||◌, ◌+ℤ◌, pos, get_or, refl, sym, ap, arith}
use Rattle.std.proofs.lemmas.Int.{ints}
use Rattle.std.proofs.lemmas.Nat.{mul-le}
use Rattle.r9_geom.specs.declared.Point.{Point as Spot}
use Rattle.r9_geom.specs.Geometry.{height, holds, width}
use Rattle.r9_geom.proofs.GeometryLemmas.{distance_is}
use Rattle.model_forest.specs.View.{top_window}
use Rattle.model_forest.specs.World.{Image, image_at}
use Rattle.model_kept.proofs.Once.{places-forest}
use Rattle.model_kept.proofs.Worlds.{standing-forest}
use Rattle.r9_plane.specs.Blocks.{number_in}
use Rattle.r9_plane.specs.Pixels.{along}
use Rattle.r9_locate.specs.locate.Forms.{bits_in}
use Rattle.r9_locate.specs.locate.Table.{shape}
use Rattle.r9_pixels.specs.Kept.{form_at}
use Rattle.r9_shown.specs.Shown.{block}
use Rattle.r9_shown.proofs.Pieces.{block_none, block_part, block_split, first_row, stands_in}
use Rattle.r9_put.proofs.put.Putting.{number_along, row_near, stored_more, written_all, written_more, written_none}
use Rattle.r9_put.proofs.put.rows.put_band.Goals as goal

pub loop-done-init : goal.loop-done-init
loop-done-init g c = record {
  within = omega arith;
  written = written_none (shape c.args.lists.now) c.args.i (holds (block c.args.at 0 c.args.rows)) (λ p. get_or c.args.raws.now (number_in (block c.args.at c.args.width c.args.rows) c.args.first c.args.width p) 0) c.args.pixels.now (λ p. block_none c.args.at c.args.rows p);
  steps = omega arith;
  writes = refl;
}

pub put_block-requires-clause-near : goal.put_block-requires-clause-near
put_block-requires-clause-near g c =
    let len = c.steady_top-len.result in
    row_near (shape c.args.lists.now) c.args.i c.along-q.result len c.requires.stored.forest c.requires.live c.steady_top-len.ensures.some
    (λ p h. c.requires.inside p (block_part c.args.at c.loop-done.done len c.args.width c.args.rows p (omega (arith, c.steady_top-len.ensures.most, c.loop-done-test.true)) (ap (λ (z : Spot). holds (block z len c.args.rows) p) (sym c.along-q.ensures) ∙ first_row c.along-q.result len c.args.rows p c.requires.some h)))

pub put_block-requires-clause-columns : goal.put_block-requires-clause-columns
put_block-requires-clause-columns g c = omega (arith, c.steady_top-len.ensures.most, c.requires.columns)

pub put_block-requires-clause-inside : goal.put_block-requires-clause-inside
put_block-requires-clause-inside g c p h =
    let len = c.steady_top-len.result in
    c.requires.inside p (block_part c.args.at c.loop-done.done len c.args.width c.args.rows p (omega (arith, c.steady_top-len.ensures.most, c.loop-done-test.true)) (ap (λ (z : Spot). holds (block z len c.args.rows) p) (sym c.along-q.ensures) ∙ h))

pub put_block-requires-clause-steady : goal.put_block-requires-clause-steady
put_block-requires-clause-steady g c p h =
    let ws = (image_at (shape c.args.lists.now) c.args.i).windows in
    let q = c.along-q.result in
    let windows = c.deref.ensures.value ∙ ap (λ (im : Image). im.windows) (sym c.get.ensures) in
    let found = stands_in q c.steady_top-len.result c.args.rows p h in
    ap (top_window ws) found.is
    ∙ c.requires.steady (along q found.column) found.row (ap (λ (z : Spot). z.y) c.along-q.ensures) found.within
    ∙ ap (λ list. top_window list (along q found.column)) (sym windows)
    ∙ c.steady_top-len.ensures.same found.column found.across
    ∙ ap (λ list. top_window list q) windows

pub put_block-requires-clause-stored : goal.put_block-requires-clause-stored
put_block-requires-clause-stored g c =
    stored_more (shape c.args.lists.now) c.args.i (holds (block c.args.at c.loop-done.done c.args.rows)) (λ p. get_or c.args.raws.now (number_in (block c.args.at c.args.width c.args.rows) c.args.first c.args.width p) 0) c.args.pixels.now c.loop-done.pixels
    c.loop-done.invariant.written c.requires.stored

pub put_block-requires-clause-among : goal.put_block-requires-clause-among
put_block-requires-clause-among g c =
    let len = c.steady_top-len.result in
    let q = c.along-q.result in
    let wide = distance_is q.x (q.x +ℤ pos len) (omega (arith, ints)) in
    let high = distance_is q.y (q.y +ℤ pos c.args.rows) (omega (arith, ints)) in
    let width_is : width (block q len c.args.rows) ≡ len = omega (arith, ints, wide) in
    let height_is : height (block q len c.args.rows) ≡ c.args.rows = omega (arith, ints, high) in
    record {
      narrow = omega (arith, width_is, c.steady_top-len.ensures.most);
      fits = λ row below.
          let up : row + 1 ≤ c.args.rows = omega (arith, below, height_is) in
          let all = mul-le (row + 1) c.args.width c.args.rows c.args.width up (omega arith) in
          let one : (row + 1) * c.args.width ≡ row * c.args.width + c.args.width = grind arith in
          omega (arith, all, one, width_is, c.requires.fits, c.steady_top-len.ensures.most, c.loop-done-test.true);
    }

pub put_block-requires-clause-below : goal.put_block-requires-clause-below
put_block-requires-clause-below g c k below =
    let bits : 2 ^ bits_in (form_at c.loop-done.pixels) c.args.i ≡ 2 ^ bits_in (form_at c.args.pixels.now) c.args.i = ap (λ forms. 2 ^ bits_in forms c.args.i) c.loop-done.invariant.written.forms in
    omega (arith, c.requires.below k below, bits)

pub loop-done-preserved : goal.loop-done-preserved
loop-done-preserved g c =
    let w = shape c.args.lists.now in
    let at = c.args.at in
    let rows = c.args.rows in
    let done = c.loop-done.done in
    let len = c.steady_top-len.result in
    let q = c.along-q.result in
    let raws = c.args.raws.now in
    let f = λ (p : Spot). get_or raws (number_in (block at c.args.width rows) c.args.first c.args.width p) 0 in
    let g = λ (p : Spot). get_or raws (number_in (block q len rows) (c.args.first + done) c.args.width p) 0 in
    let more : (done + len) * rows ≡ done * rows + len * rows = grind arith in
    record {
      within = omega (arith, c.steady_top-len.ensures.most, c.loop-done-test.true);
      written =
          written_more w c.args.i (holds (block at done rows)) (holds (block q len rows)) (holds (block at (done + len) rows)) f g f
          c.args.pixels.now c.loop-done.pixels c.put_block.new.pixels (standing-forest w c.requires.stored.forest) (places-forest w c.requires.stored.forest) c.requires.live
          (λ p. block_split at done len rows p ∙ ap (λ (z : Spot). holds (block z len rows) p || holds (block at done rows) p) (sym c.along-q.ensures))
          (λ p h. refl)
          (λ p h.
          ap (λ (z : Spot). get_or raws (number_in (block z len rows) (c.args.first + done) c.args.width p) 0) c.along-q.ensures
          ∙ ap (λ n. get_or raws n 0) (number_along at p c.args.width done len rows c.args.first c.args.width (ap (λ (z : Spot). holds (block z len rows) p) (sym c.along-q.ensures) ∙ h)))
          c.loop-done.invariant.written c.put_block.ensures.written;
      steps = omega (arith, c.put_block.ensures.steps, c.loop-done.invariant.steps, more);
      writes = omega (arith, c.put_block.ensures.writes, c.loop-done.invariant.writes);
    }

pub returns-clause-written : goal.returns-clause-written
returns-clause-written g c =
    let end : c.loop-done.done ≡ c.args.width = omega (arith, c.loop-done-test.false, c.loop-done.invariant.within) in
    written_all (shape c.args.lists.now) c.args.i (holds (block c.args.at c.loop-done.done c.args.rows)) (holds (block c.args.at c.args.width c.args.rows)) (λ p. get_or c.args.raws.now (number_in (block c.args.at c.args.width c.args.rows) c.args.first c.args.width p) 0) c.args.pixels.now c.loop-done.pixels
    (λ p. ap (λ n. holds (block c.args.at n c.args.rows) p) (sym end))
    c.loop-done.invariant.written

pub returns-clause-steps : goal.returns-clause-steps
returns-clause-steps g c =
    let end : c.loop-done.done ≡ c.args.width = omega (arith, c.loop-done-test.false, c.loop-done.invariant.within) in
    let all : c.loop-done.done * c.args.rows ≡ c.args.width * c.args.rows = ap (λ n. n * c.args.rows) end in
    omega (arith, c.loop-done.invariant.steps, all)
