use Rattle.std.proofs.Common.{◌≡◌, ◌∙◌, ◌+◌, ◌*◌, ◌^◌, true, length, get_or, refl, sym, ap, subst, arith}
use Rattle.r9_geom.specs.declared.Point.{Point}
use Rattle.r9_geom.specs.declared.Rect.{Rect}
use Rattle.r9_geom.specs.Geometry.{area_of, carried, holds, point_at, width, IsOrdered, IsRectNear}
use Rattle.r9_geom.proofs.GeometryLemmas.{height_most, width_most}
use Rattle.model_kept.specs.Keeping.{keeping, own, Place}
use Rattle.r9_plane.specs.Blocks.{number_in, HasRows}
use Rattle.r9_locate.specs.locate.Forms.{bits_in}
use Rattle.r9_locate.specs.locate.Table.{shape}
use Rattle.r9_shown.specs.Shown.{block}
use Rattle.r9_shown.proofs.Columns.{back_number, left_none, left_of, piece_number, piece_rows}
use Rattle.r9_shown.proofs.Keepers.{block_carried}
use Rattle.r9_shown.proofs.Parts.{columns_filled, kept_apart, part_bits, part_has, part_inside, part_more, part_near, part_of, part_written}
use Rattle.r9_shown.proofs.Pieces.{block_area, block_ordered}
use Rattle.r9_shown.proofs.Writing.{filled_none}
use Rattle.r9_shown.proofs.viewing.write_band.Goals as goal

pub loop-done-init : goal.loop-done-init
loop-done-init g c =
    record {
      within = omega arith;
      filled = filled_none Place (keeping (shape c.args.lists.now) c.args.i) (λ (p : Point). get_or c.args.raws.now (number_in c.args.r.now c.args.first c.args.across p) 0) (g.P.Pixels.kept c.args.pixels.now) (left_of c.args.r.now c.args.row c.args.band.now.rows 0) (left_none c.args.r.now c.args.row c.args.band.now.rows);
      has = refl;
      forms = refl;
      moment = refl;
      spare = refl;
      steps = omega arith;
      writes = refl;
    }

pub part_at-part-requires-clause-column : goal.part_at-part-requires-clause-column
part_at-part-requires-clause-column g c =
    omega (arith, c.loop-done-test.true, c.width-columns.ensures)

pub kept_in-requires-clause-near : goal.kept_in-requires-clause-near
unfolding shape
kept_in-requires-clause-near g c =
    let w = shape c.args.lists.now in
    let i = c.args.i in
    let r = c.args.r.now in
    let row = c.args.row in
    let rows = c.args.band.now.rows in
    let done = c.loop-done.done in
    let part = c.part_at-part.result in
    let n = part.extent.columns in
    let is = part_of w i r row done c.args.band.now part c.requires.band c.part_at-part.ensures.some c.part_at-part.ensures.most c.part_at-part.ensures.rows c.part_at-part.ensures.kept in
    (part_near w c.args.lists.now.standing i c.requires.live r c.requires.ordered row rows done n part.image part.at is c.args.lists.now.near c.requires.inside).min

pub kept_in-requires-clause-columns : goal.kept_in-requires-clause-columns
kept_in-requires-clause-columns g c =
    omega (arith, c.part_at-part.ensures.most, width_most c.args.r.now c.requires.near c.requires.ordered)

pub kept_in-requires-clause-rows : goal.kept_in-requires-clause-rows
kept_in-requires-clause-rows g c =
    omega (arith, c.part_at-part.ensures.rows, c.requires.band.most, height_most c.args.r.now c.requires.near c.requires.ordered)

pub write_block-requires-clause-near : goal.write_block-requires-clause-near
unfolding shape
write_block-requires-clause-near g c =
    let w = shape c.args.lists.now in
    let i = c.args.i in
    let r = c.args.r.now in
    let row = c.args.row in
    let rows = c.args.band.now.rows in
    let done = c.loop-done.done in
    let part = c.part_at-part.result in
    let n = part.extent.columns in
    let is = part_of w i r row done c.args.band.now part c.requires.band c.part_at-part.ensures.some c.part_at-part.ensures.most c.part_at-part.ensures.rows c.part_at-part.ensures.kept in
    let rect : c.kept_in.result ≡ block part.at n rows = c.kept_in.ensures ∙ ap (block part.at n) c.part_at-part.ensures.rows in
    subst IsRectNear (sym rect) (part_near w c.args.lists.now.standing i c.requires.live r c.requires.ordered row rows done n part.image part.at is c.args.lists.now.near c.requires.inside)

pub write_block-requires-clause-ordered : goal.write_block-requires-clause-ordered
write_block-requires-clause-ordered g c =
    subst IsOrdered (sym c.kept_in.ensures) (block_ordered c.part_at-part.result.at c.part_at-part.result.extent.columns c.part_at-part.result.extent.rows)

pub write_block-requires-clause-has : goal.write_block-requires-clause-has
unfolding shape
write_block-requires-clause-has g c x h =
    let w = shape c.args.lists.now in
    let i = c.args.i in
    let r = c.args.r.now in
    let row = c.args.row in
    let rows = c.args.band.now.rows in
    let done = c.loop-done.done in
    let part = c.part_at-part.result in
    let n = part.extent.columns in
    let is = part_of w i r row done c.args.band.now part c.requires.band c.part_at-part.ensures.some c.part_at-part.ensures.most c.part_at-part.ensures.rows c.part_at-part.ensures.kept in
    let rect : c.kept_in.result ≡ block part.at n rows = c.kept_in.ensures ∙ ap (block part.at n) c.part_at-part.ensures.rows in
    ap (λ has. has (own part.image x)) c.loop-done.invariant.has
    ∙ part_has w c.args.lists.now.standing i c.requires.live r c.requires.ordered row rows done n part.image part.at is (g.P.Pixels.has c.args.pixels.now) c.requires.has x (ap (λ (s : Rect). holds s x) (sym rect) ∙ h)

pub overflow_mul-from : goal.overflow_mul-from
overflow_mul-from g c =
    omega (arith, c.requires.rows.fits c.args.row c.requires.row, c.loop-done-test.true, c.width-columns.ensures)

pub overflow_add-from : goal.overflow_add-from
overflow_add-from g c =
    omega (arith, c.requires.rows.fits c.args.row c.requires.row, c.loop-done-test.true, c.width-columns.ensures)

pub write_block-requires-clause-rows : goal.write_block-requires-clause-rows
unfolding shape
write_block-requires-clause-rows g c =
    let w = shape c.args.lists.now in
    let i = c.args.i in
    let r = c.args.r.now in
    let row = c.args.row in
    let rows = c.args.band.now.rows in
    let done = c.loop-done.done in
    let part = c.part_at-part.result in
    let n = part.extent.columns in
    let is = part_of w i r row done c.args.band.now part c.requires.band c.part_at-part.ensures.some c.part_at-part.ensures.most c.part_at-part.ensures.rows c.part_at-part.ensures.kept in
    let rect : c.kept_in.result ≡ block part.at n rows = c.kept_in.ensures ∙ ap (block part.at n) c.part_at-part.ensures.rows in
    subst (λ (s : Rect). HasRows s (c.args.first + c.args.row * c.args.across + c.loop-done.done) c.args.across (length c.args.raws.now)) (sym rect)
    (piece_rows r row rows done n c.args.first (c.args.first + c.args.row * c.args.across + c.loop-done.done) c.args.across (length c.args.raws.now) part.at refl is.low is.few c.requires.rows)

pub write_block-requires-clause-below : goal.write_block-requires-clause-below
unfolding shape
write_block-requires-clause-below g c x h =
    let w = shape c.args.lists.now in
    let i = c.args.i in
    let r = c.args.r.now in
    let row = c.args.row in
    let rows = c.args.band.now.rows in
    let done = c.loop-done.done in
    let part = c.part_at-part.result in
    let n = part.extent.columns in
    let is = part_of w i r row done c.args.band.now part c.requires.band c.part_at-part.ensures.some c.part_at-part.ensures.most c.part_at-part.ensures.rows c.part_at-part.ensures.kept in
    let rect : c.kept_in.result ≡ block part.at n rows = c.kept_in.ensures ∙ ap (block part.at n) c.part_at-part.ensures.rows in
    let forms = g.P.Pixels.forms c.args.pixels.now in
    let inside : holds (block part.at n rows) x ≡ true = ap (λ (s : Rect). holds s x) (sym rect) ∙ h in
    let q : Point = carried x part.at (point_at r done row) in
    let number : get_or c.args.raws.now (number_in c.kept_in.result (c.args.first + c.args.row * c.args.across + c.loop-done.done) c.args.across x) 0 ≡ get_or c.args.raws.now (number_in r c.args.first c.args.across q) 0 =
    ap (λ (s : Rect). get_or c.args.raws.now (number_in s (c.args.first + c.args.row * c.args.across + c.loop-done.done) c.args.across x) 0) rect
    ∙ ap (λ m. get_or c.args.raws.now m 0) (back_number r row rows done n c.args.first (c.args.first + c.args.row * c.args.across + c.loop-done.done) c.args.across part.at x refl inside) in
    let bits : 2 ^ bits_in (g.P.Pixels.forms c.loop-done.pixels) part.image ≡ 2 ^ bits_in forms i = ap (λ f. 2 ^ bits_in f part.image) c.loop-done.invariant.forms ∙ ap (λ m. 2 ^ m) (part_bits w c.args.lists.now.standing i c.requires.live r c.requires.ordered row rows done n part.image part.at is forms c.requires.bits) in
    omega (arith, number, bits, c.requires.below q (part_inside w c.args.lists.now.standing i c.requires.live r c.requires.ordered row rows done n part.image part.at is q (block_carried part.at (point_at r done row) x n rows inside)))

pub loop-done-preserved : goal.loop-done-preserved
unfolding shape
loop-done-preserved g c =
    let w = shape c.args.lists.now in
    let i = c.args.i in
    let r = c.args.r.now in
    let row = c.args.row in
    let rows = c.args.band.now.rows in
    let done = c.loop-done.done in
    let part = c.part_at-part.result in
    let n = part.extent.columns in
    let is = part_of w i r row done c.args.band.now part c.requires.band c.part_at-part.ensures.some c.part_at-part.ensures.most c.part_at-part.ensures.rows c.part_at-part.ensures.kept in
    let rect : c.kept_in.result ≡ block part.at n rows = c.kept_in.ensures ∙ ap (block part.at n) c.part_at-part.ensures.rows in
    let size : area_of c.kept_in.result ≡ n * rows = ap area_of rect ∙ block_area part.at n rows in
    let more : (done + n) * rows ≡ done * rows + n * rows = grind arith in
    let start = (c.args.first + c.args.row * c.args.across + c.loop-done.done) in
    let raws = c.args.raws.now in
    let value = λ (p : Point). get_or raws (number_in r c.args.first c.args.across p) 0 in
    let source = λ (x : Point). get_or raws (number_in (block part.at n rows) start c.args.across x) 0 in
    let before = g.P.Pixels.kept c.args.pixels.now in
    let mid = g.P.Pixels.kept c.loop-done.pixels in
    let after = g.P.Pixels.kept c.write_block.new.self in
    record {
      within = c.part_at-part.ensures.most;
      filled =
          part_more w c.args.lists.now.standing i c.requires.live r c.requires.ordered row rows done n part.image part.at is Place (keeping w i) value before mid after (kept_apart w c.args.lists.now.standing i c.requires.live r) c.loop-done.invariant.filled
          (part_written w c.args.lists.now.standing i c.requires.live r c.requires.ordered row rows done n part.image part.at is value source mid after
          (λ p h. ap (λ m. get_or raws m 0) (piece_number r row rows done n c.args.first start c.args.across part.at p refl h))
          (λ x h. c.write_block.ensures.at x (ap (λ (s : Rect). holds s x) rect ∙ h) ∙ ap (λ (s : Rect). get_or raws (number_in s start c.args.across x) 0) rect)
          (λ k apart. c.write_block.ensures.others k (λ x h. apart x (ap (λ (s : Rect). holds s x) (sym rect) ∙ h))));
      has = c.write_block.ensures.has ∙ c.loop-done.invariant.has;
      forms = c.write_block.ensures.forms ∙ c.loop-done.invariant.forms;
      moment = c.write_block.ensures.moment ∙ c.loop-done.invariant.moment;
      spare = c.write_block.ensures.spare ∙ c.loop-done.invariant.spare;
      steps = omega (arith, c.write_block.ensures.steps, c.loop-done.invariant.steps, size, more);
      writes = omega (arith, c.write_block.ensures.writes, c.loop-done.invariant.writes);
    }

pub returns-clause-at : goal.returns-clause-at
returns-clause-at g c =
    let end : c.loop-done.done ≡ width c.args.r.now = omega (arith, c.loop-done-test.false, c.width-columns.ensures, c.loop-done.invariant.within) in
    (columns_filled Place (keeping (shape c.args.lists.now) c.args.i) (λ (p : Point). get_or c.args.raws.now (number_in c.args.r.now c.args.first c.args.across p) 0) (g.P.Pixels.kept c.args.pixels.now) (g.P.Pixels.kept c.loop-done.pixels) c.args.r.now c.args.row c.args.band.now.rows c.loop-done.done c.requires.ordered end c.loop-done.invariant.filled).at

pub returns-clause-others : goal.returns-clause-others
returns-clause-others g c =
    let end : c.loop-done.done ≡ width c.args.r.now = omega (arith, c.loop-done-test.false, c.width-columns.ensures, c.loop-done.invariant.within) in
    (columns_filled Place (keeping (shape c.args.lists.now) c.args.i) (λ (p : Point). get_or c.args.raws.now (number_in c.args.r.now c.args.first c.args.across p) 0) (g.P.Pixels.kept c.args.pixels.now) (g.P.Pixels.kept c.loop-done.pixels) c.args.r.now c.args.row c.args.band.now.rows c.loop-done.done c.requires.ordered end c.loop-done.invariant.filled).others

pub returns-clause-steps : goal.returns-clause-steps
returns-clause-steps g c =
    let end : c.loop-done.done ≡ width c.args.r.now = omega (arith, c.loop-done-test.false, c.width-columns.ensures, c.loop-done.invariant.within) in
    let all : c.loop-done.done * c.args.band.now.rows ≡ width c.args.r.now * c.args.band.now.rows = ap (λ m. m * c.args.band.now.rows) end in
    omega (arith, c.loop-done.invariant.steps, all)
