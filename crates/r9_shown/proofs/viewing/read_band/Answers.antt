use Rattle.std.proofs.Common.{◌≡◌, ◌∙◌, ◌+◌, ◌*◌, ◌≤◌, ℕ, length, get_or, sym, ap, subst, arith}
use Rattle.r9_geom.specs.declared.Point.{Point}
use Rattle.r9_geom.specs.declared.Rect.{Rect}
use Rattle.r9_geom.specs.Geometry.{area_of, carried, holds, point_at, width, IsOrdered, IsRectNear}
use Rattle.r9_geom.proofs.GeometryLemmas.{height_most, width_most}
use Rattle.model_kept.specs.Keeping.{keeping, own}
use Rattle.r9_plane.specs.Blocks.{number_in, HasRows}
use Rattle.r9_plane.specs.Pixels.{number_of}
use Rattle.r9_plane.proofs.PlaneLemmas.{number_tells}
use Rattle.r9_locate.specs.locate.Table.{shape}
use Rattle.r9_shown.specs.Shown.{block}
use Rattle.r9_shown.proofs.Columns.{all_number, left_none, left_of, piece_number, piece_rows, rows_among}
use Rattle.r9_shown.proofs.Parts.{columns_filled, part_has, part_more, part_near, part_of}
use Rattle.r9_shown.proofs.Pieces.{block_ordered}
use Rattle.r9_shown.proofs.Writing.{filled_block, filled_none}
use Rattle.r9_shown.proofs.viewing.read_band.Goals as goal

pub loop-done-init : goal.loop-done-init
loop-done-init g c =
    record {
      within = omega arith;
      filled = filled_none ℕ (number_of c.args.r.now) (λ (p : Point). g.P.Pixels.kept c.args.pixels.now (keeping (shape c.args.lists.now) c.args.i p)) (λ m. get_or c.args.raws.now m 0) (left_of c.args.r.now c.args.row c.args.band.now.rows 0) (left_none c.args.r.now c.args.row c.args.band.now.rows);
    }

pub part_at-part-requires-clause-column : goal.part_at-part-requires-clause-column
part_at-part-requires-clause-column g c =
    omega (arith, c.loop-done-test.true, c.width-columns.ensures)

pub kept_in-requires-clause-near : goal.kept_in-requires-clause-near
unfolding shape
kept_in-requires-clause-near g c =
    let w = shape c.args.lists.now in
    let i = c.args.i in
    let r = c.args.r.now in
    let row = c.args.row in
    let rows = c.args.band.now.rows in
    let done = c.loop-done.done in
    let part = c.part_at-part.result in
    let n = part.extent.columns in
    let is = part_of w i r row done c.args.band.now part c.requires.band c.part_at-part.ensures.some c.part_at-part.ensures.most c.part_at-part.ensures.rows c.part_at-part.ensures.kept in
    (part_near w c.args.lists.now.standing i c.requires.live r c.requires.ordered row rows done n part.image part.at is c.args.lists.now.near c.requires.inside).min

pub kept_in-requires-clause-columns : goal.kept_in-requires-clause-columns
kept_in-requires-clause-columns g c =
    omega (arith, c.part_at-part.ensures.most, width_most c.args.r.now c.requires.near c.requires.ordered)

pub kept_in-requires-clause-rows : goal.kept_in-requires-clause-rows
kept_in-requires-clause-rows g c =
    omega (arith, c.part_at-part.ensures.rows, c.requires.band.most, height_most c.args.r.now c.requires.near c.requires.ordered)

pub read_block-requires-clause-near : goal.read_block-requires-clause-near
unfolding shape
read_block-requires-clause-near g c =
    let w = shape c.args.lists.now in
    let i = c.args.i in
    let r = c.args.r.now in
    let row = c.args.row in
    let rows = c.args.band.now.rows in
    let done = c.loop-done.done in
    let part = c.part_at-part.result in
    let n = part.extent.columns in
    let is = part_of w i r row done c.args.band.now part c.requires.band c.part_at-part.ensures.some c.part_at-part.ensures.most c.part_at-part.ensures.rows c.part_at-part.ensures.kept in
    let rect : c.kept_in.result ≡ block part.at n rows = c.kept_in.ensures ∙ ap (block part.at n) c.part_at-part.ensures.rows in
    subst IsRectNear (sym rect) (part_near w c.args.lists.now.standing i c.requires.live r c.requires.ordered row rows done n part.image part.at is c.args.lists.now.near c.requires.inside)

pub read_block-requires-clause-ordered : goal.read_block-requires-clause-ordered
read_block-requires-clause-ordered g c =
    subst IsOrdered (sym c.kept_in.ensures) (block_ordered c.part_at-part.result.at c.part_at-part.result.extent.columns c.part_at-part.result.extent.rows)

pub read_block-requires-clause-has : goal.read_block-requires-clause-has
unfolding shape
read_block-requires-clause-has g c x h =
    let w = shape c.args.lists.now in
    let i = c.args.i in
    let r = c.args.r.now in
    let row = c.args.row in
    let rows = c.args.band.now.rows in
    let done = c.loop-done.done in
    let part = c.part_at-part.result in
    let n = part.extent.columns in
    let is = part_of w i r row done c.args.band.now part c.requires.band c.part_at-part.ensures.some c.part_at-part.ensures.most c.part_at-part.ensures.rows c.part_at-part.ensures.kept in
    let rect : c.kept_in.result ≡ block part.at n rows = c.kept_in.ensures ∙ ap (block part.at n) c.part_at-part.ensures.rows in
    part_has w c.args.lists.now.standing i c.requires.live r c.requires.ordered row rows done n part.image part.at is (g.P.Pixels.has c.args.pixels.now) c.requires.has x (ap (λ (s : Rect). holds s x) (sym rect) ∙ h)

pub overflow_mul-first : goal.overflow_mul-first
overflow_mul-first g c =
    let r = c.args.r.now in
    let long : area_of r ≤ length c.loop-done.raws = omega (arith, c.requires.room, c.loop-done.auto.raws) in
    let wide : c.args.row * c.width-columns.result ≡ c.args.row * width r = ap (λ n. c.args.row * n) c.width-columns.ensures in
    omega (arith, (rows_among r (length c.loop-done.raws) long).fits c.args.row c.requires.row, wide, c.loop-done-test.true, c.width-columns.ensures)

pub overflow_add-first : goal.overflow_add-first
overflow_add-first g c =
    let r = c.args.r.now in
    let long : area_of r ≤ length c.loop-done.raws = omega (arith, c.requires.room, c.loop-done.auto.raws) in
    let wide : c.args.row * c.width-columns.result ≡ c.args.row * width r = ap (λ n. c.args.row * n) c.width-columns.ensures in
    omega (arith, (rows_among r (length c.loop-done.raws) long).fits c.args.row c.requires.row, wide, c.loop-done-test.true, c.width-columns.ensures)

pub read_block-requires-clause-rows : goal.read_block-requires-clause-rows
unfolding shape
read_block-requires-clause-rows g c =
    let w = shape c.args.lists.now in
    let i = c.args.i in
    let r = c.args.r.now in
    let row = c.args.row in
    let rows = c.args.band.now.rows in
    let done = c.loop-done.done in
    let part = c.part_at-part.result in
    let n = part.extent.columns in
    let is = part_of w i r row done c.args.band.now part c.requires.band c.part_at-part.ensures.some c.part_at-part.ensures.most c.part_at-part.ensures.rows c.part_at-part.ensures.kept in
    let rect : c.kept_in.result ≡ block part.at n rows = c.kept_in.ensures ∙ ap (block part.at n) c.part_at-part.ensures.rows in
    let across = c.width-columns.result in
    let start = row * across + done in
    let lines : row * across ≡ row * width r = ap (λ m. row * m) c.width-columns.ensures in
    let start_is : start ≡ 0 + row * width r + done = omega (arith, lines) in
    let long : area_of r ≤ length c.loop-done.raws = omega (arith, c.requires.room, c.loop-done.auto.raws) in
    subst (λ (s : Rect). HasRows s start across (length c.loop-done.raws)) (sym rect)
    (subst (λ m. HasRows (block part.at n rows) start m (length c.loop-done.raws)) (sym c.width-columns.ensures)
    (piece_rows r row rows done n 0 start (width r) (length c.loop-done.raws) part.at start_is is.low is.few (rows_among r (length c.loop-done.raws) long)))

pub loop-done-preserved : goal.loop-done-preserved
unfolding shape
loop-done-preserved g c =
    let w = shape c.args.lists.now in
    let i = c.args.i in
    let r = c.args.r.now in
    let row = c.args.row in
    let rows = c.args.band.now.rows in
    let done = c.loop-done.done in
    let part = c.part_at-part.result in
    let n = part.extent.columns in
    let is = part_of w i r row done c.args.band.now part c.requires.band c.part_at-part.ensures.some c.part_at-part.ensures.most c.part_at-part.ensures.rows c.part_at-part.ensures.kept in
    let rect : c.kept_in.result ≡ block part.at n rows = c.kept_in.ensures ∙ ap (block part.at n) c.part_at-part.ensures.rows in
    let across = c.width-columns.result in
    let start = row * across + done in
    let lines : row * across ≡ row * width r = ap (λ m. row * m) c.width-columns.ensures in
    let start_is : start ≡ 0 + row * width r + done = omega (arith, lines) in
    let q : Point = point_at r done row in
    let before = λ (m : ℕ). get_or c.args.raws.now m 0 in
    let mid = λ (m : ℕ). get_or c.loop-done.raws m 0 in
    let after = λ (m : ℕ). get_or c.read_block.new.raws m 0 in
    let kept = g.P.Pixels.kept c.args.pixels.now in
    let value = λ (p : Point). kept (keeping w i p) in
    let number : (s : Rect) (x : Point) → number_in s start across x ≡ number_in s start (width r) x = λ s x. ap (λ m. number_in s start m x) c.width-columns.ensures in
    record {
      within = c.part_at-part.ensures.most;
      filled =
          part_more w c.args.lists.now.standing i c.requires.live r c.requires.ordered row rows done n part.image part.at is ℕ (number_of r) value before mid after (number_tells r) c.loop-done.invariant.filled
          (filled_block ℕ (number_of r) (number_in (block part.at n rows) start across) value (λ x. kept (own part.image x)) mid after q part.at n rows
          (λ p h. sym (number (block part.at n rows) (carried p q part.at) ∙ piece_number r row rows done n 0 start (width r) part.at p start_is h ∙ all_number r p))
          (λ p h. ap kept (sym (is.kept p h)))
          (λ x h. ap (λ (s : Rect). after (number_in s start across x)) (sym rect) ∙ c.read_block.ensures.pixels x (ap (λ (s : Rect). holds s x) rect ∙ h))
          (λ k apart. c.read_block.ensures.others k (λ x h same. apart x (ap (λ (s : Rect). holds s x) (sym rect) ∙ h) (same ∙ ap (λ (s : Rect). number_in s start across x) rect))));
    }

pub returns-clause-pixels : goal.returns-clause-pixels
returns-clause-pixels g c =
    let end : c.loop-done.done ≡ width c.args.r.now = omega (arith, c.loop-done-test.false, c.width-columns.ensures, c.loop-done.invariant.within) in
    (columns_filled ℕ (number_of c.args.r.now) (λ (p : Point). g.P.Pixels.kept c.args.pixels.now (keeping (shape c.args.lists.now) c.args.i p)) (λ m. get_or c.args.raws.now m 0) (λ m. get_or c.loop-done.raws m 0) c.args.r.now c.args.row c.args.band.now.rows c.loop-done.done c.requires.ordered end c.loop-done.invariant.filled).at

pub returns-clause-others : goal.returns-clause-others
returns-clause-others g c =
    let end : c.loop-done.done ≡ width c.args.r.now = omega (arith, c.loop-done-test.false, c.width-columns.ensures, c.loop-done.invariant.within) in
    (columns_filled ℕ (number_of c.args.r.now) (λ (p : Point). g.P.Pixels.kept c.args.pixels.now (keeping (shape c.args.lists.now) c.args.i p)) (λ m. get_or c.args.raws.now m 0) (λ m. get_or c.loop-done.raws m 0) c.args.r.now c.args.row c.args.band.now.rows c.loop-done.done c.requires.ordered end c.loop-done.invariant.filled).others
