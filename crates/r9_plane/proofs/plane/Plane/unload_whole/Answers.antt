use Rattle.std.proofs.Common.{◌≡◌, ◌<◌, ◌≤◌, ◌*◌, ◌+◌, ◌∙◌, ap, sym, arith}
use Rattle.r9_geom.specs.Geometry.{holds, point_at, width}
use Rattle.r9_geom.proofs.GeometryLemmas.{width_most}
use Rattle.model_pixel.specs.Channels.{depth, is_depth}
use Rattle.model_pixel.specs.Rows.{raw_at, row_bytes, skip}
use Rattle.r9_plane.specs.Pixels.{number_of, pixel_at}
use Rattle.r9_plane.proofs.PlaneLemmas.{row_lies, row_read, run_below, run_fits, start_in, whole_line}
use Rattle.r9_plane.proofs.RowLemmas.{row_fits, skip_whole, whole_inner}
use Rattle.r9_plane.proofs.plane.Plane.unload_whole.Goals as goal

pub number-first-requires : goal.number-first-requires
number-first-requires c =
    let plane = c.args.self.now in
    let r = c.args.r.now in
    let lies = row_lies r plane.r c.args.row c.requires.ordered c.requires.row c.requires.inside in
    ap (holds plane.r) c.point_at.ensures
    ∙ start_in plane.r (point_at r 0 c.args.row) (width r) (omega (arith, c.width-width.ensures, c.if-width-gt0.true)) lies

pub copy_run-requires-clause-within : goal.copy_run-requires-clause-within
copy_run-requires-clause-within c =
    let plane = c.args.self.now in
    let r = c.args.r.now in
    let bits = depth plane.chan in
    let is = ap is_depth (sym plane.depth_is) ∙ plane.lawful in
    let whole : 8 ≤ bits = omega (arith, plane.depth_is, c.requires.whole) in
    let fits = row_fits r bits c.requires.near c.requires.ordered is in
    let none = skip_whole r bits is whole in
    let product : (0 + c.width-width.result) * plane.depth ≡ (skip r bits + width r) * bits =
    (λ i. (sym none i + c.width-width.ensures i) * plane.depth_is i) in
    omega (arith, product, fits, c.requires.line)

pub copy_run-requires-clause-from : goal.copy_run-requires-clause-from
copy_run-requires-clause-from c =
    let plane = c.args.self.now in
    let r = c.args.r.now in
    let at = point_at r 0 c.args.row in
    let lies = row_lies r plane.r c.args.row c.requires.ordered c.requires.row c.requires.inside in
    let some : 0 < width r = omega (arith, c.width-width.ensures, c.if-width-gt0.true) in
    let first = c.number-first.ensures.value ∙ ap (number_of plane.r) c.point_at.ensures in
    let fits = run_fits plane.r at (width r) c.number-first.result plane.depth plane.bytes.len some lies first plane.room in
    let product : (c.number-first.result + c.width-width.result) * plane.depth ≡ (c.number-first.result + width r) * plane.depth =
    ap (λ n. (c.number-first.result + n) * plane.depth) c.width-width.ensures in
    omega (arith, product, fits, c.deref.ensures.len)

pub copy_run-requires-clause-numbers : goal.copy_run-requires-clause-numbers
copy_run-requires-clause-numbers c = omega (arith, c.width-width.ensures, width_most c.args.r.now c.requires.near c.requires.ordered)

pub copy_run-requires-clause-from_numbers : goal.copy_run-requires-clause-from_numbers
copy_run-requires-clause-from_numbers c =
    let plane = c.args.self.now in
    let r = c.args.r.now in
    let at = point_at r 0 c.args.row in
    let lies = row_lies r plane.r c.args.row c.requires.ordered c.requires.row c.requires.inside in
    let some : 0 < width r = omega (arith, c.width-width.ensures, c.if-width-gt0.true) in
    let first = c.number-first.ensures.value ∙ ap (number_of plane.r) c.point_at.ensures in
    omega (arith, run_below plane.r at (width r) some lies, first, plane.countable, c.width-width.ensures)

pub returns-then-width-gt0 : goal.returns-then-width-gt0
unfolding pixel_at
returns-then-width-gt0 c k below =
    let plane = c.args.self.now in
    let r = c.args.r.now in
    let bits = depth plane.chan in
    let at = point_at r 0 c.args.row in
    let line = c.copy_run.new.bytes in
    let is = ap is_depth (sym plane.depth_is) ∙ plane.lawful in
    let whole : 8 ≤ bits = omega (arith, plane.depth_is, c.requires.whole) in
    let lies = row_lies r plane.r c.args.row c.requires.ordered c.requires.row c.requires.inside in
    let first = c.number-first.ensures.value ∙ ap (number_of plane.r) c.point_at.ensures in
    let wide = c.width-width.ensures in
    let within : k < row_bytes r bits = omega (arith, below, c.requires.line) in
    whole_line r bits (pixel_at plane) c.args.row k line is whole (whole_inner r bits k c.requires.near c.requires.ordered is whole within)
    (λ j. (c.type_inv.line j).fits)
    (λ i h.
    (λ t. raw_at (sym plane.depth_is t) line i)
    ∙ (let here : i ≡ 0 + i = omega arith in ap (raw_at plane.depth line) here)
    ∙ c.copy_run.ensures.written i (omega (arith, h, wide))
    ∙ (λ t. raw_at (plane.depth_is t) (c.deref.ensures.value t) (first t + i))
    ∙ row_read plane.r plane.chan plane.bytes.items at (width r) i lies h)

pub returns-else-width-gt0 : goal.returns-else-width-gt0
returns-else-width-gt0 c k below =
    let plane = c.args.self.now in
    let r = c.args.r.now in
    let bits = depth plane.chan in
    let is = ap is_depth (sym plane.depth_is) ∙ plane.lawful in
    let whole : 8 ≤ bits = omega (arith, plane.depth_is, c.requires.whole) in
    let within : k < row_bytes r bits = omega (arith, below, c.requires.line) in
    absurd (omega (arith, whole_inner r bits k c.requires.near c.requires.ordered is whole within, c.width-width.ensures, c.if-width-gt0.false))
