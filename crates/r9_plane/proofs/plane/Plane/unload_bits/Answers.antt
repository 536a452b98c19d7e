use Rattle.std.proofs.Common.{◌≡◌, ◌<◌, ◌*◌, ◌+◌, ◌∙◌, ap, sym, refl, get_or, length, replicate, arith}
use Rattle.r9_geom.specs.Geometry.{holds, point_at, width}
use Rattle.r9_geom.proofs.GeometryLemmas.{width_most}
use Rattle.model_pixel.specs.Channels.{depth, is_depth}
use Rattle.model_pixel.specs.Rows.{raw_at, skip}
use Rattle.r9_plane.specs.Pixels.{number_of, pixel_at}
use Rattle.r9_plane.proofs.PlaneLemmas.{row_lies, row_read, run_below, run_fits, start_in, line_bytes}
use Rattle.r9_plane.proofs.RowLemmas.{row_fits}
use Rattle.r9_plane.proofs.RunLemmas.{zeros_all}
use Rattle.r9_plane.proofs.plane.Plane.unload_bits.Goals as goal

pub number-first-requires : goal.number-first-requires
number-first-requires c =
    let plane = c.args.self.now in
    let r = c.args.r.now in
    let lies = row_lies r plane.r c.args.row c.requires.ordered c.requires.row c.requires.inside in
    ap (holds plane.r) c.point_at.ensures
    ∙ start_in plane.r (point_at r 0 c.args.row) (width r) (omega (arith, c.width-width.ensures, c.if-width-gt0.true)) lies

pub copy_run-requires-clause-within : goal.copy_run-requires-clause-within
copy_run-requires-clause-within c =
    let plane = c.args.self.now in
    let r = c.args.r.now in
    let bits = depth plane.chan in
    let fits = row_fits r bits c.requires.near c.requires.ordered (ap is_depth (sym plane.depth_is) ∙ plane.lawful) in
    let before : c.skip-skip.result ≡ skip r bits = c.skip-skip.ensures.value ∙ ap (skip r) plane.depth_is in
    let product : (c.skip-skip.result + c.width-width.result) * plane.depth ≡ (skip r bits + width r) * bits =
    (λ i. (before i + c.width-width.ensures i) * plane.depth_is i) in
    omega (arith, product, fits, c.requires.line, c.fill.ensures.len)

pub copy_run-requires-clause-from : goal.copy_run-requires-clause-from
copy_run-requires-clause-from c =
    let plane = c.args.self.now in
    let r = c.args.r.now in
    let at = point_at r 0 c.args.row in
    let lies = row_lies r plane.r c.args.row c.requires.ordered c.requires.row c.requires.inside in
    let some : 0 < width r = omega (arith, c.width-width.ensures, c.if-width-gt0.true) in
    let first = c.number-first.ensures.value ∙ ap (number_of plane.r) c.point_at.ensures in
    let fits = run_fits plane.r at (width r) c.number-first.result plane.depth plane.bytes.len some lies first plane.room in
    let product : (c.number-first.result + c.width-width.result) * plane.depth ≡ (c.number-first.result + width r) * plane.depth =
    ap (λ n. (c.number-first.result + n) * plane.depth) c.width-width.ensures in
    omega (arith, product, fits, c.deref.ensures.len)

pub copy_run-requires-clause-numbers : goal.copy_run-requires-clause-numbers
copy_run-requires-clause-numbers c =
    omega (arith, c.width-width.ensures, c.skip-skip.ensures.range, width_most c.args.r.now c.requires.near c.requires.ordered)

pub copy_run-requires-clause-from_numbers : goal.copy_run-requires-clause-from_numbers
copy_run-requires-clause-from_numbers c =
    let plane = c.args.self.now in
    let r = c.args.r.now in
    let at = point_at r 0 c.args.row in
    let lies = row_lies r plane.r c.args.row c.requires.ordered c.requires.row c.requires.inside in
    let some : 0 < width r = omega (arith, c.width-width.ensures, c.if-width-gt0.true) in
    let first = c.number-first.ensures.value ∙ ap (number_of plane.r) c.point_at.ensures in
    omega (arith, run_below plane.r at (width r) some lies, first, plane.countable, c.width-width.ensures)

pub returns-then-width-gt0 : goal.returns-then-width-gt0
unfolding pixel_at
returns-then-width-gt0 c k below =
    let plane = c.args.self.now in
    let r = c.args.r.now in
    let bits = depth plane.chan in
    let at = point_at r 0 c.args.row in
    let zeros = c.fill.new.self in
    let line = c.copy_run.new.bytes in
    let lies = row_lies r plane.r c.args.row c.requires.ordered c.requires.row c.requires.inside in
    let first = c.number-first.ensures.value ∙ ap (number_of plane.r) c.point_at.ensures in
    let before : c.skip-skip.result ≡ skip r bits = c.skip-skip.ensures.value ∙ ap (skip r) plane.depth_is in
    let wide = c.width-width.ensures in
    line_bytes r bits (pixel_at plane) c.args.row (λ i. raw_at bits plane.bytes.items (number_of plane.r at + i)) zeros line
    (ap is_depth (sym plane.depth_is) ∙ plane.lawful)
    (λ j. ap (λ xs. get_or xs j 0) (let all : zeros ≡ replicate (length c.args.line.now) 0 = c.fill.ensures.after (λ y h. h) in all) ∙ zeros_all (length c.args.line.now) j)
    (λ j. (c.type_inv.line j).fits)
    (record {
      written = λ i h.
          (λ t. raw_at (sym plane.depth_is t) line (sym before t + i))
          ∙ c.copy_run.ensures.written i (omega (arith, h, wide))
          ∙ (λ t. raw_at (plane.depth_is t) (c.deref.ensures.value t) (first t + i));
      others = λ n apart.
          ap (λ d. raw_at d line n) (sym plane.depth_is)
          ∙ c.copy_run.ensures.others n (λ i h same. apart i (omega (arith, h, wide)) (same ∙ ap (λ s. s + i) before))
          ∙ ap (λ d. raw_at d zeros n) plane.depth_is;
    })
    (λ i h. row_read plane.r plane.chan plane.bytes.items at (width r) i lies h) k

pub returns-else-width-gt0 : goal.returns-else-width-gt0
unfolding pixel_at
returns-else-width-gt0 c k below =
    let plane = c.args.self.now in
    let r = c.args.r.now in
    let zeros = c.fill.new.self in
    let none : width r ≡ 0 = omega (arith, c.width-width.ensures, c.if-width-gt0.false) in
    line_bytes r (depth plane.chan) (pixel_at plane) c.args.row (λ i. 0) zeros zeros
    (ap is_depth (sym plane.depth_is) ∙ plane.lawful)
    (λ j. ap (λ xs. get_or xs j 0) (let all : zeros ≡ replicate (length c.args.line.now) 0 = c.fill.ensures.after (λ y h. h) in all) ∙ zeros_all (length c.args.line.now) j)
    (λ j. (c.type_inv.line j).fits)
    (record { written = λ i h. absurd (omega (arith, h, none)); others = λ n apart. refl })
    (λ i h. absurd (omega (arith, h, none))) k
