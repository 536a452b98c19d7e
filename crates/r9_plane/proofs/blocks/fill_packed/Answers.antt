use Rattle.std.proofs.Common.{◌≡◌, ◌∙◌, ◌+◌, ◌*◌, ap, sym, length, arith}
use Rattle.r9_geom.specs.Geometry.{distance, height, width}
use Rattle.model_pixel.specs.Rows.{raw_at}
use Rattle.r9_plane.proofs.OneRun.{both_of, run_place, run_point, run_room, Fits, HasBoth}
use Rattle.r9_plane.proofs.blocks.fill_packed.Goals as goal
use Rattle.r9_plane.proofs.blocks.fill_packed.Goals.{After-height}

wide : (c : After-height) → c.args.width ≡ width c.args.r.now
wide c = c.if-width.true ∙ c.width.ensures

both : (c : After-height) → HasBoth c.args.r.now
both c = both_of c.args.r.now c.requires.ordered (sym c.is_empty.ensures.exact ∙ c.if-not-is_empty.true)

room : (c : After-height) → Fits c.args.r.now c.args.first c.args.width c.args.depth (length c.args.bytes.now)
room c = run_room c.args.r.now c.args.first c.args.width c.args.depth (length c.args.bytes.now) (both c) (wide c) c.requires.rows

count : (c : After-height) → c.height.result * c.args.width ≡ height c.args.r.now * c.args.width
count c = ap (λ n. n * c.args.width) c.height.ensures

pub overflow_mul-height : goal.overflow_mul-height
overflow_mul-height c =
    let at = (goal.at.overflow_mul-height c).After-height in
    omega (arith, count at, (room at).number)

pub fill_run-requires-clause-numbers : goal.fill_run-requires-clause-numbers
fill_run-requires-clause-numbers c =
    let at = (goal.at.fill_run-requires-clause-numbers c).After-height in
    omega (arith, count at, (room at).number)

pub fill_run-requires-clause-within : goal.fill_run-requires-clause-within
fill_run-requires-clause-within c =
    let at = (goal.at.fill_run-requires-clause-within c).After-height in
    let same = ap (λ n. (c.args.first + n) * c.args.depth) (count at) in
    omega (arith, same, (room at).room)

pub returns-then-not-is_empty-clause-pixels : goal.returns-then-not-is_empty-clause-pixels
returns-then-not-is_empty-clause-pixels c p h =
    let at = (goal.at.returns-then-not-is_empty-clause-pixels c).After-height in
    let r = c.args.r.now in
    let i = distance r.min.y p.y * c.args.width + distance r.min.x p.x in
    let number : c.args.first + distance r.min.y p.y * c.args.width + distance r.min.x p.x ≡ c.args.first + i = omega arith in
    ap (raw_at c.args.depth c.fill_run.new.bytes) number
    ∙ c.fill_run.ensures.written i (omega (arith, run_place r p c.args.width (wide at) h, count at))

pub returns-then-not-is_empty-clause-others : goal.returns-then-not-is_empty-clause-others
returns-then-not-is_empty-clause-others c n apart =
    let at = (goal.at.returns-then-not-is_empty-clause-others c).After-height in
    c.fill_run.ensures.others n
    (λ i below same.
    let p = run_point c.args.r.now c.args.first c.args.width i c.requires.ordered (both at) (wide at) (omega (arith, below, count at)) in
    apart p.point p.inside (same ∙ sym p.number))
