use Rattle.std.proofs.Common.{◌≡◌, ◌∙◌, ◌+◌, ◌*◌, ◌<◌, true, false, length, drop, length-drop, ap, arith}
use Rattle.std.proofs.lemmas.Nat.{mul-le}
use Rattle.r9_geom.specs.Geometry.{distance, height, holds, width}
use Rattle.r9_geom.proofs.GeometryLemmas.{cell_of, width_most}
use Rattle.model_pixel.specs.Rows.{raw_at, row_bytes, skip}
use Rattle.r9_plane.specs.Pixels.{along}
use Rattle.r9_plane.proofs.PlaneLemmas.{column_along, lines_left, rest_is, run_narrow, some_of, start_in}
use Rattle.r9_plane.proofs.RowLemmas.{row_fits}
use Rattle.r9_plane.proofs.rows.read_rows.Goals as goal
use Rattle.r9_plane.proofs.rows.read_rows.Goals.{After-is_empty}

some : (c : After-is_empty) → c.is_empty.result ≡ false → 0 < length c.args.raws.now
some c e = some_of (length c.args.raws.now) c.is_empty.ensures e

-- the point from which it reads is the rectangle's
inside : (c : After-is_empty) → c.is_empty.result ≡ false → holds c.args.r.now c.args.at ≡ true
inside c e = start_in c.args.r.now c.args.at (length c.args.raws.now) (some c e) c.requires.inside

pub rows_above-requires : goal.rows_above-requires
rows_above-requires c = inside (goal.at.rows_above-requires c).After-is_empty c.if-is_empty.false

pub columns_before-requires : goal.columns_before-requires
columns_before-requires c = inside (goal.at.columns_before-requires c).After-is_empty c.if-is_empty.false

pub overflow_mul-start : goal.overflow_mul-start
overflow_mul-start c =
    let r = c.args.r.now in
    let row = (cell_of r c.args.at (inside (goal.at.overflow_mul-start c).After-is_empty c.if-is_empty.false)).row in
    let line = c.row_bytes.ensures.value in
    let product = mul-le c.rows_above.result c.row_bytes.result (height r) (row_bytes r c.args.depth) (omega (arith, row, c.rows_above.ensures)) (omega (arith, line)) in
    omega (arith, product, c.requires.rows)

pub overflow_add-first : goal.overflow_add-first
overflow_add-first c =
    let r = c.args.r.now in
    let column = (cell_of r c.args.at (inside (goal.at.overflow_add-first c).After-is_empty c.if-is_empty.false)).column in
    omega (arith, c.skip.ensures.range, c.columns_before.ensures, column, width_most r c.requires.near c.requires.ordered)

pub slice_bounds-read_run-count : goal.slice_bounds-read_run-count
slice_bounds-read_run-count c =
    let r = c.args.r.now in
    let row = (cell_of r c.args.at (inside (goal.at.slice_bounds-read_run-count c).After-is_empty c.if-is_empty.false)).row in
    let line = c.row_bytes.ensures.value in
    let product = mul-le c.rows_above.result c.row_bytes.result (height r) (row_bytes r c.args.depth) (omega (arith, row, c.rows_above.ensures)) (omega (arith, line)) in
    omega (arith, product, c.requires.rows)

pub slice_bounds-read_run-start : goal.slice_bounds-read_run-start
slice_bounds-read_run-start c =
    let r = c.args.r.now in
    let row = (cell_of r c.args.at (inside (goal.at.slice_bounds-read_run-start c).After-is_empty c.if-is_empty.false)).row in
    let line = c.row_bytes.ensures.value in
    let product = mul-le c.rows_above.result c.row_bytes.result (height r) (row_bytes r c.args.depth) (omega (arith, row, c.rows_above.ensures)) (omega (arith, line)) in
    omega (arith, product, c.requires.rows)

pub read_run-requires-clause-numbers : goal.read_run-requires-clause-numbers
read_run-requires-clause-numbers c =
    let r = c.args.r.now in
    let n = length c.args.raws.now in
    let fits = run_narrow r c.args.at n (some (goal.at.read_run-requires-clause-numbers c).After-is_empty c.if-is_empty.false) c.requires.inside in
    omega (arith, c.skip.ensures.range, c.columns_before.ensures, fits, width_most r c.requires.near c.requires.ordered)

pub read_run-requires-clause-within : goal.read_run-requires-clause-within
read_run-requires-clause-within c =
    let at = (goal.at.read_run-requires-clause-within c).After-is_empty in
    let r = c.args.r.now in
    let bits = c.args.depth in
    let rows = c.args.rows.now in
    let n = length c.args.raws.now in
    let cell = cell_of r c.args.at (inside at c.if-is_empty.false) in
    let narrow = run_narrow r c.args.at n (some at c.if-is_empty.false) c.requires.inside in
    let start = c.rows_above.result * c.row_bytes.result in
    let row_is : c.rows_above.result ≡ distance r.min.y c.args.at.y = c.rows_above.ensures in
    let line_is : c.row_bytes.result ≡ row_bytes r bits = c.row_bytes.ensures.value in
    let start_is : start ≡ distance r.min.y c.args.at.y * row_bytes r bits = λ j. row_is j * line_is j in
    let product = mul-le (c.skip.result + c.columns_before.result + n) bits (skip r bits + width r) bits (omega (arith, c.skip.ensures.value, c.columns_before.ensures, narrow)) (omega arith) in
    let left = lines_left (distance r.min.y c.args.at.y) (height r) (row_bytes r bits) (length rows) cell.row c.requires.rows in
    let line = ap length (rest_is rows start) ∙ length-drop start rows in
    let fits = row_fits r bits c.requires.near c.requires.ordered c.requires.depth in
    omega (arith, product, line, start_is, left, fits)

pub returns-clause-pixels : goal.returns-clause-pixels
returns-clause-pixels c k below =
    let at = (goal.at.returns-clause-pixels c).After-is_empty in
    let r = c.args.r.now in
    let bits = c.args.depth in
    let rows = c.args.rows.now in
    let start = c.rows_above.result * c.row_bytes.result in
    let row_is : c.rows_above.result ≡ distance r.min.y c.args.at.y = c.rows_above.ensures in
    let line_is : c.row_bytes.result ≡ row_bytes r bits = c.row_bytes.ensures.value in
    let start_is : start ≡ distance r.min.y c.args.at.y * row_bytes r bits = λ j. row_is j * line_is j in
    let column = column_along r c.args.at k (inside at c.if-is_empty.false) in
    let place : c.skip.result + c.columns_before.result + k ≡ skip r bits + distance r.min.x (along c.args.at k).x = omega (arith, c.skip.ensures.value, c.columns_before.ensures, column) in
    c.read_run.ensures.value k below
    ∙ (λ j. raw_at bits (rest_is rows start j) (place j))
    ∙ ap (λ a. raw_at bits (drop a rows) (skip r bits + distance r.min.x (along c.args.at k).x)) start_is
