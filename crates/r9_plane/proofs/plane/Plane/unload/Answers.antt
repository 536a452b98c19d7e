use Rattle.std.proofs.Common.{◌≡◌, ◌<◌, ◌+◌, ◌-◌, ◌*◌, ◌/◌, ◌%◌, ◌∙◌, ap, sym, length, take, drop, arith}
use Rattle.std.proofs.lemmas.List.{length-take, length-drop}
use Rattle.std.proofs.lemmas.List.FromFn.{fill_by_all}
use Rattle.r9_geom.specs.Geometry.{height}
use Rattle.model_pixel.specs.Channels.{depth}
use Rattle.model_pixel.specs.Rows.{byte_at, row_bytes, row_place, rows_of}
use Rattle.r9_plane.specs.Pixels.{pixel_at}
use Rattle.r9_plane.proofs.PlaneLemmas.{lines_left}
use Rattle.std.proofs.lemmas.Nat.{mul-le}
use Rattle.r9_plane.proofs.RunLemmas.{lines_grow}
use Rattle.r9_plane.proofs.plane.Plane.unload.Goals as goal

pub unload_row-requires-clause-line : goal.unload_row-requires-clause-line
unload_row-requires-clause-line c =
    let plane = c.args.self.now in
    let r = c.args.r in
    let bits = depth plane.chan in
    let line : c.row_bytes-line_len.result ≡ row_bytes r bits = c.row_bytes-line_len.ensures.value ∙ ap (row_bytes r) plane.depth_is in
    let start = c.loop-row.row * c.row_bytes-line_len.result in
    let len = start + c.row_bytes-line_len.result - start in
    let below : c.loop-row.row < height r = omega (arith, c.height-row-end.ensures) in
    let whole : length c.loop-row.rows ≡ c.row_bytes-line_len.result * height r = c.loop-row.auto.rows ∙ c.requires.rows ∙ ap (λ n. n * height r) (sym line) in
    let left = lines_left c.loop-row.row (height r) c.row_bytes-line_len.result (length c.loop-row.rows) below whole in
    omega (arith, left, line, length-take len (drop start c.loop-row.rows), length-drop start c.loop-row.rows)

pub loop-row-preserved : goal.loop-row-preserved
loop-row-preserved c =
    let plane = c.args.self.now in
    let r = c.args.r in
    let bits = depth plane.chan in
    let line : c.row_bytes-line_len.result ≡ row_bytes r bits = c.row_bytes-line_len.ensures.value ∙ ap (row_bytes r) plane.depth_is in
    let width = c.row_bytes-line_len.result in
    let row = c.loop-row.row in
    let rows = c.loop-row.rows in
    let start = row * width in
    let len = start + width - start in
    let below : row < height r = omega (arith, c.height-row-end.ensures) in
    let whole : length rows ≡ width * height r = c.loop-row.auto.rows ∙ c.requires.rows ∙ ap (λ n. n * height r) (sym line) in
    let more = mul-le (row + 1) width (height r) width (omega arith) (omega arith) in
    let size : length (take len (drop start rows)) ≡ width = omega (arith, more, whole, length-take len (drop start rows), length-drop start rows) in
    lines_grow rows c.unload_row.new.line row width len (λ a b. byte_at bits (row_place r bits (pixel_at plane) a) b)
    (omega arith) (omega (arith, more, whole)) (c.unload_row.auto.line ∙ size) c.loop-row.invariant
    (λ k h. c.unload_row.ensures k (omega (arith, h, size)))

pub returns : goal.returns
unfolding rows_of
returns c =
    let plane = c.args.self.now in
    let r = c.args.r in
    let bits = depth plane.chan in
    let line : c.row_bytes-line_len.result ≡ row_bytes r bits = c.row_bytes-line_len.ensures.value ∙ ap (row_bytes r) plane.depth_is in
    let end : c.loop-row.row ≡ height r = omega (arith, c.height-row-end.ensures) in
    let all : c.loop-row.row * c.row_bytes-line_len.result ≡ row_bytes r bits * height r = (λ t. end t * line t) ∙ omega arith in
    fill_by_all (λ k. byte_at bits (row_place r bits (pixel_at plane) (k / row_bytes r bits)) (k % row_bytes r bits)) c.loop-row.rows (row_bytes r bits * height r) 0
    (omega (arith, c.requires.rows, c.loop-row.auto.rows))
    (λ k h. c.loop-row.invariant k (omega (arith, h, all)) ∙ (λ t. byte_at bits (row_place r bits (pixel_at plane) (k / line t)) (k % line t)))
