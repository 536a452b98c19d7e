use Rattle.std.proofs.Common.{◌≡◌, ◌∙◌, ◌+◌, ◌*◌, ◌/◌, ◌≤◌, ◌++◌, ◌^◌, ◌<◌, ℕ, true, List, length, ap, sym, subst, arith}
use Rattle.std.specs.Prelude.{slice_index}
use Rattle.std.proofs.lemmas.Nat.{mul-le}
use Rattle.r9_geom.specs.Geometry.{holds, width}
use Rattle.r9_geom.proofs.GeometryLemmas.{width_most}
use Rattle.model_pixel.specs.Channels.{depth, is_depth}
use Rattle.r9_plane.specs.Blocks.{HasPacked}
use Rattle.r9_plane.specs.Lines.{lines_of}
use Rattle.r9_plane.specs.Pixels.{number_of, pixel_at}
use Rattle.r9_plane.proofs.Among.{corner_of, plane_rows}
use Rattle.r9_plane.proofs.OneRun.{both_of}
use Rattle.r9_plane.proofs.PackedLemmas.{by_whole}
use Rattle.r9_plane.proofs.Reading.{lines_are_rows, rows_among}
use Rattle.r9_plane.proofs.RunLemmas.{whole_fits}
use Rattle.r9_plane.proofs.plane.Plane.with_whole.Goals as goal
use Rattle.r9_plane.proofs.plane.Plane.with_whole.Goals.{Start}

first_inside : (c : Start) → holds c.args.self.now.r c.args.r.now.min ≡ true
first_inside c = c.requires.inside c.args.r.now.min (corner_of c.args.self.now.r c.args.r.now c.requires.some c.requires.inside)

few : (c : Start) → c.args.self.now.depth / 8 ≤ 4
few c = by_whole (λ d. d / 8 ≤ 4) c.args.self.now.depth c.args.self.now.lawful c.requires.whole (omega arith) (omega arith) (omega arith) (omega arith)

among : (c : Start) → HasPacked c.args.r.now (number_of c.args.self.now.r c.args.r.now.min) (width c.args.self.now.r) c.args.self.now.depth c.args.self.now.bytes.len
among c =
    let plane = c.args.self.now in
    plane_rows plane.r c.args.r.now plane.depth plane.bytes.len c.requires.ordered c.requires.some c.requires.inside plane.countable plane.room

pub number-requires : goal.number-requires
number-requires c = first_inside (goal.at.number-requires c).Start

pub overflow_mul-first : goal.overflow_mul-first
overflow_mul-first c =
    let plane = c.args.self.now in
    omega (arith, whole_fits plane.depth (c.number.result + 1) plane.bytes.len plane.lawful c.requires.whole c.number.ensures.within)

pub overflow_mul-line : goal.overflow_mul-line
overflow_mul-line c =
    let r = c.args.r.now in
    omega (arith, mul-le c.width.result (c.args.self.now.depth / 8) (2 ^ 41) 4 (omega (arith, c.width.ensures, width_most r c.requires.near c.requires.ordered)) (few (goal.at.overflow_mul-line c).Start))

pub overflow_mul-self : goal.overflow_mul-self
overflow_mul-self c =
    let plane = c.args.self.now in
    omega (arith, mul-le plane.columns (plane.depth / 8) (2 ^ 41) 4 (omega (arith, plane.columns_are, width_most plane.r plane.near plane.ordered)) (few (goal.at.overflow_mul-self c).Start))

pub append_lines-requires : goal.append_lines-requires
append_lines-requires c n early =
    let plane = c.args.self.now in
    let r = c.args.r.now in
    let size = plane.depth / 8 in
    let fits = rows_among plane.r r plane.depth plane.bytes.len plane.lawful c.requires.whole (among (goal.at.append_lines-requires c).Start) n (omega (arith, early, c.height.ensures)) in
    let same : c.number.result * size + n * (plane.columns * size) + c.width.result * size ≡ number_of plane.r r.min * size + n * (width plane.r * size) + width r * size =
    (λ t. c.number.ensures.value t * size + n * (plane.columns_are t * size) + c.width.ensures t * size) in
    omega (arith, same, fits, c.deref.ensures.len)

pub returns : goal.returns
unfolding pixel_at
returns c =
    let at = (goal.at.returns c).Start in
    let plane = c.args.self.now in
    let r = c.args.r.now in
    let bits = depth plane.chan in
    let is = ap is_depth (sym plane.depth_is) ∙ plane.lawful in
    let size : plane.depth / 8 ≡ bits / 8 = ap (λ d. d / 8) plane.depth_is in
    let rows : HasPacked r (number_of plane.r r.min) (width plane.r) bits (length plane.bytes.items) = subst (λ (n : ℕ). HasPacked r (number_of plane.r r.min) (width plane.r) bits n) plane.bytes.ok.0 (subst (λ (d : ℕ). HasPacked r (number_of plane.r r.min) (width plane.r) d plane.bytes.len) plane.depth_is (among at)) in
    c.in_ok-all.ensures.items
    ∙ ap (λ xs. c.args.front.items ++ xs)
    ((λ t. lines_of (c.deref.ensures.value t) (c.number.ensures.value t * size t) (plane.columns_are t * size t) (c.width.ensures t * size t) (c.height.ensures t))
    ∙ lines_are_rows plane.r r plane.chan plane.bytes.items c.requires.near c.requires.ordered c.requires.inside (first_inside at) is
    (omega (arith, plane.depth_is, c.requires.whole))
    (both_of r c.requires.ordered c.requires.some).across
    rows
    (λ i. subst (λ (xs : List ℕ). slice_index xs i < 256) c.deref.ensures.value (c.in_ok-all.ensures.range i)))
