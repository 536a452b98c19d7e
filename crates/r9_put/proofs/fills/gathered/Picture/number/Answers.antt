use Rattle.std.proofs.Common.{◌≡◌, ◌+◌, ◌-◌, ◌*◌, ◌<◌, ◌≤ℤ◌, true, arith}
use Rattle.std.proofs.lemmas.Bool.{false_from_ne_true}
use Rattle.std.proofs.lemmas.Int.{ints, to_z-of_z}
use native.Mathlib.Nat.{mul_comm}
use Rattle.r9_geom.specs.Geometry.{distance, height, holds, width}
use Rattle.r9_geom.proofs.GeometryLemmas.{bounds_of, distance_is, holds_from}
use Rattle.r9_plane.specs.Pixels.{along, number_of}
use Rattle.r9_plane.proofs.PlaneLemmas.{number_below}
use Rattle.r9_put.proofs.fills.gathered.Picture.number.Goals as goal
use Rattle.r9_put.proofs.fills.gathered.Picture.number.Goals.{After-distance-row, then-edge-passed-via-else-edge-passed+then-width-edge, then-edge-passed-via-then-edge-passed, then-q-r-via-else-q-r+else-r-q+then-r-q-2, then-q-r-via-else-q-r+then-r-q, then-q-r-via-then-q-r}

pub returns-then-q-r-clause-outside : goal.returns-then-q-r-clause-outside
returns-then-q-r-clause-outside c =
    let r = c.args.self.now.r in
    let p = along c.args.q c.args.columns in
    false_from_ne_true (holds r p)
    (λ h.
    let b = bounds_of r p h in
    elim c.then-q-r.branch [
      | then-q-r-via-then-q-r w ↦ omega (arith, ints, b.top, w.if-q-r.true)
      | then-q-r-via-else-q-r+then-r-q w ↦ omega (arith, ints, b.bottom, w.if-r-q.true)
      | then-q-r-via-else-q-r+else-r-q+then-r-q-2 w ↦ omega (arith, ints, b.right, w.if-r-q-2.true)
    ])

pub returns-then-edge-passed-clause-outside : goal.returns-then-edge-passed-clause-outside
returns-then-edge-passed-clause-outside c =
    let r = c.args.self.now.r in
    let p = along c.args.q c.args.columns in
    let edge = distance_is c.args.q.x r.max.x (omega (arith, ints, c.if-r-q-2.false)) in
    let edge_is : c.distance-edge.result ≡ distance c.args.q.x r.max.x = grind (arith, to_z-of_z) in
    let wide = distance_is r.min.x r.max.x c.args.self.now.ordered.across in
    false_from_ne_true (holds r p)
    (λ h.
    let b = bounds_of r p h in
    elim c.then-edge-passed.branch [
      | then-edge-passed-via-then-edge-passed w ↦ omega (arith, ints, b.right, edge, edge_is, w.if-edge-passed.true)
      | then-edge-passed-via-else-edge-passed+then-width-edge w ↦ omega (arith, ints, b.left, edge, wide, edge_is, c.width-width.ensures, w.if-edge-passed.false, w.if-width-edge.true)
    ])

-- the point is in the rectangle
inside : (c : After-distance-row) → holds c.args.self.now.r (along c.args.q c.args.columns) ≡ true
inside c =
    let r = c.args.self.now.r in
    let edge = distance_is c.args.q.x r.max.x (omega (arith, ints, c.if-r-q-2.false)) in
    let edge_is : c.distance-edge.result ≡ distance c.args.q.x r.max.x = grind (arith, to_z-of_z) in
    let wide = distance_is r.min.x r.max.x c.args.self.now.ordered.across in
    holds_from r (along c.args.q c.args.columns)
    (record {
      left = omega (arith, ints, edge, wide, edge_is, c.width-width.ensures, c.if-edge-passed.false, c.if-width-edge.false);
      right = omega (arith, ints, edge, edge_is, c.if-edge-passed.false);
      top = omega (arith, ints, c.if-q-r.false);
      bottom = omega (arith, ints, c.if-r-q.false);
    })

-- and the number is its
value : (c : After-distance-row) → c.distance-row.result * c.width-width.result + (c.width-width.result - (c.distance-edge.result - c.args.columns)) ≡ number_of c.args.self.now.r (along c.args.q c.args.columns)
value c =
    let r = c.args.self.now.r in
    let p = along c.args.q c.args.columns in
    let edge = distance_is c.args.q.x r.max.x (omega (arith, ints, c.if-r-q-2.false)) in
    let edge_is : c.distance-edge.result ≡ distance c.args.q.x r.max.x = grind (arith, to_z-of_z) in
    let wide = distance_is r.min.x r.max.x c.args.self.now.ordered.across in
    let from : r.min.x ≤ℤ p.x = omega (arith, ints, edge, wide, edge_is, c.width-width.ensures, c.if-edge-passed.false, c.if-width-edge.false) in
    let at = distance_is r.min.x p.x from in
    let column : c.width-width.result - (c.distance-edge.result - c.args.columns) ≡ distance r.min.x p.x =
    omega (arith, ints, edge, wide, at, edge_is, c.width-width.ensures, c.if-edge-passed.false, c.if-width-edge.false) in
    let line : c.distance-row.result ≡ distance r.min.y c.args.q.y = grind (arith, to_z-of_z) in
    (λ j. line j * c.width-width.ensures j + column j)

-- it is below the number of points
few : (c : After-distance-row) → c.distance-row.result * c.width-width.result + (c.width-width.result - (c.distance-edge.result - c.args.columns)) < width c.args.self.now.r * height c.args.self.now.r
few c =
    let r = c.args.self.now.r in
    let small = number_below r (along c.args.q c.args.columns) (inside c) in
    let all = mul_comm (height r) (width r) in
    omega (arith, small, all, value c)

pub overflow_mul-result : goal.overflow_mul-result
overflow_mul-result c = omega (arith, few (goal.at.overflow_mul-result c).After-distance-row, c.args.self.now.countable)

pub overflow_add-result : goal.overflow_add-result
overflow_add-result c = omega (arith, few (goal.at.overflow_add-result c).After-distance-row, c.args.self.now.countable)

pub returns-clause-inside : goal.returns-clause-inside
returns-clause-inside c = inside (goal.at.returns-clause-inside c).After-distance-row

pub returns-clause-value : goal.returns-clause-value
returns-clause-value c = value (goal.at.returns-clause-value c).After-distance-row

pub returns-clause-within : goal.returns-clause-within
returns-clause-within c = omega (arith, few (goal.at.returns-clause-within c).After-distance-row, c.args.self.now.enough)
