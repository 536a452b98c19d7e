use Rattle.std.proofs.Common.{◌≡◌, ◌∙◌, ◌+◌, ◌*◌, sym, arith}
use Rattle.std.proofs.lemmas.Int.{ints, to_z-of_z}
use Rattle.r9_geom.specs.Geometry.{distance, width}
use Rattle.r9_put.specs.fills.Gathered.{pictured}
use Rattle.r9_put.proofs.fills.Runs.{is_within, IsWithin}
use Rattle.r9_put.proofs.fills.Supplied.{corner_fits, supply_rows, supply_untold}
use Rattle.r9_put.proofs.fills.gathered.Picture.rows.Goals as goal

pub returns-then-is_empty : goal.returns-then-is_empty
returns-then-is_empty c = supply_untold (pictured c.args.self.now) c.args.r.now

pub distance-row-requires : goal.distance-row-requires
distance-row-requires c =
    let is : IsWithin c.args.r.now c.args.self.now.r = is_within c.args.r.now c.args.self.now.r (sym c.is_empty.ensures.exact ∙ c.if-is_empty.false) (c.inside.ensures.points.0 c.if-not-inside.false) in
    omega (arith, ints, is.low.top)

pub distance-column-requires : goal.distance-column-requires
distance-column-requires c =
    let is : IsWithin c.args.r.now c.args.self.now.r = is_within c.args.r.now c.args.self.now.r (sym c.is_empty.ensures.exact ∙ c.if-is_empty.false) (c.inside.ensures.points.0 c.if-not-inside.false) in
    omega (arith, ints, is.low.left)

pub overflow_mul-result : goal.overflow_mul-result
overflow_mul-result c =
    let own = c.args.self.now.r in
    let row : c.distance-row.result ≡ distance own.min.y c.args.r.now.min.y = grind (arith, to_z-of_z) in
    let lines : c.distance-row.result * c.width-width.result ≡ distance own.min.y c.args.r.now.min.y * width own = (λ j. row j * c.width-width.ensures j) in
    omega (arith, lines, corner_fits own c.args.r.now c.args.self.now.ordered (sym c.is_empty.ensures.exact ∙ c.if-is_empty.false) (c.inside.ensures.points.0 c.if-not-inside.false), c.args.self.now.countable)

pub overflow_add-result : goal.overflow_add-result
overflow_add-result c =
    let own = c.args.self.now.r in
    let row : c.distance-row.result ≡ distance own.min.y c.args.r.now.min.y = grind (arith, to_z-of_z) in
    let column : c.distance-column.result ≡ distance own.min.x c.args.r.now.min.x = grind (arith, to_z-of_z) in
    let lines : c.distance-row.result * c.width-width.result ≡ distance own.min.y c.args.r.now.min.y * width own = (λ j. row j * c.width-width.ensures j) in
    omega (arith, lines, column, corner_fits own c.args.r.now c.args.self.now.ordered (sym c.is_empty.ensures.exact ∙ c.if-is_empty.false) (c.inside.ensures.points.0 c.if-not-inside.false), c.args.self.now.countable)

pub returns : goal.returns
returns c =
    let own = c.args.self.now.r in
    let row : c.distance-row.result ≡ distance own.min.y c.args.r.now.min.y = grind (arith, to_z-of_z) in
    let column : c.distance-column.result ≡ distance own.min.x c.args.r.now.min.x = grind (arith, to_z-of_z) in
    let w = c.width-width.result in
    supply_rows c.args.self.now c.args.r.now (c.distance-row.result * w + c.distance-column.result) w c.args.self.now.ordered c.args.self.now.enough c.width-width.ensures
    (sym c.is_empty.ensures.exact ∙ c.if-is_empty.false) (c.inside.ensures.points.0 c.if-not-inside.false) (λ j. row j * w + column j)
