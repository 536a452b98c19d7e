use Rattle.std.proofs.Common.{◌≡◌, ◌∙◌, ◌*◌, ◌<◌, length, get_or, sym, ap, arith}
use Rattle.std.proofs.lemmas.List.{with_items_is}
use native.Mathlib.Nat.{mul_comm}
use Rattle.r9_geom.specs.Geometry.{area_of, height, width}
use Rattle.r9_plane.specs.Pixels.{number_of}
use Rattle.r9_plane.proofs.PlaneLemmas.{number_below}
use Rattle.r9_forest.proofs.images.Images.gather_plain.Goals as goal

pub overflow_mul-count : goal.overflow_mul-count
overflow_mul-count c =
    let same : c.width.result * c.height.result ≡ area_of c.args.area.now = λ j. c.width.ensures j * c.height.ensures j in
    omega (arith, same, c.requires.room)

pub put_plain-requires : goal.put_plain-requires
put_plain-requires c =
    let same : c.width.result * c.height.result ≡ area_of c.args.area.now = λ j. c.width.ensures j * c.height.ensures j in
    omega (arith, same, c.requires.room, c.deref_mut.ensures.len)

pub returns-clause-gathered : goal.returns-clause-gathered
returns-clause-gathered c p h =
    let area = c.args.area.now in
    let put = c.put_plain.new.room in
    let long : length put ≡ c.args.self.now.room.len = omega (arith, c.put_plain.auto.room, c.deref_mut.ensures.len) in
    let same : height area * width area ≡ c.width.result * c.height.result = mul_comm (height area) (width area) ∙ (λ j. sym c.width.ensures j * sym c.height.ensures j) in
    let within : number_of area p < c.width.result * c.height.result = omega (arith, number_below area p h, same) in
    ap (λ l. get_or l (number_of area p) 0) (with_items_is c.args.self.now.room put long)
    ∙ c.put_plain.ensures (number_of area p) within
