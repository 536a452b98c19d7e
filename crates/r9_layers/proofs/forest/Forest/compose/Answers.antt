use Rattle.std.proofs.Common.{◌≡◌, ◌≤◌, ◌*◌, arith}
use Rattle.std.proofs.lemmas.Bool.{false≢true}
use Rattle.r9_geom.specs.Geometry.{area_of}
use Rattle.r9_layers.specs.Forest.{room}
use Rattle.r9_layers.proofs.forest.Forest.compose.Goals as goal

pub returns-in-None-clause-memory : goal.returns-in-None-clause-memory
unfolding room
returns-in-None-clause-memory g c fits =
    let product : c.width.result * c.height.result ≡ area_of c.args.area.now = (λ j. c.width.ensures j * c.height.ensures j) in
    absurd (c.in-None.ensures (omega (arith, product, fits)))

pub returns-in_err-room-clause-memory : goal.returns-in_err-room-clause-memory
unfolding room
returns-in_err-room-clause-memory g c fits =
    let product : c.width.result * c.height.result ≡ area_of c.args.area.now = (λ j. c.width.ensures j * c.height.ensures j) in
    let enough : c.in-Some.points ≤ room c.args.self.now = omega (arith, c.in-Some.ensures.1, product, fits) in
    absurd (false≢true (c.in_err-room.ensures.memory enough))
