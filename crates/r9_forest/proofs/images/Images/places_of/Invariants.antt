use Rattle.std.proofs.Common.{◌≡◌, map, take}
use Rattle.r9_geom.specs.declared.Point.{Point}
use Rattle.r9_region.specs.Region.{covers}
use Rattle.r9_locate.specs.locate.Table.{shape}
use Rattle.r9_forest.specs.Groups.{places_of}
use Rattle.r9_forest.proofs.images.Images.places_of.Given as goal

abbrev pub invariant-loop-i : goal.invariant-loop-i
invariant-loop-i l = (z : Point) → covers l.places z ≡ covers (take l.i-index (places_of (shape l.self.lists) l.parent (map (λ i. i.0) l.group))) z
