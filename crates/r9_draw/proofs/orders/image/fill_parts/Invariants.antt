use Rattle.std.proofs.Common.{◌≡◌, ◌+◌, ◌≤◌, take}
use Rattle.std.specs.List.{sum_by}
use Rattle.r9_geom.specs.Geometry.{area_of}
use Rattle.r9_layers.specs.Forest.{moment, writes}
use Rattle.r9_draw.proofs.orders.Bordering.{IsFilling}
use Rattle.r9_draw.proofs.orders.image.fill_parts.Given as goal

abbrev pub invariant-loop-part : goal.invariant-loop-part
invariant-loop-part g l = record {
  filling : IsFilling l.initial.forest l.forest l.image.0 l.raw l.parts l.part-index;
  within : l.steps ≤ l.initial.steps + sum_by area_of (take l.part-index l.parts);
  same : moment l.forest ≡ moment l.initial.forest;
  counted : writes l.forest + l.initial.steps ≡ writes l.initial.forest + l.steps;
}
