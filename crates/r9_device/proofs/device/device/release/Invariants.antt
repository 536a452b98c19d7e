use Rattle.std.proofs.Common.{◌≡◌, ◌+◌, ◌≤◌, drop}
use Rattle.model_draw.specs.cost.Cost.{going_all}
use Rattle.r9_layers.specs.Forest.{world, writes}
use Rattle.r9_device.proofs.device.Releasing.{IsReleasing}
use Rattle.r9_device.proofs.device.device.release.Given as goal

abbrev pub invariant-loop-thing : goal.invariant-loop-thing
invariant-loop-thing g l = record {
  releasing : IsReleasing l.initial.forest l.forest l.gone (drop l.thing-index l.gone);
  within : l.steps + going_all (world l.forest) (drop l.thing-index l.gone) ≤ l.initial.steps + going_all (world l.initial.forest) l.gone;
  writes : writes l.forest + l.initial.steps ≡ writes l.initial.forest + l.steps;
}
