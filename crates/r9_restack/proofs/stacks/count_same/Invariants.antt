use Rattle.std.proofs.Common.{◌≡◌, ◌≢◌, take}
use Rattle.std.specs.Prelude.{All}
use Rattle.model_forest.specs.declared.Window.{Window}
use Rattle.r9_restack.proofs.stacks.count_same.Given as goal

abbrev pub invariant-loop-count : goal.invariant-loop-count
invariant-loop-count l = record {
  same : take l.count l.old ≡ take l.count l.new;
  apart : All (λ (v : Window). v.image ≢ l.w) (take l.count l.new);
}
