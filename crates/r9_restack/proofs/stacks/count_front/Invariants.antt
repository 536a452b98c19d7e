use Rattle.std.proofs.Common.{◌≢◌, take}
use Rattle.std.specs.Prelude.{All}
use Rattle.model_forest.specs.declared.Window.{Window}
use Rattle.r9_restack.proofs.stacks.count_front.Given as goal

abbrev pub invariant-loop-count : goal.invariant-loop-count
invariant-loop-count l = record {
  before : All (λ (v : Window). v.image ≢ l.w) (take l.count l.old);
  after : All (λ (v : Window). v.image ≢ l.w) (take l.count l.new);
}
