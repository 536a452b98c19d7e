use Rattle.std.proofs.Common.{◌≡◌, ◌∙◌, ◌++◌, ℕ, List, Bool, map, not, ap}
use Rattle.std.specs.Prelude.{filter}
use Rattle.std.proofs.lemmas.Result.{IfOk-weaker}
use Rattle.model_forest.specs.declared.Window.{Window}
use Rattle.model_forest.specs.Stack.{lowered}
use Rattle.r9_locate.proofs.lists.lowered.Goals as goal

pub returns : goal.returns
returns c =
    let ws = c.args.windows.now in
    let same = ap (λ (test : Window → Bool). filter (λ w. not (test w)) ws ++ filter test ws) c.in_ok-group.ensures in
    let group : List ℕ = map (λ i. i.0) c.args.images.now in
    IfOk-weaker c.lowered.result (λ list. list.items ≡ lowered c.in_ok-group.group.numbers.items ws) (λ list. list.items ≡ lowered group ws)
    (λ list is. is ∙ same) c.lowered.ensures
