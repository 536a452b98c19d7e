use Rattle.std.proofs.Common.{◌≡◌, ◌∙◌, ◌++◌, ℕ, List, Bool, map, not, ap}
use Rattle.std.specs.Prelude.{filter}
use Rattle.std.proofs.lemmas.Result.{IfOk-weaker}
use Rattle.model_forest.specs.declared.Window.{Window}
use Rattle.model_forest.specs.Stack.{raised}
use Rattle.r9_locate.proofs.lists.raised.Goals as goal

pub returns : goal.returns
returns c =
    let ws = c.args.windows.now in
    let same = ap (λ (test : Window → Bool). filter test ws ++ filter (λ w. not (test w)) ws) c.in_ok-group.ensures in
    let group : List ℕ = map (λ i. i.0) c.args.images.now in
    IfOk-weaker c.raised.result (λ list. list.items ≡ raised c.in_ok-group.group.numbers.items ws) (λ list. list.items ≡ raised group ws)
    (λ list is. is ∙ same) c.raised.ensures
