use Rattle.std.proofs.Common.{rules, ◌≡◌, ◌∙◌, map, ap}
use Rattle.std.proofs.lemmas.List.Sorted.{IsNonDecreasingBy-from_sort}
use Rattle.model_forest.specs.Stack.{is_in}
use Rattle.r9_locate.proofs.lists.Groups.{is_in-IsPermutation}
use Rattle.r9_locate.proofs.lists.Group.new.Goals as goal

pub invariant_of-result : goal.invariant_of-result
invariant_of-result c = record { ascending = IsNonDecreasingBy-from_sort (λ x. x) c.sort_unstable.new.self.items c.sort_unstable.ensures.sorted }

pub returns : goal.returns
returns c =
    let numbers : c.in_ok-numbers.numbers.items ≡ map (λ i. i.0) c.args.images.now = search rules in
    is_in-IsPermutation c.in_ok-numbers.numbers.items c.sort_unstable.new.self.items c.sort_unstable.ensures.permutation ∙ ap is_in numbers
