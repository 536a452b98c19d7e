use Rattle.std.proofs.Common.{◌∙◌, ℕ, List, nat_cmp, subst}
use Rattle.std.specs.List.Sorted.{IsBinarySearchResult}
use Rattle.r9_locate.proofs.lists.Groups.{found_by_halves}
use Rattle.r9_locate.proofs.lists.Group.has.Goals as goal

pub returns : goal.returns
returns c =
    let numbers = c.args.self.now.numbers.items in
    let image = c.args.w.now.image in
    let found = c.binary_search.result in
    c.is_ok.ensures.value
    ∙ found_by_halves numbers image found
    (subst (λ (ns : List ℕ). IsBinarySearchResult (λ y. nat_cmp y image) ns found) c.deref.ensures.value c.binary_search.ensures.position)
    c.args.self.now.ascending
