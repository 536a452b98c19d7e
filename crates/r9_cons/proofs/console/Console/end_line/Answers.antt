use Rattle.std.proofs.Common.{ℕ, ◌+◌, ◌≤◌, ◌++◌, List, length, [], ◌∷◌, ap, ◌∙◌, arith}
use Rattle.model_files.specs.console.Console.{held}
use Rattle.r9_cons.proofs.Ending.{line-ends}
use Rattle.r9_cons.proofs.console.Console.end_line.Goals as goal

pub invariant_of-self-2 : goal.invariant_of-self-2
invariant_of-self-2 c =
    let before = c.self.inside in
    let room : before.held + length c.args.key.now + 1 ≤ 8193 = omega (arith, c.requires, c.self.invariant.counted, ap held c.self.view_is) in
    let line : List ℕ = c.in_ok-line.line in
    let pushed = c.in_ok-push_back.ensures.items ∙ ap (λ (xs : List (List ℕ)). xs ++ line ∷ []) c.reserve.ensures.items in
    line-ends before.line before.ended.items c.clear.new.self c.push_back.new.self.items before.raw before.transcript c.push_all.new.self (before.transcript ++ c.as_slice.result.now) c.args.key.now c.in_ok-line.line before.taken before.held
    c.self.invariant room c.clear.ensures pushed c.in_ok-line.ensures c.in_ok-push_all.ensures.ok
