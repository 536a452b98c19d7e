use Rattle.std.proofs.Common.{◌≡◌, ℕ, ◌+◌, List, [], ◌∷◌, ◌++◌, ap, subst, sym, ◌∙◌}
use Rattle.model_files.specs.wire.Reading.{string_at, so_many}
use Rattle.r9_wire.proofs.Strings.{IsSoFar, one_more}
use Rattle.r9_wire.proofs.fields.strings_at.Goals as goal

pub loop-place-preserved : goal.loop-place-preserved
loop-place-preserved c =
    let before : List (List ℕ) = c.loop-place.names in
    let total = so_many string_at c.args.count c.args.bytes.now in
    let grown : c.push.new.self ≡ before ++ c.in_ok-name.name.now ∷ [] = c.in_ok-push.ensures.ok ∙ ap (λ (name : List ℕ). before ++ name ∷ []) c.in_ok-name-2.ensures in
    subst (λ (names : List (List ℕ)). IsSoFar names c.args.count (c.loop-place._place + 1) c.in_ok-name.behind.now total) (sym grown)
    (one_more before c.args.count c.loop-place._place c.loop-place.rest.now c.in_ok-name.name.now c.in_ok-name.behind.now total c.loop-place-test.true c.in_ok-name.ensures c.loop-place.invariant)
