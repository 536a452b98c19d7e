use Rattle.std.proofs.Common.{◌≡◌, ◌≢◌, ◌∙◌, ◌-◌, ◌++◌, length, length-drop, take, drop, refl, sym, ap, subst, arith}
use Rattle.std.specs.Prelude.{All}
use Rattle.std.proofs.lemmas.List.{take_all, take-append-drop}
use Rattle.model_forest.specs.declared.Window.{Window}
use Rattle.r9_restack.specs.Stacks.{after_of, before_of}
use Rattle.r9_restack.proofs.stacks.stacks_around.Goals as goal

-- the upper windows are those with which the old list begins
pub returns-clause-before : goal.returns-clause-before
unfolding before_of
returns-clause-before c =
    let old = c.args.old.now in
    let upper = c.args.upper.now in
    let count = length upper in
    let all : take count upper ≡ upper = take_all count upper (omega arith) in
    ap (λ l. l ++ take (length old - count) (drop count old)) (sym all ∙ sym c.requires.same)
    ∙ ap (λ l. take count old ++ l) (take_all (length old - count) (drop count old) (omega (arith, length-drop count old)))
    ∙ take-append-drop count old

pub returns-clause-after : goal.returns-clause-after
unfolding after_of
returns-clause-after c = refl

pub returns-clause-apart : goal.returns-clause-apart
returns-clause-apart c =
    let all = take_all (length c.args.upper.now) c.args.upper.now (omega arith) in
    subst (All (λ (v : Window). v.image ≢ c.args.w)) all c.requires.apart
