use Rattle.std.proofs.Common.{◌∙◌, ◌-◌, ◌++◌, length, length-drop, [], take, drop, sym, ap, arith}
use Rattle.std.proofs.lemmas.List.{append-nil, take_all, take-append-drop}
use Rattle.r9_restack.specs.Stacks.{after_of, before_of}
use Rattle.r9_restack.proofs.stacks.stacks_of.Goals as goal

pub returns-clause-before : goal.returns-clause-before
unfolding before_of
returns-clause-before c =
    let old = c.args.old.now in
    let from = c.args.from in
    ap (λ l. l ++ take (length old - from) (drop from old)) (sym c.requires.same)
    ∙ ap (λ l. take from old ++ l) (take_all (length old - from) (drop from old) (omega (arith, length-drop from old)))
    ∙ take-append-drop from old

pub returns-clause-after : goal.returns-clause-after
unfolding after_of
returns-clause-after c =
    let new = c.args.new.now in
    let from = c.args.from in
    ap (λ l. take from new ++ (l ++ [])) (take_all (length new - from) (drop from new) (omega (arith, length-drop from new)))
    ∙ ap (λ l. take from new ++ l) (append-nil (drop from new))
    ∙ take-append-drop from new
