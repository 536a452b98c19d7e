use Rattle.std.proofs.Common.{◌≡◌, ◌≢◌, ◌∙◌, ◌-◌, ℕ, List, length, length-drop, drop, take, sym, ap, subst, arith}
use Rattle.std.specs.Prelude.{All}
use Rattle.std.proofs.lemmas.List.{take_all}
use Rattle.model_forest.specs.declared.Window.{Window}
use Rattle.model_forest.specs.View.{top_window}
use Rattle.r9_restack.proofs.Stacked.{all_part, top_drop, top_take}
use Rattle.r9_restack.proofs.stacks.within.Goals as goal

rest_all : (ws : List Window) (near off : ℕ) → take (length (take near ws) - off) (drop off (take near ws)) ≡ drop off (take near ws)
rest_all ws near off = take_all (length (take near ws) - off) (drop off (take near ws)) (omega (arith, length-drop off (take near ws)))

pub returns-clause-same : goal.returns-clause-same
returns-clause-same c z inside =
    let ws = c.args.windows.now in
    let near = c.count_near.result in
    let off = c.count_off.result in
    ap (λ l. top_window l z) (rest_all ws near off) ∙ top_drop (take near ws) off z (c.count_off.ensures.off z inside) ∙ top_take ws near z (c.count_near.ensures.off z inside)

pub returns-clause-apart : goal.returns-clause-apart
returns-clause-apart c w all = subst (All (λ (v : Window). v.image ≢ w)) (sym (rest_all c.args.windows.now c.count_near.result c.count_off.result)) (all_part (λ (v : Window). v.image ≢ w) c.args.windows.now c.count_near.result c.count_off.result all)
