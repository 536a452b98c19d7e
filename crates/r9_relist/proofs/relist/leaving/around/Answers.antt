use Rattle.std.proofs.Common.{◌≡◌, ◌∙◌, ◌+◌, ◌-◌, ◌++◌, ◌≤◌, length, length-drop, take, drop, sym, ap, arith}
use Rattle.std.specs.Prelude.{◌==◌}
use Rattle.std.specs.List.{position_or_len}
use Rattle.std.proofs.lemmas.List.{drop_all, take_all}
use Rattle.model_forest.specs.declared.Window.{Window}
use Rattle.r9_cells.proofs.Covering.{position_none, position_some}
use Rattle.r9_relist.proofs.relist.Front.{front_before, front_whole}
use Rattle.r9_relist.proofs.relist.Without.{parts-without}
use Rattle.r9_relist.proofs.relist.leaving.around.Goals as goal

pub returns-in-Some-clause-parts : goal.returns-in-Some-clause-parts
returns-in-Some-clause-parts c =
    let ws = c.args.windows.now in
    let at = position_or_len (λ (v : Window). v.image == c.args.w) ws in
    let is : at ≡ c.in-Some.at = position_some at (length ws) c.in-Some.at (sym c.place_in.ensures.first ∙ c.in-Some.is) in
    let rest = drop (c.in-Some.at + 1) ws in
    ap (λ l. take c.in-Some.at ws ++ l) (take_all (length ws - (c.in-Some.at + 1)) rest (omega (arith, length-drop (c.in-Some.at + 1) ws)))
    ∙ (λ j. take (sym is j) ws ++ drop (sym is j + 1) ws) ∙ parts-without c.args.w ws c.requires

pub returns-in-None-clause-parts : goal.returns-in-None-clause-parts
returns-in-None-clause-parts c =
    let ws = c.args.windows.now in
    let at = position_or_len (λ (v : Window). v.image == c.args.w) ws in
    let past : length ws ≤ at = position_none at (length ws) (sym c.place_in.ensures.first ∙ c.in-None.is) in
    (λ j. sym (take_all at ws past) j ++ sym (drop_all (at + 1) ws (omega (arith, past))) j) ∙ parts-without c.args.w ws c.requires

pub returns-in-Some-clause-front : goal.returns-in-Some-clause-front
returns-in-Some-clause-front c = front_before c.args.windows.now c.args.w c.in-Some.at (sym c.place_in.ensures.first ∙ c.in-Some.is)

pub returns-in-None-clause-front : goal.returns-in-None-clause-front
returns-in-None-clause-front c = front_whole c.args.windows.now c.args.w (sym c.place_in.ensures.first ∙ c.in-None.is)
