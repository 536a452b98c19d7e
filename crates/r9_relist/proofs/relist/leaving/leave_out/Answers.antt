use Rattle.std.proofs.Common.{◌≡◌, ◌∙◌, ℕ, ◌+◌, ◌++◌, ◌<◌, ◌≤◌, List, Option, Some, None, append-nil, length, take, drop, sym, subst, ap, arith}
use Rattle.std.specs.Prelude.{◌==◌, IfSome}
use Rattle.std.specs.List.{position, position_or_len}
use Rattle.std.proofs.lemmas.List.{drop_all, take_all}
use Rattle.model_forest.specs.declared.Window.{Window}
use Rattle.r9_cells.proofs.Covering.{position_none, position_some}
use Rattle.r9_relist.proofs.relist.Without.{parts-without, removed}
use Rattle.r9_relist.proofs.relist.leaving.leave_out.Goals as goal
use Rattle.r9_relist.proofs.relist.leaving.leave_out.Goals.{After-remove, In_default}

pub remove-requires : goal.remove-requires
remove-requires c =
    let within : c.in-Some.at < length c.args.windows.now.items =
    subst (λ (ws : List Window). c.in-Some.at < length ws) c.deref.ensures.value
    (subst (λ (o : Option ℕ). IfSome o (λ n. n < length c.deref.result.now)) c.in-Some.is c.place_in.ensures.within) in
    omega (arith, within, c.args.windows.now.ok.0)

pub returns-in-Some : goal.returns-in-Some
returns-in-Some c =
    let ws = c.args.windows.now.items in
    let at = position_or_len (λ (v : Window). v.image == c.args.w) ws in
    let found : position (λ (v : Window). v.image == c.args.w) ws ≡ Some c.in-Some.at = ap (position (λ (v : Window). v.image == c.args.w)) (sym c.deref.ensures.value) ∙ sym c.place_in.ensures.first ∙ c.in-Some.is in
    let is : at ≡ c.in-Some.at = position_some at (length ws) c.in-Some.at found in
    c.remove.ensures.items ∙ removed ws c.in-Some.at ∙ (λ j. take (sym is j) ws ++ drop (sym is j + 1) ws) ∙ parts-without c.args.w ws c.requires

pub returns-in_default : goal.returns-in_default
returns-in_default c =
    let ws = c.args.windows.now.items in
    let at = position_or_len (λ (v : Window). v.image == c.args.w) ws in
    let none : position (λ (v : Window). v.image == c.args.w) ws ≡ None = ap (position (λ (v : Window). v.image == c.args.w)) (sym c.deref.ensures.value) ∙ sym c.place_in.ensures.first ∙ c.in_default.is in
    let past : length ws ≤ at = position_none at (length ws) none in
    sym (append-nil ws) ∙ (λ j. sym (take_all at ws past) j ++ sym (drop_all (at + 1) ws (omega (arith, past))) j) ∙ parts-without c.args.w ws c.requires
