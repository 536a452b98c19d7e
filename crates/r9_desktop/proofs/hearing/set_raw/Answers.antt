use Rattle.std.proofs.Common.{rules, ◌≡◌, Some, None, ap, ◌∙◌}
use Rattle.model_text.specs.text.Map.{lookup, with}
use Rattle.model_text.proofs.map.Keys.{with-written}
use Rattle.model_text.proofs.map.Maps.{with-same}
use Rattle.model_rio.specs.window.Pane.{Pane}
use Rattle.model_rio.specs.window.Heard.{Raw}
use Rattle.r9_desktop.proofs.Maps.{on_err, told-some, told-none}
use Rattle.r9_desktop.proofs.hearing.set_raw.Goals as goal

pub returns-in_err-set_raw-clause-err : goal.returns-in_err-set_raw-clause-err
returns-in_err-set_raw-clause-err c =
    let before = c.args.panes.now.entries in
    let found : lookup before c.args.window ≡ Some c.in-Some.pane.now = search rules in
    on_err c.from_residual.result
    (with-written before _ c.args.window c.set_raw.new.self (c.get_mut.follows.holds c.set_raw.new.self).0
    ∙ ap (λ (p : Pane). with before c.args.window p) c.in_err-set_raw.ensures.err ∙ with-same before c.args.window c.in-Some.pane.now found)

pub returns-in_ok-set_raw-clause-ok : goal.returns-in_ok-set_raw-clause-ok
returns-in_ok-set_raw-clause-ok c =
    let before = c.args.panes.now.entries in
    let found : lookup before c.args.window ≡ Some c.in-Some.pane.now = search rules in
    with-written before _ c.args.window c.set_raw.new.self (c.get_mut.follows.holds c.set_raw.new.self).0
    ∙ told-some before c.args.window c.in-Some.pane.now c.set_raw.new.self (Raw c.args.raw) found c.in_ok-set_raw.ensures.ok

pub returns-in_default-clause-ok : goal.returns-in_default-clause-ok
returns-in_default-clause-ok c =
    let before = c.args.panes.now.entries in
    let none : lookup before c.args.window ≡ None = search rules in
    let kept : c.get_mut.follows.lender-at-none.entries ≡ before = search rules in
    kept ∙ told-none before c.args.window (Raw c.args.raw) none
