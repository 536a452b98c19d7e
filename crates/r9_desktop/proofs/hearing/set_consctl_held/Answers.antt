use Rattle.std.proofs.Common.{rules, ◌≡◌, Some, None, ◌∙◌}
use Rattle.model_text.specs.text.Map.{lookup}
use Rattle.model_text.proofs.map.Keys.{with-written}
use Rattle.model_rio.specs.window.Heard.{ConsctlHeld}
use Rattle.r9_desktop.proofs.Maps.{told-some, told-none}
use Rattle.r9_desktop.proofs.hearing.set_consctl_held.Goals as goal

pub returns-in-Some : goal.returns-in-Some
returns-in-Some c =
    let before = c.args.panes.now.entries in
    let found : lookup before c.args.window ≡ Some c.in-Some.pane.now = search rules in
    with-written before _ c.args.window c.set_consctl_held.new.self (c.get_mut.follows.holds c.set_consctl_held.new.self).0
    ∙ told-some before c.args.window c.in-Some.pane.now c.set_consctl_held.new.self (ConsctlHeld c.args.held) found c.set_consctl_held.ensures

pub returns-in_default : goal.returns-in_default
returns-in_default c =
    let before = c.args.panes.now.entries in
    let none : lookup before c.args.window ≡ None = search rules in
    let kept : c.get_mut.follows.lender-at-none.entries ≡ before = search rules in
    kept ∙ told-none before c.args.window (ConsctlHeld c.args.held) none
