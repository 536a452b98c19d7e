use Rattle.std.proofs.Common.{rules, ◌≡◌, Some, None, ◌∙◌}
use Rattle.model_text.specs.text.Map.{lookup}
use Rattle.model_text.proofs.map.Keys.{with-written}
use Rattle.model_rio.specs.window.Heard.{Noted}
use Rattle.r9_desktop.proofs.Maps.{told-some, told-none}
use Rattle.r9_desktop.proofs.telling.hear.Goals as goal

pub returns-in_ok-note : goal.returns-in_ok-note
returns-in_ok-note c =
    let before = c.args.panes.now.entries in
    let found : lookup before c.args.window ≡ Some c.in-Some.pane.now = search rules in
    with-written before _ c.args.window c.note.new.self (c.get_mut.follows.holds c.note.new.self).0
    ∙ told-some before c.args.window c.in-Some.pane.now c.note.new.self (Noted c.args.note.now) found c.in_ok-note.ensures.ok

pub returns-in_default : goal.returns-in_default
returns-in_default c =
    let before = c.args.panes.now.entries in
    let none : lookup before c.args.window ≡ None = search rules in
    let kept : c.get_mut.follows.lender-at-none.entries ≡ before = search rules in
    kept ∙ told-none before c.args.window (Noted c.args.note.now) none
