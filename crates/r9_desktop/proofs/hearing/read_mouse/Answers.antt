use Rattle.std.proofs.Common.{rules, ◌≡◌, Some, None, ◌∙◌}
use Rattle.model_text.specs.text.Map.{lookup}
use Rattle.model_text.proofs.map.Keys.{with-written}
use Rattle.model_rio.specs.window.Heard.{MouseRead}
use Rattle.r9_desktop.proofs.Maps.{told-some}
use Rattle.r9_desktop.proofs.Panes.{if_ok_to, taken_to, left_to, on_err_to, put_back, mouse_of, no_mouse}
use Rattle.r9_desktop.proofs.hearing.read_mouse.Goals as goal

pub returns-in-Some-clause-gives : goal.returns-in-Some-clause-gives
returns-in-Some-clause-gives c =
    let before = c.args.panes.now.entries in
    let found : lookup before c.args.window ≡ Some c.in-Some.pane.now = search rules in
    if_ok_to _ _ c.read_mouse.result (λ given is. is ∙ mouse_of before c.args.window c.in-Some.pane.now found) c.read_mouse.ensures.gives

pub returns-in-Some-clause-takes : goal.returns-in-Some-clause-takes
returns-in-Some-clause-takes c =
    let before = c.args.panes.now.entries in
    let found : lookup before c.args.window ≡ Some c.in-Some.pane.now = search rules in
    taken_to c.read_mouse.result (λ is. with-written before _ c.args.window c.read_mouse.new.self (c.get_mut.follows.holds c.read_mouse.new.self).0
    ∙ told-some before c.args.window c.in-Some.pane.now c.read_mouse.new.self MouseRead found is) c.read_mouse.ensures.takes

pub returns-in-Some-clause-leaves : goal.returns-in-Some-clause-leaves
returns-in-Some-clause-leaves c =
    let before = c.args.panes.now.entries in
    let found : lookup before c.args.window ≡ Some c.in-Some.pane.now = search rules in
    left_to c.read_mouse.result (λ is. put_back before _ c.args.window c.in-Some.pane.now c.read_mouse.new.self found
    (with-written before _ c.args.window c.read_mouse.new.self (c.get_mut.follows.holds c.read_mouse.new.self).0) is) c.read_mouse.ensures.leaves

pub returns-in-Some-clause-err : goal.returns-in-Some-clause-err
returns-in-Some-clause-err c =
    let before = c.args.panes.now.entries in
    let found : lookup before c.args.window ≡ Some c.in-Some.pane.now = search rules in
    on_err_to c.read_mouse.result (λ is. put_back before _ c.args.window c.in-Some.pane.now c.read_mouse.new.self found
    (with-written before _ c.args.window c.read_mouse.new.self (c.get_mut.follows.holds c.read_mouse.new.self).0) is) c.read_mouse.ensures.err

pub returns-in-None-clause-gives : goal.returns-in-None-clause-gives
returns-in-None-clause-gives c =
    let before = c.args.panes.now.entries in
    let none : lookup before c.args.window ≡ None = search rules in
    no_mouse before c.args.window none
