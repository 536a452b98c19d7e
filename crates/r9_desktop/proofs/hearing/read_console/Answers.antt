use Rattle.std.proofs.Common.{rules, ◌≡◌, ℕ, List, true, false, Some, None, eq-eqb, refl, ap, ◌∙◌}
use Rattle.model_text.specs.text.Map.{lookup}
use Rattle.model_text.proofs.map.Keys.{not_key, with-written}
use Rattle.model_rio.specs.window.Heard.{ConsoleRead}
use Rattle.r9_desktop.proofs.Maps.{told-some, told-none}
use Rattle.r9_desktop.proofs.Panes.{if_ok_to, taken_to, left_to, on_err_to, put_back, console_of, no_console}
use Rattle.r9_desktop.proofs.hearing.read_console.Goals as goal

pub returns-in-Some-clause-gives : goal.returns-in-Some-clause-gives
returns-in-Some-clause-gives c =
    let before = c.args.panes.now.entries in
    let found : lookup before c.args.window ≡ Some c.in-Some.pane.now = search rules in
    if_ok_to _ _ c.read_console.result (λ given is. is ∙ console_of c.args.count before c.args.window c.in-Some.pane.now found) c.read_console.ensures.gives

pub returns-in-Some-clause-takes : goal.returns-in-Some-clause-takes
returns-in-Some-clause-takes c =
    let before = c.args.panes.now.entries in
    let found : lookup before c.args.window ≡ Some c.in-Some.pane.now = search rules in
    taken_to c.read_console.result (λ is. with-written before _ c.args.window c.read_console.new.self (c.get_mut.follows.holds c.read_console.new.self).0
    ∙ told-some before c.args.window c.in-Some.pane.now c.read_console.new.self (ConsoleRead c.args.count) found is) c.read_console.ensures.takes

pub returns-in-Some-clause-leaves : goal.returns-in-Some-clause-leaves
returns-in-Some-clause-leaves c =
    let before = c.args.panes.now.entries in
    let found : lookup before c.args.window ≡ Some c.in-Some.pane.now = search rules in
    left_to c.read_console.result (λ is. put_back before _ c.args.window c.in-Some.pane.now c.read_console.new.self found
    (with-written before _ c.args.window c.read_console.new.self (c.get_mut.follows.holds c.read_console.new.self).0) is) c.read_console.ensures.leaves

pub returns-in-Some-clause-err : goal.returns-in-Some-clause-err
returns-in-Some-clause-err c =
    let before = c.args.panes.now.entries in
    let found : lookup before c.args.window ≡ Some c.in-Some.pane.now = search rules in
    on_err_to c.read_console.result (λ is. put_back before _ c.args.window c.in-Some.pane.now c.read_console.new.self found
    (with-written before _ c.args.window c.read_console.new.self (c.get_mut.follows.holds c.read_console.new.self).0) is) c.read_console.ensures.err

pub returns-then-count-eq0-clause-gives : goal.returns-then-count-eq0-clause-gives
returns-then-count-eq0-clause-gives c =
    let before = c.args.panes.now.entries in
    let none : lookup before c.args.window ≡ None = search rules in
    no_console c.args.count before c.args.window true (Some c.new.result) none (eq-eqb c.args.count 0 c.if-count-eq0.true) (ap (λ (bytes : List ℕ). Some bytes) c.new.ensures)

pub returns-then-count-eq0-clause-takes : goal.returns-then-count-eq0-clause-takes
returns-then-count-eq0-clause-takes c =
    let before = c.args.panes.now.entries in
    let none : lookup before c.args.window ≡ None = search rules in
    let kept : c.get_mut.follows.lender-at-none.entries ≡ before = search rules in
    kept ∙ told-none before c.args.window (ConsoleRead c.args.count) none

pub returns-else-count-eq0-clause-gives : goal.returns-else-count-eq0-clause-gives
returns-else-count-eq0-clause-gives c =
    let before = c.args.panes.now.entries in
    let none : lookup before c.args.window ≡ None = search rules in
    no_console c.args.count before c.args.window false None none (not_key c.args.count 0 c.if-count-eq0.false) refl
