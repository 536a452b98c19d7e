use Rattle.std.proofs.Common.{ℕ, List, Some, None, true, false, eq-eqb, refl, ap}
use Rattle.model_text.proofs.map.Keys.{not_key}
use Rattle.model_rio.specs.window.Heard.{ConsoleRead}
use Rattle.r9_isol.specs.isol.World.{desktop_of, parts_of}
use Rattle.r9_isol.proofs.isol.Near.{given_near}
use Rattle.r9_isol.proofs.isol.Panes.{no_console, none_there, other_there}
use Rattle.r9_isol.proofs.isol.desktop.Desktop.read_console.Goals.{in_default-via-in-Some+else-window-serial, in_default-via-in_default}
use Rattle.r9_isol.proofs.isol.desktop.Desktop.read_console.Goals as goal

pub invariant_of-window : goal.invariant_of-window
invariant_of-window c =
    record { near = given_near c.read_console.result c.in-Some.window.pane c.read_console.new.self (ConsoleRead c.args.count) refl c.read_console.ensures.takes c.read_console.ensures.leaves c.read_console.ensures.err c.in-Some.window.near }

pub returns-in_default-clause-gives : goal.returns-in_default-clause-gives
unfolding desktop_of
returns-in_default-clause-gives c =
    no_console c.args.count (parts_of c.args.self.now) c.args.serial true (Some c.new.result) (elim c.in_default.branch [
      | in_default-via-in-Some+else-window-serial w ↦ other_there c.args.self.now c.args.serial w.in-Some.window w.in-Some.is (not_key w.in-Some.window.serial c.args.serial w.if-window-serial.false)
      | in_default-via-in_default w ↦ none_there c.args.self.now c.args.serial w.in_default.is
    ]) (eq-eqb c.args.count 0 c.if-count-eq0.true) (ap (λ (bytes : List ℕ). Some bytes) c.new.ensures)

pub returns-in_default-2-clause-gives : goal.returns-in_default-2-clause-gives
unfolding desktop_of
returns-in_default-2-clause-gives c =
    no_console c.args.count (parts_of c.args.self.now) c.args.serial false None (elim c.in_default.branch [
      | in_default-via-in-Some+else-window-serial w ↦ other_there c.args.self.now c.args.serial w.in-Some.window w.in-Some.is (not_key w.in-Some.window.serial c.args.serial w.if-window-serial.false)
      | in_default-via-in_default w ↦ none_there c.args.self.now c.args.serial w.in_default.is
    ]) (not_key c.args.count 0 c.if-count-eq0.false) refl
