use Rattle.std.proofs.Common.{rules, ◌≡◌, map}
use Rattle.std.specs.Prelude.{is_some}
use Rattle.r9_event.specs.declared.window.Window.{Window}
use Rattle.model_rio.specs.rio.Table.{made_in, window_of}
use Rattle.model_world.specs.Whole.{host_by, view_of}
use Rattle.r9_tree.specs.View.{node_of}
use Rattle.r9_desktop.specs.World.{desktop_of}
use Rattle.r9_desktop.proofs.Viewed.{viewed}
use Rattle.r9_desktop.proofs.desktop.Desktop.view.Goals as goal

pub returns-clause-is : goal.returns-clause-is
unfolding view_of desktop_of
returns-clause-is c =
    let ws = c.in_ok-windows.windows.items in
    let host = c.host_by-host.result in
    let numbers : c.in_ok-numbers_of.field-0 ≡ map (λ (w : Window). w.number) ws = search rules in
    let serials : c.in_ok-serials_of.field-0 ≡ map (λ (w : Window). w.serial) ws = search rules in
    let made : ws ≡ made_in c.args.self.now.manager (host_by c.args.self.now.manager (node_of c.args.node.now) (node_of c.args.node.now).kind) = search rules in
    let live : c.is_some.result ≡ is_some (window_of c.args.self.now.manager c.args.node.now.serial) = search rules in
    λ i. record { connections = c.in_ok-try_clone.ensures i; host = c.host_by-host.ensures i; windows = viewed _ _ ws _ numbers serials made i; live = live i }
