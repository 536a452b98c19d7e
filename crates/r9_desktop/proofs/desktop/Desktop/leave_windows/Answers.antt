use Rattle.std.proofs.Common.{◌∙◌, arith, refl}
use Rattle.model_world.specs.Whole.{left_one}
use Rattle.r9_desktop.specs.World.{parts_of}
use Rattle.r9_desktop.proofs.Loops.{fold_next}
use Rattle.r9_desktop.proofs.desktop.Desktop.leave_windows.Goals as goal

pub loop-window-preserved : goal.loop-window-preserved
loop-window-preserved c = record {
  left =
      fold_next (left_one c.args.session) (parts_of c.loop-window.self) _ _ c.args.windows.now c.loop-window.window-index _ (omega arith) refl c.in_ok-leave_window.ensures.left
      ∙ c.loop-window.invariant.left;
  clients = c.in_ok-leave_window.ensures.clients ∙ c.loop-window.invariant.clients;
  began = c.in_ok-leave_window.ensures.began ∙ c.loop-window.invariant.began;
}
