use Rattle.std.proofs.Common.{◌≡◌, drop}
use Rattle.std.specs.List.{fold}
use Rattle.model_world.specs.Whole.{left_one}
use Rattle.r9_desktop.specs.World.{began_in, parts_of}
use Rattle.r9_desktop.specs.Words.{SameClients}
use Rattle.r9_desktop.proofs.desktop.Desktop.leave_windows.Given as goal

abbrev pub invariant-loop-window : goal.invariant-loop-window
invariant-loop-window l = record {
  left : fold (left_one l.session) (parts_of l.self) (drop l.window-index l.windows) ≡ fold (left_one l.session) (parts_of l.fn.self) l.windows;
  clients : SameClients (parts_of l.fn.self) (parts_of l.self);
  began : began_in l.self ≡ began_in l.fn.self;
}
