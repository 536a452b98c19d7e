use Rattle.std.proofs.Common.{◌≡◌, drop}
use Rattle.std.specs.List.{fold}
use Rattle.model_world.specs.Desktop.{users_told}
use Rattle.r9_desktop.proofs.telling.tell_users.Given as goal

abbrev pub invariant-loop-told : goal.invariant-loop-told
invariant-loop-told l = fold users_told l.users.entries (drop l.told-index l.notes) ≡ fold users_told l.fn.users.entries l.notes
