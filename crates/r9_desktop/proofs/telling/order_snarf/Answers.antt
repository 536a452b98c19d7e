use Rattle.std.proofs.Common.{sym, ap, ◌∙◌}
use Rattle.model_world.specs.Desktop.{snarfs_ordered}
use Rattle.r9_desktop.proofs.Maps.{on_ok_too}
use Rattle.r9_desktop.proofs.telling.order_snarf.Goals as goal

pub returns-in-Host : goal.returns-in-Host
returns-in-Host c =
    on_ok_too c.host.result (λ is. is ∙ ap (snarfs_ordered c.args.snarfs.now.entries) (sym c.in-Host.is)) (c.host.ensures c.in-Host.fill)
