use Rattle.std.proofs.Common.{ap, ◌∙◌}
use Rattle.std.specs.Prelude.{is_ok}
use Rattle.r9_device.proofs.device.Lookups.{screen-found}
use Rattle.r9_draw.proofs.orders.there.has_rio.Goals as goal

pub returns : goal.returns
returns c = c.is_ok.ensures.value ∙ ap is_ok c.screen.ensures ∙ screen-found c.args.device.now.book.book 0 c.args.host
