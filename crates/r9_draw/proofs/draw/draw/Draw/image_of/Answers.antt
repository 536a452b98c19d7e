use Rattle.r9_device.proofs.device.Lookups.{shown-used}
use Rattle.r9_draw.proofs.draw.draw.Draw.image_of.Goals as goal

pub returns-in-Display-clause-live : goal.returns-in-Display-clause-live
returns-in-Display-clause-live c =
    let before = c.args.self.now in
    before.device.kept.live 0 (shown-used before.device.book.book 0 0 0 before.device.kept.display)
