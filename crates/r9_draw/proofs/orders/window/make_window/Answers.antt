use Rattle.std.proofs.Common.{◌≡◌, ℕ, true, sym, subst}
use Rattle.model_draw_parts.specs.declared.images.Thing.TheVariants.{Screen}
use Rattle.model_draw_parts.specs.images.Release.{is_used}
use Rattle.r9_device.specs.device.World.{world_of}
use Rattle.r9_draw.proofs.orders.Fitting.{rio-used}
use Rattle.r9_draw.proofs.orders.window.make_window.Goals as goal

pub white_window-requires-clause-screen : goal.white_window-requires-clause-screen
white_window-requires-clause-screen g c =
    subst (λ (s : ℕ). is_used c.args.device.now.book.book (Screen s) ≡ true) (sym c.rio_screen-screen.ensures) (rio-used (world_of c.args.device.now) c.args.host c.requires.rio)
