use Rattle.r9_device.proofs.device.Adding.{never-refused}
use Rattle.r9_draw.proofs.orders.image.add_window.Goals as goal

pub unreachable-requires : goal.unreachable-requires
unreachable-requires c =
    never-refused c.in-Err.field-0 c.args.book.now.book 0 c.args.window c.args.image.0 _ (c.in-Err.ensures.room c.requires.room) c.in-Err.ensures.refused c.requires.fresh
