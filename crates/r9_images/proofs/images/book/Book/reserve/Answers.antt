use Rattle.std.proofs.Common.{arith}
use Rattle.r9_images.proofs.images.book.Book.reserve.Goals as goal

pub returns-clause-room : goal.returns-clause-room
returns-clause-room c = omega (arith, c.in_ok-reserve.ensures.room, c.in_ok-reserve-2.ensures.room)
