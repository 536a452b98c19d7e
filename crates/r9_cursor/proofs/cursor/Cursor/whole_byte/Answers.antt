use Rattle.std.proofs.Common.{refl}
use Rattle.r9_cursor.proofs.Bytes.{under_whole}
use Rattle.r9_cursor.proofs.cursor.Cursor.whole_byte.Goals as goal

pub returns-in-None : goal.returns-in-None
returns-in-None c = rw (under_whole _ _ c.args.k c.args.old c.requires.whole, ← c.from-size.ensures, ← c.put_in.ensures.value, c.in-None.is) refl

pub returns-in-Some : goal.returns-in-Some
returns-in-Some c = rw (under_whole _ _ c.args.k c.args.old c.requires.whole, ← c.from-size.ensures, ← c.put_in.ensures.value, c.in-Some.is) refl
