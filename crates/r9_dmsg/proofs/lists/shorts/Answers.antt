use Rattle.std.proofs.Common.{◌∙◌, arith}
use Rattle.std.specs.Int.{w16}
use Rattle.r9_dmsg.proofs.Loops.{one_more, no_more}
use Rattle.r9_dmsg.proofs.lists.shorts.Goals as goal

pub numbers-preserved : goal.numbers-preserved
numbers-preserved c = record {
  room = grind arith;
  whole = rw (c.in_ok-push.ensures.items, c.from.ensures, c.split_u16-number.ensures.number, c.split_u16-number.ensures.rest) (one_more w16 _ _ _ _ (omega arith) c.numbers.invariant.whole);
}

pub returns : goal.returns
returns c = c.into.ensures ∙ no_more w16 _ _ _ _ (omega arith) c.numbers.invariant.whole
