use Rattle.std.proofs.Common.{◌∙◌, arith}
use Rattle.std.specs.Int.{w32}
use Rattle.r9_dmsg.proofs.Loops.{one_more, no_more}
use Rattle.r9_dmsg.proofs.lists.longs.Goals as goal

pub numbers-preserved : goal.numbers-preserved
numbers-preserved c = record {
  room = grind arith;
  whole = rw (c.in_ok-push.ensures.items, c.split_u32-number.ensures.number, c.split_u32-number.ensures.rest) (one_more w32 _ _ _ _ (omega arith) c.numbers.invariant.whole);
}

pub returns : goal.returns
returns c = c.into.ensures ∙ no_more w32 _ _ _ _ (omega arith) c.numbers.invariant.whole
