use Rattle.r9_put.proofs.put.moving.shift_of.Goals as goal

pub returns : goal.returns
returns c = record {
  bare = c.is_bare_over.ensures c.if-not-is_bare_over.false;
  to = c.in_ok-to.ensures;
  taken = c.in_ok-taken.ensures;
}
