use Rattle.std.proofs.Common.{refl, sym, ◌∙◌, ap, arith, length, List, ℕ, []}
use Rattle.std.proofs.lemmas.List.{nil_from_length}
use Rattle.r9_attend.proofs.attend.TheReader.{reads_taken, reads_end}
use Rattle.r9_attend.proofs.attend.reading.fill.Goals as goal

pub returns-then-held-eq0-clause-filled : goal.returns-then-held-eq0-clause-filled
returns-then-held-eq0-clause-filled g c = record {
  bytes = [];
  reads = reads_end _ _ c.in-Ok.count c.take.new.buffer c.if-count-eq0.true c.in-Ok.ensures.taken;
  fed = (refl, nil_from_length c.args.framer.now.held (sym c.held-held.ensures ∙ c.if-held-eq0.true), c.in-Ok.ensures.end c.if-count-eq0.true (omega arith));
}

pub returns-else-held-eq0-clause-filled : goal.returns-else-held-eq0-clause-filled
returns-else-held-eq0-clause-filled g c = record {
  bytes = [];
  reads = reads_end _ _ c.in-Ok.count c.take.new.buffer c.if-count-eq0.true c.in-Ok.ensures.taken;
  fed = (refl, c.held-held.ensures, (λ e. c.if-held-eq0.false (c.held-held.ensures ∙ ap (λ (l : List ℕ). length l) e)), c.in-Ok.ensures.end c.if-count-eq0.true (omega arith));
}

pub returns-then-is_err-clause-filled : goal.returns-then-is_err-clause-filled
returns-then-is_err-clause-filled g c = record { bytes = _; reads = reads_taken _ _ c.in-Ok.count c.take.new.buffer c.in-Ok.ensures.taken; fed = tt }
