use Rattle.std.proofs.Common.{◌≡◌, ◌⊎◌, ◌+◌, ◌≤◌, ℕ, List, sym, subst, inl, inr, arith, ◌∙◌, length}
use Rattle.r9_service.proofs.recorder.Putting.{line_put}
use Rattle.r9_service.proofs.recorder.recorder.Recorder.put_next.Goals as goal

-- the entries before the next line stay so
still_before : (first next : ℕ) → (first ≤ next) ⊎ (first ≡ 1) → (first ≤ next + 1) ⊎ (first ≡ 1)
still_before first next (inl le) = inl (omega (arith, le))
still_before first next (inr one) = inr one

pub returns-in-Ok-clause-records : goal.returns-in-Ok-clause-records
returns-in-Ok-clause-records g c = λ loan history was is fits. let put = c.put_line-put.ensures in let same = c.as_slice.ensures in let within = subst (λ (t : List ℕ). c.args.self.now.part ≤ length t) (sym (same ∙ is)) was.put.within in record {
  named = was.named;
  stood = was.stood;
  put = line_put loan.held c.args.self.now.next c.args.self.now.part c.put_line-put.new.part history c.as_slice.result.now _ _ (same ∙ is) (c.in-Ok.ensures.whole within) fits (put.put within loan.held _) was.put;
  stored = still_before _ _ was.stored;
  size = was.size;
  counted = omega (arith, was.counted, put.counted);
  failed = λ failed. omega (arith, was.failed failed, put.counted);
}
