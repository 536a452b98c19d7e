use Rattle.std.specs.Prelude.{min, ◌^◌, ◌≤◌, ◌⊎◌}
use Rattle.std.proofs.Common.{arith, length, ◌+◌, ◌≡◌, ◌∙◌, ◌-◌, ℕ, List, drop, sym, ap, subst}
use Rattle.r9_event.specs.declared.event.event.Entry.{Entry}
use Rattle.r9_service.specs.recorder.Recording.{Records, IsPut}
use Rattle.r9_service.specs.recorder.Lines.{size_of}
use Rattle.r9_service.proofs.recorder.Grown.{grown_put, grown_size, behind_more, entry_of}
use Rattle.r9_service.proofs.recorder.recorder.Recorder.make.Goals as goal

pub returns-then-acted-clause-history : goal.returns-then-acted-clause-history
returns-then-acted-clause-history g c = λ loan before was.
    let made = c.act-acted.ensures.history before was.stood in
    let found = entry_of _ _ _ c.if-acted.true made.3 in
    let first = g.H.Keeps.first c.args.self.now.hall in
    let old = g.met.H.Keeps.stands_for_stored c.args.self.now.hall before was.stood in
    let new = g.met.H.Keeps.stands_for_stored c.act-acted.new.self made.0 made.1 in
    let reached : first ≤ length before + 1 = omega (arith, old.counted, old.to) in
    let stored = new.kept ∙ ap (λ (n : ℕ). drop (n - 1) made.0) c.act-acted.ensures.first ∙ ap (λ (xs : List Entry). drop (first - 1) xs) found.1 ∙ behind_more before first found.0 reached in
    let size = grown_size before first found.0 c.args.self.now.size c.count_last.new.self.size reached was.size (c.count_last.ensures.size _ found.0 stored) in
    let same : first ≡ g.H.Keeps.first c.act-acted.new.self = sym c.act-acted.ensures.first in
    let sized = size ∙ ap (λ (xs : List Entry). min (size_of (drop (first - 1) xs)) (2 ^ 64 - 1)) (sym found.1) ∙ ap (λ (n : ℕ). min (size_of (drop (n - 1) made.0)) (2 ^ 64 - 1)) same in (
      made.0,
      subst (λ r. Records g.H.Keeps.first g.H.Keeps.stands g.O.Sink.held g.O.Sink.faults loan r made.0) (sym c.count_last.ensures.rest) (record {
        named = was.named;
        stood = made.1;
        put = subst (λ (h : List Entry). IsPut loan.held c.args.self.now.next c.args.self.now.part h (g.O.Sink.held c.args.self.now.out.now)) (sym found.1) (grown_put _ _ _ before found.0 _ was.put);
        stored = subst (λ (n : ℕ). (n ≤ c.args.self.now.next) ⊎ (n ≡ 1)) same was.stored;
        size = sized;
        counted = was.counted;
        failed = was.failed;
      }),
      made.2,
      made.3,
    )
