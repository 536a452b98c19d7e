use Rattle.std.proofs.Common.{ℕ, List, not, sym, subst}
use Rattle.std.specs.Prelude.{◌==◌}
use Rattle.model_world.specs.Session.{Wait}
use Rattle.r9_session.specs.Places.{AreCovered}
use Rattle.r9_session.proofs.Places.{covered_filter}
use Rattle.r9_session.proofs.session.Session.flush.Goals as goal

pub invariant_of-self : goal.invariant_of-self
invariant_of-self c = record {
  within = c.self.invariant.within;
  kept = c.self.invariant.kept;
  covered = subst (λ (reads : List (ℕ × Wait)). AreCovered c.self.inside.fids reads c.self.inside.places) (sym c.flush.ensures.rest)
      (covered_filter (λ read. not (read.0 == c.args.oldtag)) c.self.inside.fids c.self.inside.waiting c.self.inside.places c.self.invariant.covered);
}
