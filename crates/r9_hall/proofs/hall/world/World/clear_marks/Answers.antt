use Rattle.std.proofs.Common.{◌≡◌, ℕ, sym, ap, subst, ◌∙◌}
use Rattle.model_world.specs.Links.{AreKnown, AreLinked}
use Rattle.model_world.specs.World.{World}
use Rattle.r9_desktop.specs.Marks.{IsCleared}
use Rattle.r9_desktop.specs.World.{display_of}
use Rattle.r9_hall.specs.hall.Settling.{WaitsAt}
use Rattle.r9_hall.specs.hall.StateView.{world_with}
use Rattle.r9_hall.specs.hall.WorldView.{WorldValue, display_in, world_in}
use Rattle.r9_hall.proofs.hall.States.{begun_world}
use Rattle.r9_hall.proofs.hall.world.World.clear_marks.Goals as goal

pub invariant_of-self : goal.invariant_of-self
invariant_of-self c =
    let before = c.self.inside in
    let back : world_with before.opening before.sessions ≡ world_with before.opening c.clear_marks.new.self = sym (begun_world before.opening before.sessions c.clear_marks.new.self c.clear_marks.ensures.desktop c.clear_marks.ensures.live) in
    record {
      linked = λ going. subst (λ (w : World). AreLinked w.desktop.device w.sessions) back (c.self.invariant.linked going);
      known = λ going. subst (λ (w : World). AreKnown before.begun w.sessions) back (c.self.invariant.known going);
      quiet = λ going. subst (λ (w : World). (n : ℕ) → WaitsAt w.sessions w.desktop n) back (c.self.invariant.quiet going);
    }

pub returns-clause-world : goal.returns-clause-world
returns-clause-world c =
    begun_world c.self.inside.opening c.self.inside.sessions c.clear_marks.new.self c.clear_marks.ensures.desktop c.clear_marks.ensures.live ∙ ap (λ (w : WorldValue). world_in w) c.self.view_is

pub returns-clause-cleared : goal.returns-clause-cleared
returns-clause-cleared c = subst (λ (w : WorldValue). IsCleared (display_in w) (display_of c.clear_marks.new.self.desktop)) c.self.view_is c.clear_marks.ensures.cleared
