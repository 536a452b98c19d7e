use Rattle.std.proofs.Common.{refl, ap, subst, ◌∙◌}
use Rattle.r9_desktop.specs.Marks.{IsCleared}
use Rattle.r9_hall.specs.hall.HallView.{HallValue, IsAsStored, value_of}
use Rattle.r9_hall.specs.hall.WorldView.{display_in, world_in}
use Rattle.r9_hall.proofs.hall.Halls.{stands_same}
use Rattle.r9_hall.proofs.hall.hall.Hall.clear_marks.Goals as goal

pub returns-clause-stored : goal.returns-clause-stored
returns-clause-stored c =
    let before = value_of c.self.inside in
    let after : HallValue = record before { opening = c.clear_marks.new.self.opening; world = c.clear_marks.new.self } in
    subst (λ (h : HallValue). IsAsStored h after) c.self.view_is
    (record { stored = refl; roll = refl; stands = stands_same before c.clear_marks.new.self.opening c.clear_marks.new.self c.clear_marks.ensures.opening c.clear_marks.ensures.world })

pub returns-clause-world : goal.returns-clause-world
returns-clause-world c = c.clear_marks.ensures.world ∙ ap (λ (h : HallValue). world_in h.world) c.self.view_is

pub returns-clause-cleared : goal.returns-clause-cleared
returns-clause-cleared c = subst (λ (h : HallValue). IsCleared (display_in h.world) (display_in c.clear_marks.new.self)) c.self.view_is c.clear_marks.ensures.cleared
