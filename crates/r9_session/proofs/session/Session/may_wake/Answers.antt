use Rattle.std.proofs.Common.{◌∙◌, ℕ, List, length, sym, ap, subst}
use Rattle.std.specs.Prelude.{◌==◌}
use Rattle.std.specs.List.{list_any}
use Rattle.model_world.specs.Session.{Session}
use Rattle.model_world.specs.Links.{is_among}
use Rattle.r9_session.specs.Places.{AreCovered}
use Rattle.r9_session.proofs.Places.{none_waits, not_woken}
use Rattle.r9_session.proofs.session.Session.may_wake.Goals as goal

pub returns-then-is_empty : goal.returns-then-is_empty
returns-then-is_empty c = λ is. none_waits c.args.self.now c.args.windows.now
    (ap (λ (s : Session). length s.waiting == 0) (sym c.self.view_is) ∙ sym c.is_empty.ensures ∙ c.if-is_empty.true)

pub returns : goal.returns
returns c = λ is. not_woken c.args.self.now c.self.inside.places c.args.windows.now
    (subst (λ (s : Session). AreCovered s.fids s.waiting c.self.inside.places) c.self.view_is c.self.invariant.covered)
    (ap (λ (places : List ℕ). list_any (λ place. is_among c.args.windows.now place) places) (sym c.as_slice.ensures) ∙ sym c.are_among.ensures ∙ is)
