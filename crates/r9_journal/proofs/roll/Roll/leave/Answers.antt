use Rattle.std.proofs.Common.{◌≡◌, ℕ, List, eqb, rules, ap, subst}
use Rattle.std.specs.Prelude.{not, filter}
use Rattle.std.proofs.lemmas.Fn.{filter_same}
use Rattle.model_history.specs.event.Legal.{Roll}
use Rattle.r9_journal.proofs.roll.Roll.leave.Goals as goal

pub returns : goal.returns
returns c =
    let made : List ℕ → Roll = λ live. record { begun = c.self.inside.begun; live = live; stopped = c.self.inside.stopped } in
    let left : Roll → Roll = λ roll. record roll { live = filter (λ d. not (eqb d c.args.session)) roll.live } in
    subst (λ (roll : Roll). made c.retain.new.self.items ≡ left roll) c.self.view_is
    (ap made (filter_same _ _ _ (λ x b f' k. search rules) _ _ c.retain.ensures.filtered))
