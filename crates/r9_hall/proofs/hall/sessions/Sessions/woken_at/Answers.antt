use Rattle.std.proofs.Common.{◌≡◌, ℕ, List, [], ◌++◌, refl, sym, subst, ◌∙◌, arith}
use Rattle.std.proofs.lemmas.List.{append-nil}
use Rattle.model_world.specs.Session.{Session}
use Rattle.r9_hall.specs.hall.Settling.{AreWoken}
use Rattle.r9_hall.proofs.hall.Waits.{woken_none, woken_passed, woken_taken}
use Rattle.r9_hall.proofs.hall.sessions.Sessions.woken_at.Goals.{then-number-session, else-number-session}
use Rattle.r9_hall.proofs.hall.sessions.Sessions.woken_at.Goals as goal

pub loop-number-init : goal.loop-number-init
loop-number-init c = λ later woken.
    subst (λ (l : List ℕ). AreWoken c.args.session c.args.windows.now c.args.self.now.live.entries (l ++ later)) (sym c.new-asked.ensures.items)
    (subst (λ (l : List (ℕ × Session)). AreWoken c.args.session c.args.windows.now l later) c.into_iter-number-iterator.ensures.into_iter_gives.0 woken)

pub loop-number-preserved : goal.loop-number-preserved
loop-number-preserved c =
    let own : c.in-Some.number.now ≡ c.args.session → c.in-Some.found.now.waiting ≡ [] =
    elim c.if-number-session.branch [
      | then-number-session w ↦ λ same. woken_none c.in-Some.found.now.waiting (sym w.is_waiting.ensures ∙ sym w.value-is ∙ c.if-is_waiting.false)
      | else-number-session w ↦ λ same. absurd (omega (arith, same, w.if-number-session.false))
    ] in
    woken_passed c.args.session c.args.windows.now c.args.self.now.live.entries (c.in-Some.number.now, c.in-Some.found.now) c.next.new.self c.loop-number.asked.items
    (λ later woken. c.loop-number.invariant later (subst (λ (l : List (ℕ × Session)). AreWoken c.args.session c.args.windows.now l later) (sym c.in-Some.ensures.steps) woken))
    (c.may_wake.ensures c.if-may_wake.false, own)

pub loop-number-preserved-in-loop-number : goal.loop-number-preserved-in-loop-number
loop-number-preserved-in-loop-number c = λ later woken.
    subst (λ (l : List ℕ). AreWoken c.args.session c.args.windows.now c.args.self.now.live.entries (l ++ later)) (sym c.in_ok-push.ensures.items)
    (woken_taken c.args.session c.args.windows.now c.args.self.now.live.entries (c.in-Some.number.now, c.in-Some.found.now) c.next.new.self c.loop-number.asked.items
    (λ rest asked. c.loop-number.invariant rest (subst (λ (l : List (ℕ × Session)). AreWoken c.args.session c.args.windows.now l rest) (sym c.in-Some.ensures.steps) asked)) later woken)

pub returns : goal.returns
returns c =
    subst (λ (l : List ℕ). AreWoken c.args.session c.args.windows.now c.args.self.now.live.entries l) (append-nil c.loop-number.asked.items)
    (c.loop-number.invariant [] (subst (λ (l : List (ℕ × Session)). AreWoken c.args.session c.args.windows.now l []) (sym c.in-None.ensures.steps.0) refl))
