use Rattle.std.proofs.Common.{◌≡◌, ℕ, List, IfOk, IfSome, IsSome, sym, ap, subst, ◌∙◌}
use Rattle.r9_event.specs.declared.event.event.Event.{Event}
use Rattle.r9_event.specs.declared.event.event.Event.TheVariants.{Begin, Msg, End}
use Rattle.r9_event.specs.declared.event.event.Opening.{Opening}
use Rattle.model_alone.specs.alone.Uses.{event_used}
use Rattle.model_world.specs.Cut.{IsCutEvent, IsWantingEvent}
use Rattle.model_world.specs.Replay.{marked}
use Rattle.r9_hall.specs.hall.StateView.{IsMade, world_with}
use Rattle.r9_hall.specs.declared.hall.sessions.Made.{Made}
use Rattle.r9_hall.proofs.hall.States.{unmarked, unmarked_made}
use Rattle.r9_hall.proofs.hall.Watched.{begun_used, ended_used, silent_used, unused_made}
use Rattle.r9_hall.proofs.hall.sessions.Sessions.make.Goals as goal

pub returns-in-Begin-clause-made : goal.returns-in-Begin-clause-made
returns-in-Begin-clause-made c = unmarked_made c.args.self.now c.begin.new.self c.args.event.now (Begin c.in-Begin.session) c.begin.result c.in-Begin.is c.begin.ensures.unmarked c.begin.ensures.made

pub returns-in-Begin-clause-short : goal.returns-in-Begin-clause-short
returns-in-Begin-clause-short c = unmarked (λ opening k. IsCutEvent (world_with opening c.args.self.now) c.args.event.now k) c.begin.result c.begin.ensures.unmarked

pub returns-in-End-clause-made : goal.returns-in-End-clause-made
returns-in-End-clause-made c = unmarked_made c.args.self.now c.end.new.self c.args.event.now (End c.in-End.session) c.end.result c.in-End.is c.end.ensures.unmarked c.end.ensures.made

pub returns-in-End-clause-short : goal.returns-in-End-clause-short
returns-in-End-clause-short c = unmarked (λ opening k. IsCutEvent (world_with opening c.args.self.now) c.args.event.now k) c.end.result c.end.ensures.unmarked

pub returns-in-Msg-clause-made : goal.returns-in-Msg-clause-made
returns-in-Msg-clause-made c =
    let is : c.args.event.now ≡ Msg c.in-Msg.session c.as_slice.result.now c.in-Msg.mark = c.in-Msg.is ∙ ap (λ (bytes : List ℕ). Msg c.in-Msg.session bytes c.in-Msg.mark) (sym c.as_slice.ensures) in
    subst (λ (e : Event). IfOk c.serve.result (λ made. (opening : Opening) → IsMade opening c.args.self.now (marked e made.short) made c.serve.new.self)) (sym is) c.serve.ensures.made

pub returns-in-Msg-clause-short : goal.returns-in-Msg-clause-short
returns-in-Msg-clause-short c =
    let is : c.args.event.now ≡ Msg c.in-Msg.session c.as_slice.result.now c.in-Msg.mark = c.in-Msg.is ∙ ap (λ (bytes : List ℕ). Msg c.in-Msg.session bytes c.in-Msg.mark) (sym c.as_slice.ensures) in
    subst (λ (e : Event). IfOk c.serve.result (λ made. (opening : Opening) → IfSome made.short (λ k. IsCutEvent (world_with opening c.args.self.now) e k))) (sym is) c.serve.ensures.short

pub returns-in-Msg-clause-told : goal.returns-in-Msg-clause-told
returns-in-Msg-clause-told c =
    let is : c.args.event.now ≡ Msg c.in-Msg.session c.as_slice.result.now c.in-Msg.mark = c.in-Msg.is ∙ ap (λ (bytes : List ℕ). Msg c.in-Msg.session bytes c.in-Msg.mark) (sym c.as_slice.ensures) in
    subst (λ (e : Event). IfOk c.serve.result (λ made. (opening : Opening) → IsWantingEvent (world_with opening c.args.self.now) (marked e made.short) → IsSome made.short)) (sym is) c.serve.ensures.told

pub returns-in-Begin-clause-uses : goal.returns-in-Begin-clause-uses
returns-in-Begin-clause-uses c = λ watches.
    unused_made c.args.self.now c.begin.new.self c.args.event.now (Begin c.in-Begin.session) c.begin.result c.in-Begin.is (λ world next short. begun_used world next c.in-Begin.session short) c.begin.ensures.unused

pub returns-in-End-clause-uses : goal.returns-in-End-clause-uses
returns-in-End-clause-uses c = λ watches.
    unused_made c.args.self.now c.end.new.self c.args.event.now (End c.in-End.session) c.end.result c.in-End.is (λ world next short. ended_used world next c.in-End.session short) c.end.ensures.unused

pub returns-in-Msg-clause-uses : goal.returns-in-Msg-clause-uses
returns-in-Msg-clause-uses c = λ watches.
    let is : c.args.event.now ≡ Msg c.in-Msg.session c.as_slice.result.now c.in-Msg.mark = c.in-Msg.is ∙ ap (λ (bytes : List ℕ). Msg c.in-Msg.session bytes c.in-Msg.mark) (sym c.as_slice.ensures) in
    subst (λ (e : Event). IfOk c.serve.result (λ made. (opening : Opening) → made.uses ≡ event_used (world_with opening c.args.self.now) (world_with opening c.serve.new.self) (marked e made.short))) (sym is) (c.serve.ensures.uses watches)

pub returns-in-Take-clause-uses : goal.returns-in-Take-clause-uses
returns-in-Take-clause-uses c = λ watches. silent_used c.args.self.now c.args.self.now c.args.event.now c.silent.result.uses c.silent.result.short c.in-Take.is (ap (λ (m : Made). m.uses) c.silent.ensures)
