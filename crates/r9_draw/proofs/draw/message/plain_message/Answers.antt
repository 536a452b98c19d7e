use Rattle.std.proofs.Common.{◌≡◌, ℕ, ◌≤◌, Bool, List, length, drop, ◌+◌, ◌++◌, refl, arith, sym, ap, subst, ◌∙◌}
use Rattle.std.specs.Prelude.{IsSome}
use Rattle.model_text.specs.text.Map.{lookup}
use Rattle.model_draw_parts.specs.dmsg.Reading.{IsMessage, first_message}
use Rattle.model_draw.specs.draw.World.{World}
use Rattle.r9_dmsg.specs.View.{message_of}
use Rattle.r9_device.specs.device.World.{world_of}
use Rattle.r9_draw.specs.draw.Steps.{IsDone, IsShortOf}
use Rattle.r9_draw.proofs.draw.Living.{after-live}
use Rattle.r9_draw.proofs.draw.Messages.{done-by, first-costs, refused-act, refused-short, refused-unknown, refused-unsupported, short-marked, short-memory, rows-first-are, spelled-some}
use Rattle.r9_draw.proofs.draw.message.plain_message.Goals as goal

pub returns-in-Err-Short-clause-step : goal.returns-in-Err-Short-clause-step
returns-in-Err-Short-clause-step g c =
    let told = rw c.in-Err-Short.field-0-is at c.in-Err-Short.ensures.short in
    refused-short c.args.client (world_of c.args.device.now) c.args.bytes.now (told.0 refl)

pub returns-in-Err-Unknown-clause-step : goal.returns-in-Err-Unknown-clause-step
returns-in-Err-Unknown-clause-step g c =
    let told = rw c.in-Err-Unknown.field-0-is at c.in-Err-Unknown.ensures.unknown in
    refused-unknown c.args.client (world_of c.args.device.now) c.args.bytes.now (told.0 refl)

pub returns-in-Err-Unsupported-clause-step : goal.returns-in-Err-Unsupported-clause-step
returns-in-Err-Unsupported-clause-step g c =
    let told = rw c.in-Err-Unsupported.field-0-is at c.in-Err-Unsupported.ensures.unsupported in
    refused-unsupported c.args.client (world_of c.args.device.now) c.args.bytes.now (told.0 refl)

pub returns-in-Err-clause-step : goal.returns-in-Err-clause-step
returns-in-Err-clause-step g c =
    let world = world_of c.args.device.now in
    let m = message_of c.in-Ok.message in
    let first : first_message c.args.bytes.now ≡ IsMessage m c.behind-rest.result.now =
    c.in-Ok.ensures.message ∙ ap (λ (r : List ℕ). IsMessage m r) (ap (λ (n : ℕ). drop n c.args.bytes.now) (sym c.spelled_len-len.ensures) ∙ sym c.behind-rest.ensures) in
    refused-act c.args.client world c.args.bytes.now c.behind-rest.result.now m c.in-Err.refusal first c.in-Err.ensures.refused

pub returns-then-marked-clause-step : goal.returns-then-marked-clause-step
returns-then-marked-clause-step g c =
    let world = world_of c.args.device.now in
    let m = message_of c.in-Ok.message in
    let first : first_message c.args.bytes.now ≡ IsMessage m c.behind-rest.result.now =
    c.in-Ok.ensures.message ∙ ap (λ (r : List ℕ). IsMessage m r) (ap (λ (n : ℕ). drop n c.args.bytes.now) (sym c.spelled_len-len.ensures) ∙ sym c.behind-rest.ensures) in
    let P : Bool → Type 0 = λ b. IsShortOf c.args.client world c.args.bytes.now b world in
    subst P (sym c.if-marked.true) (short-marked c.args.client world _ c.args.bytes.now c.behind-rest.result.now m first c.in-Ok-plan_message.ensures.acts)

pub returns-in-Ok-do_plan-clause-step : goal.returns-in-Ok-do_plan-clause-step
returns-in-Ok-do_plan-clause-step g c =
    let world = world_of c.args.device.now in
    let m = message_of c.in-Ok.message in
    let first : first_message c.args.bytes.now ≡ IsMessage m c.behind-rest.result.now =
    c.in-Ok.ensures.message ∙ ap (λ (r : List ℕ). IsMessage m r) (ap (λ (n : ℕ). drop n c.args.bytes.now) (sym c.spelled_len-len.ensures) ∙ sym c.behind-rest.ensures) in
    let after : World = world_of c.do_plan.new.device in
    let rows = ap (λ (n : ℕ). drop n c.behind-rest.result.now) (sym c.rows_behind.ensures) in
    let enough : c.rows_behind.result ≤ length c.behind-rest.result.now = (let h = c.in-Ok-plan_message.ensures.within in let e = c.rows_behind.ensures in omega (arith, h, e)) in
    let size = c.spelled_len-len.ensures in
    let whole = c.in-Ok.ensures.whole in
    let P : Bool → Type 0 = λ b. IsDone c.args.client world c.args.bytes.now b (c.spelled_len-len.result + c.rows_behind.result) after in
    subst P (sym c.if-marked.false)
    (done-by c.args.client world _ after c.args.bytes.now c.behind-rest.result.now m c.spelled_len-len.result c.rows_behind.result first c.in-Ok-plan_message.ensures.acts c.in-Ok-do_plan.ensures.done
    c.behind-rest.ensures (c.in-Ok-plan_message.ensures.behind ∙ rows) (spelled-some m _ size) (omega (arith, size, whole)) enough
    (let Q : World → Type 0 = λ w. IsSome (lookup w.clients c.args.client) in subst Q (sym c.in-Ok-do_plan.ensures.done) (after-live c.args.client world c.in-Ok-plan_message.plan c.behind-rest.result.now c.requires.live)))

pub returns-in-Ok-do_plan-clause-rows : goal.returns-in-Ok-do_plan-clause-rows
returns-in-Ok-do_plan-clause-rows g c =
    let world = world_of c.args.device.now in
    let m = message_of c.in-Ok.message in
    let first : first_message c.args.bytes.now ≡ IsMessage m c.behind-rest.result.now =
    c.in-Ok.ensures.message ∙ ap (λ (r : List ℕ). IsMessage m r) (ap (λ (n : ℕ). drop n c.args.bytes.now) (sym c.spelled_len-len.ensures) ∙ sym c.behind-rest.ensures) in
    c.in-Ok-do_plan.ensures.rows
    ∙ ap (λ (l : List ℕ). c.args.rows.now ++ l) (sym (rows-first-are c.args.client world c.args.bytes.now c.behind-rest.result.now m _ first c.in-Ok-plan_message.ensures.behind c.in-Ok-plan_message.ensures.within))

pub returns-in-Ok-do_plan-clause-steps : goal.returns-in-Ok-do_plan-clause-steps
returns-in-Ok-do_plan-clause-steps g c =
    let world = world_of c.args.device.now in
    let first = first-costs c.args.client world c.args.bytes.now _ (message_of c.in-Ok.message) c.in-Ok.ensures.message in
    omega (arith, first, c.in-Ok-plan_message.ensures.cost, c.do_plan.ensures.steps)

pub returns-clause-step : goal.returns-clause-step
returns-clause-step g c =
    let world = world_of c.args.device.now in
    let m = message_of c.in-Ok.message in
    let first : first_message c.args.bytes.now ≡ IsMessage m c.behind-rest.result.now =
    c.in-Ok.ensures.message ∙ ap (λ (r : List ℕ). IsMessage m r) (ap (λ (n : ℕ). drop n c.args.bytes.now) (sym c.spelled_len-len.ensures) ∙ sym c.behind-rest.ensures) in
    short-memory c.args.client world _ (world_of c.do_plan.new.device) c.args.bytes.now c.behind-rest.result.now m c.args.marked first c.in-Ok-plan_message.ensures.acts
    c.in-Err-do_plan.ensures.memory c.in-Err-do_plan.ensures.kept

pub plan_message-requires-clause-plain : goal.plan_message-requires-clause-plain
plan_message-requires-clause-plain g c = c.requires.plain (message_of c.in-Ok.message) _ c.in-Ok.ensures.message
