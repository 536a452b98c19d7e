use Rattle.std.proofs.Common.{◌<◌, Bool, length, refl, rules, tests, sym, subst, ℕ, List, ◌+◌, ◌∙◌, arith}
use Rattle.r9_device.specs.device.World as device
use Rattle.r9_draw.specs.draw.World.{world_of}
use Rattle.r9_draw.specs.draw.Steps.{IsShortOf, IsDone}
use Rattle.r9_draw.proofs.draw.Costs.{counted-more}
use Rattle.r9_draw.proofs.draw.Writing.{IsWriting, begins, refused, short-cause, rows-done, short-written, step-done}
use Rattle.r9_draw.proofs.draw.draw.Draw.write.Goals as goal

pub messages-init : goal.messages-init
messages-init g c = (begins c.args.client (world_of c.args.self.now) c.args.bytes.now c.args.mark c.requires.live, c.new-rows.ensures, omega arith, λ _. refl, refl, refl)

pub returns-in-Refused-clause-plain : goal.returns-in-Refused-clause-plain
returns-in-Refused-clause-plain g c = λ _.
    let some : 0 < length c.messages.rest.now = search (rules, tests) in
    refused c.args.client (world_of c.args.self.now) c.args.bytes.now c.args.mark (world_of c.messages.self) (device.world_of c.one_message.new.device) c.messages.rest.now c.messages.done c.in-Refused.refusal c.messages.invariant.0 some c.in-Refused.ensures.step

pub returns-in-Short-clause-short : goal.returns-in-Short-clause-short
returns-in-Short-clause-short g c = λ _.
    let some : 0 < length c.messages.rest.now = search (rules, tests) in
    short-written c.args.client (world_of c.args.self.now) c.args.bytes.now c.args.mark (world_of c.messages.self) (device.world_of c.one_message.new.device) c.messages.rest.now c.messages.done c.is_marked-marked.result c.messages.invariant.0 some c.in-Short.ensures.step

pub returns-in-Short-clause-cause : goal.returns-in-Short-clause-cause
returns-in-Short-clause-cause g c = λ _.
    let P : Bool → Type 0 = λ b. IsShortOf c.args.client (world_of c.messages.self) c.messages.rest.now b (device.world_of c.one_message.new.device) in
    short-cause c.args.client (world_of c.args.self.now) c.args.bytes.now c.args.mark (world_of c.messages.self) (device.world_of c.one_message.new.device) c.messages.rest.now c.messages.done c.messages.invariant.0 (subst P c.is_marked-marked.ensures c.in-Short.ensures.step)

pub messages-preserved : goal.messages-preserved
messages-preserved g c =
    let some : 0 < length c.messages.rest.now = search (rules, tests) in
    let P : Bool → Type 0 = λ b. IsDone c.args.client (world_of c.messages.self) c.messages.rest.now b c.in-Done.len (device.world_of c.one_message.new.device) in
    let Q : List ℕ → Type 0 = λ r. IsWriting c.args.client (world_of c.args.self.now) c.args.bytes.now c.args.mark (device.world_of c.one_message.new.device) r (c.messages.done + 1) in (
      subst Q (sym c.behind-rest.ensures)
          (step-done c.args.client (world_of c.args.self.now) c.args.bytes.now c.args.mark (world_of c.messages.self) (device.world_of c.one_message.new.device) c.messages.rest.now c.messages.done c.in-Done.len c.messages.invariant.0 some (subst P c.is_marked-marked.ensures c.in-Done.ensures.step)),
      rows-done c.args.client (world_of c.args.self.now) c.args.bytes.now (world_of c.messages.self) (device.world_of c.one_message.new.device) c.messages.rest.now c.messages.done c.in-Done.len c.is_marked-marked.result c.messages.rows c.one_message.new.rows c.messages.invariant.0.reaches c.in-Done.ensures.step c.messages.invariant.1 c.in-Done.ensures.rows,
      counted-more c.args.client (world_of c.args.self.now) (world_of c.messages.self) (device.world_of c.one_message.new.device) c.args.bytes.now c.messages.rest.now c.is_marked-marked.result c.messages.done c.in-Done.len c.args.pixels.now c.messages.pixels c.one_message.new.steps c.messages.invariant.0.reaches c.in-Done.ensures.step c.in-Done.ensures.steps c.messages.invariant.2,
      λ none. absurd (omega (arith, none)),
      c.one_message.ensures.moment ∙ c.messages.invariant.4,
      omega (arith, c.one_message.ensures.writes, c.messages.invariant.5),
    )

pub returns-in-Refused-clause-pixels : goal.returns-in-Refused-clause-pixels
returns-in-Refused-clause-pixels g c = omega (arith, c.in-Refused.ensures.steps, c.messages.invariant.2)

pub returns-in-Short-clause-pixels : goal.returns-in-Short-clause-pixels
returns-in-Short-clause-pixels g c = omega (arith, c.in-Short.ensures.steps, c.messages.invariant.2)
