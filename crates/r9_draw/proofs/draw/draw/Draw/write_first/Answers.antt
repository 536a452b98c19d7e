use Rattle.std.proofs.Common.{false, ◌≡◌, ◌<◌, length, rules, tests, sym, ap, ◌∙◌, subst, ℕ, List, ◌+◌, ◌≤◌, arith, None, refl}
use Rattle.model_draw.specs.draw.Act.{written_within}
use Rattle.r9_device.specs.device.World as device
use Rattle.r9_draw.specs.draw.World.{world_of}
use Rattle.r9_draw.proofs.draw.Costs.{counted-more}
use Rattle.r9_draw.proofs.draw.Writing.{rows-done}
use Rattle.r9_draw.proofs.draw.First.{AreDone, all-done, enough-done, none-done, one-more, short-since, then-refused, then-short}
use Rattle.r9_draw.proofs.draw.draw.Draw.write_first.Goals.{then-messages-test+else-not-is_empty, else-messages-test}
use Rattle.r9_draw.proofs.draw.draw.Draw.write_first.Goals as goal

pub messages-init : goal.messages-init
messages-init g c = (none-done c.args.client (world_of c.args.self.now) c.args.bytes.now c.requires.live, omega arith, c.new-rows.ensures, omega arith, refl, refl)

pub returns-in-Refused-clause-plain : goal.returns-in-Refused-clause-plain
returns-in-Refused-clause-plain g c = λ _.
    let some : 0 < length c.messages.rest.now = search (rules, tests) in
    let few : c.messages.done < c.args.most = search (rules, tests) in
    then-refused c.args.client (world_of c.args.self.now) c.args.bytes.now (world_of c.messages.self) (device.world_of c.one_message.new.device) c.messages.rest.now c.messages.done c.args.most c.in-Refused.refusal c.messages.invariant.0 some few c.in-Refused.ensures.step

pub returns-in-Short-clause-short : goal.returns-in-Short-clause-short
returns-in-Short-clause-short g c = λ _.
    then-short c.args.client (world_of c.args.self.now) c.args.bytes.now (world_of c.messages.self) (device.world_of c.one_message.new.device) c.messages.rest.now c.messages.done c.messages.invariant.0 c.in-Short.ensures.step

pub returns-in-Short-clause-cause : goal.returns-in-Short-clause-cause
returns-in-Short-clause-cause g c = λ _.
    short-since c.args.client (world_of c.args.self.now) c.args.bytes.now (world_of c.messages.self) (device.world_of c.one_message.new.device) c.messages.rest.now c.messages.done c.messages.invariant.0 c.in-Short.ensures.step

pub messages-preserved : goal.messages-preserved
messages-preserved g c =
    let some : 0 < length c.messages.rest.now = search (rules, tests) in
    let few : c.messages.done + 1 ≤ c.args.most = search (rules, tests) in
    let Q : List ℕ → Type 0 = λ r. AreDone c.args.client (world_of c.args.self.now) c.args.bytes.now (device.world_of c.one_message.new.device) r (c.messages.done + 1) in (
      subst Q (sym c.behind-rest.ensures)
          (one-more c.args.client (world_of c.args.self.now) c.args.bytes.now (world_of c.messages.self) (device.world_of c.one_message.new.device) c.messages.rest.now c.messages.done c.in-Done.len c.messages.invariant.0 some c.in-Done.ensures.step),
      few,
      rows-done c.args.client (world_of c.args.self.now) c.args.bytes.now (world_of c.messages.self) (device.world_of c.one_message.new.device) c.messages.rest.now c.messages.done c.in-Done.len false c.messages.rows c.one_message.new.rows c.messages.invariant.0.reaches c.in-Done.ensures.step c.messages.invariant.2 c.in-Done.ensures.rows,
      counted-more c.args.client (world_of c.args.self.now) (world_of c.messages.self) (device.world_of c.one_message.new.device) c.args.bytes.now c.messages.rest.now false c.messages.done c.in-Done.len c.args.pixels.now c.messages.pixels c.one_message.new.steps c.messages.invariant.0.reaches c.in-Done.ensures.step c.in-Done.ensures.steps c.messages.invariant.3,
      c.one_message.ensures.moment ∙ c.messages.invariant.4,
      omega (arith, c.one_message.ensures.writes, c.messages.invariant.5),
    )

pub returns-clause-plain : goal.returns-clause-plain
returns-clause-plain g c = λ _. elim c.messages-test.branch [
  | then-messages-test+else-not-is_empty w ↦
      let none : length c.messages.rest.now ≡ 0 = search (rules, tests) in
      all-done c.args.client (world_of c.args.self.now) c.args.bytes.now (world_of c.messages.self) c.messages.rest.now c.messages.done c.args.most c.messages.invariant.0 c.messages.invariant.1 none
  | else-messages-test w ↦
      let above : c.args.most ≤ c.messages.done = search (rules, tests) in
      let all : c.args.most ≡ c.messages.done = omega (arith, above, c.messages.invariant.1) in
      ap (λ m. written_within m c.args.client (world_of c.args.self.now) None 0 c.args.bytes.now) all
      ∙ enough-done c.args.client (world_of c.args.self.now) c.args.bytes.now (world_of c.messages.self) c.messages.rest.now c.messages.done c.messages.invariant.0
]

pub returns-in-Refused-clause-pixels : goal.returns-in-Refused-clause-pixels
returns-in-Refused-clause-pixels g c = omega (arith, c.in-Refused.ensures.steps, c.messages.invariant.3)

pub returns-in-Short-clause-pixels : goal.returns-in-Short-clause-pixels
returns-in-Short-clause-pixels g c = omega (arith, c.in-Short.ensures.steps, c.messages.invariant.3)
