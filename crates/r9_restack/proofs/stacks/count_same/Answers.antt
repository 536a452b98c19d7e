use Rattle.std.proofs.Common.{◌≡◌, ◌≢◌, ◌∙◌, ◌<◌, ℕ, length, take, refl, subst, ap, arith}
use Rattle.std.specs.Prelude.{All}
use Rattle.std.proofs.lemmas.List.{take_more_same}
use Rattle.std.proofs.lemmas.List.Elements.{All-more}
use Rattle.model_forest.specs.declared.Window.{Window}
use Rattle.model_forest.specs.World.{no_rect}
use Rattle.r9_locate.proofs.locate.Rowed.{get_or_any}
use Rattle.r9_restack.proofs.stacks.count_same.Goals as goal

pub loop-count-init : goal.loop-count-init
loop-count-init c = record { same = refl; apart = λ k d below. absurd (omega (arith, below)) }

pub loop-count-preserved : goal.loop-count-preserved
loop-count-preserved c =
    let old = c.args.old.now in
    let new = c.args.new.now in
    let count = c.loop-count.count in
    let d : Window = record { image = 0; place = no_rect } in
    let in_old : count < length old = omega (arith, c.loop-count-test.true, c.min-most.ensures) in
    let in_new : count < length new = omega (arith, c.loop-count-test.true, c.min-most.ensures) in
    record {
      same = take_more_same old new count d in_old in_new c.loop-count.invariant.same
          (get_or_any old count d _ in_old ∙ c.goes_on.ensures.same c.if-not-goes_on.false ∙ get_or_any new count _ d in_new);
      apart = All-more (λ (v : Window). v.image ≢ c.args.w) new count d in_new c.loop-count.invariant.apart
          (λ is. c.goes_on.ensures.apart c.if-not-goes_on.false (ap (λ (v : Window). v.image) (get_or_any new count _ d in_new) ∙ is));
    }

-- where one differs
pub returns-then-not-goes_on : goal.returns-then-not-goes_on
returns-then-not-goes_on c = record {
  old = omega (arith, c.loop-count-test.true, c.min-most.ensures);
  new = omega (arith, c.loop-count-test.true, c.min-most.ensures);
  same = c.loop-count.invariant.same;
  apart = c.loop-count.invariant.apart;
}

pub returns : goal.returns
returns c =
    let end : c.loop-count.count ≡ c.min-most.result = omega (arith, c.loop-count-test.false, c.loop-count.auto.count-end) in
    record {
      old = omega (arith, c.min-most.ensures);
      new = omega (arith, c.min-most.ensures);
      same = subst (λ (n : ℕ). take n c.args.old.now ≡ take n c.args.new.now) end c.loop-count.invariant.same;
      apart = subst (λ (n : ℕ). All (λ (v : Window). v.image ≢ c.args.w) (take n c.args.new.now)) end c.loop-count.invariant.apart;
    }
