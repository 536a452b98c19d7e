use Rattle.std.proofs.Common.{◌≡◌, ◌≢◌, ◌∙◌, ◌<◌, ◌≤◌, ℕ, List, length, take, ap, subst, arith}
use Rattle.std.specs.Prelude.{All}
use Rattle.std.proofs.lemmas.List.Elements.{All-more}
use Rattle.model_forest.specs.declared.Window.{Window}
use Rattle.model_forest.specs.Stack.{without}
use Rattle.model_forest.specs.World.{no_rect}
use Rattle.r9_locate.proofs.locate.Rowed.{get_or_any}
use Rattle.r9_restack.specs.Stacks.{IsFront}
use Rattle.r9_restack.proofs.Stacked.{front_same}
use Rattle.r9_restack.proofs.stacks.count_front.Goals as goal

none : Window
none = record { image = 0; place = no_rect }

-- both lists begin alike where neither has image w
alike : (old new : List Window) (w n : ℕ) → n ≤ length old → n ≤ length new → without w new ≡ without w old → All (λ v. v.image ≢ w) (take n old) → All (λ v. v.image ≢ w) (take n new) → IsFront old new w n
alike old new w n in_old in_new same before after = record { old = in_old; new = in_new; same = front_same n old new w in_old in_new same before after; apart = after }

pub loop-count-init : goal.loop-count-init
loop-count-init c = record { before = λ k d below. absurd (omega (arith, below)); after = λ k d below. absurd (omega (arith, below)) }

pub loop-count-preserved : goal.loop-count-preserved
loop-count-preserved c =
    let old = c.args.old.now in
    let new = c.args.new.now in
    let count = c.loop-count.count in
    let in_old : count < length old = omega (arith, c.loop-count-test.true, c.min-most.ensures) in
    let in_new : count < length new = omega (arith, c.loop-count-test.true, c.min-most.ensures) in
    record {
      before = All-more (λ (v : Window). v.image ≢ c.args.w) old count none in_old c.loop-count.invariant.before (λ is. c.if-old-count.false (ap (λ (v : Window). v.image) (get_or_any old count _ none in_old) ∙ is));
      after = All-more (λ (v : Window). v.image ≢ c.args.w) new count none in_new c.loop-count.invariant.after (λ is. c.if-new-count.false (ap (λ (v : Window). v.image) (get_or_any new count _ none in_new) ∙ is));
    }

pub returns-then-old-count : goal.returns-then-old-count
returns-then-old-count c = alike c.args.old.now c.args.new.now c.args.w c.loop-count.count (omega (arith, c.loop-count-test.true, c.min-most.ensures)) (omega (arith, c.loop-count-test.true, c.min-most.ensures)) c.requires c.loop-count.invariant.before c.loop-count.invariant.after

pub returns : goal.returns
returns c =
    let end : c.loop-count.count ≡ c.min-most.result = omega (arith, c.loop-count-test.false, c.loop-count.auto.count-end) in
    alike c.args.old.now c.args.new.now c.args.w c.min-most.result (omega (arith, c.min-most.ensures)) (omega (arith, c.min-most.ensures)) c.requires
    (subst (λ (n : ℕ). All (λ (v : Window). v.image ≢ c.args.w) (take n c.args.old.now)) end c.loop-count.invariant.before)
    (subst (λ (n : ℕ). All (λ (v : Window). v.image ≢ c.args.w) (take n c.args.new.now)) end c.loop-count.invariant.after)
