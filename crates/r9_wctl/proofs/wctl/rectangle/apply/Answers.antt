use Rattle.std.proofs.Common.{◌+◌, ◌≤◌, length, arith, ap, sym, subst}
use Rattle.r9_wctl.specs.wctl.Small.{AreOptions}
use Rattle.r9_wctl.specs.wctl.Reach.{IsReached}
use Rattle.r9_wctl.proofs.wctl.Bounds.{reached-far, reached-step}
use Rattle.r9_wctl.proofs.wctl.Steps.{fold_on, small_at, blank}
use Rattle.r9_wctl.proofs.wctl.rectangle.apply.Goals as goal

pub after_choice-r-requires-clause-rect : goal.after_choice-r-requires-clause-rect
after_choice-r-requires-clause-rect c =
    let le : c.loop-choice.choice-index ≤ 1024 = omega (arith, c.as_slice-choice-items.ensures.small.few, ap length c.as_slice-choice-items.ensures.items) in
    reached-far c.args.moves _ _ le c.loop-choice.invariant.reached

pub after_choice-r-requires-clause-small : goal.after_choice-r-requires-clause-small
after_choice-r-requires-clause-small c =
    let are : AreOptions c.as_slice-choice-items.result.now = subst AreOptions (sym c.as_slice-choice-items.ensures.items) c.as_slice-choice-items.ensures.small in
    small_at c.as_slice-choice-items.result.now c.loop-choice.choice-index blank are (omega arith)

pub loop-choice-preserved : goal.loop-choice-preserved
loop-choice-preserved c =
    let are : AreOptions c.as_slice-choice-items.result.now = subst AreOptions (sym c.as_slice-choice-items.ensures.items) c.as_slice-choice-items.ensures.small in
    record {
      so_far = fold_on c.args.moves c.loop-choice.r c.after_choice-r.result _ c.as_slice-choice-items.result.now c.loop-choice.choice-index (omega arith) c.after_choice-r.ensures c.loop-choice.invariant.so_far;
      reached = subst (IsReached c.args.moves (c.loop-choice.choice-index + 1)) (sym c.after_choice-r.ensures) (reached-step c.args.moves c.loop-choice.choice-index c.loop-choice.r _ c.loop-choice.invariant.reached (small_at c.as_slice-choice-items.result.now c.loop-choice.choice-index blank are (omega arith)));
    }

pub is_window-requires : goal.is_window-requires
is_window-requires c =
    let le : c.loop-choice.choice-index ≤ 1024 = omega (arith, c.as_slice-choice-items.ensures.small.few, ap length c.as_slice-choice-items.ensures.items) in
    reached-far c.args.moves _ _ le c.loop-choice.invariant.reached
