use Rattle.std.proofs.Common.{◌≡◌, drop}
use Rattle.std.specs.List.{fold}
use Rattle.model_files.specs.wctl.Rectangle.{after_choice}
use Rattle.r9_wctl.specs.wctl.Reach.{IsReached}
use Rattle.r9_wctl.proofs.wctl.rectangle.apply.Given as goal

abbrev pub invariant-loop-choice : goal.invariant-loop-choice
invariant-loop-choice l = record {
  so_far : fold (after_choice l.moves) l.r (drop l.choice-index l.choice-items) ≡ fold (after_choice l.moves) l.fn.start l.choice-items;
  reached : IsReached l.moves l.choice-index l.r;
}
