use Rattle.model_world.proofs.Sleeping.{answer_leaves, cleared_leaves, one_quiet}
use Rattle.model_world.proofs.windows_that_are_told_nothing_sleep_on.Goals as goal

pub returns : goal.returns
returns c = record {
  message = λ c session desktop bytes mark window none other. (answer_leaves c session desktop bytes mark window other none).1;
  end = λ c session desktop window none. (cleared_leaves c session desktop window none).1;
  late = λ c session desktop after window is. (one_quiet c session desktop after is).1 window;
  quiet = λ c session desktop after is. (one_quiet c session desktop after is).0;
}
