use Rattle.model_files.specs.wctl.Words.{signed}
use Rattle.r9_wctl.proofs.wctl.Four.{not_four}
use Rattle.r9_wctl.proofs.wctl.setting.rectangle.Goals as goal

pub returns-then-words-ne4-clause-value : goal.returns-then-words-ne4-clause-value
returns-then-words-ne4-clause-value c = not_four (λ word. signed word.now) c.args.words.now (λ e. c.if-words-ne4.true e)
