use Rattle.std.proofs.Common.{◌∙◌, sym}
use Rattle.r9_used.proofs.used.First.{no_word, word_found}
use Rattle.r9_used.proofs.used.texts.word_of.Goals as goal

pub returns-in-None : goal.returns-in-None
returns-in-None c = sym (no_word c.args.line.now (sym c.next_word.ensures.word ∙ c.in-None.is))

pub returns-in-Some : goal.returns-in-Some
returns-in-Some c = sym (word_found c.args.line.now c.in-Some.word.0 c.in-Some.word.1 (sym c.next_word.ensures.word ∙ c.in-Some.is))
