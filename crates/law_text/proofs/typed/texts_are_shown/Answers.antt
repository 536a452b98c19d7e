use Rattle.law_text.proofs.typed.Texts.{page_viewed, text_legal, text_shown}
use Rattle.law_text.proofs.typed.texts_are_shown.Goals as goal

pub returns-clause-shown : goal.returns-clause-shown
returns-clause-shown c = text_shown

pub returns-clause-viewed : goal.returns-clause-viewed
returns-clause-viewed c = page_viewed

pub returns-clause-legal : goal.returns-clause-legal
returns-clause-legal c = text_legal
