use Rattle.law_text.proofs.typed.Shown.{text_is_shown}
use Rattle.law_text.proofs.typed.text_histories_show_texts.Goals as goal

pub returns : goal.returns
returns c = text_is_shown
