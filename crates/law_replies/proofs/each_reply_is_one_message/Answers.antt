use Rattle.law_replies.proofs.Histories.{history_answers}
use Rattle.law_replies.proofs.each_reply_is_one_message.Goals as goal

pub returns : goal.returns
returns c = history_answers
