use Rattle.law_replies.proofs.Histories.{history_owed}
use Rattle.law_replies.proofs.each_reply_has_a_message_of_its_own.Goals as goal

pub returns : goal.returns
returns c = history_owed
