use Rattle.model_files.proofs.frame.StreamLaws.{steps_front, steps_bytes, steps_tell, any_order, all_taken_is}
use Rattle.model_files.proofs.frame.messages_may_be_taken_at_any_time.Goals as goal

pub returns-clause-front : goal.returns-clause-front
returns-clause-front c = steps_front

pub returns-clause-bytes : goal.returns-clause-bytes
returns-clause-bytes c = steps_bytes

pub returns-clause-end : goal.returns-clause-end
returns-clause-end c = any_order

pub returns-clause-all : goal.returns-clause-all
returns-clause-all c = all_taken_is

pub returns-clause-next : goal.returns-clause-next
returns-clause-next c = steps_tell
