use Rattle.model_files.proofs.frame.StreamLaws.{read_messages, same_run, all_bytes, ends, messages_begin}
use Rattle.model_files.proofs.frame.stream_in_pieces_is_cut_whole.Goals as goal

pub returns-clause-messages : goal.returns-clause-messages
returns-clause-messages c = read_messages

pub returns-clause-end : goal.returns-clause-end
returns-clause-end c = same_run

pub returns-clause-bytes : goal.returns-clause-bytes
returns-clause-bytes c = all_bytes

pub returns-clause-first : goal.returns-clause-first
returns-clause-first c = messages_begin

pub returns-clause-none_left : goal.returns-clause-none_left
returns-clause-none_left c = λ limits pieces. (ends limits pieces).none

pub returns-clause-next : goal.returns-clause-next
returns-clause-next c = λ limits pieces. (ends limits pieces).told
