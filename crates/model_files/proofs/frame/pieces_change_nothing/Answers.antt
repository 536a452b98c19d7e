use Rattle.model_files.proofs.frame.Laws.{frame_stays, bad_stays, frame_parts, frame_lawful}
use Rattle.model_files.proofs.frame.pieces_change_nothing.Goals as goal

pub returns-clause-frame : goal.returns-clause-frame
returns-clause-frame c = frame_stays

pub returns-clause-bad : goal.returns-clause-bad
returns-clause-bad c = bad_stays

pub returns-clause-parts : goal.returns-clause-parts
returns-clause-parts c = frame_parts

pub returns-clause-lawful : goal.returns-clause-lawful
returns-clause-lawful c = frame_lawful
