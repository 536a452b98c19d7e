use Rattle.model_files.proofs.console.Keeping.{kept, same_text, same_read}
use Rattle.model_files.proofs.console.end_of_text_is_enough.Goals as goal

pub returns-clause-kept : goal.returns-clause-kept
returns-clause-kept c = kept

pub returns-clause-text : goal.returns-clause-text
returns-clause-text c = same_text

pub returns-clause-read : goal.returns-clause-read
returns-clause-read c = same_read
