use Rattle.std.proofs.Common.{ap, ◌∙◌, eqb}
use Rattle.model_files.specs.wire.Message.{Qid}
use Rattle.r9_files.proofs.files.Numbered.{qid_tells}
use Rattle.r9_files.proofs.files.kinds.is_directory.Goals as goal

pub returns : goal.returns
returns c = ap (λ (q : Qid). eqb q.kind 0x80) c.qid.ensures ∙ qid_tells _
