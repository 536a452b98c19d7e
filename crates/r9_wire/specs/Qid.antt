-- A qid of the code as one of the definitions.
use Rattle.r9_wire.specs.declared.message.Qid.{Qid}
use Rattle.model_files.specs.wire.Message as model

abbrev pub qid_of : Qid → model.Qid
qid_of qid = record { kind = qid.kind; vers = qid.vers; path = qid.path }
