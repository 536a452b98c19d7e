-- Attach names as read by the code, as those of the definition.
use Rattle.model_files.specs.tree.Attach as model
use Rattle.r9_tree.specs.declared.attach.Attach.{Attach}
use Rattle.r9_tree.specs.declared.attach.Attach.TheVariants as code

abbrev pub attach_of_code : Attach → model.Attach
attach_of_code code.Device = model.Whole
attach_of_code (code.Existing path) = model.Existing path
attach_of_code (code.New path command) = model.Fresh path command
attach_of_code code.Unknown = model.Unknown
