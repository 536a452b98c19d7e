use Rattle.std.proofs.Common.{◌∙◌, sym, ap}
use Rattle.model_history.specs.words.Values.{sides_of}
use Rattle.r9_files.proofs.access.Done.{size_done}
use Rattle.r9_files.proofs.access.writing.write_size.Goals as goal

pub returns-in-Some : goal.returns-in-Some
returns-in-Some g c =
    size_done g.O.Outside.outside c.args.bytes.now c.in-Some.size c.resize.result (g.O.Outside.state c.args.outside.now) (g.O.Outside.state c.resize.new.self)
    (sym (c.sides_of.ensures ∙ ap sides_of c.line_of.ensures) ∙ c.in-Some.is) c.resize.ensures.done c.resize.ensures.refused c.resize.ensures.kept
