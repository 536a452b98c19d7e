use Rattle.std.proofs.Common.{◌∙◌, [], ◌∷◌, if◌then◌else◌, sym, ap}
use Rattle.std.proofs.lemmas.Result.{IfOk-weaker}
use Rattle.r9_event.specs.declared.event.own.Use.TheVariants.{Own}
use Rattle.model_files.specs.declared.tree.Kind.TheVariants.{Ctl}
use Rattle.model_alone.specs.alone.Uses.{file_of_read, tells_size}
use Rattle.model_alone.specs.used.Look.{Uses}
use Rattle.model_world.specs.Reading.{count_within}
use Rattle.model_world.specs.Whole.{client}
use Rattle.r9_desktop.specs.World.{desktop_of}
use Rattle.r9_tree.specs.View.{node_of}
use Rattle.r9_hall.proofs.seen.Looking.{other_contents, read_file, read_none}
use Rattle.r9_hall.proofs.seen.look.look_at_read.Goals as goal

pub returns-in_default : goal.returns-in_default
returns-in_default c =
    let number = c.args.number in
    let desktop = desktop_of c.args.desktop.now in
    c.unused.ensures
    ∙ sym (ap Uses (read_none number desktop c.args.offset (count_within c.args.session.now c.args.count) (file_of_read number c.args.session.now desktop c.args.fid) (c.in_default.ensures.none number)))

pub returns-in-Ctl : goal.returns-in-Ctl
returns-in-Ctl c =
    let number = c.args.number in
    let desktop = desktop_of c.args.desktop.now in
    let reached = file_of_read number c.args.session.now desktop c.args.fid in
    IfOk-weaker c.look_at_shared.result _ _
    (λ look is.
    is
    ∙ (λ i. Uses (if (c.tells_size-tells.ensures ∙ ap (tells_size (client number c.in-Some.node.connection) desktop c.args.offset) c.most_read-most.ensures) i then Own 12 ∷ [] else []))
    ∙ sym (ap Uses (read_file number desktop c.args.offset (count_within c.args.session.now c.args.count) reached c.in-Some.node Ctl (c.in-Some.ensures.file number) c.in-Ctl.ensures)))
    c.look_at_shared.ensures

pub returns-in_default-kind_of : goal.returns-in_default-kind_of
returns-in_default-kind_of c =
    let number = c.args.number in
    let desktop = desktop_of c.args.desktop.now in
    let most = count_within c.args.session.now c.args.count in
    let reached = file_of_read number c.args.session.now desktop c.args.fid in
    c.unused-in_default-kind_of.ensures
    ∙ sym (ap Uses (
    read_file number desktop c.args.offset most reached c.in-Some.node c.kind_of.result (c.in-Some.ensures.file number) c.kind_of.ensures
    ∙ other_contents number desktop (node_of c.in-Some.node) c.args.offset most c.kind_of.result c.in_default-kind_of.not-Ctl))
