use Rattle.std.proofs.Common.{◌∙◌, [], ◌∷◌, if◌then◌else◌, sym, ap}
use Rattle.std.proofs.lemmas.Result.{IfOk-weaker}
use Rattle.r9_event.specs.declared.event.own.Use.TheVariants.{Own}
use Rattle.model_files.specs.declared.tree.Kind.TheVariants.{Ctl, Data, Wctl}
use Rattle.model_alone.specs.alone.Uses.{asks_for_windows, chooses_display, reached_file}
use Rattle.model_alone.specs.used.Look.{Uses}
use Rattle.r9_desktop.specs.World.{desktop_of}
use Rattle.r9_tree.specs.View.{node_of}
use Rattle.r9_hall.proofs.seen.Looking.{other_file, written_file, written_none}
use Rattle.r9_hall.proofs.seen.look.look_at_write.Goals as goal

pub returns-in_default : goal.returns-in_default
returns-in_default c = λ n. c.unused.ensures ∙ sym (written_none c.args.bytes (reached_file n c.args.session.now (desktop_of c.args.desktop.now) c.args.fid) (c.in_default.ensures.none n))

pub returns-in-Data : goal.returns-in-Data
returns-in-Data c = λ n. sym (written_file c.args.bytes (reached_file n c.args.session.now (desktop_of c.args.desktop.now) c.args.fid) c.in-Some.node Data (c.in-Some.ensures.file n) c.in-Data.ensures)

pub returns-in-Ctl : goal.returns-in-Ctl
returns-in-Ctl c =
    IfOk-weaker c.look_at_shared.result _ _
    (λ look is. λ n.
    is
    ∙ (λ i. Uses (if (c.chooses_display.ensures ∙ ap chooses_display c.as_slice.ensures) i then Own 7 ∷ [] else []))
    ∙ sym (written_file c.args.bytes (reached_file n c.args.session.now (desktop_of c.args.desktop.now) c.args.fid) c.in-Some.node Ctl (c.in-Some.ensures.file n) c.in-Ctl.ensures))
    c.look_at_shared.ensures

pub returns-in-Wctl : goal.returns-in-Wctl
returns-in-Wctl c =
    IfOk-weaker c.look_at_shared-in-Wctl.result _ _
    (λ look is. λ n.
    is
    ∙ (λ i. Uses (if (c.asks_for_windows.ensures ∙ ap asks_for_windows c.as_slice-in-Wctl.ensures) i then Own 9 ∷ [] else []))
    ∙ sym (written_file c.args.bytes (reached_file n c.args.session.now (desktop_of c.args.desktop.now) c.args.fid) c.in-Some.node Wctl (c.in-Some.ensures.file n) c.in-Wctl.ensures))
    c.look_at_shared-in-Wctl.ensures

pub returns-in_default-kind_of : goal.returns-in_default-kind_of
returns-in_default-kind_of c = λ n.
    c.unused-in_default-kind_of.ensures
    ∙ sym (
    written_file c.args.bytes (reached_file n c.args.session.now (desktop_of c.args.desktop.now) c.args.fid) c.in-Some.node c.kind_of.result (c.in-Some.ensures.file n) c.kind_of.ensures
    ∙ other_file c.args.bytes (node_of c.in-Some.node) c.kind_of.result c.in_default-kind_of.not-Ctl c.in_default-kind_of.not-Data c.in_default-kind_of.not-Wctl)
