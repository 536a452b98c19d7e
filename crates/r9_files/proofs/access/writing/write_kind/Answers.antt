use Rattle.std.proofs.Common.{◌≡◌, ◌∙◌, Ok, refl, sym, ap, subst}
use Rattle.model_files.specs.declared.tree.Kind.{Kind}
use Rattle.model_files.specs.declared.tree.Kind.TheVariants as kinds
use Rattle.model_files.specs.declared.tree.Kind.TheVariants.{Data}
use Rattle.model_files.specs.tree.Tree.{is_of_connection}
use Rattle.model_rio.specs.window.Heard.{Labelled, Written}
use Rattle.model_world.specs.Writing.{file_written}
use Rattle.r9_tree.specs.View.{node_of}
use Rattle.r9_files.specs.declared.around.wrote.Wrote.{Wrote}
use Rattle.r9_files.specs.around.Words.{AreTold, mark_after}
use Rattle.r9_files.specs.access.Writes.{IsWritten, keys_left, mouse_left, raw_left, size_left, snarf_left}
use Rattle.r9_files.proofs.access.Done.{done_of, done_if, other_told, whole_written, of_ctl, of_data}
use Rattle.r9_files.proofs.access.writing.write_kind.Goals as goal

pub write_ctl-requires : goal.write_ctl-requires
write_ctl-requires g c = c.requires.client (ap is_of_connection (c.requires.kind ∙ c.in-Ctl.is) ∙ of_ctl)

pub write_data-requires-clause-live : goal.write_data-requires-clause-live
write_data-requires-clause-live g c = c.requires.client (ap is_of_connection (c.requires.kind ∙ c.in-Data.is) ∙ of_data)

pub returns-in-Ctl-clause-written : goal.returns-in-Ctl-clause-written
returns-in-Ctl-clause-written g c =
    let before = g.O.Outside.state c.args.outside.now in
    let after = g.O.Outside.state c.write_ctl.new.self in
    subst (λ (k : Kind). IsWritten c.args.mark before c.whole.result after (λ m. file_written (g.O.Outside.outside c.args.session) before (node_of c.args.node.now) c.args.offset c.args.bytes.now m k)) (sym c.in-Ctl.is)
    (whole_written c.args.mark c.write_ctl.result c.whole.result before after ((g.O.Outside.outside c.args.session).write_ctl before c.args.node.now.connection c.args.bytes.now) c.whole.ensures.written
    (done_if c.write_ctl.result before after ((g.O.Outside.outside c.args.session).write_ctl before c.args.node.now.connection c.args.bytes.now) c.write_ctl.ensures.chosen c.write_ctl.ensures.refused c.write_ctl.ensures.kept))

pub returns-in-Mousein-clause-written : goal.returns-in-Mousein-clause-written
returns-in-Mousein-clause-written g c =
    let before = g.O.Outside.state c.args.outside.now in
    let after = g.O.Outside.state c.write_mouse.new.outside in
    subst (λ (k : Kind). IsWritten c.args.mark before c.whole-in-Mousein.result after (λ m. file_written (g.O.Outside.outside c.args.session) before (node_of c.args.node.now) c.args.offset c.args.bytes.now m k)) (sym c.in-Mousein.is)
    (whole_written c.args.mark c.write_mouse.result c.whole-in-Mousein.result before after (mouse_left (g.O.Outside.outside c.args.session) before c.args.bytes.now) c.whole-in-Mousein.ensures.written
    (c.write_mouse.ensures c.args.session))

pub returns-in-Kbdin-clause-written : goal.returns-in-Kbdin-clause-written
returns-in-Kbdin-clause-written g c =
    let before = g.O.Outside.state c.args.outside.now in
    let after = g.O.Outside.state c.write_keys.new.outside in
    subst (λ (k : Kind). IsWritten c.args.mark before c.whole-in-Kbdin.result after (λ m. file_written (g.O.Outside.outside c.args.session) before (node_of c.args.node.now) c.args.offset c.args.bytes.now m k)) (sym c.in-Kbdin.is)
    (whole_written c.args.mark c.write_keys.result c.whole-in-Kbdin.result before after (keys_left (g.O.Outside.outside c.args.session) before c.args.bytes.now) c.whole-in-Kbdin.ensures.written
    (c.write_keys.ensures c.args.session))

pub returns-in-Hwsize-clause-written : goal.returns-in-Hwsize-clause-written
returns-in-Hwsize-clause-written g c =
    let before = g.O.Outside.state c.args.outside.now in
    let after = g.O.Outside.state c.write_size.new.outside in
    subst (λ (k : Kind). IsWritten c.args.mark before c.whole-in-Hwsize.result after (λ m. file_written (g.O.Outside.outside c.args.session) before (node_of c.args.node.now) c.args.offset c.args.bytes.now m k)) (sym c.in-Hwsize.is)
    (whole_written c.args.mark c.write_size.result c.whole-in-Hwsize.result before after (size_left (g.O.Outside.outside c.args.session) before c.args.bytes.now) c.whole-in-Hwsize.ensures.written
    (c.write_size.ensures c.args.session))

pub returns-in-Snarf-clause-written : goal.returns-in-Snarf-clause-written
returns-in-Snarf-clause-written g c =
    let before = g.O.Outside.state c.args.outside.now in
    let after = g.O.Outside.state c.write_snarf.new.outside in
    subst (λ (k : Kind). IsWritten c.args.mark before c.whole-in-Snarf.result after (λ m. file_written (g.O.Outside.outside c.args.session) before (node_of c.args.node.now) c.args.offset c.args.bytes.now m k)) (sym c.in-Snarf.is)
    (whole_written c.args.mark c.write_snarf.result c.whole-in-Snarf.result before after (snarf_left (g.O.Outside.outside c.args.session) before c.args.node.now.serial c.args.offset c.args.bytes.now) c.whole-in-Snarf.ensures.written
    (c.write_snarf.ensures c.args.session))

pub returns-in-DeviceWctl-clause-written : goal.returns-in-DeviceWctl-clause-written
returns-in-DeviceWctl-clause-written g c =
    let before = g.O.Outside.state c.args.outside.now in
    let after = g.O.Outside.state c.device_command.new.self in
    subst (λ (k : Kind). IsWritten c.args.mark before c.whole-in-DeviceWctl.result after (λ m. file_written (g.O.Outside.outside c.args.session) before (node_of c.args.node.now) c.args.offset c.args.bytes.now m k)) (sym c.in-DeviceWctl.is)
    (whole_written c.args.mark c.device_command.result c.whole-in-DeviceWctl.result before after ((g.O.Outside.outside c.args.session).device_command before c.args.bytes.now) c.whole-in-DeviceWctl.ensures.written
    (done_of c.device_command.result before after (λ session. (g.O.Outside.outside session).device_command before c.args.bytes.now) c.args.session c.device_command.ensures.done c.device_command.ensures.refused c.device_command.ensures.kept))

pub returns-in_ok-write_text-in-Cons-clause-written : goal.returns-in_ok-write_text-in-Cons-clause-written
returns-in_ok-write_text-in-Cons-clause-written g c =
    let before = g.O.Outside.state c.args.outside.now in
    let after = g.O.Outside.state c.write_text.new.self in
    subst (λ (k : Kind). IsWritten c.args.mark before c.whole-in-Cons.result after (λ m. file_written (g.O.Outside.outside c.args.session) before (node_of c.args.node.now) c.args.offset c.args.bytes.now m k)) (sym c.in-Cons.is)
    (whole_written c.args.mark (Ok tt) c.whole-in-Cons.result before after (Ok ((g.O.Outside.outside c.args.session).hear before c.args.node.now.serial (Written c.args.bytes.now))) c.whole-in-Cons.ensures.written
    (ap (λ (rest : g.O.Outside.State). Ok rest) (sym (c.in_ok-write_text-in-Cons.ensures.written c.args.session))))

pub returns-in-Consctl-clause-written : goal.returns-in-Consctl-clause-written
returns-in-Consctl-clause-written g c =
    let before = g.O.Outside.state c.args.outside.now in
    let after = g.O.Outside.state c.write_consctl.new.outside in
    subst (λ (k : Kind). IsWritten c.args.mark before c.whole-in-Consctl.result after (λ m. file_written (g.O.Outside.outside c.args.session) before (node_of c.args.node.now) c.args.offset c.args.bytes.now m k)) (sym c.in-Consctl.is)
    (whole_written c.args.mark c.write_consctl.result c.whole-in-Consctl.result before after (raw_left (g.O.Outside.outside c.args.session) before c.args.node.now.serial c.args.bytes.now) c.whole-in-Consctl.ensures.written
    (c.write_consctl.ensures c.args.session))

pub returns-in_ok-set_label-in-Label-clause-written : goal.returns-in_ok-set_label-in-Label-clause-written
returns-in_ok-set_label-in-Label-clause-written g c =
    let before = g.O.Outside.state c.args.outside.now in
    let after = g.O.Outside.state c.set_label.new.self in
    subst (λ (k : Kind). IsWritten c.args.mark before c.whole-in-Label.result after (λ m. file_written (g.O.Outside.outside c.args.session) before (node_of c.args.node.now) c.args.offset c.args.bytes.now m k)) (sym c.in-Label.is)
    (whole_written c.args.mark (Ok tt) c.whole-in-Label.result before after (Ok ((g.O.Outside.outside c.args.session).hear before c.args.node.now.serial (Labelled c.args.bytes.now))) c.whole-in-Label.ensures.written
    (ap (λ (rest : g.O.Outside.State). Ok rest) (sym (c.in_ok-set_label-in-Label.ensures.labelled c.args.session))))

pub returns-in-Wctl-clause-written : goal.returns-in-Wctl-clause-written
returns-in-Wctl-clause-written g c =
    let before = g.O.Outside.state c.args.outside.now in
    let after = g.O.Outside.state c.command.new.self in
    subst (λ (k : Kind). IsWritten c.args.mark before c.whole-in-Wctl.result after (λ m. file_written (g.O.Outside.outside c.args.session) before (node_of c.args.node.now) c.args.offset c.args.bytes.now m k)) (sym c.in-Wctl.is)
    (whole_written c.args.mark c.command.result c.whole-in-Wctl.result before after ((g.O.Outside.outside c.args.session).command before c.args.node.now.serial c.args.bytes.now) c.whole-in-Wctl.ensures.written
    (done_of c.command.result before after (λ session. (g.O.Outside.outside session).command before c.args.node.now.serial c.args.bytes.now) c.args.session c.command.ensures.done c.command.ensures.refused c.command.ensures.kept))

pub returns-in-Mouse-clause-written : goal.returns-in-Mouse-clause-written
returns-in-Mouse-clause-written g c =
    let before = g.O.Outside.state c.args.outside.now in
    subst (λ (k : Kind). IsWritten c.args.mark before c.whole-in-Mouse.result before (λ m. file_written (g.O.Outside.outside c.args.session) before (node_of c.args.node.now) c.args.offset c.args.bytes.now m k)) (sym c.in-Mouse.is)
    (whole_written c.args.mark (Ok tt) c.whole-in-Mouse.result before before (Ok before) c.whole-in-Mouse.ensures.written
    (refl))

pub returns-in-Ctl-clause-told : goal.returns-in-Ctl-clause-told
returns-in-Ctl-clause-told g c =
    let told : Wrote → Type 0 = λ w. AreTold w.told (g.O.Outside.tells c.args.session c.args.node.now.connection (g.O.Outside.state c.args.outside.now) c.args.bytes.now (mark_after c.args.mark w.short)) in
    other_told told c.whole.result c.args.kind (λ same. let both : kinds.Ctl ≡ Data = sym c.in-Ctl.is ∙ same in absurd cc)

pub returns-in-Mousein-clause-told : goal.returns-in-Mousein-clause-told
returns-in-Mousein-clause-told g c =
    let told : Wrote → Type 0 = λ w. AreTold w.told (g.O.Outside.tells c.args.session c.args.node.now.connection (g.O.Outside.state c.args.outside.now) c.args.bytes.now (mark_after c.args.mark w.short)) in
    other_told told c.whole-in-Mousein.result c.args.kind (λ same. let both : kinds.Mousein ≡ Data = sym c.in-Mousein.is ∙ same in absurd cc)

pub returns-in-Kbdin-clause-told : goal.returns-in-Kbdin-clause-told
returns-in-Kbdin-clause-told g c =
    let told : Wrote → Type 0 = λ w. AreTold w.told (g.O.Outside.tells c.args.session c.args.node.now.connection (g.O.Outside.state c.args.outside.now) c.args.bytes.now (mark_after c.args.mark w.short)) in
    other_told told c.whole-in-Kbdin.result c.args.kind (λ same. let both : kinds.Kbdin ≡ Data = sym c.in-Kbdin.is ∙ same in absurd cc)

pub returns-in-Hwsize-clause-told : goal.returns-in-Hwsize-clause-told
returns-in-Hwsize-clause-told g c =
    let told : Wrote → Type 0 = λ w. AreTold w.told (g.O.Outside.tells c.args.session c.args.node.now.connection (g.O.Outside.state c.args.outside.now) c.args.bytes.now (mark_after c.args.mark w.short)) in
    other_told told c.whole-in-Hwsize.result c.args.kind (λ same. let both : kinds.Hwsize ≡ Data = sym c.in-Hwsize.is ∙ same in absurd cc)

pub returns-in-Snarf-clause-told : goal.returns-in-Snarf-clause-told
returns-in-Snarf-clause-told g c =
    let told : Wrote → Type 0 = λ w. AreTold w.told (g.O.Outside.tells c.args.session c.args.node.now.connection (g.O.Outside.state c.args.outside.now) c.args.bytes.now (mark_after c.args.mark w.short)) in
    other_told told c.whole-in-Snarf.result c.args.kind (λ same. let both : kinds.Snarf ≡ Data = sym c.in-Snarf.is ∙ same in absurd cc)

pub returns-in-DeviceWctl-clause-told : goal.returns-in-DeviceWctl-clause-told
returns-in-DeviceWctl-clause-told g c =
    let told : Wrote → Type 0 = λ w. AreTold w.told (g.O.Outside.tells c.args.session c.args.node.now.connection (g.O.Outside.state c.args.outside.now) c.args.bytes.now (mark_after c.args.mark w.short)) in
    other_told told c.whole-in-DeviceWctl.result c.args.kind (λ same. let both : kinds.DeviceWctl ≡ Data = sym c.in-DeviceWctl.is ∙ same in absurd cc)

pub returns-in_ok-write_text-in-Cons-clause-told : goal.returns-in_ok-write_text-in-Cons-clause-told
returns-in_ok-write_text-in-Cons-clause-told g c =
    let told : Wrote → Type 0 = λ w. AreTold w.told (g.O.Outside.tells c.args.session c.args.node.now.connection (g.O.Outside.state c.args.outside.now) c.args.bytes.now (mark_after c.args.mark w.short)) in
    other_told told c.whole-in-Cons.result c.args.kind (λ same. let both : kinds.Cons ≡ Data = sym c.in-Cons.is ∙ same in absurd cc)

pub returns-in-Consctl-clause-told : goal.returns-in-Consctl-clause-told
returns-in-Consctl-clause-told g c =
    let told : Wrote → Type 0 = λ w. AreTold w.told (g.O.Outside.tells c.args.session c.args.node.now.connection (g.O.Outside.state c.args.outside.now) c.args.bytes.now (mark_after c.args.mark w.short)) in
    other_told told c.whole-in-Consctl.result c.args.kind (λ same. let both : kinds.Consctl ≡ Data = sym c.in-Consctl.is ∙ same in absurd cc)

pub returns-in_ok-set_label-in-Label-clause-told : goal.returns-in_ok-set_label-in-Label-clause-told
returns-in_ok-set_label-in-Label-clause-told g c =
    let told : Wrote → Type 0 = λ w. AreTold w.told (g.O.Outside.tells c.args.session c.args.node.now.connection (g.O.Outside.state c.args.outside.now) c.args.bytes.now (mark_after c.args.mark w.short)) in
    other_told told c.whole-in-Label.result c.args.kind (λ same. let both : kinds.Label ≡ Data = sym c.in-Label.is ∙ same in absurd cc)

pub returns-in-Wctl-clause-told : goal.returns-in-Wctl-clause-told
returns-in-Wctl-clause-told g c =
    let told : Wrote → Type 0 = λ w. AreTold w.told (g.O.Outside.tells c.args.session c.args.node.now.connection (g.O.Outside.state c.args.outside.now) c.args.bytes.now (mark_after c.args.mark w.short)) in
    other_told told c.whole-in-Wctl.result c.args.kind (λ same. let both : kinds.Wctl ≡ Data = sym c.in-Wctl.is ∙ same in absurd cc)

pub returns-in-Mouse-clause-told : goal.returns-in-Mouse-clause-told
returns-in-Mouse-clause-told g c =
    let told : Wrote → Type 0 = λ w. AreTold w.told (g.O.Outside.tells c.args.session c.args.node.now.connection (g.O.Outside.state c.args.outside.now) c.args.bytes.now (mark_after c.args.mark w.short)) in
    other_told told c.whole-in-Mouse.result c.args.kind (λ same. let both : kinds.Mouse ≡ Data = sym c.in-Mouse.is ∙ same in absurd cc)
