use Rattle.std.proofs.Common.{◌∙◌, ◌==◌, Err, sym, subst}
use Rattle.std.proofs.lemmas.Result.{IfOk-weaker}
use Rattle.model_files.specs.wire.Message.{no_tag}
use Rattle.model_files.specs.wire.Reading.{tag_of}
use Rattle.r9_desktop.specs.World.{desktop_of}
use Rattle.r9_wire.specs.Gives.{GivesMessage}
use Rattle.r9_wire.specs.View.{t_of}
use Rattle.r9_wire.specs.declared.reading.WireFault.{WireFault}
use Rattle.r9_hall.proofs.seen.Looking.{looks, looks_malformed, looks_unread, looks_untagged, not_false, not_true}
use Rattle.r9_hall.proofs.seen.look.look_at_bytes.Goals as goal
use Rattle.r9_hall.proofs.seen.look.look_at_bytes.Goals.{then-not-has_tag-via-then-not-has_tag, then-not-has_tag-via-else-not-has_tag+then-not-reads}

pub returns-then-not-has_tag : goal.returns-then-not-has_tag
returns-then-not-has_tag c =
    let n = c.args.number in
    let desktop = desktop_of c.args.desktop.now in
    c.unused.ensures
    ∙ sym (elim c.then-not-has_tag.branch [
      | then-not-has_tag-via-then-not-has_tag w ↦ looks_untagged n c.args.session.now desktop c.args.bytes.now (not_false (tag_of c.args.bytes.now == no_tag) (sym w.if-not-has_tag.ensures))
      | then-not-has_tag-via-else-not-has_tag+then-not-reads w ↦ looks_unread n c.args.session.now desktop c.args.bytes.now (λ reads agreed. let are = w.reads.ensures.1 (reads, agreed) in let none = w.if-not-reads.true in absurd (cc (are, none)))
    ])

pub returns-in-Ok : goal.returns-in-Ok
returns-in-Ok c =
    let read = c.reads.ensures.0 c.if-not-reads.false in
    IfOk-weaker c.look_at_message.result _ _
    (λ look is.
    is
    ∙ sym (looks c.args.number c.args.session.now (desktop_of c.args.desktop.now) c.args.bytes.now (t_of c.in-Ok.message) read.0 read.1 (not_true (tag_of c.args.bytes.now == no_tag) (sym c.has_tag.ensures ∙ c.if-not-has_tag.false)) c.in-Ok.ensures.exact))
    c.look_at_message.ensures

pub returns-in-Err-Malformed : goal.returns-in-Err-Malformed
returns-in-Err-Malformed c =
    let n = c.args.number in
    let none = subst (λ (fault : WireFault). GivesMessage c.args.bytes.now (Err fault)) c.in-Err-Malformed.field-0-is c.in-Err-Malformed.ensures.exact in
    c.unused-in-Err-Malformed.ensures ∙ sym (looks_malformed n c.args.session.now (desktop_of c.args.desktop.now) c.args.bytes.now none.0)
