use Rattle.std.proofs.Common.{◌≡◌, Option, Some, None, refl, sym, ◌∙◌, ◌++◌, ap, subst, arith}
use Rattle.model_text.specs.text.Number.{AreBytes}
use Rattle.r9_frame.specs.View.{cut_of}
use Rattle.r9_attend.specs.declared.attend.ends.ReadEnd.{ReadEnd}
use Rattle.r9_attend.specs.declared.attend.ends.ReadEnd.TheVariants.{ReadFault}
use Rattle.r9_attend.proofs.attend.TheReader.{reading_first, reading_sent, reading_fed, filled_read, filled_end, bad_read, short_read, sent_read, sent_made, sent_told, sent_end, reads_both}
use Rattle.r9_attend.proofs.attend.reading.read_on.Goals as goal

not_at_end : (found : Option ReadEnd) → found ≡ None → found ≡ Some ReadFault → ⊥
not_at_end found none e = let both : None ≡ Some ReadFault = sym none ∙ e in cc

pub loop-init : goal.loop-init
loop-init g c = record { reading = reading_first g.T.Serves.server g.T.Serves.lawful c.args.room.now.session c.args.pass.now c.new-framer.result (g.S.Source.left c.args.input.now) c.new-framer.ensures; steady = refl }

pub returns-then-not-is_whole-clause-read : goal.returns-then-not-is_whole-clause-read
returns-then-not-is_whole-clause-read g c =
    let r = reading_first g.T.Serves.server g.T.Serves.lawful c.args.room.now.session c.args.pass.now c.new-framer.result (g.S.Source.left c.args.input.now) c.new-framer.ensures in
    (r.bytes, r.reads, tt, short_read g.T.Serves.server g.T.Serves.lawful c.args.room.now.session c.args.pass.now c.args.pass.now c.new-framer.result (g.S.Source.left c.args.input.now) (g.S.Source.left c.args.input.now) r)

pub loop-preserved-in-Ok : goal.loop-preserved-in-Ok
loop-preserved-in-Ok g c = record {
  reading = reading_sent g.T.Serves.server g.T.Serves.lawful c.args.room.now.session c.args.pass.now c.loop.pass c.loop.framer (g.S.Source.left c.args.input.now) (g.S.Source.left c.loop.input) c.loop.invariant.reading
      c.in-Ok-Frame.frame (sym c.in-Ok-Frame.ensures.given ∙ ap cut_of c.in-Ok-Frame.field-0-is) c.send.new.pass c.in-Ok.msize c.in-Ok.ensures.sent c.in-Ok.ensures.goes_on c.next-in-loop.new.self c.set_limit.new.self c.in-Ok-Frame.ensures.left c.set_limit.ensures;
  steady = c.loop.invariant.steady;
}

pub returns-in-Err-send-clause-made : goal.returns-in-Err-send-clause-made
returns-in-Err-send-clause-made g c =
    sent_made g.T.Serves.server g.T.Serves.lawful c.args.room.now.session c.args.pass.now c.loop.pass c.loop.framer (g.S.Source.left c.args.input.now) (g.S.Source.left c.loop.input) c.loop.invariant.reading
    c.in-Ok-Frame.frame (sym c.in-Ok-Frame.ensures.given ∙ ap cut_of c.in-Ok-Frame.field-0-is) c.send.new.pass c.in-Err-send.ensures.goes_on c.in-Err-send.end c.in-Err-send.ensures.sent

pub returns-in-Err-send-clause-told : goal.returns-in-Err-send-clause-told
returns-in-Err-send-clause-told g c =
    sent_told g.T.Serves.server g.T.Serves.lawful c.args.room.now.session c.args.pass.now c.loop.pass c.loop.framer (g.S.Source.left c.args.input.now) (g.S.Source.left c.loop.input) c.loop.invariant.reading
    c.in-Ok-Frame.frame (sym c.in-Ok-Frame.ensures.given ∙ ap cut_of c.in-Ok-Frame.field-0-is) c.send.new.pass c.in-Err-send.ensures.goes_on
    (subst AreBytes c.as_slice.ensures c.are_bytes.ensures) c.requires.begun c.in-Err-send.end c.in-Err-send.ensures.sent

pub returns-in-Err-send-clause-read : goal.returns-in-Err-send-clause-read
returns-in-Err-send-clause-read g c =
    let r = c.loop.invariant.reading in
    let given = sym c.in-Ok-Frame.ensures.given ∙ ap cut_of c.in-Ok-Frame.field-0-is in (
      r.bytes,
      r.reads,
      sent_end g.T.Serves.server g.T.Serves.lawful c.args.room.now.session c.args.pass.now c.loop.pass c.loop.framer (g.S.Source.left c.args.input.now) (g.S.Source.left c.loop.input) r
          c.in-Ok-Frame.frame given c.send.new.pass c.in-Err-send.ensures.goes_on c.in-Err-send.end c.in-Err-send.ensures.sent,
      sent_read g.T.Serves.server g.T.Serves.lawful c.args.room.now.session c.args.pass.now c.loop.pass c.loop.framer (g.S.Source.left c.args.input.now) (g.S.Source.left c.loop.input) r
          c.in-Ok-Frame.frame given c.send.new.pass c.in-Err-send.ensures.goes_on c.in-Err-send.end c.in-Err-send.ensures.sent,
    )

pub returns-in-Ok-BadSize-clause-read : goal.returns-in-Ok-BadSize-clause-read
returns-in-Ok-BadSize-clause-read g c = let r = c.loop.invariant.reading in (
  r.bytes,
  r.reads,
  tt,
  bad_read g.T.Serves.server g.T.Serves.lawful c.args.room.now.session c.args.pass.now c.loop.pass c.loop.framer (g.S.Source.left c.args.input.now) (g.S.Source.left c.loop.input) r
      c.in-Ok-BadSize.size (sym c.in-Ok-BadSize.ensures.given ∙ ap cut_of c.in-Ok-BadSize.field-0-is),
)

pub returns-in-Err-clause-read : goal.returns-in-Err-clause-read
returns-in-Err-clause-read g c = let r = c.loop.invariant.reading in
    (r.bytes, r.reads, tt, short_read g.T.Serves.server g.T.Serves.lawful c.args.room.now.session c.args.pass.now c.loop.pass c.loop.framer (g.S.Source.left c.args.input.now) (g.S.Source.left c.loop.input) r)

pub loop-preserved : goal.loop-preserved
loop-preserved g c =
    let f = c.in-None-fill.ensures.filled in
    record {
      reading = reading_fed g.T.Serves.server g.T.Serves.lawful c.args.room.now.session c.args.pass.now c.loop.pass c.loop.framer (g.S.Source.left c.args.input.now) (g.S.Source.left c.loop.input) c.loop.invariant.reading
          c.next-in-loop.new.self c.fill.new.framer c.in-Ok-NeedMore.ensures.left (sym c.in-Ok-NeedMore.ensures.given ∙ ap cut_of c.in-Ok-NeedMore.field-0-is) f.bytes (g.S.Source.left c.fill.new.input) f.reads f.fed;
      steady = c.fill.ensures.steady (λ e. not_at_end _ c.in-None-fill.is e) ∙ c.loop.invariant.steady;
    }

pub returns-in-Some-fill-clause-read : goal.returns-in-Some-fill-clause-read
returns-in-Some-fill-clause-read g c =
    let r = c.loop.invariant.reading in
    let f = c.in-Some-fill.ensures.filled in (
      r.bytes ++ f.bytes,
      reads_both (g.S.Source.left c.args.input.now) (g.S.Source.left c.loop.input) (g.S.Source.left c.fill.new.input) r.bytes f.bytes r.reads f.reads,
      filled_end g.T.Serves.server g.T.Serves.lawful c.args.room.now.session c.args.pass.now c.loop.pass c.loop.framer (g.S.Source.left c.args.input.now) (g.S.Source.left c.loop.input) r
          c.next-in-loop.new.self c.fill.new.framer c.in-Some-fill.end f.bytes f.fed,
      filled_read g.T.Serves.server g.T.Serves.lawful c.args.room.now.session c.args.pass.now c.loop.pass c.loop.framer (g.S.Source.left c.args.input.now) (g.S.Source.left c.loop.input) r
          c.next-in-loop.new.self c.fill.new.framer c.in-Ok-NeedMore.ensures.left (sym c.in-Ok-NeedMore.ensures.given ∙ ap cut_of c.in-Ok-NeedMore.field-0-is) c.in-Some-fill.end f.bytes f.fed,
    )

pub returns-in-Some-fill-clause-counted : goal.returns-in-Some-fill-clause-counted
returns-in-Some-fill-clause-counted g c = let before = c.loop.invariant.steady in let here = c.fill.ensures.counted in omega arith
