use Rattle.std.proofs.Common.{◌∙◌, ap, sym, map-id, map}
use Rattle.std.specs.List.{fold}
use Rattle.std.specs.Char.{encode_utf8}
use Rattle.std.proofs.lemmas.Iterator.{YieldsList-from_chars}
use Rattle.std.proofs.lemmas.Iterator.Consumers.{YieldsList-end}
use Rattle.model_rio.specs.rio.Step.{noted}
use Rattle.r9_event.specs.declared.event.rio.Note.TheVariants as note
use Rattle.r9_wmgr.proofs.wmgr.Loops.{fold_pushed}
use Rattle.r9_wmgr.proofs.wmgr.draft.Draft.type_in.Goals as goal

pub loop-c-preserved : goal.loop-c-preserved
loop-c-preserved c =
    c.in_ok-type_one.ensures ∙ ap (noted c.args.serial (note.Key (encode_utf8 c.in-Some.c))) c.loop-c.invariant
    ∙ sym (fold_pushed (λ step key. noted c.args.serial (note.Key key) step) encode_utf8 c.args.self.now c.loop-c.yielded c.in-Some.c)

pub returns : goal.returns
returns c =
    let done = YieldsList-end (YieldsList-from_chars c.args.text.now c.utf8.text cc) c.loop-c.yielded _ c.loop-c.yielded_by _ _ c.in-None.is c.next.ensures.steps in
    c.loop-c.invariant ∙ ap (λ cs. fold (λ step key. noted c.args.serial (note.Key key) step) c.args.self.now (map encode_utf8 cs)) (sym (map-id c.loop-c.yielded) ∙ done.0)
