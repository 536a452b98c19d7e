use Rattle.std.proofs.Common.{◌≡◌, ◌∙◌, true, false, Some, refl, sym, ap}
use Rattle.std.specs.Prelude.{is_none}
use Rattle.model_files.specs.tree.Node.{Node}
use Rattle.model_rio.specs.window.Heard.{wctl_answer}
use Rattle.model_world.specs.Session.{Fid}
use Rattle.model_world.specs.Reading.{given_by}
use Rattle.r9_files.proofs.access.Readings.{wctl_gives, wctl_waits}
use Rattle.r9_files.proofs.access.reading.wctl_now.Goals as goal

pub returns-then-is_told-clause-given : goal.returns-then-is_told-clause-given
returns-then-is_told-clause-given g c = λ session count.
    let fid = c.args.fid.now in
    let text = c.in_ok-text.text in
    let told : is_none (wctl_answer fid.told text) ≡ true = sym (λ j. is_none (wctl_answer (c.told.ensures j) (c.as_slice.ensures j))) ∙ sym c.is_told.ensures ∙ c.if-is_told.true in
    (wctl_waits (g.O.Outside.outside session) (g.O.Outside.state c.args.outside.now) fid count c.node.result.serial text (ap (λ (n : Node). n.serial) c.node.ensures.node) (c.in_ok-text.ensures.text session) told, refl, refl)

pub returns-clause-given : goal.returns-clause-given
returns-clause-given g c = λ session count.
    let fid = c.args.fid.now in
    let text = c.in_ok-text.text in
    let new : is_none (wctl_answer fid.told text) ≡ false = sym (λ j. is_none (wctl_answer (c.told.ensures j) (c.as_slice.ensures j))) ∙ sym c.is_told.ensures ∙ c.if-is_told.false in
    let kept : record fid { told = Some text } ≡ c.tell.new.self = (λ j. record fid { told = Some (sym c.in_ok-try_clone.ensures j) }) ∙ sym c.tell.ensures in
    wctl_gives (g.O.Outside.outside session) (g.O.Outside.state c.args.outside.now) fid count c.node.result.serial text (ap (λ (n : Node). n.serial) c.node.ensures.node) (c.in_ok-text.ensures.text session) new
    ∙ ap (λ (f : Fid). Some (given_by f (g.O.Outside.state c.args.outside.now) text)) kept
