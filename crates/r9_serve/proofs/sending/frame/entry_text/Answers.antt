use Rattle.std.proofs.Common.{◌≡◌, ◌∙◌, ◌<◌, List, length, subst, sym, arith}
use Rattle.std.proofs.lemmas.Bool.{eqb-false, eqb-true}
use Rattle.std.proofs.lemmas.Result.{IfOk-weaker}
use Rattle.model_mirror.specs.Sent.{sent_after}
use Rattle.model_mirror.specs.Shown.{mirrored}
use Rattle.r9_hall.specs.hall.WorldView.{display_in, world_in}
use Rattle.r9_serve.specs.declared.sending.cells.Cell.{Cell}
use Rattle.r9_serve.specs.sending.Cells.{pairs_of, AreAdded}
use Rattle.r9_serve.proofs.sending.Entries.{none_sent, some_sent}
use Rattle.r9_serve.proofs.sending.frame.entry_text.Goals as goal

pub returns-then-is_empty : goal.returns-then-is_empty
returns-then-is_empty c =
    let sending = c.args.sending.now in
    let display = display_in c.args.world.now in
    let cells = c.in_ok-cells.cells in
    let none : length cells.items ≡ 0 = omega (arith, cells.ok.0, eqb-true cells.len 0 (sym c.is_empty.ensures ∙ c.if-is_empty.true)) in
    none_sent c.args.chan c.args.number sending.resized (world_in c.args.world.now) display (sent_after sending.resized sending.old sending.new display.marked) cells.items c.new-text.result c.sound.ensures.shows c.in_ok-cells.ensures.cells none c.new-text.ensures

pub returns : goal.returns
returns c =
    let sending = c.args.sending.now in
    let display = display_in c.args.world.now in
    let cells = c.in_ok-cells.cells in
    let some : 0 < length cells.items = omega (arith, cells.ok.0, eqb-false cells.len 0 (sym c.is_empty.ensures ∙ c.if-is_empty.false)) in
    IfOk-weaker c.with_cells.result _ _
    (λ text added.
    some_sent c.args.chan c.args.number c.len-2.result sending.resized (world_in c.args.world.now) display c.display-r.result (sent_after sending.resized sending.old sending.new display.marked) cells.items
    c.reserve.new.self c.push_head.new.text text c.sound.ensures.shows c.display-r.ensures.r c.in_ok-cells.ensures.cells (c.len-2.ensures ∙ cells.ok.0) some (c.reserve.ensures ∙ c.new-text.ensures) c.in_ok-push_head.ensures
    (subst (λ (all : List Cell). AreAdded c.args.chan (mirrored (world_in c.args.world.now)) (pairs_of all) c.push_head.new.text text) c.deref.ensures.value added))
    c.with_cells.ensures
