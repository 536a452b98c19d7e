use Rattle.std.proofs.Common.{ℕ, refl, sym, ap, ◌∙◌}
use Rattle.std.specs.Prelude.{true, false, is_some}
use Rattle.model_draw.specs.draw.Orders.{can_keep, is_window_rect}
use Rattle.r9_device.specs.device.World.{world_of}
use Rattle.r9_device.proofs.device.Lookups.{image-of-used, screen-used}
use Rattle.r9_draw.proofs.orders.Fitting.{no-rio, rio-is, rio-screen}
use Rattle.r9_draw.proofs.orders.Windows.{can-replace, come-tests, fits-no-rio, fits-rest, next-is}
use Rattle.r9_draw.proofs.orders.window.next_of.Goals as goal

pub returns-in-Err-clause-fits : goal.returns-in-Err-clause-fits
returns-in-Err-clause-fits c = λ name.
    let w = world_of c.args.device.now in
    sym (fits-no-rio w c.args.window c.args.host c.args.r name c.args.keep c.args.hidden (no-rio w c.args.host c.in-Err.field-0 (sym c.in-Err.ensures)))

pub can_come-requires-clause-parent : goal.can_come-requires-clause-parent
can_come-requires-clause-parent c =
    let w = world_of c.args.device.now in
    let kept = c.args.device.now.kept in
    ap (λ (n : ℕ). is_some (w.images n)) c.image_of.ensures ∙ kept.live _ (image-of-used w.book c.in-Ok.screen (kept.screens c.in-Ok.screen (screen-used w.book 0 c.args.host c.in-Ok.screen (sym c.in-Ok.ensures))))

pub returns-then-not-can_come-clause-fits : goal.returns-then-not-can_come-clause-fits
returns-then-not-can_come-clause-fits c = λ name.
    let w = world_of c.args.device.now in
    let e = sym c.in-Ok.ensures in
    let is = sym c.if-not-can_come.true ∙ c.can_come.ensures c.args.window c.in-Ok.screen c.in-Some.ensures.image c.image_of.ensures in
    sym (fits-rest w c.args.window c.args.host c.in-Ok.screen c.args.r name c.args.keep c.args.hidden false (sym c.in-Some.ensures.there) (rio-is w c.args.host c.in-Ok.screen e) (rio-screen w c.args.host c.in-Ok.screen e) is)

pub image_of-requires : goal.image_of-requires
image_of-requires c = c.args.device.now.kept.screens c.in-Ok.screen (screen-used c.args.device.now.book.book 0 c.args.host c.in-Ok.screen (sym c.in-Ok.ensures))

pub fill_of-requires : goal.fill_of-requires
fill_of-requires c = c.args.device.now.kept.screens c.in-Ok.screen (screen-used c.args.device.now.book.book 0 c.args.host c.in-Ok.screen (sym c.in-Ok.ensures))

pub returns-clause-fits : goal.returns-clause-fits
returns-clause-fits c = λ name.
    let w = world_of c.args.device.now in
    let e = sym c.in-Ok.ensures in
    let is = sym c.if-not-can_come.false ∙ c.can_come.ensures c.args.window c.in-Ok.screen c.in-Some.ensures.image c.image_of.ensures in
    sym (fits-rest w c.args.window c.args.host c.in-Ok.screen c.args.r name c.args.keep c.args.hidden true (sym c.in-Some.ensures.there) (rio-is w c.args.host c.in-Ok.screen e) (rio-screen w c.args.host c.in-Ok.screen e) is)

pub returns-clause-screen : goal.returns-clause-screen
returns-clause-screen c = rio-screen (world_of c.args.device.now) c.args.host c.in-Ok.screen (sym c.in-Ok.ensures)

pub returns-clause-ready : goal.returns-clause-ready
returns-clause-ready c =
    let w = world_of c.args.device.now in
    let s = c.in-Ok.screen in
    let shown = c.in-Some.ensures in
    let tests = come-tests (is_window_rect c.args.r) c.args.keep (can_keep w c.args.window s c.args.r) (sym (c.can_come.ensures c.args.window s shown.image c.image_of.ensures) ∙ c.if-not-can_come.false) in
    can-replace w c.args.window s c.args.r c.args.keep _ c.args.device.now.kept (sym shown.there) (screen-used w.book 0 c.args.host s (sym c.in-Ok.ensures)) tests.0 tests.1
    (next-is w c.args.window s c.in-Some.shown.screen _ shown.image shown.screen refl c.image_of.ensures c.fill_of.ensures) refl refl
