use Rattle.std.proofs.Common.{◌≡◌, ◌∙◌, ◌+◌, get_or, ap, arith}
use Rattle.std.specs.List.{sum_by}
use Rattle.std.proofs.lemmas.List.{at_drop_all}
use Rattle.r9_geom.specs.declared.Rect.{Rect}
use Rattle.model_forest.specs.declared.Window.{Window}
use Rattle.model_forest.specs.World.{image_at}
use Rattle.r9_locate.specs.locate.Table.{shape}
use Rattle.r9_cells.specs.Cells.{all_rows}
use Rattle.r9_cells.specs.Fitting.{wanted_near}
use Rattle.r9_cells.proofs.Listed.{no_window, sum_next}
use Rattle.r9_cells.proofs.Passed.{passed_lacking, sum_to}
use Rattle.r9_cells.proofs.Skipped.{one_at}
use Rattle.r9_cells.proofs.table.Cells.wanted_from.Goals as goal

pub loop-at-init : goal.loop-at-init
loop-at-init c =
    let rows = all_rows c.args.self.now in
    let world = shape c.args.lists.now in
    let ws = c.args.windows.now in
    let areas = c.args.areas.now in
    let near = c.next_lacking-at.ensures in
    let f = λ (w : Window). wanted_near rows (image_at world c.args.p).r ws areas w.image (image_at world w.image).r in
    let skip = sum_to f ws c.args.from c.next_lacking-at.result near.least (λ k past before below. passed_lacking rows world c.args.p ws areas c.requires.windows c.requires.one k below (near.off areas c.span-near.ensures k no_window past before below)) in
    record { counted = omega (arith, skip) }

pub next_lacking-at-requires : goal.next_lacking-at-requires
next_lacking-at-requires c = λ k d below. (c.requires.windows k d below).cells.image

pub next_lacking-at-requires-in-loop-at : goal.next_lacking-at-requires-in-loop-at
next_lacking-at-requires-in-loop-at c = λ k d below. (c.requires.windows k d below).cells.image

pub wanted_at-more-requires-clause-window : goal.wanted_at-more-requires-clause-window
wanted_at-more-requires-clause-window c = one_at c.args.windows.now c.loop-at.at c.requires.one c.loop-at-test.true

pub wanted_at-more-requires-clause-windowed : goal.wanted_at-more-requires-clause-windowed
wanted_at-more-requires-clause-windowed c = c.requires.windows c.loop-at.at no_window c.loop-at-test.true

pub wanted_at-more-requires-clause-places : goal.wanted_at-more-requires-clause-places
wanted_at-more-requires-clause-places c = λ j d below. (c.requires.windows j d below).place

pub loop-at-preserved : goal.loop-at-preserved
loop-at-preserved c =
    let rows = all_rows c.args.self.now in
    let world = shape c.args.lists.now in
    let ws = c.args.windows.now in
    let areas = c.args.areas.now in
    let at = c.loop-at.at in
    let w = get_or ws at no_window in
    let near = c.next_lacking-at-in-loop-at.ensures in
    let f = λ (v : Window). wanted_near rows (image_at world c.args.p).r ws areas v.image (image_at world v.image).r in
    let skip = sum_to f ws (at + 1) c.next_lacking-at-in-loop-at.result near.least (λ k past before below. passed_lacking rows world c.args.p ws areas c.requires.windows c.requires.one k below (near.off areas c.span-near.ensures k no_window past before below)) in
    let sum = sum_next f ws at c.loop-at-test.true in
    let more : c.wanted_at-more.result ≡ f w = c.wanted_at-more.ensures ∙ ap (λ (b : Rect). wanted_near rows b ws areas w.image (image_at world w.image).r) c.rect_of-below.ensures in
    record { counted = omega (arith, skip, sum, more, c.loop-at.invariant.counted, c.in-Some.ensures) }

pub returns : goal.returns
returns c =
    let rows = all_rows c.args.self.now in
    let world = shape c.args.lists.now in
    let ws = c.args.windows.now in
    let f = λ (v : Window). wanted_near rows (image_at world c.args.p).r ws c.args.areas.now v.image (image_at world v.image).r in
    let none = at_drop_all (sum_by f) ws c.loop-at.at c.loop-at-test.false in
    omega (arith, none, c.loop-at.invariant.counted)
