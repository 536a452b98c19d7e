use Rattle.std.proofs.Common.{◌≡◌, ◌∙◌, ◌<◌, ◌≤◌, ℕ, Bool, true, false, refl, sym, ap, arith}
use mir.Val.{bool_byte}
use Rattle.std.specs.Prelude.{◌&&◌}
use Rattle.model_kept.specs.Cells.{cell_count}
use Rattle.r9_cells.specs.Fitting.{meets, standing_cell, wants}
use Rattle.r9_cells.specs.Cells.{all_rows}
use Rattle.r9_cells.proofs.Changed.{row_long}
use Rattle.r9_cells.proofs.Steps.{light, rest_more, weight}
use Rattle.r9_cells.specs.Walking.{cell_out}
use Rattle.r9_cells.proofs.Windowed.{none_hidden, none_wanted, place_near, walk_cell, walk_near, wants_at}
use Rattle.r9_cells.proofs.table.Cells.wanted.Goals as goal

byte_weight : (b : Bool) → bool_byte b ≡ weight b
byte_weight true = refl
byte_weight false = refl

-- nothing of the window is hidden
pub returns-then-not-hides : goal.returns-then-not-hides
returns-then-not-hides c =
    let w = c.args.w.now in
    let ws = c.args.windows.now in
    sym (none_wanted (all_rows c.args.self.now) c.args.below.now ws c.args.areas.now w.image c.args.r.now
    (none_hidden c.args.below.now ws c.args.at w c.args.r.now c.standing_part-place.result c.requires.window c.standing_part-place.ensures (sym c.hides.ensures ∙ c.if-not-hides.true)))

pub hides_within-all-requires : goal.hides_within-all-requires
hides_within-all-requires c = place_near c.args.r.now c.standing_part-place.result c.args.w.now.place.min c.standing_part-place.ensures c.requires.place.min

pub wants-requires-clause-at : goal.wants-requires-clause-at
wants-requires-clause-at c =
    let row = c.index.result.now in
    let long = row_long c.args.self.now.rows.items c.args.w.now.image row c.requires.celled.image c.index.ensures in
    let below : c.loop-k.k < cell_count c.args.r.now = omega (arith, long, c.requires.celled.cells, c.len-k-end.ensures, row.cells.ok.0, c.loop-k-test.true) in
    walk_near c.loop-k.walk c.args.r.now c.args.w.now.place.min c.loop-k.k c.loop-k.invariant.at c.requires.celled.near c.requires.celled.ordered c.requires.place.min below

pub wants-requires-clause-known : goal.wants-requires-clause-known
wants-requires-clause-known c is =
    let row = c.index.result.now in
    let long = row_long c.args.self.now.rows.items c.args.w.now.image row c.requires.celled.image c.index.ensures in
    let below : c.loop-k.k < cell_count c.args.r.now = omega (arith, long, c.requires.celled.cells, c.len-k-end.ensures, row.cells.ok.0, c.loop-k-test.true) in
    c.hides_within-all.ensures is (cell_out c.loop-k.walk)
    (walk_cell c.loop-k.walk c.args.r.now c.standing_part-place.result c.args.w.now.place.min c.loop-k.k c.loop-k.invariant.at c.requires.celled.ordered below c.standing_part-place.ensures)

pub step-requires : goal.step-requires
step-requires c =
    let row = c.index.result.now in
    let long = row_long c.args.self.now.rows.items c.args.w.now.image row c.requires.celled.image c.index.ensures in
    let below : c.loop-k.k < cell_count c.args.r.now = omega (arith, long, c.requires.celled.cells, c.len-k-end.ensures, row.cells.ok.0, c.loop-k-test.true) in
    walk_near c.loop-k.walk c.args.r.now c.args.w.now.place.min c.loop-k.k c.loop-k.invariant.at c.requires.celled.near c.requires.celled.ordered c.requires.place.min below

pub loop-k-preserved : goal.loop-k-preserved
loop-k-preserved c =
    let w = c.args.w.now in
    let rows = all_rows c.args.self.now in
    let q = λ (k : ℕ). meets c.args.areas.now (standing_cell c.args.windows.now w.image c.args.r.now k) && wants rows c.args.below.now c.args.windows.now w.image c.args.r.now k in
    let row = c.index.result.now in
    let long = row_long c.args.self.now.rows.items w.image row c.requires.celled.image c.index.ensures in
    let below : c.loop-k.k < cell_count c.args.r.now = omega (arith, long, c.requires.celled.cells, c.len-k-end.ensures, row.cells.ok.0, c.loop-k-test.true) in
    let want = wants_at rows c.args.below.now c.args.windows.now c.args.areas.now c.args.at w c.args.r.now c.loop-k.k c.loop-k.walk c.requires.window c.loop-k.invariant.at in
    let one : c.from-count.result ≡ weight (q c.loop-k.k) = c.from-count.ensures ∙ byte_weight c.wants.result ∙ ap weight (c.wants.ensures ∙ want) in
    let few : weight (q c.loop-k.k) ≤ 1 = light (q c.loop-k.k) in
    record {
      at = c.step.ensures c.args.r.now w.place.min c.loop-k.k c.requires.celled.ordered below c.loop-k.invariant.at;
      counted = omega (arith, c.loop-k.invariant.counted, rest_more q (cell_count c.args.r.now) c.loop-k.k below, one);
      most = omega (arith, c.loop-k.invariant.most, one, few);
    }
