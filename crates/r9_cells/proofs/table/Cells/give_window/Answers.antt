use Rattle.std.proofs.Common.{◌≡◌, ◌∙◌, ◌<◌, take, sym, ap, arith}
use Rattle.std.specs.Prelude.{◌==◌, ◌&&◌, not, nat_lt, is_some, if◌then◌else◌}
use Rattle.std.proofs.lemmas.Bool.{and_parts}
use Rattle.std.proofs.lemmas.Bool.Decides.{Decides-eqb}
use Rattle.model_kept.specs.Cells.{cell_count, cell_part}
use Rattle.r9_cells.specs.Rows.{cell_at}
use Rattle.r9_cells.specs.Cells.{all_rows, cell_pixel, tiles_in}
use Rattle.r9_cells.specs.Fitting.{hides_at, hides_cell, meets, standing_part}
use Rattle.r9_cells.proofs.Changed.{row_long}
use Rattle.r9_cells.proofs.Steps.{below_more, below_self, given_next, given_spared, kept_twice}
use Rattle.r9_cells.proofs.Walks.{stands_at}
use Rattle.r9_cells.proofs.Still.{pixel_as, still_given}
use Rattle.r9_cells.proofs.Windowed.{all_hidden, cell_hid, cell_met, none_spared, place_near, walk_near}
use Rattle.r9_cells.proofs.table.Cells.give_window.Goals as goal
use Rattle.r9_cells.proofs.table.Cells.give_window.Goals.{After-spares-is}

pub is_buried-requires : goal.is_buried-requires
is_buried-requires c = place_near c.args.r.now c.standing_part.result c.args.w.now.place.min c.standing_part.ensures c.requires.place.min

-- all of the window is hidden
pub returns-then-is_buried-clause-pixels : goal.returns-then-is_buried-clause-pixels
returns-then-is_buried-clause-pixels c = pixel_as (all_rows c.args.self.now) (tiles_in c.args.self.now)

pub returns-then-is_buried-clause-given : goal.returns-then-is_buried-clause-given
returns-then-is_buried-clause-given c =
    let w = c.args.w.now in
    let ws = c.args.windows.now in
    let all = all_hidden c.args.below.now ws c.args.at w c.args.r.now c.standing_part.result c.requires.window c.requires.celled.ordered c.standing_part.ensures (c.is_buried.ensures c.if-is_buried.true) in
    still_given (all_rows c.args.self.now) c.args.below.now ws w.image c.args.r.now (none_spared (all_rows c.args.self.now) c.args.below.now ws w.image c.args.r.now all)

pub cell-requires : goal.cell-requires
cell-requires c =
    let row = c.index.result.now in
    let long = row_long c.args.self.now.rows.items c.args.w.now.image row c.requires.celled.image c.index.ensures in
    let below : c.loop-k.k < cell_count c.args.r.now = omega (arith, long, c.requires.celled.cells, c.len-cells.ensures, row.cells.ok.0, c.loop-k-test.true) in
    walk_near c.loop-k.walk c.args.r.now c.args.w.now.place.min c.loop-k.k c.loop-k.invariant.at c.requires.celled.near c.requires.celled.ordered c.requires.place.min below

pub step-requires : goal.step-requires
step-requires c =
    let row = c.index.result.now in
    let long = row_long c.args.self.now.rows.items c.args.w.now.image row c.requires.celled.image c.index.ensures in
    let below : c.loop-k.k < cell_count c.args.r.now = omega (arith, long, c.requires.celled.cells, c.len-cells.ensures, row.cells.ok.0, c.loop-k-test.true) in
    walk_near c.loop-k.walk c.args.r.now c.args.w.now.place.min c.loop-k.k c.loop-k.invariant.at c.requires.celled.near c.requires.celled.ordered c.requires.place.min below

pub spares-is-requires-clause-still : goal.spares-is-requires-clause-still
spares-is-requires-clause-still c off shown =
    let w = c.args.w.now in
    let i = w.image in
    let r = c.args.r.now in
    let ws = c.args.windows.now in
    let k = c.loop-k.k in
    let row = c.index.result.now in
    let long = row_long c.args.self.now.rows.items i row c.requires.celled.image c.index.ensures in
    let below : k < cell_count r = omega (arith, long, c.requires.celled.cells, c.len-cells.ensures, row.cells.ok.0, c.loop-k-test.true) in
    let out : c.cell.result ≡ standing_part r w.place.min (cell_part r k) = c.cell.ensures.value ∙ stands_at c.loop-k.walk r w.place.min k c.loop-k.invariant.at in
    c.loop-k.invariant.given i k
    ∙ given_next (i == i) (nat_lt k k) (not (hides_cell c.args.below.now ws i r k)) (is_some (cell_at (all_rows c.args.self.now) i k)) (below_self k)
    ∙ c.requires.still k below
    (sym (cell_met c.args.areas.now ws c.args.at w r k c.requires.window) ∙ ap (meets c.args.areas.now) (sym out) ∙ off)
    (sym (cell_hid c.args.below.now ws c.args.at w r k c.requires.window) ∙ ap (hides_at c.args.below.now (take c.args.at ws)) (sym out) ∙ shown)

inside : (c : After-spares-is) → c.loop-k.k < cell_count c.args.r.now
inside c =
    let row = c.index.result.now in
    let long = row_long c.args.self.now.rows.items c.args.w.now.image row c.requires.celled.image c.index.ensures in
    omega (arith, long, c.requires.celled.cells, c.len-cells.ensures, row.cells.ok.0, c.loop-k-test.true)

-- where the cell of the walk stands, whether it is hidden, and whether it has a tile still
out_is : (c : After-spares-is) → c.cell.result ≡ standing_part c.args.r.now c.args.w.now.place.min (cell_part c.args.r.now c.loop-k.k)
out_is c = c.cell.ensures.value ∙ stands_at c.loop-k.walk c.args.r.now c.args.w.now.place.min c.loop-k.k c.loop-k.invariant.at

hid : (c : After-spares-is) → hides_at c.args.below.now (take c.args.at c.args.windows.now) c.cell.result ≡ hides_cell c.args.below.now c.args.windows.now c.args.w.now.image c.args.r.now c.loop-k.k
hid c =
    ap (hides_at c.args.below.now (take c.args.at c.args.windows.now)) (out_is c)
    ∙ cell_hid c.args.below.now c.args.windows.now c.args.at c.args.w.now c.args.r.now c.loop-k.k c.requires.window

next : (c : After-spares-is) → is_some (cell_at (all_rows c.loop-k.self) c.args.w.now.image c.loop-k.k) ≡ is_some (cell_at (all_rows c.args.self.now) c.args.w.now.image c.loop-k.k)
next c =
    let i = c.args.w.now.image in
    let k = c.loop-k.k in
    c.loop-k.invariant.given i k
    ∙ given_next (i == i) (nat_lt k k) (not (hides_cell c.args.below.now c.args.windows.now i c.args.r.now k)) (is_some (cell_at (all_rows c.args.self.now) i k)) (below_self k)

spared : (c : After-spares-is) → c.spares-is.result ≡ (not (hides_cell c.args.below.now c.args.windows.now c.args.w.now.image c.args.r.now c.loop-k.k) && is_some (cell_at (all_rows c.args.self.now) c.args.w.now.image c.loop-k.k))
spared c = c.spares-is.ensures ∙ (λ t. not (hid c t) && next c t)

pub give_for-requires : goal.give_for-requires
give_for-requires c is =
    let upper = take c.args.at c.args.windows.now in
    (and_parts (not (hides_at c.args.below.now upper c.cell.result)) (is_some (cell_at (all_rows c.loop-k.self) c.args.w.now.image c.loop-k.k)) (sym c.spares-is.ensures ∙ is)).1

pub loop-k-preserved : goal.loop-k-preserved
loop-k-preserved c =
    let now_at = (goal.at.loop-k-preserved c).After-spares-is in
    let rows = all_rows c.args.self.now in
    let i = c.args.w.now.image in
    let h = hides_cell c.args.below.now c.args.windows.now i c.args.r.now in
    let k = c.loop-k.k in
    let is = c.spares-is.result in
    record {
      at = c.step.ensures c.args.r.now c.args.w.now.place.min k c.requires.celled.ordered (inside now_at) c.loop-k.invariant.at;
      pixels = λ j n p.
          let now = is_some (cell_at (all_rows c.give_for.new.self) j n) in
          let mid = is_some (cell_at (all_rows c.loop-k.self) j n) in
          let x = cell_pixel c.args.self.now j n p in
          let given = c.give_for.ensures.given j n in
          c.give_for.ensures.pixels j n p
          ∙ ap (λ v. if now then v else 0) (c.loop-k.invariant.pixels j n p)
          ∙ ap (λ b. if b then (if mid then x else 0) else 0) given
          ∙ kept_twice (not (((j == i) && (n == k)) && is)) mid x
          ∙ sym (ap (λ b. if b then x else 0) given);
      more = omega (arith, c.loop-k.invariant.more, c.give_for.ensures.spare);
      given = λ j n.
          c.give_for.ensures.given j n
          ∙ ap (λ b. not (((j == i) && (n == k)) && is) && b) (c.loop-k.invariant.given j n)
          ∙ given_spared (j == i) (nat_lt n k) (n == k) is (h n) (is_some (cell_at rows j n))
          (λ e.
          let parts = and_parts (j == i) (n == k) e in
          let image = (Decides-eqb j i).0 parts.0 in
          let cell = (Decides-eqb n k).0 parts.1 in
          spared now_at ∙ (λ t. not (h (sym cell t)) && is_some (cell_at rows (sym image t) (sym cell t))))
          ∙ ap (λ b. not ((j == i) && (b && not (h n))) && is_some (cell_at rows j n)) (sym (below_more n k));
      rows = c.give_for.ensures.rows ∙ c.loop-k.invariant.rows;
      lengths = λ j. c.give_for.ensures.lengths j ∙ c.loop-k.invariant.lengths j;
    }

pub returns-clause-given : goal.returns-clause-given
returns-clause-given c j n =
    let i = c.args.w.now.image in
    let row = c.index.result.now in
    let long = row_long c.args.self.now.rows.items i row c.requires.celled.image c.index.ensures in
    let end : c.loop-k.k ≡ cell_count c.args.r.now = omega (arith, long, c.requires.celled.cells, c.len-cells.ensures, row.cells.ok.0, c.loop-k-test.false, c.loop-k.auto.k-end) in
    c.loop-k.invariant.given j n
    ∙ ap (λ m. not ((j == i) && (nat_lt n m && not (hides_cell c.args.below.now c.args.windows.now i c.args.r.now n))) && is_some (cell_at (all_rows c.args.self.now) j n)) end
