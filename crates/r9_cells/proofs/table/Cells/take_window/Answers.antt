use Rattle.std.proofs.Common.{◌≡◌, ◌∙◌, ◌<◌, ℕ, true, Option, Some, None, take, refl, sym, ap, arith}
use Rattle.std.specs.Prelude.{◌==◌, ◌&&◌, ◌||◌, not, nat_lt, is_some}
use Rattle.std.proofs.lemmas.Bool.{and_parts}
use Rattle.std.proofs.lemmas.Bool.Decides.{Decides-eqb}
use Rattle.model_kept.specs.Cells.{cell_count}
use Rattle.r9_cells.specs.Rows.{cell_at}
use Rattle.r9_cells.specs.Cells.{all_rows}
use Rattle.r9_cells.specs.Fitting.{hides_at, hides_cell, meets, standing_cell, wants}
use Rattle.r9_cells.proofs.Changed.{row_long}
use Rattle.r9_cells.proofs.Steps.{below_more, below_self, rest, rest_more, rest_none, taken_next, taken_wanted, weight}
use Rattle.r9_cells.specs.Walking.{cell_out}
use Rattle.r9_cells.proofs.Still.{still_taken, still_wanted}
use Rattle.r9_cells.proofs.Windowed.{met_wants, none_hidden, none_lacks, place_near, walk_cell, walk_near, wants_at}
use Rattle.r9_cells.proofs.table.Cells.take_window.Goals as goal
use Rattle.r9_cells.proofs.table.Cells.take_window.Goals.{After-wants-is}

-- nothing of the window is hidden
pub returns-then-not-hides-clause-spare : goal.returns-then-not-hides-clause-spare
returns-then-not-hides-clause-spare c =
    let w = c.args.w.now in
    let ws = c.args.windows.now in
    let none = none_hidden c.args.below.now ws c.args.at w c.args.r.now c.standing_part-place.result c.requires.window c.standing_part-place.ensures (sym c.hides.ensures ∙ c.if-not-hides.true) in
    omega (arith, still_wanted (all_rows c.args.self.now) c.args.below.now ws w.image c.args.r.now (none_lacks (all_rows c.args.self.now) c.args.below.now ws w.image c.args.r.now none))

pub returns-then-not-hides-clause-taken : goal.returns-then-not-hides-clause-taken
returns-then-not-hides-clause-taken c =
    let w = c.args.w.now in
    let ws = c.args.windows.now in
    let none = none_hidden c.args.below.now ws c.args.at w c.args.r.now c.standing_part-place.result c.requires.window c.standing_part-place.ensures (sym c.hides.ensures ∙ c.if-not-hides.true) in
    still_taken (all_rows c.args.self.now) c.args.below.now ws w.image c.args.r.now (none_lacks (all_rows c.args.self.now) c.args.below.now ws w.image c.args.r.now none)

pub hides_within-all-requires : goal.hides_within-all-requires
hides_within-all-requires c = place_near c.args.r.now c.standing_part-place.result c.args.w.now.place.min c.standing_part-place.ensures c.requires.place.min

pub wants-is-requires-clause-at : goal.wants-is-requires-clause-at
wants-is-requires-clause-at c =
    let row = c.index.result.now in
    let long = row_long c.args.self.now.rows.items c.args.w.now.image row c.requires.celled.image c.index.ensures in
    let below : c.loop-k.k < cell_count c.args.r.now = omega (arith, long, c.requires.celled.cells, c.len-cells.ensures, row.cells.ok.0, c.loop-k-test.true) in
    walk_near c.loop-k.walk c.args.r.now c.args.w.now.place.min c.loop-k.k c.loop-k.invariant.at c.requires.celled.near c.requires.celled.ordered c.requires.place.min below

pub wants-is-requires-clause-known : goal.wants-is-requires-clause-known
wants-is-requires-clause-known c is =
    let row = c.index.result.now in
    let long = row_long c.args.self.now.rows.items c.args.w.now.image row c.requires.celled.image c.index.ensures in
    let below : c.loop-k.k < cell_count c.args.r.now = omega (arith, long, c.requires.celled.cells, c.len-cells.ensures, row.cells.ok.0, c.loop-k-test.true) in
    c.hides_within-all.ensures is (cell_out c.loop-k.walk)
    (walk_cell c.loop-k.walk c.args.r.now c.standing_part-place.result c.args.w.now.place.min c.loop-k.k c.loop-k.invariant.at c.requires.celled.ordered below c.standing_part-place.ensures)

pub step-requires : goal.step-requires
step-requires c =
    let row = c.index.result.now in
    let long = row_long c.args.self.now.rows.items c.args.w.now.image row c.requires.celled.image c.index.ensures in
    let below : c.loop-k.k < cell_count c.args.r.now = omega (arith, long, c.requires.celled.cells, c.len-cells.ensures, row.cells.ok.0, c.loop-k-test.true) in
    walk_near c.loop-k.walk c.args.r.now c.args.w.now.place.min c.loop-k.k c.loop-k.invariant.at c.requires.celled.near c.requires.celled.ordered c.requires.place.min below

-- the cell is one of the window's, and wants a tile where it did before
inside : (c : After-wants-is) → c.loop-k.k < cell_count c.args.r.now
inside c =
    let row = c.index.result.now in
    let long = row_long c.args.self.now.rows.items c.args.w.now.image row c.requires.celled.image c.index.ensures in
    omega (arith, long, c.requires.celled.cells, c.len-cells.ensures, row.cells.ok.0, c.loop-k-test.true)

next : (c : After-wants-is) → is_some (cell_at (all_rows c.loop-k.self) c.args.w.now.image c.loop-k.k) ≡ is_some (cell_at (all_rows c.args.self.now) c.args.w.now.image c.loop-k.k)
next c =
    let i = c.args.w.now.image in
    let k = c.loop-k.k in
    c.loop-k.invariant.taken i k
    ∙ taken_next (i == i) (nat_lt k k) (hides_cell c.args.below.now c.args.windows.now i c.args.r.now k) (is_some (cell_at (all_rows c.args.self.now) i k)) (below_self k)

want : (c : After-wants-is) → c.wants-is.result ≡ wants (all_rows c.args.self.now) c.args.below.now c.args.windows.now c.args.w.now.image c.args.r.now c.loop-k.k
want c =
    let w = c.args.w.now in
    let ws = c.args.windows.now in
    let r = c.args.r.now in
    let k = c.loop-k.k in
    let m = meets c.args.areas.now (standing_cell ws w.image r k) in
    let h = hides_cell c.args.below.now ws w.image r k in
    c.wants-is.ensures
    ∙ wants_at (all_rows c.loop-k.self) c.args.below.now ws c.args.areas.now c.args.at w r k c.loop-k.walk c.requires.window c.loop-k.invariant.at
    ∙ (λ j. m && (h && not (next c j)))
    ∙ met_wants m h (is_some (cell_at (all_rows c.args.self.now) w.image k)) (λ off hid. c.requires.still k (inside c) off hid)

-- it has none
none_from : (o : Option ℕ) → not (is_some o) ≡ true → o ≡ None
none_from None e = refl
none_from (Some t) e = cc

pub take_for-requires-clause-none : goal.take_for-requires-clause-none
take_for-requires-clause-none c is =
    let out = cell_out c.loop-k.walk in
    let upper = take c.args.at c.args.windows.now in
    let cell = cell_at (all_rows c.loop-k.self) c.args.w.now.image c.loop-k.k in
    let outer = and_parts (meets c.args.areas.now out) (hides_at c.args.below.now upper out && not (is_some cell)) (sym c.wants-is.ensures ∙ is) in
    none_from cell (and_parts (hides_at c.args.below.now upper out) (not (is_some cell)) outer.1).1

pub take_for-requires-clause-room : goal.take_for-requires-clause-room
take_for-requires-clause-room c is =
    let now = (goal.at.take_for-requires-clause-room c).After-wants-is in
    let q = wants (all_rows c.args.self.now) c.args.below.now c.args.windows.now c.args.w.now.image c.args.r.now in
    let one = ap weight (sym is ∙ want now) in
    let more = rest_more q (cell_count c.args.r.now) c.loop-k.k (inside now) in
    omega (arith, one, more, c.loop-k.invariant.spare, c.requires.room)

pub loop-k-preserved : goal.loop-k-preserved
loop-k-preserved c =
    let now = (goal.at.loop-k-preserved c).After-wants-is in
    let rows = all_rows c.args.self.now in
    let i = c.args.w.now.image in
    let h = hides_cell c.args.below.now c.args.windows.now i c.args.r.now in
    let k = c.loop-k.k in
    let is = c.wants-is.result in
    let one = ap weight (want now) in
    let more = rest_more (wants rows c.args.below.now c.args.windows.now i c.args.r.now) (cell_count c.args.r.now) k (inside now) in
    record {
      at = c.step.ensures c.args.r.now c.args.w.now.place.min k c.requires.celled.ordered (inside now) c.loop-k.invariant.at;
      pixels = λ j n p. c.take_for.ensures.pixels j n p ∙ c.loop-k.invariant.pixels j n p;
      spare = omega (arith, one, more, c.loop-k.invariant.spare, c.take_for.ensures.spare);
      taken = λ j n.
          c.take_for.ensures.taken j n
          ∙ ap (λ b. (((j == i) && (n == k)) && is) || b) (c.loop-k.invariant.taken j n)
          ∙ taken_wanted (j == i) (nat_lt n k) (n == k) is (h n) (is_some (cell_at rows j n))
          (λ e.
          let parts = and_parts (j == i) (n == k) e in
          let image = (Decides-eqb j i).0 parts.0 in
          let cell = (Decides-eqb n k).0 parts.1 in
          want now ∙ (λ t. h (sym cell t) && not (is_some (cell_at rows (sym image t) (sym cell t)))))
          ∙ ap (λ b. ((j == i) && (b && h n)) || is_some (cell_at rows j n)) (sym (below_more n k));
      rows = c.take_for.ensures.rows ∙ c.loop-k.invariant.rows;
      lengths = λ j. c.take_for.ensures.lengths j ∙ c.loop-k.invariant.lengths j;
    }

pub returns-clause-spare : goal.returns-clause-spare
returns-clause-spare c =
    let q = wants (all_rows c.args.self.now) c.args.below.now c.args.windows.now c.args.w.now.image c.args.r.now in
    let row = c.index.result.now in
    let long = row_long c.args.self.now.rows.items c.args.w.now.image row c.requires.celled.image c.index.ensures in
    let end : c.loop-k.k ≡ cell_count c.args.r.now = omega (arith, long, c.requires.celled.cells, c.len-cells.ensures, row.cells.ok.0, c.loop-k-test.false, c.loop-k.auto.k-end) in
    let none = ap (rest q (cell_count c.args.r.now)) end ∙ rest_none q (cell_count c.args.r.now) in
    omega (arith, none, c.loop-k.invariant.spare)

pub returns-clause-taken : goal.returns-clause-taken
returns-clause-taken c j n =
    let i = c.args.w.now.image in
    let row = c.index.result.now in
    let long = row_long c.args.self.now.rows.items i row c.requires.celled.image c.index.ensures in
    let end : c.loop-k.k ≡ cell_count c.args.r.now = omega (arith, long, c.requires.celled.cells, c.len-cells.ensures, row.cells.ok.0, c.loop-k-test.false, c.loop-k.auto.k-end) in
    c.loop-k.invariant.taken j n
    ∙ ap (λ m. ((j == i) && (nat_lt n m && hides_cell c.args.below.now c.args.windows.now i c.args.r.now n)) || is_some (cell_at (all_rows c.args.self.now) j n)) end
