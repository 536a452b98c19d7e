use Rattle.std.proofs.Common.{◌≡◌, ◌∙◌, ◌+◌, ◌<◌, ◌≤◌, ℕ, true, get_or, drop, length, refl, sym, ap, subst, arith}
use Rattle.std.specs.Prelude.{◌==◌, ◌||◌, ◌&&◌, nat_lt, is_some}
use Rattle.std.specs.List.{list_any, sum_by}
use Rattle.std.proofs.lemmas.Bool.{or_right}
use Rattle.std.proofs.lemmas.List.{at_drop_all}
use Rattle.r9_geom.specs.declared.Rect.{Rect}
use Rattle.model_forest.specs.declared.Window.{Window}
use Rattle.model_forest.specs.World.{image_at}
use Rattle.model_kept.specs.Cells.{cell_count}
use Rattle.r9_locate.specs.locate.Table.{shape}
use Rattle.r9_cells.specs.Rows.{cell_at}
use Rattle.r9_cells.specs.Cells.{all_rows}
use Rattle.r9_cells.specs.Fitting.{hides_cell, hides_of, wanted, IsTakenOff}
use Rattle.r9_cells.proofs.Listed.{any_done, any_next, celled_still, no_window, sum_next}
use Rattle.r9_cells.proofs.Passed.{any_to, passed_full, sum_to}
use Rattle.r9_cells.proofs.Skipped.{one_apart, one_at}
use Rattle.r9_cells.proofs.Steps.{any_taken, or_none}
use Rattle.r9_cells.proofs.Still.{fewer_wanted, still_wanted, taken_here}
use Rattle.r9_cells.proofs.table.Cells.take_hidden.Goals as goal

-- up to the first window that may meet an area each hidden cell has its tile
pub loop-at-init : goal.loop-at-init
loop-at-init c =
    let rows = all_rows c.args.self.now in
    let world = shape c.args.lists.now in
    let ws = c.args.windows.now in
    let areas = c.args.areas.now in
    let b = (image_at world c.args.p).r in
    let at = c.next_lacking-at.result in
    let near = c.next_lacking-at.ensures in
    let full = λ (k : ℕ) (before : k < at) (below : k < length ws). passed_full rows rows world c.args.p ws c.args.from areas c.requires.still c.requires.windows c.requires.one (λ j. refl) k below (λ n. refl) (λ late. near.off areas c.span-near.ensures k no_window late before below) in
    let skip = sum_to (λ (w : Window). wanted rows b ws w.image (image_at world w.image).r) ws 0 at (omega arith) (λ k past before below. still_wanted rows b ws (get_or ws k no_window).image (image_at world (get_or ws k no_window).image).r (full k before below)) in
    record {
      past = near.least;
      room = omega (arith, skip, c.requires.room);
      spent = omega (arith, skip);
      pixels = λ j n x. refl;
      grows = λ j n e. e;
      later = λ k n past below. refl;
      taken = λ j n.
          sym (any_to (hides_of world c.args.p ws j n) (is_some (cell_at rows j n)) ws 0 at (omega arith)
          (λ k past before below e. taken_here rows b ws (get_or ws k no_window).image (image_at world (get_or ws k no_window).image).r (full k before below) j n e));
      rows = refl;
      lengths = λ j. refl;
    }

pub next_lacking-at-requires : goal.next_lacking-at-requires
next_lacking-at-requires c = λ k d below. (c.requires.windows k d below).cells.image

pub next_lacking-at-requires-in-loop-at : goal.next_lacking-at-requires-in-loop-at
next_lacking-at-requires-in-loop-at c = λ k d below. omega (arith, (c.requires.windows k d below).cells.image, c.take_at.ensures.rows, c.loop-at.invariant.rows)

pub take_at-requires-clause-window : goal.take_at-requires-clause-window
take_at-requires-clause-window c = one_at c.args.windows.now c.loop-at.at c.requires.one c.loop-at-test.true

pub take_at-requires-clause-windowed : goal.take_at-requires-clause-windowed
take_at-requires-clause-windowed c =
    let is = c.requires.windows c.loop-at.at no_window c.loop-at-test.true in
    record {
      live = is.live;
      place = is.place;
      size = is.size;
      cells = celled_still (all_rows c.args.self.now) (all_rows c.loop-at.self) _ _ _ is.cells c.loop-at.invariant.rows c.loop-at.invariant.lengths refl;
    }

pub take_at-requires-clause-places : goal.take_at-requires-clause-places
take_at-requires-clause-places c = λ j d below. (c.requires.windows j d below).place

pub take_at-requires-clause-still : goal.take_at-requires-clause-still
take_at-requires-clause-still c =
    let world = shape c.args.lists.now in
    let ws = c.args.windows.now in
    let w = get_or ws c.loop-at.at no_window in
    let is = one_at ws c.loop-at.at c.requires.one c.loop-at-test.true in
    subst (λ (b : Rect). IsTakenOff (all_rows c.loop-at.self) b ws c.args.areas.now w.image (image_at world w.image).r) (sym c.rect_of-below.ensures)
    (λ k lower off e. c.loop-at.invariant.grows w.image k (c.requires.still.others c.loop-at.at w c.loop-at.invariant.past is k lower off e))

pub take_at-requires-clause-room : goal.take_at-requires-clause-room
take_at-requires-clause-room c =
    let world = shape c.args.lists.now in
    let ws = c.args.windows.now in
    let w = get_or ws c.loop-at.at no_window in
    let less = fewer_wanted (all_rows c.args.self.now) (all_rows c.loop-at.self) (image_at world c.args.p).r c.rect_of-below.result ws w.image (image_at world w.image).r c.rect_of-below.ensures (c.loop-at.invariant.grows w.image) in
    let sum = sum_next (λ (v : Window). wanted (all_rows c.args.self.now) (image_at world c.args.p).r ws v.image (image_at world v.image).r) ws c.loop-at.at c.loop-at-test.true in
    omega (arith, less, sum, c.loop-at.invariant.room)

pub loop-at-preserved : goal.loop-at-preserved
loop-at-preserved c =
    let rows = all_rows c.args.self.now in
    let world = shape c.args.lists.now in
    let ws = c.args.windows.now in
    let areas = c.args.areas.now in
    let b = (image_at world c.args.p).r in
    let at = c.loop-at.at in
    let later = c.next_lacking-at-in-loop-at.result in
    let near = c.next_lacking-at-in-loop-at.ensures in
    let w = get_or ws at no_window in
    let r = (image_at world w.image).r in
    let test = λ (j n : ℕ). hides_of world c.args.p ws j n in
    let past : c.args.from ≤ later = omega (arith, c.loop-at.invariant.past, near.least) in
    let alike : (k n : ℕ) → at + 1 ≤ k → k < length ws → is_some (cell_at (all_rows c.take_at.new.self) (get_or ws k no_window).image n) ≡ is_some (cell_at rows (get_or ws k no_window).image n) =
    λ k n after below.
    let i = (get_or ws k no_window).image in
    c.take_at.ensures.taken i n
    ∙ ap (λ t. (t && (nat_lt n (cell_count r) && hides_cell c.rect_of-below.result ws w.image r n)) || is_some (cell_at (all_rows c.loop-at.self) i n)) (one_apart ws at k c.requires.one (omega (arith, after)) below)
    ∙ c.loop-at.invariant.later k n (omega (arith, after)) below in
    let long = λ (j : ℕ). c.take_at.ensures.lengths j ∙ c.loop-at.invariant.lengths j in
    let full = λ (k : ℕ) (from : at + 1 ≤ k) (before : k < later) (below : k < length ws). passed_full rows (all_rows c.take_at.new.self) world c.args.p ws c.args.from areas c.requires.still c.requires.windows c.requires.one long k below (λ n. alike k n from below) (λ late. near.off areas c.span-near.ensures k no_window from before below) in
    let same : (j n : ℕ) → ((j == w.image) && (nat_lt n (cell_count r) && hides_cell c.rect_of-below.result ws w.image r n)) ≡ test j n w = λ j n i. (j == w.image) && (nat_lt n (cell_count r) && hides_cell (c.rect_of-below.ensures i) ws w.image r n) in
    let less = fewer_wanted rows (all_rows c.loop-at.self) b c.rect_of-below.result ws w.image r c.rect_of-below.ensures (c.loop-at.invariant.grows w.image) in
    let f = λ (v : Window). wanted rows b ws v.image (image_at world v.image).r in
    let sum = sum_next f ws at c.loop-at-test.true in
    let skip = sum_to f ws (at + 1) later near.least (λ k from before below. still_wanted rows b ws (get_or ws k no_window).image (image_at world (get_or ws k no_window).image).r (full k from before below)) in
    let grows : (j n : ℕ) → is_some (cell_at rows j n) ≡ true → is_some (cell_at (all_rows c.take_at.new.self) j n) ≡ true = λ j n e. c.take_at.ensures.taken j n ∙ or_right _ _ (c.loop-at.invariant.grows j n e) in
    record {
      past = past;
      room = omega (arith, less, sum, skip, c.loop-at.invariant.room, c.take_at.ensures.spare);
      spent = omega (arith, less, sum, skip, c.loop-at.invariant.spent, c.take_at.ensures.spare);
      pixels = λ j n x. c.take_at.ensures.pixels j n x ∙ c.loop-at.invariant.pixels j n x;
      grows = grows;
      later = λ k n after below. alike k n (omega (arith, near.least, after)) below;
      taken = λ j n.
          let left = list_any (test j n) (drop (at + 1) ws) in
          let mid = is_some (cell_at (all_rows c.loop-at.self) j n) in
          sym (any_to (test j n) (is_some (cell_at (all_rows c.take_at.new.self) j n)) ws (at + 1) later near.least
          (λ k from before below e. grows j n (taken_here rows b ws (get_or ws k no_window).image (image_at world (get_or ws k no_window).image).r (full k from before below) j n e)))
          ∙ ap (λ t. t || left) (c.take_at.ensures.taken j n)
          ∙ ap (λ t. (t || mid) || left) (same j n)
          ∙ any_taken (test j n w) mid left
          ∙ ap (λ t. mid || t) (sym (any_next (test j n) ws at c.loop-at-test.true))
          ∙ c.loop-at.invariant.taken j n;
      rows = c.take_at.ensures.rows ∙ c.loop-at.invariant.rows;
      lengths = long;
    }

pub returns-clause-taken : goal.returns-clause-taken
returns-clause-taken c j n =
    let now = is_some (cell_at (all_rows c.loop-at.self) j n) in
    let none = any_done (hides_of (shape c.args.lists.now) c.args.p c.args.windows.now j n) c.args.windows.now c.loop-at.at c.loop-at-test.false in
    sym (or_none now) ∙ ap (λ b. now || b) (sym none) ∙ c.loop-at.invariant.taken j n

pub returns-clause-spare : goal.returns-clause-spare
returns-clause-spare c =
    let world = shape c.args.lists.now in
    let ws = c.args.windows.now in
    let none = at_drop_all (sum_by (λ (w : Window). wanted (all_rows c.args.self.now) (image_at world c.args.p).r ws w.image (image_at world w.image).r)) ws c.loop-at.at c.loop-at-test.false in
    omega (arith, none, c.loop-at.invariant.spent)
