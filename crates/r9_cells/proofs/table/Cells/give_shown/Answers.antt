use Rattle.std.proofs.Common.{◌≡◌, ◌∙◌, ◌+◌, ◌<◌, ◌≤◌, ℕ, false, get_or, drop, length, refl, sym, ap, subst, arith}
use Rattle.std.specs.Prelude.{◌==◌, ◌&&◌, not, nat_lt, is_some, if◌then◌else◌}
use Rattle.std.specs.List.{list_any}
use Rattle.r9_geom.specs.declared.Rect.{Rect}
use Rattle.model_forest.specs.World.{image_at}
use Rattle.model_kept.specs.Cells.{cell_count}
use Rattle.r9_locate.specs.locate.Table.{shape}
use Rattle.r9_cells.specs.Rows.{cell_at}
use Rattle.r9_cells.specs.Cells.{all_rows, cell_pixel, tiles_in}
use Rattle.r9_cells.specs.Fitting.{hides_cell, shows_of, IsGivenOff}
use Rattle.r9_cells.proofs.Listed.{any_done, any_next, celled_still, no_window}
use Rattle.r9_cells.proofs.Passed.{none_to, passed_given}
use Rattle.r9_cells.proofs.Skipped.{one_at}
use Rattle.r9_cells.proofs.Steps.{any_given, kept_twice}
use Rattle.r9_cells.proofs.Still.{both_none, given_here, pixel_as}
use Rattle.r9_cells.proofs.table.Cells.give_shown.Goals as goal

pub returns-then-is_nowhere-clause-pixels : goal.returns-then-is_nowhere-clause-pixels
returns-then-is_nowhere-clause-pixels c = pixel_as (all_rows c.args.self.now) (tiles_in c.args.self.now)

-- where the areas have no point all cells are as they should be
pub returns-then-is_nowhere-clause-given : goal.returns-then-is_nowhere-clause-given
returns-then-is_nowhere-clause-given c j n =
    let rows = all_rows c.args.self.now in
    let world = shape c.args.lists.now in
    let ws = c.args.windows.now in
    let areas = c.args.areas.now in
    let some = is_some (cell_at rows j n) in
    let test = shows_of world c.args.p ws j n in
    let blank = λ (k : ℕ) (below : k < length ws). passed_given rows world c.args.p ws c.args.from areas c.requires.still c.requires.windows c.requires.one k below (λ late. c.is_nowhere.ensures c.if-is_nowhere.true areas c.span-near.ensures (get_or ws k no_window).place) in
    sym (none_to test some ws 0 (length ws) (omega arith)
    (λ k past before below e. given_here rows (image_at world c.args.p).r ws (get_or ws k no_window).image (image_at world (get_or ws k no_window).image).r (blank k below) j n e)
    ∙ ap (λ b. not b && some) (any_done test ws (length ws) (omega arith)))

pub loop-at-init : goal.loop-at-init
loop-at-init c =
    let rows = all_rows c.args.self.now in
    let world = shape c.args.lists.now in
    let ws = c.args.windows.now in
    let areas = c.args.areas.now in
    let at = c.next_near-at.result in
    let near = c.next_near-at.ensures in
    let blank = λ (k : ℕ) (before : k < at) (below : k < length ws). passed_given rows world c.args.p ws c.args.from areas c.requires.still c.requires.windows c.requires.one k below (λ late. near.off areas c.span-near.ensures k no_window late before below) in
    record {
      past = near.least;
      pixels = pixel_as rows (tiles_in c.args.self.now);
      more = omega arith;
      given = λ j n.
          sym (none_to (shows_of world c.args.p ws j n) (is_some (cell_at rows j n)) ws 0 at (omega arith)
          (λ k past before below e. given_here rows (image_at world c.args.p).r ws (get_or ws k no_window).image (image_at world (get_or ws k no_window).image).r (blank k before below) j n e));
      fewer = λ j n e. e;
      rows = refl;
      lengths = λ j. refl;
    }

pub give_at-requires-clause-window : goal.give_at-requires-clause-window
give_at-requires-clause-window c = one_at c.args.windows.now c.loop-at.at c.requires.one c.loop-at-test.true

pub give_at-requires-clause-windowed : goal.give_at-requires-clause-windowed
give_at-requires-clause-windowed c =
    let is = c.requires.windows c.loop-at.at no_window c.loop-at-test.true in
    record {
      live = is.live;
      place = is.place;
      size = is.size;
      cells = celled_still (all_rows c.args.self.now) (all_rows c.loop-at.self) _ _ _ is.cells c.loop-at.invariant.rows c.loop-at.invariant.lengths refl;
    }

pub give_at-requires-clause-places : goal.give_at-requires-clause-places
give_at-requires-clause-places c = λ j d below. (c.requires.windows j d below).place

pub give_at-requires-clause-still : goal.give_at-requires-clause-still
give_at-requires-clause-still c =
    let world = shape c.args.lists.now in
    let ws = c.args.windows.now in
    let w = get_or ws c.loop-at.at no_window in
    let is = one_at ws c.loop-at.at c.requires.one c.loop-at-test.true in
    subst (λ (b : Rect). IsGivenOff (all_rows c.loop-at.self) b ws c.args.areas.now w.image (image_at world w.image).r) (sym c.rect_of-below.ensures)
    (λ k lower off e. c.loop-at.invariant.fewer w.image k (c.requires.still.others c.loop-at.at w c.loop-at.invariant.past is k lower off e))

pub loop-at-preserved : goal.loop-at-preserved
loop-at-preserved c =
    let rows = all_rows c.args.self.now in
    let world = shape c.args.lists.now in
    let ws = c.args.windows.now in
    let areas = c.args.areas.now in
    let at = c.loop-at.at in
    let later = c.next_near-at-in-loop-at.result in
    let near = c.next_near-at-in-loop-at.ensures in
    let w = get_or ws at no_window in
    let r = (image_at world w.image).r in
    let test = λ (j n : ℕ). shows_of world c.args.p ws j n in
    let past : c.args.from ≤ later = omega (arith, c.loop-at.invariant.past, near.least) in
    let blank = λ (k : ℕ) (from : at + 1 ≤ k) (before : k < later) (below : k < length ws). passed_given rows world c.args.p ws c.args.from areas c.requires.still c.requires.windows c.requires.one k below (λ late. near.off areas c.span-near.ensures k no_window from before below) in
    let same : (j n : ℕ) → ((j == w.image) && (nat_lt n (cell_count r) && not (hides_cell c.rect_of-below.result ws w.image r n))) ≡ test j n w = λ j n i. (j == w.image) && (nat_lt n (cell_count r) && not (hides_cell (c.rect_of-below.ensures i) ws w.image r n)) in
    let fewer : (j n : ℕ) → is_some (cell_at rows j n) ≡ false → is_some (cell_at (all_rows c.give_at.new.self) j n) ≡ false = λ j n e. c.give_at.ensures.given j n ∙ both_none _ _ (c.loop-at.invariant.fewer j n e) in
    record {
      past = past;
      pixels = λ j n x.
          let now = is_some (cell_at (all_rows c.give_at.new.self) j n) in
          let mid = is_some (cell_at (all_rows c.loop-at.self) j n) in
          let y = cell_pixel c.args.self.now j n x in
          let given = c.give_at.ensures.given j n in
          c.give_at.ensures.pixels j n x
          ∙ ap (λ v. if now then v else 0) (c.loop-at.invariant.pixels j n x)
          ∙ ap (λ b. if b then (if mid then y else 0) else 0) given
          ∙ kept_twice _ mid y
          ∙ sym (ap (λ b. if b then y else 0) given);
      more = omega (arith, c.loop-at.invariant.more, c.give_at.ensures.spare);
      given = λ j n.
          let left = list_any (test j n) (drop (at + 1) ws) in
          let mid = is_some (cell_at (all_rows c.loop-at.self) j n) in
          sym (none_to (test j n) (is_some (cell_at (all_rows c.give_at.new.self) j n)) ws (at + 1) later near.least
          (λ k from before below e. fewer j n (given_here rows (image_at world c.args.p).r ws (get_or ws k no_window).image (image_at world (get_or ws k no_window).image).r (blank k from before below) j n e)))
          ∙ ap (λ b. not left && b) (c.give_at.ensures.given j n)
          ∙ ap (λ b. not left && (not b && mid)) (same j n)
          ∙ any_given (test j n w) mid left
          ∙ ap (λ b. not b && mid) (sym (any_next (test j n) ws at c.loop-at-test.true))
          ∙ c.loop-at.invariant.given j n;
      fewer = fewer;
      rows = c.give_at.ensures.rows ∙ c.loop-at.invariant.rows;
      lengths = λ j. c.give_at.ensures.lengths j ∙ c.loop-at.invariant.lengths j;
    }

pub returns-clause-given : goal.returns-clause-given
returns-clause-given c j n =
    let now = is_some (cell_at (all_rows c.loop-at.self) j n) in
    let none = any_done (shows_of (shape c.args.lists.now) c.args.p c.args.windows.now j n) c.args.windows.now c.loop-at.at c.loop-at-test.false in
    ap (λ b. not b && now) (sym none) ∙ c.loop-at.invariant.given j n
