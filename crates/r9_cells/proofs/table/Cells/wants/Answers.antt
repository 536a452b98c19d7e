use Rattle.std.proofs.Common.{◌≡◌, ◌∙◌, false, sym, ap}
use Rattle.std.specs.Prelude.{◌&&◌, is_some, not}
use Rattle.std.proofs.lemmas.Bool.{and_from}
use Rattle.r9_cells.specs.Rows.{cell_at}
use Rattle.r9_cells.specs.Cells.{all_rows}
use Rattle.r9_cells.specs.Fitting.{hides_at, meets}
use Rattle.r9_cells.specs.Walking.{cell_out}
use Rattle.r9_cells.proofs.table.Cells.wants.Goals as goal

pub returns-then-all : goal.returns-then-all
returns-then-all c =
    let out = cell_out c.args.walk.now in
    let m = meets c.args.areas.now out in
    let h = hides_at c.args.below.now c.args.upper.now out in
    let s = is_some (cell_at (all_rows c.args.self.now) c.args.i c.args.k) in
    let known = c.requires.known c.if-all.true in
    let none : s ≡ false = sym c.has.ensures ∙ c.if-has.false in
    sym (and_from m (h && not s) known.0 (and_from h (not s) known.1 (ap not none)))
