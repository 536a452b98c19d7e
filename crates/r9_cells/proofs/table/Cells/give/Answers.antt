use Rattle.std.proofs.Common.{◌≡◌, ◌∙◌, None, List, Option, ℕ, length, refl, sym, ap, subst}
use Rattle.std.specs.Prelude.{is_some, cond, not, ◌==◌, ◌&&◌, Bool, true, false}
use Rattle.r9_cells.specs.Rows.{cell_at, pixel_at, row_at, rows_of, IsKept}
use Rattle.r9_cells.proofs.Changed.{below_rows, cell_inside, cell_read, cell_other, kept-give, lengths_changed, rows_changed, some_changed}
use Rattle.r9_cells.proofs.Pixels.{pixels-give}
use Rattle.r9_cells.proofs.table.Cells.give.Goals as goal

pub invariant_of-self : goal.invariant_of-self
invariant_of-self c =
    let rows = c.args.self.now.rows.items in
    let at = cell_inside (rows_of rows) c.args.i c.args.k c.requires in
    let now = rows_changed rows c.args.i c.args.k None c.index_mut.result.now _ (below_rows rows c.args.i at.0) c.index_mut.ensures.value refl in
    record {
      kept =
          subst (λ (r : List (List (Option ℕ))). IsKept r c.give.new.self) (sym now)
          (kept-give (rows_of rows) c.args.i c.args.k c.in-Some.tile c.args.self.now.store c.give.new.self at.0 at.1 (cell_read rows c.args.i c.args.k c.index.result.now c.index-2.result.now (below_rows rows c.args.i at.0) c.index.ensures at.1 c.index-2.ensures ∙ c.in-Some.is) c.give.ensures.given c.give.ensures.held c.args.self.now.kept);
    }

pub returns-in-Some-clause-given : goal.returns-in-Some-clause-given
returns-in-Some-clause-given c j l =
    let rows = c.args.self.now.rows.items in
    let at = cell_inside (rows_of rows) c.args.i c.args.k c.requires in
    let now = rows_changed rows c.args.i c.args.k None c.index_mut.result.now _ (below_rows rows c.args.i at.0) c.index_mut.ensures.value refl in
    ap (λ (r : List (List (Option ℕ))). is_some (cell_at r j l)) now
    ∙ some_changed (rows_of rows) c.args.i c.args.k None j l at.0 at.1
    ∙ by_here ((j == c.args.i) && (l == c.args.k)) (is_some (cell_at (rows_of rows) j l))
  where
    by_here : (a b : Bool) → cond a false b ≡ (not a && b)
    by_here true b = refl
    by_here false b = refl

pub returns-in-Some-clause-others : goal.returns-in-Some-clause-others
returns-in-Some-clause-others c j l differ =
    let rows = c.args.self.now.rows.items in
    let at = cell_inside (rows_of rows) c.args.i c.args.k c.requires in
    let now = rows_changed rows c.args.i c.args.k None c.index_mut.result.now _ (below_rows rows c.args.i at.0) c.index_mut.ensures.value refl in
    ap (λ (r : List (List (Option ℕ))). cell_at r j l) now ∙ cell_other (rows_of rows) c.args.i c.args.k None j l at.0 differ

pub returns-in-Some-clause-pixels : goal.returns-in-Some-clause-pixels
returns-in-Some-clause-pixels c j l p =
    let rows = c.args.self.now.rows.items in
    let at = cell_inside (rows_of rows) c.args.i c.args.k c.requires in
    let now = rows_changed rows c.args.i c.args.k None c.index_mut.result.now _ (below_rows rows c.args.i at.0) c.index_mut.ensures.value refl in
    ap (λ (r : List (List (Option ℕ))). pixel_at r c.give.new.self j l p) now
    ∙ pixels-give (rows_of rows) c.args.i c.args.k c.in-Some.tile c.args.self.now.store c.give.new.self at.0 at.1 (cell_read rows c.args.i c.args.k c.index.result.now c.index-2.result.now (below_rows rows c.args.i at.0) c.index.ensures at.1 c.index-2.ensures ∙ c.in-Some.is) c.give.ensures.pixels c.args.self.now.kept j l p

pub returns-in-Some-clause-lengths : goal.returns-in-Some-clause-lengths
returns-in-Some-clause-lengths c j =
    let rows = c.args.self.now.rows.items in
    let at = cell_inside (rows_of rows) c.args.i c.args.k c.requires in
    let now = rows_changed rows c.args.i c.args.k None c.index_mut.result.now _ (below_rows rows c.args.i at.0) c.index_mut.ensures.value refl in
    ap (λ (r : List (List (Option ℕ))). length (row_at r j)) now ∙ lengths_changed (rows_of rows) c.args.i c.args.k None at.0 j
