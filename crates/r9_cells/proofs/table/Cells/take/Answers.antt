use Rattle.std.proofs.Common.{◌≡◌, ◌∙◌, Some, List, Option, ℕ, length, refl, sym, ap, subst}
use Rattle.std.specs.Prelude.{is_some, cond, ◌==◌, ◌&&◌, ◌||◌, Bool, true, false}
use Rattle.r9_cells.specs.Rows.{cell_at, pixel_at, row_at, rows_of, IsKept}
use Rattle.r9_cells.proofs.Changed.{below_rows, cell_other, kept-take, lengths_changed, rows_changed, some_changed}
use Rattle.r9_cells.proofs.Pixels.{pixels-take}
use Rattle.r9_cells.proofs.table.Cells.take.Goals as goal

pub invariant_of-self : goal.invariant_of-self
invariant_of-self c =
    let rows = c.args.self.now.rows.items in
    let t = c.take-tile.result in
    let now = rows_changed rows c.args.i c.args.k (Some t) c.index_mut.result.now _ (below_rows rows c.args.i c.requires.image) c.index_mut.ensures.value refl in
    record {
      kept =
          subst (λ (r : List (List (Option ℕ))). IsKept r c.take-tile.new.self) (sym now)
          (kept-take (rows_of rows) c.args.i c.args.k t c.args.self.now.store c.take-tile.new.self c.requires.image c.requires.cell c.requires.none c.take-tile.ensures.free c.take-tile.ensures.taken c.take-tile.ensures.held c.args.self.now.kept);
    }

pub returns-clause-taken : goal.returns-clause-taken
returns-clause-taken c j l =
    let rows = c.args.self.now.rows.items in
    let t = c.take-tile.result in
    let now = rows_changed rows c.args.i c.args.k (Some t) c.index_mut.result.now _ (below_rows rows c.args.i c.requires.image) c.index_mut.ensures.value refl in
    ap (λ (r : List (List (Option ℕ))). is_some (cell_at r j l)) now
    ∙ some_changed (rows_of rows) c.args.i c.args.k (Some t) j l c.requires.image c.requires.cell
    ∙ by_here ((j == c.args.i) && (l == c.args.k)) (is_some (cell_at (rows_of rows) j l))
  where
    by_here : (a b : Bool) → cond a true b ≡ (a || b)
    by_here true b = refl
    by_here false b = refl

pub returns-clause-others : goal.returns-clause-others
returns-clause-others c j l differ =
    let rows = c.args.self.now.rows.items in
    let t = c.take-tile.result in
    let now = rows_changed rows c.args.i c.args.k (Some t) c.index_mut.result.now _ (below_rows rows c.args.i c.requires.image) c.index_mut.ensures.value refl in
    ap (λ (r : List (List (Option ℕ))). cell_at r j l) now ∙ cell_other (rows_of rows) c.args.i c.args.k (Some t) j l c.requires.image differ

pub returns-clause-pixels : goal.returns-clause-pixels
returns-clause-pixels c j l p =
    let rows = c.args.self.now.rows.items in
    let t = c.take-tile.result in
    let now = rows_changed rows c.args.i c.args.k (Some t) c.index_mut.result.now _ (below_rows rows c.args.i c.requires.image) c.index_mut.ensures.value refl in
    ap (λ (r : List (List (Option ℕ))). pixel_at r c.take-tile.new.self j l p) now
    ∙ pixels-take (rows_of rows) c.args.i c.args.k t c.args.self.now.store c.take-tile.new.self c.requires.image c.requires.cell c.requires.none c.take-tile.ensures.blank c.take-tile.ensures.pixels j l p

pub returns-clause-lengths : goal.returns-clause-lengths
returns-clause-lengths c j =
    let rows = c.args.self.now.rows.items in
    let t = c.take-tile.result in
    let now = rows_changed rows c.args.i c.args.k (Some t) c.index_mut.result.now _ (below_rows rows c.args.i c.requires.image) c.index_mut.ensures.value refl in
    ap (λ (r : List (List (Option ℕ))). length (row_at r j)) now ∙ lengths_changed (rows_of rows) c.args.i c.args.k (Some t) c.requires.image j
