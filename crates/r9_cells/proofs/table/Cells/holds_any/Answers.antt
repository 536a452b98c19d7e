use Rattle.std.proofs.Common.{◌∙◌, ℕ, List, Option, rules, tests, sym, ap}
use Rattle.std.specs.Prelude.{is_some}
use Rattle.std.specs.List.{list_any}
use Rattle.std.proofs.lemmas.Iterator.{YieldsList-from_slice}
use Rattle.std.proofs.lemmas.Iterator.Search.{any_from_yields_List}
use Rattle.r9_cells.proofs.Changed.{below_rows, row_is}
use Rattle.r9_cells.proofs.table.Cells.holds_any.Goals as goal

pub returns : goal.returns
returns c =
    let rows = c.args.self.now.rows.items in
    let row = c.index.result.now in
    let test = λ (cell : Option ℕ). is_some cell in
    let any = any_from_yields_List test _ _ c.any.result c.any.ensures.ran (YieldsList-from_slice row.cells.items cc) (λ x b q k. search (rules, tests)) in
    any ∙ ap (λ (cells : List (Option ℕ)). list_any test cells) (sym (row_is rows c.args.i row (below_rows rows c.args.i c.requires.image) c.index.ensures))
