use Rattle.std.proofs.Common.{sym, subst, List, Option, ℕ}
use Rattle.r9_cells.specs.Rows.{rows_of, IsKept}
use Rattle.r9_cells.proofs.Remade.{kept-blank, rows_set}
use Rattle.r9_cells.proofs.table.Cells.set_row.Goals as goal

pub invariant_of-self : goal.invariant_of-self
invariant_of-self c = record {
  kept =
      subst (λ (r : List (List (Option ℕ))). IsKept r c.args.self.now.store) (sym (rows_set c.args.self.now.rows.items c.args.i c.args.row))
      (kept-blank (rows_of c.args.self.now.rows.items) c.args.i c.args.row.cells.items c.args.self.now.store c.requires.image c.requires.none c.requires.blank c.args.self.now.kept);
}

pub returns-clause-rows : goal.returns-clause-rows
returns-clause-rows c = rows_set c.args.self.now.rows.items c.args.i c.args.row
