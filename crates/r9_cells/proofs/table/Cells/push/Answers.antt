use Rattle.r9_cells.proofs.Remade.{kept-pushed}
use Rattle.r9_cells.proofs.table.Cells.push.Goals as goal

pub invariant_of-self : goal.invariant_of-self
invariant_of-self c = record {
  kept = kept-pushed _ c.args.self.now.rows.items (record { cells = c.new-cells.result }) c.push.new.self.items c.args.self.now.store c.new-cells.ensures.items c.push.ensures.items c.args.self.now.kept;
}
