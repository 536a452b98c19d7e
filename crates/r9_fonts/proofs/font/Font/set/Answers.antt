use Rattle.std.proofs.Common.{◌^◌, ℕ, List, nat_cmp, sym, subst}
use Rattle.std.specs.Map.{lookup}
use Rattle.std.specs.BTreeMap.{get, is_at}
use Rattle.model_draw_parts.specs.declared.fonts.Cell.{Cell}
use Rattle.model_draw_parts.specs.fonts.Font.{Font, AreWithin}
use Rattle.model_draw_parts.proofs.fonts.Within.{within-with}
use Rattle.r9_fonts.specs.Kept.{cells_of}
use Rattle.r9_fonts.proofs.Kept.{kept, on_ok, with-kept, without-kept}
use Rattle.r9_fonts.proofs.font.Font.set.Goals as goal
use Rattle.r9_fonts.proofs.font.Font.set.Goals.{in-Ok, in-Err}

pub returns-then-not-has-clause-refused : goal.returns-then-not-has-clause-refused
returns-then-not-has-clause-refused c = without-kept c.args.self.now c.args.index c.args.cell (sym c.if-not-has.ensures)

pub returns-clause-ok : goal.returns-clause-ok
returns-clause-ok c = elim c.match-insert.branch [
  | in-Ok w ↦
      on_ok c.match-insert.result
      (with-kept c.args.self.now c.self.inside.ascent c.self.inside.count (get nat_cmp c.self.inside.set) (get nat_cmp c.insert.new.self) c.args.index c.args.cell c.self.view_is (w.in-Ok.ensures.updates.0) (sym c.if-not-has.ensures))
  | in-Err w ↦ rw w.result-is tt
]

pub invariant_of-self : goal.invariant_of-self
invariant_of-self c = elim c.match-insert.branch [
  | in-Ok w ↦
      let after = kept c.self.inside.ascent c.self.inside.count (get nat_cmp c.insert.new.self) in
      within-with (2 ^ 33) c.args.self.now after c.args.index c.args.cell c.requires (subst (λ (f : Font). AreWithin (2 ^ 33) f.cells) c.self.view_is c.self.invariant)
      (with-kept c.args.self.now c.self.inside.ascent c.self.inside.count (get nat_cmp c.self.inside.set) (get nat_cmp c.insert.new.self) c.args.index c.args.cell c.self.view_is (w.in-Ok.ensures.updates.0) (sym c.if-not-has.ensures))
  | in-Err w ↦ subst (λ (es : List (ℕ × Cell)). AreWithin (2 ^ 33) (cells_of c.self.inside.count (λ k. lookup (is_at (nat_cmp k)) es))) (sym w.in-Err.ensures.err) c.self.invariant
]
