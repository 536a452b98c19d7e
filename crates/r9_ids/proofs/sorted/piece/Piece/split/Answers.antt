use Rattle.std.proofs.Common.{◌∙◌, ap, drop, arith}
use Rattle.r9_ids.specs.declared.sorted.piece.TheConstants.{HALF}
use Rattle.r9_ids.proofs.sorted.Inside.{low-done, high-is, high-done}
use Rattle.r9_ids.proofs.sorted.piece.Piece.split.Goals as goal

pub invariant_of-self : goal.invariant_of-self
invariant_of-self g c =
    (low-done g.T.Keyed.key_of HALF c.self.inside.rows.items c.truncate.new.self.items c.self.invariant.0 c.truncate.ensures.items, omega (arith, c.self.invariant.1, c.truncate.ensures.capacity))

pub invariant_of-upper : goal.invariant_of-upper
invariant_of-upper g c =
    let high = high-is g.T.Keyed.key_of HALF c.self.inside.rows.items c.deref.result.now c.upper.inside.rows.items c.args.upper.now c.extend_from_slice.new.self.items c.deref.ensures.value c.upper.view_is c.requires.empty c.in-Ok.ensures.items in
    (high-done g.T.Keyed.key_of HALF c.self.inside.rows.items c.extend_from_slice.new.self.items c.self.invariant.0 high, omega (arith, c.upper.invariant.1, c.in-Ok.ensures.capacity))

pub returns-clause-upper : goal.returns-clause-upper
returns-clause-upper g c =
    high-is g.T.Keyed.key_of HALF c.self.inside.rows.items c.deref.result.now c.upper.inside.rows.items c.args.upper.now c.extend_from_slice.new.self.items c.deref.ensures.value c.upper.view_is c.requires.empty c.in-Ok.ensures.items
    ∙ ap (drop HALF) c.self.view_is
