use Rattle.r9_region.proofs.Points.{how_many_is}
use Rattle.r9_region.proofs.Region.parts.Goals as goal

pub returns-clause-once : goal.returns-clause-once
returns-clause-once c p = rw (c.deref.ensures.value, ← c.self.view_is) (how_many_is c.self.inside.parts.items p (c.self.invariant.apart p))
