use Rattle.std.proofs.Common.{arith}
use Rattle.r9_store.proofs.Slots.{sound_held}
use Rattle.r9_store.proofs.Store.held.Goals as goal

pub returns-clause-value : goal.returns-clause-value
returns-clause-value c =
    let all = sound_held c.self.inside.flags.items c.self.inside.tiles.items c.self.inside.given.items c.self.inside.room c.self.invariant.0 in
    rw (← c.self.view_is) (omega (arith, all, c.len.ensures, c.len-2.ensures, c.self.inside.tiles.ok.0, c.self.inside.given.ok.0))

pub returns-clause-most : goal.returns-clause-most
returns-clause-most c =
    let sound = c.self.invariant.0 in
    let all = sound_held c.self.inside.flags.items c.self.inside.tiles.items c.self.inside.given.items c.self.inside.room sound in
    rw (← c.self.view_is) (omega (arith, all, sound.same, sound.holds_all, sound.most, c.len.ensures, c.len-2.ensures, c.self.inside.tiles.ok.0, c.self.inside.given.ok.0))
