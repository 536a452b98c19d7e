use Rattle.std.proofs.Common.{arith, ap}
use Rattle.r9_store.specs.Tiles.{held, Tiles}
use Rattle.r9_store.proofs.Slots.{sound_held}
use Rattle.r9_store.proofs.Store.spare.Goals as goal

pub overflow_sub-result : goal.overflow_sub-result
overflow_sub-result c =
    let sound = c.self.invariant.0 in
    let all = sound_held c.self.inside.flags.items c.self.inside.tiles.items c.self.inside.given.items c.self.inside.room sound in
    omega (arith, all, sound.same, sound.holds_all, c.held.ensures.value, ap (λ (store : Tiles). held store) c.self.view_is)
