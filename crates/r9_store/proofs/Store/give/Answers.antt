use Rattle.std.proofs.Common.{arith}
use Rattle.r9_store.proofs.Slots.{count_most, flag_below, given_count, given_held, given_pixels, held_flag, slots_count, sound-given}
use Rattle.r9_store.proofs.Store.give.Goals as goal

pub index_mut-requires : goal.index_mut-requires
index_mut-requires c =
    let held = held_flag c.self.inside.flags.items c.self.inside.tiles.items c.self.inside.room c.t.inside.0 c.args.t c.args.self.now c.self.view_is c.t.view_is c.self.invariant.0.same c.requires in
    omega (arith, flag_below c.self.inside.flags.items c.t.inside.0 held, c.self.inside.flags.ok.0)

pub push_reserved-requires : goal.push_reserved-requires
push_reserved-requires c =
    let held = held_flag c.self.inside.flags.items c.self.inside.tiles.items c.self.inside.room c.t.inside.0 c.args.t c.args.self.now c.self.view_is c.t.view_is c.self.invariant.0.same c.requires in
    let sound = c.self.invariant.0 in
    let fewer = given_count c.self.inside.flags.items c.self.inside.tiles.items c.t.inside.0 sound.same held in
    omega (arith, fewer, slots_count c.self.inside.flags.items c.self.inside.tiles.items sound.same, sound.count, sound.holds_all, c.self.invariant.1.given_fit, c.self.inside.given.ok.0)

pub invariant_of-self : goal.invariant_of-self
invariant_of-self c =
    let held = held_flag c.self.inside.flags.items c.self.inside.tiles.items c.self.inside.room c.t.inside.0 c.args.t c.args.self.now c.self.view_is c.t.view_is c.self.invariant.0.same c.requires in
    let room = c.self.invariant.1 in (
      rw c.push_reserved.ensures.items
          (sound-given c.self.inside.flags.items c.self.inside.tiles.items c.self.inside.given.items c.self.inside.room c.t.inside.0 c.self.invariant.0 held),
      record { tiles_fit = room.tiles_fit; flags_fit = omega (arith, room.flags_fit); given_fit = omega (arith, room.given_fit, c.push_reserved.ensures.capacity) },
    )

pub returns-clause-given : goal.returns-clause-given
returns-clause-given c u =
    let held = held_flag c.self.inside.flags.items c.self.inside.tiles.items c.self.inside.room c.t.inside.0 c.args.t c.args.self.now c.self.view_is c.t.view_is c.self.invariant.0.same c.requires in
    rw (← c.self.view_is, ← c.t.view_is)
    (given_held c.self.inside.flags.items c.self.inside.tiles.items c.t.inside.0 c.self.invariant.0.same (flag_below c.self.inside.flags.items c.t.inside.0 held) u)

pub returns-clause-pixels : goal.returns-clause-pixels
returns-clause-pixels c u p =
    let held = held_flag c.self.inside.flags.items c.self.inside.tiles.items c.self.inside.room c.t.inside.0 c.args.t c.args.self.now c.self.view_is c.t.view_is c.self.invariant.0.same c.requires in
    rw (← c.self.view_is, ← c.t.view_is)
    (given_pixels c.self.inside.flags.items c.self.inside.tiles.items c.t.inside.0 c.self.invariant.0.same (flag_below c.self.inside.flags.items c.t.inside.0 held) u p)

pub returns-clause-held : goal.returns-clause-held
returns-clause-held c =
    let held = held_flag c.self.inside.flags.items c.self.inside.tiles.items c.self.inside.room c.t.inside.0 c.args.t c.args.self.now c.self.view_is c.t.view_is c.self.invariant.0.same c.requires in
    rw (← c.self.view_is)
    (given_count c.self.inside.flags.items c.self.inside.tiles.items c.t.inside.0 c.self.invariant.0.same held)

pub returns-clause-spare : goal.returns-clause-spare
returns-clause-spare c =
    let held = held_flag c.self.inside.flags.items c.self.inside.tiles.items c.self.inside.room c.t.inside.0 c.args.t c.args.self.now c.self.view_is c.t.view_is c.self.invariant.0.same c.requires in
    let sound = c.self.invariant.0 in
    let fewer = given_count c.self.inside.flags.items c.self.inside.tiles.items c.t.inside.0 sound.same held in
    let most = count_most c.self.inside.flags.items in
    let all = slots_count c.self.inside.flags.items c.self.inside.tiles.items sound.same in
    rw (← c.self.view_is) (omega (arith, fewer, most, all, sound.holds_all))
