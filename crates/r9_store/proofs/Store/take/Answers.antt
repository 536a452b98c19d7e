use Rattle.std.proofs.Common.{◌≡◌, ◌-◌, ◌<◌, ◌∙◌, ℕ, length, get_or, replicate, Some, true, arith, refl, ap, sym, subst}
use Rattle.std.specs.Prelude.{vec_len, is_some, count_by}
use Rattle.r9_store.specs.Sound.{slots_of}
use Rattle.r9_store.specs.Tiles.{spare, Tiles}
use Rattle.r9_store.proofs.Slots.{sound-pushed, sound-taken, sound_held, taken_again, taken_blank, taken_held, taken_new, taken_pixels}
use Rattle.r9_store.proofs.Store.take.Goals as goal

some_is : {a b : ℕ} → Some a ≡ Some b → a ≡ b
some_is e = grind arith

pub invariant_of-self : goal.invariant_of-self
invariant_of-self c =
    let some : 0 < vec_len c.self.inside.given = omega (arith, c.in-Some.ensures.len) in
    let last : c.in-Some.t ≡ get_or c.self.inside.given.items (vec_len c.self.inside.given - 1) 0 = some_is (c.in-Some.ensures.value 0 some) in
    let room = c.self.invariant.1 in (
      rw c.pop.ensures.rest
          (sound-taken c.self.inside.flags.items c.self.inside.tiles.items c.self.inside.given.items c.self.inside.room c.in-Some.t (vec_len c.self.inside.given - 1) c.make_blank.new.tile c.self.invariant.0 (omega (arith, some, c.self.inside.given.ok.0)) last),
      record { tiles_fit = room.tiles_fit; flags_fit = room.flags_fit; given_fit = omega (arith, room.given_fit, c.pop.ensures.capacity) },
    )

pub returns-in-Some-clause-free : goal.returns-in-Some-clause-free
returns-in-Some-clause-free c =
    let some : 0 < vec_len c.self.inside.given = omega (arith, c.in-Some.ensures.len) in
    let last : c.in-Some.t ≡ get_or c.self.inside.given.items (vec_len c.self.inside.given - 1) 0 = some_is (c.in-Some.ensures.value 0 some) in
    let unheld = ap (λ u. get_or c.self.inside.flags.items u true) last ∙ c.self.invariant.0.spare (vec_len c.self.inside.given - 1) (omega (arith, some, c.self.inside.given.ok.0)) in
    let is = taken_again c.self.inside.flags.items c.self.inside.tiles.items c.in-Some.t c.make_blank.new.tile c.make_blank.ensures c.self.invariant.0.same unheld in
    rw (← c.self.view_is) (ap is_some is.free)

pub returns-in-Some-clause-taken : goal.returns-in-Some-clause-taken
returns-in-Some-clause-taken c u =
    let some : 0 < vec_len c.self.inside.given = omega (arith, c.in-Some.ensures.len) in
    let last : c.in-Some.t ≡ get_or c.self.inside.given.items (vec_len c.self.inside.given - 1) 0 = some_is (c.in-Some.ensures.value 0 some) in
    let unheld = ap (λ u. get_or c.self.inside.flags.items u true) last ∙ c.self.invariant.0.spare (vec_len c.self.inside.given - 1) (omega (arith, some, c.self.inside.given.ok.0)) in
    let is = taken_again c.self.inside.flags.items c.self.inside.tiles.items c.in-Some.t c.make_blank.new.tile c.make_blank.ensures c.self.invariant.0.same unheld in
    rw (← c.self.view_is) (taken_held _ _ c.in-Some.t is u)

pub returns-in-Some-clause-blank : goal.returns-in-Some-clause-blank
returns-in-Some-clause-blank c p =
    let some : 0 < vec_len c.self.inside.given = omega (arith, c.in-Some.ensures.len) in
    let last : c.in-Some.t ≡ get_or c.self.inside.given.items (vec_len c.self.inside.given - 1) 0 = some_is (c.in-Some.ensures.value 0 some) in
    let unheld = ap (λ u. get_or c.self.inside.flags.items u true) last ∙ c.self.invariant.0.spare (vec_len c.self.inside.given - 1) (omega (arith, some, c.self.inside.given.ok.0)) in
    let is = taken_again c.self.inside.flags.items c.self.inside.tiles.items c.in-Some.t c.make_blank.new.tile c.make_blank.ensures c.self.invariant.0.same unheld in
    taken_blank _ _ c.in-Some.t is p

pub returns-in-Some-clause-pixels : goal.returns-in-Some-clause-pixels
returns-in-Some-clause-pixels c u p =
    let some : 0 < vec_len c.self.inside.given = omega (arith, c.in-Some.ensures.len) in
    let last : c.in-Some.t ≡ get_or c.self.inside.given.items (vec_len c.self.inside.given - 1) 0 = some_is (c.in-Some.ensures.value 0 some) in
    let unheld = ap (λ u. get_or c.self.inside.flags.items u true) last ∙ c.self.invariant.0.spare (vec_len c.self.inside.given - 1) (omega (arith, some, c.self.inside.given.ok.0)) in
    let is = taken_again c.self.inside.flags.items c.self.inside.tiles.items c.in-Some.t c.make_blank.new.tile c.make_blank.ensures c.self.invariant.0.same unheld in
    rw (← c.self.view_is) (taken_pixels _ _ c.in-Some.t is u p)

pub returns-in-Some-clause-held : goal.returns-in-Some-clause-held
returns-in-Some-clause-held c =
    let some : 0 < vec_len c.self.inside.given = omega (arith, c.in-Some.ensures.len) in
    let last : c.in-Some.t ≡ get_or c.self.inside.given.items (vec_len c.self.inside.given - 1) 0 = some_is (c.in-Some.ensures.value 0 some) in
    let unheld = ap (λ u. get_or c.self.inside.flags.items u true) last ∙ c.self.invariant.0.spare (vec_len c.self.inside.given - 1) (omega (arith, some, c.self.inside.given.ok.0)) in
    let is = taken_again c.self.inside.flags.items c.self.inside.tiles.items c.in-Some.t c.make_blank.new.tile c.make_blank.ensures c.self.invariant.0.same unheld in
    rw (← c.self.view_is) is.more

pub returns-in-Some-clause-spare : goal.returns-in-Some-clause-spare
returns-in-Some-clause-spare c =
    let some : 0 < vec_len c.self.inside.given = omega (arith, c.in-Some.ensures.len) in
    let last : c.in-Some.t ≡ get_or c.self.inside.given.items (vec_len c.self.inside.given - 1) 0 = some_is (c.in-Some.ensures.value 0 some) in
    let unheld = ap (λ u. get_or c.self.inside.flags.items u true) last ∙ c.self.invariant.0.spare (vec_len c.self.inside.given - 1) (omega (arith, some, c.self.inside.given.ok.0)) in
    let is = taken_again c.self.inside.flags.items c.self.inside.tiles.items c.in-Some.t c.make_blank.new.tile c.make_blank.ensures c.self.invariant.0.same unheld in
    let free : 0 < c.self.inside.room - count_by is_some (slots_of c.self.inside.flags.items c.self.inside.tiles.items) = subst (λ (store : Tiles). 0 < spare store) (sym c.self.view_is) c.requires in
    rw (← c.self.view_is) (omega (arith, is.more, free))

pub push_blank-requires : goal.push_blank-requires
push_blank-requires c =
    let sound = c.self.invariant.0 in
    let all = sound_held c.self.inside.flags.items c.self.inside.tiles.items c.self.inside.given.items c.self.inside.room sound in
    let free : 0 < c.self.inside.room - count_by is_some (slots_of c.self.inside.flags.items c.self.inside.tiles.items) = subst (λ (store : Tiles). 0 < spare store) (sym c.self.view_is) c.requires in
    omega (arith, all, free, sound.same, c.in-None.ensures.cases, c.self.invariant.1.tiles_fit, c.self.inside.tiles.ok.0, c.self.inside.given.ok.0)

pub push_reserved-requires : goal.push_reserved-requires
push_reserved-requires c =
    let sound = c.self.invariant.0 in
    let all = sound_held c.self.inside.flags.items c.self.inside.tiles.items c.self.inside.given.items c.self.inside.room sound in
    let free : 0 < c.self.inside.room - count_by is_some (slots_of c.self.inside.flags.items c.self.inside.tiles.items) = subst (λ (store : Tiles). 0 < spare store) (sym c.self.view_is) c.requires in
    omega (arith, all, free, sound.same, c.in-None.ensures.cases, c.self.invariant.1.flags_fit, c.self.inside.flags.ok.0, c.self.inside.given.ok.0)

pub invariant_of-self-in-None : goal.invariant_of-self-in-None
invariant_of-self-in-None c =
    let sound = c.self.invariant.0 in
    let room = c.self.invariant.1 in
    let all = sound_held c.self.inside.flags.items c.self.inside.tiles.items c.self.inside.given.items c.self.inside.room sound in
    let free : 0 < c.self.inside.room - count_by is_some (slots_of c.self.inside.flags.items c.self.inside.tiles.items) = subst (λ (store : Tiles). 0 < spare store) (sym c.self.view_is) c.requires in (
      rw (c.push_blank.ensures.items, c.push_reserved.ensures.items)
          (sound-pushed c.self.inside.flags.items c.self.inside.tiles.items c.self.inside.given.items c.pop.new.self.items c.self.inside.room (replicate 1024 0) sound (omega (arith, c.in-None.ensures.cases, c.self.inside.given.ok.0)) (omega (arith, c.in-None.ensures.cases, c.pop.new.self.ok.0)) (omega (arith, all, free, sound.same, c.in-None.ensures.cases, c.self.inside.given.ok.0))),
      record { tiles_fit = omega (arith, room.tiles_fit, c.push_blank.ensures.capacity); flags_fit = omega (arith, room.flags_fit, c.push_reserved.ensures.capacity); given_fit = omega (arith, room.given_fit, c.pop.ensures.capacity) },
    )

pub returns-in-None-clause-free : goal.returns-in-None-clause-free
returns-in-None-clause-free c =
    let is = taken_new c.self.inside.flags.items c.self.inside.tiles.items (replicate 1024 0) refl c.self.invariant.0.same in
    let number : c.len-t.result ≡ length c.self.inside.tiles.items = omega (arith, c.len-t.ensures, c.self.inside.tiles.ok.0) in
    rw (← c.self.view_is, number) (ap is_some is.free)

pub returns-in-None-clause-taken : goal.returns-in-None-clause-taken
returns-in-None-clause-taken c u =
    let is = taken_new c.self.inside.flags.items c.self.inside.tiles.items (replicate 1024 0) refl c.self.invariant.0.same in
    let number : c.len-t.result ≡ length c.self.inside.tiles.items = omega (arith, c.len-t.ensures, c.self.inside.tiles.ok.0) in
    rw (← c.self.view_is, number, c.push_blank.ensures.items, c.push_reserved.ensures.items) (taken_held _ _ (length c.self.inside.tiles.items) is u)

pub returns-in-None-clause-blank : goal.returns-in-None-clause-blank
returns-in-None-clause-blank c p =
    let is = taken_new c.self.inside.flags.items c.self.inside.tiles.items (replicate 1024 0) refl c.self.invariant.0.same in
    let number : c.len-t.result ≡ length c.self.inside.tiles.items = omega (arith, c.len-t.ensures, c.self.inside.tiles.ok.0) in
    rw (number, c.push_blank.ensures.items, c.push_reserved.ensures.items) (taken_blank _ _ (length c.self.inside.tiles.items) is p)

pub returns-in-None-clause-pixels : goal.returns-in-None-clause-pixels
returns-in-None-clause-pixels c u p =
    let is = taken_new c.self.inside.flags.items c.self.inside.tiles.items (replicate 1024 0) refl c.self.invariant.0.same in
    let number : c.len-t.result ≡ length c.self.inside.tiles.items = omega (arith, c.len-t.ensures, c.self.inside.tiles.ok.0) in
    rw (← c.self.view_is, c.push_blank.ensures.items, c.push_reserved.ensures.items) (taken_pixels _ _ (length c.self.inside.tiles.items) is u p)

pub returns-in-None-clause-held : goal.returns-in-None-clause-held
returns-in-None-clause-held c =
    let is = taken_new c.self.inside.flags.items c.self.inside.tiles.items (replicate 1024 0) refl c.self.invariant.0.same in
    let number : c.len-t.result ≡ length c.self.inside.tiles.items = omega (arith, c.len-t.ensures, c.self.inside.tiles.ok.0) in
    rw (← c.self.view_is, c.push_blank.ensures.items, c.push_reserved.ensures.items) is.more

pub returns-in-None-clause-spare : goal.returns-in-None-clause-spare
returns-in-None-clause-spare c =
    let is = taken_new c.self.inside.flags.items c.self.inside.tiles.items (replicate 1024 0) refl c.self.invariant.0.same in
    let number : c.len-t.result ≡ length c.self.inside.tiles.items = omega (arith, c.len-t.ensures, c.self.inside.tiles.ok.0) in
    let free : 0 < c.self.inside.room - count_by is_some (slots_of c.self.inside.flags.items c.self.inside.tiles.items) = subst (λ (store : Tiles). 0 < spare store) (sym c.self.view_is) c.requires in
    rw (← c.self.view_is, c.push_blank.ensures.items, c.push_reserved.ensures.items) (omega (arith, is.more, free))
