use Rattle.std.proofs.Common.{◌≡◌, ◌≤◌, ℕ, true, drop}
use Rattle.std.specs.List.{list_any}
use Rattle.model_draw_parts.specs.images.Release.{same_thing}
use Rattle.model_draw_parts.specs.declared.images.Thing.TheVariants.{Image, Screen}
use Rattle.r9_images.specs.uses.Tally.{count_of, gone_of, room_of}
use Rattle.r9_images.proofs.uses.freeing.forget_all.Given as goal

abbrev pub invariant-loop-thing : goal.invariant-loop-thing
invariant-loop-thing l =
    ((q : ℕ) → count_of l.images.uses q ≡ count_of l.initial.images.uses q)
    × ((q : ℕ) → count_of l.numbers.uses q ≡ count_of l.initial.numbers.uses q)
    × ((q : ℕ) → gone_of l.images.uses q ≡ true → list_any (same_thing (Image q)) (drop l.thing-index l.gone) ≡ true)
    × ((q : ℕ) → gone_of l.numbers.uses q ≡ true → list_any (same_thing (Screen q)) (drop l.thing-index l.gone) ≡ true)
    × (room_of l.initial.images.uses l.initial.images.made ≤ room_of l.images.uses l.images.made)
    × (room_of l.initial.numbers.uses l.initial.numbers.made ≤ room_of l.numbers.uses l.numbers.made)
