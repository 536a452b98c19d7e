use Rattle.std.proofs.Common.{◌≡◌, ◌==◌, ◌≤◌, ℕ, true, filter, length}
use Rattle.std.specs.Prelude.{not}
use Rattle.r9_images.specs.declared.uses.uses.Uses.{Uses}
use Rattle.r9_images.specs.uses.Room.{room as room_of_all}
use Rattle.r9_images.specs.uses.Tally.{knows}
use Rattle.r9_images.proofs.uses.uses.Uses.take_windows.Given as goal

-- so far no window of another image has gone
pub record Closing (image : ℕ) (now start : Uses) : Type 0 where
  pub others : filter (λ w. not (w.image == image)) now.windows.windows ≡ filter (λ w. not (w.image == image)) start.windows.windows
  pub known : (q : ℕ) → knows start.numbers.uses q ≡ true → knows now.numbers.uses q ≡ true
  pub room : start.windows.room ≤ now.windows.room
  pub more : room_of_all start ≤ room_of_all now
  pub image_ids : now.image_ids ≡ start.image_ids
  pub screen_ids : now.screen_ids ≡ start.screen_ids
  pub images : now.images ≡ start.images
  pub screens : now.screens ≡ start.screens
  pub spare : now.spare ≡ start.spare
  pub gone : now.gone ≡ start.gone

abbrev pub invariant-closing : goal.invariant-closing
invariant-closing l = Closing l.image l.self l.initial.self

abbrev pub decreases-closing : goal.decreases-closing
decreases-closing l = length l.self.windows.windows
