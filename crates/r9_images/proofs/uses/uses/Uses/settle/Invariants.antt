use Rattle.std.proofs.Common.{◌≡◌, ◌+◌, ◌≤◌, ℕ, List}
use Rattle.std.specs.Prelude.{All}
use Rattle.model_draw_parts.specs.images.Release as model
use Rattle.model_draw_parts.specs.declared.images.Tie.{Tie}
use Rattle.r9_images.specs.declared.uses.uses.Uses.{Uses}
use Rattle.r9_images.specs.uses.Freed.{freed_of, IsKnown, left_of, HasRoom}
use Rattle.r9_images.specs.uses.Pending.{Things}
use Rattle.r9_images.specs.uses.Room.{room as room_of_all}
use Rattle.r9_images.proofs.uses.uses.Uses.settle.Given as goal

-- what is left to look at gives what all gave
pub record Settling (now start : Uses) (pending first : Things) : Type 0 where
  pub step : (ties : List Tie) (next_tie : ℕ) → model.released (freed_of now ties next_tie) pending.things ≡ model.released (freed_of start ties next_tie) first.things
  pub room : (more : ℕ) → HasRoom start (left_of start first.things + more) → HasRoom now (left_of now pending.things + more)
  pub fewer : left_of now pending.things ≤ left_of start first.things
  pub all : All (IsKnown now) pending.things
  pub more : room_of_all start ≤ room_of_all now
  pub most : pending.most ≡ first.most
  pub image_ids : now.image_ids ≡ start.image_ids
  pub screen_ids : now.screen_ids ≡ start.screen_ids

abbrev pub invariant-settling : goal.invariant-settling
invariant-settling l = Settling l.self l.initial.self l.pending l.initial.pending

abbrev pub decreases-settling : goal.decreases-settling
decreases-settling l = left_of l.self l.pending.things
