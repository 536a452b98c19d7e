use Rattle.std.proofs.Common.{◌≡◌, ◌==◌, ◌+◌, ◌*◌, ◌≤◌, ℕ, [], List, filter, length}
use Rattle.std.specs.List.{fold}
use Rattle.model_draw_parts.specs.images.Release as model
use Rattle.model_draw_parts.specs.declared.images.Tie.{Tie}
use Rattle.r9_images.specs.declared.uses.uses.Uses.{Uses}
use Rattle.r9_images.specs.uses.Freed.{freed_of, own_images, HasRoom}
use Rattle.r9_images.specs.uses.Pending.{Things}
use Rattle.r9_images.specs.uses.Room.{room as room_of_all}
use Rattle.r9_images.proofs.uses.uses.Uses.drop_image_ids.Given as goal

-- the ids that are left give what all gave
pub record Dropping (client : ℕ) (now start : Uses) (pending first : Things) : Type 0 where
  pub step :
      (ties : List Tie) (next_tie : ℕ)
      → fold model.freed_image_id (freed_of now ties next_tie) (filter (λ e. e.client == client) now.image_ids.ids)
      ≡ fold model.freed_image_id (freed_of start ties next_tie) (filter (λ e. e.client == client) start.image_ids.ids)
  pub room :
      (more : ℕ) → HasRoom start (own_images start client + 3 * length start.windows.windows + more)
      → HasRoom now (own_images now client + 3 * length now.windows.windows + more)
  pub fewer : own_images now client + 3 * length now.windows.windows ≤ own_images start client + 3 * length start.windows.windows
  pub none : pending.things ≡ []
  pub more : room_of_all start ≤ room_of_all now
  pub most : pending.most ≡ first.most
  pub screen_ids : now.screen_ids ≡ start.screen_ids

abbrev pub invariant-dropping : goal.invariant-dropping
invariant-dropping l = Dropping l.client l.self l.initial.self l.pending l.initial.pending

abbrev pub decreases-dropping : goal.decreases-dropping
decreases-dropping l = length l.self.image_ids.ids
