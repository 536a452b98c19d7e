use Rattle.std.proofs.Common.{◌≡◌, ◌==◌, ◌+◌, ◌*◌, ◌≤◌, ℕ, [], List, filter, length}
use Rattle.std.specs.List.{fold}
use Rattle.model_draw_parts.specs.images.Release as model
use Rattle.model_draw_parts.specs.declared.images.Tie.{Tie}
use Rattle.r9_images.specs.declared.uses.uses.Uses.{Uses}
use Rattle.r9_images.specs.uses.Freed.{freed_of, own_screens, HasRoom}
use Rattle.r9_images.specs.uses.Pending.{Things}
use Rattle.r9_images.specs.uses.Room.{room as room_of_all}
use Rattle.r9_images.proofs.uses.uses.Uses.drop_screen_ids.Given as goal

-- the ids that are left give what all gave
pub record Dropping (client : ℕ) (now start : Uses) (pending first : Things) : Type 0 where
  pub step :
      (ties : List Tie) (next_tie : ℕ)
      → fold model.freed_screen_id (freed_of now ties next_tie) (filter (λ e. e.client == client) now.screen_ids.ids)
      ≡ fold model.freed_screen_id (freed_of start ties next_tie) (filter (λ e. e.client == client) start.screen_ids.ids)
  pub room :
      (more : ℕ) → HasRoom start (3 * own_screens start client + 3 * length start.windows.windows + more)
      → HasRoom now (3 * own_screens now client + 3 * length now.windows.windows + more)
  pub fewer : 3 * own_screens now client + 3 * length now.windows.windows ≤ 3 * own_screens start client + 3 * length start.windows.windows
  pub none : pending.things ≡ []
  pub more : room_of_all start ≤ room_of_all now
  pub most : pending.most ≡ first.most
  pub image_ids : now.image_ids ≡ start.image_ids

abbrev pub invariant-dropping : goal.invariant-dropping
invariant-dropping l = Dropping l.client l.self l.initial.self l.pending l.initial.pending

abbrev pub decreases-dropping : goal.decreases-dropping
decreases-dropping l = length l.self.screen_ids.ids
