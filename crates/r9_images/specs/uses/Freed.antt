-- What lives, as the definitions have it. The ties and the number of the next one stand beside.
use Rattle.std.specs.Prelude.{◌≡◌, ℕ, ◌==◌, ◌+◌, ◌*◌, ◌≤◌, true, List, [], ◌∷◌, filter, length, vec_capacity}
use Rattle.std.specs.List.{fold}
use Rattle.model_draw_parts.specs.declared.images.Thing.{Thing}
use Rattle.model_draw_parts.specs.declared.images.Thing.TheVariants.{Image, Screen}
use Rattle.model_draw_parts.specs.declared.images.Tie.{Tie}
use Rattle.model_draw_parts.specs.images.Book as model
use Rattle.model_draw_parts.specs.images.Release as release
use Rattle.r9_images.specs.declared.uses.uses.Uses.{Uses}
use Rattle.r9_images.specs.uses.Tally.{knows}

abbrev pub freed_of : Uses → List Tie → ℕ → release.Freed
freed_of u ties next_tie = record {
  book =
      record {
        image_ids = u.image_ids.ids;
        screen_ids = u.screen_ids.ids;
        ties = ties;
        screens = u.screens.screens;
        spare = u.spare.items;
        windows = u.windows.windows;
        next_tie = next_tie;
      };
  gone = u.gone.items;
}

-- where nothing of ties is asked
abbrev pub book_of : Uses → model.Book
book_of u = (freed_of u [] 0).book

-- with what has gone in a list of its own
abbrev pub given : Uses → List Thing → List Tie → ℕ → release.Freed
given u gone ties next_tie = record { book = (freed_of u ties next_tie).book; gone = gone }

-- how many image ids and screen ids a connection has
abbrev pub own_images : Uses → (client : ℕ) → ℕ
own_images u client = length (filter (λ e. e.client == client) u.image_ids.ids)

abbrev pub own_screens : Uses → (client : ℕ) → ℕ
own_screens u client = length (filter (λ e. e.client == client) u.screen_ids.ids)

-- once the image ids of a connection and then its screen ids are freed
abbrev pub left_by : release.Freed → ℕ → release.Freed
left_by freed client =
    fold release.freed_screen_id
    (fold release.freed_image_id freed (filter (λ e. e.client == client) freed.book.image_ids))
    (filter (λ e. e.client == client) freed.book.screen_ids)

-- the thing has an entry in its table, so that it can be marked
abbrev pub IsKnown : Uses → Thing → Type 0
IsKnown u (Image i) = knows u.images.uses i ≡ true
IsKnown u (Screen s) = knows u.numbers.uses s ≡ true

-- how many things may still go: a screen has two images
abbrev pub weight : List Thing → ℕ
weight [] = 0
weight (Image i ∷ things) = 1 + weight things
weight (Screen s ∷ things) = 3 + weight things

-- and a window has a screen
abbrev pub left_of : Uses → List Thing → ℕ
left_of u things = weight things + 3 * length u.windows.windows

-- there is room for so many more things that go
pub record HasRoom (u : Uses) (more : ℕ) : Type 0 where
  pub gone : length u.gone.items + more ≤ vec_capacity u.gone
  pub spare : length u.spare.items + more ≤ vec_capacity u.spare
  pub image : IsKnown u (Image 0)
