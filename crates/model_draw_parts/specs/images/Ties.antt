-- What the ties of a book keep: the image of each is that which the id shows that made it.
use Rattle.std.specs.Prelude.{◌≡◌, ℕ, All, Option, Some, option_map}
use Rattle.model_draw_parts.specs.images.Book.{Book, image_id}

-- the image that an id shows, also where the id's own tie has ended
abbrev pub shown_by : Book → (client id : ℕ) → Option ℕ
shown_by book client id = option_map (λ e. e.image) (image_id book client id)

-- each tie's image is shown by the id that made it, so that an image with a name is used
pub record HasTies (book : Book) : Type 0 where
  pub shown : All (λ t. shown_by book t.client t.id ≡ Some t.image) book.ties
