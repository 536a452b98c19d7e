-- The books that the calls on names leave where they are not refused.
use Rattle.std.specs.Prelude.{ℕ, ◌==◌, ◌+◌, List, [], ◌∷◌, ◌++◌, filter, not}
use Rattle.model_draw_parts.specs.declared.images.ImageId.{ImageId}
use Rattle.model_draw_parts.specs.images.Book.{Book, put_image_id}

-- with one more tie
abbrev pub with_tie : Book → (client id image : ℕ) → (name : List ℕ) → Book
with_tie book client id image name = record book {
  ties = book.ties ++ record { name = name; number = book.next_tie; image = image; client = client; id = id } ∷ [];
  next_tie = book.next_tie + 1;
}

-- without the tie of a number
abbrev pub without_tie : Book → (number : ℕ) → Book
without_tie book number = record book { ties = filter (λ e. not (e.number == number)) book.ties }

-- with one more image id
abbrev pub with_image_id : Book → ImageId → Book
with_image_id book e = record book { image_ids = put_image_id e book.image_ids }
