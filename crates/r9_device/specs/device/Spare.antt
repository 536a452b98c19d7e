-- The numbers of screens that came back.
use Rattle.std.specs.Prelude.{◌≡◌, ◌==◌, ◌&&◌, ℕ, Bool, true, not, nat_lt, is_some, List, [], ◌∷◌, length, slice_index_or, Option, None}
use Rattle.std.specs.List.{list_any}
use Rattle.model_draw_parts.specs.declared.images.Screen.{Screen}
use Rattle.model_draw_parts.specs.images.Book.{Book}

-- each was given out and is the number of no screen now, and stands once
unfoldable pub are_free : List (Option Screen) → List ℕ → Bool
are_free screens [] = true
are_free screens (s ∷ ss) =
    nat_lt s (length screens) && not (is_some (slice_index_or screens s None)) && not (list_any (λ t. t == s) ss)
    && are_free screens ss

abbrev pub AreSpare : Book → Type 0
AreSpare book = are_free book.screens book.spare ≡ true
