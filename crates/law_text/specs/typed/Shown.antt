-- The pages after the pieces of a text (rio(4), draw(3)).
use Rattle.std.specs.Prelude.{ℕ, List, [], ◌∷◌}
use Rattle.model_client.specs.textwin.Moves.{screen}
use Rattle.model_client.specs.textwin.Wrap.{Page, wrapped}
use Rattle.model_clients.specs.page.Text.{Shape}

-- the pages after each of these pieces of a text, from the page on that stands before them
abbrev pub pages : Shape → Page → List (List ℕ) → List (List (List ℕ))
pages shape page [] = []
pages shape page (piece ∷ more) = screen shape.rows (wrapped shape.columns page piece) ∷ pages shape (wrapped shape.columns page piece) more
