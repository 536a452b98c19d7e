-- The draw messages by which a client that points shows a menu's bands in a window (draw(3)).
use Rattle.std.specs.Prelude.{ℕ, ◌+◌, ◌*◌, List, [], ◌∷◌, ◌++◌, codes}
use Rattle.std.specs.Fmt.{decimal}
use Rattle.std.specs.List.{flat_map}
use Rattle.model_text.specs.text.Number.{four_bytes}
use Rattle.model_clients.specs.client.Messages.{drawing, named}
use Rattle.model_clients.specs.page.Text.{box, origin}

-- f: an image id goes
unfoldable pub freed : (id : ℕ) → List ℕ
freed id = 102 ∷ [] ++ four_bytes id

-- a band of a menu whose min is there, 40 wide and 16 high
abbrev pub band : (x y item : ℕ) → List ℕ
band x y item = drawing 7 (2 + item) 1 (box (x + 4) (y + 4 + 16 * item) (x + 44) (y + 20 + 16 * item)) origin origin

-- The window's first image gets an id for as long as the bands are drawn.
unfoldable pub bands : (window x y : ℕ) → List ℕ
bands window x y =
    named 7 (codes "window." ++ decimal window ++ codes ".1")
    ++ flat_map (band x y) (0 ∷ 1 ∷ 2 ∷ 3 ∷ 4 ∷ [])
    ++ freed 7
