-- The draw messages that the generator sends, as bytes (draw(3)). Numbers have their low byte first.
use Rattle.std.specs.Prelude.{ℕ, ℤ, List, [], ◌∷◌, ◌++◌}
use Rattle.std.specs.Int.{w32, cast_unsigned}
use Rattle.model_text.specs.text.Number.{two_bytes, four_bytes}
use Rattle.model_history.specs.declared.generator.Place.{Place}
use Rattle.model_history.specs.declared.generator.Area.{Area}

abbrev pub coordinate : ℤ → List ℕ
coordinate z = four_bytes (cast_unsigned w32 z)

unfoldable pub point : Place → List ℕ
point p = coordinate p.x ++ coordinate p.y

unfoldable pub rect : Area → List ℕ
rect r = point r.min ++ point r.max

-- b: an image, on a screen where screenid is not 0
unfoldable pub allocate : (id screenid chan repl : ℕ) (r clipr : Area) (color : ℕ) → List ℕ
allocate id screenid chan repl r clipr color =
    98 ∷ [] ++ four_bytes id ++ four_bytes screenid ++ 0 ∷ [] ++ four_bytes chan ++ repl ∷ [] ++ rect r ++ rect clipr ++ four_bytes color

-- A: an image becomes a screen of one's own
unfoldable pub make_screen : (id imageid fillid : ℕ) → List ℕ
make_screen id imageid fillid = 65 ∷ [] ++ four_bytes id ++ four_bytes imageid ++ four_bytes fillid ++ 0 ∷ []

-- t: one window to the top or to the bottom
unfoldable pub stack : (top id : ℕ) → List ℕ
stack top id = 116 ∷ [] ++ top ∷ [] ++ two_bytes 1 ++ four_bytes id

-- o: a window's corner, in its own coordinates and on its screen
unfoldable pub move_to : (id : ℕ) (corner screen : Place) → List ℕ
move_to id corner screen = 111 ∷ [] ++ four_bytes id ++ point corner ++ point screen

-- d: a drawing
unfoldable pub draw : (id source mask : ℕ) (r : Area) (source_at mask_at : Place) → List ℕ
draw id source mask r source_at mask_at = 100 ∷ [] ++ four_bytes id ++ four_bytes source ++ four_bytes mask ++ rect r ++ point source_at ++ point mask_at
