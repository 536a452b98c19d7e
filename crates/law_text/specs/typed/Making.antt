-- The draw device while the client makes what it writes with (draw(3)).
use Rattle.std.specs.Prelude.{ℕ, false, List, [], ◌∷◌, codes, Option, Some, None}
use Rattle.model_draw_parts.specs.fonts.Font.{Font}
use Rattle.model_forest.specs.World.{World as Images}
use Rattle.model_draw_parts.specs.images.Book.{Book}
use Rattle.model_draw_parts.specs.declared.images.ImageId.{ImageId}
use Rattle.model_draw.specs.draw.World.{Client, World, s_over_d}
use Rattle.model_world.specs.Whole.{client}
use Rattle.model_world.specs.World.{display_of}
use Rattle.model_clients.specs.typed.Typing.{display}

-- the client's connection
abbrev pub connection : ℕ
connection = client 1 1

abbrev pub image_id : (client id image : ℕ) → Option ℕ → ImageId
image_id client id image tie = record { client = client; id = id; image = image; tie = tie }

-- the display, the root rio's fill and the window are images 0 to 2, and the client has these ids
abbrev pub book : List ImageId → Book
book own = record {
  image_ids = image_id 0 0 0 None ∷ image_id 0 1 2 None ∷ own;
  screen_ids = record { client = 0; id = 0; screen = 0; public = false } ∷ [];
  ties = record { name = codes "window.1.1"; number = 0; image = 2; client = 0; id = 1 } ∷ [];
  screens = Some (record { image = 0; fill = 1 }) ∷ [];
  spare = [];
  windows = record { image = 2; screen = 0 } ∷ [];
  next_tie = 1;
}

-- so many images were made
abbrev pub device : (images : Images) (made : ℕ) (own : List ImageId) → Client → World
device images made own c = record {
  opening = display_of display;
  images = images;
  numbers = record { made = made; spare = [] };
  book = book own;
  clients = (connection, c) ∷ [];
}

abbrev pub has : (described : ℕ) (sizes : List (ℕ × ℕ)) (fonts : List (ℕ × Font)) → Client
has described sizes fonts = record { op = s_over_d; described = described; pending = []; sizes = sizes; fonts = fonts }
