-- The draw device while a client that points makes the colours of the bands, and when it has them before the first event (draw(3)).
use Rattle.std.specs.Prelude.{ℕ, ◌+◌, true, false, List, [], ◌∷◌, length, map, Some, None}
use Rattle.r9_event.specs.declared.event.event.Event.TheVariants.{Begin}
use Rattle.model_pixel.specs.Channels.{colour_of, pack}
use Rattle.model_draw.specs.imgfile.ImageFile.{rows_len}
use Rattle.model_forest.specs.World.{World as Images}
use Rattle.model_forest.specs.Steps.{after_image, after_set}
use Rattle.model_draw_parts.specs.declared.images.ImageId.{ImageId}
use Rattle.model_draw_parts.specs.images.Book.{Book}
use Rattle.model_draw.specs.draw.World as draw
use Rattle.model_draw.specs.draw.World.{new_client}
use Rattle.model_draw.specs.draw.Making.{overhead}
use Rattle.law_likeness.specs.likeness.Likeness.{display_id}
use Rattle.model_world.specs.World.{World, display_of, opened}
use Rattle.model_world.specs.Replay.{step}
use Rattle.law_text.specs.client.Saying.{AreAnswered}
use Rattle.model_clients.specs.page.Text.{dot, everywhere, rgb24}
use Rattle.model_client.specs.desk.Table.{start}
use Rattle.law_desk.specs.piloted.Following.{IsDeskIn}
use Rattle.model_clients.specs.piloted.History.{display, opening, opening_replies}
use Rattle.law_menus.specs.inked.Inked.{IsInked, connection}

-- An id of the client's, of an image that it made. The display and the root rio's fill are images 0 and 1.
abbrev pub own_id : ℕ → ImageId
own_id id = record { client = connection; id = id; image = id + 1; tie = None }

-- the ids of the display and of the root rio's screen, and these of the client's
abbrev pub book : List ℕ → Book
book ids = record {
  image_ids = display_id ∷ map own_id ids;
  screen_ids = record { client = 0; id = 0; screen = 0; public = false } ∷ [];
  ties = [];
  screens = Some (record { image = 0; fill = 1 }) ∷ [];
  spare = [];
  windows = [];
  next_tie = 0;
}

-- the device when it has made images with these ids
abbrev pub device : Images → (ids : List ℕ) → draw.World
device images ids = record {
  opening = display_of display;
  images = images;
  numbers = record { made = 2 + length ids; spare = [] };
  book = book ids;
  clients = (connection, record new_client { sizes = map (λ id. (id, rows_len rgb24 dot + overhead)) ids }) ∷ [];
}

-- one more image, which has a colour everywhere
abbrev pub with_ink : Images → (number color : ℕ) → Images
with_ink images number color = after_set (after_image images number dot rgb24 (pack rgb24 (colour_of color))) number true everywhere

-- All that is said before the first event is answered without an error. There is no window then, and the client has what it draws with.
pub record IsOpened : Type 0 where
  pub left : World
  pub answered : AreAnswered (step (opened display) (Begin 1)).world opening left opening_replies
  pub at : IsDeskIn start left
  pub inked : IsInked left.desktop.device left.desktop.table
