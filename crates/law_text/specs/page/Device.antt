-- When a draw device shows a page to the connection that writes it (draw(3)).
use Rattle.std.specs.Prelude.{◌≡◌, ℕ, List, length, Some, Ok}
use Rattle.model_text.specs.text.Map.{lookup}
use Rattle.model_draw_parts.specs.fonts.Font.{Font}
use Rattle.model_draw.specs.draw.World.{Client, World, look}
use Rattle.model_draw.specs.draw.Orders.{image_shown}
use Rattle.model_clients.specs.page.Text as text
use Rattle.model_clients.specs.page.Text.{Shape}
use Rattle.law_text.specs.page.Page.{IsTextFont, Numbers, Shows}

-- The connection has the ids of the images and the font, and its next drawing is with SoverD.
pub record ShowsTo (k : ℕ) (shape : Shape) (pixels : List ℕ) (n : Numbers) (rows : List (List ℕ)) (device : World) : Type 0 where
  pub client : Client
  pub connected : lookup device.clients k ≡ Some client
  pub over : client.op ≡ 11
  pub font : Font
  pub has_font : lookup client.fonts text.letters ≡ Some font
  pub is_font : IsTextFont shape font
  pub white_id : look device k text.white ≡ Ok n.white
  pub black_id : look device k text.black ≡ Ok n.black
  pub letters_id : look device k text.letters ≡ Ok n.letters
  pub window_id : look device k text.window ≡ Ok n.window
  -- which is the image of the window manager's window 1
  pub managed : image_shown device 1 ≡ n.window
  pub all : length rows ≡ shape.rows
  pub shows : Shows shape pixels n rows device.images
