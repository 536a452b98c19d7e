-- The messages that make white and the colours of the bands are not refused.
use Rattle.std.proofs.Common.{◌≡◌, ◌<◌, ◌+◌, ◌^◌, ℕ, List, [], ◌∷◌, ◌++◌, length, ◌≤◌, Ok, refl, arith}
use Rattle.model_pixel.specs.Channels.{channels}
use Rattle.model_pixel.specs.Rows.{row_bytes}
use Rattle.model_draw_parts.specs.dmsg.Message.{LowB}
use Rattle.model_forest.specs.World.{World as Images}
use Rattle.model_draw_parts.specs.images.Book.{add_id, new_screen}
use Rattle.model_draw.specs.draw.World as draw
use Rattle.model_draw.specs.draw.World.{after_connect}
use Rattle.model_draw.specs.draw.Making.{allocate}
use Rattle.model_draw.specs.draw.Act.{act, behind}
use Rattle.model_draw.specs.draw.Orders.{with_root_rio}
use Rattle.model_world.specs.World.{display_of}
use Rattle.model_clients.specs.client.Messages.{image}
use Rattle.law_text.proofs.client.Messages.{IsRect, image_first, is_coordinate}
use Rattle.law_text.proofs.client.Writes.{Leads, leads_message, leads_then}
use Rattle.model_clients.specs.page.Text.{dot, everywhere, rgb24}
use Rattle.model_clients.specs.bands.Bands.{inks}
use Rattle.model_clients.specs.piloted.History.{display}
use Rattle.law_menus.specs.inked.Inked.{connection}
use Rattle.law_menus.specs.inking.Inking.{device, with_ink}

-- ---- one message

-- an image of a colour, which gets the next id
abbrev Makes : Images → (ids : List ℕ) → (id color : ℕ) → Type 0
Makes images ids id color = (rest : List ℕ) → act connection (device images ids) (LowB id 0 0 rgb24 1 dot everywhere color) rest ≡ Ok (device (with_ink images (id + 1) color) (ids ++ id ∷ []))

module _ (images : Images) where
  makes_white : Makes images [] 1 0xffffffff
  unfolding act allocate add_id channels row_bytes
  makes_white rest = refl

  makes_red : Makes images (1 ∷ []) 2 0xff0000ff
  unfolding act allocate add_id channels row_bytes
  makes_red rest = refl

  makes_green : Makes images (1 ∷ 2 ∷ []) 3 0x00ff00ff
  unfolding act allocate add_id channels row_bytes
  makes_green rest = refl

  makes_blue : Makes images (1 ∷ 2 ∷ 3 ∷ []) 4 0x0000ffff
  unfolding act allocate add_id channels row_bytes
  makes_blue rest = refl

  makes_yellow : Makes images (1 ∷ 2 ∷ 3 ∷ 4 ∷ []) 5 0xffff00ff
  unfolding act allocate add_id channels row_bytes
  makes_yellow rest = refl

  makes_grey : Makes images (1 ∷ 2 ∷ 3 ∷ 4 ∷ 5 ∷ []) 6 0x808080ff
  unfolding act allocate add_id channels row_bytes
  makes_grey rest = refl

dot_fits : IsRect dot
dot_fits = ((is_coordinate 0 (omega arith), is_coordinate 0 (omega arith)), (is_coordinate 1 (omega arith), is_coordinate 1 (omega arith)))

everywhere_fits : IsRect everywhere
everywhere_fits = ((is_coordinate 0 (omega arith), is_coordinate 0 (omega arith)), (is_coordinate 0x3fffffff (omega arith), is_coordinate 0x3fffffff (omega arith)))

behind_image : (world : draw.World) (id color : ℕ) (rest : List ℕ) → behind connection world (LowB id 0 0 rgb24 1 dot everywhere color) rest ≡ rest
unfolding behind
behind_image world id color rest = refl

leads_ink : (images : Images) (ids : List ℕ) (id color : ℕ) → Makes images ids id color → id < 2 ^ 32 → color < 2 ^ 32
    → Leads connection (device images ids) (device (with_ink images (id + 1) color) (ids ++ id ∷ [])) (image id rgb24 1 dot everywhere color)
leads_ink images ids id color makes id_fits color_fits =
    leads_message connection (device images ids) (device (with_ink images (id + 1) color) (ids ++ id ∷ [])) (LowB id 0 0 rgb24 1 dot everywhere color) (image id rgb24 1 dot everywhere color)
    (λ rest. image_first id rgb24 1 dot everywhere color rest id_fits (omega arith) (omega arith) dot_fits everywhere_fits color_fits)
    makes
    (λ rest. behind_image (device images ids) id color rest)

-- ---- all of them

-- the images before the first, and after each
abbrev pub first_images : Images
first_images = (with_root_rio (draw.started (display_of display))).images

abbrev pub with_white : Images
with_white = with_ink first_images 2 0xffffffff

abbrev pub with_red : Images
with_red = with_ink with_white 3 0xff0000ff

abbrev pub with_green : Images
with_green = with_ink with_red 4 0x00ff00ff

abbrev pub with_blue : Images
with_blue = with_ink with_green 5 0x0000ffff

abbrev pub with_yellow : Images
with_yellow = with_ink with_blue 6 0xffff00ff

abbrev pub last_images : Images
last_images = with_ink with_yellow 7 0x808080ff

-- the device before the first, and after the last
abbrev pub first_device : draw.World
first_device = device first_images []

abbrev pub last_device : draw.World
last_device = device last_images (1 ∷ 2 ∷ 3 ∷ 4 ∷ 5 ∷ 6 ∷ [])

-- it is that of a server with one connection
pub device_is : after_connect (with_root_rio (draw.started (display_of display))) connection ≡ first_device
unfolding with_root_rio draw.started add_id new_screen
device_is = refl

pub leads_inks : Leads connection first_device last_device inks
unfolding inks
leads_inks =
    let white = leads_ink first_images [] 1 0xffffffff (makes_white first_images) (omega arith) (omega arith) in
    let red = leads_ink with_white (1 ∷ []) 2 0xff0000ff (makes_red with_white) (omega arith) (omega arith) in
    let green = leads_ink with_red (1 ∷ 2 ∷ []) 3 0x00ff00ff (makes_green with_red) (omega arith) (omega arith) in
    let blue = leads_ink with_green (1 ∷ 2 ∷ 3 ∷ []) 4 0x0000ffff (makes_blue with_green) (omega arith) (omega arith) in
    let yellow = leads_ink with_blue (1 ∷ 2 ∷ 3 ∷ 4 ∷ []) 5 0xffff00ff (makes_yellow with_blue) (omega arith) (omega arith) in
    let grey = leads_ink with_yellow (1 ∷ 2 ∷ 3 ∷ 4 ∷ 5 ∷ []) 6 0x808080ff (makes_grey with_yellow) (omega arith) (omega arith) in
    leads_then connection first_device (device with_yellow (1 ∷ 2 ∷ 3 ∷ 4 ∷ 5 ∷ [])) last_device _ (image 6 rgb24 1 dot everywhere 0x808080ff)
    (leads_then connection first_device (device with_blue (1 ∷ 2 ∷ 3 ∷ 4 ∷ [])) (device with_yellow (1 ∷ 2 ∷ 3 ∷ 4 ∷ 5 ∷ [])) _ (image 5 rgb24 1 dot everywhere 0xffff00ff)
    (leads_then connection first_device (device with_green (1 ∷ 2 ∷ 3 ∷ [])) (device with_blue (1 ∷ 2 ∷ 3 ∷ 4 ∷ [])) _ (image 4 rgb24 1 dot everywhere 0x0000ffff)
    (leads_then connection first_device (device with_red (1 ∷ 2 ∷ [])) (device with_green (1 ∷ 2 ∷ 3 ∷ [])) _ (image 3 rgb24 1 dot everywhere 0x00ff00ff)
    (leads_then connection first_device (device with_white (1 ∷ [])) (device with_red (1 ∷ 2 ∷ [])) (image 1 rgb24 1 dot everywhere 0xffffffff) (image 2 rgb24 1 dot everywhere 0xff0000ff) white red) green) blue) yellow) grey

-- and they are few bytes
pub inks_short : length inks ≤ 65537
unfolding inks image
inks_short = omega arith
