-- What a client that points has of a draw device between two events of the mouse, to draw the bands of menus with (draw(3)).
use Rattle.std.specs.Prelude.{◌≡◌, ◌<◌, ◌+◌, ℕ, List, [], ◌∷◌, slice_index, Some, None, All}
use Rattle.r9_event.specs.declared.event.rio.Order.{Order}
use Rattle.r9_event.specs.declared.event.rio.Order.TheVariants.{Make, Replace}
use Rattle.model_text.specs.text.Map.{lookup}
use Rattle.model_pixel.specs.Channels.{colour_of, pack}
use Rattle.model_draw_parts.specs.declared.images.Tie.{Tie}
use Rattle.model_draw_parts.specs.images.Book.{image_id}
use Rattle.model_draw.specs.draw.World.{Client, World, at_number, s_over_d}
use Rattle.model_draw.specs.draw.Orders as orders
use Rattle.model_draw.specs.draw.Orders.{manager}
use Rattle.model_rio.specs.rio.Table.{Table, name_by}
use Rattle.law_shown.specs.fitting.Fitting.{Shows}
use Rattle.law_likeness.specs.likeness.Likeness.{AreNumbered}
use Rattle.law_likeness.specs.whole.Steady.{IsSteady}
use Rattle.law_others.specs.apart.Apart.{IsApart}
use Rattle.model_world.specs.Whole.{client}
use Rattle.model_clients.specs.page.Text.{rgb24}
use Rattle.law_text.specs.page.Page.{IsColour}
use Rattle.model_clients.specs.piloted.History.{colours}
use Rattle.law_menus.specs.pens.Pens.{pens}

-- the client's connection
abbrev pub connection : ℕ
connection = client 1 1

-- ---- names

-- a name of a window of the root rio whose number is its serial
abbrev pub IsNameOf : (window : ℕ) → (name : List ℕ) → Type 0
IsNameOf window name = (generation : ℕ) × (name ≡ name_by (window ∷ []) generation)

-- a tie that the manager made by its id of a window, of a name of that window
pub record IsWindowTie (t : Tie) : Type 0 where
  pub client : t.client ≡ manager
  pub name : IsNameOf t.id t.name

-- an order that gives a window an image gives it a name of that window
abbrev pub IsNamedOrder : Order → Type 0
IsNamedOrder (Make window host r name hide depth) = IsNameOf window name
IsNamedOrder (Replace window host r name keep hidden) = IsNameOf window name
IsNamedOrder _ = Unit {0}

-- ---- the images

-- an image of the client's, which has one of its ids 1 to 6
abbrev pub IsPen : (number : ℕ → ℕ) → (image : ℕ) → Type 0
IsPen number i = (id : ℕ) × (0 < id) × (id < 7) × (number id ≡ i)

-- Its ids 1 to 6 show white and the colours of the bands, it has no id 7, and its next drawing is with SoverD. Nothing else in the
-- device refers to these images, each name is one that a window has from the manager, and the device shows the windows of a table.
pub record IsInked (device : World) (table : Table) : Type 0 where
  pub steady : IsSteady device
  pub shows : Shows device table
  pub numbers : AreNumbered device.book
  pub ties : All IsWindowTie device.book.ties
  pub channels : device.opening.chan ≡ rgb24
  -- the image of each id
  pub number : ℕ → ℕ
  pub apart : IsApart (pens (IsPen number)) device
  pub ids : (id : ℕ) → 0 < id → id < 7 → image_id device.book connection id ≡ Some (record { client = connection; id = id; image = number id; tie = None })
  pub free : image_id device.book connection 7 ≡ None
  pub white : IsColour (at_number device (number 1)) (orders.white rgb24)
  pub inks : (item : ℕ) → item < 5 → IsColour (at_number device (number (2 + item))) (pack rgb24 (colour_of (slice_index colours item)))
  pub client : Client
  pub connected : lookup device.clients connection ≡ Some client
  pub over : client.op ≡ s_over_d
