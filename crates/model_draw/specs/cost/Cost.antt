-- What is asked of images costs: the most pixels that carrying it out may write, counted in points (draw(3), rio(4)). A drawing, a load
-- and a fill cost their points. A window that is made or goes costs twice the points of its place, and one that gets another place, or
-- another position among its neighbours, twice those where it stood and twice those where it stands then.
use Rattle.std.specs.Prelude.{ℕ, zero, suc, ◌+◌, ◌-◌, ◌*◌, ◌==◌, Bool, List, [], ◌∷◌, Some, None, Ok, Err, is_some, if◌then◌else◌}
use Rattle.std.specs.List.{sum_by}
use Rattle.r9_geom.specs.declared.Rect.{Rect}
use Rattle.r9_geom.specs.Geometry.{area_of}
use Rattle.r9_event.specs.declared.event.rio.Order.{Order}
use Rattle.r9_event.specs.declared.event.rio.Order.TheVariants.{Make, Place, Replace, Raise, Lower, Drop, Host, Leave, Size}
use Rattle.model_text.specs.text.Outcome.{Outcome}
use Rattle.model_draw_parts.specs.dmsg.Message.{Message, LowB, LowD, LowF, UpF, LowL, LowO, LowS, LowT, LowX, LowY}
use Rattle.model_draw_parts.specs.dmsg.Reading.{first_message}
use Rattle.model_forest.specs.World.{World as Images, image_at, parent_of}
use Rattle.model_forest.specs.Draw.{Drawing}
use Rattle.model_forest.specs.Cost.{area}
use Rattle.model_forest.specs.Steps.{outside}
use Rattle.model_draw_parts.specs.declared.images.Thing.{Thing}
use Rattle.model_draw_parts.specs.declared.images.Thing.TheVariants.{Image, Screen}
use Rattle.model_draw_parts.specs.images.Release.{free_id, free_screen, leave}
use Rattle.model_draw.specs.draw.World.{World, after_freed, at_number, look}
use Rattle.model_draw.specs.draw.Act.{one_message, spelled}
use Rattle.model_draw.specs.draw.Drawing.{drawing_of}
use Rattle.model_draw.specs.draw.Moving.{look_window, look_windows}
use Rattle.model_draw.specs.draw.Writing.{s_alone, string_drawings, unmasked}
use Rattle.model_draw.specs.draw.Orders.{fits, image_freed, image_shown, inside_border, ordered, place_window, rio_screen, screen_freed, stands_on}

-- ---- images

-- a window comes, or goes
abbrev pub coming : Rect → ℕ
coming r = 2 * area_of r

-- a window of these sides gets another place, or another position
abbrev pub moving : Rect → ℕ
moving r = 4 * area_of r

-- the points of a drawing
abbrev pub drawing_cost : Images → Drawing → ℕ
drawing_cost images d = area_of (area images d)

-- an image goes: nothing shows newly where it stood nowhere
abbrev pub going : Images → Thing → ℕ
going images (Image i) = if is_some (parent_of images i) then coming (image_at images i).r else 0
going images (Screen s) = 0

abbrev pub going_all : Images → List Thing → ℕ
going_all images things = sum_by (going images) things

-- ---- messages

-- what is found costs so much; nothing, where it is refused
abbrev pub of_found : {A : Type 0} → (A → ℕ) → Outcome A → ℕ
of_found cost (Ok a) = cost a
of_found cost (Err n) = 0

-- the sides of a window
abbrev pub window_moved : World → ℕ → ℕ
window_moved world i = moving (at_number world i).r

-- a message of connection k that is not refused
unfoldable pub message_cost : ℕ → World → Message → ℕ
message_cost k world (LowB id screenid refresh chan repl r clipr color) = if screenid == 0 then 0 else coming r
message_cost k world (LowD dstid srcid maskid dstr srcp maskp) =
    of_found (drawing_cost world.images) (drawing_of k world dstid srcid maskid dstr srcp maskp)
message_cost k world (LowF id) = of_found (λ freed. going_all world.images freed.gone) (free_id world.book k id)
message_cost k world (UpF id) = of_found (λ freed. going_all world.images freed.gone) (free_screen world.book k id)
message_cost k world (LowL cacheid srcid index r sp left width) =
    of_found (λ dst. of_found (λ src. drawing_cost world.images (unmasked dst r r src sp s_alone)) (look world k srcid))
    (look world k cacheid)
message_cost k world (LowO id rmin scr) = of_found (window_moved world) (look_window world k id)
message_cost k world (LowS writing) = of_found (sum_by (drawing_cost world.images)) (string_drawings k world writing None)
message_cost k world (LowT top ids) = of_found (sum_by (window_moved world)) (look_windows world k ids)
message_cost k world (LowX writing bgid bgp) =
    of_found (sum_by (drawing_cost world.images)) (string_drawings k world writing (Some (bgid, bgp)))
message_cost k world (LowY id r) = area_of r
message_cost k world m = 0

-- the message that stands first in bytes
abbrev pub first_cost : ℕ → World → List ℕ → ℕ
first_cost k world bytes = of_found (λ m. message_cost k world m.0) (spelled (first_message bytes))

-- the first so many messages of a write; up to the first that is refused
abbrev pub messages_cost : (most k : ℕ) → World → List ℕ → ℕ
messages_cost zero k world bytes = 0
messages_cost (suc most) k world bytes =
    elim (one_message k world None 0 bytes) [
      | Ok next ↦ first_cost k world bytes + messages_cost most k next.0 next.1
      | Err refusal ↦ 0
    ]

-- ---- orders, and connections that end

-- a connection ends, and what nothing refers to any more goes
unfoldable pub leave_cost : World → (client : ℕ) → ℕ
leave_cost world client = going_all world.images (leave world.book client).gone

-- the rectangle of a window's image
abbrev pub rect_shown : World → (window : ℕ) → Rect
rect_shown world window = (at_number world (image_shown world window)).r

-- the points of a window's border
abbrev pub border : Rect → ℕ
border r = area_of r - area_of (inside_border r)

-- a window gets another image: that comes, once more where it stands on another image than the old one, and the old one moves and goes
unfoldable pub replacing : World → (window host : ℕ) → Rect → (keep : Bool) → ℕ
replacing world window host r keep =
    let onto = if stands_on world.book (image_shown world window) (rio_screen world host) then 0 else area_of r in
    coming r + onto + moving (rect_shown world window) + (if keep then 0 else border r)
    + going_all world.images (image_freed world.book window).gone

-- a window moves far outside, then the screen of the rio in it goes, and then its image, where nothing refers to it
unfoldable pub dropping : World → (window : ℕ) → ℕ
dropping world window =
    let left = place_window world window outside in
    let closed = after_freed left (screen_freed left.book window) in
    moving (rect_shown world window) + going_all left.images (screen_freed left.book window).gone
    + going_all closed.images (image_freed closed.book window).gone

-- an order that fits
unfoldable pub order_cost : World → Order → ℕ
order_cost world (Make window host r name hide depth) = coming r + border r
order_cost world (Place window at) = moving (rect_shown world window)
order_cost world (Replace window host r name keep hidden) = replacing world window host r keep
order_cost world (Raise window) = moving (rect_shown world window)
order_cost world (Lower window) = moving (rect_shown world window)
order_cost world (Drop window) = dropping world window
order_cost world (Host window fill) =
    (if fill then area_of (inside_border (rect_shown world window)) else 0) + going_all world.images (screen_freed world.book window).gone
order_cost world (Leave client) = leave_cost world client
order_cost world (Size width height) = 2 * area_of (rect_shown world 0) + 2 * (width * height)

-- orders that are carried out one after the other; one that does not fit costs nothing
abbrev pub orders_cost : World → List Order → ℕ
orders_cost world [] = 0
orders_cost world (order ∷ orders) =
    (if fits world order then order_cost world order else 0) + orders_cost (ordered world order) orders
