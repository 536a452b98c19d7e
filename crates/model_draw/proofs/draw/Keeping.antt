-- Orders that end no connection leave all connections as they are.
use Rattle.std.proofs.Common.{◌≡◌, ◌∙◌, ℕ, Bool, List, [], ◌∷◌, fold, refl}
use Rattle.std.specs.Prelude.{if◌then◌else◌}
use Rattle.std.proofs.lemmas.Bool.{cond_both}
use Rattle.std.proofs.lemmas.List.Elements.{All-head, All-tail}
use Rattle.r9_geom.specs.declared.Point.{Point}
use Rattle.r9_geom.specs.declared.Rect.{Rect}
use Rattle.r9_event.specs.declared.event.rio.Order.{Order}
use Rattle.r9_event.specs.declared.event.rio.Order.TheVariants.{Make, Place, Replace, Raise, Lower, Drop, Host, Leave, Size}
use Rattle.r9_event.specs.event.Orders.{EndsNoConnection, EndNoConnection}
use Rattle.model_draw_parts.specs.declared.images.Thing.{Thing}
use Rattle.model_draw_parts.specs.declared.images.Thing.TheVariants.{Image, Screen}
use Rattle.model_draw_parts.specs.images.Release.{Freed}
use Rattle.model_pixel.specs.Channels.{colour_of, pack}
use Rattle.model_forest.specs.Draw.{after_fill}
use Rattle.model_forest.specs.Steps.{outside}
use Rattle.model_draw.specs.draw.World.{World, after_freed, at_number, next_image, with_book, with_images, without_thing}
use Rattle.model_draw.specs.draw.Making.{with_made}
use Rattle.model_draw.specs.draw.Orders.{after_order, carried_out, bordered, drop_window, fits, host_rio, image_freed, image_shown, inside_border, make_window, next_white, ordered, place_window, replace_window, resize_display, rio_screen, screen_freed}

pub gone-clients : (things : List Thing) (world : World) → (fold without_thing world things).clients ≡ world.clients
gone-clients [] world = refl
gone-clients (Image i ∷ things) world = gone-clients things (without_thing world (Image i))
gone-clients (Screen s ∷ things) world = gone-clients things world

pub freed-clients : (world : World) (freed : Freed) → (after_freed world freed).clients ≡ world.clients
freed-clients world freed = gone-clients freed.gone (with_book world freed.book)

make-clients : (world : World) (window host : ℕ) (r : Rect) (name : List ℕ) (hide : Bool) → (make_window world window host r name hide).clients ≡ world.clients
unfolding make_window
make-clients world window host r name hide = refl

place-clients : (world : World) (window : ℕ) (at : Point) → (place_window world window at).clients ≡ world.clients
unfolding place_window
place-clients world window at = refl

replace-clients : (world : World) (window host : ℕ) (r : Rect) (name : List ℕ) (keep hidden : Bool) → (replace_window world window host r name keep hidden).clients ≡ world.clients
unfolding replace_window
replace-clients world window host r name keep hidden =
    let i = next_image world in
    let images = next_white world (image_shown world window) (rio_screen world host) r keep hidden in
    freed-clients (with_made world (if keep then images else bordered images i) world.book) (image_freed world.book window)

drop-clients : (world : World) (window : ℕ) → (drop_window world window).clients ≡ world.clients
unfolding drop_window
drop-clients world window =
    let left = place_window world window outside in
    let closed = after_freed left (screen_freed left.book window) in
    freed-clients closed (image_freed closed.book window) ∙ freed-clients left (screen_freed left.book window) ∙ place-clients world window outside

host-clients : (world : World) (window : ℕ) (fill : Bool) → (host_rio world window fill).clients ≡ world.clients
unfolding host_rio
host-clients world window fill =
    let i = image_shown world window in
    let image = at_number world i in
    let grey = pack image.chan (colour_of 0x777777ff) in
    let filled = if fill then after_fill world.images i (inside_border image.r) grey else world.images in
    freed-clients (with_images world filled) (screen_freed world.book window)

size-clients : (world : World) (width height : ℕ) → (resize_display world width height).clients ≡ world.clients
unfolding resize_display
size-clients world width height = refl

after-clients : (world : World) (order : Order) → EndsNoConnection order → (after_order world order).clients ≡ world.clients
after-clients world (Make window host r name hide depth) none = make-clients world window host r name hide
after-clients world (Place window at) none = place-clients world window at
after-clients world (Replace window host r name keep hidden) none = replace-clients world window host r name keep hidden
after-clients world (Raise window) none = refl
after-clients world (Lower window) none = refl
after-clients world (Drop window) none = drop-clients world window
after-clients world (Host window fill) none = host-clients world window fill
after-clients world (Leave client) none = absurd none
after-clients world (Size width height) none = size-clients world width height

ordered-clients : (world : World) (order : Order) → EndsNoConnection order → (ordered world order).clients ≡ world.clients
ordered-clients world order none =
    cond_both (fits world order) (after_order world order) world (λ after. after.clients ≡ world.clients) (λ _. after-clients world order none) (λ _. refl)

pub carried-clients : (orders : List Order) (world : World) → EndNoConnection orders → (carried_out world orders).clients ≡ world.clients
carried-clients [] world none = refl
carried-clients (order ∷ orders) world none =
    carried-clients orders (ordered world order) (All-tail EndsNoConnection order orders none) ∙ ordered-clients world order (All-head EndsNoConnection order orders none)
