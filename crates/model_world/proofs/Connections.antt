-- Which connections a draw device has, before and after each thing that a session does with it.
use Rattle.std.proofs.Common.{◌≡◌, ℕ, zero, suc, ◌+◌, Bool, true, false, List, [], ◌∷◌, Option, Some, None, Ok, Err, refl, ◌∙◌, arith}
use Rattle.std.specs.Prelude.{ℤ, not, ◌||◌, nat_lt, if◌then◌else◌}
use Rattle.std.specs.Option.{option_map_or}
use Rattle.std.specs.List.{fold, list_any}
use Rattle.std.proofs.lemmas.Bool.{cond_both}
use Rattle.std.specs.Map.{keys_of}
use Rattle.std.proofs.lemmas.Map.{keys-set_value}
use Rattle.std.proofs.lemmas.Grind.{common_steps}
use Rattle.r9_geom.specs.declared.Rect.{Rect}
use Rattle.r9_geom.specs.declared.Point.{Point}
use Rattle.model_text.specs.text.Outcome.{Outcome, ◌>>=◌, refuse_if}
use Rattle.model_text.specs.text.Map.{is_key}
use Rattle.model_draw_parts.specs.dmsg.Message.{Message, LowB, UpA, LowC, LowD, UpD, LowF, UpF, LowI, LowL, UpN, LowN, LowO, UpO, LowR, LowS, UpS, LowT, LowV, LowX, LowY, Writing}
use Rattle.model_draw_parts.specs.declared.images.Thing.{Thing}
use Rattle.model_draw_parts.specs.declared.images.Thing.TheVariants.{Image, Screen}
use Rattle.model_pixel.specs.Channels.{is_descriptor}
use Rattle.model_draw.specs.imgfile.ImageFile.{rows_len}
use Rattle.r9_geom.specs.Geometry.{is_empty}
use Rattle.model_draw_parts.specs.images.Book.{Book, is_image_id_taken, add_id}
use Rattle.model_draw_parts.specs.images.Release.{Freed}
use Rattle.model_draw.specs.draw.World.{World, Client, next_image, at_number, client_of, with_client, with_images, without_thing, after_freed}
use Rattle.model_draw.specs.draw.Making.{allocate, clashes, make_screen, share_screen, set_clip, free_image, free_screen_id, flag, farthest, fill_raw, is_near_rect, is_too_large, screen_named, with_made, with_new_image, with_size}
use Rattle.model_draw.specs.draw.Moving.{look_window, move_window, restack}
use Rattle.model_draw.specs.draw.Drawing.{draw, set_operator, read_pixels, write_pixels}
use Rattle.model_draw.specs.draw.Naming.{name_image, use_name}
use Rattle.model_draw.specs.draw.Writing.{make_font, load_cell, write_string}
use Rattle.model_draw.specs.draw.Act.{act, one_message, written, written_within, Written}
use Rattle.model_draw.specs.draw.Files.{read_data, write_ctl}
use Rattle.r9_event.specs.declared.event.rio.Order.{Order}
use Rattle.r9_event.specs.declared.event.rio.Order.TheVariants as order
use Rattle.model_pixel.specs.Channels.{colour_of, pack}
use Rattle.model_forest.specs.Draw.{after_fill}
use Rattle.model_forest.specs.Steps.{outside}
use Rattle.model_draw.specs.draw.Orders.{after_order, bordered, carried_out, drop_window, fits, host_rio, image_freed, image_shown, inside_border, make_window, next_white, ordered, place_window, replace_window, resize_display, rio_screen, screen_freed}
use Rattle.model_world.proofs.Orders.{EndNone, ends}

-- the numbers of a device's connections
abbrev pub numbers_of : World → List ℕ
numbers_of world = keys_of world.clients

-- what is left has the same connections
abbrev pub Keeps : World → Outcome World → Type 0
Keeps world (Ok next) = numbers_of next ≡ numbers_of world
Keeps world (Err n) = Unit {0}

abbrev KeepsBeside : {A : Type 0} → World → Outcome (World × A) → Type 0
KeepsBeside world (Ok next) = numbers_of next.0 ≡ numbers_of world
KeepsBeside world (Err n) = Unit {0}

client_kept : (world : World) (k : ℕ) (client : Client) → numbers_of (with_client world k client) ≡ numbers_of world
client_kept world k client = keys-set_value (is_key k) world.clients client

-- ---- what goes

thing_kept : (world : World) (thing : Thing) → (without_thing world thing).clients ≡ world.clients
thing_kept world (Image i) = refl
thing_kept world (Screen s) = refl

things_kept : (things : List Thing) (world : World) → (fold without_thing world things).clients ≡ world.clients
things_kept [] world = refl
things_kept (thing ∷ things) world = things_kept things (without_thing world thing) ∙ thing_kept world thing

pub freed_kept : (world : World) (freed : Freed) → (after_freed world freed).clients ≡ world.clients
freed_kept world freed = things_kept freed.gone (record world { book = freed.book })

-- ---- messages

guarded : (world : World) (a b c d e : Outcome (Unit {0})) (o : Outcome World) → Keeps world o
    → Keeps world (a >>= λ _. b >>= λ _. c >>= λ _. d >>= λ _. e >>= λ _. o)
guarded world (Ok _) (Ok _) (Ok _) (Ok _) (Ok _) o kept = kept
guarded world (Ok _) (Ok _) (Ok _) (Ok _) (Err n) o kept = tt
guarded world (Ok _) (Ok _) (Ok _) (Err n) e o kept = tt
guarded world (Ok _) (Ok _) (Err n) d e o kept = tt
guarded world (Ok _) (Err n) c d e o kept = tt
guarded world (Err n) b c d e o kept = tt

made_kept : (world : World) (screen : Outcome (Option ℕ)) (clash : Option ℕ → Outcome (Unit {0})) (book : Option ℕ → Outcome Book) (next : Option ℕ → Book → World)
    → ((s : Option ℕ) (b : Book) → numbers_of (next s b) ≡ numbers_of world) → Keeps world (screen >>= λ s. clash s >>= λ _. book s >>= λ b. Ok (next s b))
made_kept world (Ok s) clash book next kept =
    elim (clash s) as (λ c. Keeps world (c >>= λ _. book s >>= λ b. Ok (next s b))) [
      | Ok _ ↦ elim (book s) as (λ o. Keeps world (o >>= λ b. Ok (next s b))) [ Ok b ↦ kept s b | Err n ↦ tt ]
      | Err n ↦ tt
    ]
made_kept world (Err n) clash book next kept = tt

allocate_kept : (k : ℕ) (world : World) (id screenid refresh chan : ℕ) (repl : Bool) (r clipr : Rect) (color : ℕ) → Keeps world (allocate k world id screenid refresh chan repl r clipr color)
unfolding allocate
allocate_kept k world id screenid refresh chan repl r clipr color =
    guarded world
    (refuse_if (is_image_id_taken world.book k id) 6)
    (refuse_if (nat_lt 2 refresh) 23)
    (refuse_if (not (is_descriptor chan)) 8)
    (refuse_if (is_empty r || not (is_near_rect farthest r)) 9)
    (refuse_if (is_too_large (client_of world k) (rows_len chan r)) 10)
    _
    (made_kept world (screen_named world k screenid) (λ s. refuse_if (option_map_or (clashes world chan repl) s false) 11) (λ s. add_id world.book k id (next_image world) s)
    (λ s book. with_client (with_made world (with_new_image world s r chan (fill_raw chan color) repl clipr) book) k (with_size (client_of world k) id (rows_len chan r)))
    (λ s book. keys-set_value (is_key k) world.clients _))

make_screen_kept : (k : ℕ) (world : World) (id imageid fillid : ℕ) (is_public : Bool) → Keeps world (make_screen k world id imageid fillid is_public)
unfolding make_screen
make_screen_kept k world id imageid fillid is_public = grind (arith, common_steps)

share_screen_kept : (k : ℕ) (world : World) (id chan : ℕ) → Keeps world (share_screen k world id chan)
unfolding share_screen
share_screen_kept k world id chan = grind (arith, common_steps)

free_screen_id_kept : (k : ℕ) (world : World) (id : ℕ) → Keeps world (free_screen_id k world id)
unfolding free_screen_id
free_screen_id_kept k world id = grind (arith, common_steps, freed_kept)

moved_kept : (world : World) (window : Outcome ℕ) (near : ℕ → Outcome (Unit {0})) (next : ℕ → World) → ((i : ℕ) → numbers_of (next i) ≡ numbers_of world)
    → Keeps world (window >>= λ i. near i >>= λ _. Ok (next i))
moved_kept world (Ok i) near next kept = elim (near i) as (λ o. Keeps world (o >>= λ _. Ok (next i))) [ Ok _ ↦ kept i | Err n ↦ tt ]
moved_kept world (Err n) near next kept = tt

move_window_kept : (k : ℕ) (world : World) (id : ℕ) (rmin scr : Point) → Keeps world (move_window k world id rmin scr)
unfolding move_window
move_window_kept k world id rmin scr = moved_kept world (look_window world k id) _ _ (λ i. refl)

restack_kept : (k : ℕ) (world : World) (top : Bool) (ids : List ℕ) → Keeps world (restack k world top ids)
unfolding restack
restack_kept k world top ids = grind (arith, common_steps)

set_clip_kept : (k : ℕ) (world : World) (dstid : ℕ) (repl : Bool) (clipr : Rect) → Keeps world (set_clip k world dstid repl clipr)
unfolding set_clip
set_clip_kept k world dstid repl clipr = grind (arith, common_steps, keys-set_value)

draw_kept : (k : ℕ) (world : World) (dstid srcid maskid : ℕ) (dstr : Rect) (srcp maskp : Point) → Keeps world (draw k world dstid srcid maskid dstr srcp maskp)
unfolding draw
draw_kept k world dstid srcid maskid dstr srcp maskp = grind (arith, common_steps, keys-set_value)

free_image_kept : (k : ℕ) (world : World) (id : ℕ) → Keeps world (free_image k world id)
unfolding free_image
free_image_kept k world id = grind (arith, common_steps, keys-set_value, freed_kept)

set_operator_kept : (k : ℕ) (world : World) (op : ℕ) → Keeps world (set_operator k world op)
unfolding set_operator
set_operator_kept k world op = grind (arith, common_steps, keys-set_value)

read_pixels_kept : (k : ℕ) (world : World) (id : ℕ) (r : Rect) → Keeps world (read_pixels k world id r)
unfolding read_pixels
read_pixels_kept k world id r = grind (arith, common_steps, keys-set_value)

write_pixels_kept : (k : ℕ) (world : World) (id : ℕ) (r : Rect) (rest : List ℕ) → Keeps world (write_pixels k world id r rest)
unfolding write_pixels
write_pixels_kept k world id r rest = grind (arith, common_steps, keys-set_value)

make_font_kept : (k : ℕ) (world : World) (id n ascent : ℕ) → Keeps world (make_font k world id n ascent)
unfolding make_font
make_font_kept k world id n ascent = grind (arith, common_steps, keys-set_value)

load_cell_kept : (k : ℕ) (world : World) (cacheid srcid index : ℕ) (r : Rect) (sp : Point) (left : ℤ) (width : ℕ) → Keeps world (load_cell k world cacheid srcid index r sp left width)
unfolding load_cell
load_cell_kept k world cacheid srcid index r sp left width = grind (arith, common_steps, keys-set_value)

name_image_kept : (k : ℕ) (world : World) (id : ℕ) (tied : Bool) (name : List ℕ) → Keeps world (name_image k world id tied name)
unfolding name_image
name_image_kept k world id tied name = grind (arith, common_steps)

use_name_kept : (k : ℕ) (world : World) (id : ℕ) (name : List ℕ) → Keeps world (use_name k world id name)
unfolding use_name
use_name_kept k world id name = grind (arith, common_steps, keys-set_value)

write_string_kept : (k : ℕ) (world : World) (writing : Writing) (background : Option (ℕ × Point)) → Keeps world (write_string k world writing background)
unfolding write_string
write_string_kept k world writing background = grind (arith, common_steps, keys-set_value)

act_kept : (k : ℕ) (world : World) (m : Message) (rest : List ℕ) → Keeps world (act k world m rest)
unfolding act
act_kept k world (LowB id screenid refresh chan repl r clipr color) rest = allocate_kept k world id screenid refresh chan (flag repl) r clipr color
act_kept k world (UpA id imageid fillid public) rest = make_screen_kept k world id imageid fillid (flag public)
act_kept k world (LowC dstid repl clipr) rest = set_clip_kept k world dstid (flag repl) clipr
act_kept k world (LowD dstid srcid maskid dstr srcp maskp) rest = draw_kept k world dstid srcid maskid dstr srcp maskp
act_kept k world (UpD debug) rest = refl
act_kept k world (LowF id) rest = free_image_kept k world id
act_kept k world (UpF id) rest = free_screen_id_kept k world id
act_kept k world (LowI id n ascent) rest = make_font_kept k world id n ascent
act_kept k world (LowL cacheid srcid index r sp left width) rest = load_cell_kept k world cacheid srcid index r sp left width
act_kept k world (UpN id tied name) rest = name_image_kept k world id (flag tied) name
act_kept k world (LowN id name) rest = use_name_kept k world id name
act_kept k world (LowO id rmin scr) rest = move_window_kept k world id rmin scr
act_kept k world (UpO op) rest = set_operator_kept k world op
act_kept k world (LowR id r) rest = read_pixels_kept k world id r
act_kept k world (LowS writing) rest = write_string_kept k world writing None
act_kept k world (UpS id chan) rest = share_screen_kept k world id chan
act_kept k world (LowT top ids) rest = restack_kept k world (flag top) ids
act_kept k world LowV rest = refl
act_kept k world (LowX writing bgid bgp) rest = write_string_kept k world writing (Some (bgid, bgp))
act_kept k world (LowY id r) rest = write_pixels_kept k world id r rest

-- ---- a write

one_message_kept : (k : ℕ) (world : World) (mark : Option ℕ) (done : ℕ) (bytes : List ℕ) → KeepsBeside world (one_message k world mark done bytes)
unfolding one_message
one_message_kept k world mark done bytes = grind (arith, common_steps, act_kept)

-- what is left once the first message of a write was done or refused
abbrev left_by : (go_on : World → List ℕ → Written) → World → ℕ → Outcome (World × List ℕ) → Written
left_by go_on world done (Ok next) = go_on next.0 next.1
left_by go_on world done (Err refusal) = record { world = world; done = done; refusal = Some refusal }

left_kept : (go_on : World → List ℕ → Written) (world : World) (done : ℕ) (o : Outcome (World × List ℕ))
    → ((next : World) (rest : List ℕ) → numbers_of (go_on next rest).world ≡ numbers_of next) → KeepsBeside world o → numbers_of (left_by go_on world done o).world ≡ numbers_of world
left_kept go_on world done (Ok next) further kept = further next.0 next.1 ∙ kept
left_kept go_on world done (Err refusal) further kept = refl

pub within_kept : (steps k : ℕ) (world : World) (mark : Option ℕ) (done : ℕ) (bytes : List ℕ) → numbers_of (written_within steps k world mark done bytes).world ≡ numbers_of world
within_kept zero k world mark done bytes = refl
within_kept (suc steps) k world mark done [] = refl
within_kept (suc steps) k world mark done (byte ∷ bytes) =
    left_kept (λ next rest. written_within steps k next mark (done + 1) rest) world done (one_message k world mark done (byte ∷ bytes))
    (λ next rest. within_kept steps k next mark (done + 1) rest)
    (one_message_kept k world mark done (byte ∷ bytes))

pub written_kept : (k : ℕ) (world : World) (bytes : List ℕ) (mark : Option ℕ) → numbers_of (written k world bytes mark).world ≡ numbers_of world
unfolding written
written_kept k world bytes mark = within_kept _ k world mark 0 bytes

-- ---- the files of a connection

abbrev pub KeepsRead : World → Outcome (List ℕ × World) → Type 0
KeepsRead world (Ok got) = numbers_of got.1 ≡ numbers_of world
KeepsRead world (Err n) = Unit {0}

pub read_data_kept : (k : ℕ) (world : World) (most : ℕ) → KeepsRead world (read_data k world most)
unfolding read_data
read_data_kept k world most = grind (arith, common_steps, keys-set_value)

pub write_ctl_kept : (k : ℕ) (world : World) (bytes : List ℕ) → Keeps world (write_ctl k world bytes)
unfolding write_ctl
write_ctl_kept k world bytes = grind (arith, common_steps, keys-set_value)

-- ---- the orders of the window manager

-- what an order that ends no connection leaves, where it fits
after_kept : (world : World) (o : Order) → ends o ≡ false → (after_order world o).clients ≡ world.clients
unfolding make_window place_window replace_window drop_window host_rio resize_display
after_kept world (order.Make window host r name hide depth) none = refl
after_kept world (order.Place window at) none = refl
after_kept world (order.Replace window host r name keep hidden) none =
    let images = next_white world (image_shown world window) (rio_screen world host) r keep hidden in
    let next = with_made world (if keep then images else bordered images (next_image world)) world.book in
    freed_kept next (image_freed world.book window)
after_kept world (order.Raise window) none = refl
after_kept world (order.Lower window) none = refl
after_kept world (order.Drop window) none =
    let left = place_window world window outside in
    let closed = after_freed left (screen_freed left.book window) in
    freed_kept closed (image_freed closed.book window) ∙ freed_kept left (screen_freed left.book window)
after_kept world (order.Host window fill) none =
    let i = image_shown world window in
    let image = at_number world i in
    let filled = if fill then after_fill world.images i (inside_border image.r) (pack image.chan (colour_of 0x777777ff)) else world.images in
    freed_kept (with_images world filled) (screen_freed world.book window)
after_kept world (order.Leave client) none = absurd (cc none)
after_kept world (order.Size width height) none = refl

ordered_kept : (world : World) (o : Order) → ends o ≡ false → (ordered world o).clients ≡ world.clients
ordered_kept world o none = cond_both (fits world o) (after_order world o) world (λ (w : World). w.clients ≡ world.clients) (λ _. after_kept world o none) (λ _. refl)

none_first : (a b : Bool) → (a || b) ≡ false → (a ≡ false) × (b ≡ false)
none_first true b e = absurd (cc e)
none_first false b e = (refl, e)

-- orders that end no connection keep all connections
pub carried_out_kept : (world : World) (orders : List Order) → EndNone orders → (carried_out world orders).clients ≡ world.clients
carried_out_kept world [] none = refl
carried_out_kept world (o ∷ os) none =
    let each = none_first (ends o) (list_any ends os) none in
    carried_out_kept (ordered world o) os each.1 ∙ ordered_kept world o each.0
