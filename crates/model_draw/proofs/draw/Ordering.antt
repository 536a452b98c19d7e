-- Worked cases of orders, which the check computes, on a display of 64 by 48, x8r8g8b8, with one connection.
use Rattle.std.specs.Prelude.{◌≡◌, ℕ, Bool, true, false, List, [], ◌∷◌, ◌++◌, Ok, Err, pos, codes, is_some, refl}
use Rattle.std.specs.Fmt.{digits}
use Rattle.r9_geom.specs.declared.Point.{Point}
use Rattle.r9_geom.specs.declared.Rect.{Rect}
use Rattle.r9_event.specs.declared.event.rio.Order.{Order}
use Rattle.r9_event.specs.declared.event.rio.Order.TheVariants.{Make, Place, Replace, Raise, Lower, Drop, Host, Leave, Size}
use Rattle.model_text.specs.text.Field.{field}
use Rattle.model_text.specs.text.Outcome.{Outcome, ◌>>=◌}
use Rattle.model_draw_parts.specs.dmsg.Message.{LowN, LowB, LowD}
use Rattle.model_draw_parts.specs.images.Book.{named}
use Rattle.model_draw.specs.draw.World.{World, look, next_image, started, after_connect}
use Rattle.model_draw.specs.draw.Act.{act}
use Rattle.model_draw.specs.draw.Files.{read_ctl}
use Rattle.model_draw.specs.draw.Orders.{carried_out, image_shown, with_root_rio}
use Rattle.model_draw.specs.draw.Act as a
use Rattle.model_draw.specs.draw.Making as m
use Rattle.model_draw.specs.draw.Drawing as d
use Rattle.model_draw.specs.draw.Naming as n
use Rattle.model_draw.specs.draw.Files as f
use Rattle.model_draw.specs.draw.Orders as o
use Rattle.model_draw.specs.draw.World as w
use Rattle.model_draw_parts.specs.images.Book as b
use Rattle.model_draw_parts.specs.images.Release as r
use Rattle.model_forest.specs.World as forest
use Rattle.model_forest.specs.Steps as steps
use Rattle.model_forest.specs.Stack as stack
use Rattle.model_forest.specs.Draw as drawing
use Rattle.model_forest.specs.View as views
use Rattle.model_exchanged.specs.resize.Resize as resize
use Rattle.model_pixel.specs.Channels as channels
use Rattle.model_pixel.specs.Composition as composition
use Rattle.model_pixel.specs.Rows as rows

-- all that the cases compute with
everything : ℕ
unfolding a.act m.allocate m.make_screen n.use_name d.draw d.drawing_of w.started o.bordered o.with_root_rio o.make_window o.replace_window o.place_window o.drop_window o.host_rio o.resize_display resize.after_resize f.read_ctl b.image b.screen b.named b.add_id b.add_named b.new_screen b.tie r.free_id r.free_screen r.leave forest.deepest steps.after_image steps.after_set steps.after_release steps.after_origin steps.after_replace steps.after_replace_on stack.after_window stack.after_raise stack.after_lower drawing.after_draw drawing.after_fill views.view channels.channels channels.promoted channels.expand channels.pack channels.mask composition.composed composition.comp composition.composed_raw rows.row_bytes
everything = 0

abbrev rect : (a b c d : ℕ) → Rect
rect a b c d = record { min = record { x = pos a; y = pos b }; max = record { x = pos c; y = pos d } }

abbrev at : (a b : ℕ) → Point
at a b = record { x = pos a; y = pos b }

abbrev device : World
device = after_connect (with_root_rio (started (record { r = rect 0 0 64 48; chan = 0x68081828 }))) 1

abbrev after : List Order → World
after orders = carried_out device orders

-- what the display shows at a point
abbrev shows : World → Point → ℕ
shows world p = views.view world.images 0 p

-- the first window, and its second image
abbrev first : Order
first = Make 1 0 (rect 10 10 50 40) (codes "window.1.1") false 1

abbrev moved_first : Order
moved_first = Replace 1 0 (rect 20 12 60 42) (codes "window.1.2") true false

abbrev resized_first : Order
resized_first = Replace 1 0 (rect 0 0 12 12) (codes "window.1.2") false false

-- ---- a window comes, and moves

border_of_first : shows (after (first ∷ [])) (at 10 10) ≡ 0x55aaaa
unfolding everything
border_of_first = refl

white_in_first : shows (after (first ∷ [])) (at 14 14) ≡ 0xffffff
unfolding everything
white_in_first = refl

last_of_border : shows (after (first ∷ [])) (at 46 36) ≡ 0x55aaaa
unfolding everything
last_of_border = refl

beside_first : shows (after (first ∷ [])) (at 9 10) ≡ 0x777777
unfolding everything
beside_first = refl

name_of_first : named (after (first ∷ [])).book (codes "window.1.1") ≡ Ok (image_shown (after (first ∷ [])) 1)
unfolding everything
name_of_first = refl

left_by_first : shows (after (first ∷ moved_first ∷ [])) (at 10 10) ≡ 0x777777
unfolding everything
left_by_first = refl

moved_border : shows (after (first ∷ moved_first ∷ [])) (at 20 12) ≡ 0x55aaaa
unfolding everything
moved_border = refl

old_name_ends : named (after (first ∷ moved_first ∷ [])).book (codes "window.1.1") ≡ Err 17
unfolding everything
old_name_ends = refl

-- ---- a connection has the window by its name

abbrev used : World → List ℕ → Outcome World
used world name = act 1 world (LowN 5 name) []

abbrev then_orders : Outcome World → List Order → Outcome World
then_orders left orders = left >>= λ world. Ok (carried_out world orders)

-- a red pixel is drawn on the window, which keeps it where it moves and loses it where it gets another size
abbrev red : Outcome World
red =
    used (after (first ∷ [])) (codes "window.1.1") >>= λ world.
    act 1 world (LowB 6 0 0 0x68081828 1 (rect 0 0 1 1) (rect 0 0 64 64) 0xff0000ff) [] >>= λ world.
    act 1 world (LowB 7 0 0 0x31 1 (rect 0 0 1 1) (rect 0 0 64 64) 0xffffffff) [] >>= λ world.
    act 1 world (LowD 5 6 7 (rect 30 30 31 31) (at 0 0) (at 0 0)) []

abbrev shown_at : Outcome World → Point → ℕ
shown_at (Ok world) p = shows world p
shown_at (Err n) p = n

red_shows : shown_at red (at 30 30) ≡ 0xff0000
unfolding everything
red_shows = refl

red_moves : shown_at (then_orders red (moved_first ∷ [])) (at 40 32) ≡ 0xff0000
unfolding everything
red_moves = refl

red_goes : shown_at (then_orders red (resized_first ∷ [])) (at 6 6) ≡ 0xffffff
unfolding everything
red_goes = refl

abbrev look_of : Outcome World → (id : ℕ) → ℕ
look_of (Ok world) id = refusal (look world 1 id)
  where
    refusal : Outcome ℕ → ℕ
    refusal (Ok i) = 0
    refusal (Err n) = n
look_of (Err n) id = n

named_id_lives : look_of (then_orders red (Raise 1 ∷ [])) 5 ≡ 0
unfolding everything
named_id_lives = refl

-- its tie has ended
stale_by_move : look_of (then_orders red (moved_first ∷ [])) 5 ≡ 18
unfolding everything
stale_by_move = refl

stale_by_resize : look_of (then_orders red (resized_first ∷ [])) 5 ≡ 18
unfolding everything
stale_by_resize = refl

-- the old image lives for who has an id for it, and then goes
abbrev lives : Outcome World → (i : ℕ) → Bool
lives (Ok world) i = is_some (world.images i)
lives (Err n) i = false

old_image_lives : lives (then_orders red (moved_first ∷ [])) 2 ≡ true
unfolding everything
old_image_lives = refl

old_image_goes : lives (then_orders red (moved_first ∷ Leave 1 ∷ [])) 2 ≡ false
unfolding everything
old_image_goes = refl

-- ---- hidden windows, the order of windows, and windows that go

abbrev second : Order
second = Make 2 0 (rect 40 30 60 46) (codes "window.2.1") false 1

second_is_above : shows (after (first ∷ second ∷ [])) (at 44 34) ≡ 0xffffff
unfolding everything
second_is_above = refl

first_is_raised : shows (after (first ∷ second ∷ Raise 1 ∷ [])) (at 47 34) ≡ 0x55aaaa
unfolding everything
first_is_raised = refl

second_is_lowered : shows (after (first ∷ second ∷ Lower 2 ∷ [])) (at 47 34) ≡ 0x55aaaa
unfolding everything
second_is_lowered = refl

-- a hidden window covers no point, and comes back with what it had
hidden : shows (after (first ∷ Place 1 steps.outside ∷ [])) (at 14 14) ≡ 0x777777
unfolding everything
hidden = refl

shown_again : shows (after (first ∷ Place 1 steps.outside ∷ Place 1 (at 10 10) ∷ [])) (at 14 14) ≡ 0xffffff
unfolding everything
shown_again = refl

made_hidden : shows (after (Make 1 0 (rect 10 10 50 40) (codes "window.1.1") true 1 ∷ [])) (at 14 14) ≡ 0x777777
unfolding everything
made_hidden = refl

made_hidden_shown : shows (after (Make 1 0 (rect 10 10 50 40) (codes "window.1.1") true 1 ∷ Place 1 (at 10 10) ∷ [])) (at 10 10) ≡ 0x55aaaa
unfolding everything
made_hidden_shown = refl

resized_hidden : shows (after (first ∷ Place 1 steps.outside ∷ Replace 1 0 (rect 0 0 12 12) (codes "window.1.2") false true ∷ [])) (at 0 0) ≡ 0x777777
unfolding everything
resized_hidden = refl

dropped : shows (after (first ∷ second ∷ Drop 1 ∷ [])) (at 14 14) ≡ 0x777777
unfolding everything
dropped = refl

-- its number comes back
number_back : next_image (after (first ∷ second ∷ Drop 1 ∷ [])) ≡ 2
unfolding everything
number_back = refl

-- ---- rios in windows

abbrev inner : Order
inner = Make 2 1 (rect 20 20 40 36) (codes "window.1/1.1") false 2

abbrev hosting : List Order
hosting = first ∷ Host 1 true ∷ inner ∷ []

grey_inside : shows (after (first ∷ Host 1 true ∷ [])) (at 14 14) ≡ 0x777777
unfolding everything
grey_inside = refl

border_stays : shows (after (first ∷ Host 1 true ∷ [])) (at 13 14) ≡ 0x55aaaa
unfolding everything
border_stays = refl

inner_shows : shows (after hosting) (at 24 24) ≡ 0xffffff
unfolding everything
inner_shows = refl

-- the host moves by (10, 2), and its window follows it onto its new image
abbrev host_moved : List Order
host_moved = moved_first ∷ Host 1 false ∷ Replace 2 1 (rect 30 22 50 38) (codes "window.1/1.2") true false ∷ []

inner_follows : shows (after (hosting ++ host_moved)) (at 30 22) ≡ 0x55aaaa
unfolding everything
inner_follows = refl

inner_keeps : shows (after (hosting ++ host_moved)) (at 34 26) ≡ 0xffffff
unfolding everything
inner_keeps = refl

-- the host's contents moved with it, the window on them too, so that what is beside the new one shows it
host_keeps : shows (after (hosting ++ host_moved)) (at 24 18) ≡ 0x777777
unfolding everything
host_keeps = refl

-- the inner window's old image has gone, then the old screen, and at last the host's old image, whose number is the next
old_images_go : next_image (after (hosting ++ host_moved)) ≡ 2
unfolding everything
old_images_go = refl

-- the host gets another size: its inside is grey again, and its window is moved onto it
abbrev host_resized : List Order
host_resized =
    Replace 1 0 (rect 0 0 40 40) (codes "window.1.2") false false ∷ Host 1 true
    ∷ Replace 2 1 (rect 10 10 30 26) (codes "window.1/1.2") true false ∷ []

inner_moves : shows (after (hosting ++ host_resized)) (at 14 14) ≡ 0xffffff
unfolding everything
inner_moves = refl

inside_is_grey : shows (after (hosting ++ host_resized)) (at 5 5) ≡ 0x777777
unfolding everything
inside_is_grey = refl

inner_hides : shows (after (hosting ++ Place 2 steps.outside ∷ [])) (at 24 24) ≡ 0x777777
unfolding everything
inner_hides = refl

-- with a window of a host its inner ones go first
host_dropped : shows (after (hosting ++ Drop 2 ∷ Drop 1 ∷ [])) (at 24 24) ≡ 0x777777
unfolding everything
host_dropped = refl

nothing_left : next_image (after (hosting ++ Drop 2 ∷ Drop 1 ∷ [])) ≡ 2
unfolding everything
nothing_left = refl

-- ---- another size of the display

-- a display of 32 by 24, and then as large as before
abbrev smaller : List Order
smaller = Size 32 24 ∷ []

abbrev smaller_once : List Order
smaller_once = Size 32 24 ∷ Size 64 48 ∷ []

first_shows_in_smaller : shows (after (first ∷ smaller)) (at 14 14) ≡ 0xffffff
unfolding everything
first_shows_in_smaller = refl

beside_smaller : shows (after (first ∷ smaller)) (at 40 40) ≡ 0
unfolding everything
beside_smaller = refl

-- windows keep what they showed, and what shows newly of the display is grey
first_shows_again : shows (after (first ∷ smaller_once)) (at 46 36) ≡ 0x55aaaa
unfolding everything
first_shows_again = refl

newly_grey : shows (after (first ∷ smaller_once)) (at 63 47) ≡ 0x777777
unfolding everything
newly_grey = refl

-- what was drawn on the display stays where it was within both
abbrev on_display : Outcome World
on_display =
    act 1 (after []) (LowB 6 0 0 0x68081828 1 (rect 0 0 1 1) (rect 0 0 64 64) 0xff0000ff) [] >>= λ world.
    act 1 world (LowB 7 0 0 0x31 1 (rect 0 0 1 1) (rect 0 0 64 64) 0xffffffff) [] >>= λ world.
    act 1 world (LowD 0 6 7 (rect 30 20 34 21) (at 0 0) (at 0 0)) []

drawn_stays : shown_at (then_orders on_display smaller_once) (at 31 20) ≡ 0xff0000
unfolding everything
drawn_stays = refl

drawn_goes : shown_at (then_orders on_display smaller_once) (at 33 20) ≡ 0x777777
unfolding everything
drawn_goes = refl

-- the root rio stays on the display, and a window comes to it
second_in_smaller : shows (after (smaller ++ Make 2 0 (rect 10 10 30 26) (codes "window.2.1") false 1 ∷ [])) (at 14 14) ≡ 0xffffff
unfolding everything
second_in_smaller = refl

-- `ctl` tells the present rectangle
told_of_display : read_ctl 1 (after smaller) 1
    ≡ Ok (codes "          1           0    x8r8g8b8           0           0           0          32          24           0           0          32          24 ")
unfolding everything field digits channels.name
told_of_display = refl

-- a size that is none changes nothing
no_size : shows (after (Size 0 24 ∷ Size 32 2049 ∷ [])) (at 63 47) ≡ 0x777777
unfolding everything
no_size = refl
