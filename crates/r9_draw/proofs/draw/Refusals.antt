-- No refusal has the number of want of memory.
use Rattle.std.proofs.Common.{◌≡◌, ℕ, Bool, true, false, ℤ, List, [], ◌∷◌, length, Option, Some, None, Ok, Err, ◌∙◌, arith}
use Rattle.std.specs.Prelude.{◌==◌, ◌&&◌, ◌||◌, not, is_some, nat_lt, if◌then◌else◌}
use Rattle.std.specs.List.{list_all}
use Rattle.std.specs.Option.{option_map_or}
use Rattle.r9_geom.specs.declared.Point.{Point}
use Rattle.r9_geom.specs.declared.Rect.{Rect}
use Rattle.r9_geom.specs.Geometry.{is_empty, is_inside}
use Rattle.model_text.specs.text.Map.{lookup}
use Rattle.model_text.specs.text.Outcome.{Outcome, ◌>>=◌, refuse_if, value_or_refuse}
use Rattle.model_draw_parts.specs.dmsg.Message.{Message, Writing, LowB, UpA, LowC, LowD, UpD, LowF, UpF, LowI, LowL, UpN, LowN, LowO, UpO, LowR, LowS, UpS, LowT, LowV, LowX, LowY}
use Rattle.model_pixel.specs.Channels.{is_descriptor}
use Rattle.model_draw.specs.imgfile.ImageFile.{rows_len}
use Rattle.model_draw_parts.specs.declared.fonts.Cell.{Cell}
use Rattle.model_draw_parts.specs.fonts.Font.{Font, has_index, layout, with_cell}
use Rattle.model_draw_parts.specs.images.Book.{Book, add_id, add_named, add_screen, by_name, has_screen, image, image_id, image_of, is_image_id_taken, is_kept_name, is_screen_id_taken, is_stale, new_screen, public, screen, screen_id, tie, tie_of, untie}
use Rattle.model_draw_parts.specs.images.Release.{free_id, free_screen, own_image_id}
use Rattle.model_draw.specs.draw.World.{World, at_number, client_of, is_display, next_image}
use Rattle.model_draw.specs.draw.Making.{allocate, clashes, deepest_screen, farthest, free_image, free_screen_id, is_near_rect, is_too_large, is_window, make_screen, screen_named, set_clip, share_screen}
use Rattle.model_draw.specs.draw.Moving.{are_on_one_screen, look_window, look_windows, move_window, restack, stays_near}
use Rattle.model_draw.specs.draw.Drawing.{draw, drawing_of, most_read, read_pixels, set_operator, write_pixels}
use Rattle.model_draw.specs.draw.Naming.{name_image, use_name}
use Rattle.model_draw.specs.draw.Writing.{font_of, is_turned, load_cell, look_background, make_font, most_cells, string_drawings, write_string}
use Rattle.model_draw.specs.draw.Act.{act}

abbrev NotMemory : {A : Type 0} → Outcome A → Type 0
NotMemory (Ok x) = Unit {0}
NotMemory (Err n) = n ≡ 24 → ⊥

seq : {A B : Type 0} (o : Outcome A) (f : A → Outcome B) → NotMemory o → ((x : A) → NotMemory (f x)) → NotMemory (o >>= f)
seq (Ok x) f h k = k x
seq (Err n) f h k = h

test : (b : Bool) (n : ℕ) → (n ≡ 24 → ⊥) → NotMemory (refuse_if b n)
test true n h = h
test false n h = tt

value : {A : Type 0} (o : Option A) (n : ℕ) → (n ≡ 24 → ⊥) → NotMemory (value_or_refuse o n)
value (Some x) n h = tt
value None n h = h

image_not : (book : Book) (k id : ℕ) → NotMemory (image book k id)
unfolding image
image_not book k id = seq (value_or_refuse (image_id book k id) 4) _ (value _ 4 (λ e. omega (arith, e))) (λ x. seq (refuse_if (is_stale book x) 18) _ (test _ 18 (λ e. omega (arith, e))) (λ _. tt))

screen_not : (book : Book) (k id : ℕ) → NotMemory (screen book k id)
unfolding screen
screen_not book k id = value _ 5 (λ e. omega (arith, e))

add_id_not : (book : Book) (k id i : ℕ) (s : Option ℕ) → NotMemory (add_id book k id i s)
unfolding add_id
add_id_not book k id i s = seq (refuse_if (is_image_id_taken book k id) 6) _ (test (is_image_id_taken book k id) 6 (λ e. omega (arith, e))) (λ _. tt {0})

public_not : (book : Book) (id : ℕ) → NotMemory (public book id)
unfolding public
public_not book id = value _ 5 (λ e. omega (arith, e))

new_screen_not : (book : Book) (k id : ℕ) (open_to_all : Bool) (i fill : ℕ) → NotMemory (new_screen book k id open_to_all i fill)
unfolding new_screen
new_screen_not book k id open_to_all i fill = seq (refuse_if (is_screen_id_taken book k id open_to_all) 7) _ (test (is_screen_id_taken book k id open_to_all) 7 (λ e. omega (arith, e))) (λ _. tt {0})

add_screen_not : (book : Book) (k id s : ℕ) (open_to_all : Bool) → NotMemory (add_screen book k id s open_to_all)
unfolding add_screen
add_screen_not book k id s open_to_all = seq (refuse_if (is_screen_id_taken book k id open_to_all) 7) _ (test (is_screen_id_taken book k id open_to_all) 7 (λ e. omega (arith, e))) (λ _. tt {0})

free_id_not : (book : Book) (k id : ℕ) → NotMemory (free_id book k id)
unfolding free_id
free_id_not book k id = seq (value_or_refuse (own_image_id book k id) 4) _ (value _ 4 (λ e. omega (arith, e))) (λ _. tt)

screen_named_not : (w : World) (k id : ℕ) → NotMemory (screen_named w k id)
screen_named_not w k id = by (id == 0)
  where
    by : (b : Bool) → NotMemory (if b then Ok None else screen w.book k id >>= λ s. Ok (Some s))
    by true = tt
    by false = seq (screen w.book k id) _ (screen_not w.book k id) (λ _. tt)

allocate_not : (k : ℕ) (w : World) (id screenid refresh chan : ℕ) (repl : Bool) (r clipr : Rect) (color : ℕ) → NotMemory (allocate k w id screenid refresh chan repl r clipr color)
unfolding allocate
allocate_not k w id screenid refresh chan repl r clipr color =
    seq (refuse_if (is_image_id_taken w.book k id) 6) _ (test (is_image_id_taken w.book k id) 6 (λ e. omega (arith, e))) (λ _. seq (refuse_if (nat_lt 2 refresh) 23) _ (test (nat_lt 2 refresh) 23 (λ e. omega (arith, e))) (λ _. seq (refuse_if (not (is_descriptor chan)) 8) _ (test (not (is_descriptor chan)) 8 (λ e. omega (arith, e))) (λ _. seq (refuse_if (is_empty r || not (is_near_rect farthest r)) 9) _ (test (is_empty r || not (is_near_rect farthest r)) 9 (λ e. omega (arith, e))) (λ _. seq (refuse_if (is_too_large (client_of w k) (rows_len chan r)) 10) _ (test (is_too_large (client_of w k) (rows_len chan r)) 10 (λ e. omega (arith, e))) (λ _. seq (screen_named w k screenid) _ (screen_named_not w k screenid) (λ s. seq (refuse_if (option_map_or (clashes w chan repl) s false) 11) _ (test (option_map_or (clashes w chan repl) s false) 11 (λ e. omega (arith, e))) (λ _. seq (add_id w.book k id (next_image w) s) _ (add_id_not w.book k id (next_image w) s) (λ _. tt {0}))))))))

set_clip_not : (k : ℕ) (w : World) (id : ℕ) (repl : Bool) (r : Rect) → NotMemory (set_clip k w id repl r)
unfolding set_clip
set_clip_not k w id repl r =
    seq (image w.book k id) _ (image_not w.book k id) (λ i. seq (refuse_if (is_display w i) 23) _ (test (is_display w i) 23 (λ e. omega (arith, e))) (λ _. seq (refuse_if (repl && (is_window w i || has_screen w.book i)) 11) _ (test (repl && (is_window w i || has_screen w.book i)) 11 (λ e. omega (arith, e))) (λ _. tt {0})))

draw_not : (k : ℕ) (w : World) (a b c : ℕ) (r : Rect) (sp mp : Point) → NotMemory (draw k w a b c r sp mp)
unfolding draw drawing_of
draw_not k w a b c r sp mp =
    seq (drawing_of k w a b c r sp mp) _
    (seq (image w.book k a) _ (image_not w.book k a) (λ x. seq (image w.book k b) _ (image_not w.book k b) (λ y. seq (image w.book k c) _ (image_not w.book k c) (λ z. tt)))) (λ _. tt)

free_image_not : (k : ℕ) (w : World) (id : ℕ) → NotMemory (free_image k w id)
unfolding free_image
free_image_not k w id =
    seq (refuse_if (id == 0) 23) _ (test (id == 0) 23 (λ e. omega (arith, e))) (λ _. seq (free_id w.book k id) _ (free_id_not w.book k id) (λ _. tt {0}))

make_screen_not : (k : ℕ) (w : World) (id imageid fillid : ℕ) (open_to_all : Bool) → NotMemory (make_screen k w id imageid fillid open_to_all)
unfolding make_screen
make_screen_not k w id imageid fillid open_to_all =
    seq (refuse_if (id == 0) 23) _ (test (id == 0) 23 (λ e. omega (arith, e))) (λ _. seq (refuse_if (is_screen_id_taken w.book k id open_to_all) 7) _ (test (is_screen_id_taken w.book k id open_to_all) 7 (λ e. omega (arith, e))) (λ _. seq (image w.book k imageid) _ (image_not w.book k imageid) (λ i. seq (image w.book k fillid) _ (image_not w.book k fillid) (λ fill. seq (refuse_if (at_number w i).repl 11) _ (test (at_number w i).repl 11 (λ e. omega (arith, e))) (λ _. seq (refuse_if (nat_lt deepest_screen (at_number w i).depth) 23) _ (test (nat_lt deepest_screen (at_number w i).depth) 23 (λ e. omega (arith, e))) (λ _. seq (new_screen w.book k id open_to_all i fill) _ (new_screen_not w.book k id open_to_all i fill) (λ _. tt {0})))))))

share_screen_not : (k : ℕ) (w : World) (id chan : ℕ) → NotMemory (share_screen k w id chan)
unfolding share_screen
share_screen_not k w id chan =
    seq (refuse_if (id == 0) 23) _ (test (id == 0) 23 (λ e. omega (arith, e))) (λ _. seq (refuse_if (is_screen_id_taken w.book k id false) 7) _ (test (is_screen_id_taken w.book k id false) 7 (λ e. omega (arith, e))) (λ _. seq (public w.book id) _ (public_not w.book id) (λ s. seq (refuse_if (not ((at_number w (image_of w.book s)).chan == chan)) 11) _ (test (not ((at_number w (image_of w.book s)).chan == chan)) 11 (λ e. omega (arith, e))) (λ _. seq (add_screen w.book k id s false) _ (add_screen_not w.book k id s false) (λ _. tt {0})))))

free_screen_not : (k : ℕ) (w : World) (id : ℕ) → NotMemory (free_screen_id k w id)
unfolding free_screen_id free_screen
free_screen_not k w id = seq (free_screen w.book k id) _ (seq (value_or_refuse (screen_id w.book k id) 5) _ (value _ 5 (λ e. omega (arith, e))) (λ _. tt)) (λ _. tt {0})

look_window_not : (w : World) (k id : ℕ) → NotMemory (look_window w k id)
look_window_not w k id =
    seq (image w.book k id) _ (image_not w.book k id) (λ i. seq (refuse_if (not (is_window w i) || by_name w.book k id) 20) _ (test (not (is_window w i) || by_name w.book k id) 20 (λ e. omega (arith, e))) (λ _. tt {0}))

move_window_not : (k : ℕ) (w : World) (id : ℕ) (rmin scr : Point) → NotMemory (move_window k w id rmin scr)
unfolding move_window
move_window_not k w id rmin scr =
    seq (look_window w k id) _ (look_window_not w k id) (λ i. seq (refuse_if (not (stays_near (at_number w i).r rmin scr)) 9) _ (test (not (stays_near (at_number w i).r rmin scr)) 9 (λ e. omega (arith, e))) (λ _. tt {0}))

look_windows_not : (w : World) (k : ℕ) (ids : List ℕ) → NotMemory (look_windows w k ids)
look_windows_not w k [] = tt
look_windows_not w k (id ∷ ids) = seq (look_window w k id) _ (look_window_not w k id) (λ i. seq (look_windows w k ids) _ (look_windows_not w k ids) (λ _. tt {0}))

restack_not : (k : ℕ) (w : World) (top : Bool) (ids : List ℕ) → NotMemory (restack k w top ids)
unfolding restack
restack_not k w top ids =
    seq (look_windows w k ids) _ (look_windows_not w k ids) (λ group. seq (refuse_if (not (are_on_one_screen w.book group)) 22) _ (test (not (are_on_one_screen w.book group)) 22 (λ e. omega (arith, e))) (λ _. tt {0}))

set_operator_not : (k : ℕ) (w : World) (op : ℕ) → NotMemory (set_operator k w op)
unfolding set_operator
set_operator_not k w op =
    seq (refuse_if (nat_lt 11 op) 21) _ (test (nat_lt 11 op) 21 (λ e. omega (arith, e))) (λ _. tt {0})

read_not : (k : ℕ) (w : World) (id : ℕ) (r : Rect) → NotMemory (read_pixels k w id r)
unfolding read_pixels
read_not k w id r =
    seq (image w.book k id) _ (image_not w.book k id) (λ i. seq (refuse_if (is_empty r || not (is_inside r (at_number w i).r)) 12) _ (test (is_empty r || not (is_inside r (at_number w i).r)) 12 (λ e. omega (arith, e))) (λ _. seq (refuse_if (nat_lt most_read (rows_len (at_number w i).chan r)) 25) _ (test (nat_lt most_read (rows_len (at_number w i).chan r)) 25 (λ e. omega (arith, e))) (λ _. tt {0})))

write_not : (k : ℕ) (w : World) (id : ℕ) (r : Rect) (rest : List ℕ) → NotMemory (write_pixels k w id r rest)
unfolding write_pixels
write_not k w id r rest =
    seq (image w.book k id) _ (image_not w.book k id) (λ i. seq (refuse_if (is_empty r || not (is_inside r (at_number w i).r)) 13) _ (test (is_empty r || not (is_inside r (at_number w i).r)) 13 (λ e. omega (arith, e))) (λ _. seq (refuse_if (nat_lt (length rest) (rows_len (at_number w i).chan r)) 1) _ (test (nat_lt (length rest) (rows_len (at_number w i).chan r)) 1 (λ e. omega (arith, e))) (λ _. tt {0})))

make_font_not : (k : ℕ) (w : World) (id n ascent : ℕ) → NotMemory (make_font k w id n ascent)
unfolding make_font
make_font_not k w id n ascent =
    seq (image w.book k id) _ (image_not w.book k id) (λ i. seq (refuse_if ((id == 0) || is_window w i || by_name w.book k id) 23) _ (test ((id == 0) || is_window w i || by_name w.book k id) 23 (λ e. omega (arith, e))) (λ _. seq (refuse_if ((n == 0) || nat_lt most_cells n) 23) _ (test ((n == 0) || nat_lt most_cells n) 23 (λ e. omega (arith, e))) (λ _. tt {0})))

with_cell_not : (font : Font) (index : ℕ) (c : Cell) → NotMemory (with_cell font index c)
unfolding with_cell
with_cell_not font index c = seq (refuse_if (not (has_index font index)) 15) _ (test (not (has_index font index)) 15 (λ e. omega (arith, e))) (λ _. tt {0})

load_cell_not : (k : ℕ) (w : World) (cacheid srcid index : ℕ) (r : Rect) (sp : Point) (left : ℤ) (width : ℕ) → NotMemory (load_cell k w cacheid srcid index r sp left width)
unfolding load_cell
load_cell_not k w cacheid srcid index r sp left width =
    seq (image w.book k cacheid) _ (image_not w.book k cacheid) (λ cache. seq (font_of w k cacheid) _ (value (lookup (client_of w k).fonts cacheid) 14 (λ e. omega (arith, e))) (λ font. seq (image w.book k srcid) _ (image_not w.book k srcid) (λ src. seq (with_cell font index (record { r = r; left = left; width = width })) _ (with_cell_not font index (record { r = r; left = left; width = width })) (λ loaded. seq (refuse_if (is_turned r || not (is_inside r (at_number w cache).r)) 9) _ (test (is_turned r || not (is_inside r (at_number w cache).r)) 9 (λ e. omega (arith, e))) (λ _. tt {0})))))

tie_not : (book : Book) (k id : ℕ) (name : List ℕ) → NotMemory (tie book k id name)
unfolding tie
tie_not book k id name =
    seq (image book k id) _ (image_not book k id) (λ i. seq (refuse_if (is_some (tie_of book name) || is_kept_name k name) 16) _ (test (is_some (tie_of book name) || is_kept_name k name) 16 (λ e. omega (arith, e))) (λ _. tt {0}))

untie_not : (book : Book) (k id : ℕ) (name : List ℕ) → NotMemory (untie book k id name)
unfolding untie
untie_not book k id name =
    seq (image book k id) _ (image_not book k id) (λ i. seq (value_or_refuse (tie_of book name) 17) _ (value (tie_of book name) 17 (λ e. omega (arith, e))) (λ t. seq (refuse_if (is_kept_name k name || not (t.image == i)) 19) _ (test (is_kept_name k name || not (t.image == i)) 19 (λ e. omega (arith, e))) (λ _. tt {0})))

add_named_not : (book : Book) (k id : ℕ) (name : List ℕ) → NotMemory (add_named book k id name)
unfolding add_named
add_named_not book k id name =
    seq (refuse_if (is_image_id_taken book k id) 6) _ (test (is_image_id_taken book k id) 6 (λ e. omega (arith, e))) (λ _. seq (value_or_refuse (tie_of book name) 17) _ (value (tie_of book name) 17 (λ e. omega (arith, e))) (λ t. tt {0}))

name_image_not : (k : ℕ) (w : World) (id : ℕ) (tied : Bool) (name : List ℕ) → NotMemory (name_image k w id tied name)
unfolding name_image
name_image_not k w id tied name =
    seq (image w.book k id) _ (image_not w.book k id) (λ i. seq (refuse_if (length name == 0) 23) _ (test (length name == 0) 23 (λ e. omega (arith, e))) (λ _. seq (if tied then tie w.book k id name else untie w.book k id name) _ (either tied) (λ _. tt {0})))
  where
    either : (b : Bool) → NotMemory (if b then tie w.book k id name else untie w.book k id name)
    either true = tie_not w.book k id name
    either false = untie_not w.book k id name

use_name_not : (k : ℕ) (w : World) (id : ℕ) (name : List ℕ) → NotMemory (use_name k w id name)
unfolding use_name
use_name_not k w id name = seq (add_named w.book k id name) _ (add_named_not w.book k id name) (λ _. tt {0})

look_background_not : (w : World) (k : ℕ) (background : Option (ℕ × Point)) → NotMemory (look_background w k background)
look_background_not w k None = tt
look_background_not w k (Some b) = seq (image w.book k b.0) _ (image_not w.book k b.0) (λ _. tt {0})

layout_not : (font : Font) (p sp : Point) (indices : List ℕ) → NotMemory (layout font p sp indices)
unfolding layout
layout_not font p sp indices = seq (refuse_if (not (list_all (has_index font) indices)) 15) _ (test (not (list_all (has_index font) indices)) 15 (λ e. omega (arith, e))) (λ _. tt {0})

write_string_not : (k : ℕ) (w : World) (writing : Writing) (background : Option (ℕ × Point)) → NotMemory (write_string k w writing background)
unfolding write_string string_drawings
write_string_not k w writing background =
    seq (string_drawings k w writing background) _
    (seq (image w.book k writing.dstid) _ (image_not w.book k writing.dstid) (λ dst. seq (image w.book k writing.srcid) _ (image_not w.book k writing.srcid) (λ src. seq (image w.book k writing.fontid) _ (image_not w.book k writing.fontid) (λ font_image. seq (font_of w k writing.fontid) _ (value (lookup (client_of w k).fonts writing.fontid) 14 (λ e. omega (arith, e))) (λ font. seq (look_background w k background) _ (look_background_not w k background) (λ under. seq (layout font writing.p writing.sp writing.indices) _ (layout_not font writing.p writing.sp writing.indices) (λ laid. tt {0}))))))) (λ _. tt {0})

pub act_not : (k : ℕ) (w : World) (m : Message) (rest : List ℕ) → NotMemory (act k w m rest)
unfolding act
act_not k w (LowB id screenid refresh chan repl r clipr color) rest = allocate_not k w id screenid refresh chan _ r clipr color
act_not k w (LowC dstid repl clipr) rest = set_clip_not k w dstid _ clipr
act_not k w (LowD dstid srcid maskid dstr srcp maskp) rest = draw_not k w dstid srcid maskid dstr srcp maskp
act_not k w (UpD debug) rest = tt
act_not k w (LowF id) rest = free_image_not k w id
act_not k w (UpO op) rest = set_operator_not k w op
act_not k w (LowR id r) rest = read_not k w id r
act_not k w LowV rest = tt
act_not k w (LowY id r) rest = write_not k w id r rest
act_not k w (UpA id imageid fillid open_to_all) rest = make_screen_not k w id imageid fillid _
act_not k w (UpF id) rest = free_screen_not k w id
act_not k w (LowI id n ascent) rest = make_font_not k w id n ascent
act_not k w (LowL cacheid srcid index r sp left width) rest = load_cell_not k w cacheid srcid index r sp left width
act_not k w (UpN id tied name) rest = name_image_not k w id _ name
act_not k w (LowN id name) rest = use_name_not k w id name
act_not k w (LowO id rmin scr) rest = move_window_not k w id rmin scr
act_not k w (LowS writing) rest = write_string_not k w writing None
act_not k w (UpS id chan) rest = share_screen_not k w id chan
act_not k w (LowT top ids) rest = restack_not k w _ ids
act_not k w (LowX writing bgid bgp) rest = write_string_not k w writing (Some (bgid, bgp))

pub not-of : {A : Type 0} (o : Outcome A) (n : ℕ) → NotMemory o → o ≡ Err n → n ≡ 24 → ⊥
not-of (Ok x) n h e = absurd cc
not-of (Err m) n h e = λ f. h (let same : m ≡ n = cc in same ∙ f)
