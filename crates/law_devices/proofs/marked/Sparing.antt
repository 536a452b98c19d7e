-- No message of a connection is refused for want of memory.
use Rattle.std.proofs.Common.{◌≡◌, ◌||◌, ◌&&◌, ℕ, Bool, true, false, ℤ, List, [], ◌∷◌, Option, Some, None, Ok, Err, refl}
use Rattle.std.specs.Prelude.{◌==◌, is_some, length, nat_lt, not, if◌then◌else◌}
use Rattle.std.specs.List.{list_all}
use Rattle.std.specs.Option.{option_map_or}
use Rattle.r9_geom.specs.declared.Point.{Point}
use Rattle.r9_geom.specs.declared.Rect.{Rect}
use Rattle.r9_geom.specs.Geometry.{is_empty, is_inside}
use Rattle.model_text.specs.text.Outcome.{Outcome, ◌>>=◌, refuse_if, value_or_refuse}
use Rattle.model_pixel.specs.Channels.{is_descriptor}
use Rattle.model_draw.specs.imgfile.ImageFile.{rows_len}
use Rattle.model_draw_parts.specs.dmsg.Message.{Message, LowB, UpA, LowC, LowD, UpD, LowF, UpF, LowI, LowL, UpN, LowN, LowO, UpO, LowR, LowS, UpS, LowT, LowV, LowX, LowY, Writing}
use Rattle.model_draw_parts.specs.declared.fonts.Cell.{Cell}
use Rattle.model_draw_parts.specs.fonts.Font.{Font, has_index, layout, with_cell}
use Rattle.model_draw_parts.specs.images.Book.{Book, add_id, add_named, add_screen, by_name, has_screen, image, image_id, image_of, is_image_id_taken, is_kept_name, is_screen_id_taken, is_stale, new_screen, public, screen, screen_id, tie, tie_of, untie}
use Rattle.model_draw_parts.specs.images.Release.{free_id, free_screen, own_image_id}
use Rattle.model_draw.specs.draw.World.{World, at_number, client_of, is_display, look, next_image}
use Rattle.model_draw.specs.draw.Making.{allocate, clashes, farthest, flag, free_image, free_screen_id, is_near_rect, is_too_large, is_window, make_screen, screen_named, set_clip, share_screen}
use Rattle.model_draw.specs.draw.Moving.{are_on_one_screen, look_window, look_windows, move_window, restack, stays_near}
use Rattle.model_draw.specs.draw.Drawing.{draw, drawing_of, most_read, read_pixels, set_operator, write_pixels}
use Rattle.model_draw.specs.draw.Naming.{name_image, use_name}
use Rattle.model_draw.specs.draw.Writing.{font_of, is_turned, load_cell, look_background, make_font, most_cells, string_drawings, write_string}
use Rattle.model_draw.specs.draw.Act.{act, no_memory}

-- what is refused is not refused for want of memory
abbrev pub Spares : {A : Type 0} → Outcome A → Type 0
Spares (Ok x) = Unit {0}
Spares (Err n) = (n == no_memory) ≡ false

step : {A B : Type 0} (o : Outcome A) (next : A → Outcome B) → Spares o → ((x : A) → Spares (next x)) → Spares (o >>= next)
step (Ok x) next one more = more x
step (Err n) next one more = one

refused : (b : Bool) (n : ℕ) → (n == no_memory) ≡ false → Spares (refuse_if b n)
refused true n other = other
refused false n other = tt

valued : {A : Type 0} (o : Option A) (n : ℕ) → (n == no_memory) ≡ false → Spares (value_or_refuse o n)
valued (Some x) n other = tt
valued None n other = other

-- ---- ids, screens and names

image_spares : (book : Book) (k id : ℕ) → Spares (image book k id)
unfolding image
image_spares book k id = step _ _ (valued (image_id book k id) 4 refl) (λ e. step _ _ (refused (is_stale book e) 18 refl) (λ _. tt))

look_spares : (w : World) (k id : ℕ) → Spares (look w k id)
look_spares w k id = image_spares w.book k id

screen_spares : (book : Book) (k id : ℕ) → Spares (screen book k id)
unfolding screen
screen_spares book k id = valued _ 5 refl

public_spares : (book : Book) (id : ℕ) → Spares (public book id)
unfolding public
public_spares book id = valued _ 5 refl

add_id_spares : (book : Book) (k id i : ℕ) (s : Option ℕ) → Spares (add_id book k id i s)
unfolding add_id
add_id_spares book k id i s = step _ _ (refused (is_image_id_taken book k id) 6 refl) (λ _. tt)

add_named_spares : (book : Book) (k id : ℕ) (name : List ℕ) → Spares (add_named book k id name)
unfolding add_named
add_named_spares book k id name = step _ _ (refused (is_image_id_taken book k id) 6 refl) (λ _. step _ _ (valued (tie_of book name) 17 refl) (λ t. tt))

new_screen_spares : (book : Book) (k id : ℕ) (is_public : Bool) (i fill : ℕ) → Spares (new_screen book k id is_public i fill)
unfolding new_screen
new_screen_spares book k id is_public i fill = step _ _ (refused (is_screen_id_taken book k id is_public) 7 refl) (λ _. tt)

add_screen_spares : (book : Book) (k id s : ℕ) (is_public : Bool) → Spares (add_screen book k id s is_public)
unfolding add_screen
add_screen_spares book k id s is_public = step _ _ (refused (is_screen_id_taken book k id is_public) 7 refl) (λ _. tt)

tie_spares : (book : Book) (k id : ℕ) (name : List ℕ) → Spares (tie book k id name)
unfolding tie
tie_spares book k id name = step _ _ (image_spares book k id) (λ i. step _ _ (refused (is_some (tie_of book name) || is_kept_name k name) 16 refl) (λ _. tt))

untie_spares : (book : Book) (k id : ℕ) (name : List ℕ) → Spares (untie book k id name)
unfolding untie
untie_spares book k id name =
    step _ _ (image_spares book k id) (λ i. step _ _ (valued (tie_of book name) 17 refl) (λ t. step _ _ (refused (is_kept_name k name || not (t.image == i)) 19 refl) (λ _. tt)))

free_id_spares : (book : Book) (k id : ℕ) → Spares (free_id book k id)
unfolding free_id
free_id_spares book k id = step _ _ (valued (own_image_id book k id) 4 refl) (λ e. tt)

free_screen_spares : (book : Book) (k id : ℕ) → Spares (free_screen book k id)
unfolding free_screen
free_screen_spares book k id = step _ _ (valued (screen_id book k id) 5 refl) (λ e. tt)

module _ (k : ℕ) (w : World) where
  -- ---- images, screens and ids

  named_spares : (id : ℕ) → Spares (screen_named w k id)
  named_spares id = by (id == 0)
    where
      by : (b : Bool) → Spares {A = Option ℕ} (if b then Ok None else screen w.book k id >>= λ s. Ok (Some s))
      by true = tt
      by false = step _ _ (screen_spares w.book k id) (λ s. tt)

  allocate_spares : (id screenid refresh chan : ℕ) (repl : Bool) (r clipr : Rect) (color : ℕ) → Spares (allocate k w id screenid refresh chan repl r clipr color)
  unfolding allocate
  allocate_spares id screenid refresh chan repl r clipr color =
      step _ _ (refused (is_image_id_taken w.book k id) 6 refl) (λ _.
      step _ _ (refused (nat_lt 2 refresh) 23 refl) (λ _.
      step _ _ (refused (not (is_descriptor chan)) 8 refl) (λ _.
      step _ _ (refused (is_empty r || not (is_near_rect farthest r)) 9 refl) (λ _.
      step _ _ (refused (is_too_large (client_of w k) (rows_len chan r)) 10 refl) (λ _.
      step _ _ (named_spares screenid) (λ s.
      step _ _ (refused (option_map_or (clashes w chan repl) s false) 11 refl) (λ _. step _ _ (add_id_spares w.book k id (next_image w) s) (λ book. tt))))))))

  make_screen_spares : (id imageid fillid : ℕ) (is_public : Bool) → Spares (make_screen k w id imageid fillid is_public)
  unfolding make_screen
  make_screen_spares id imageid fillid is_public =
      step _ _ (refused (id == 0) 23 refl) (λ _.
      step _ _ (refused (is_screen_id_taken w.book k id is_public) 7 refl) (λ _.
      step _ _ (look_spares w k imageid) (λ i.
      step _ _ (look_spares w k fillid) (λ fill.
      step _ _ (refused (at_number w i).repl 11 refl) (λ _.
      step _ _ (refused (nat_lt 15 (at_number w i).depth) 23 refl) (λ _. step _ _ (new_screen_spares w.book k id is_public i fill) (λ book. tt)))))))

  share_screen_spares : (id chan : ℕ) → Spares (share_screen k w id chan)
  unfolding share_screen
  share_screen_spares id chan =
      step _ _ (refused (id == 0) 23 refl) (λ _.
      step _ _ (refused (is_screen_id_taken w.book k id false) 7 refl) (λ _.
      step _ _ (public_spares w.book id) (λ s.
      step _ _ (refused (not ((at_number w (image_of w.book s)).chan == chan)) 11 refl) (λ _. step _ _ (add_screen_spares w.book k id s false) (λ book. tt)))))

  free_image_spares : (id : ℕ) → Spares (free_image k w id)
  unfolding free_image
  free_image_spares id = step _ _ (refused (id == 0) 23 refl) (λ _. step _ _ (free_id_spares w.book k id) (λ freed. tt))

  free_screen_id_spares : (id : ℕ) → Spares (free_screen_id k w id)
  unfolding free_screen_id
  free_screen_id_spares id = step _ _ (free_screen_spares w.book k id) (λ freed. tt)

  -- ---- windows

  look_window_spares : (id : ℕ) → Spares (look_window w k id)
  look_window_spares id = step _ _ (look_spares w k id) (λ i. step _ _ (refused (not (is_window w i) || by_name w.book k id) 20 refl) (λ _. tt))

  move_spares : (id : ℕ) (rmin scr : Point) → Spares (move_window k w id rmin scr)
  unfolding move_window
  move_spares id rmin scr = step _ _ (look_window_spares id) (λ i. step _ _ (refused (not (stays_near (at_number w i).r rmin scr)) 9 refl) (λ _. tt))

  look_windows_spare : (ids : List ℕ) → Spares (look_windows w k ids)
  look_windows_spare [] = tt
  look_windows_spare (id ∷ ids) = step _ _ (look_window_spares id) (λ i. step _ _ (look_windows_spare ids) (λ rest. tt))

  restack_spares : (top : Bool) (ids : List ℕ) → Spares (restack k w top ids)
  unfolding restack
  restack_spares top ids = step _ _ (look_windows_spare ids) (λ group. step _ _ (refused (not (are_on_one_screen w.book group)) 22 refl) (λ _. tt))

  -- ---- drawing

  set_clip_spares : (dstid : ℕ) (repl : Bool) (clipr : Rect) → Spares (set_clip k w dstid repl clipr)
  unfolding set_clip
  set_clip_spares dstid repl clipr =
      step _ _ (look_spares w k dstid) (λ dst.
      step _ _ (refused (is_display w dst) 23 refl) (λ _. step _ _ (refused (repl && (is_window w dst || has_screen w.book dst)) 11 refl) (λ _. tt)))

  drawing_spares : (dstid srcid maskid : ℕ) (dstr : Rect) (srcp maskp : Point) → Spares (drawing_of k w dstid srcid maskid dstr srcp maskp)
  unfolding drawing_of
  drawing_spares dstid srcid maskid dstr srcp maskp =
      step _ _ (look_spares w k dstid) (λ dst. step _ _ (look_spares w k srcid) (λ src. step _ _ (look_spares w k maskid) (λ mask. tt)))

  draw_spares : (dstid srcid maskid : ℕ) (dstr : Rect) (srcp maskp : Point) → Spares (draw k w dstid srcid maskid dstr srcp maskp)
  unfolding draw
  draw_spares dstid srcid maskid dstr srcp maskp = step _ _ (drawing_spares dstid srcid maskid dstr srcp maskp) (λ d. tt)

  set_operator_spares : (op : ℕ) → Spares (set_operator k w op)
  unfolding set_operator
  set_operator_spares op = step _ _ (refused (nat_lt 11 op) 21 refl) (λ _. tt)

  read_pixels_spares : (id : ℕ) (r : Rect) → Spares (read_pixels k w id r)
  unfolding read_pixels
  read_pixels_spares id r =
      step _ _ (look_spares w k id) (λ i.
      step _ _ (refused (is_empty r || not (is_inside r (at_number w i).r)) 12 refl) (λ _. step _ _ (refused (nat_lt most_read (rows_len (at_number w i).chan r)) 25 refl) (λ _. tt)))

  write_pixels_spares : (id : ℕ) (r : Rect) (rest : List ℕ) → Spares (write_pixels k w id r rest)
  unfolding write_pixels
  write_pixels_spares id r rest =
      step _ _ (look_spares w k id) (λ i.
      step _ _ (refused (is_empty r || not (is_inside r (at_number w i).r)) 13 refl) (λ _. step _ _ (refused (nat_lt (length rest) (rows_len (at_number w i).chan r)) 1 refl) (λ _. tt)))

  -- ---- names, fonts and strings

  name_image_spares : (id : ℕ) (tied : Bool) (name : List ℕ) → Spares (name_image k w id tied name)
  unfolding name_image
  name_image_spares id tied name =
      step _ _ (look_spares w k id) (λ _. step _ _ (refused (length name == 0) 23 refl) (λ _. step _ _ (by tied) (λ book. tt)))
    where
      by : (b : Bool) → Spares (if b then tie w.book k id name else untie w.book k id name)
      by true = tie_spares w.book k id name
      by false = untie_spares w.book k id name

  use_name_spares : (id : ℕ) (name : List ℕ) → Spares (use_name k w id name)
  unfolding use_name
  use_name_spares id name = step _ _ (add_named_spares w.book k id name) (λ book. tt)

  make_font_spares : (id n ascent : ℕ) → Spares (make_font k w id n ascent)
  unfolding make_font
  make_font_spares id n ascent =
      step _ _ (look_spares w k id) (λ i.
      step _ _ (refused ((id == 0) || is_window w i || by_name w.book k id) 23 refl) (λ _. step _ _ (refused ((n == 0) || nat_lt most_cells n) 23 refl) (λ _. tt)))

  font_spares : (id : ℕ) → Spares (font_of w k id)
  font_spares id = valued _ 14 refl

  cell_spares : (font : Font) (index : ℕ) (c : Cell) → Spares (with_cell font index c)
  unfolding with_cell
  cell_spares font index c = step _ _ (refused (not (has_index font index)) 15 refl) (λ _. tt)

  load_cell_spares : (cacheid srcid index : ℕ) (r : Rect) (sp : Point) (left : ℤ) (width : ℕ) → Spares (load_cell k w cacheid srcid index r sp left width)
  unfolding load_cell
  load_cell_spares cacheid srcid index r sp left width =
      step _ _ (look_spares w k cacheid) (λ cache.
      step _ _ (font_spares cacheid) (λ font.
      step _ _ (look_spares w k srcid) (λ src.
      step _ _ (cell_spares font index (record { r = r; left = left; width = width })) (λ loaded.
      step _ _ (refused (is_turned r || not (is_inside r (at_number w cache).r)) 9 refl) (λ _. tt)))))

  background_spares : (bg : Option (ℕ × Point)) → Spares (look_background w k bg)
  background_spares None = tt
  background_spares (Some bg) = step _ _ (look_spares w k bg.0) (λ i. tt)

  layout_spares : (font : Font) (p sp : Point) (indices : List ℕ) → Spares (layout font p sp indices)
  unfolding layout
  layout_spares font p sp indices = step _ _ (refused (not (list_all (has_index font) indices)) 15 refl) (λ _. tt)

  strings_spare : (x : Writing) (bg : Option (ℕ × Point)) → Spares (string_drawings k w x bg)
  unfolding string_drawings
  strings_spare x bg =
      step _ _ (look_spares w k x.dstid) (λ dst.
      step _ _ (look_spares w k x.srcid) (λ src.
      step _ _ (look_spares w k x.fontid) (λ font_image.
      step _ _ (font_spares x.fontid) (λ font. step _ _ (background_spares bg) (λ under. step _ _ (layout_spares font x.p x.sp x.indices) (λ laid. tt))))))

  write_string_spares : (x : Writing) (bg : Option (ℕ × Point)) → Spares (write_string k w x bg)
  unfolding write_string
  write_string_spares x bg = step _ _ (strings_spare x bg) (λ ds. tt)

  -- ---- each message

  pub act_spares : (m : Message) (rest : List ℕ) → Spares (act k w m rest)
  unfolding act
  act_spares (LowB id screenid refresh chan repl r clipr color) rest = allocate_spares id screenid refresh chan (flag repl) r clipr color
  act_spares (UpA id imageid fillid public) rest = make_screen_spares id imageid fillid (flag public)
  act_spares (LowC dstid repl clipr) rest = set_clip_spares dstid (flag repl) clipr
  act_spares (LowD dstid srcid maskid dstr srcp maskp) rest = draw_spares dstid srcid maskid dstr srcp maskp
  act_spares (UpD debug) rest = tt
  act_spares (LowF id) rest = free_image_spares id
  act_spares (UpF id) rest = free_screen_id_spares id
  act_spares (LowI id n ascent) rest = make_font_spares id n ascent
  act_spares (LowL cacheid srcid index r sp left width) rest = load_cell_spares cacheid srcid index r sp left width
  act_spares (UpN id tied name) rest = name_image_spares id (flag tied) name
  act_spares (LowN id name) rest = use_name_spares id name
  act_spares (LowO id rmin scr) rest = move_spares id rmin scr
  act_spares (UpO op) rest = set_operator_spares op
  act_spares (LowR id r) rest = read_pixels_spares id r
  act_spares (LowS writing) rest = write_string_spares writing None
  act_spares (UpS id chan) rest = share_screen_spares id chan
  act_spares (LowT top ids) rest = restack_spares (flag top) ids
  act_spares LowV rest = tt
  act_spares (LowX writing bgid bgp) rest = write_string_spares writing (Some (bgid, bgp))
  act_spares (LowY id r) rest = write_pixels_spares id r rest
