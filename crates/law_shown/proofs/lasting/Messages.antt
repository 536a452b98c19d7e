-- What messages of connections leave of what a device shows.
use Rattle.std.proofs.Common.{◌≡◌, ℕ, zero, suc, ◌+◌, Bool, true, false, ℤ, ◌-ℤ◌, ◌+ℤ◌, List, [], ◌∷◌, Option, Some, None, Ok, Err, refl, sym, ap, subst, ◌∙◌, arith}
use Rattle.std.specs.Prelude.{◌==◌, ◌||◌, ◌&&◌, IfOk, find, is_some, length, not, nat_lt, option_map, if◌then◌else◌}
use Rattle.std.specs.Int.{w32, from_le_bytes}
use Rattle.std.specs.List.{fold}
use Rattle.std.specs.Option.{option_map_or}
use Rattle.std.proofs.lemmas.Int.{ints}
use Rattle.r9_geom.specs.declared.Point.{Point}
use Rattle.r9_geom.specs.declared.Rect.{Rect}
use Rattle.r9_geom.specs.Geometry.{at_min, is_empty, is_inside}
use Rattle.model_text.specs.text.Outcome.{Outcome, ◌>>=◌, refuse_if, value_or_refuse}
use Rattle.model_pixel.specs.Channels.{is_descriptor}
use Rattle.model_draw.specs.imgfile.ImageFile.{rows_len}
use Rattle.model_draw_parts.specs.dmsg.Message.{Message, LowB, UpA, LowC, LowD, UpD, LowF, UpF, LowI, LowL, UpN, LowN, LowO, UpO, LowR, LowS, UpS, LowT, LowV, LowX, LowY, Writing}
use Rattle.model_draw_parts.specs.dmsg.Reading.{first_message}
use Rattle.model_forest.specs.World.{World as Images, image_at}
use Rattle.model_forest.specs.Draw.{Drawing, after_draw}
use Rattle.model_forest.specs.Stack.{after_lower, after_raise}
use Rattle.model_forest.specs.Steps.{after_origin, after_set, carried_rect}
use Rattle.model_draw_parts.specs.declared.images.ScreenId.{ScreenId}
use Rattle.model_draw_parts.specs.declared.images.Thing.TheVariants.{Image, Screen}
use Rattle.model_draw_parts.specs.images.Book.{Book, add_id, add_named, add_screen, by_name, has_screen, image, image_id, image_of, fill_of, is_image_id_taken, is_screen_id_taken, is_stale, new_screen, public, screen, screen_id, screen_numbered, tie, untie}
use Rattle.model_draw_parts.specs.images.Release.{free_id, free_screen, is_used, leave}
use Rattle.model_draw_parts.specs.images.Ties.{HasTies}
use Rattle.model_draw.specs.draw.World.{Client, World, after_connect, after_freed, after_leave, at_number, client_of, is_display, look, next_image, with_book, with_client, with_images}
use Rattle.model_draw.specs.draw.Making.{allocate, clashes, farthest, fill_raw, flag, free_image, free_screen_id, is_near_rect, is_too_large, is_window, make_screen, screen_named, set_clip, share_screen, with_made, with_new_image, with_one_pixel}
use Rattle.model_draw.specs.draw.Moving.{are_on_one_screen, look_window, look_windows, move_window, restack, stays_near}
use Rattle.model_draw.specs.draw.Drawing.{draw, drawing_of, most_read, read_pixels, set_operator, write_pixels}
use Rattle.model_draw.specs.draw.Naming.{name_image, use_name}
use Rattle.model_draw.specs.draw.Writing.{font_of, is_turned, load_cell, make_font, most_cells, s_alone, string_drawings, unmasked, write_string}
use Rattle.model_draw_parts.specs.fonts.Font.{with_cell}
use Rattle.model_draw.specs.draw.Act.{Written, act, is_marked, no_memory, one_message, spelled, written, written_within}
use Rattle.model_draw.specs.draw.Files.{is_known, read_data, write_ctl}
use Rattle.model_draw.specs.draw.Orders.{manager}
use Rattle.law_shown.specs.shown.Showing.{AreFree, AreSpare, IsOrderly, IsOut}
use Rattle.law_shown.proofs.shown.Tests.{after_if, after_step, find-any, first_true, same, same_Ok, same_Some, split, then_ok, value_ok}
use Rattle.law_shown.proofs.shown.Tests.{turned as turns}
use Rattle.law_shown.proofs.shown.Numbers.{next_out}
use Rattle.law_shown.proofs.shown.Frames.{AllLast, AllSame, OthersSame, all_framed, all_then, draw_same, framed, image_comes, itself, load_same, lower_same, origin_last, others_then, raise_same, set_same, shifted_size, turned, window_comes}
use Rattle.law_shown.proofs.shown.Sizes.{resized}
use Rattle.law_shown.proofs.shown.Following.{Follows, follows, follows_itself, follows_then, keeps_same, none, screen_used, shown_used}
use Rattle.law_shown.proofs.lasting.Freeing.{free_id_follows, free_screen_follows, leave_follows}
use Rattle.law_shown.proofs.lasting.Adding.{added_follows, named_follows, screened_follows, shared_follows, tie_follows, untie_follows}
use Rattle.law_shown.proofs.lasting.Ordering.{taken_follows}

-- what is left shows what the device showed
abbrev pub Still : World → World → Type 0
Still w next = Follows none none w next

abbrev pub StillIf : World → Outcome World → Type 0
StillIf w o = IfOk o (Still w)

-- the book is the same, and the images last
quiet : (w next : World) → next.book ≡ w.book → next.numbers ≡ w.numbers → next.opening ≡ w.opening → AllLast w.images next.images → IsOrderly w → Still w next
quiet w next book numbers opening lasts o =
    follows none none w next opening (keeps_same none none w.book next.book book) (λ i was now. lasts i)
    (record {
      ties = subst HasTies (sym book) o.ties;
      images = λ i used. subst (λ ns. IsOut ns i) (sym numbers) (o.images i (ap (λ (b : Book). is_used b (Image i)) (sym book) ∙ used));
      numbers = subst (λ ns. AreSpare ns.made ns.spare) (sym numbers) o.numbers;
      screens = λ s used. ap (λ (b : Book). is_some (screen_numbered b s)) book ∙ o.screens s (ap (λ (b : Book). is_used b (Screen s)) (sym book) ∙ used);
      spare = subst (λ (b : Book). AreFree b.screens b.spare) (sym book) o.spare;
    })

unmoved : (images : Images) → AllLast images images
unmoved images i = framed (image_at images i) (image_at images i) (itself (image_at images i))

client_still : (w : World) (k : ℕ) (client : Client) → IsOrderly w → Still w (with_client w k client)
client_still w k client o = quiet w (with_client w k client) refl refl refl (unmoved w.images) o

-- and then something of the connection changes
pub then_client : (w next : World) (k : ℕ) (client : Client) → Still w next → Still w (with_client next k client)
then_client w next k client f = follows_then none none w next (with_client next k client) f (client_still next k client f.orderly)

-- ---- what is looked up is used

stale_or : (b : Bool) (i j : ℕ) → (refuse_if b 18 >>= λ _. Ok j) ≡ Ok i → j ≡ i
stale_or true i j h = absurd cc
stale_or false i j h = cc

pub image_used : (book : Book) (k id i : ℕ) → image book k id ≡ Ok i → is_used book (Image i) ≡ true
unfolding image
image_used book k id i h =
    let found = value_ok (image_id book k id) 4 _ i h in
    ap (λ (n : ℕ). is_used book (Image n)) (sym (stale_or (is_stale book found.0) i found.0.image found.2)) ∙ shown_used book k id found.0 found.1

screen_of_id : (o : Option ScreenId) (s : ℕ) → value_or_refuse (option_map (λ e. e.screen) o) 5 ≡ Ok s → (e : ScreenId) × (o ≡ Some e) × (e.screen ≡ s)
screen_of_id (Some e) s h = (e, refl, same_Ok e.screen s h)
screen_of_id None s h = absurd cc

pub screen_is_used : (book : Book) (k id s : ℕ) → screen book k id ≡ Ok s → is_used book (Screen s) ≡ true
unfolding screen
screen_is_used book k id s h =
    let found = screen_of_id (screen_id book k id) s h in
    ap (λ (n : ℕ). is_used book (Screen n)) (sym found.2) ∙ screen_used book k id found.0 found.1

pub public_used : (book : Book) (id s : ℕ) → public book id ≡ Ok s → is_used book (Screen s) ≡ true
unfolding public
public_used book id s h =
    let found = screen_of_id (find (λ e. e.public && (e.id == id)) book.screen_ids) s h in
    ap (λ (n : ℕ). is_used book (Screen n)) (sym found.2) ∙ first_true _ _ (find-any _ (λ y. y.screen == found.0.screen) book.screen_ids found.0 found.1 (same found.0.screen))

other_client : (k id serial : ℕ) → (k == 0) ≡ false → ((k == manager) && (id == serial)) ≡ false
other_client k id serial other = ap (λ (b : Bool). b && (id == serial)) other

-- ---- images that come

new_others : (w : World) (s : Option ℕ) (r : Rect) (chan raw : ℕ) (repl : Bool) (clipr : Rect) → OthersSame (next_image w) w.images (with_new_image w s r chan raw repl clipr)
new_others w s r chan raw repl clipr =
    others_then (next_image w) w.images (with_one_pixel w s r chan raw) (with_new_image w s r chan raw repl clipr) (by s) (set_same (with_one_pixel w s r chan raw) (next_image w) repl clipr)
  where
    by : (s : Option ℕ) → OthersSame (next_image w) w.images (with_one_pixel w s r chan raw)
    by None = (image_comes w.images (next_image w) r chan raw).others
    by (Some t) = (window_comes w.images (next_image w) (image_of w.book t) (fill_of w.book t) r raw).others

pub named_there : (w : World) (k id : ℕ) (s : Option ℕ) → IsOrderly w → screen_named w k id ≡ Ok s → (t : ℕ) → s ≡ Some t → is_some (screen_numbered w.book t) ≡ true
named_there w k id s o e t is = by (id == 0) e
  where
    by : (b : Bool) → (if b then Ok None else screen w.book k id >>= λ s. Ok (Some s)) ≡ Ok s → is_some (screen_numbered w.book t) ≡ true
    by true e = absurd (let two : ◌≡◌ {A = Option ℕ} None (Some t) = same_Ok None s e ∙ is in cc)
    by false e =
        let found = then_ok (screen w.book k id) (λ s. Ok (Some s)) s e in
        let at : found.0 ≡ t = same_Some found.0 t (same_Ok (Some found.0) s found.2 ∙ is) in
        o.screens t (screen_is_used w.book k id t (found.1 ∙ ap Ok at))

allocate_still : (k : ℕ) (w : World) (id screenid refresh chan : ℕ) (repl : Bool) (r clipr : Rect) (color : ℕ) → (k == 0) ≡ false → IsOrderly w → StillIf w (allocate k w id screenid refresh chan repl r clipr color)
unfolding allocate
allocate_still k w id screenid refresh chan repl r clipr color other o =
    after_step _ (refuse_if (is_image_id_taken w.book k id) 6) _ (λ _ _.
    after_step _ (refuse_if (nat_lt 2 refresh) 23) _ (λ _ _.
    after_step _ (refuse_if (not (is_descriptor chan)) 8) _ (λ _ _.
    after_step _ (refuse_if (is_empty r || not (is_near_rect farthest r)) 9) _ (λ _ _.
    after_step _ (refuse_if (is_too_large (client_of w k) (rows_len chan r)) 10) _ (λ _ _.
    after_step _ (screen_named w k screenid) _ (λ s named.
    after_step _ (refuse_if (option_map_or (clashes w chan repl) s false) 11) _ (λ _ _.
    after_step _ (add_id w.book k id (next_image w) s) _ (λ book added.
    let images = with_new_image w s r chan (fill_raw chan color) repl clipr in
    let taken : World = with_made w images w.book in
    let one : Still w taken = taken_follows w images o (new_others w s r chan (fill_raw chan color) repl clipr) in
    let two : Still taken (with_book taken book) =
    added_follows none taken book k id (next_image w) s one.orderly (next_out w.numbers o.numbers) (named_there w k screenid s o named) added (λ serial at. other_client k id serial other) in
    then_client w (with_book taken book) k _ (follows_then none none w taken (with_book taken book) one two)))))))))

-- ---- screens

make_screen_still : (k : ℕ) (w : World) (id imageid fillid : ℕ) (is_public : Bool) → (k == 0) ≡ false → IsOrderly w → StillIf w (make_screen k w id imageid fillid is_public)
unfolding make_screen
make_screen_still k w id imageid fillid is_public other o =
    after_step _ (refuse_if (id == 0) 23) _ (λ _ _.
    after_step _ (refuse_if (is_screen_id_taken w.book k id is_public) 7) _ (λ _ _.
    after_step _ (look w k imageid) _ (λ i looked.
    after_step _ (look w k fillid) _ (λ fill filled.
    after_step _ (refuse_if (at_number w i).repl 11) _ (λ _ _.
    after_step _ (refuse_if (nat_lt 15 (at_number w i).depth) 23) _ (λ _ _.
    after_step _ (new_screen w.book k id is_public i fill) _ (λ book made.
    screened_follows none w k id is_public i fill book o (image_used w.book k imageid i looked) (image_used w.book k fillid fill filled) made (λ host at. other_client k id host other))))))))

share_screen_still : (k : ℕ) (w : World) (id chan : ℕ) → (k == 0) ≡ false → IsOrderly w → StillIf w (share_screen k w id chan)
unfolding share_screen
share_screen_still k w id chan other o =
    after_step _ (refuse_if (id == 0) 23) _ (λ _ _.
    after_step _ (refuse_if (is_screen_id_taken w.book k id false) 7) _ (λ _ _.
    after_step _ (public w.book id) _ (λ s found.
    after_step _ (refuse_if (not ((at_number w (image_of w.book s)).chan == chan)) 11) _ (λ _ _.
    after_step _ (add_screen w.book k id s false) _ (λ book added. shared_follows w k id s false book o other (o.screens s (public_used w.book id s found)) added)))))

free_screen_still : (k : ℕ) (w : World) (id : ℕ) → (k == 0) ≡ false → IsOrderly w → StillIf w (free_screen_id k w id)
unfolding free_screen_id
free_screen_still k w id other o =
    after_step _ (free_screen w.book k id) _ (λ freed e. free_screen_follows none w k id freed o e (λ host at. ap (λ (b : Bool). b && (host == id)) (turns 0 k ∙ other)))

-- ---- what goes

not_refused : (b : Bool) (n : ℕ) (u : Unit {0}) → refuse_if b n ≡ Ok u → b ≡ false
not_refused true n u e = absurd cc
not_refused false n u e = refl

free_image_still : (k : ℕ) (w : World) (id : ℕ) → (k == 0) ≡ false → IsOrderly w → StillIf w (free_image k w id)
unfolding free_image
free_image_still k w id other o =
    after_step _ (refuse_if (id == 0) 23) _ (λ u own.
    after_step _ (free_id w.book k id) _ (λ freed e. then_client w (after_freed w freed) k _ (free_id_follows w k id freed o other (not_refused (id == 0) 23 u own) e)))

-- ---- windows that move

at_min_is : (r : Rect) (min : Point) → carried_rect r r.min min ≡ at_min r min
at_min_is r min = λ i. record { min = record { x = low r.min.x min.x i; y = low r.min.y min.y i }; max = record { x = r.max.x -ℤ r.min.x +ℤ min.x; y = r.max.y -ℤ r.min.y +ℤ min.y } }
  where
    low : (x to : ℤ) → x -ℤ x +ℤ to ≡ to
    low x to = omega (arith, ints)

not_not : (b : Bool) (n : ℕ) (u : Unit {0}) → refuse_if (not b) n ≡ Ok u → b ≡ true
not_not true n u e = refl
not_not false n u e = absurd cc

move_still : (k : ℕ) (w : World) (id : ℕ) (rmin scr : Point) → IsOrderly w → StillIf w (move_window k w id rmin scr)
unfolding move_window
move_still k w id rmin scr o =
    after_step _ (look_window w k id) _ (λ i _.
    after_step _ (refuse_if (not (stays_near (at_number w i).r rmin scr)) 9) _ (λ u near.
    let r = (at_number w i).r in
    let close = (split (is_near_rect farthest (at_min r rmin)) (is_near_rect farthest (at_min r scr)) (not_not (stays_near r rmin scr) 9 u near)).0 in
    let images : Images = after_origin w.images i rmin scr in
    quiet w (with_images w images) refl refl refl
    (origin_last w.images i rmin scr (λ h. resized (carried_rect r r.min rmin) r (subst (λ (q : Rect). is_near_rect farthest q ≡ true) (sym (at_min_is r rmin)) close) (turned r (carried_rect r r.min rmin) (shifted_size r rmin)) h)) o))

images_still : (w : World) (images : Images) → AllSame w.images images → IsOrderly w → Still w (with_images w images)
images_still w images all o = quiet w (with_images w images) refl refl refl (all_framed w.images images all) o

restack_still : (k : ℕ) (w : World) (top : Bool) (ids : List ℕ) → IsOrderly w → StillIf w (restack k w top ids)
unfolding restack
restack_still k w top ids o =
    after_step _ (look_windows w k ids) _ (λ group _.
    after_step _ (refuse_if (not (are_on_one_screen w.book group)) 22) _ (λ _ _. by top group))
  where
    by : (b : Bool) (group : List ℕ) → Still w (with_images w (if b then after_raise w.images group else after_lower w.images group))
    by true group = images_still w (after_raise w.images group) (raise_same w.images group) o
    by false group = images_still w (after_lower w.images group) (lower_same w.images group) o

-- ---- drawing

set_clip_still : (k : ℕ) (w : World) (dstid : ℕ) (repl : Bool) (clipr : Rect) → IsOrderly w → StillIf w (set_clip k w dstid repl clipr)
unfolding set_clip
set_clip_still k w dstid repl clipr o =
    after_step _ (look w k dstid) _ (λ dst _.
    after_step _ (refuse_if (is_display w dst) 23) _ (λ _ _.
    after_step _ (refuse_if (repl && (is_window w dst || has_screen w.book dst)) 11) _ (λ _ _. images_still w (after_set w.images dst repl clipr) (set_same w.images dst repl clipr) o)))

draw_still : (k : ℕ) (w : World) (dstid srcid maskid : ℕ) (dstr : Rect) (srcp maskp : Point) → IsOrderly w → StillIf w (draw k w dstid srcid maskid dstr srcp maskp)
unfolding draw
draw_still k w dstid srcid maskid dstr srcp maskp o =
    after_step _ (drawing_of k w dstid srcid maskid dstr srcp maskp) _ (λ drawing _.
    then_client w (with_images w (after_draw w.images drawing)) k _ (images_still w (after_draw w.images drawing) (draw_same w.images drawing) o))

set_operator_still : (k : ℕ) (w : World) (op : ℕ) → IsOrderly w → StillIf w (set_operator k w op)
unfolding set_operator
set_operator_still k w op o = after_step _ (refuse_if (nat_lt 11 op) 21) _ (λ _ _. client_still w k _ o)

read_pixels_still : (k : ℕ) (w : World) (id : ℕ) (r : Rect) → IsOrderly w → StillIf w (read_pixels k w id r)
unfolding read_pixels
read_pixels_still k w id r o =
    after_step _ (look w k id) _ (λ i _.
    after_step _ (refuse_if (is_empty r || not (is_inside r (at_number w i).r)) 12) _ (λ _ _.
    after_step _ (refuse_if (nat_lt most_read (rows_len (at_number w i).chan r)) 25) _ (λ _ _. client_still w k _ o)))

write_pixels_still : (k : ℕ) (w : World) (id : ℕ) (r : Rect) (rest : List ℕ) → IsOrderly w → StillIf w (write_pixels k w id r rest)
unfolding write_pixels
write_pixels_still k w id r rest o =
    after_step _ (look w k id) _ (λ i _.
    after_step _ (refuse_if (is_empty r || not (is_inside r (at_number w i).r)) 13) _ (λ _ _.
    after_step _ (refuse_if (nat_lt (length rest) (rows_len (at_number w i).chan r)) 1) _ (λ _ _. images_still w _ (load_same w.images i r _) o)))

-- ---- names, fonts and strings

name_image_still : (k : ℕ) (w : World) (id : ℕ) (tied : Bool) (name : List ℕ) → IsOrderly w → StillIf w (name_image k w id tied name)
unfolding name_image
name_image_still k w id tied name o =
    after_step _ (look w k id) _ (λ _ _.
    after_step _ (refuse_if (length name == 0) 23) _ (λ _ _.
    after_step _ (if tied then tie w.book k id name else untie w.book k id name) _ (λ book e. by tied book e)))
  where
    by : (b : Bool) (book : Book) → (if b then tie w.book k id name else untie w.book k id name) ≡ Ok book → Still w (with_book w book)
    by true book e = tie_follows w k id name book o e
    by false book e = untie_follows w k id name book o e

use_name_still : (k : ℕ) (w : World) (id : ℕ) (name : List ℕ) → (k == 0) ≡ false → IsOrderly w → StillIf w (use_name k w id name)
unfolding use_name
use_name_still k w id name other o =
    after_step _ (add_named w.book k id name) _ (λ book e. then_client w (with_book w book) k _ (named_follows w k id name book o other e))

make_font_still : (k : ℕ) (w : World) (id n ascent : ℕ) → IsOrderly w → StillIf w (make_font k w id n ascent)
unfolding make_font
make_font_still k w id n ascent o =
    after_step _ (look w k id) _ (λ i _.
    after_step _ (refuse_if ((id == 0) || is_window w i || by_name w.book k id) 23) _ (λ _ _.
    after_step _ (refuse_if ((n == 0) || nat_lt most_cells n) 23) _ (λ _ _. client_still w k _ o)))

load_cell_still : (k : ℕ) (w : World) (cacheid srcid index : ℕ) (r : Rect) (sp : Point) (left : ℤ) (width : ℕ) → IsOrderly w → StillIf w (load_cell k w cacheid srcid index r sp left width)
unfolding load_cell
load_cell_still k w cacheid srcid index r sp left width o =
    after_step _ (look w k cacheid) _ (λ cache _.
    after_step _ (font_of w k cacheid) _ (λ font _.
    after_step _ (look w k srcid) _ (λ src _.
    after_step _ (with_cell font index (record { r = r; left = left; width = width })) _ (λ loaded _.
    after_step _ (refuse_if (is_turned r || not (is_inside r (at_number w cache).r)) 9) _ (λ _ _.
    let drawing = unmasked cache r r src sp s_alone in
    then_client w (with_images w (after_draw w.images drawing)) k _ (images_still w (after_draw w.images drawing) (draw_same w.images drawing) o))))))

drawings_same : (drawings : List Drawing) (images : Images) → AllSame images (fold after_draw images drawings)
drawings_same [] images = λ i. itself (image_at images i)
drawings_same (d ∷ ds) images = all_then images (after_draw images d) (fold after_draw (after_draw images d) ds) (draw_same images d) (drawings_same ds (after_draw images d))

write_string_still : (k : ℕ) (w : World) (writing : Writing) (background : Option (ℕ × Point)) → IsOrderly w → StillIf w (write_string k w writing background)
unfolding write_string
write_string_still k w writing background o =
    after_step _ (string_drawings k w writing background) _ (λ drawings _.
    then_client w (with_images w (fold after_draw w.images drawings)) k _ (images_still w (fold after_draw w.images drawings) (drawings_same drawings w.images) o))

-- ---- each message

pub act_still : (k : ℕ) (w : World) (m : Message) (rest : List ℕ) → (k == 0) ≡ false → IsOrderly w → StillIf w (act k w m rest)
unfolding act
act_still k w (LowB id screenid refresh chan repl r clipr color) rest other o = allocate_still k w id screenid refresh chan (flag repl) r clipr color other o
act_still k w (UpA id imageid fillid public) rest other o = make_screen_still k w id imageid fillid (flag public) other o
act_still k w (LowC dstid repl clipr) rest other o = set_clip_still k w dstid (flag repl) clipr o
act_still k w (LowD dstid srcid maskid dstr srcp maskp) rest other o = draw_still k w dstid srcid maskid dstr srcp maskp o
act_still k w (UpD debug) rest other o = follows_itself none none w o
act_still k w (LowF id) rest other o = free_image_still k w id other o
act_still k w (UpF id) rest other o = free_screen_still k w id other o
act_still k w (LowI id n ascent) rest other o = make_font_still k w id n ascent o
act_still k w (LowL cacheid srcid index r sp left width) rest other o = load_cell_still k w cacheid srcid index r sp left width o
act_still k w (UpN id tied name) rest other o = name_image_still k w id (flag tied) name o
act_still k w (LowN id name) rest other o = use_name_still k w id name other o
act_still k w (LowO id rmin scr) rest other o = move_still k w id rmin scr o
act_still k w (UpO op) rest other o = set_operator_still k w op o
act_still k w (LowR id r) rest other o = read_pixels_still k w id r o
act_still k w (LowS writing) rest other o = write_string_still k w writing None o
act_still k w (UpS id chan) rest other o = share_screen_still k w id chan other o
act_still k w (LowT top ids) rest other o = restack_still k w (flag top) ids o
act_still k w LowV rest other o = follows_itself none none w o
act_still k w (LowX writing bgid bgp) rest other o = write_string_still k w writing (Some (bgid, bgp)) o
act_still k w (LowY id r) rest other o = write_pixels_still k w id r rest o

-- ---- a write, and the files of a connection

one_still : (k : ℕ) (w : World) (mark : Option ℕ) (done : ℕ) (bytes : List ℕ) → (k == 0) ≡ false → IsOrderly w → IfOk (one_message k w mark done bytes) (λ next. Still w next.0)
unfolding one_message
one_still k w mark done bytes other o =
    after_step _ (spelled (first_message bytes)) _ (λ m _.
    after_if _ (Still w) (act k w m.0 m.1) _ (act_still k w m.0 m.1 other o) (λ next still.
    after_step _ (refuse_if (is_marked mark done) no_memory) _ (λ _ _. still)))

abbrev left_by : (go_on : World → List ℕ → Written) → World → ℕ → Outcome (World × List ℕ) → Written
left_by go_on w done (Ok next) = go_on next.0 next.1
left_by go_on w done (Err refusal) = record { world = w; done = done; refusal = Some refusal }

left_still : (go_on : World → List ℕ → Written) (w : World) (done : ℕ) (a : Outcome (World × List ℕ)) → IsOrderly w → ((next : World) (rest : List ℕ) → IsOrderly next → Still next (go_on next rest).world)
    → IfOk a (λ next. Still w next.0) → Still w (left_by go_on w done a).world
left_still go_on w done (Ok next) o further still = follows_then none none w next.0 (go_on next.0 next.1).world still (further next.0 next.1 still.orderly)
left_still go_on w done (Err refusal) o further still = follows_itself none none w o

within_still : (steps k : ℕ) (w : World) (mark : Option ℕ) (done : ℕ) (bytes : List ℕ) → (k == 0) ≡ false → IsOrderly w → Still w (written_within steps k w mark done bytes).world
within_still zero k w mark done bytes other o = follows_itself none none w o
within_still (suc steps) k w mark done [] other o = follows_itself none none w o
within_still (suc steps) k w mark done (byte ∷ bytes) other o =
    left_still (λ next rest. written_within steps k next mark (done + 1) rest) w done (one_message k w mark done (byte ∷ bytes)) o
    (λ next rest orderly. within_still steps k next mark (done + 1) rest other orderly)
    (one_still k w mark done (byte ∷ bytes) other o)

pub written_still : (k : ℕ) (w : World) (bytes : List ℕ) (mark : Option ℕ) → (k == 0) ≡ false → IsOrderly w → Still w (written k w bytes mark).world
unfolding written
written_still k w bytes mark other o = within_still (length bytes) k w mark 0 bytes other o

pub read_data_still : (k : ℕ) (w : World) (most : ℕ) → IsOrderly w → IfOk (read_data k w most) (λ got. Still w got.1)
unfolding read_data
read_data_still k w most o =
    after_step _ (refuse_if (length (client_of w k).pending == 0) 26) _ (λ _ _.
    after_step _ (refuse_if (nat_lt most (length (client_of w k).pending)) 25) _ (λ _ _. client_still w k _ o))

pub write_ctl_still : (k : ℕ) (w : World) (bytes : List ℕ) → IsOrderly w → StillIf w (write_ctl k w bytes)
unfolding write_ctl
write_ctl_still k w bytes o =
    after_step _ (refuse_if (not (length bytes == 4)) 27) _ (λ _ _.
    after_step _ (refuse_if (not (is_known w k (from_le_bytes w32 bytes))) 4) _ (λ _ _. client_still w k _ o))

-- ---- connections that begin and end

pub connect_still : (w : World) (k : ℕ) → IsOrderly w → Still w (after_connect w k)
connect_still w k o = quiet w (after_connect w k) refl refl refl (unmoved w.images) o

pub leave_still : (w : World) (k : ℕ) → (k == 0) ≡ false → IsOrderly w → Still w (after_leave w k)
leave_still w k other o =
    let left : World = after_freed w (leave w.book k) in
    let one : Still w left = leave_follows w k o other in
    follows_then none none w left (after_leave w k) one (quiet left (after_leave w k) refl refl refl (unmoved left.images) one.orderly)
