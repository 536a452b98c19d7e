-- A window keeps its image, its screen and its name's tie where a session's own messages are done.
use Rattle.std.proofs.Common.{◌≡◌, ◌≢◌, ℕ, Bool, true, false, cond, ℤ, List, [], ◌∷◌, Option, Some, None, Ok, refl, sym, ap, subst, ◌∙◌, arith}
use Rattle.std.specs.Prelude.{◌==◌, ◌||◌, ◌&&◌, All, IfOk, find, length, nat_lt, not, option_map, unwrap_or, if◌then◌else◌}
use Rattle.std.specs.List.{fold}
use Rattle.std.specs.Option.{option_map_or, option_or}
use Rattle.std.proofs.lemmas.Bool.{eqb-true, eqb-false}
use Rattle.std.proofs.lemmas.Int.{clamps, ints}
use Rattle.std.proofs.lemmas.List.Folds.{find-append}
use Rattle.r9_geom.specs.declared.Point.{Point}
use Rattle.r9_geom.specs.declared.Rect.{Rect}
use Rattle.r9_geom.specs.Geometry.{is_empty, is_inside}
use Rattle.model_text.specs.text.Outcome.{Outcome, refuse_if}
use Rattle.model_pixel.specs.Channels.{is_descriptor}
use Rattle.model_draw.specs.imgfile.ImageFile.{rows_len}
use Rattle.model_draw_parts.specs.dmsg.Message.{Message, LowB, UpA, LowC, LowD, UpD, LowF, UpF, LowI, LowL, UpN, LowN, LowO, UpO, LowR, LowS, UpS, LowT, LowV, LowX, LowY, Writing}
use Rattle.model_draw_parts.specs.fonts.Font.{with_cell}
use Rattle.model_forest.specs.World.{Image as ImageState, World as Images, no_image}
use Rattle.model_forest.specs.Draw.{after_draw}
use Rattle.model_forest.specs.Stack.{after_lower, after_raise}
use Rattle.model_forest.specs.Steps.{after_origin, after_set, carried_rect, clamped, clamped_rect}
use Rattle.model_forest.proofs.Changes.{with_image-at}
use Rattle.model_forest.proofs.Releasing.{origin-at}
use Rattle.model_draw_parts.specs.declared.images.ImageId.{ImageId}
use Rattle.model_draw_parts.specs.declared.images.OnScreen.{OnScreen}
use Rattle.model_draw_parts.specs.images.Book.{Book, add_id, add_named, by_name, fill_of, has_screen, image_id, image_of, is_image_id_taken, is_screen_id_taken, new_screen, owner, put_image_id, tie_of, with_window}
use Rattle.model_draw_parts.specs.images.Release.{free_id, free_screen}
use Rattle.model_draw_parts.proofs.images.Ties.{find-put}
use Rattle.model_draw.specs.draw.World.{Client, World, after_freed, at_number, client_of, is_display, look, next_image, with_book, with_images}
use Rattle.model_draw.specs.draw.Act.{act}
use Rattle.model_draw.specs.draw.Making.{allocate, clashes, deepest_screen, farthest, fill_raw, flag, free_image, free_screen_id, is_near_rect, is_too_large, is_window, make_screen, screen_named, set_clip, with_made, with_new_image, with_one_pixel}
use Rattle.model_draw.specs.draw.Moving.{are_on_one_screen, look_window, look_windows, move_window, restack, stays_near}
use Rattle.model_draw.specs.draw.Drawing.{draw, drawing_of, most_read, read_pixels, set_operator, write_pixels}
use Rattle.model_draw.specs.draw.Naming.{use_name}
use Rattle.model_draw.specs.draw.Writing.{font_of, is_turned, load_cell, make_font, most_cells, s_alone, string_drawings, unmasked, write_string}
use Rattle.model_draw.specs.draw.Orders.{manager}
use Rattle.law_shown.specs.shown.Showing.{IsOrderly}
use Rattle.law_shown.proofs.shown.Following.{shown_used}
use Rattle.law_shown.proofs.shown.Numbers.{out_apart}
use Rattle.law_shown.proofs.shown.Tests.{after_step, refuse_ok, same_Ok, turned, value_ok}
use Rattle.law_likeness.proofs.likeness.Ids.{owner_manager}
use Rattle.law_likeness.proofs.likeness.Shapes.{Keeps, keeps_draw, keeps_draws, keeps_image, keeps_load, keeps_lower, keeps_origin, keeps_raise, keeps_set, keeps_then, keeps_window}
use Rattle.law_likeness.specs.making.Likes.{IsOwn}
use Rattle.law_devices.specs.holding.Near.{IsNearMessage}
use Rattle.law_devices.proofs.holding.Freeing.{IsNear, Minds, id_minds, near_kept, screen_minds}

-- what is clamped stays so
clamped_again : (r : Rect) → clamped_rect (clamped_rect r) ≡ clamped_rect r
clamped_again r = λ i. record {
  min = record { x = again r.min.x i; y = again r.min.y i };
  max = record { x = again r.max.x i; y = again r.max.y i };
}
  where
    again : (x : ℤ) → clamped (clamped x) ≡ clamped x
    again x = omega (arith, ints, clamps)

module _ (k : ℕ) (w : World) (serial : ℕ) (e : ImageId) (found : image_id w.book manager serial ≡ Some e) (other : (k == manager) ≡ false) (orderly : IsOrderly w) (untied : All (λ t. (t.client == k) ≡ false) w.book.ties) where
  abbrev Kept : World → Type 0
  Kept next = Minds serial e.image w next

  abbrev KeptIf : Outcome World → Type 0
  KeptIf o = IfOk o Kept

  -- the image is not the next one
  not_next : e.image ≢ next_image w
  not_next = eqb-false e.image (next_image w) (out_apart w.numbers e.image (orderly.images e.image (shown_used w.book manager serial e found)))

  -- and then something of a connection changes
  then_client : (next : World) (cs : List (ℕ × Client)) → Kept next → Kept (record next { clients = cs })
  then_client next cs kept = record { id = kept.id; ties = kept.ties; place = kept.place; near = kept.near }

  client_minds : (cs : List (ℕ × Client)) → Kept (record w { clients = cs })
  client_minds cs = record { id = refl; ties = refl; place = refl; near = λ near. near }

  images_near : (images : Images) → (IsNear w e.image → IsNear (with_images w images) e.image) → Kept (with_images w images)
  images_near images near = record { id = refl; ties = refl; place = refl; near = near }

  images_minds : (images : Images) → Keeps w.images images e.image → Kept (with_images w images)
  images_minds images keeps = images_near images (near_kept w (with_images w images) e.image keeps)

  -- ---- ids and screens

  apart : (id : ℕ) → ((k == owner manager serial) && (id == serial)) ≡ false
  apart id = ap (λ (n : ℕ). (k == n) && (id == serial)) (owner_manager serial) ∙ ap (λ (b : Bool). b && (id == serial)) other

  -- a book with one id more of the connection, and perhaps a new window
  id_put : (b : Book) (m : ImageId) → m.client ≡ k → b.image_ids ≡ put_image_id m w.book.image_ids → image_id b manager serial ≡ image_id w.book manager serial
  id_put b m client is =
      ap (λ (es : List ImageId). find (λ x. (x.client == owner manager serial) && (x.id == serial)) es) is
      ∙ find-put (λ (x : ImageId). (x.client == owner manager serial) && (x.id == serial)) m w.book.image_ids (ap (λ (n : ℕ). (n == owner manager serial) && (m.id == serial)) client ∙ apart m.id)

  placed : (s : Option ℕ) (windows : List OnScreen)
      → option_map (λ v. v.screen) (find (λ v. v.image == e.image) (with_window (next_image w) s windows)) ≡ option_map (λ v. v.screen) (find (λ v. v.image == e.image) windows)
  placed None windows = refl
  placed (Some t) windows =
      ap (λ (o : Option OnScreen). option_map (λ v. v.screen) o)
      (find-append (λ (v : OnScreen). v.image == e.image) windows (record { image = next_image w; screen = t } ∷ []) ∙ by (next_image w == e.image) (find (λ (v : OnScreen). v.image == e.image) windows) apart_next)
    where
      apart_next : (next_image w == e.image) ≡ false
      apart_next = turned (next_image w) e.image ∙ out_apart w.numbers e.image (orderly.images e.image (shown_used w.book manager serial e found))

      by : (b : Bool) (o : Option OnScreen) → b ≡ false → (let one : Option OnScreen = cond b (Some (record { image = next_image w; screen = t })) None in option_or o one) ≡ o
      by true o apart = absurd cc
      by false None apart = refl
      by false (Some v) apart = refl

  pixel_keeps : (s : Option ℕ) (r : Rect) (chan raw : ℕ) → Keeps w.images (with_one_pixel w s r chan raw) e.image
  pixel_keeps None r chan raw = keeps_image w.images (next_image w) r chan raw e.image not_next
  pixel_keeps (Some t) r chan raw = keeps_window w.images (next_image w) (image_of w.book t) (fill_of w.book t) r raw e.image not_next

  new_keeps : (s : Option ℕ) (r : Rect) (chan raw : ℕ) (repl : Bool) (clipr : Rect) → Keeps w.images (with_new_image w s r chan raw repl clipr) e.image
  new_keeps s r chan raw repl clipr =
      keeps_then w.images (with_one_pixel w s r chan raw) _ e.image (pixel_keeps s r chan raw) (keeps_set (with_one_pixel w s r chan raw) (next_image w) repl clipr e.image not_next)

  added : (images : Images) (id : ℕ) (s : Option ℕ) (book : Book) → Keeps w.images images e.image → add_id w.book k id (next_image w) s ≡ Ok book → Kept (with_made w images book)
  unfolding add_id
  added images id s book keeps adds =
      let m : ImageId = record { client = k; id = id; image = next_image w; tie = None } in
      let two : Book = record w.book { image_ids = put_image_id m w.book.image_ids; windows = with_window (next_image w) s w.book.windows } in
      let is : two ≡ book = same_Ok two book (refuse_ok (is_image_id_taken w.book k id) 6 (λ _. Ok two) book adds).1 in
      subst (λ (b : Book). Kept (with_made w images b)) is (record {
        id = id_put two m refl refl;
        ties = refl;
        place = placed s w.book.windows;
        near = near_kept w (with_made w images two) e.image keeps;
      })

  allocate_minds : (id screenid refresh chan : ℕ) (repl : Bool) (r clipr : Rect) (color : ℕ) → KeptIf (allocate k w id screenid refresh chan repl r clipr color)
  unfolding allocate
  allocate_minds id screenid refresh chan repl r clipr color =
      after_step _ (refuse_if (is_image_id_taken w.book k id) 6) _ (λ _ _.
      after_step _ (refuse_if (nat_lt 2 refresh) 23) _ (λ _ _.
      after_step _ (refuse_if (not (is_descriptor chan)) 8) _ (λ _ _.
      after_step _ (refuse_if (is_empty r || not (is_near_rect farthest r)) 9) _ (λ _ _.
      after_step _ (refuse_if (is_too_large (client_of w k) (rows_len chan r)) 10) _ (λ _ _.
      after_step _ (screen_named w k screenid) _ (λ s named.
      after_step _ (refuse_if (option_map_or (clashes w chan repl) s false) 11) _ (λ _ _.
      after_step _ (add_id w.book k id (next_image w) s) _ (λ book adds.
      let images = with_new_image w s r chan (fill_raw chan color) repl clipr in
      then_client (with_made w images book) _ (added images id s book (new_keeps s r chan (fill_raw chan color) repl clipr) adds)))))))))

  screened : (id : ℕ) (public : Bool) (i fill : ℕ) (book : Book) → new_screen w.book k id public i fill ≡ Ok book → Kept (with_book w book)
  unfolding new_screen
  screened id public i fill book made =
      subst (λ (b : Book). Kept (with_book w b)) (same_Ok _ book (refuse_ok (is_screen_id_taken w.book k id public) 7 _ book made).1)
      (record { id = refl; ties = refl; place = refl; near = λ near. near })

  make_screen_minds : (id imageid fillid : ℕ) (is_public : Bool) → KeptIf (make_screen k w id imageid fillid is_public)
  unfolding make_screen
  make_screen_minds id imageid fillid is_public =
      after_step _ (refuse_if (id == 0) 23) _ (λ _ _.
      after_step _ (refuse_if (is_screen_id_taken w.book k id is_public) 7) _ (λ _ _.
      after_step _ (look w k imageid) _ (λ i _.
      after_step _ (look w k fillid) _ (λ fill _.
      after_step _ (refuse_if (at_number w i).repl 11) _ (λ _ _.
      after_step _ (refuse_if (nat_lt deepest_screen (at_number w i).depth) 23) _ (λ _ _.
      after_step _ (new_screen w.book k id is_public i fill) _ (λ book made. screened id is_public i fill book made)))))))

  named : (id : ℕ) (name : List ℕ) (book : Book) → add_named w.book k id name ≡ Ok book → Kept (with_book w book)
  unfolding add_named
  named id name book adds =
      let free = refuse_ok (is_image_id_taken w.book k id) 6 _ book adds in
      let looked = value_ok (tie_of w.book name) 17 _ book free.1 in
      let m : ImageId = record { client = k; id = id; image = looked.0.image; tie = Some looked.0.number } in
      let one : Book = record w.book { image_ids = put_image_id m w.book.image_ids } in
      subst (λ (b : Book). Kept (with_book w b)) (same_Ok one book looked.2) (record { id = id_put one m refl refl; ties = refl; place = refl; near = λ near. near })

  use_name_minds : (id : ℕ) (name : List ℕ) → KeptIf (use_name k w id name)
  unfolding use_name
  use_name_minds id name = after_step _ (add_named w.book k id name) _ (λ book adds. then_client (with_book w book) _ (named id name book adds))

  -- ---- what goes

  free_image_minds : (id : ℕ) → KeptIf (free_image k w id)
  unfolding free_image
  free_image_minds id =
      after_step _ (refuse_if (id == 0) 23) _ (λ _ _.
      after_step _ (free_id w.book k id) _ (λ freed made. then_client (after_freed w freed) _ (id_minds k w serial e found other orderly untied id freed made)))

  free_screen_minds : (id : ℕ) → KeptIf (free_screen_id k w id)
  unfolding free_screen_id
  free_screen_minds id = after_step _ (free_screen w.book k id) _ (λ freed made. screen_minds k w serial e found other orderly untied id freed made)

  -- ---- images

  set_near : (i : ℕ) (repl : Bool) (clipr : Rect) → clamped_rect clipr ≡ clipr → (same : Bool) → (e.image == i) ≡ same → IsNear w e.image → IsNear (with_images w (after_set w.images i repl clipr)) e.image
  unfolding after_set
  set_near i repl clipr bound true is near =
      subst (λ (n : ℕ). IsNear (with_images w (after_set w.images i repl clipr)) n) (sym (eqb-true e.image i is))
      (subst (λ (o : Option ImageState). clamped_rect (unwrap_or o no_image).clipr ≡ (unwrap_or o no_image).clipr) (sym (with_image-at w.images i _)) bound)
  set_near i repl clipr bound false is near =
      near_kept w (with_images w (after_set w.images i repl clipr)) e.image (keeps_set w.images i repl clipr e.image (eqb-false e.image i is)) near

  set_clip_minds : (dstid : ℕ) (repl : Bool) (clipr : Rect) → clamped_rect clipr ≡ clipr → KeptIf (set_clip k w dstid repl clipr)
  unfolding set_clip
  set_clip_minds dstid repl clipr bound =
      after_step _ (look w k dstid) _ (λ dst _.
      after_step _ (refuse_if (is_display w dst) 23) _ (λ _ _.
      after_step _ (refuse_if (repl && (is_window w dst || has_screen w.book dst)) 11) _ (λ _ _.
      images_near (after_set w.images dst repl clipr) (set_near dst repl clipr bound (e.image == dst) refl))))

  move_near : (i : ℕ) (min scr : Point) → (same : Bool) → (e.image == i) ≡ same → IsNear w e.image → IsNear (with_images w (after_origin w.images i min scr)) e.image
  move_near i min scr true is near =
      subst (λ (n : ℕ). IsNear (with_images w (after_origin w.images i min scr)) n) (sym (eqb-true e.image i is))
      (subst (λ (o : Option ImageState). clamped_rect (unwrap_or o no_image).clipr ≡ (unwrap_or o no_image).clipr) (sym (origin-at w.images i min scr))
      (clamped_again (carried_rect (at_number w i).clipr (at_number w i).r.min min)))
  move_near i min scr false is near =
      near_kept w (with_images w (after_origin w.images i min scr)) e.image (keeps_origin w.images i min scr e.image (eqb-false e.image i is)) near

  move_minds : (id : ℕ) (min scr : Point) → KeptIf (move_window k w id min scr)
  unfolding move_window
  move_minds id min scr =
      after_step _ (look_window w k id) _ (λ i _.
      after_step _ (refuse_if (not (stays_near (at_number w i).r min scr)) 9) _ (λ _ _. images_near (after_origin w.images i min scr) (move_near i min scr (e.image == i) refl)))

  restack_minds : (top : Bool) (ids : List ℕ) → KeptIf (restack k w top ids)
  unfolding restack
  restack_minds top ids =
      after_step _ (look_windows w k ids) _ (λ group _. after_step _ (refuse_if (not (are_on_one_screen w.book group)) 22) _ (λ _ _. by top group))
    where
      by : (b : Bool) (group : List ℕ) → Kept (with_images w (if b then after_raise w.images group else after_lower w.images group))
      by true group = images_minds (after_raise w.images group) (keeps_raise w.images group e.image)
      by false group = images_minds (after_lower w.images group) (keeps_lower w.images group e.image)

  draw_minds : (dstid srcid maskid : ℕ) (dstr : Rect) (srcp maskp : Point) → KeptIf (draw k w dstid srcid maskid dstr srcp maskp)
  unfolding draw
  draw_minds dstid srcid maskid dstr srcp maskp =
      after_step _ (drawing_of k w dstid srcid maskid dstr srcp maskp) _ (λ drawing _.
      then_client (with_images w (after_draw w.images drawing)) _ (images_minds (after_draw w.images drawing) (keeps_draw w.images drawing e.image)))

  operator_minds : (op : ℕ) → KeptIf (set_operator k w op)
  unfolding set_operator
  operator_minds op = after_step _ (refuse_if (nat_lt 11 op) 21) _ (λ _ _. client_minds _)

  read_minds : (id : ℕ) (r : Rect) → KeptIf (read_pixels k w id r)
  unfolding read_pixels
  read_minds id r =
      after_step _ (look w k id) _ (λ i _.
      after_step _ (refuse_if (is_empty r || not (is_inside r (at_number w i).r)) 12) _ (λ _ _.
      after_step _ (refuse_if (nat_lt most_read (rows_len (at_number w i).chan r)) 25) _ (λ _ _. client_minds _)))

  write_minds : (id : ℕ) (r : Rect) (rest : List ℕ) → KeptIf (write_pixels k w id r rest)
  unfolding write_pixels
  write_minds id r rest =
      after_step _ (look w k id) _ (λ i _.
      after_step _ (refuse_if (is_empty r || not (is_inside r (at_number w i).r)) 13) _ (λ _ _.
      after_step _ (refuse_if (nat_lt (length rest) (rows_len (at_number w i).chan r)) 1) _ (λ _ _. images_minds _ (keeps_load w.images i r _ e.image))))

  font_minds : (id n ascent : ℕ) → KeptIf (make_font k w id n ascent)
  unfolding make_font
  font_minds id n ascent =
      after_step _ (look w k id) _ (λ i _.
      after_step _ (refuse_if ((id == 0) || is_window w i || by_name w.book k id) 23) _ (λ _ _.
      after_step _ (refuse_if ((n == 0) || nat_lt most_cells n) 23) _ (λ _ _. client_minds _)))

  cell_minds : (cacheid srcid index : ℕ) (r : Rect) (sp : Point) (left : ℤ) (width : ℕ) → KeptIf (load_cell k w cacheid srcid index r sp left width)
  unfolding load_cell
  cell_minds cacheid srcid index r sp left width =
      after_step _ (look w k cacheid) _ (λ cache _.
      after_step _ (font_of w k cacheid) _ (λ font _.
      after_step _ (look w k srcid) _ (λ src _.
      after_step _ (with_cell font index (record { r = r; left = left; width = width })) _ (λ loaded _.
      after_step _ (refuse_if (is_turned r || not (is_inside r (at_number w cache).r)) 9) _ (λ _ _.
      let drawing = unmasked cache r r src sp s_alone in
      then_client (with_images w (after_draw w.images drawing)) _ (images_minds (after_draw w.images drawing) (keeps_draw w.images drawing e.image)))))))

  string_minds : (writing : Writing) (background : Option (ℕ × Point)) → KeptIf (write_string k w writing background)
  unfolding write_string
  string_minds writing background =
      after_step _ (string_drawings k w writing background) _ (λ drawings _.
      then_client (with_images w (fold after_draw w.images drawings)) _ (images_minds (fold after_draw w.images drawings) (keeps_draws w.images drawings e.image)))

  -- ---- each message of a session that is alone

  pub act_minds : (window : Option (ℕ × List ℕ)) (m : Message) (rest : List ℕ) → IsOwn window m → IsNearMessage m → KeptIf (act k w m rest)
  unfolding act
  act_minds window (LowB id screenid refresh chan repl r clipr color) rest own near = allocate_minds id screenid refresh chan (flag repl) r clipr color
  act_minds window (UpA id imageid fillid public) rest own near = make_screen_minds id imageid fillid (flag public)
  act_minds window (LowC dstid repl clipr) rest own near = set_clip_minds dstid (flag repl) clipr near
  act_minds window (LowD dstid srcid maskid dstr srcp maskp) rest own near = draw_minds dstid srcid maskid dstr srcp maskp
  act_minds window (UpD debug) rest own near = client_minds w.clients
  act_minds window (LowF id) rest own near = free_image_minds id
  act_minds window (UpF id) rest own near = free_screen_minds id
  act_minds window (LowI id n ascent) rest own near = font_minds id n ascent
  act_minds window (LowL cacheid srcid index r sp left width) rest own near = cell_minds cacheid srcid index r sp left width
  act_minds window (UpN id tied name) rest own near = absurd own
  act_minds window (LowN id name) rest own near = use_name_minds id name
  act_minds window (LowO id min scr) rest own near = move_minds id min scr
  act_minds window (UpO op) rest own near = operator_minds op
  act_minds window (LowR id r) rest own near = read_minds id r
  act_minds window (LowS writing) rest own near = string_minds writing None
  act_minds window (UpS id chan) rest own near = absurd own
  act_minds window (LowT top ids) rest own near = restack_minds (flag top) ids
  act_minds window LowV rest own near = client_minds w.clients
  act_minds window (LowX writing bgid bgp) rest own near = string_minds writing (Some (bgid, bgp))
  act_minds window (LowY id r) rest own near = write_minds id r rest
