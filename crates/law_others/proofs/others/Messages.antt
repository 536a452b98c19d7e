-- Each message of a connection outside a part leaves the part as it is.
use Rattle.std.proofs.Common.{◌≡◌, ◌+◌, ◌&&◌, ◌||◌, ℕ, Bool, true, false, ℤ, List, [], ◌∷◌, ◌++◌, Option, Some, None, Ok, Err, refl, sym, ap, subst}
use Rattle.std.specs.Prelude.{◌==◌, IfOk, is_some, length, map, nat_lt, not, if◌then◌else◌}
use Rattle.std.specs.Int.{w32, from_le_bytes}
use Rattle.std.specs.Option.{option_map_or}
use Rattle.std.specs.List.{fold}
use Rattle.r9_geom.specs.declared.Point.{Point}
use Rattle.r9_geom.specs.declared.Rect.{Rect}
use Rattle.r9_geom.specs.Geometry.{is_empty, is_inside}
use Rattle.model_text.specs.text.Outcome.{Outcome, refuse_if}
use Rattle.model_text.specs.text.Map.{and, without}
use Rattle.model_text.proofs.map.Maps.{and-others, without-others}
use Rattle.model_pixel.specs.Channels.{is_descriptor}
use Rattle.model_draw.specs.imgfile.ImageFile.{rows_len}
use Rattle.model_draw_parts.specs.dmsg.Message.{Message, LowB, UpA, LowC, LowD, UpD, LowF, UpF, LowI, LowL, UpN, LowN, LowO, UpO, LowR, LowS, UpS, LowT, LowV, LowX, LowY, Writing}
use Rattle.model_draw_parts.specs.declared.fonts.Piece.{Piece}
use Rattle.model_draw_parts.specs.fonts.Font.{layout, with_cell}
use Rattle.model_forest.specs.Draw.{Drawing, after_draw}
use Rattle.model_forest.specs.Stack.{after_lower, after_raise}
use Rattle.model_forest.specs.Steps.{after_origin, after_set}
use Rattle.model_draw_parts.specs.images.Book.{Book, add_id, add_named, add_screen, by_name, has_screen, image_of, is_image_id_taken, is_kept_name, is_screen_id_taken, new_screen, public, tie, tie_of, untie}
use Rattle.model_draw_parts.specs.images.Release.{free_id, free_screen, leave}
use Rattle.model_draw.specs.draw.World.{Client, World, after_connect, after_freed, after_leave, at_number, client_of, is_display, look, new_client, next_image, with_book, with_client, with_images}
use Rattle.model_draw.specs.draw.Making.{allocate, clashes, farthest, fill_raw, flag, free_image, free_screen_id, is_near_rect, is_too_large, is_window, make_screen, screen_named, set_clip, share_screen, with_made, with_new_image}
use Rattle.model_draw.specs.draw.Moving.{are_on_one_screen, look_window, look_windows, move_window, restack, stays_near}
use Rattle.model_draw.specs.draw.Drawing.{draw, drawing_of, most_read, read_pixels, set_operator, write_pixels}
use Rattle.model_draw.specs.draw.Naming.{name_image, use_name}
use Rattle.model_draw.specs.draw.Writing.{background_drawing, character, font_of, is_turned, load_cell, look_background, make_font, most_cells, s_alone, string_drawings, unmasked, write_string}
use Rattle.model_draw.specs.draw.Act.{act}
use Rattle.model_draw.specs.draw.Files.{is_known, read_data, write_ctl}
use Rattle.law_shown.specs.shown.Showing.{IsOrderly}
use Rattle.law_shown.proofs.shown.Tests.{after_if, after_step, not_both, second_false, then_ok}
use Rattle.law_likeness.specs.likeness.Likeness.{AreNumbered}
use Rattle.law_likeness.proofs.likeness.Shapes.{keeps_draw, keeps_draws, keeps_load, keeps_lower, keeps_origin, keeps_raise, keeps_set}
use Rattle.law_others.specs.apart.Apart.{IsApart, IsOutside, LooksBeside, Part, Stays}
use Rattle.law_others.proofs.others.Adding.{Adds, id_adds, name_adds, new_keeps, new_stays, next_beside, screen_adds, share_adds, tie_adds, untie_adds}
use Rattle.law_others.proofs.apart.Devices.{books_stay, client_stays, clients_stay, freed_stays, images_stay, made_stays, stays_itself, stays_then}
use Rattle.law_others.proofs.apart.Looking.{image_beside, named_beside, not_bare, not_display, public_beside, window_beside, window_looked, windows_beside}
use Rattle.law_others.proofs.apart.Releasing.{free_id_goes, free_screen_goes, leave_goes}
use Rattle.law_others.proofs.apart.Worlds.{DrawBeside, draw_stays, draws_stay, load_stays, lower_stays, origin_stays, raise_stays, set_stays}

-- what was not refused did not hold
not_refused : (b : Bool) (n : ℕ) (u : Unit {0}) → refuse_if b n ≡ Ok u → b ≡ false
not_refused true n u e = absurd cc
not_refused false n u e = refl

module _ (part : Part) (k : ℕ) (outside : IsOutside part k) (w : World) (apart : IsApart part w) (numbers : AreNumbered w.book) where
  abbrev Still : Outcome World → Type 0
  Still o = IfOk o (Stays part w)

  -- and then something of the connection changes
  then_client : (next : World) (c : Client) → Stays part w next → Stays part w (with_client next k c)
  then_client next c stays = stays_then part w next (with_client next k c) stays (client_stays part next k c outside.client)

  adds : (b : Book) → Adds part w.book b → Stays part w (with_book w b)
  adds b added = books_stay part w b added.book (λ _. added.numbers)

  looked_beside : (id i : ℕ) → look w k id ≡ Ok i → part.image i → ⊥
  looked_beside id i looked = image_beside part k outside w.book id i apart.book looked

  -- ---- images, screens and ids

  allocate_stays : (id screenid refresh chan : ℕ) (repl : Bool) (r clipr : Rect) (color : ℕ) → Still (allocate k w id screenid refresh chan repl r clipr color)
  unfolding allocate
  allocate_stays id screenid refresh chan repl r clipr color =
      after_step _ (refuse_if (is_image_id_taken w.book k id) 6) _ (λ _ _.
      after_step _ (refuse_if (nat_lt 2 refresh) 23) _ (λ _ _.
      after_step _ (refuse_if (not (is_descriptor chan)) 8) _ (λ _ _.
      after_step _ (refuse_if (is_empty r || not (is_near_rect farthest r)) 9) _ (λ _ _.
      after_step _ (refuse_if (is_too_large (client_of w k) (rows_len chan r)) 10) _ (λ _ _.
      after_step _ (screen_named w k screenid) _ (λ s named.
      after_step _ (refuse_if (option_map_or (clashes w chan repl) s false) 11) _ (λ _ _.
      after_step _ (add_id w.book k id (next_image w) s) _ (λ book added.
      let other = named_beside part k outside w screenid s apart.book named in
      let images = with_new_image w s r chan (fill_raw chan color) repl clipr in
      let taken : World = with_made w images w.book in
      let one : Stays part w taken = made_stays part w images (new_stays part w s r chan (fill_raw chan color) repl clipr apart other) (new_keeps part w s r chan (fill_raw chan color) repl clipr apart) in
      let two = id_adds part k id (outside.ids id) w.book book (next_image w) s numbers (next_beside part w apart) other added in
      then_client (with_book taken book) _ (stays_then part w taken (with_book taken book) one (books_stay part taken book two.book (λ _. two.numbers)))))))))))

  make_screen_stays : (id imageid fillid : ℕ) (is_public : Bool) → IsOrderly w → Still (make_screen k w id imageid fillid is_public)
  unfolding make_screen
  make_screen_stays id imageid fillid is_public orderly =
      after_step _ (refuse_if (id == 0) 23) _ (λ _ _.
      after_step _ (refuse_if (is_screen_id_taken w.book k id is_public) 7) _ (λ _ _.
      after_step _ (look w k imageid) _ (λ i looked.
      after_step _ (look w k fillid) _ (λ fill filled.
      after_step _ (refuse_if (at_number w i).repl 11) _ (λ _ _.
      after_step _ (refuse_if (nat_lt 15 (at_number w i).depth) 23) _ (λ _ _.
      after_step _ (new_screen w.book k id is_public i fill) _ (λ book made.
      adds book (screen_adds part k id (outside.screen_ids id) w.book book is_public i fill apart.book numbers orderly.spare (looked_beside imageid i looked) (looked_beside fillid fill filled) made))))))))

  share_screen_stays : (id chan : ℕ) → Still (share_screen k w id chan)
  unfolding share_screen
  share_screen_stays id chan =
      after_step _ (refuse_if (id == 0) 23) _ (λ _ _.
      after_step _ (refuse_if (is_screen_id_taken w.book k id false) 7) _ (λ _ _.
      after_step _ (public w.book id) _ (λ s found.
      after_step _ (refuse_if (not ((at_number w (image_of w.book s)).chan == chan)) 11) _ (λ _ _.
      after_step _ (add_screen w.book k id s false) _ (λ book added.
      adds book (share_adds part k outside w.book book id s false numbers (public_beside part k outside w.book id s apart.book found) added))))))

  free_screen_stays : (id : ℕ) → Still (free_screen_id k w id)
  unfolding free_screen_id
  free_screen_stays id =
      after_step _ (free_screen w.book k id) _ (λ freed e. freed_stays part w freed apart (free_screen_goes part w.book k id freed (outside.screen_ids id) apart.book numbers e))

  free_image_stays : (id : ℕ) → Still (free_image k w id)
  unfolding free_image
  free_image_stays id =
      after_step _ (refuse_if (id == 0) 23) _ (λ u own.
      after_step _ (free_id w.book k id) _ (λ freed e.
      then_client (after_freed w freed) _ (freed_stays part w freed apart (free_id_goes part w.book k id freed (not_refused (id == 0) 23 u own) (outside.ids id) (outside.none id) apart.book numbers e))))

  -- ---- windows

  move_stays : (id : ℕ) (rmin scr : Point) → Still (move_window k w id rmin scr)
  unfolding move_window
  move_stays id rmin scr =
      after_step _ (look_window w k id) _ (λ i looked.
      after_step _ (refuse_if (not (stays_near (at_number w i).r rmin scr)) 9) _ (λ _ _.
      images_stay part w (after_origin w.images i rmin scr) (origin_stays part w.images i rmin scr apart.stands (window_beside part k outside w id i apart.book looked))
      (keeps_origin w.images i rmin scr 0 (λ at. not_bare part w i apart.book (window_looked part k outside w id i looked).1 (sym at)))))

  restack_stays : (top : Bool) (ids : List ℕ) → Still (restack k w top ids)
  unfolding restack
  restack_stays top ids =
      after_step _ (look_windows w k ids) _ (λ group looked.
      after_step _ (refuse_if (not (are_on_one_screen w.book group)) 22) _ (λ _ _. by top group (windows_beside part k outside w ids group apart.book looked)))
    where
      by : (b : Bool) (group : List ℕ) → ((i : ℕ) (rest : List ℕ) → group ≡ i ∷ rest → part.image i → ⊥)
          → Stays part w (with_images w (if b then after_raise w.images group else after_lower w.images group))
      by true group none = images_stay part w (after_raise w.images group) (raise_stays part w.images group apart.stands apart.book.display none) (keeps_raise w.images group 0)
      by false group none = images_stay part w (after_lower w.images group) (lower_stays part w.images group apart.stands apart.book.display none) (keeps_lower w.images group 0)

  -- ---- drawing

  set_clip_stays : (dstid : ℕ) (repl : Bool) (clipr : Rect) → Still (set_clip k w dstid repl clipr)
  unfolding set_clip
  set_clip_stays dstid repl clipr =
      after_step _ (look w k dstid) _ (λ dst looked.
      after_step _ (refuse_if (is_display w dst) 23) _ (λ u display.
      after_step _ (refuse_if (repl && (is_window w dst || has_screen w.book dst)) 11) _ (λ _ _.
      images_stay part w (after_set w.images dst repl clipr) (set_stays part w.images dst repl clipr (looked_beside dstid dst looked))
      (keeps_set w.images dst repl clipr 0 (λ at. not_display part w dst apart.book (not_refused (is_display w dst) 23 u display) (sym at))))))

  drawn_on : (dstid srcid maskid : ℕ) (dstr : Rect) (srcp maskp : Point) (d : Drawing) → drawing_of k w dstid srcid maskid dstr srcp maskp ≡ Ok d → part.image d.dst → ⊥
  unfolding drawing_of
  drawn_on dstid srcid maskid dstr srcp maskp d e is =
      let dst = then_ok (look w k dstid) _ d e in
      let src = then_ok (look w k srcid) _ d dst.2 in
      let mask = then_ok (look w k maskid) _ d src.2 in
      let at : dst.0 ≡ d.dst = ap (λ (o : Outcome Drawing). elim o [ Ok x ↦ x.dst | Err n ↦ 0 ]) mask.2 in
      looked_beside dstid dst.0 dst.1 (subst part.image (sym at) is)

  draw_message_stays : (dstid srcid maskid : ℕ) (dstr : Rect) (srcp maskp : Point) → Still (draw k w dstid srcid maskid dstr srcp maskp)
  unfolding draw
  draw_message_stays dstid srcid maskid dstr srcp maskp =
      after_step _ (drawing_of k w dstid srcid maskid dstr srcp maskp) _ (λ d e.
      then_client (with_images w (after_draw w.images d)) _
      (images_stay part w (after_draw w.images d) (draw_stays part w.images d (drawn_on dstid srcid maskid dstr srcp maskp d e)) (keeps_draw w.images d 0)))

  set_operator_stays : (op : ℕ) → Still (set_operator k w op)
  unfolding set_operator
  set_operator_stays op = after_step _ (refuse_if (nat_lt 11 op) 21) _ (λ _ _. client_stays part w k _ outside.client)

  read_pixels_stays : (id : ℕ) (r : Rect) → Still (read_pixels k w id r)
  unfolding read_pixels
  read_pixels_stays id r =
      after_step _ (look w k id) _ (λ i _.
      after_step _ (refuse_if (is_empty r || not (is_inside r (at_number w i).r)) 12) _ (λ _ _.
      after_step _ (refuse_if (nat_lt most_read (rows_len (at_number w i).chan r)) 25) _ (λ _ _. client_stays part w k _ outside.client)))

  write_pixels_stays : (id : ℕ) (r : Rect) (rest : List ℕ) → Still (write_pixels k w id r rest)
  unfolding write_pixels
  write_pixels_stays id r rest =
      after_step _ (look w k id) _ (λ i looked.
      after_step _ (refuse_if (is_empty r || not (is_inside r (at_number w i).r)) 13) _ (λ _ _.
      after_step _ (refuse_if (nat_lt (length rest) (rows_len (at_number w i).chan r)) 1) _ (λ _ _.
      images_stay part w _ (load_stays part w.images i r _ (looked_beside id i looked)) (keeps_load w.images i r _ 0))))

  -- ---- names, fonts and strings

  name_image_stays : (id : ℕ) (tied : Bool) (name : List ℕ) → Still (name_image k w id tied name)
  unfolding name_image
  name_image_stays id tied name =
      after_step _ (look w k id) _ (λ _ _.
      after_step _ (refuse_if (length name == 0) 23) _ (λ _ _.
      after_step _ (if tied then tie w.book k id name else untie w.book k id name) _ (λ book e. by tied book e)))
    where
      by : (b : Bool) (book : Book) → (if b then tie w.book k id name else untie w.book k id name) ≡ Ok book → Stays part w (with_book w book)
      by true book e = adds book (tie_adds part k id (outside.none id) outside.client w.book book name numbers (looked_beside id) (λ free is. not_both (is_kept_name k name) (outside.names name is) (second_false (is_some (tie_of w.book name)) _ free)) e)
      by false book e = adds book (untie_adds part k outside w.book book id name apart.book numbers e)

  use_name_stays : (id : ℕ) (name : List ℕ) → (part.name name → ⊥) → Still (use_name k w id name)
  unfolding use_name
  use_name_stays id name none =
      after_step _ (add_named w.book k id name) _ (λ book e. then_client (with_book w book) _ (adds book (name_adds part k outside w.book book id name apart.book numbers none e)))

  make_font_stays : (id n ascent : ℕ) → Still (make_font k w id n ascent)
  unfolding make_font
  make_font_stays id n ascent =
      after_step _ (look w k id) _ (λ i _.
      after_step _ (refuse_if ((id == 0) || is_window w i || by_name w.book k id) 23) _ (λ _ _.
      after_step _ (refuse_if ((n == 0) || nat_lt most_cells n) 23) _ (λ _ _. client_stays part w k _ outside.client)))

  load_cell_stays : (cacheid srcid index : ℕ) (r : Rect) (sp : Point) (left : ℤ) (width : ℕ) → Still (load_cell k w cacheid srcid index r sp left width)
  unfolding load_cell
  load_cell_stays cacheid srcid index r sp left width =
      after_step _ (look w k cacheid) _ (λ cache looked.
      after_step _ (font_of w k cacheid) _ (λ font _.
      after_step _ (look w k srcid) _ (λ src _.
      after_step _ (with_cell font index (record { r = r; left = left; width = width })) _ (λ loaded _.
      after_step _ (refuse_if (is_turned r || not (is_inside r (at_number w cache).r)) 9) _ (λ _ _.
      let d = unmasked cache r r src sp s_alone in
      then_client (with_images w (after_draw w.images d)) _
      (images_stay part w (after_draw w.images d) (draw_stays part w.images d (looked_beside cacheid cache looked)) (keeps_draw w.images d 0)))))))

  joined : (ds es : List Drawing) → DrawBeside part ds → DrawBeside part es → DrawBeside part (ds ++ es)
  joined [] es one two = two
  joined (d ∷ ds) es one two = (one.0, joined ds es one.1 two)

  under_beside : (dst : ℕ) (clip r : Rect) (op : ℕ) (under : Option (ℕ × Point)) → (part.image dst → ⊥) → DrawBeside part (background_drawing dst clip r op under)
  under_beside dst clip r op None none = tt
  under_beside dst clip r op (Some bg) none = (none, tt)

  characters_beside : (dst : ℕ) (clip : Rect) (src font op : ℕ) (pieces : List Piece) → (part.image dst → ⊥) → DrawBeside part (map (character dst clip src font op) pieces)
  characters_beside dst clip src font op [] none = tt
  characters_beside dst clip src font op (piece ∷ pieces) none = (none, characters_beside dst clip src font op pieces none)

  strings_beside : (x : Writing) (bg : Option (ℕ × Point)) → IfOk (string_drawings k w x bg) (DrawBeside part)
  unfolding string_drawings
  strings_beside x bg =
      after_step _ (look w k x.dstid) _ (λ dst looked.
      after_step _ (look w k x.srcid) _ (λ src _.
      after_step _ (look w k x.fontid) _ (λ font_image _.
      after_step _ (font_of w k x.fontid) _ (λ font _.
      after_step _ (look_background w k bg) _ (λ under _.
      after_step _ (layout font x.p x.sp x.indices) _ (λ laid _.
      joined _ _ (under_beside dst x.clipr _ (client_of w k).op under (looked_beside x.dstid dst looked))
      (characters_beside dst x.clipr src font_image (client_of w k).op laid.pieces (looked_beside x.dstid dst looked))))))))

  write_string_stays : (x : Writing) (bg : Option (ℕ × Point)) → Still (write_string k w x bg)
  unfolding write_string
  write_string_stays x bg =
      after_if _ (DrawBeside part) (string_drawings k w x bg) _ (strings_beside x bg) (λ ds beside.
      then_client (with_images w (fold after_draw w.images ds)) _
      (images_stay part w (fold after_draw w.images ds) (draws_stay part w.images ds beside) (keeps_draws w.images ds 0)))

  -- ---- each message

  pub act_stays : IsOrderly w → (m : Message) (rest : List ℕ) → LooksBeside part m → Still (act k w m rest)
  unfolding act
  act_stays orderly (LowB id screenid refresh chan repl r clipr color) rest looks = allocate_stays id screenid refresh chan (flag repl) r clipr color
  act_stays orderly (UpA id imageid fillid public) rest looks = make_screen_stays id imageid fillid (flag public) orderly
  act_stays orderly (LowC dstid repl clipr) rest looks = set_clip_stays dstid (flag repl) clipr
  act_stays orderly (LowD dstid srcid maskid dstr srcp maskp) rest looks = draw_message_stays dstid srcid maskid dstr srcp maskp
  act_stays orderly (UpD debug) rest looks = stays_itself part w
  act_stays orderly (LowF id) rest looks = free_image_stays id
  act_stays orderly (UpF id) rest looks = free_screen_stays id
  act_stays orderly (LowI id n ascent) rest looks = make_font_stays id n ascent
  act_stays orderly (LowL cacheid srcid index r sp left width) rest looks = load_cell_stays cacheid srcid index r sp left width
  act_stays orderly (UpN id tied name) rest looks = name_image_stays id (flag tied) name
  act_stays orderly (LowN id name) rest looks = use_name_stays id name looks
  act_stays orderly (LowO id rmin scr) rest looks = move_stays id rmin scr
  act_stays orderly (UpO op) rest looks = set_operator_stays op
  act_stays orderly (LowR id r) rest looks = read_pixels_stays id r
  act_stays orderly (LowS writing) rest looks = write_string_stays writing None
  act_stays orderly (UpS id chan) rest looks = share_screen_stays id chan
  act_stays orderly (LowT top ids) rest looks = restack_stays (flag top) ids
  act_stays orderly LowV rest looks = stays_itself part w
  act_stays orderly (LowX writing bgid bgp) rest looks = write_string_stays writing (Some (bgid, bgp))
  act_stays orderly (LowY id r) rest looks = write_pixels_stays id r rest

  -- ---- the files of a connection, and connections that begin and end

  pub read_data_stays : (most : ℕ) → IfOk (read_data k w most) (λ got. Stays part w got.1)
  unfolding read_data
  read_data_stays most =
      after_step _ (refuse_if (length (client_of w k).pending == 0) 26) _ (λ _ _.
      after_step _ (refuse_if (nat_lt most (length (client_of w k).pending)) 25) _ (λ _ _. client_stays part w k _ outside.client))

  pub write_ctl_stays : (bytes : List ℕ) → Still (write_ctl k w bytes)
  unfolding write_ctl
  write_ctl_stays bytes =
      after_step _ (refuse_if (not (length bytes == 4)) 27) _ (λ _ _.
      after_step _ (refuse_if (not (is_known w k (from_le_bytes w32 bytes))) 4) _ (λ _ _. client_stays part w k _ outside.client))

  pub connect_stays : Stays part w (after_connect w k)
  connect_stays = clients_stay part w (and w.clients k new_client) (λ j is. and-others w.clients k j new_client (λ at. outside.client (subst part.client at is)))

  pub leave_stays : Stays part w (after_leave w k)
  leave_stays =
      let left = after_freed w (leave w.book k) in
      stays_then part w left (after_leave w k) (freed_stays part w (leave w.book k) apart (leave_goes part k outside w.book apart.book numbers))
      (clients_stay part left (without left.clients k) (λ j is. without-others left.clients k j (λ at. outside.client (subst part.client at is))))
