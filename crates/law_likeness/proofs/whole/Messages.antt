-- A draw device is whole still after each message of a connection, and where connections begin and end.
use Rattle.std.proofs.Common.{◌≡◌, ◌+◌, ◌||◌, ◌&&◌, ℕ, zero, suc, Bool, true, false, ℤ, List, [], ◌∷◌, Option, Some, None, Ok, Err, refl, sym, ap, subst, ◌∙◌}
use Rattle.std.specs.Prelude.{◌==◌, All, IfOk, is_some, length, nat_lt, not, option_map, unwrap_or, if◌then◌else◌}
use Rattle.std.specs.Int.{w32, from_le_bytes}
use Rattle.std.specs.List.{fold}
use Rattle.std.specs.Option.{option_map_or}
use Rattle.std.proofs.lemmas.Bool.{false_from_ne_true, eqb-true}
use Rattle.std.proofs.lemmas.List.Elements.{All-append, All-cons, All-map, All-nil}
use Rattle.r9_geom.specs.declared.Point.{Point}
use Rattle.r9_geom.specs.declared.Rect.{Rect}
use Rattle.r9_geom.specs.Geometry.{is_empty, is_inside}
use Rattle.model_text.specs.text.Outcome.{Outcome, refuse_if}
use Rattle.model_text.specs.text.Map.{and, with}
use Rattle.model_text.proofs.map.Ascending.{ascend-and, ascend-with}
use Rattle.model_pixel.specs.Channels.{is_descriptor}
use Rattle.model_draw.specs.imgfile.ImageFile.{rows_len}
use Rattle.model_draw_parts.specs.dmsg.Message.{Message, LowB, UpA, LowC, LowD, UpD, LowF, UpF, LowI, LowL, UpN, LowN, LowO, UpO, LowR, LowS, UpS, LowT, LowV, LowX, LowY, Writing}
use Rattle.model_draw_parts.specs.dmsg.Reading.{first_message}
use Rattle.model_draw_parts.specs.fonts.Font.{layout, with_cell}
use Rattle.model_forest.specs.declared.Standing.{Standing as Stood}
use Rattle.model_forest.specs.World.{IsLive, parent_of}
use Rattle.model_forest.specs.Draw.{Drawing, after_draw}
use Rattle.model_forest.specs.Stack.{after_lower, after_raise}
use Rattle.model_forest.specs.Steps.{after_origin, after_set}
use Rattle.model_draw_parts.specs.declared.images.ImageId.{ImageId}
use Rattle.model_draw_parts.specs.images.Book.{Book, add_id, add_named, add_screen, by_name, fill_of, has_screen, image_of, is_image_id_taken, is_screen_id_taken, new_screen, public, screen_numbered, screen_of, tie, tie_of, untie}
use Rattle.model_draw_parts.specs.images.Release.{free_id, free_screen}
use Rattle.model_draw_parts.proofs.images.Ties.{tie-rest, tie_of-shown, untie-rest}
use Rattle.model_draw.specs.draw.World.{Client, World, after_connect, after_freed, at_number, client_of, is_display, look, new_client, next_image, with_book, with_client, with_images}
use Rattle.model_draw.specs.draw.Making.{allocate, clashes, farthest, fill_raw, flag, free_image, free_screen_id, is_near_rect, is_too_large, is_window, make_screen, screen_named, set_clip, share_screen, with_made, with_new_image, with_one_pixel}
use Rattle.model_draw.specs.draw.Moving.{are_on_one_screen, look_window, look_windows, move_window, restack, stays_near}
use Rattle.model_draw.specs.draw.Drawing.{draw, drawing_of, most_read, read_pixels, set_operator, write_pixels}
use Rattle.model_draw.specs.draw.Naming.{name_image, use_name}
use Rattle.model_draw.specs.draw.Writing.{background_drawing, character, font_of, is_turned, load_cell, look_background, make_font, most_cells, s_alone, string_drawings, unmasked, write_string}
use Rattle.model_draw.specs.draw.Act.{Written, act, is_marked, no_memory, one_message, spelled, written, written_within}
use Rattle.model_draw.specs.draw.Files.{is_known, read_data, write_ctl}
use Rattle.law_shown.specs.shown.Showing.{IsOrderly}
use Rattle.law_shown.proofs.shown.Tests.{after_if, after_step, not_both, refuse_ok, same_Ok, then_ok, value_ok}
use Rattle.law_shown.proofs.lasting.Messages.{act_still, image_used, named_there, public_used}
use Rattle.law_likeness.specs.making.Standing.{IsWhole, standing_on}
use Rattle.law_likeness.proofs.making.Fresh.{fresh_next}
use Rattle.law_likeness.proofs.making.Making.{entered}
use Rattle.law_likeness.proofs.making.Standing.{ground_used, parent_lives, stands_used}
use Rattle.law_likeness.specs.whole.Steady.{IsSteady}
use Rattle.law_likeness.proofs.whole.Resting.{FirstStands, draw_rests, draws_rest, images_whole, load_rests, lower_rests, origin_rests, raise_rests, set_rests}
use Rattle.law_likeness.proofs.whole.Joining.{Joins, image_joins, joins_then, window_joins}
use Rattle.law_likeness.proofs.whole.Adding.{clients_whole, id_whole, joined_whole, ties_whole}
use Rattle.law_likeness.proofs.whole.Screening.{new_screen_whole, screen_id_whole}
use Rattle.law_likeness.proofs.whole.Freeing.{free_id_whole, free_screen_whole}

-- ---- the ground of a window

pub ground_lives : (w : World) → IsWhole w → (s : ℕ) → is_some (screen_numbered w.book s) ≡ true → IsLive w.images (image_of w.book s)
ground_lives w whole s there = whole.standing.live _ (ground_used w.book s there).image

-- what an image stands on that is a window
pub stood_lives : (w : World) → IsWhole w → (i : ℕ) → IsLive w.images i → is_window w i ≡ true → IsLive w.images (unwrap_or (parent_of w.images i) 0)
stood_lives w whole i live window = by (screen_of w.book i) refl (whole.standing.stands i live) window
  where
    by : (o : Option ℕ) → screen_of w.book i ≡ o → (at_number w i).standing ≡ option_map (standing_on w.book) o → is_some o ≡ true → IsLive w.images (unwrap_or (parent_of w.images i) 0)
    by None on stands some = absurd cc
    by (Some s) on stands some =
        subst (λ (o : Option Stood). IsLive w.images (unwrap_or (option_map (λ x. x.parent) o) 0)) (sym stands) (ground_lives w whole s (whole.standing.screens s (stands_used w.book i s on)))

-- ---- ties

pub tie_whole : (w : World) (k id : ℕ) (name : List ℕ) (next : Book) → IsWhole w → tie w.book k id name ≡ Ok next → IsWhole (with_book w next)
tie_whole w k id name next whole e = subst (λ (b : Book). IsWhole (with_book w b)) (sym (tie-rest w.book next k id name e)) (ties_whole w next.ties next.next_tie whole)

pub untie_whole : (w : World) (k id : ℕ) (name : List ℕ) (next : Book) → IsWhole w → untie w.book k id name ≡ Ok next → IsWhole (with_book w next)
untie_whole w k id name next whole e =
    let is = untie-rest w.book next k id name e in
    subst (λ (b : Book). IsWhole (with_book w b)) (sym (is ∙ sym (ap (λ (b : Book). record w.book { ties = next.ties; next_tie = b.next_tie }) is))) (ties_whole w next.ties next.next_tie whole)

-- ---- a new image

-- what stands somewhere has another number than the next
pub ground_apart : (w : World) → IsWhole w → IsOrderly w → (i : ℕ) → IsLive w.images i → (i == next_image w) ≡ false
ground_apart w whole orderly i live =
    false_from_ne_true (i == next_image w) (λ at. not_both (is_some (w.images i)) live (ap (λ (n : ℕ). is_some (w.images n)) (eqb-true i (next_image w) at) ∙ ap is_some (fresh_next w whole orderly).free))

new_joins : (w : World) → IsWhole w → IsOrderly w → (s : Option ℕ) (r : Rect) (chan raw : ℕ) (repl : Bool) (clipr : Rect) → ((t : ℕ) → s ≡ Some t → is_some (screen_numbered w.book t) ≡ true)
    → Joins w.images (with_new_image w s r chan raw repl clipr) (next_image w) (option_map (standing_on w.book) s)
new_joins w whole orderly s r chan raw repl clipr there =
    let one = by s there in
    joins_then w.images (with_one_pixel w s r chan raw) _ (next_image w) (option_map (standing_on w.book) s) one (set_rests (with_one_pixel w s r chan raw) (next_image w) repl clipr one.live)
  where
    by : (s : Option ℕ) → ((t : ℕ) → s ≡ Some t → is_some (screen_numbered w.book t) ≡ true) → Joins w.images (with_one_pixel w s r chan raw) (next_image w) (option_map (standing_on w.book) s)
    by None there = image_joins w.images (next_image w) r chan raw
    by (Some t) there =
        let live = ground_lives w whole t (there t refl) in
        window_joins w.images (next_image w) (image_of w.book t) (fill_of w.book t) r raw live (ground_apart w whole orderly (image_of w.book t) live)

module _ (k : ℕ) (w : World) (whole : IsWhole w) (orderly : IsOrderly w) where
  abbrev Whole : Outcome World → Type 0
  Whole o = IfOk o IsWhole

  looked_lives : (id i : ℕ) → look w k id ≡ Ok i → IsLive w.images i
  looked_lives id i looked = whole.standing.live i (image_used w.book k id i looked)

  -- and then something of the connection changes
  then_client : (next : World) (c : Client) → IsWhole next → IsWhole (with_client next k c)
  then_client next c is = clients_whole next (with next.clients k c) (ascend-with next.clients k c is.listed.clients) is

  -- ---- images, screens and ids

  allocate_whole : (id screenid refresh chan : ℕ) (repl : Bool) (r clipr : Rect) (color : ℕ) → Whole (allocate k w id screenid refresh chan repl r clipr color)
  unfolding allocate add_id
  allocate_whole id screenid refresh chan repl r clipr color =
      after_step _ (refuse_if (is_image_id_taken w.book k id) 6) _ (λ _ _.
      after_step _ (refuse_if (nat_lt 2 refresh) 23) _ (λ _ _.
      after_step _ (refuse_if (not (is_descriptor chan)) 8) _ (λ _ _.
      after_step _ (refuse_if (is_empty r || not (is_near_rect farthest r)) 9) _ (λ _ _.
      after_step _ (refuse_if (is_too_large (client_of w k) (rows_len chan r)) 10) _ (λ _ _.
      after_step _ (screen_named w k screenid) _ (λ s named.
      after_step _ (refuse_if (option_map_or (clashes w chan repl) s false) 11) _ (λ _ _.
      after_step _ (add_id w.book k id (next_image w) s) _ (λ book added.
      let images = with_new_image w s r chan (fill_raw chan color) repl clipr in
      let there = named_there w k screenid s orderly named in
      let free = refuse_ok (is_image_id_taken w.book k id) 6 (λ _. Ok (entered w.book k id (next_image w) s)) book added in
      then_client (with_made w images book) _
      (subst (λ (b : Book). IsWhole (with_made w images b)) (same_Ok (entered w.book k id (next_image w) s) book free.1)
      (joined_whole w whole images (next_image w) k id s (fresh_next w whole orderly) (new_joins w whole orderly s r chan (fill_raw chan color) repl clipr there) free.0 there _))))))))))

  make_screen_whole : (id imageid fillid : ℕ) (is_public : Bool) → Whole (make_screen k w id imageid fillid is_public)
  unfolding make_screen
  make_screen_whole id imageid fillid is_public =
      after_step _ (refuse_if (id == 0) 23) _ (λ _ _.
      after_step _ (refuse_if (is_screen_id_taken w.book k id is_public) 7) _ (λ _ _.
      after_step _ (look w k imageid) _ (λ i looked.
      after_step _ (look w k fillid) _ (λ fill filled.
      after_step _ (refuse_if (at_number w i).repl 11) _ (λ _ _.
      after_step _ (refuse_if (nat_lt 15 (at_number w i).depth) 23) _ (λ _ _.
      after_step _ (new_screen w.book k id is_public i fill) _ (λ book made.
      new_screen_whole w k id is_public i fill book whole orderly.spare (image_used w.book k imageid i looked) (image_used w.book k fillid fill filled) made)))))))

  share_screen_whole : (id chan : ℕ) → Whole (share_screen k w id chan)
  unfolding share_screen add_screen
  share_screen_whole id chan =
      after_step _ (refuse_if (id == 0) 23) _ (λ _ _.
      after_step _ (refuse_if (is_screen_id_taken w.book k id false) 7) _ (λ _ _.
      after_step _ (public w.book id) _ (λ s found.
      after_step _ (refuse_if (not ((at_number w (image_of w.book s)).chan == chan)) 11) _ (λ _ _.
      after_step _ (add_screen w.book k id s false) _ (λ book added.
      let free = refuse_ok (is_screen_id_taken w.book k id false) 7 _ book added in
      subst (λ (b : Book). IsWhole (with_book w b)) (same_Ok _ book free.1)
      (screen_id_whole w (record { client = k; id = id; screen = s; public = false }) false whole free.0 (whole.standing.screens s (public_used w.book id s found))))))))

  free_screen_id_whole : (id : ℕ) → Whole (free_screen_id k w id)
  unfolding free_screen_id
  free_screen_id_whole id = after_step _ (free_screen w.book k id) _ (λ freed e. free_screen_whole w k id freed whole e)

  free_image_whole : (id : ℕ) → Whole (free_image k w id)
  unfolding free_image
  free_image_whole id =
      after_step _ (refuse_if (id == 0) 23) _ (λ _ _. after_step _ (free_id w.book k id) _ (λ freed e. then_client (after_freed w freed) _ (free_id_whole w k id freed whole e)))

  -- ---- windows

  looked_window : (id i : ℕ) → look_window w k id ≡ Ok i → IsLive w.images i × (is_window w i ≡ true)
  looked_window id i e =
      let found = then_ok (look w k id) _ i e in
      let checked = refuse_ok (not (is_window w found.0) || by_name w.book k id) 20 _ i found.2 in
      subst (λ (n : ℕ). IsLive w.images n × (is_window w n ≡ true)) (same_Ok found.0 i checked.1) (looked_lives id found.0 found.1, stood (is_window w found.0) (by_name w.book k id) checked.0)
    where
      stood : (x y : Bool) → (not x || y) ≡ false → x ≡ true
      stood true y none = refl
      stood false y none = absurd cc

  move_whole : (id : ℕ) (rmin scr : Point) → Whole (move_window k w id rmin scr)
  unfolding move_window
  move_whole id rmin scr =
      after_step _ (look_window w k id) _ (λ i looked.
      after_step _ (refuse_if (not (stays_near (at_number w i).r rmin scr)) 9) _ (λ _ _.
      let live = (looked_window id i looked).0 in
      images_whole w (after_origin w.images i rmin scr) (origin_rests w.images i rmin scr live (λ p stands. parent_lives w whole.standing i p live stands)) whole))

  first_stands : (ids group : List ℕ) → look_windows w k ids ≡ Ok group → FirstStands w.images group
  first_stands [] group e i rest is = absurd (let none : ◌≡◌ {A = List ℕ} [] (i ∷ rest) = same_Ok [] group e ∙ is in cc)
  first_stands (id ∷ ids) group e i rest is =
      let one = then_ok (look_window w k id) _ group e in
      let others = then_ok (look_windows w k ids) _ group one.2 in
      let both : one.0 ∷ others.0 ≡ i ∷ rest = same_Ok (one.0 ∷ others.0) group others.2 ∙ is in
      let same : one.0 ≡ i = cc in
      let at = looked_window id one.0 one.1 in
      subst (λ (n : ℕ). IsLive w.images (unwrap_or (parent_of w.images n) 0)) same (stood_lives w whole one.0 at.0 at.1)

  restack_whole : (top : Bool) (ids : List ℕ) → Whole (restack k w top ids)
  unfolding restack
  restack_whole top ids =
      after_step _ (look_windows w k ids) _ (λ group looked.
      after_step _ (refuse_if (not (are_on_one_screen w.book group)) 22) _ (λ _ _. by top group (first_stands ids group looked)))
    where
      by : (b : Bool) (group : List ℕ) → FirstStands w.images group → IsWhole (with_images w (if b then after_raise w.images group else after_lower w.images group))
      by true group stands = images_whole w (after_raise w.images group) (raise_rests w.images group stands) whole
      by false group stands = images_whole w (after_lower w.images group) (lower_rests w.images group stands) whole

  -- ---- drawing

  set_clip_whole : (dstid : ℕ) (repl : Bool) (clipr : Rect) → Whole (set_clip k w dstid repl clipr)
  unfolding set_clip
  set_clip_whole dstid repl clipr =
      after_step _ (look w k dstid) _ (λ dst looked.
      after_step _ (refuse_if (is_display w dst) 23) _ (λ _ _.
      after_step _ (refuse_if (repl && (is_window w dst || has_screen w.book dst)) 11) _ (λ _ _.
      images_whole w (after_set w.images dst repl clipr) (set_rests w.images dst repl clipr (looked_lives dstid dst looked)) whole)))

  drawn_lives : (dstid srcid maskid : ℕ) (dstr : Rect) (srcp maskp : Point) → IfOk (drawing_of k w dstid srcid maskid dstr srcp maskp) (λ d. IsLive w.images d.dst)
  unfolding drawing_of
  drawn_lives dstid srcid maskid dstr srcp maskp =
      after_step _ (look w k dstid) _ (λ dst looked. after_step _ (look w k srcid) _ (λ src _. after_step _ (look w k maskid) _ (λ mask _. looked_lives dstid dst looked)))

  draw_whole : (dstid srcid maskid : ℕ) (dstr : Rect) (srcp maskp : Point) → Whole (draw k w dstid srcid maskid dstr srcp maskp)
  unfolding draw
  draw_whole dstid srcid maskid dstr srcp maskp =
      after_if _ (λ d. IsLive w.images d.dst) (drawing_of k w dstid srcid maskid dstr srcp maskp) _ (drawn_lives dstid srcid maskid dstr srcp maskp) (λ d live.
      then_client (with_images w (after_draw w.images d)) _ (images_whole w (after_draw w.images d) (draw_rests w.images d live) whole))

  set_operator_whole : (op : ℕ) → Whole (set_operator k w op)
  unfolding set_operator
  set_operator_whole op = after_step _ (refuse_if (nat_lt 11 op) 21) _ (λ _ _. then_client w _ whole)

  read_pixels_whole : (id : ℕ) (r : Rect) → Whole (read_pixels k w id r)
  unfolding read_pixels
  read_pixels_whole id r =
      after_step _ (look w k id) _ (λ i _.
      after_step _ (refuse_if (is_empty r || not (is_inside r (at_number w i).r)) 12) _ (λ _ _.
      after_step _ (refuse_if (nat_lt most_read (rows_len (at_number w i).chan r)) 25) _ (λ _ _. then_client w _ whole)))

  write_pixels_whole : (id : ℕ) (r : Rect) (rest : List ℕ) → Whole (write_pixels k w id r rest)
  unfolding write_pixels
  write_pixels_whole id r rest =
      after_step _ (look w k id) _ (λ i looked.
      after_step _ (refuse_if (is_empty r || not (is_inside r (at_number w i).r)) 13) _ (λ _ _.
      after_step _ (refuse_if (nat_lt (length rest) (rows_len (at_number w i).chan r)) 1) _ (λ _ _. images_whole w _ (load_rests w.images i r _ (looked_lives id i looked)) whole)))

  -- ---- names, fonts and strings

  name_image_whole : (id : ℕ) (tied : Bool) (name : List ℕ) → Whole (name_image k w id tied name)
  unfolding name_image
  name_image_whole id tied name =
      after_step _ (look w k id) _ (λ _ _.
      after_step _ (refuse_if (length name == 0) 23) _ (λ _ _.
      after_step _ (if tied then tie w.book k id name else untie w.book k id name) _ (λ book e. by tied book e)))
    where
      by : (b : Bool) (book : Book) → (if b then tie w.book k id name else untie w.book k id name) ≡ Ok book → IsWhole (with_book w book)
      by true book e = tie_whole w k id name book whole e
      by false book e = untie_whole w k id name book whole e

  use_name_whole : (id : ℕ) (name : List ℕ) → Whole (use_name k w id name)
  unfolding use_name add_named
  use_name_whole id name =
      after_step _ (add_named w.book k id name) _ (λ book e.
      let free = refuse_ok (is_image_id_taken w.book k id) 6 _ book e in
      let found = value_ok (tie_of w.book name) 17 _ book free.1 in
      let entry : ImageId = record { client = k; id = id; image = found.0.image; tie = Some found.0.number } in
      then_client (with_book w book) _
      (subst (λ (b : Book). IsWhole (with_book w b)) (same_Ok _ book found.2) (id_whole w entry whole free.0 (tie_of-shown w.book name found.0 orderly.ties found.1))))

  make_font_whole : (id n ascent : ℕ) → Whole (make_font k w id n ascent)
  unfolding make_font
  make_font_whole id n ascent =
      after_step _ (look w k id) _ (λ i _.
      after_step _ (refuse_if ((id == 0) || is_window w i || by_name w.book k id) 23) _ (λ _ _.
      after_step _ (refuse_if ((n == 0) || nat_lt most_cells n) 23) _ (λ _ _. then_client w _ whole)))

  load_cell_whole : (cacheid srcid index : ℕ) (r : Rect) (sp : Point) (left : ℤ) (width : ℕ) → Whole (load_cell k w cacheid srcid index r sp left width)
  unfolding load_cell
  load_cell_whole cacheid srcid index r sp left width =
      after_step _ (look w k cacheid) _ (λ cache looked.
      after_step _ (font_of w k cacheid) _ (λ font _.
      after_step _ (look w k srcid) _ (λ src _.
      after_step _ (with_cell font index (record { r = r; left = left; width = width })) _ (λ loaded _.
      after_step _ (refuse_if (is_turned r || not (is_inside r (at_number w cache).r)) 9) _ (λ _ _.
      let d = unmasked cache r r src sp s_alone in
      then_client (with_images w (after_draw w.images d)) _ (images_whole w (after_draw w.images d) (draw_rests w.images d (looked_lives cacheid cache looked)) whole))))))

  abbrev AllLive : List Drawing → Type 0
  AllLive ds = All (λ (d : Drawing). IsLive w.images d.dst) ds

  under_live : (dst : ℕ) (clip r : Rect) (op : ℕ) (under : Option (ℕ × Point)) → IsLive w.images dst → AllLive (background_drawing dst clip r op under)
  under_live dst clip r op None live = All-nil (λ (d : Drawing). IsLive w.images d.dst)
  under_live dst clip r op (Some bg) live = All-cons (λ (d : Drawing). IsLive w.images d.dst) (unmasked dst clip r bg.0 bg.1 op) [] live (All-nil (λ (d : Drawing). IsLive w.images d.dst))

  strings_live : (x : Writing) (bg : Option (ℕ × Point)) → IfOk (string_drawings k w x bg) AllLive
  unfolding string_drawings
  strings_live x bg =
      after_step _ (look w k x.dstid) _ (λ dst looked.
      after_step _ (look w k x.srcid) _ (λ src _.
      after_step _ (look w k x.fontid) _ (λ font_image _.
      after_step _ (font_of w k x.fontid) _ (λ font _.
      after_step _ (look_background w k bg) _ (λ under _.
      after_step _ (layout font x.p x.sp x.indices) _ (λ laid _.
      All-append (λ (d : Drawing). IsLive w.images d.dst) _ _ (under_live dst x.clipr _ (client_of w k).op under (looked_lives x.dstid dst looked))
      (All-map (λ (d : Drawing). IsLive w.images d.dst) (character dst x.clipr src font_image (client_of w k).op) laid.pieces (λ _ _ _. looked_lives x.dstid dst looked))))))))

  write_string_whole : (x : Writing) (bg : Option (ℕ × Point)) → Whole (write_string k w x bg)
  unfolding write_string
  write_string_whole x bg =
      after_if _ AllLive (string_drawings k w x bg) _ (strings_live x bg) (λ ds live.
      then_client (with_images w (fold after_draw w.images ds)) _ (images_whole w (fold after_draw w.images ds) (draws_rest ds w.images live) whole))

  -- ---- each message

  pub act_whole : (m : Message) (rest : List ℕ) → Whole (act k w m rest)
  unfolding act
  act_whole (LowB id screenid refresh chan repl r clipr color) rest = allocate_whole id screenid refresh chan (flag repl) r clipr color
  act_whole (UpA id imageid fillid public) rest = make_screen_whole id imageid fillid (flag public)
  act_whole (LowC dstid repl clipr) rest = set_clip_whole dstid (flag repl) clipr
  act_whole (LowD dstid srcid maskid dstr srcp maskp) rest = draw_whole dstid srcid maskid dstr srcp maskp
  act_whole (UpD debug) rest = whole
  act_whole (LowF id) rest = free_image_whole id
  act_whole (UpF id) rest = free_screen_id_whole id
  act_whole (LowI id n ascent) rest = make_font_whole id n ascent
  act_whole (LowL cacheid srcid index r sp left width) rest = load_cell_whole cacheid srcid index r sp left width
  act_whole (UpN id tied name) rest = name_image_whole id (flag tied) name
  act_whole (LowN id name) rest = use_name_whole id name
  act_whole (LowO id rmin scr) rest = move_whole id rmin scr
  act_whole (UpO op) rest = set_operator_whole op
  act_whole (LowR id r) rest = read_pixels_whole id r
  act_whole (LowS writing) rest = write_string_whole writing None
  act_whole (UpS id chan) rest = share_screen_whole id chan
  act_whole (LowT top ids) rest = restack_whole (flag top) ids
  act_whole LowV rest = whole
  act_whole (LowX writing bgid bgp) rest = write_string_whole writing (Some (bgid, bgp))
  act_whole (LowY id r) rest = write_pixels_whole id r rest

  -- ---- the files of a connection, and connections that begin

  pub read_data_whole : (most : ℕ) → IfOk (read_data k w most) (λ got. IsWhole got.1)
  unfolding read_data
  read_data_whole most =
      after_step _ (refuse_if (length (client_of w k).pending == 0) 26) _ (λ _ _.
      after_step _ (refuse_if (nat_lt most (length (client_of w k).pending)) 25) _ (λ _ _. then_client w _ whole))

  pub write_ctl_whole : (bytes : List ℕ) → Whole (write_ctl k w bytes)
  unfolding write_ctl
  write_ctl_whole bytes =
      after_step _ (refuse_if (not (length bytes == 4)) 27) _ (λ _ _.
      after_step _ (refuse_if (not (is_known w k (from_le_bytes w32 bytes))) 4) _ (λ _ _. then_client w _ whole))

  pub connect_whole : IsWhole (after_connect w k)
  connect_whole = clients_whole w (and w.clients k new_client) (ascend-and w.clients k new_client whole.listed.clients) whole

-- ---- a write

pub act_steady : (k : ℕ) (w next : World) (m : Message) (rest : List ℕ) → (k == 0) ≡ false → IsSteady w → act k w m rest ≡ Ok next → IsSteady next
act_steady k w next m rest other steady is = record {
  whole = if_ok IsWhole (act k w m rest) (act_whole k w steady.whole steady.orderly m rest) is;
  orderly = (let follows = if_ok _ (act k w m rest) (act_still k w m rest other steady.orderly) is in follows.orderly);
}
  where
    if_ok : (P : World → Type 0) (o : Outcome World) → IfOk o P → o ≡ Ok next → P next
    if_ok P (Ok x) holds is = subst P (same_Ok x next is) holds
    if_ok P (Err n) holds is = absurd cc

one_steady : (k : ℕ) (w : World) (mark : Option ℕ) (done : ℕ) (bytes : List ℕ) → (k == 0) ≡ false → IsSteady w → IfOk (one_message k w mark done bytes) (λ next. IsSteady next.0)
unfolding one_message
one_steady k w mark done bytes other steady =
    after_step _ (spelled (first_message bytes)) _ (λ m _.
    after_step _ (act k w m.0 m.1) _ (λ next acted. after_step _ (refuse_if (is_marked mark done) no_memory) _ (λ _ _. act_steady k w next m.0 m.1 other steady acted)))

within_steady : (steps k : ℕ) (w : World) (mark : Option ℕ) (done : ℕ) (bytes : List ℕ) → (k == 0) ≡ false → IsSteady w → IsSteady (written_within steps k w mark done bytes).world
within_steady zero k w mark done bytes other steady = steady
within_steady (suc steps) k w mark done [] other steady = steady
within_steady (suc steps) k w mark done (byte ∷ bytes) other steady =
    by (λ v rest is. within_steady steps k v mark (done + 1) rest other is) (one_message k w mark done (byte ∷ bytes)) (one_steady k w mark done (byte ∷ bytes) other steady)
  where
    by : ((v : World) (rest : List ℕ) → IsSteady v → IsSteady (written_within steps k v mark (done + 1) rest).world) → (o : Outcome (World × List ℕ)) → IfOk o (λ next. IsSteady next.0)
        → (let after : Written = elim o [ Ok next ↦ written_within steps k next.0 mark (done + 1) next.1 | Err refusal ↦ record { world = w; done = done; refusal = Some refusal } ] in IsSteady after.world)
    by more (Ok next) is = more next.0 next.1 is
    by more (Err refusal) is = steady

pub written_steady : (k : ℕ) (w : World) (bytes : List ℕ) (mark : Option ℕ) → (k == 0) ≡ false → IsSteady w → IsSteady (written k w bytes mark).world
unfolding written
written_steady k w bytes mark other steady = within_steady (length bytes) k w mark 0 bytes other steady
