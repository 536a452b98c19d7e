-- The root rio's screen and the display's depth stay, whatever message is done.
use Rattle.std.proofs.Common.{◌≡◌, ◌≢◌, ◌||◌, ◌&&◌, ℕ, ℤ, Bool, true, false, List, [], ◌∷◌, Option, Some, None, Ok, refl, sym, ap, subst, ◌∙◌, arith}
use Rattle.std.specs.Prelude.{◌==◌, IfOk, find, is_some, length, nat_lt, not, if◌then◌else◌}
use Rattle.std.specs.List.{fold}
use Rattle.std.specs.Option.{option_map_or}
use Rattle.std.proofs.lemmas.Bool.{eqb-true, eqb-false, false_from_ne_true}
use Rattle.std.proofs.lemmas.Bool.Decides.{nat_tests}
use Rattle.r9_geom.specs.declared.Point.{Point}
use Rattle.r9_geom.specs.declared.Rect.{Rect}
use Rattle.r9_geom.specs.Geometry.{is_empty, is_inside}
use Rattle.model_text.specs.text.Outcome.{Outcome, refuse_if}
use Rattle.model_pixel.specs.Channels.{is_descriptor}
use Rattle.model_draw.specs.imgfile.ImageFile.{rows_len}
use Rattle.model_draw_parts.specs.dmsg.Message.{Message, LowB, UpA, LowC, LowD, UpD, LowF, UpF, LowI, LowL, UpN, LowN, LowO, UpO, LowR, LowS, UpS, LowT, LowV, LowX, LowY, Writing}
use Rattle.model_draw_parts.specs.fonts.Font.{with_cell}
use Rattle.model_forest.specs.World.{World as Images}
use Rattle.model_forest.specs.Draw.{after_draw}
use Rattle.model_forest.specs.Stack.{after_lower, after_raise}
use Rattle.model_forest.specs.Steps.{after_origin, after_set}
use Rattle.model_draw_parts.specs.declared.images.ScreenId.{ScreenId}
use Rattle.model_draw_parts.specs.declared.images.Thing.{Thing}
use Rattle.model_draw_parts.specs.declared.images.Thing.TheVariants.{Image, Screen}
use Rattle.model_draw_parts.specs.images.Book.{Book, add_id, add_named, add_screen, by_name, fill_of, has_screen, image_id, image_of, is_image_id_taken, is_screen_id_taken, new_screen, next_screen, owner, public, screen_id, screen_numbered, tie, tie_of, untie}
use Rattle.model_draw_parts.specs.images.Release.{Freed, IsFreed, KeepsRest, free_id, free_screen, has_gone, is_used, leave}
use Rattle.model_draw_parts.proofs.images.Finds.{find-screen}
use Rattle.model_draw_parts.proofs.images.Freed.{free_id-frees, free_id-others, free_screen-frees, free_screen-others, leave-frees, leave-others}
use Rattle.model_draw_parts.proofs.images.Order.{free_id-rest, free_screen-rest, leave-rest}
use Rattle.model_draw_parts.proofs.images.Ties.{tie-rest, untie-rest}
use Rattle.model_draw.specs.draw.World.{Client, World, after_freed, after_leave, at_number, client_of, is_display, look, next_image, with_book, with_images, without_thing}
use Rattle.model_draw.specs.draw.Act.{act}
use Rattle.model_draw.specs.draw.Making.{allocate, clashes, deepest_screen, farthest, fill_raw, flag, free_image, free_screen_id, is_near_rect, is_too_large, is_window, make_screen, screen_named, set_clip, share_screen, with_made, with_new_image, with_one_pixel}
use Rattle.model_draw.specs.draw.Moving.{are_on_one_screen, look_window, look_windows, move_window, restack, stays_near}
use Rattle.model_draw.specs.draw.Drawing.{draw, drawing_of, most_read, read_pixels, set_operator, write_pixels}
use Rattle.model_draw.specs.draw.Naming.{name_image, use_name}
use Rattle.model_draw.specs.draw.Writing.{font_of, is_turned, load_cell, make_font, most_cells, s_alone, string_drawings, unmasked, write_string}
use Rattle.model_draw.specs.draw.Orders.{has_rio, manager, rio_screen}
use Rattle.law_shown.specs.shown.Showing.{IsOrderly}
use Rattle.law_shown.proofs.shown.Following.{screen_used, shown_used}
use Rattle.law_shown.proofs.shown.Numbers.{gone-book, out_apart}
use Rattle.law_shown.proofs.shown.Spare.{has-new, next-free}
use Rattle.law_shown.proofs.shown.Tests.{after_step, first_false, not-true, not_both, refuse_ok, same_Ok, second_false, turned, value_ok}
use Rattle.law_shown.proofs.lasting.Freeing.{free_id-screen_ids, free_screen-screen_ids}
use Rattle.law_likeness.specs.likeness.Likeness.{display_id, is_root}
use Rattle.law_likeness.proofs.making.Screens.{next_empty}
use Rattle.law_devices.specs.grounded.Grounded.{IsGrounded}
use Rattle.law_devices.proofs.grounded.Depths.{SameDepth, depth_draw, depth_draws, depth_image, depth_load, depth_lower, depth_origin, depth_raise, depth_release, depth_set, depth_window}

-- The root rio's screen is as it was, and the display stands as deep.
pub record Rests (old new : World) : Type 0 where
  pub screens : (s : ℕ) → is_root old.book s ≡ true → screen_numbered new.book s ≡ screen_numbered old.book s
  pub depth : SameDepth old.images new.images 0

-- the root rio's screen has its id still
abbrev pub KeepsRoot : (old new : World) → Type 0
KeepsRoot old new = screen_id new.book manager 0 ≡ screen_id old.book manager 0

pub root_is : (w : World) → has_rio w 0 ≡ true → is_root w.book (rio_screen w 0) ≡ true
root_is w some = by (screen_id w.book manager 0) some
  where
    itself : (n : ℕ) → (n == n) ≡ true
    itself n = grind (arith, nat_tests)

    by : (o : Option ScreenId) → is_some o ≡ true → option_map_or (λ (e : ScreenId). e.screen == option_map_or (λ (z : ScreenId). z.screen) o 0) o false ≡ true
    by None has = absurd cc
    by (Some e) has = itself e.screen

pub grounded_still : (old new : World) → KeepsRoot old new → Rests old new → IsGrounded old → IsGrounded new
grounded_still old new root rests ground = record {
  rio = ap is_some root ∙ ground.rio;
  ground =
      (let same : rio_screen new 0 ≡ rio_screen old 0 = ap (λ (o : Option ScreenId). option_map_or (λ e. e.screen) o 0) root in
      ap (image_of new.book) same ∙ ap (λ o. option_map_or (λ e. e.image) o 0) (rests.screens (rio_screen old 0) (root_is old ground.rio)) ∙ ground.ground);
  depth = rests.depth ∙ ground.depth;
}

pub rests_itself : (w : World) → Rests w w
rests_itself w = record { screens = λ s root. refl; depth = refl }

pub rests_then : (a b c : World) → KeepsRoot a b → Rests a b → Rests b c → Rests a c
rests_then a b c root one two = record {
  screens = λ s at. two.screens s (ap (λ (o : Option ScreenId). option_map_or (λ e. e.screen == s) o false) root ∙ at) ∙ one.screens s at;
  depth = two.depth ∙ one.depth;
}

-- ---- what goes

gone_depth : (things : List Thing) (w : World) (i : ℕ) → has_gone (record { book = w.book; gone = things }) (Image i) ≡ false → SameDepth w.images (fold without_thing w things).images i
gone_depth [] w i apart = refl
gone_depth (Image j ∷ things) w i apart =
    gone_depth things (without_thing w (Image j)) i (second_false (i == j) _ apart) ∙ depth_release w.images j i (eqb-false i j (first_false (i == j) _ apart))
gone_depth (Screen s ∷ things) w i apart = gone_depth things w i apart

root_used : (book : Book) (s : ℕ) → is_root book s ≡ true → is_used book (Screen s) ≡ true
root_used book s root = by (screen_id book manager 0) refl root
  where
    by : (o : Option ScreenId) → screen_id book manager 0 ≡ o → option_map_or (λ (e : ScreenId). e.screen == s) o false ≡ true → is_used book (Screen s) ≡ true
    by None found at = absurd cc
    by (Some e) found at = subst (λ (n : ℕ). is_used book (Screen n) ≡ true) (eqb-true e.screen s at) (screen_used book manager 0 e found)

pub freed_rests : (w : World) (freed : Freed) → screen_id freed.book manager 0 ≡ screen_id w.book manager 0 → image_id freed.book manager 0 ≡ Some display_id → IsFreed w.book freed → KeepsRest w.book freed
    → Rests w (after_freed w freed)
freed_rests w freed root display f rest =
    let left : World = with_book w freed.book in
    let is = gone-book freed.gone left in
    record {
      screens = λ s at.
          ap (λ (b : Book). screen_numbered b s) is ∙ rest.screens s
          ∙ ap (λ (gone : Bool). if gone then None else screen_numbered w.book s) (stays s (ap (λ (o : Option ScreenId). option_map_or (λ e. e.screen == s) o false) root ∙ at));
      depth = gone_depth freed.gone left 0 (not-true (has_gone freed (Image 0)) (λ went. not_both (is_used freed.book (Image 0)) (shown_used freed.book manager 0 display_id display) (f.gone_unused (Image 0) went)));
    }
  where
    stays : (s : ℕ) → is_root freed.book s ≡ true → has_gone freed (Screen s) ≡ false
    stays s at = not-true (has_gone freed (Screen s)) (λ went. not_both (is_used freed.book (Screen s)) (root_used freed.book s at) (f.gone_unused (Screen s) went))

-- ---- a screen more

pub new_screen_rests : (w : World) (k id : ℕ) (public : Bool) (i fill : ℕ) (book : Book) → IsOrderly w → new_screen w.book k id public i fill ≡ Ok book → Rests w (with_book w book)
unfolding new_screen
new_screen_rests w k id public i fill book orderly made =
    let next = next_screen w.book in
    let new = has-new w.book.screens next (record { image = i; fill = fill }) (next-free w.book orderly.spare).0 in
    subst (λ (b : Book). Rests w (with_book w b)) (same_Ok _ book (refuse_ok (is_screen_id_taken w.book k id public) 7 _ book made).1)
    (record {
      screens = λ s at. new.others s (false_from_ne_true (s == next) (λ is. not_both (is_root w.book next) (subst (λ (n : ℕ). is_root w.book n ≡ true) (eqb-true s next is) at) (next_empty w orderly).not_root));
      depth = refl;
    })

-- another's screen, which has another id
pub screen_root : (w : World) (id i fill : ℕ) (book : Book) → (id == 0) ≡ false → new_screen w.book manager id false i fill ≡ Ok book → KeepsRoot w (with_book w book)
unfolding new_screen
screen_root w id i fill book counted made =
    subst (λ (b : Book). KeepsRoot w (with_book w b)) (same_Ok _ book (refuse_ok (is_screen_id_taken w.book manager id false) 7 _ book made).1)
    (find-screen (λ (e : ScreenId). (e.client == manager) && (e.id == 0)) (record { client = manager; id = id; screen = next_screen w.book; public = false }) w.book.screen_ids counted)

-- a new image is not the display
pub next_apart : (w : World) → IsOrderly w → image_id w.book manager 0 ≡ Some display_id → 0 ≢ next_image w
next_apart w orderly display = eqb-false 0 (next_image w) (out_apart w.numbers 0 (orderly.images 0 (shown_used w.book manager 0 display_id display)))

module _ (k : ℕ) (w : World) (other : (k == manager) ≡ false) (orderly : IsOrderly w) (display : image_id w.book manager 0 ≡ Some display_id) where
  abbrev RestIf : Outcome World → Type 0
  RestIf o = IfOk o (Rests w)

  not_next : 0 ≢ next_image w
  not_next = next_apart w orderly display

  then_client : (next : World) (cs : List (ℕ × Client)) → Rests w next → Rests w (record next { clients = cs })
  then_client next cs rests = record { screens = rests.screens; depth = rests.depth }

  client_rests : (cs : List (ℕ × Client)) → Rests w (record w { clients = cs })
  client_rests cs = record { screens = λ s at. refl; depth = refl }

  images_rest : (images : Images) → SameDepth w.images images 0 → Rests w (with_images w images)
  images_rest images depth = record { screens = λ s at. refl; depth = depth }

  -- ---- ids and screens

  pixel_depth : (s : Option ℕ) (r : Rect) (chan raw : ℕ) → SameDepth w.images (with_one_pixel w s r chan raw) 0
  pixel_depth None r chan raw = depth_image w.images (next_image w) r chan raw 0 not_next
  pixel_depth (Some t) r chan raw = depth_window w.images (next_image w) (image_of w.book t) (fill_of w.book t) r raw 0 not_next

  added : (images : Images) (id : ℕ) (s : Option ℕ) (book : Book) → SameDepth w.images images 0 → add_id w.book k id (next_image w) s ≡ Ok book → Rests w (with_made w images book)
  unfolding add_id
  added images id s book depth adds =
      subst (λ (b : Book). Rests w (with_made w images b)) (same_Ok _ book (refuse_ok (is_image_id_taken w.book k id) 6 _ book adds).1) (record { screens = λ t at. refl; depth = depth })

  allocate_rests : (id screenid refresh chan : ℕ) (repl : Bool) (r clipr : Rect) (color : ℕ) → RestIf (allocate k w id screenid refresh chan repl r clipr color)
  unfolding allocate
  allocate_rests id screenid refresh chan repl r clipr color =
      after_step _ (refuse_if (is_image_id_taken w.book k id) 6) _ (λ _ _.
      after_step _ (refuse_if (nat_lt 2 refresh) 23) _ (λ _ _.
      after_step _ (refuse_if (not (is_descriptor chan)) 8) _ (λ _ _.
      after_step _ (refuse_if (is_empty r || not (is_near_rect farthest r)) 9) _ (λ _ _.
      after_step _ (refuse_if (is_too_large (client_of w k) (rows_len chan r)) 10) _ (λ _ _.
      after_step _ (screen_named w k screenid) _ (λ s named.
      after_step _ (refuse_if (option_map_or (clashes w chan repl) s false) 11) _ (λ _ _.
      after_step _ (add_id w.book k id (next_image w) s) _ (λ book adds.
      let raw = fill_raw chan color in
      let images = with_new_image w s r chan raw repl clipr in
      then_client (with_made w images book) _ (added images id s book (depth_set (with_one_pixel w s r chan raw) (next_image w) repl clipr 0 ∙ pixel_depth s r chan raw) adds)))))))))

  make_screen_rests : (id imageid fillid : ℕ) (is_public : Bool) → RestIf (make_screen k w id imageid fillid is_public)
  unfolding make_screen
  make_screen_rests id imageid fillid is_public =
      after_step _ (refuse_if (id == 0) 23) _ (λ _ _.
      after_step _ (refuse_if (is_screen_id_taken w.book k id is_public) 7) _ (λ _ _.
      after_step _ (look w k imageid) _ (λ i _.
      after_step _ (look w k fillid) _ (λ fill _.
      after_step _ (refuse_if (at_number w i).repl 11) _ (λ _ _.
      after_step _ (refuse_if (nat_lt deepest_screen (at_number w i).depth) 23) _ (λ _ _.
      after_step _ (new_screen w.book k id is_public i fill) _ (λ book made. new_screen_rests w k id is_public i fill book orderly made)))))))

  share_screen_rests : (id chan : ℕ) → RestIf (share_screen k w id chan)
  unfolding share_screen add_screen
  share_screen_rests id chan =
      after_step _ (refuse_if (id == 0) 23) _ (λ _ _.
      after_step _ (refuse_if (is_screen_id_taken w.book k id false) 7) _ (λ _ _.
      after_step _ (public w.book id) _ (λ s _.
      after_step _ (refuse_if (not ((at_number w (image_of w.book s)).chan == chan)) 11) _ (λ _ _.
      after_step _ (add_screen w.book k id s false) _ (λ book made.
      subst (λ (b : Book). Rests w (with_book w b)) (same_Ok _ book (refuse_ok (is_screen_id_taken w.book k id false) 7 _ book made).1) (record { screens = λ t at. refl; depth = refl }))))))

  use_name_rests : (id : ℕ) (name : List ℕ) → RestIf (use_name k w id name)
  unfolding use_name add_named
  use_name_rests id name =
      after_step _ (add_named w.book k id name) _ (λ book adds.
      let free = refuse_ok (is_image_id_taken w.book k id) 6 _ book adds in
      let looked = value_ok (tie_of w.book name) 17 _ book free.1 in
      then_client (with_book w book) _ (subst (λ (b : Book). Rests w (with_book w b)) (same_Ok _ book looked.2) (record { screens = λ s at. refl; depth = refl })))

  name_image_rests : (id : ℕ) (tied : Bool) (name : List ℕ) → RestIf (name_image k w id tied name)
  unfolding name_image
  name_image_rests id tied name =
      after_step _ (look w k id) _ (λ _ _.
      after_step _ (refuse_if (length name == 0) 23) _ (λ _ _.
      after_step _ (if tied then tie w.book k id name else untie w.book k id name) _ (λ book e. by tied book e)))
    where
      by : (b : Bool) (book : Book) → (if b then tie w.book k id name else untie w.book k id name) ≡ Ok book → Rests w (with_book w book)
      by true book e = record { screens = λ s at. ap (λ (b : Book). screen_numbered b s) (tie-rest w.book book k id name e); depth = refl }
      by false book e = record { screens = λ s at. ap (λ (b : Book). screen_numbered b s) (untie-rest w.book book k id name e); depth = refl }

  -- ---- what goes

  apart : (owner manager 0 == k) ≡ false
  apart = turned manager k ∙ other

  free_image_rests : (id : ℕ) → RestIf (free_image k w id)
  unfolding free_image
  free_image_rests id =
      after_step _ (refuse_if (id == 0) 23) _ (λ _ _.
      after_step _ (free_id w.book k id) _ (λ freed made.
      then_client (after_freed w freed) _
      (freed_rests w freed (ap (λ (es : List ScreenId). find (λ e. (e.client == manager) && (e.id == 0)) es) (free_id-screen_ids w.book k id freed made)) (free_id-others w.book k id freed made manager 0 apart ∙ display)
      (free_id-frees w.book k id freed orderly.screens made) (free_id-rest w.book k id freed made))))

  free_screen_rests : (id : ℕ) → RestIf (free_screen_id k w id)
  unfolding free_screen_id
  free_screen_rests id =
      after_step _ (free_screen w.book k id) _ (λ freed made.
      freed_rests w freed (free_screen-screen_ids w.book k id freed made 0 (ap (λ (b : Bool). b && (0 == id)) (turned manager k ∙ other))) (free_screen-others w.book k id freed made manager 0 apart ∙ display)
      (free_screen-frees w.book k id freed orderly.screens made) (free_screen-rest w.book k id freed made))

  pub leave_rests : KeepsRoot w (after_leave w k) → Rests w (after_leave w k)
  leave_rests root =
      let is = gone-book (leave w.book k).gone (with_book w (leave w.book k).book) in
      let one = freed_rests w (leave w.book k) (sym (ap (λ (b : Book). screen_id b manager 0) is) ∙ root) (leave-others w.book k manager 0 apart ∙ display) (leave-frees w.book k orderly.screens) (leave-rest w.book k) in
      record { screens = one.screens; depth = one.depth }

  -- ---- images

  set_clip_rests : (dstid : ℕ) (repl : Bool) (clipr : Rect) → RestIf (set_clip k w dstid repl clipr)
  unfolding set_clip
  set_clip_rests dstid repl clipr =
      after_step _ (look w k dstid) _ (λ dst _.
      after_step _ (refuse_if (is_display w dst) 23) _ (λ _ _.
      after_step _ (refuse_if (repl && (is_window w dst || has_screen w.book dst)) 11) _ (λ _ _. images_rest (after_set w.images dst repl clipr) (depth_set w.images dst repl clipr 0))))

  move_rests : (id : ℕ) (min scr : Point) → RestIf (move_window k w id min scr)
  unfolding move_window
  move_rests id min scr =
      after_step _ (look_window w k id) _ (λ i _.
      after_step _ (refuse_if (not (stays_near (at_number w i).r min scr)) 9) _ (λ _ _. images_rest (after_origin w.images i min scr) (depth_origin w.images i min scr 0)))

  restack_rests : (top : Bool) (ids : List ℕ) → RestIf (restack k w top ids)
  unfolding restack
  restack_rests top ids =
      after_step _ (look_windows w k ids) _ (λ group _. after_step _ (refuse_if (not (are_on_one_screen w.book group)) 22) _ (λ _ _. by top group))
    where
      by : (b : Bool) (group : List ℕ) → Rests w (with_images w (if b then after_raise w.images group else after_lower w.images group))
      by true group = images_rest (after_raise w.images group) (depth_raise w.images group 0)
      by false group = images_rest (after_lower w.images group) (depth_lower w.images group 0)

  draw_rests : (dstid srcid maskid : ℕ) (dstr : Rect) (srcp maskp : Point) → RestIf (draw k w dstid srcid maskid dstr srcp maskp)
  unfolding draw
  draw_rests dstid srcid maskid dstr srcp maskp =
      after_step _ (drawing_of k w dstid srcid maskid dstr srcp maskp) _ (λ drawing _.
      then_client (with_images w (after_draw w.images drawing)) _ (images_rest (after_draw w.images drawing) (depth_draw w.images drawing 0)))

  operator_rests : (op : ℕ) → RestIf (set_operator k w op)
  unfolding set_operator
  operator_rests op = after_step _ (refuse_if (nat_lt 11 op) 21) _ (λ _ _. client_rests _)

  read_rests : (id : ℕ) (r : Rect) → RestIf (read_pixels k w id r)
  unfolding read_pixels
  read_rests id r =
      after_step _ (look w k id) _ (λ i _.
      after_step _ (refuse_if (is_empty r || not (is_inside r (at_number w i).r)) 12) _ (λ _ _.
      after_step _ (refuse_if (nat_lt most_read (rows_len (at_number w i).chan r)) 25) _ (λ _ _. client_rests _)))

  write_rests : (id : ℕ) (r : Rect) (rest : List ℕ) → RestIf (write_pixels k w id r rest)
  unfolding write_pixels
  write_rests id r rest =
      after_step _ (look w k id) _ (λ i _.
      after_step _ (refuse_if (is_empty r || not (is_inside r (at_number w i).r)) 13) _ (λ _ _.
      after_step _ (refuse_if (nat_lt (length rest) (rows_len (at_number w i).chan r)) 1) _ (λ _ _. images_rest _ (depth_load w.images i r _ 0))))

  font_rests : (id n ascent : ℕ) → RestIf (make_font k w id n ascent)
  unfolding make_font
  font_rests id n ascent =
      after_step _ (look w k id) _ (λ i _.
      after_step _ (refuse_if ((id == 0) || is_window w i || by_name w.book k id) 23) _ (λ _ _.
      after_step _ (refuse_if ((n == 0) || nat_lt most_cells n) 23) _ (λ _ _. client_rests _)))

  cell_rests : (cacheid srcid index : ℕ) (r : Rect) (sp : Point) (left : ℤ) (width : ℕ) → RestIf (load_cell k w cacheid srcid index r sp left width)
  unfolding load_cell
  cell_rests cacheid srcid index r sp left width =
      after_step _ (look w k cacheid) _ (λ cache _.
      after_step _ (font_of w k cacheid) _ (λ font _.
      after_step _ (look w k srcid) _ (λ src _.
      after_step _ (with_cell font index (record { r = r; left = left; width = width })) _ (λ loaded _.
      after_step _ (refuse_if (is_turned r || not (is_inside r (at_number w cache).r)) 9) _ (λ _ _.
      let drawing = unmasked cache r r src sp s_alone in
      then_client (with_images w (after_draw w.images drawing)) _ (images_rest (after_draw w.images drawing) (depth_draw w.images drawing 0)))))))

  string_rests : (writing : Writing) (background : Option (ℕ × Point)) → RestIf (write_string k w writing background)
  unfolding write_string
  string_rests writing background =
      after_step _ (string_drawings k w writing background) _ (λ drawings _.
      then_client (with_images w (fold after_draw w.images drawings)) _ (images_rest (fold after_draw w.images drawings) (depth_draws w.images drawings 0)))

  -- ---- each message

  pub act_rests : (m : Message) (rest : List ℕ) → RestIf (act k w m rest)
  unfolding act
  act_rests (LowB id screenid refresh chan repl r clipr color) rest = allocate_rests id screenid refresh chan (flag repl) r clipr color
  act_rests (UpA id imageid fillid public) rest = make_screen_rests id imageid fillid (flag public)
  act_rests (LowC dstid repl clipr) rest = set_clip_rests dstid (flag repl) clipr
  act_rests (LowD dstid srcid maskid dstr srcp maskp) rest = draw_rests dstid srcid maskid dstr srcp maskp
  act_rests (UpD debug) rest = rests_itself w
  act_rests (LowF id) rest = free_image_rests id
  act_rests (UpF id) rest = free_screen_rests id
  act_rests (LowI id n ascent) rest = font_rests id n ascent
  act_rests (LowL cacheid srcid index r sp left width) rest = cell_rests cacheid srcid index r sp left width
  act_rests (UpN id tied name) rest = name_image_rests id (flag tied) name
  act_rests (LowN id name) rest = use_name_rests id name
  act_rests (LowO id min scr) rest = move_rests id min scr
  act_rests (UpO op) rest = operator_rests op
  act_rests (LowR id r) rest = read_rests id r
  act_rests (LowS writing) rest = string_rests writing None
  act_rests (UpS id chan) rest = share_screen_rests id chan
  act_rests (LowT top ids) rest = restack_rests (flag top) ids
  act_rests LowV rest = rests_itself w
  act_rests (LowX writing bgid bgp) rest = string_rests writing (Some (bgid, bgp))
  act_rests (LowY id r) rest = write_rests id r rest
