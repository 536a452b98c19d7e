-- A draw device's images are stacked still after each message of a connection, and where connections begin and end.
use Rattle.std.proofs.Common.{◌≡◌, ◌+◌, ◌||◌, ◌&&◌, ℕ, zero, suc, Bool, true, false, ℤ, List, [], ◌∷◌, Option, Some, None, Ok, Err, ap, subst, refl, sym, ◌∙◌}
use Rattle.std.specs.Prelude.{◌==◌, IfOk, is_some, length, nat_lt, not, if◌then◌else◌}
use Rattle.std.specs.Int.{w32, from_le_bytes}
use Rattle.std.specs.List.{fold}
use Rattle.std.specs.Option.{option_map_or}
use Rattle.r9_geom.specs.declared.Point.{Point}
use Rattle.r9_geom.specs.declared.Rect.{Rect}
use Rattle.r9_geom.specs.Geometry.{is_empty, is_inside}
use Rattle.model_text.specs.text.Outcome.{Outcome, refuse_if}
use Rattle.model_pixel.specs.Channels.{is_descriptor}
use Rattle.model_forest.specs.Stack.{after_lower, after_raise}
use Rattle.model_forest.specs.World as forest
use Rattle.model_forest.specs.World.{IsLive, World as Images, parent_of}
use Rattle.model_forest.proofs.Changes.{live-standing}
use Rattle.model_draw_parts.specs.dmsg.Message.{Message, Writing, LowB, UpA, LowC, LowD, UpD, LowF, UpF, LowI, LowL, UpN, LowN, LowO, UpO, LowR, LowS, UpS, LowT, LowV, LowX, LowY}
use Rattle.model_draw_parts.specs.dmsg.Reading.{first_message}
use Rattle.model_draw_parts.specs.declared.images.Thing.{Thing}
use Rattle.model_draw_parts.specs.declared.images.Thing.TheVariants.{Image, Screen}
use Rattle.model_draw_parts.specs.fonts.Font.{with_cell}
use Rattle.model_draw_parts.specs.images.Book.{Book, add_id, add_named, add_screen, by_name, fill_of, has_screen, image_of, is_image_id_taken, is_screen_id_taken, new_screen, public, tie, untie, screen_numbered}
use Rattle.model_draw_parts.specs.images.Release.{Freed, free_id, free_screen, leave, has_gone, is_used}
use Rattle.model_draw_parts.proofs.images.Freed.{free_id-frees, free_screen-frees, leave-frees}
use Rattle.model_draw.specs.imgfile.ImageFile.{rows_len}
use Rattle.model_draw.specs.draw.World.{World, after_freed, after_leave, at_number, client_of, is_display, look, next_image, with_book, without_thing}
use Rattle.model_draw.specs.draw.Act.{act, is_marked, no_memory, one_message, spelled, Written, written, written_within}
use Rattle.model_draw.specs.draw.Drawing.{draw, drawing_of, most_read, read_pixels, set_operator, write_pixels}
use Rattle.model_draw.specs.draw.Files.{is_known, read_data, write_ctl}
use Rattle.model_draw.specs.draw.Making.{allocate, clashes, deepest_screen, farthest, fill_raw, flag, free_image, free_screen_id, is_near_rect, is_too_large, is_window, make_screen, screen_named, set_clip, share_screen, with_new_image, with_one_pixel}
use Rattle.model_draw.specs.draw.Memory.{reached}
use Rattle.model_draw.specs.draw.Moving.{are_on_one_screen, look_window, look_windows, move_window, restack, stays_near}
use Rattle.model_draw.specs.draw.Naming.{name_image, use_name}
use Rattle.model_draw.specs.draw.Writing.{font_of, is_turned, load_cell, make_font, most_cells, string_drawings, write_string}
use Rattle.law_shown.proofs.shown.Tests.{after_step, not-true, not_both, same_Ok, same_Some}
use Rattle.law_shown.proofs.shown.Numbers.{gone-book}
use Rattle.law_shown.proofs.lasting.Messages.{named_there}
use Rattle.law_likeness.specs.whole.Steady.{IsSteady}
use Rattle.law_likeness.proofs.making.Fresh.{fresh_next}
use Rattle.law_likeness.proofs.whole.Messages.{act_steady, ground_apart, ground_lives}
use Rattle.law_likeness.specs.making.Standing.{IsStanding, IsWhole}
use Rattle.law_likeness.proofs.making.Standing.{fill_used, parent_lives}
use Rattle.law_likeness.proofs.whole.Freeing.{free_id_whole, free_screen_whole, leave_whole}
use Rattle.law_others.specs.orders.Leading.{Uses, begins, chooses, ends, reads, rests, writes}
use Rattle.law_screen.proofs.Growing.{NobodyOn}
use Rattle.law_screen.proofs.Coming.{image_comes, window_comes}
use Rattle.law_screen.proofs.Leaving.{IsSpared, grown_left, things_leave}
use Rattle.law_screen.specs.Trees.{AreTrees}
use Rattle.law_screen.proofs.Stacked.{AreStacked, draws_stacked, load_stacked, lower_stacked, origin_stacked, raise_stacked, set_stacked, stacked_trees}
use Rattle.law_screen.proofs.Placed.{ArePlaced, image_placed, release_placed, window_placed}

-- what is steady, and its images are stacked
pub record HasStacks (w : World) : Type 0 where
  pub steady : IsSteady w
  pub stacked : AreStacked w.images

pub next_free : (w : World) → IsSteady w → w.images (next_image w) ≡ None
next_free w steady = (let fresh = fresh_next w steady.whole steady.orderly in fresh.free)

pub nobody_on : (w : World) → IsSteady w → NobodyOn w.images (next_image w)
nobody_on w steady i stands =
    let live = parent_lives w steady.whole.standing i (next_image w) (live-standing w.images i (next_image w) stands) stands in
    not_both (is_some (w.images (next_image w))) live (ap is_some (next_free w steady))

pub device_trees : (w : World) → HasStacks w → AreTrees w.images
device_trees w is = stacked_trees w.images live is.stacked
  where
    standing : IsStanding w
    standing = is.steady.whole.standing

    live : (i p : ℕ) → parent_of w.images i ≡ Some p → IsLive w.images p × IsLive w.images (forest.fill_of w.images i)
    live i p stands =
        let there = live-standing w.images i p stands in
        (parent_lives w standing i p there stands, standing.live _ (fill_used w standing i p there stands))

-- ---- things that go

things_placed : (things : List Thing) (w : World) → ArePlaced w.images → (let left : World = fold without_thing w things in ArePlaced left.images)
things_placed [] w placed = placed
things_placed (Image i ∷ things) w placed = things_placed things (without_thing w (Image i)) (release_placed w.images i placed)
things_placed (Screen s ∷ things) w placed = things_placed things (without_thing w (Screen s)) placed

-- what stands on something lives, and so does that, and has not gone
pub record SparesLiving (left : Images) (gone : List Thing) : Type 0 where
  pub spared : (i : ℕ) → IsLive left i → IsSpared gone i
  pub ground : (i p : ℕ) → parent_of left i ≡ Some p → IsLive left p

pub freed_stacked : (w : World) (freed : Freed) → (let left : World = after_freed w freed in SparesLiving left.images freed.gone) → AreStacked w.images → (let left : World = after_freed w freed in AreStacked left.images)
freed_stacked w freed spares is = record {
  placed = things_placed freed.gone (with_book w freed.book) is.placed;
  grown =
      grown_left w.images left freed.gone (things_leave freed.gone (with_book w freed.book))
      (λ i p stands. (spares.spared i (live-standing left i p stands), spares.spared p (spares.ground i p stands))) is.grown;
}
  where
    left : Images
    left = (let after : World = after_freed w freed in after.images)

-- a book says of what has gone that it is not used
abbrev pub LeavesUnused : Freed → Type 0
LeavesUnused freed = (i : ℕ) → has_gone freed (Image i) ≡ true → is_used freed.book (Image i) ≡ false

pub whole_spares : (w left : World) (freed : Freed) → left.book ≡ freed.book → IsWhole left → LeavesUnused freed → SparesLiving left.images freed.gone
whole_spares w left freed book whole unused = record {
  spared = λ i live.
      not-true (has_gone freed (Image i)) (λ gone. not_both (is_used freed.book (Image i)) (sym (ap (λ (b : Book). is_used b (Image i)) book) ∙ whole.used i live) (unused i gone));
  ground = λ i p stands. parent_lives left whole.standing i p (live-standing left.images i p stands) stands;
}

pub freed_is : (w : World) (freed : Freed) → IsWhole (after_freed w freed) → LeavesUnused freed → AreStacked w.images → (let left : World = after_freed w freed in AreStacked left.images)
freed_is w freed whole unused is = freed_stacked w freed (whole_spares w (after_freed w freed) freed (gone-book freed.gone (with_book w freed.book)) whole unused) is

pub leave_stacked : (w : World) (k : ℕ) → IsWhole w → AreStacked w.images → (let left : World = after_leave w k in AreStacked left.images)
leave_stacked w k whole is =
    let freed = leave w.book k in
    let frees = leave-frees w.book k whole.standing.screens in
    let spares = whole_spares w (after_leave w k) freed (gone-book freed.gone (with_book w freed.book)) (leave_whole w k whole) (λ i gone. frees.gone_unused (Image i) gone) in
    freed_stacked w freed (record { spared = spares.spared; ground = spares.ground }) is

-- ---- each message

module _ (k : ℕ) (w : World) (is : HasStacks w) where
  abbrev Stacked : Outcome World → Type 0
  Stacked o = IfOk o (λ next. AreStacked next.images)

  abbrev stacked : AreStacked w.images
  stacked = is.stacked

  abbrev whole : IsWhole w
  whole = is.steady.whole

  new_stacked : (s : Option ℕ) (r : Rect) (chan raw : ℕ) (repl : Bool) (clipr : Rect) → ((t : ℕ) → s ≡ Some t → is_some (screen_numbered w.book t) ≡ true) → AreStacked (with_new_image w s r chan raw repl clipr)
  new_stacked s r chan raw repl clipr there = set_stacked (with_one_pixel w s r chan raw) (next_image w) repl clipr (one s there)
    where
      m : ℕ
      m = next_image w

      one : (s : Option ℕ) → ((t : ℕ) → s ≡ Some t → is_some (screen_numbered w.book t) ≡ true) → AreStacked (with_one_pixel w s r chan raw)
      one None there = record {
        placed = image_placed w.images m r chan raw (next_free w is.steady) stacked.placed;
        grown = image_comes w.images m (next_free w is.steady) (nobody_on w is.steady) stacked.placed stacked.grown r chan raw;
      }
      one (Some t) there =
          let p = image_of w.book t in
          let apart = ground_apart w whole is.steady.orderly p (ground_lives w whole t (there t refl)) in
          record {
            placed = window_placed w.images m p (fill_of w.book t) r raw (next_free w is.steady) stacked.placed;
            grown = window_comes w.images m (next_free w is.steady) (nobody_on w is.steady) stacked.placed stacked.grown p (fill_of w.book t) r raw apart;
          }

  allocate_stacked : (id screenid refresh chan : ℕ) (repl : Bool) (r clipr : Rect) (color : ℕ) → Stacked (allocate k w id screenid refresh chan repl r clipr color)
  unfolding allocate
  allocate_stacked id screenid refresh chan repl r clipr color =
      after_step _ (refuse_if (is_image_id_taken w.book k id) 6) _ (λ _ _.
      after_step _ (refuse_if (nat_lt 2 refresh) 23) _ (λ _ _.
      after_step _ (refuse_if (not (is_descriptor chan)) 8) _ (λ _ _.
      after_step _ (refuse_if (is_empty r || not (is_near_rect farthest r)) 9) _ (λ _ _.
      after_step _ (refuse_if (is_too_large (client_of w k) (rows_len chan r)) 10) _ (λ _ _.
      after_step _ (screen_named w k screenid) _ (λ s named.
      after_step _ (refuse_if (option_map_or (clashes w chan repl) s false) 11) _ (λ _ _.
      after_step _ (add_id w.book k id (next_image w) s) _ (λ book _. new_stacked s r chan (fill_raw chan color) repl clipr (named_there w k screenid s is.steady.orderly named)))))))))

  make_screen_stacked : (id imageid fillid : ℕ) (is_public : Bool) → Stacked (make_screen k w id imageid fillid is_public)
  unfolding make_screen
  make_screen_stacked id imageid fillid is_public =
      after_step _ (refuse_if (id == 0) 23) _ (λ _ _.
      after_step _ (refuse_if (is_screen_id_taken w.book k id is_public) 7) _ (λ _ _.
      after_step _ (look w k imageid) _ (λ i _.
      after_step _ (look w k fillid) _ (λ fill _.
      after_step _ (refuse_if (at_number w i).repl 11) _ (λ _ _.
      after_step _ (refuse_if (nat_lt deepest_screen (at_number w i).depth) 23) _ (λ _ _.
      after_step _ (new_screen w.book k id is_public i fill) _ (λ _ _. stacked)))))))

  share_screen_stacked : (id chan : ℕ) → Stacked (share_screen k w id chan)
  unfolding share_screen
  share_screen_stacked id chan =
      after_step _ (refuse_if (id == 0) 23) _ (λ _ _.
      after_step _ (refuse_if (is_screen_id_taken w.book k id false) 7) _ (λ _ _.
      after_step _ (public w.book id) _ (λ s _.
      after_step _ (refuse_if (not ((at_number w (image_of w.book s)).chan == chan)) 11) _ (λ _ _.
      after_step _ (add_screen w.book k id s false) _ (λ _ _. stacked)))))

  free_screen_id_stacked : (id : ℕ) → Stacked (free_screen_id k w id)
  unfolding free_screen_id
  free_screen_id_stacked id = after_step _ (free_screen w.book k id) _ (λ freed e.
      let frees = free_screen-frees w.book k id freed whole.standing.screens e in freed_is w freed (free_screen_whole w k id freed whole e) (λ i gone. frees.gone_unused (Image i) gone) stacked)

  free_image_stacked : (id : ℕ) → Stacked (free_image k w id)
  unfolding free_image
  free_image_stacked id = after_step _ (refuse_if (id == 0) 23) _ (λ _ _. after_step _ (free_id w.book k id) _ (λ freed e.
      let frees = free_id-frees w.book k id freed whole.standing.screens e in freed_is w freed (free_id_whole w k id freed whole e) (λ i gone. frees.gone_unused (Image i) gone) stacked))

  move_stacked : (id : ℕ) (rmin scr : Point) → Stacked (move_window k w id rmin scr)
  unfolding move_window
  move_stacked id rmin scr =
      after_step _ (look_window w k id) _ (λ i _.
      after_step _ (refuse_if (not (stays_near (at_number w i).r rmin scr)) 9) _ (λ _ _. origin_stacked w.images i rmin scr stacked))

  restack_stacked : (top : Bool) (ids : List ℕ) → Stacked (restack k w top ids)
  unfolding restack
  restack_stacked top ids =
      after_step _ (look_windows w k ids) _ (λ group _. after_step _ (refuse_if (not (are_on_one_screen w.book group)) 22) _ (λ _ _. by top group))
    where
      by : (b : Bool) (group : List ℕ) → AreStacked (if b then after_raise w.images group else after_lower w.images group)
      by true group = raise_stacked w.images group stacked
      by false group = lower_stacked w.images group stacked

  set_clip_stacked : (dstid : ℕ) (repl : Bool) (clipr : Rect) → Stacked (set_clip k w dstid repl clipr)
  unfolding set_clip
  set_clip_stacked dstid repl clipr =
      after_step _ (look w k dstid) _ (λ dst _.
      after_step _ (refuse_if (is_display w dst) 23) _ (λ _ _.
      after_step _ (refuse_if (repl && (is_window w dst || has_screen w.book dst)) 11) _ (λ _ _. set_stacked w.images dst repl clipr stacked)))

  draw_message_stacked : (dstid srcid maskid : ℕ) (dstr : Rect) (srcp maskp : Point) → Stacked (draw k w dstid srcid maskid dstr srcp maskp)
  unfolding draw
  draw_message_stacked dstid srcid maskid dstr srcp maskp = after_step _ (drawing_of k w dstid srcid maskid dstr srcp maskp) _ (λ d _. draws_stacked (d ∷ []) w.images stacked)

  set_operator_stacked : (op : ℕ) → Stacked (set_operator k w op)
  unfolding set_operator
  set_operator_stacked op = after_step _ (refuse_if (nat_lt 11 op) 21) _ (λ _ _. stacked)

  read_pixels_stacked : (id : ℕ) (r : Rect) → Stacked (read_pixels k w id r)
  unfolding read_pixels
  read_pixels_stacked id r =
      after_step _ (look w k id) _ (λ i _.
      after_step _ (refuse_if (is_empty r || not (is_inside r (at_number w i).r)) 12) _ (λ _ _.
      after_step _ (refuse_if (nat_lt most_read (rows_len (at_number w i).chan r)) 25) _ (λ _ _. stacked)))

  write_pixels_stacked : (id : ℕ) (r : Rect) (rest : List ℕ) → Stacked (write_pixels k w id r rest)
  unfolding write_pixels
  write_pixels_stacked id r rest =
      after_step _ (look w k id) _ (λ i _.
      after_step _ (refuse_if (is_empty r || not (is_inside r (at_number w i).r)) 13) _ (λ _ _.
      after_step _ (refuse_if (nat_lt (length rest) (rows_len (at_number w i).chan r)) 1) _ (λ _ _. load_stacked w.images i r _ stacked)))

  name_image_stacked : (id : ℕ) (tied : Bool) (name : List ℕ) → Stacked (name_image k w id tied name)
  unfolding name_image
  name_image_stacked id tied name =
      after_step _ (look w k id) _ (λ _ _.
      after_step _ (refuse_if (length name == 0) 23) _ (λ _ _.
      after_step _ (if tied then tie w.book k id name else untie w.book k id name) _ (λ _ _. stacked)))

  use_name_stacked : (id : ℕ) (name : List ℕ) → Stacked (use_name k w id name)
  unfolding use_name
  use_name_stacked id name = after_step _ (add_named w.book k id name) _ (λ _ _. stacked)

  make_font_stacked : (id n ascent : ℕ) → Stacked (make_font k w id n ascent)
  unfolding make_font
  make_font_stacked id n ascent =
      after_step _ (look w k id) _ (λ i _.
      after_step _ (refuse_if ((id == 0) || is_window w i || by_name w.book k id) 23) _ (λ _ _.
      after_step _ (refuse_if ((n == 0) || nat_lt most_cells n) 23) _ (λ _ _. stacked)))

  load_cell_stacked : (cacheid srcid index : ℕ) (r : Rect) (sp : Point) (left : ℤ) (width : ℕ) → Stacked (load_cell k w cacheid srcid index r sp left width)
  unfolding load_cell
  load_cell_stacked cacheid srcid index r sp left width =
      after_step _ (look w k cacheid) _ (λ cache _.
      after_step _ (font_of w k cacheid) _ (λ font _.
      after_step _ (look w k srcid) _ (λ src _.
      after_step _ (with_cell font index (record { r = r; left = left; width = width })) _ (λ _ _.
      after_step _ (refuse_if (is_turned r || not (is_inside r (at_number w cache).r)) 9) _ (λ _ _. draws_stacked (_ ∷ []) w.images stacked)))))

  write_string_stacked : (x : Writing) (bg : Option (ℕ × Point)) → Stacked (write_string k w x bg)
  unfolding write_string
  write_string_stacked x bg = after_step _ (string_drawings k w x bg) _ (λ ds _. draws_stacked ds w.images stacked)

  pub act_stacked : (m : Message) (rest : List ℕ) → Stacked (act k w m rest)
  unfolding act
  act_stacked (LowB id screenid refresh chan repl r clipr color) rest = allocate_stacked id screenid refresh chan (flag repl) r clipr color
  act_stacked (UpA id imageid fillid public) rest = make_screen_stacked id imageid fillid (flag public)
  act_stacked (LowC dstid repl clipr) rest = set_clip_stacked dstid (flag repl) clipr
  act_stacked (LowD dstid srcid maskid dstr srcp maskp) rest = draw_message_stacked dstid srcid maskid dstr srcp maskp
  act_stacked (UpD debug) rest = stacked
  act_stacked (LowF id) rest = free_image_stacked id
  act_stacked (UpF id) rest = free_screen_id_stacked id
  act_stacked (LowI id n ascent) rest = make_font_stacked id n ascent
  act_stacked (LowL cacheid srcid index r sp left width) rest = load_cell_stacked cacheid srcid index r sp left width
  act_stacked (UpN id tied name) rest = name_image_stacked id (flag tied) name
  act_stacked (LowN id name) rest = use_name_stacked id name
  act_stacked (LowO id rmin scr) rest = move_stacked id rmin scr
  act_stacked (UpO op) rest = set_operator_stacked op
  act_stacked (LowR id r) rest = read_pixels_stacked id r
  act_stacked (LowS writing) rest = write_string_stacked writing None
  act_stacked (UpS id chan) rest = share_screen_stacked id chan
  act_stacked (LowT top ids) rest = restack_stacked (flag top) ids
  act_stacked LowV rest = stacked
  act_stacked (LowX writing bgid bgp) rest = write_string_stacked writing (Some (bgid, bgp))
  act_stacked (LowY id r) rest = write_pixels_stacked id r rest

-- ---- a write

act_keeps : (k : ℕ) (w next : World) (m : Message) (rest : List ℕ) → (k == 0) ≡ false → HasStacks w → act k w m rest ≡ Ok next → HasStacks next
act_keeps k w next m rest other is acted = record {
  steady = act_steady k w next m rest other is.steady acted;
  stacked = if_ok (act k w m rest) (act_stacked k w is m rest) acted;
}
  where
    if_ok : (o : Outcome World) → IfOk o (λ v. AreStacked v.images) → o ≡ Ok next → AreStacked next.images
    if_ok (Ok x) holds is = subst (λ (v : World). AreStacked v.images) (same_Ok x next is) holds
    if_ok (Err n) holds is = absurd cc

one_keeps : (k : ℕ) (w : World) (mark : Option ℕ) (done : ℕ) (bytes : List ℕ) → (k == 0) ≡ false → HasStacks w → IfOk (one_message k w mark done bytes) (λ next. HasStacks next.0)
unfolding one_message
one_keeps k w mark done bytes other is =
    after_step _ (spelled (first_message bytes)) _ (λ m _.
    after_step _ (act k w m.0 m.1) _ (λ next acted. after_step _ (refuse_if (is_marked mark done) no_memory) _ (λ _ _. act_keeps k w next m.0 m.1 other is acted)))

within_keeps : (steps k : ℕ) (w : World) (mark : Option ℕ) (done : ℕ) (bytes : List ℕ) → (k == 0) ≡ false → HasStacks w → HasStacks (written_within steps k w mark done bytes).world
within_keeps zero k w mark done bytes other is = is
within_keeps (suc steps) k w mark done [] other is = is
within_keeps (suc steps) k w mark done (byte ∷ bytes) other is =
    by (λ v rest is. within_keeps steps k v mark (done + 1) rest other is) (one_message k w mark done (byte ∷ bytes)) (one_keeps k w mark done (byte ∷ bytes) other is)
  where
    by : ((v : World) (rest : List ℕ) → HasStacks v → HasStacks (written_within steps k v mark (done + 1) rest).world) → (o : Outcome (World × List ℕ)) → IfOk o (λ next. HasStacks next.0)
        → (let after : Written = elim o [ Ok next ↦ written_within steps k next.0 mark (done + 1) next.1 | Err refusal ↦ record { world = w; done = done; refusal = Some refusal } ] in HasStacks after.world)
    by more (Ok next) is = more next.0 next.1 is
    by more (Err refusal) none = is

written_keeps : (k : ℕ) (w : World) (bytes : List ℕ) (mark : Option ℕ) → (k == 0) ≡ false → HasStacks w → HasStacks (written k w bytes mark).world
unfolding written
written_keeps k w bytes mark other is = within_keeps (length bytes) k w mark 0 bytes other is

-- behind each message of a write
pub reached_keeps : (n k : ℕ) (w : World) (bytes : List ℕ) (at : World) (rest : List ℕ) → (k == 0) ≡ false → HasStacks w → reached n k w bytes ≡ Some (at, rest) → HasStacks at
reached_keeps zero k w bytes at rest other is e = subst HasStacks (ap (λ (first : World × List ℕ). first.0) (same_Some (w, bytes) (at, rest) e)) is
reached_keeps (suc n) k w bytes at rest other is e =
    by (λ v more is e. reached_keeps n k v more at rest other is e) (one_message k w None 0 bytes) (one_keeps k w None 0 bytes other is) e
  where
    by : ((v : World) (more : List ℕ) → HasStacks v → reached n k v more ≡ Some (at, rest) → HasStacks at) → (o : Outcome (World × List ℕ)) → IfOk o (λ next. HasStacks next.0)
        → (let left : Option (World × List ℕ) = elim o [ Ok next ↦ reached n k next.0 next.1 | Err refusal ↦ None ] in left ≡ Some (at, rest)) → HasStacks at
    by more (Ok next) is e = more next.0 next.1 is e
    by more (Err refusal) none e = absurd cc

-- ---- what connections do

module _ (k : ℕ) (w : World) (stacked : AreStacked w.images) where
  read_stacked : (most : ℕ) → IfOk (read_data k w most) (λ got. AreStacked got.1.images)
  unfolding read_data
  read_stacked most =
      after_step _ (refuse_if (length (client_of w k).pending == 0) 26) _ (λ _ _.
      after_step _ (refuse_if (nat_lt most (length (client_of w k).pending)) 25) _ (λ _ _. stacked))

  choice_stacked : (bytes : List ℕ) → IfOk (write_ctl k w bytes) (λ next. AreStacked next.images)
  unfolding write_ctl
  choice_stacked bytes =
      after_step _ (refuse_if (not (length bytes == 4)) 27) _ (λ _ _.
      after_step _ (refuse_if (not (is_known w k (from_le_bytes w32 bytes))) 4) _ (λ _ _. stacked))

done : {A : Type 0} (P : A → Type 0) (o : Outcome A) (x : A) → o ≡ Ok x → IfOk o P → P x
done P o x is all = subst (λ (made : Outcome _). IfOk made P) is all

pub used_stacked : (old new : World) → Uses old new → HasStacks old → AreStacked new.images
used_stacked old new rests is = is.stacked
used_stacked old new (writes k bytes mark other) is = (let after = written_keeps k old bytes mark other is in after.stacked)
used_stacked old new (reads k most got e) is = done (λ g. AreStacked g.1.images) (read_data k old most) got e (read_stacked k old is.stacked most)
used_stacked old new (chooses k bytes next e) is = done (λ v. AreStacked v.images) (write_ctl k old bytes) next e (choice_stacked k old is.stacked bytes)
used_stacked old new (begins k) is = is.stacked
used_stacked old new (ends k other) is = leave_stacked old k is.steady.whole is.stacked
