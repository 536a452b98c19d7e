-- What holds of each tie of a device holds after what a session does, where it holds of each name that a session may make.
use Rattle.std.proofs.Common.{◌≡◌, ℕ, zero, suc, ◌+◌, Bool, true, false, ℤ, List, [], ◌∷◌, Option, Some, None, Ok, Err, refl, sym, ap, subst, ◌∙◌}
use Rattle.std.specs.Prelude.{◌==◌, ◌||◌, ◌&&◌, IfOk, codes, is_some, length, not, nat_lt, if◌then◌else◌}
use Rattle.std.specs.Int.{w32, from_le_bytes}
use Rattle.std.specs.List.{All, starts_with}
use Rattle.std.specs.Option.{option_map_or}
use Rattle.std.proofs.lemmas.List.Elements.{All-push}
use Rattle.r9_geom.specs.declared.Point.{Point}
use Rattle.r9_geom.specs.declared.Rect.{Rect}
use Rattle.r9_geom.specs.Geometry.{is_empty, is_inside}
use Rattle.model_text.specs.text.Outcome.{Outcome, refuse_if}
use Rattle.model_pixel.specs.Channels.{is_descriptor}
use Rattle.model_draw.specs.imgfile.ImageFile.{rows_len}
use Rattle.model_draw_parts.specs.dmsg.Message.{Message, LowB, UpA, LowC, LowD, UpD, LowF, UpF, LowI, LowL, UpN, LowN, LowO, UpO, LowR, LowS, UpS, LowT, LowV, LowX, LowY, Writing}
use Rattle.model_draw_parts.specs.dmsg.Reading.{first_message}
use Rattle.model_draw_parts.specs.fonts.Font.{with_cell}
use Rattle.model_draw_parts.specs.declared.images.Tie.{Tie}
use Rattle.model_draw_parts.specs.images.Book.{Book, add_id, add_named, add_screen, by_name, has_screen, image, image_of, is_image_id_taken, is_kept_name, is_screen_id_taken, new_screen, public, tie, tie_of, untie}
use Rattle.model_draw_parts.specs.images.Release.{free_id, free_screen, is_tied_by}
use Rattle.model_draw.specs.draw.World.{World, at_number, client_of, is_display, look, next_image}
use Rattle.model_draw.specs.draw.Making.{allocate, clashes, deepest_screen, farthest, flag, free_image, free_screen_id, is_near_rect, is_too_large, is_window, make_screen, screen_named, set_clip, share_screen}
use Rattle.model_draw.specs.draw.Moving.{are_on_one_screen, look_window, look_windows, move_window, restack, stays_near}
use Rattle.model_draw.specs.draw.Drawing.{draw, drawing_of, most_read, read_pixels, set_operator, write_pixels}
use Rattle.model_draw.specs.draw.Naming.{name_image, use_name}
use Rattle.model_draw.specs.draw.Writing.{font_of, is_turned, load_cell, make_font, most_cells, string_drawings, write_string}
use Rattle.model_draw.specs.draw.Act.{Written, act, is_marked, no_memory, one_message, spelled, written, written_within}
use Rattle.model_draw.specs.draw.Files.{is_known, read_data, write_ctl}
use Rattle.law_shown.proofs.shown.Tests.{after_if, after_step, refuse_ok, same_Ok, second_false, then_ok, value_ok}
use Rattle.law_others.specs.orders.Leading.{Uses, begins, chooses, ends, reads, rests, writes}
use Rattle.law_others.proofs.tied.Orders.{fewer_ties, freed_book, id_ties, leave_keeps, same_ties, screen_ties}

-- a name that is not kept for the manager
not_kept : (k : ℕ) (name : List ℕ) → (k == 0) ≡ false → is_kept_name k name ≡ false → starts_with ◌==◌ name (codes "window.") ≡ false
not_kept k name other e = sym (ap (λ (b : Bool). not b && starts_with ◌==◌ name (codes "window.")) other) ∙ e

module _ (P : Tie → Type 0) (others : (t : Tie) → starts_with ◌==◌ t.name (codes "window.") ≡ false → P t) (k : ℕ) (other : (k == 0) ≡ false) where
  abbrev Kept : World → Type 0
  Kept next = All P next.book.ties

  abbrev KeptIf : Outcome World → Type 0
  KeptIf o = IfOk o Kept

  module _ (w : World) (all : All P w.book.ties) where
    -- ---- images, ids and screens

    added : (id i : ℕ) (s : Option ℕ) (book : Book) → add_id w.book k id i s ≡ Ok book → All P book.ties
    unfolding add_id
    added id i s book adds = subst (λ (b : Book). All P b.ties) (same_Ok _ book (refuse_ok (is_image_id_taken w.book k id) 6 _ book adds).1) all

    allocate_keeps : (id screenid refresh chan : ℕ) (repl : Bool) (r clipr : Rect) (color : ℕ) → KeptIf (allocate k w id screenid refresh chan repl r clipr color)
    unfolding allocate
    allocate_keeps id screenid refresh chan repl r clipr color =
        after_step _ (refuse_if (is_image_id_taken w.book k id) 6) _ (λ _ _.
        after_step _ (refuse_if (nat_lt 2 refresh) 23) _ (λ _ _.
        after_step _ (refuse_if (not (is_descriptor chan)) 8) _ (λ _ _.
        after_step _ (refuse_if (is_empty r || not (is_near_rect farthest r)) 9) _ (λ _ _.
        after_step _ (refuse_if (is_too_large (client_of w k) (rows_len chan r)) 10) _ (λ _ _.
        after_step _ (screen_named w k screenid) _ (λ s named.
        after_step _ (refuse_if (option_map_or (clashes w chan repl) s false) 11) _ (λ _ _.
        after_step _ (add_id w.book k id (next_image w) s) _ (λ book adds. added id (next_image w) s book adds))))))))

    screened : (id : ℕ) (public : Bool) (i fill : ℕ) (book : Book) → new_screen w.book k id public i fill ≡ Ok book → All P book.ties
    unfolding new_screen
    screened id public i fill book made = subst (λ (b : Book). All P b.ties) (same_Ok _ book (refuse_ok (is_screen_id_taken w.book k id public) 7 _ book made).1) all

    make_screen_keeps : (id imageid fillid : ℕ) (is_public : Bool) → KeptIf (make_screen k w id imageid fillid is_public)
    unfolding make_screen
    make_screen_keeps id imageid fillid is_public =
        after_step _ (refuse_if (id == 0) 23) _ (λ _ _.
        after_step _ (refuse_if (is_screen_id_taken w.book k id is_public) 7) _ (λ _ _.
        after_step _ (look w k imageid) _ (λ i _.
        after_step _ (look w k fillid) _ (λ fill _.
        after_step _ (refuse_if (at_number w i).repl 11) _ (λ _ _.
        after_step _ (refuse_if (nat_lt deepest_screen (at_number w i).depth) 23) _ (λ _ _.
        after_step _ (new_screen w.book k id is_public i fill) _ (λ book made. screened id is_public i fill book made)))))))

    shared : (id s : ℕ) (public : Bool) (book : Book) → add_screen w.book k id s public ≡ Ok book → All P book.ties
    unfolding add_screen
    shared id s public book made = subst (λ (b : Book). All P b.ties) (same_Ok _ book (refuse_ok (is_screen_id_taken w.book k id public) 7 _ book made).1) all

    share_screen_keeps : (id chan : ℕ) → KeptIf (share_screen k w id chan)
    unfolding share_screen
    share_screen_keeps id chan =
        after_step _ (refuse_if (id == 0) 23) _ (λ _ _.
        after_step _ (refuse_if (is_screen_id_taken w.book k id false) 7) _ (λ _ _.
        after_step _ (public w.book id) _ (λ s _.
        after_step _ (refuse_if (not ((at_number w (image_of w.book s)).chan == chan)) 11) _ (λ _ _.
        after_step _ (add_screen w.book k id s false) _ (λ book adds. shared id s false book adds)))))

    free_image_keeps : (id : ℕ) → KeptIf (free_image k w id)
    unfolding free_image
    free_image_keeps id =
        after_step _ (refuse_if (id == 0) 23) _ (λ _ _.
        after_step _ (free_id w.book k id) _ (λ freed made.
        fewer_ties P w.book.ties _ (λ t. not (is_tied_by k id t)) (ap (λ (b : Book). b.ties) (freed_book w freed) ∙ id_ties w.book k id freed made) all))

    free_screen_keeps : (id : ℕ) → KeptIf (free_screen_id k w id)
    unfolding free_screen_id
    free_screen_keeps id =
        after_step _ (free_screen w.book k id) _ (λ freed made. same_ties P w.book.ties _ (ap (λ (b : Book). b.ties) (freed_book w freed) ∙ screen_ties w.book k id freed made) all)

    -- ---- names

    tied : (id : ℕ) (name : List ℕ) (book : Book) → tie w.book k id name ≡ Ok book → All P book.ties
    unfolding tie
    tied id name book made =
        let looked = then_ok (image w.book k id) _ book made in
        let free = refuse_ok (is_some (tie_of w.book name) || is_kept_name k name) 16 _ book looked.2 in
        subst (λ (b : Book). All P b.ties) (same_Ok _ book free.1)
        (All-push P w.book.ties _ all (others _ (not_kept k name other (second_false (is_some (tie_of w.book name)) (is_kept_name k name) free.0))))

    untied : (id : ℕ) (name : List ℕ) (book : Book) → untie w.book k id name ≡ Ok book → All P book.ties
    unfolding untie
    untied id name book made =
        let looked = then_ok (image w.book k id) _ book made in
        let found = value_ok (tie_of w.book name) 17 _ book looked.2 in
        let right = refuse_ok (is_kept_name k name || not (found.0.image == looked.0)) 19 _ book found.2 in
        subst (λ (b : Book). All P b.ties) (same_Ok _ book right.1) (fewer_ties P w.book.ties _ (λ t. not (t.number == found.0.number)) refl all)

    name_image_keeps : (id : ℕ) (tied : Bool) (name : List ℕ) → KeptIf (name_image k w id tied name)
    unfolding name_image
    name_image_keeps id ties name =
        after_step _ (look w k id) _ (λ _ _.
        after_step _ (refuse_if (length name == 0) 23) _ (λ _ _.
        after_step _ (if ties then tie w.book k id name else untie w.book k id name) _ (λ book e. by ties book e)))
      where
        by : (b : Bool) (book : Book) → (if b then tie w.book k id name else untie w.book k id name) ≡ Ok book → All P book.ties
        by true book e = tied id name book e
        by false book e = untied id name book e

    named : (id : ℕ) (name : List ℕ) (book : Book) → add_named w.book k id name ≡ Ok book → All P book.ties
    unfolding add_named
    named id name book adds =
        let free = refuse_ok (is_image_id_taken w.book k id) 6 _ book adds in
        let looked = value_ok (tie_of w.book name) 17 _ book free.1 in
        subst (λ (b : Book). All P b.ties) (same_Ok _ book looked.2) all

    use_name_keeps : (id : ℕ) (name : List ℕ) → KeptIf (use_name k w id name)
    unfolding use_name
    use_name_keeps id name = after_step _ (add_named w.book k id name) _ (λ book adds. named id name book adds)

    -- ---- what leaves the book as it is

    set_clip_keeps : (dstid : ℕ) (repl : Bool) (clipr : Rect) → KeptIf (set_clip k w dstid repl clipr)
    unfolding set_clip
    set_clip_keeps dstid repl clipr =
        after_step _ (look w k dstid) _ (λ dst _.
        after_step _ (refuse_if (is_display w dst) 23) _ (λ _ _.
        after_step _ (refuse_if (repl && (is_window w dst || has_screen w.book dst)) 11) _ (λ _ _. all)))

    move_keeps : (id : ℕ) (min scr : Point) → KeptIf (move_window k w id min scr)
    unfolding move_window
    move_keeps id min scr =
        after_step _ (look_window w k id) _ (λ i _. after_step _ (refuse_if (not (stays_near (at_number w i).r min scr)) 9) _ (λ _ _. all))

    restack_keeps : (top : Bool) (ids : List ℕ) → KeptIf (restack k w top ids)
    unfolding restack
    restack_keeps top ids =
        after_step _ (look_windows w k ids) _ (λ group _. after_step _ (refuse_if (not (are_on_one_screen w.book group)) 22) _ (λ _ _. all))

    draw_keeps : (dstid srcid maskid : ℕ) (dstr : Rect) (srcp maskp : Point) → KeptIf (draw k w dstid srcid maskid dstr srcp maskp)
    unfolding draw
    draw_keeps dstid srcid maskid dstr srcp maskp = after_step _ (drawing_of k w dstid srcid maskid dstr srcp maskp) _ (λ drawing _. all)

    operator_keeps : (op : ℕ) → KeptIf (set_operator k w op)
    unfolding set_operator
    operator_keeps op = after_step _ (refuse_if (nat_lt 11 op) 21) _ (λ _ _. all)

    read_keeps : (id : ℕ) (r : Rect) → KeptIf (read_pixels k w id r)
    unfolding read_pixels
    read_keeps id r =
        after_step _ (look w k id) _ (λ i _.
        after_step _ (refuse_if (is_empty r || not (is_inside r (at_number w i).r)) 12) _ (λ _ _.
        after_step _ (refuse_if (nat_lt most_read (rows_len (at_number w i).chan r)) 25) _ (λ _ _. all)))

    write_keeps : (id : ℕ) (r : Rect) (rest : List ℕ) → KeptIf (write_pixels k w id r rest)
    unfolding write_pixels
    write_keeps id r rest =
        after_step _ (look w k id) _ (λ i _.
        after_step _ (refuse_if (is_empty r || not (is_inside r (at_number w i).r)) 13) _ (λ _ _.
        after_step _ (refuse_if (nat_lt (length rest) (rows_len (at_number w i).chan r)) 1) _ (λ _ _. all)))

    font_keeps : (id n ascent : ℕ) → KeptIf (make_font k w id n ascent)
    unfolding make_font
    font_keeps id n ascent =
        after_step _ (look w k id) _ (λ i _.
        after_step _ (refuse_if ((id == 0) || is_window w i || by_name w.book k id) 23) _ (λ _ _.
        after_step _ (refuse_if ((n == 0) || nat_lt most_cells n) 23) _ (λ _ _. all)))

    cell_keeps : (cacheid srcid index : ℕ) (r : Rect) (sp : Point) (left : ℤ) (width : ℕ) → KeptIf (load_cell k w cacheid srcid index r sp left width)
    unfolding load_cell
    cell_keeps cacheid srcid index r sp left width =
        after_step _ (look w k cacheid) _ (λ cache _.
        after_step _ (font_of w k cacheid) _ (λ font _.
        after_step _ (look w k srcid) _ (λ src _.
        after_step _ (with_cell font index (record { r = r; left = left; width = width })) _ (λ loaded _.
        after_step _ (refuse_if (is_turned r || not (is_inside r (at_number w cache).r)) 9) _ (λ _ _. all)))))

    string_keeps : (writing : Writing) (background : Option (ℕ × Point)) → KeptIf (write_string k w writing background)
    unfolding write_string
    string_keeps writing background = after_step _ (string_drawings k w writing background) _ (λ drawings _. all)

    -- ---- each message

    act_keeps : (m : Message) (rest : List ℕ) → KeptIf (act k w m rest)
    unfolding act
    act_keeps (LowB id screenid refresh chan repl r clipr color) rest = allocate_keeps id screenid refresh chan (flag repl) r clipr color
    act_keeps (UpA id imageid fillid public) rest = make_screen_keeps id imageid fillid (flag public)
    act_keeps (LowC dstid repl clipr) rest = set_clip_keeps dstid (flag repl) clipr
    act_keeps (LowD dstid srcid maskid dstr srcp maskp) rest = draw_keeps dstid srcid maskid dstr srcp maskp
    act_keeps (UpD debug) rest = all
    act_keeps (LowF id) rest = free_image_keeps id
    act_keeps (UpF id) rest = free_screen_keeps id
    act_keeps (LowI id n ascent) rest = font_keeps id n ascent
    act_keeps (LowL cacheid srcid index r sp left width) rest = cell_keeps cacheid srcid index r sp left width
    act_keeps (UpN id tied name) rest = name_image_keeps id (flag tied) name
    act_keeps (LowN id name) rest = use_name_keeps id name
    act_keeps (LowO id min scr) rest = move_keeps id min scr
    act_keeps (UpO op) rest = operator_keeps op
    act_keeps (LowR id r) rest = read_keeps id r
    act_keeps (LowS writing) rest = string_keeps writing None
    act_keeps (UpS id chan) rest = share_screen_keeps id chan
    act_keeps (LowT top ids) rest = restack_keeps (flag top) ids
    act_keeps LowV rest = all
    act_keeps (LowX writing bgid bgp) rest = string_keeps writing (Some (bgid, bgp))
    act_keeps (LowY id r) rest = write_keeps id r rest

    one_keeps : (mark : Option ℕ) (done : ℕ) (bytes : List ℕ) → IfOk (one_message k w mark done bytes) (λ next. Kept next.0)
    unfolding one_message
    one_keeps mark done bytes =
        after_step _ (spelled (first_message bytes)) _ (λ m _.
        after_if _ Kept (act k w m.0 m.1) _ (act_keeps m.0 m.1) (λ next kept.
        after_step _ (refuse_if (is_marked mark done) no_memory) _ (λ _ _. kept)))

  -- ---- a write

  abbrev left_by : (go_on : World → List ℕ → Written) → World → ℕ → Outcome (World × List ℕ) → Written
  left_by go_on w done (Ok next) = go_on next.0 next.1
  left_by go_on w done (Err refusal) = record { world = w; done = done; refusal = Some refusal }

  left_keeps : (go_on : World → List ℕ → Written) (w : World) (done : ℕ) (a : Outcome (World × List ℕ)) → Kept w → ((next : World) (rest : List ℕ) → Kept next → Kept (go_on next rest).world)
      → IfOk a (λ next. Kept next.0) → Kept (left_by go_on w done a).world
  left_keeps go_on w done (Ok next) all further kept = further next.0 next.1 kept
  left_keeps go_on w done (Err refusal) all further kept = all

  within_keeps : (steps : ℕ) (w : World) (mark : Option ℕ) (done : ℕ) (bytes : List ℕ) → Kept w → Kept (written_within steps k w mark done bytes).world
  within_keeps zero w mark done bytes all = all
  within_keeps (suc steps) w mark done [] all = all
  within_keeps (suc steps) w mark done (byte ∷ bytes) all =
      left_keeps (λ next rest. written_within steps k next mark (done + 1) rest) w done (one_message k w mark done (byte ∷ bytes)) all
      (λ next rest kept. within_keeps steps next mark (done + 1) rest kept)
      (one_keeps w all mark done (byte ∷ bytes))

  written_keeps : (w : World) (bytes : List ℕ) (mark : Option ℕ) → Kept w → Kept (written k w bytes mark).world
  unfolding written
  written_keeps w bytes mark all = within_keeps (length bytes) w mark 0 bytes all

module _ (P : Tie → Type 0) (others : (t : Tie) → starts_with ◌==◌ t.name (codes "window.") ≡ false → P t) where
  if_done : {A : Type 0} (Q : A → Type 0) (o : Outcome A) (x : A) → IfOk o Q → o ≡ Ok x → Q x
  if_done Q (Ok y) x holds is = subst Q (same_Ok y x is) holds
  if_done Q (Err n) x holds is = absurd cc

  read_data_keeps : (k : ℕ) (w : World) (most : ℕ) → All P w.book.ties → IfOk (read_data k w most) (λ got. All P got.1.book.ties)
  unfolding read_data
  read_data_keeps k w most all =
      after_step _ (refuse_if (length (client_of w k).pending == 0) 26) _ (λ _ _.
      after_step _ (refuse_if (nat_lt most (length (client_of w k).pending)) 25) _ (λ _ _. all))

  choose_keeps : (k : ℕ) (w : World) (bytes : List ℕ) → All P w.book.ties → IfOk (write_ctl k w bytes) (λ next. All P next.book.ties)
  unfolding write_ctl
  choose_keeps k w bytes all =
      after_step _ (refuse_if (not (length bytes == 4)) 27) _ (λ _ _.
      after_step _ (refuse_if (not (is_known w k (from_le_bytes w32 bytes))) 4) _ (λ _ _. all))

  -- what sessions do
  pub uses_keep : (w next : World) → Uses w next → All P w.book.ties → All P next.book.ties
  uses_keep w _ rests all = all
  uses_keep w _ (writes k bytes mark other) all = written_keeps P others k other w bytes mark all
  uses_keep w _ (reads k most got done) all = if_done (λ (got : List ℕ × World). All P got.1.book.ties) (read_data k w most) got (read_data_keeps k w most all) done
  uses_keep w _ (chooses k bytes next done) all = if_done (λ (next : World). All P next.book.ties) (write_ctl k w bytes) next (choose_keeps k w bytes all) done
  uses_keep w _ (begins k) all = all
  uses_keep w _ (ends k other) all = leave_keeps P w k all
