-- Where an event opens a menu, its window shows the bands after the write of them.
use Rattle.std.proofs.Common.{◌≡◌, ◌∙◌, ◌<◌, ◌+◌, ◌*◌, ◌^◌, ℕ, pos, ◌+ℤ◌, true, false, List, [], ◌∷◌, ◌++◌, length, Option, Some, None, refl, sym, ap, subst, arith}
use Rattle.std.specs.Prelude.{IsSomeAnd, slice_index}
use Rattle.std.specs.Option.{option_and_then}
use Rattle.r9_geom.specs.declared.Point.{Point}
use Rattle.r9_geom.specs.declared.Rect.{Rect}
use Rattle.r9_geom.specs.Geometry.{holds, natural}
use Rattle.r9_event.specs.declared.event.rio.Order.TheVariants.{Make}
use Rattle.model_files.specs.wire.Message.{Rwrite}
use Rattle.model_files.specs.declared.wctl.Choice.TheVariants as choice
use Rattle.model_files.specs.wctl.Rectangle.{applied, is_window}
use Rattle.model_pixel.specs.Channels.{colour_of, pack}
use Rattle.model_forest.specs.View.{view}
use Rattle.model_files.specs.declared.mouse.Mouse.{Mouse}
use Rattle.model_draw.specs.draw.World as draw
use Rattle.model_draw.specs.draw.World.{next_image}
use Rattle.model_draw.specs.draw.Orders.{carried_out, image_shown, is_window_rect, ordered}
use Rattle.model_rio.specs.rio.Table.{Table, found, name_by, numbered}
use Rattle.law_shown.proofs.fitting.Rects.{applied_rect}
use Rattle.model_client.specs.declared.desk.Act.TheVariants.{New}
use Rattle.model_client.specs.declared.desk.Ask.{Ask}
use Rattle.model_client.specs.declared.desk.Mode.{Mode}
use Rattle.model_client.specs.declared.desk.Mode.TheVariants.{Menu}
use Rattle.model_client.specs.declared.desk.Pane.{Pane}
use Rattle.model_client.specs.desk.Table.{Desk}
use Rattle.model_client.specs.desk.Asked.{ask, asked, menu_rect, spot}
use Rattle.model_client.specs.desk.Pilot.{after, written}
use Rattle.model_world.specs.World.{World}
use Rattle.model_world.specs.Replay.{step}
use Rattle.model_world.specs.Whole.{with_device}
use Rattle.law_text.specs.client.Pointing.{paint, pointer}
use Rattle.model_clients.specs.client.Saying.{says}
use Rattle.law_text.specs.client.Saying.{AreAnswered, answered, drawn, world_left}
use Rattle.law_text.proofs.client.Pointing.{painted}
use Rattle.law_text.proofs.client.Saying.{all_said, nothing_said, stays, then_said}
use Rattle.model_clients.specs.page.Text.{rgb24}
use Rattle.law_desk.specs.bands.Bands.{bands}
use Rattle.model_clients.specs.piloted.Following.{pane_by}
use Rattle.law_desk.specs.piloted.Following.{Follows, IsDeskIn, IsEvent}
use Rattle.model_clients.specs.piloted.History.{ShowsBands, ShowsMenu, band_rect, colours}
use Rattle.law_desk.proofs.piloted.Ordered.{found_here}
use Rattle.law_desk.specs.ready.Ready.{IsAble, IsReady}
use Rattle.law_desk.proofs.ready.Kept.{on_display, ready_after}
use Rattle.law_desk.proofs.ready.Places as places
use Rattle.law_desk.specs.steered.Steered.{messages, replies_to}
use Rattle.law_menus.specs.inked.Inked.{IsInked, connection}
use Rattle.law_menus.specs.inked.Carried.{IsCarried}
use Rattle.law_menus.proofs.inked.Kept.{inked_after}
use Rattle.law_menus.specs.banded.Banded.{HasSheet, band_box, blank, menu_box}
use Rattle.law_menus.proofs.banded.Opened.{window_opened}
use Rattle.law_menus.proofs.banded.Written.{IsBandedAll, all_written}

-- a window of rio's is one that the draw device may have
given_is : (r : Rect) → is_window r ≡ true → applied false (choice.R r ∷ []) r ≡ Some r
unfolding applied
given_is r fits = rw fits refl

may_stand : (r : Rect) → is_window r ≡ true → is_window_rect r ≡ true
may_stand r fits = applied_rect false (choice.R r ∷ []) r r (given_is r fits)

-- the window with a number that is its serial
number_is : (o : Option ℕ) (n : ℕ) → option_and_then (λ serial. Some serial) o ≡ Some n → o ≡ Some n
number_is None n is = absurd cc
number_is (Some m) n is = is

numbered_here : (d : Desk) (table : Table) (n : ℕ) (pane : Pane) → Follows d table → pane_by n d.visible ≡ Some pane → numbered table 0 n ≡ Some n
unfolding found
numbered_here d table n pane is e = number_is (numbered table 0 n) n (found_here d table n pane is e)

module _ (k : ℕ) (d : Desk) (e : Mouse) (world : World) (at : IsDeskIn d world) (ready : IsReady k d) (event : IsEvent e) (early : k < 10 ^ 8) (inked : IsInked world.desktop.device world.desktop.table)
    (c : IsCarried d e world) (asks : asked d e ≡ ask (New (menu_rect (spot e))) (Menu (spot e) d.next)) where
  abbrev x : ℕ
  x = event.left

  abbrev y : ℕ
  y = event.top

  rect_is : menu_rect (spot e) ≡ menu_box x y
  rect_is = λ i. record { min = record { x = event.x i; y = event.y i }; max = record { x = event.x i +ℤ pos 48; y = event.y i +ℤ pos 88 } }

  may : is_window_rect (menu_box x y) ≡ true
  may = subst (λ (r : Rect). is_window_rect r ≡ true) rect_is (may_stand (menu_rect (spot e)) (places.window_box (menu_rect (spot e)) (places.menu_box (spot e) (on_display e event))))

  now_inked : IsInked c.left.desktop.device c.left.desktop.table
  now_inked = inked_after d e world c inked

  -- the window's number is small
  few : d.next < 10 ^ 9
  few = let given = ready.few in omega (arith, given, early)

  device_is : c.left.desktop.device ≡ ordered world.desktop.device (Make d.next 0 (menu_box x y) (name_by (d.next ∷ []) 1) false 1)
  device_is =
      c.device ∙ ap (carried_out world.desktop.device) (c.made (menu_rect (spot e)) (ap (λ (a : Ask). a.act) asks))
      ∙ ap (λ (r : Rect). ordered world.desktop.device (Make d.next 0 r (name_by (d.next ∷ []) 1) false 1)) rect_is

  sheet : HasSheet c.left.desktop.device d.next (next_image world.desktop.device) (menu_box x y) (blank (menu_box x y))
  sheet = subst (λ (device : draw.World). HasSheet device d.next (next_image world.desktop.device) (menu_box x y) (blank (menu_box x y))) (sym device_is)
      (subst (λ (n : ℕ). HasSheet (ordered world.desktop.device (Make n 0 (menu_box x y) (name_by (n ∷ []) 1) false 1)) n (next_image world.desktop.device) (menu_box x y) (blank (menu_box x y))) at.follows.given
      (window_opened world.desktop.device world.desktop.table inked (let given = at.follows.given in omega (arith, given, few)) (menu_box x y) may))

  w : IsBandedAll c.left.desktop.device c.left.desktop.table d.next x y
  w = all_written c.left.desktop.device c.left.desktop.table now_inked d.next (next_image world.desktop.device) x y sheet event.wide event.high few

  abbrev pub bytes : List ℕ
  bytes = bands d.next (natural e.x) (natural e.y)

  bytes_are : bytes ≡ bands d.next x y
  bytes_are = ap (λ (n : ℕ). bands d.next n (natural e.y)) (ap natural event.x) ∙ ap (λ (n : ℕ). bands d.next x n) (ap natural event.y)

  -- the world with the bands
  abbrev end : World
  end = world_left c.left (pointer, with_device c.left.desktop w.after)

  turn : step c.left (says (paint bytes)) ≡ answered c.left (pointer, drawn connection c.left.desktop w.after bytes) (Rwrite 1 (length bytes))
  turn = subst (λ (bs : List ℕ). step c.left (says (paint bs)) ≡ answered c.left (pointer, drawn connection c.left.desktop w.after bs) (Rwrite 1 (length bs))) (sym bytes_are)
      (painted c.left (bands d.next x y) w.after c.at.alone w.leads w.short)

  mode_is : (after d e).mode ≡ Menu (spot e) d.next
  unfolding after
  mode_is = ap (λ (a : Ask). a.mode) asks

  -- the window is there
  window_there : numbered end.desktop.table 0 d.next ≡ Some d.next
  window_there =
      let able : IsAble (Menu (spot e) d.next) (after d e).visible = subst (λ (mode : Mode). IsAble mode (after d e).visible) mode_is (ready_after k d e ready event).able in
      numbered_here (after d e) end.desktop.table d.next (record { number = d.next; r = menu_rect (spot e) }) c.at.follows able.0

  band_is : (item : ℕ) → band_rect (spot e) item ≡ band_box x y item
  band_is item =
      let top : y + (4 + 16 * item) ≡ y + 4 + 16 * item = omega arith in
      let bottom : y + (20 + 16 * item) ≡ y + 20 + 16 * item = omega arith in
      (λ i. record { min = record { x = event.x i +ℤ pos 4; y = event.y i +ℤ pos (4 + 16 * item) }; max = record { x = event.x i +ℤ pos 44; y = event.y i +ℤ pos (20 + 16 * item) } })
      ∙ (λ i. record { min = record { x = pos (x + 4); y = pos (top i) }; max = record { x = pos (x + 44); y = pos (bottom i) } })

  shows_bands : ShowsBands (spot e) d.next end
  shows_bands = subst (λ (o : Option ℕ). IsSomeAnd o (λ window. (item : ℕ) (p : Point) → item < 5 → holds (band_rect (spot e) item) p ≡ true
      → view end.desktop.device.images (image_shown end.desktop.device window) p ≡ pack rgb24 (colour_of (slice_index colours item)))) (sym window_there)
      (λ item p small held. w.viewed item p small (subst (λ (r : Rect). holds r p ≡ true) (band_is item) held))

  -- the texts and the bands are answered, and the window shows them
  pub record IsMenuOpened : Type 0 where
    pub left : World
    pub answered : AreAnswered world (messages (written d e) ++ paint bytes ∷ []) left (replies_to (written d e) ++ Rwrite 1 (length bytes) ∷ [])
    pub placed : IsDeskIn (after d e) left
    pub drawn : IsInked left.desktop.device left.desktop.table
    pub menu : ShowsMenu (after d e).mode left

  pub menu_opened : IsMenuOpened
  menu_opened = record {
    left = end;
    answered = all_said world c.left end (messages (written d e)) (paint bytes ∷ []) (replies_to (written d e)) (Rwrite 1 (length bytes) ∷ []) c.answered
        (then_said c.left end (paint bytes) [] (pointer, drawn connection c.left.desktop w.after bytes) (Rwrite 1 (length bytes)) [] turn (nothing_said end));
    placed = record { alone = stays c.left (pointer, with_device c.left.desktop w.after) refl refl refl; follows = c.at.follows };
    drawn = w.inked;
    menu = subst (λ (mode : Mode). ShowsMenu mode end) (sym mode_is) shows_bands;
  }
