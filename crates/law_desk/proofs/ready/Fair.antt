-- What a desk asks for can be done, and leaves a table on which what its next mode names is there.
use Rattle.std.proofs.Common.{◌≡◌, ◌<◌, ◌≤◌, ◌+◌, ℕ, ◌==◌, ◌&&◌, Bool, true, false, cond, not, List, [], ◌∷◌, length, get_or, zero, suc, Option, Some, None, IfSome, refl, sym, ap, subst, arith, ltb-true}
use Rattle.std.specs.Prelude.{nat_lt, ◌/◌, pos, ◌-ℤ◌, ℤ}
use Rattle.std.specs.Option.{option_map_or, unwrap_or}
use Rattle.std.specs.List.{slice_get}
use Rattle.std.proofs.lemmas.Bool.{cond_both}
use Rattle.std.proofs.lemmas.List.{length-map}
use Rattle.std.proofs.lemmas.Option.{unwrap_or-slice_get}
use Rattle.r9_geom.specs.declared.Point.{Point}
use Rattle.r9_geom.specs.declared.Rect.{Rect}
use Rattle.r9_geom.specs.Geometry.{distance, holds, shifted}
use Rattle.model_files.specs.wctl.Rectangle.{is_window}
use Rattle.model_files.specs.declared.mouse.Mouse.{Mouse}
use Rattle.law_shown.proofs.shown.Tests.{find-passes, same, split}
use Rattle.law_shown.proofs.fitting.Lists.{Each}
use Rattle.model_client.specs.declared.desk.Act.{Act}
use Rattle.model_client.specs.declared.desk.Act.TheVariants.{Delete, Hide, Move, New, Nothing, Pass, Resize}
use Rattle.model_client.specs.declared.desk.Ask.{Ask}
use Rattle.model_client.specs.declared.desk.Item.{Item}
use Rattle.model_client.specs.declared.desk.Item.TheVariants as item
use Rattle.model_client.specs.declared.desk.Mode.{Mode}
use Rattle.model_client.specs.declared.desk.Mode.TheVariants.{Drag, Drain, Idle, Menu, Pick, Sweep, Sweeping}
use Rattle.model_client.specs.declared.desk.Pane.{Pane}
use Rattle.model_client.specs.declared.desk.Spot.{Spot}
use Rattle.model_client.specs.desk.Table.{Desk, done, pane_at, with_raised, without}
use Rattle.model_client.specs.desk.Asked.{after_drain, ask, asked_in, chosen, chosen_at, is_within, items, menu_rect, picked, raised, spot, swept, swept_to}
use Rattle.model_clients.specs.piloted.Following.{pane_by}
use Rattle.law_desk.specs.piloted.Following.{is_over}
use Rattle.law_desk.specs.ready.Ready.{ArePanes, IsAble, IsOnDisplay, IsThere, awaited}
use Rattle.law_desk.proofs.ready.Lists.{IsOne, one_less, one_of}
use Rattle.law_desk.proofs.ready.Places.{IsBox, IsStep, menu_box, shifted_fits, step_between, swept_box, window_box}

-- ---- what can be done

-- a window may have a rectangle near the display
pub record IsPlace (r : Rect) : Type 0 where
  pub box : IsBox r
  pub fits : is_window r ≡ true

-- a window is dragged so far
pub record IsDragged (panes : List Pane) (pane : Pane) (by : Point) : Type 0 where
  pub here : pane_by pane.number panes ≡ Some pane
  pub across : IsStep by.x
  pub down : IsStep by.y
  pub fits : is_window (shifted pane.r by) ≡ true

-- What is asked for can be done, where the mode and the buttons say that a press goes on or none does.
abbrev pub MayDo : (over : Bool) → Desk → Act → Type 0
MayDo over d Nothing = Unit {0}
MayDo over d (Pass raised) = IfSome raised (λ pane. IsOne d.next d.visible pane)
MayDo over d (New r) = IsPlace r × (length d.visible + length d.hidden < 64)
MayDo over d (Resize window r) = IsThere window d.visible × IsPlace r
MayDo over d (Move pane by) = IsDragged d.visible pane by
MayDo over d (Delete window) = IsThere window d.visible × (over ≡ true)
MayDo over d (Hide pane) = IsOne d.next d.visible pane × (over ≡ true)

abbrev pub is_pass : Act → Bool
is_pass Nothing = false
is_pass (Pass raised) = true
is_pass (New r) = false
is_pass (Resize window r) = false
is_pass (Move pane by) = false
is_pass (Delete window) = false
is_pass (Hide pane) = false

-- it can be done, there is room afterwards, what the next mode names is there, and no press begins or ends but by what goes to the windows
pub record IsFair (over : Bool) (d : Desk) (buttons : ℕ) (a : Ask) : Type 0 where
  pub does : MayDo over d a.act
  pub room : length (done a.act d).visible + length (done a.act d).hidden + awaited a.mode ≤ 64
  pub able : IsAble a.mode (done a.act d).visible
  pub goes_on : is_pass a.act ≡ false → is_over a.mode buttons ≡ over

-- ---- the modes that a menu leads to

record IsChosen (mode : Mode) : Type 0 where
  most : awaited mode ≤ 1
  able : (left : List Pane) → IsAble mode left

idle_chosen : IsChosen Idle
idle_chosen = record { most = omega arith; able = λ _. tt }

pick_chosen : (what : Item) → IsChosen (Pick what)
pick_chosen what = record { most = omega arith; able = λ _. tt }

one_got : (modes : List Mode) (n : ℕ) → Each IsChosen modes → IsChosen (get_or modes n Idle)
one_got [] n each = idle_chosen
one_got (mode ∷ modes) zero each = each.0
one_got (mode ∷ modes) (suc n) each = one_got modes n each.1

item_chosen : (n : ℕ) → IsChosen (unwrap_or (slice_get items n) Idle)
item_chosen n =
    subst IsChosen (sym (unwrap_or-slice_get items n Idle))
    (one_got items n (record { most = omega arith; able = λ _. tt }, (pick_chosen item.Resize, (pick_chosen item.Move, (pick_chosen item.Delete, (pick_chosen item.Hide, tt))))))

is_chosen : (dx dy : ℤ) → IsChosen (chosen_at dx dy)
is_chosen dx dy = cond_both (is_within (pos 4) (pos 43) dx && is_within (pos 4) (pos 83) dy) _ _ IsChosen (λ _. item_chosen (distance (pos 4) dy / 16)) (λ _. idle_chosen)

over_at : (mode : Mode) (n : ℕ) → (n == 0) ≡ true → is_over mode n ≡ true
over_at Idle n free = free
over_at (Menu at window) n free = refl
over_at (Pick what) n free = refl
over_at (Drain sweep) n free = refl
over_at (Sweep window) n free = refl
over_at (Sweeping window from) n free = refl
over_at (Drag pane from) n free = refl

-- ---- each mode

module _ (d : Desk) (e : Mouse) (on : IsOnDisplay (spot e)) (panes : ArePanes d.next d.visible) where
  -- nothing is asked for
  quiet : (over : Bool) (mode : Mode) → length d.visible + length d.hidden + awaited mode ≤ 64 → IsAble mode d.visible → is_over mode e.buttons ≡ over → IsFair over d e.buttons (ask Nothing mode)
  unfolding done
  quiet over mode room able same = record { does = tt; room = room; able = able; goes_on = λ _. same }

  -- ---- in Idle

  raised_one : (b : Bool) → IfSome (cond b (pane_at (spot e) d.visible) None) (λ pane. IsOne d.next d.visible pane)
  raised_one false = tt
  raised_one true = by (pane_at (spot e) d.visible) refl
    where
      by : (o : Option Pane) → pane_at (spot e) d.visible ≡ o → IfSome o (λ pane. IsOne d.next d.visible pane)
      by None is = tt
      by (Some pane) is = one_of d.next (λ p. holds p.r (record { x = (spot e).x; y = (spot e).y })) d.visible pane panes is

  raised_room : (o : Option Pane) → IfSome o (λ pane. IsOne d.next d.visible pane) → length (with_raised o d.visible) ≤ length d.visible
  raised_room None one = omega arith
  raised_room (Some pane) one =
      let there : IsThere pane.number d.visible = rw one.own refl in
      let less = one_less pane.number d.visible there in
      omega (arith, less)

  pub fair_idle : length d.visible + length d.hidden + 0 ≤ 64 → IsFair (d.last == 0) d e.buttons (asked_in Idle d e)
  unfolding done
  fair_idle few =
      cond_both (e.buttons == 4 && d.last == 0) _ _ (IsFair (d.last == 0) d e.buttons)
      (λ press. let free : (d.last == 0) ≡ true = (split (e.buttons == 4) (d.last == 0) press).1 in
      cond_both (nat_lt (length d.visible + length d.hidden) 64) _ _ (IsFair (d.last == 0) d e.buttons)
      (λ room. let less = ltb-true (length d.visible + length d.hidden) 64 room in
      record {
        does = (record { box = menu_box (spot e) on; fits = window_box (menu_rect (spot e)) (menu_box (spot e) on) }, less);
        room = omega (arith, less);
        able = (ap (λ (b : Bool). cond b (Some (record { number = d.next; r = menu_rect (spot e) })) (pane_by d.next d.visible)) (same d.next), on);
        goes_on = λ _. sym free;
      })
      (λ _. quiet (d.last == 0) (Drain None) few tt (sym free)))
      (λ _. let one = raised_one (not (e.buttons == 0) && d.last == 0) in
      let most = raised_room (raised d e) one in
      record { does = one; room = omega (arith, most, few); able = tt; goes_on = λ is. absurd (let both : true ≡ false = is in cc both) })

  -- ---- in a menu

  there : (window : ℕ) (pane : Pane) → pane_by window d.visible ≡ Some pane → IsThere window d.visible
  there window pane is = rw is refl

  pub fair_menu : (at : Spot) (window : ℕ) → length d.visible + length d.hidden + 0 ≤ 64 → IsAble (Menu at window) d.visible → IsFair true d e.buttons (asked_in (Menu at window) d e)
  unfolding done
  fair_menu at window few able =
      cond_both (e.buttons == 0) _ _ (IsFair true d e.buttons)
      (λ free. let here = there window (record { number = window; r = menu_rect at }) able.0 in
      let less = one_less window d.visible here in
      let next = is_chosen ((spot e).x -ℤ at.x) ((spot e).y -ℤ at.y) in
      let most = next.most in
      record { does = (here, refl); room = omega (arith, few, less, most); able = next.able (without window d.visible); goes_on = λ _. over_at (chosen at (spot e)) e.buttons free })
      (λ _. quiet true (Menu at window) few able refl)

  -- ---- where an item waits for a window

  fair_picked : (what : Item) (pane : Pane) → length d.visible + length d.hidden + 0 ≤ 64 → pane_at (spot e) d.visible ≡ Some pane → IsFair true d e.buttons (picked what (spot e) pane)
  unfolding done
  fair_picked item.Resize pane few is = quiet true (Drain (Some pane.number)) few (there pane.number pane (one_of d.next _ d.visible pane panes is).own) refl
  fair_picked item.Move pane few is = quiet true (Drag pane (spot e)) few ((one_of d.next _ d.visible pane panes is).own, find-passes _ d.visible pane is, on) refl
  fair_picked item.Delete pane few is =
      let here = there pane.number pane (one_of d.next _ d.visible pane panes is).own in
      let less = one_less pane.number d.visible here in
      record { does = (here, refl); room = omega (arith, few, less); able = tt; goes_on = λ _. refl }
  fair_picked item.Hide pane few is =
      let one = one_of d.next _ d.visible pane panes is in
      let less = one_less pane.number d.visible (there pane.number pane one.own) in
      record { does = (one, refl); room = omega (arith, few, less); able = tt; goes_on = λ _. refl }

  pub fair_pick : (what : Item) → length d.visible + length d.hidden + 0 ≤ 64 → IsFair true d e.buttons (asked_in (Pick what) d e)
  fair_pick what few =
      cond_both (e.buttons == 0) _ _ (IsFair true d e.buttons) (λ _. quiet true (Pick what) few tt refl) (λ _. by (pane_at (spot e) d.visible) refl)
    where
      by : (o : Option Pane) → pane_at (spot e) d.visible ≡ o → IsFair true d e.buttons (option_map_or (picked what (spot e)) o (ask Nothing (Drain None)))
      by None is = quiet true (Drain None) few tt refl
      by (Some pane) is = fair_picked what pane few is

  -- ---- a sweep

  drained : (sweep : Option ℕ) → length d.visible + length d.hidden + 0 ≤ 64 → IsAble (Drain sweep) d.visible → (e.buttons == 0) ≡ true → IsFair true d e.buttons (ask Nothing (after_drain sweep))
  drained None few able free = quiet true Idle few tt free
  drained (Some window) few able free = quiet true (Sweep (Some window)) few able refl

  pub fair_drain : (sweep : Option ℕ) → length d.visible + length d.hidden + 0 ≤ 64 → IsAble (Drain sweep) d.visible → IsFair true d e.buttons (asked_in (Drain sweep) d e)
  fair_drain sweep few able = cond_both (e.buttons == 0) _ _ (λ mode. IsFair true d e.buttons (ask Nothing mode)) (λ free. drained sweep few able free) (λ _. quiet true (Drain sweep) few able refl)

  pub fair_sweep : (window : Option ℕ) → length d.visible + length d.hidden + awaited (Sweep window) ≤ 64 → IsAble (Sweep window) d.visible → IsFair true d e.buttons (asked_in (Sweep window) d e)
  fair_sweep window few able =
      cond_both (e.buttons == 0) _ _ (λ mode. IsFair true d e.buttons (ask Nothing mode)) (λ _. quiet true (Sweep window) few able refl) (λ _. quiet true (Sweeping window (spot e)) few (able, on) refl)

  fair_swept : (window : Option ℕ) (r : Rect) → length d.visible + length d.hidden + awaited (Sweep window) ≤ 64 → IsAble (Sweep window) d.visible → IsBox r → (e.buttons == 0) ≡ true → IsFair true d e.buttons (ask (swept_to window r) Idle)
  unfolding done
  fair_swept None r few able box free =
      record { does = (record { box = box; fits = window_box r box }, omega (arith, few)); room = omega (arith, few); able = tt; goes_on = λ _. free }
  fair_swept (Some window) r few able box free =
      let long = length-map d.visible (λ (pane : Pane). cond (pane.number == window) (record { number = pane.number; r = r }) pane) in
      record { does = (able, record { box = box; fits = window_box r box }); room = omega (arith, few, long); able = tt; goes_on = λ _. free }

  pub fair_sweeping : (window : Option ℕ) (from : Spot) → length d.visible + length d.hidden + awaited (Sweep window) ≤ 64 → IsAble (Sweeping window from) d.visible → IsFair true d e.buttons (asked_in (Sweeping window from) d e)
  fair_sweeping window from few able =
      cond_both (e.buttons == 0) _ _ (IsFair true d e.buttons) (λ free. by free (swept from (spot e)) refl) (λ _. quiet true (Sweeping window from) few able refl)
    where
      by : (e.buttons == 0) ≡ true → (o : Option Rect) → swept from (spot e) ≡ o → IsFair true d e.buttons (ask (option_map_or (swept_to window) o Nothing) Idle)
      by free None is = quiet true Idle (omega (arith, few)) tt free
      by free (Some r) is = fair_swept window r few able.0 (swept_box from (spot e) r able.1 on is) free

  -- ---- a drag

  pub fair_drag : (pane : Pane) (from : Spot) → length d.visible + length d.hidden + 0 ≤ 64 → IsAble (Drag pane from) d.visible → IsFair true d e.buttons (asked_in (Drag pane from) d e)
  unfolding done
  fair_drag pane from few able =
      cond_both (e.buttons == 0) _ _ (IsFair true d e.buttons)
      (λ free. let by : Point = record { x = e.x -ℤ from.x; y = e.y -ℤ from.y } in
      let across = step_between 640 from.x e.x (omega arith) able.2.x on.x in
      let down = step_between 480 from.y e.y (omega arith) able.2.y on.y in
      let long = length-map d.visible (λ (p : Pane). cond (p.number == pane.number) (record { number = p.number; r = shifted pane.r by }) p) in
      let fits = (one_of d.next _ d.visible pane panes able.0).fits in
      record {
        does = record { here = able.0; across = across; down = down; fits = shifted_fits pane.r from by fits able.1 able.2 across down };
        room = omega (arith, few, long);
        able = tt;
        goes_on = λ _. free;
      })
      (λ _. quiet true (Drag pane from) few able refl)

  -- ---- in each mode

  pub fair : (mode : Mode) → length d.visible + length d.hidden + awaited mode ≤ 64 → IsAble mode d.visible → IsFair (is_over mode d.last) d e.buttons (asked_in mode d e)
  fair Idle few able = fair_idle few
  fair (Menu at window) few able = fair_menu at window few able
  fair (Pick what) few able = fair_pick what few
  fair (Drain sweep) few able = fair_drain sweep few able
  fair (Sweep window) few able = fair_sweep window few able
  fair (Sweeping window from) few able = fair_sweeping window from few able
  fair (Drag pane from) few able = fair_drag pane from few able
