-- What draw devices keep for a session to be isolated: the laws of a relation between the server's device and that of a world of its
-- own, under which both are the same to the session (draw(3)).
use Rattle.std.specs.Prelude.{◌≡◌, ◌<◌, ◌≤◌, ◌^◌, ◌==◌, ◌&&◌, ℕ, Bool, true, false, All, is_none, codes, List, [], ◌∷◌, Option, Some, None, Ok, if◌then◌else◌}
use Rattle.std.specs.List.{fold, list_any, starts_with}
use Rattle.std.specs.Map.{keys_of}
use Rattle.std.specs.Str.{bytes_eq}
use Rattle.std.specs.Option.{option_map}
use Rattle.r9_geom.specs.declared.Rect.{Rect}
use Rattle.r9_event.specs.declared.event.event.Opening.{Opening}
use Rattle.r9_event.specs.declared.event.rio.Order.{Order}
use Rattle.r9_event.specs.declared.event.rio.Order.TheVariants as order
use Rattle.model_draw_parts.specs.dmsg.Message.{Message, UpA, UpN, LowN, UpS}
use Rattle.model_text.specs.text.Map.{lookup}
use Rattle.model_text.specs.map.Ascending.{Ascend}
use Rattle.model_rio.specs.window.Heard.{Heard}
use Rattle.model_rio.specs.window.Pane.{Pane}
use Rattle.model_draw_parts.specs.images.Book.{Book}
use Rattle.model_draw_parts.specs.images.Release.{is_tied_by}
use Rattle.model_draw.specs.draw.World as draw
use Rattle.model_draw.specs.draw.World.{World, after_connect, after_leave, client_of, started}
use Rattle.model_draw.specs.draw.Making.{flag}
use Rattle.model_draw.specs.draw.Act.{no_memory, written}
use Rattle.model_draw.specs.draw.Files.{read_ctl, read_data, write_ctl}
use Rattle.model_draw.specs.draw.Orders.{carried_out, fits, manager, ordered, picture_of, with_root_rio}
use Rattle.model_rio.specs.rio.Table.{Table, opened}
use Rattle.model_rio.specs.rio.Act.{Act}
use Rattle.model_rio.specs.rio.Step.{Step}
use Rattle.model_rio.specs.rio.Rio.{rio}
use Rattle.model_rio.specs.rio.Sound.{IsSound}
use Rattle.law_shown.specs.shown.Showing.{IsOrderly}
use Rattle.law_shown.specs.fitting.Fitting.{AllFit}
use Rattle.law_others.specs.orders.Leading.{Uses}
use Rattle.model_world.specs.Desktop.{pane_told, panes_told}
use Rattle.model_world.specs.Whole.{client}
use Rattle.model_world.specs.World.{display_of}
use Rattle.law_likeness.specs.agreement.Agreement.{IsDone, SameOutcome}
use Rattle.model_alone.specs.alone.Uses.{images_named, looked_at}
use Rattle.model_alone.specs.alone.Lone.{lone_desktop, started_alone, written_alone}
use Rattle.law_others.specs.told.Telling.{IsBeside}
use Rattle.law_others.specs.sized.Sizes.{IsForSize, sides_of}

-- `window`: the serial and the name of the session's window, where it has one. `size`: the width and the height of the display, as long
-- as it has had no others.

-- ---- messages

-- a message shares nothing, and looks up no name but that of the session's window
abbrev pub SharesNothing : (window : Option (ℕ × List ℕ)) → Message → Type 0
SharesNothing window (UpA id imageid fillid public) = flag public ≡ false
SharesNothing window (UpN id tied name) = ⊥
SharesNothing window (LowN id name) = (serial : ℕ) × (window ≡ Some (serial, name))
SharesNothing window (UpS id chan) = ⊥
SharesNothing window _ = Unit {0}

-- and it does not name the display
pub record KeepsWithin (window : Option (ℕ × List ℕ)) (m : Message) : Type 0 where
  pub images : list_any (λ id. id == 0) (images_named m) ≡ false
  pub names : SharesNothing window m

-- a message of another session looks up no name of the session's window
abbrev pub LeavesName : (window : Option (ℕ × List ℕ)) → Message → Type 0
LeavesName window (LowN id name) = (serial : ℕ) → window ≡ Some (serial, name) → ⊥
LeavesName window _ = Unit {0}

-- the mark with which a session is told of its write: where it took effect
abbrev pub told_mark : (mark refusal : Option ℕ) → Option ℕ
told_mark mark None = None
told_mark mark (Some n) = if n == no_memory then mark else None

-- ---- names

-- no image but the window's has the name, and no session may make it
pub record IsFree (book : Book) (serial : ℕ) (name : List ℕ) : Type 0 where
  pub free : All (λ t. bytes_eq t.name name ≡ true → is_tied_by manager serial t ≡ true) book.ties
  pub kept : starts_with ◌==◌ name (codes "window.") ≡ true

-- an order about a window gives it such a name
abbrev pub NamesFree : (window : ℕ) → Book → Order → Type 0
NamesFree window book (order.Make at host r name hide depth) = at ≡ window → IsFree book window name
NamesFree window book (order.Replace at host r name keep hidden) = at ≡ window → IsFree book window name
NamesFree window book _ = Unit {0}

-- and so do orders, one after the other
abbrev pub AllFree : (window : ℕ) → World → List Order → Type 0
AllFree window device [] = Unit {0}
AllFree window device (o ∷ orders) = NamesFree window device.book o × AllFree window (ordered device o) orders

-- the serial of the session's window
abbrev pub serial_in : Option (ℕ × List ℕ) → Option ℕ
serial_in window = option_map (λ w. w.0) window

-- ---- laws

-- The session is session c of the server and session 1 of its own world. Sessions are counted from 1, and connections by numbers
-- below 2^26.
pub record IsDeviceLike (c : ℕ) (Like : Option (ℕ × ℕ) → Option (ℕ × List ℕ) → World → World → Type 0) : Type 0 where
  pub start :
      (opening : Opening)
      → Like (Some (sides_of (display_of opening).r)) None (with_root_rio (started (display_of opening))) (started_alone (display_of opening))
  -- what was known of the display is known no longer
  pub forget : (size : Option (ℕ × ℕ)) (window : Option (ℕ × List ℕ)) (a b : World) → Like size window a b → Like None window a b
  -- the session's own connections
  pub connect :
      (size : Option (ℕ × ℕ)) (window : Option (ℕ × List ℕ)) (a b : World) → Like size window a b → (n : ℕ) → n < 2 ^ 26
      → Like size window (after_connect a (client c n)) (after_connect b (client 1 n))
  pub leave :
      (size : Option (ℕ × ℕ)) (window : Option (ℕ × List ℕ)) (a b : World) → Like size window a b → (n : ℕ) → n < 2 ^ 26
      → Like size window (after_leave a (client c n)) (after_leave b (client 1 n))
  pub write :
      (size : Option (ℕ × ℕ)) (window : Option (ℕ × List ℕ)) (a b : World) → Like size window a b → (n : ℕ) (bytes : List ℕ) (mark : Option ℕ) → n < 2 ^ 26
      → All (KeepsWithin window) (looked_at (client c n) a bytes mark)
      → Like size window (written (client c n) a bytes mark).world (written_alone (client 1 n) b bytes (told_mark mark (written (client c n) a bytes mark).refusal)).0
      × ((written (client c n) a bytes mark).refusal ≡ (written_alone (client 1 n) b bytes (told_mark mark (written (client c n) a bytes mark).refusal)).1)
  pub read :
      (size : Option (ℕ × ℕ)) (window : Option (ℕ × List ℕ)) (a b : World) → Like size window a b → (n most : ℕ) → n < 2 ^ 26
      → SameOutcome (λ x y. (x.0 ≡ y.0) × Like size window x.1 y.1) (read_data (client c n) a most) (read_data (client 1 n) b most)
  pub tell :
      (size : Option (ℕ × ℕ)) (window : Option (ℕ × List ℕ)) (a b : World) → Like size window a b → (n : ℕ) → n < 2 ^ 26
      → (is_none size && ((client_of a (client c n)).described == 0)) ≡ false
      → read_ctl (client c n) a n ≡ lone_desktop.read_ctl (record { device = b; window = None; made = None }) n
  pub choose :
      (size : Option (ℕ × ℕ)) (window : Option (ℕ × List ℕ)) (a b : World) → Like size window a b → (n : ℕ) (bytes : List ℕ) → n < 2 ^ 26
      → SameOutcome (Like size window) (write_ctl (client c n) a bytes) (write_ctl (client 1 n) b bytes)
  -- its window, which stands on the root rio's screen
  pub picture : (size : Option (ℕ × ℕ)) (serial : ℕ) (name : List ℕ) (a b : World) → Like size (Some (serial, name)) a b → picture_of a serial ≡ picture_of b serial
  pub made :
      (size : Option (ℕ × ℕ)) (a b : World) → Like size None a b → (serial depth : ℕ) (name : List ℕ) (r : Rect) (hide : Bool)
      → (serial == 0) ≡ false → fits a (order.Make serial 0 r name hide depth) ≡ true → IsFree a.book serial name
      → Like size (Some (serial, name)) (ordered a (order.Make serial 0 r name hide depth)) (ordered b (order.Make serial 0 r name false depth))
  pub replaced :
      (size : Option (ℕ × ℕ)) (serial : ℕ) (old : List ℕ) (a b : World) → Like size (Some (serial, old)) a b → (name : List ℕ) (r : Rect) (keep hidden : Bool)
      → fits a (order.Replace serial 0 r name keep hidden) ≡ true → IsFree a.book serial name
      → Like size (Some (serial, name)) (ordered a (order.Replace serial 0 r name keep hidden)) (ordered b (order.Replace serial 0 r name keep false))
  pub dropped :
      (size : Option (ℕ × ℕ)) (serial : ℕ) (name : List ℕ) (a b : World) → Like size (Some (serial, name)) a b → fits a (order.Drop serial) ≡ true
      → Like size None (ordered a (order.Drop serial)) (ordered b (order.Drop serial))
  -- what others do: orders that are not about the window's image, and the connections of other sessions
  pub beside :
      (size : Option (ℕ × ℕ)) (window : Option (ℕ × List ℕ)) (a b : World) → Like size window a b → (o : Order) → fits a o ≡ true → IsBeside (serial_in window) o → IsForSize size o
      → Like size window (ordered a o) b
  pub others_connect :
      (size : Option (ℕ × ℕ)) (window : Option (ℕ × List ℕ)) (a b : World) → Like size window a b → (d n : ℕ) → 1 ≤ d → (d ≡ c → ⊥) → n < 2 ^ 26
      → Like size window (after_connect a (client d n)) b
  pub others_leave :
      (size : Option (ℕ × ℕ)) (window : Option (ℕ × List ℕ)) (a b : World) → Like size window a b → (d n : ℕ) → 1 ≤ d → (d ≡ c → ⊥) → n < 2 ^ 26
      → Like size window (after_leave a (client d n)) b
  pub others_write :
      (size : Option (ℕ × ℕ)) (window : Option (ℕ × List ℕ)) (a b : World) → Like size window a b → (d n : ℕ) (bytes : List ℕ) (mark : Option ℕ) → 1 ≤ d → (d ≡ c → ⊥) → n < 2 ^ 26
      → All (LeavesName window) (looked_at (client d n) a bytes mark)
      → Like size window (written (client d n) a bytes mark).world b
  pub others_read :
      (size : Option (ℕ × ℕ)) (window : Option (ℕ × List ℕ)) (a b : World) → Like size window a b → (d n most : ℕ) → 1 ≤ d → (d ≡ c → ⊥) → n < 2 ^ 26
      → (got : List ℕ × World) → read_data (client d n) a most ≡ Ok got → Like size window got.1 b
  pub others_choose :
      (size : Option (ℕ × ℕ)) (window : Option (ℕ × List ℕ)) (a b : World) → Like size window a b → (d n : ℕ) (bytes : List ℕ) → 1 ≤ d → (d ≡ c → ⊥) → n < 2 ^ 26
      → (next : World) → write_ctl (client d n) a bytes ≡ Ok next → Like size window next b

-- What keeps the names of windows free and apart: something that holds of the server's device, its windows and what their files have,
-- from which follows that each order gives a window a name that no other image has and no session may make, and that no two windows
-- have one name.
pub record AreNamesFree (Named : World → Table → List (ℕ × Pane) → Type 0) : Type 0 where
  pub start : (opening : draw.Opening) → Named (with_root_rio (started opening)) (opened opening.r) []
  pub acts :
      (device : World) (table : Table) (panes : List (ℕ × Pane)) (a : Act) (step : Step) → IsSound table → IsOrderly device
      → AllFit device step.orders → Ascend (keys_of panes) → Named device table panes → rio table a ≡ Ok step
      → ((window : ℕ) → AllFree window device step.orders)
      × Named (carried_out device step.orders) step.table (fold panes_told panes step.notes)
  pub uses :
      (device next : World) (table : Table) (panes : List (ℕ × Pane)) → IsOrderly device → Named device table panes → Uses device next
      → Named next table panes
  pub heard :
      (device : World) (table : Table) (panes : List (ℕ × Pane)) (window : ℕ) (h : Heard) → IsDone h → Named device table panes
      → Named device table (pane_told panes window h)
  pub apart :
      (device : World) (table : Table) (panes : List (ℕ × Pane)) (m n : ℕ) (p q : Pane) → Named device table panes
      → lookup panes m ≡ Some p → lookup panes n ≡ Some q → p.known.name ≡ q.known.name → m ≡ n
