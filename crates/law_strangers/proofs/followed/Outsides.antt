-- The server and a world of its own answer a session alike that has its window already.
use Rattle.std.proofs.Common.{◌≡◌, ◌∙◌, ℕ, ◌==◌, ◌<◌, Bool, true, false, List, Option, Some, None, is_some, Ok, Err, refl, sym, ap, subst, arith, eqb-true, inl, inr}
use Rattle.std.specs.Prelude.{◌⊎◌, IsTrue, if◌then◌else◌}
use Rattle.std.specs.Option.{option_map, option_map_or, unwrap_or}
use Rattle.std.proofs.lemmas.Bool.{cond_both}
use Rattle.model_text.specs.text.Outcome.{Outcome, ◌>>=◌}
use Rattle.model_text.specs.text.Map.{lookup}
use Rattle.model_text.proofs.map.Ascending.{ascend-with}
use Rattle.model_text.proofs.map.Keys.{eqb-same, not_key}
use Rattle.model_text.proofs.map.Maps.{with-others}
use Rattle.model_rio.specs.window.Heard.{Heard, Noted, Raw, Written, Labelled, MouseRead, ConsoleRead, MouseHeld, ConsctlHeld}
use Rattle.model_rio.specs.window.Pane.{Pane, new_pane, pane_heard}
use Rattle.model_rio.specs.rio.Table.{Table, Window, window_of}
use Rattle.model_rio.specs.rio.Sound.{IsSound, IsSoundWindow}
use Rattle.model_draw.specs.draw.World as draw
use Rattle.model_draw.specs.draw.Act.{written}
use Rattle.model_draw.specs.draw.Files.{read_data, write_ctl}
use Rattle.model_draw.specs.draw.Orders.{picture_of}
use Rattle.model_files.specs.declared.tree.Kind.{Kind}
use Rattle.model_files.specs.declared.tree.Kind.TheVariants as kind
use Rattle.model_files.specs.tree.Node.{Node, row}
use Rattle.model_world.specs.Desktop.{Desktop, pane_told}
use Rattle.model_world.specs.Whole as whole
use Rattle.model_world.specs.Whole.{client, desktop_for, host_by, view_of}
use Rattle.law_shown.proofs.shown.Tests.{find-passes}
use Rattle.law_shown.proofs.fitting.Lists.{each_found, each_of}
use Rattle.law_others.specs.orders.Leading.{IsDrawn, Uses, begins, chooses, ends, reads, writes}
use Rattle.law_others.proofs.orders.Leading.{IsLed, led_beside, led_by, led_itself, led_keeps}
use Rattle.law_others.proofs.orders.Desktops.{choice_is, client_other, connect_drawn, leave_drawn, read_is, written_data_drawn}
use Rattle.law_likeness.specs.agreement.Agreement.{Draws, IsDone, IsPlain, SameOutcome, SameView, TellsOf, is_plain}
use Rattle.model_alone.specs.alone.Lone as alone
use Rattle.model_alone.specs.alone.Lone.{LoneDesktop, heard_alone, is_window, lone_desktop, pane_alone, window_heard, written_alone}
use Rattle.law_strangers.specs.followed.Devices.{AreNamesFree, IsDeviceLike}
use Rattle.law_strangers.specs.followed.Following.{HasConnection, HasWindow, May, SameDesktops, SameWindow, SameWindows, known_size, named_in, named_pane}
use Rattle.law_strangers.proofs.followed.Noted.{heard_here}

-- ---- windows, and window 0

-- no window has the serial 0
pub no_window_zero : (table : Table) → IsSound table → window_of table 0 ≡ None
no_window_zero table ok = by (window_of table 0) refl
  where
    by : (o : Option Window) → window_of table 0 ≡ o → o ≡ None
    by None at = refl
    by (Some v) at =
        let sound = each_found (IsSoundWindow table) (λ (w : Window). w.serial == 0) table.windows v (each_of (IsSoundWindow table) table.windows ok.windows) at in
        let counted = sound.counted in
        let zero = eqb-true v.serial 0 (find-passes (λ (w : Window). w.serial == 0) table.windows v at) in
        absurd (omega (arith, counted, zero))

pub zero_own : (own : Option ℕ) (window : ℕ) → HasWindow own window → (window == 0) ≡ false → own ≡ Some window
zero_own own window (inl zero) some = absurd (let two : true ≡ false = sym (ap (λ (n : ℕ). n == 0) zero) ∙ some in cc)
zero_own own window (inr is) some = is

-- ---- what is done at a window leaves what is known of it

done_rect : (h : Heard) → IsDone h → (o : Option Pane) → option_map (λ p. p.known.r) o ≡ option_map (λ p. p.known.r) (option_map (λ p. pane_heard p h) o)
unfolding pane_heard
done_rect h done None = refl
done_rect (Noted n) done (Some p) = absurd done
done_rect (Raw raw) done (Some p) = refl
done_rect (Written bytes) done (Some p) = refl
done_rect (Labelled bytes) done (Some p) = refl
done_rect MouseRead done (Some p) = refl
done_rect (ConsoleRead count) done (Some p) = refl
done_rect (MouseHeld held) done (Some p) = refl
done_rect (ConsctlHeld held) done (Some p) = refl

done_name : (serial : ℕ) (h : Heard) → IsDone h → (o : Option Pane) → named_pane serial o ≡ named_pane serial (option_map (λ p. pane_heard p h) o)
unfolding pane_heard
done_name serial h done None = refl
done_name serial (Noted n) done (Some p) = absurd done
done_name serial (Raw raw) done (Some p) = refl
done_name serial (Written bytes) done (Some p) = refl
done_name serial (Labelled bytes) done (Some p) = refl
done_name serial MouseRead done (Some p) = refl
done_name serial (ConsoleRead count) done (Some p) = refl
done_name serial (MouseHeld held) done (Some p) = refl
done_name serial (ConsctlHeld held) done (Some p) = refl

-- ---- the session's window in its own world

module _ (t : LoneDesktop) (serial : ℕ) where
  abbrev Alone : Option Pane → Type 0
  Alone o = t.window ≡ option_map (λ p. (serial, p)) o

  pub there_alone : (o : Option Pane) → Alone o → is_window t serial ≡ is_some o
  there_alone o at = ap (λ (w : Option (ℕ × Pane)). option_map_or (λ v. v.0 == serial) w false) at ∙ by o
    where
      by : (o : Option Pane) → option_map_or (λ (v : ℕ × Pane). v.0 == serial) (option_map (λ p. (serial, p)) o) false ≡ is_some o
      by None = refl
      by (Some p) = eqb-same serial

  -- another serial is none of it
  other_alone : (other : ℕ) (o : Option Pane) → Alone o → (serial == other) ≡ false → is_window t other ≡ false
  other_alone other o at apart = ap (λ (w : Option (ℕ × Pane)). option_map_or (λ v. v.0 == other) w false) at ∙ by o
    where
      by : (o : Option Pane) → option_map_or (λ (v : ℕ × Pane). v.0 == other) (option_map (λ p. (serial, p)) o) false ≡ false
      by None = refl
      by (Some p) = apart

  pub pane_is : (o : Option Pane) → Alone o → unwrap_or o new_pane ≡ pane_alone t serial
  pane_is o at = by o ∙ sym (ap (λ (w : Option (ℕ × Pane)). option_map_or (λ v. if v.0 == serial then v.1 else new_pane) w new_pane) at)
    where
      by : (o : Option Pane) → unwrap_or o new_pane ≡ option_map_or (λ (v : ℕ × Pane). if v.0 == serial then v.1 else new_pane) (option_map (λ p. (serial, p)) o) new_pane
      by None = refl
      by (Some p) = rw (eqb-same serial) refl

  heard_is : (h : Heard) (o : Option Pane) → Alone o → (heard_alone t serial h).window ≡ option_map (λ p. (serial, p)) (option_map (λ p. pane_heard p h) o)
  heard_is h o at = by o at (is_window t serial) refl (there_alone o at)
    where
      by : (o : Option Pane) → Alone o → (b : Bool) → is_window t serial ≡ b → b ≡ is_some o → (heard_alone t serial h).window ≡ option_map (λ p. (serial, p)) (option_map (λ p. pane_heard p h) o)
      by None at false is same = rw is at
      by (Some p) at true is same = rw is (ap (λ (w : Option (ℕ × Pane)). window_heard w h) at)
      by None at true is same = absurd cc
      by (Some p) at false is same = absurd cc

heard_device : (t : LoneDesktop) (serial : ℕ) (h : Heard) → (heard_alone t serial h).device ≡ t.device
heard_device t serial h = cond_both (is_window t serial) (record t { window = window_heard t.window h }) t (λ (u : LoneDesktop). u.device ≡ t.device) (λ _. refl) (λ _. refl)

heard_none : (t : LoneDesktop) (serial : ℕ) (h : Heard) → is_window t serial ≡ false → (heard_alone t serial h).window ≡ t.window
heard_none t serial h none = rw none refl

module _ (c : ℕ) (begun : 0 < c) (Like : Option (ℕ × ℕ) → Option (ℕ × List ℕ) → draw.World → draw.World → Type 0) (Named : draw.World → Table → List (ℕ × Pane) → Type 0) (laws : IsDeviceLike c Like) (names : AreNamesFree Named) (own : Option ℕ) where
  abbrev pub Have : Desktop → LoneDesktop → Type 0
  Have s t = SameDesktops Like Named own s t

  pub of_own : (s : Desktop) (t : LoneDesktop) (window : ℕ) → own ≡ Some window → SameWindows s t own → SameWindow s t window
  of_own s t window is same = subst (SameWindows s t) is same

  -- ---- what is seen

  pub lives_same : (s : Desktop) (t : LoneDesktop) (window : ℕ) → Have s t → HasWindow own window → is_some (window_of s.table window) ≡ is_window t window
  lives_same s t window same (inl zero) =
      subst (λ (n : ℕ). is_some (window_of s.table n) ≡ is_window t n) (sym zero) (ap is_some (no_window_zero s.table same.drawn.sound) ∙ sym (by own same.window))
    where
      by : (o : Option ℕ) → SameWindows s t o → is_window t 0 ≡ false
      by None is = ap (λ (w : Option (ℕ × Pane)). option_map_or (λ v. v.0 == 0) w false) is
      by (Some n) is = other_alone t n 0 (lookup s.panes n) is.alone is.counted
  lives_same s t window same (inr is) =
      let w = of_own s t window is same.window in
      rect_some (window_of s.table window) ∙ ap is_some w.rect ∙ pane_some (lookup s.panes window) ∙ sym (there_alone t window (lookup s.panes window) w.alone)
    where
      rect_some : (o : Option Window) → is_some o ≡ is_some (option_map (λ (v : Window). v.r) o)
      rect_some None = refl
      rect_some (Some v) = refl

      pane_some : (o : Option Pane) → is_some (option_map (λ (p : Pane). p.known.r) o) ≡ is_some o
      pane_some None = refl
      pane_some (Some p) = refl

  -- the rio of its window is the root's
  home_root : (s : Desktop) (t : LoneDesktop) (window : ℕ) → Have s t → HasWindow own window → option_map_or (λ (w : Window). w.host) (window_of s.table window) 0 ≡ 0
  home_root s t window same (inl zero) = ap (λ (n : ℕ). option_map_or (λ (w : Window). w.host) (window_of s.table n) 0) zero ∙ ap (λ (o : Option Window). option_map_or (λ (w : Window). w.host) o 0) (no_window_zero s.table same.drawn.sound)
  home_root s t window same (inr is) = by (window_of s.table window) refl
    where
      by : (o : Option Window) → window_of s.table window ≡ o → option_map_or (λ (w : Window). w.host) o 0 ≡ 0
      by None at = refl
      by (Some v) at = (of_own s t window is same.window).root v at

  host_root : (s : Desktop) (t : LoneDesktop) (node : Node) (of : Kind) → Have s t → HasWindow own node.serial → IsTrue (is_plain of) → TellsOf (row of).owner node.serial → host_by s.table node of ≡ 0
  unfolding row
  host_root s t node kind.Wsys same has plain place = absurd cc
  host_root s t node kind.Screen same has plain place = place
  host_root s t node kind.Snarf same has plain place = place
  host_root s t node _ same has plain place = home_root s t node.serial same has

  pub view_same : (s : Desktop) (t : LoneDesktop) → Have s t → (connections : List ℕ) (node : Node) → IsPlain (HasWindow own) HasConnection node
      → SameView ((desktop_for c).view s connections node) (lone_desktop.view t connections node)
  unfolding view_of
  view_same s t same connections node plain = record {
    connections = refl;
    host = host_root s t node node.kind same plain.window plain.kind plain.place;
    live = lives_same s t node.serial same plain.window;
  }

  pub pane_same : (s : Desktop) (t : LoneDesktop) → Have s t → (window : ℕ) → HasWindow own window → (window == 0) ≡ false → (desktop_for c).pane s window ≡ lone_desktop.pane t window
  pane_same s t same window has some = pane_is t window (lookup s.panes window) (of_own s t window (zero_own own window has some) same.window).alone

  pub picture_same : (s : Desktop) (t : LoneDesktop) → Have s t → (connections : List ℕ) (node : Node) → HasWindow own node.serial → ((desktop_for c).view s connections node).live ≡ true
      → (desktop_for c).picture s node.serial ≡ lone_desktop.picture t node.serial
  unfolding view_of
  picture_same s t same connections node (inl zero) live =
      absurd (let two : true ≡ false = sym live ∙ ap (λ (n : ℕ). is_some (window_of s.table n)) zero ∙ ap is_some (no_window_zero s.table same.drawn.sound) in cc)
  picture_same s t same connections node (inr is) live = by (lookup s.panes node.serial) refl
    where
      w : SameWindow s t node.serial
      w = of_own s t node.serial is same.window

      there : is_window t node.serial ≡ true
      there = sym (lives_same s t node.serial same (inr is)) ∙ live

      by : (o : Option Pane) → lookup s.panes node.serial ≡ o → picture_of s.device node.serial ≡ picture_of t.device node.serial
      by None at = absurd (let two : true ≡ false = sym there ∙ there_alone t node.serial (lookup s.panes node.serial) w.alone ∙ ap is_some at in cc)
      by (Some p) at =
          laws.picture (known_size s) node.serial p.known.name s.device t.device
          (subst (λ (o : Option Pane). Like (known_size s) (named_pane node.serial o) s.device t.device) at (subst (λ (o : Option ℕ). Like (known_size s) (named_in s o) s.device t.device) is same.device))

  -- ---- what is done at the window

  pub heard_same : (s : Desktop) (t : LoneDesktop) → Have s t → (window : ℕ) (h : Heard) → IsDone h → HasWindow own window → Have ((desktop_for c).hear s window h) (lone_desktop.hear t window h)
  heard_same s t same window h done has = record {
    drawn = (led_beside s s (record s { panes = panes }) refl refl (led_itself s same.drawn)).drawn;
    order = ascend-with s.panes window _ same.order;
    names = names.heard s.device s.table s.panes window h done same.names;
    window = windows own same.window has;
    device = subst (Like (known_size s) (named_in (record s { panes = panes }) own) s.device) (sym (heard_device t window h)) (subst (λ (w : Option (ℕ × List ℕ)). Like (known_size s) w s.device t.device) (name own same.window has) same.device);
  }
    where
      panes : List (ℕ × Pane)
      panes = pane_told s.panes window h

      -- the window is the one that hears it, or another
      Here : ℕ → Type 0
      Here n = (n ≡ window) ⊎ ((n ≡ window → ⊥) × (window ≡ 0))

      here : (n : ℕ) → (n == 0) ≡ false → HasWindow (Some n) window → Here n
      here n counted (inl zero) = inr ((λ at. absurd (let two : true ≡ false = sym (ap (λ (m : ℕ). m == 0) (at ∙ zero)) ∙ counted in cc)), zero)
      here n counted (inr is) = inl (let at : n ≡ window = cc in at)

      windows : (o : Option ℕ) → SameWindows s t o → HasWindow o window → SameWindows (record s { panes = panes }) (heard_alone t window h) o
      windows None is has = heard_none t window h (ap (λ (w : Option (ℕ × Pane)). option_map_or (λ v. v.0 == window) w false) is) ∙ is
      windows (Some n) is has = by (here n is.counted has)
        where
          by : Here n → SameWindow (record s { panes = panes }) (heard_alone t window h) n
          by (inl at) = subst (λ (k : ℕ). SameWindow (record s { panes = pane_told s.panes k h }) (heard_alone t k h) n) at (record {
            alone = heard_is t n h (lookup s.panes n) is.alone ∙ ap (option_map (λ p. (n, p))) (sym (heard_here s.panes n h));
            rect = is.rect ∙ done_rect h done (lookup s.panes n) ∙ ap (option_map (λ (p : Pane). p.known.r)) (sym (heard_here s.panes n h));
            root = is.root;
            bare = is.bare;
            counted = is.counted;
          })
          by (inr apart) = record {
            alone = heard_none t window h (other_alone t n window (lookup s.panes n) is.alone (not_key n window apart.0)) ∙ is.alone ∙ ap (option_map (λ p. (n, p))) (sym (with-others s.panes window n _ apart.0));
            rect = is.rect ∙ ap (option_map (λ (p : Pane). p.known.r)) (sym (with-others s.panes window n _ apart.0));
            root = is.root;
            bare = is.bare;
            counted = is.counted;
          }

      name : (o : Option ℕ) → SameWindows s t o → HasWindow o window → named_in s o ≡ named_in (record s { panes = panes }) o
      name None is has = refl
      name (Some n) is has = by (here n is.counted has)
        where
          by : Here n → named_pane n (lookup s.panes n) ≡ named_pane n (lookup panes n)
          by (inl at) = done_name n h done (lookup s.panes n) ∙ ap (named_pane n) (sym (heard_here s.panes n h)) ∙ ap (λ (k : ℕ). named_pane n (lookup (pane_told s.panes k h) n)) at
          by (inr apart) = ap (named_pane n) (sym (with-others s.panes window n _ apart.0))

  -- ---- what is done with the device

  windows_beside : (o : Option ℕ) (s : Desktop) (t : LoneDesktop) (d e : draw.World) (cost : ℕ) → SameWindows s t o → SameWindows (record s { device = d; cost = cost }) (alone.with_device t e) o
  windows_beside None s t d e cost is = is
  windows_beside (Some n) s t d e cost is = record { alone = is.alone; rect = is.rect; root = is.root; bare = is.bare; counted = is.counted }

  -- whatever was asked for that
  pub device_same : (s : Desktop) (t : LoneDesktop) (d e : draw.World) (cost : ℕ) → Have s t → IsDrawn (record s { device = d; cost = cost }) → Uses s.device d → Like (known_size s) (named_in s own) d e
      → Have (record s { device = d; cost = cost }) (alone.with_device t e)
  device_same s t d e cost same drawn used like = record {
    drawn = drawn;
    order = same.order;
    names = names.uses s.device d s.table s.panes same.drawn.orderly same.names used;
    window = windows_beside own s t d e cost same.window;
    device = like;
  }

  pub connect_same : (s : Desktop) (t : LoneDesktop) → Have s t → (n : ℕ) → HasConnection n → Have ((desktop_for c).connect s n) (lone_desktop.connect t n)
  connect_same s t same n few =
      device_same s t (draw.after_connect s.device (client c n)) (draw.after_connect t.device (client 1 n)) s.cost same (connect_drawn (IsLed s) (led_keeps s) s (client c n) (led_itself s same.drawn)).drawn (begins (client c n))
      (laws.connect (known_size s) (named_in s own) s.device t.device same.device n few)

  pub leave_same : (s : Desktop) (t : LoneDesktop) → Have s t → (n : ℕ) → HasConnection n → Have ((desktop_for c).leave s n) (lone_desktop.leave t n)
  leave_same s t same n few =
      device_same s t (draw.after_leave s.device (client c n)) (draw.after_leave t.device (client 1 n)) _ same (leave_drawn (IsLed s) (led_keeps s) s (client c n) (client_other c n begun) (led_itself s same.drawn)).drawn (ends (client c n) (client_other c n begun))
      (laws.leave (known_size s) (named_in s own) s.device t.device same.device n few)

  pub write_same : (s : Desktop) (t : LoneDesktop) → Have s t → (n : ℕ) (bytes : List ℕ) (mark told : Option ℕ) → HasConnection n → May c own s (Draws n bytes mark told)
      → Have ((desktop_for c).write_data s n bytes mark).0 (lone_desktop.write_data t n bytes told).0 × (((desktop_for c).write_data s n bytes mark).1 ≡ (lone_desktop.write_data t n bytes told).1)
  unfolding whole.written_data
  write_same s t same n bytes mark told few may =
      let after = written (client c n) s.device bytes mark in
      let law = laws.write (known_size s) (named_in s own) s.device t.device same.device n bytes mark few may.0 in
      let next : Desktop = ((desktop_for c).write_data s n bytes mark).0 in
      let drawn : IsDrawn next = (written_data_drawn (IsLed s) (led_keeps s) (client c n) s bytes mark (client_other c n begun) (led_itself s same.drawn)).drawn in
      subst (λ (m : Option ℕ). Have next (alone.with_device t (written_alone (client 1 n) t.device bytes m).0) × (after.refusal ≡ (written_alone (client 1 n) t.device bytes m).1)) (sym may.1)
      (device_same s t after.world _ next.cost same drawn (writes (client c n) bytes mark (client_other c n begun)) law.0, law.1)

  pub read_same : (s : Desktop) (t : LoneDesktop) → Have s t → (n most : ℕ) → HasConnection n
      → SameOutcome (λ (a : List ℕ × Desktop) (b : List ℕ × LoneDesktop). (a.0 ≡ b.0) × Have a.1 b.1 × (a.1.notes ≡ s.notes)) ((desktop_for c).read_data s n most) (lone_desktop.read_data t n most)
  unfolding whole.data_read
  read_same s t same n most few = by (read_data (client c n) s.device most) refl (read_data (client 1 n) t.device most) (laws.read (known_size s) (named_in s own) s.device t.device same.device n most few)
    where
      by : (x : Outcome (List ℕ × draw.World)) → read_data (client c n) s.device most ≡ x → (y : Outcome (List ℕ × draw.World)) → SameOutcome (λ (a b : List ℕ × draw.World). (a.0 ≡ b.0) × Like (known_size s) (named_in s own) a.1 b.1) x y
          → SameOutcome (λ (a : List ℕ × Desktop) (b : List ℕ × LoneDesktop). (a.0 ≡ b.0) × Have a.1 b.1 × (a.1.notes ≡ s.notes)) (x >>= λ got. Ok (got.0, whole.with_device s got.1)) (y >>= λ got. Ok (got.0, alone.with_device t got.1))
      by (Ok got) at (Ok given) law = (law.0, device_same s t got.1 given.1 s.cost same (drawn got at) (reads (client c n) most got at) law.1, refl)
        where
          drawn : (got : List ℕ × draw.World) → read_data (client c n) s.device most ≡ Ok got → IsDrawn (whole.with_device s got.1)
          drawn got at = (led_by s s got.1 s.cost (led_itself s same.drawn) (reads (client c n) most got at) (read_is (client c n) s.device most got same.drawn.orderly at)).drawn
      by (Err a) at (Err b) law = law
      by (Ok got) at (Err b) law = absurd law
      by (Err a) at (Ok given) law = absurd law

  pub choose_same : (s : Desktop) (t : LoneDesktop) → Have s t → (n : ℕ) (bytes : List ℕ) → HasConnection n
      → SameOutcome (λ (a : Desktop) (b : LoneDesktop). Have a b × (a.notes ≡ s.notes)) ((desktop_for c).write_ctl s n bytes) (lone_desktop.write_ctl t n bytes)
  unfolding whole.ctl_written
  choose_same s t same n bytes few = by (write_ctl (client c n) s.device bytes) refl (write_ctl (client 1 n) t.device bytes) (laws.choose (known_size s) (named_in s own) s.device t.device same.device n bytes few)
    where
      by : (x : Outcome draw.World) → write_ctl (client c n) s.device bytes ≡ x → (y : Outcome draw.World) → SameOutcome (Like (known_size s) (named_in s own)) x y
          → SameOutcome (λ (a : Desktop) (b : LoneDesktop). Have a b × (a.notes ≡ s.notes)) (x >>= λ d. Ok (whole.with_device s d)) (y >>= λ d. Ok (alone.with_device t d))
      by (Ok d) at (Ok e) law =
          (device_same s t d e s.cost same (led_by s s d s.cost (led_itself s same.drawn) (chooses (client c n) bytes d at) (choice_is (client c n) s.device bytes d same.drawn.orderly at)).drawn (chooses (client c n) bytes d at) law, refl)
      by (Err a) at (Err b) law = law
      by (Ok d) at (Err b) law = absurd law
      by (Err a) at (Ok e) law = absurd law
