-- A session that has its window already is answered alike in the server and in a world of its own.
use Rattle.std.proofs.Common.{◌≡◌, ◌∙◌, ℕ, ◌==◌, ◌<◌, Bool, true, false, List, [], ◌∷◌, fold, length, Option, Some, None, is_some, Ok, Err, refl, sym, ap, subst, arith, inl, inr, eqb-true}
use Rattle.std.specs.Prelude.{◌&&◌, is_none, not, if◌then◌else◌}
use Rattle.std.specs.Option.{option_map}
use Rattle.std.proofs.lemmas.Bool.{cond_both}
use Rattle.std.proofs.lemmas.List.Sums.{fold-append}
use Rattle.std.proofs.lemmas.List.Elements.{filter_map-append}
use Rattle.r9_geom.specs.declared.Rect.{Rect}
use Rattle.r9_event.specs.declared.event.rio.Note.{Note}
use Rattle.model_text.specs.text.Outcome.{Outcome, ◌>>=◌, value_or_refuse}
use Rattle.model_text.specs.text.Map.{lookup}
use Rattle.model_rio.specs.window.Pane.{Pane}
use Rattle.model_files.specs.declared.wctl.Choice.{Choice}
use Rattle.model_files.specs.wctl.Command.{Command, Wctl}
use Rattle.model_files.specs.wctl.Command as wctl
use Rattle.model_files.specs.wctl.Reading.{command_of}
use Rattle.model_files.specs.wctl.Rectangle.{applied}
use Rattle.model_rio.specs.rio.Table.{Table, Window, deepest, is_host, window_of}
use Rattle.model_rio.specs.rio.Act.{Act}
use Rattle.model_rio.specs.rio.Act as act
use Rattle.model_rio.specs.rio.Step.{Step, begun}
use Rattle.model_rio.specs.rio.Moving.{moved, replaced}
use Rattle.model_rio.specs.rio.Rio.{command_to, commanded, moved_by, rio}
use Rattle.model_draw.specs.draw.World as draw
use Rattle.model_draw.specs.draw.World.{client_of}
use Rattle.model_files.specs.tree.Node.{Node}
use Rattle.model_world.specs.Desktop.{Desktop, is_user, stepped, stepped_if, stepped_or, users_of, without_user}
use Rattle.model_world.specs.Whole as whole
use Rattle.model_world.specs.Whole.{client, desktop_for, left_one}
use Rattle.law_shown.proofs.shown.Tests.{find-passes}
use Rattle.law_shown.specs.fitting.Fitting.{IsSpelled}
use Rattle.law_shown.proofs.fitting.Spelled.{command_spelled}
use Rattle.law_others.proofs.orders.Leading.{led_beside, led_itself}
use Rattle.law_likeness.specs.agreement.Agreement.{Alike, SameOutcome}
use Rattle.law_likeness.proofs.agreement.Relations.{check_alike, weaken}
use Rattle.model_alone.specs.alone.Uses.{asks_for_windows}
use Rattle.model_alone.specs.alone.Lone.{LoneDesktop, commanded_alone, lone_desktop, noted_alone, pane_alone, refused_by_rectangle}
use Rattle.law_others.specs.told.Telling.{notes_of}
use Rattle.law_others.specs.sized.Sizes.{sides_of}
use Rattle.law_strangers.specs.followed.Devices.{AreNamesFree, IsDeviceLike}
use Rattle.law_strangers.specs.followed.Following.{HasConnection, HasWindow, May, SameAtFirst, SameDesktops, SameOnceTold, SameWindow, SameWindows, known_size, named_in}
use Rattle.law_strangers.proofs.followed.Noted.{own_note}
use Rattle.law_strangers.proofs.followed.Stepping.{SparesOwn, act_same}
use Rattle.law_strangers.proofs.followed.Commands.{IsOwnCommand, own_command}
use Rattle.law_strangers.proofs.followed.Outsides.{choose_same, connect_same, heard_same, leave_same, no_window_zero, pane_is, pane_same, picture_same, read_same, view_same, write_same}

-- the display's size is known unless it has changed
pub known_told : (s : Desktop) (other : Bool) → (s.sized && other) ≡ false → (is_none (known_size s) && other) ≡ false
known_told s other is = by s.sized (sides_of s.table.r) is
  where
    by : (sized : Bool) (sides : ℕ × ℕ) → (sized && other) ≡ false → (let size : Option (ℕ × ℕ) = if sized then None else Some sides in is_none size && other) ≡ false
    by true sides is = is
    by false sides is = refl

module _ (c : ℕ) (begin : 0 < c) (Like : Option (ℕ × ℕ) → Option (ℕ × List ℕ) → draw.World → draw.World → Type 0) (Named : draw.World → Table → List (ℕ × Pane) → Type 0) (laws : IsDeviceLike c Like) (names : AreNamesFree Named) where
  module _ (own : Option ℕ) where
    abbrev Have : Desktop → LoneDesktop → Type 0
    Have s t = SameDesktops Like Named own s t

    abbrev pub First : Desktop → LoneDesktop → Type 0
    First s t = SameAtFirst Like Named own s t

    abbrev pub Told : Desktop → LoneDesktop → Type 0
    Told s t = SameOnceTold Like Named own s t

    unchanged : (s : Desktop) (t : LoneDesktop) → First s t → Told s t
    unchanged s t is = subst (λ (notes : List (ℕ × Note)). Have s (fold noted_alone t (notes_of own notes))) (sym is.quiet) is.same

    -- ---- acts

    -- an act in a turn, of which some was told already
    pub told_more : (s : Desktop) (t : LoneDesktop) (a : Act) (step : Step) → Told s t → IsSpelled a → SparesOwn c Like Named laws names own s.table a step → rio s.table a ≡ Ok step → Told (stepped s step) t
    unfolding stepped
    told_more s t a step is spelled spares e =
        subst (Have (stepped s step)) (sym (ap (fold noted_alone t) (filter_map-append (own_note own) s.notes step.notes) ∙ fold-append noted_alone t (notes_of own s.notes) (notes_of own step.notes)))
        (act_same c Like Named laws names own s (fold noted_alone t (notes_of own s.notes)) a step is spelled spares e)

    -- who uses windows makes no difference
    users_told : (s : Desktop) (t : LoneDesktop) (users : List (ℕ × List ℕ)) → Told s t → Told (record s { users = users }) t
    users_told s t users is = record {
      drawn = (led_beside s s (record s { users = users }) refl refl (led_itself s is.drawn)).drawn;
      order = is.order;
      names = is.names;
      window = beside own is.window;
      device = is.device;
    }
      where
        u : LoneDesktop
        u = fold noted_alone t (notes_of own s.notes)

        beside : (o : Option ℕ) → SameWindows s u o → SameWindows (record s { users = users }) u o
        beside None is = is
        beside (Some n) is = record { alone = is.alone; rect = is.rect; root = is.root; bare = is.bare; counted = is.counted }

    gone_spares : (table : Table) (window : ℕ) (step : Step) (o : Option ℕ) → SparesOwn c Like Named laws names o table (act.Gone window) step
    gone_spares table window step None = tt
    gone_spares table window step (Some n) = (tt, tt)

    gone_told : (s : Desktop) (t : LoneDesktop) (window : ℕ) → Told s t → Told (stepped_if s (rio s.table (act.Gone window))) t
    gone_told s t window is = by (rio s.table (act.Gone window)) refl
      where
        by : (o : Outcome Step) → rio s.table (act.Gone window) ≡ o → Told (stepped_if s o) t
        by (Ok step) e = told_more s t (act.Gone window) step is tt (gone_spares s.table window step own) e
        by (Err n) e = is

    pub left_one_told : (d : ℕ) (s : Desktop) (t : LoneDesktop) (window : ℕ) → Told s t → Told (left_one d s window) t
    unfolding left_one
    left_one_told d s t window is =
        let left : Desktop = record s { users = without_user s.users window d } in
        let beside : Told left t = users_told s t (without_user s.users window d) is in
        cond_both (not (is_user s.users window d)) s _ (λ (x : Desktop). Told x t) (λ _. is) (λ _.
        cond_both (length (users_of left.users window) == 0) (stepped_if left (rio left.table (act.Gone window))) left (λ (x : Desktop). Told x t) (λ _. gone_told left t window beside) (λ _. beside))

    pub all_left_told : (d : ℕ) (windows : List ℕ) (s : Desktop) (t : LoneDesktop) → Told s t → Told (fold (left_one d) s windows) t
    all_left_told d [] s t is = is
    all_left_told d (window ∷ windows) s t is = all_left_told d windows (left_one d s window) t (left_one_told d s t window is)

    -- ---- commands

    command_spares : (table : Table) (window : ℕ) (what : Wctl) (step : Step) → IsOwnCommand what → (o : Option ℕ) → SparesOwn c Like Named laws names o table (act.Command window what) step
    command_spares table window what step is None = tt
    command_spares table window (wctl.New options hide) step is (Some n) = absurd is
    command_spares table window (wctl.Resize options) step is (Some n) = (tt, tt)
    command_spares table window (wctl.Move options) step is (Some n) = (tt, tt)
    command_spares table window wctl.Top step is (Some n) = (tt, tt)
    command_spares table window wctl.Bottom step is (Some n) = (tt, tt)
    command_spares table window wctl.Hide step is (Some n) = (tt, tt)
    command_spares table window wctl.Unhide step is (Some n) = (tt, tt)
    command_spares table window wctl.Current step is (Some n) = (tt, tt)
    command_spares table window wctl.Delete step is (Some n) = (tt, tt)
    command_spares table window (wctl.Scroll scrolls) step is (Some n) = (tt, tt)
    command_spares table window wctl.Set step is (Some n) = (tt, tt)
    command_spares table window wctl.Host step is (Some n) = absurd is

    -- what a window of the session is asked, which lives
    module _ (s : Desktop) (t : LoneDesktop) (is : First s t) (window : ℕ) (w : Window) (found : window_of s.table window ≡ Some w) (r : w.r ≡ (pane_alone t window).known.r) (bare : is_host s.table window ≡ false) where
      -- an act that is done
      done : (what : Wctl) (out : Step) → IsOwnCommand what → IsSpelled (act.Command window what) → rio s.table (act.Command window what) ≡ Ok out → SameOutcome Told (stepped_or s (rio s.table (act.Command window what))) (Ok t)
      done what out owns spelled e =
          subst (λ (o : Outcome Step). SameOutcome Told (stepped_or s o) (Ok t)) (sym e) (told_more s t (act.Command window what) out (unchanged s t is) spelled (command_spares s.table window what out owns own) e)

      at_once : (what : Wctl) (out : Step) → commanded what w (begun s.table) ≡ Ok out → rio s.table (act.Command window what) ≡ Ok out
      unfolding command_to
      at_once what out e = rw found e

      same_serial : w.serial ≡ window
      same_serial = eqb-true w.serial window (find-passes (λ (v : Window). v.serial == window) s.table.windows w found)

      -- a rectangle that is refused is refused by both
      moves : (what : Wctl) (keep : Bool) (options : List Choice) → IsOwnCommand what → IsSpelled (act.Command window what) → ((step : Step) → commanded what w step ≡ moved_by keep options w step)
          → SameOutcome Told (stepped_or s (rio s.table (act.Command window what))) (value_or_refuse (applied keep options (pane_alone t window).known.r) 47 >>= λ q. Ok t)
      unfolding command_to moved_by moved replaced
      moves what keep options owns spelled way =
          subst (λ (q : Rect). SameOutcome Told (stepped_or s (rio s.table (act.Command window what))) (value_or_refuse (applied keep options q) 47 >>= λ _. Ok t)) r (by (applied keep options w.r) refl)
        where
          all : (o : Option Rect) → applied keep options w.r ≡ o → rio s.table (act.Command window what) ≡ (value_or_refuse o 47 >>= λ q. moved deepest keep w q (begun s.table))
          all o at = rw found (way (begun s.table) ∙ rw at refl)

          fine : (q : Rect) → moved deepest keep w q (begun s.table) ≡ Ok (replaced keep w q (begun s.table))
          fine q = rw (ap (is_host s.table) same_serial ∙ bare) refl

          by : (o : Option Rect) → applied keep options w.r ≡ o → SameOutcome Told (stepped_or s (rio s.table (act.Command window what))) (value_or_refuse o 47 >>= λ _. Ok t)
          by None at = subst (λ (x : Outcome Step). SameOutcome Told (stepped_or s x) (Err 47)) (sym (all None at)) refl
          by (Some q) at = done what (replaced keep w q (begun s.table)) owns spelled (all (Some q) at ∙ fine q)

      pub command_same : (what : Wctl) → IsOwnCommand what → IsSpelled (act.Command window what) → SameOutcome Told (stepped_or s (rio s.table (act.Command window what))) (refused_by_rectangle t window what)
      command_same (wctl.New options hide) owns spelled = absurd owns
      command_same (wctl.Resize options) owns spelled = moves (wctl.Resize options) false options owns spelled (λ step. refl)
      command_same (wctl.Move options) owns spelled = moves (wctl.Move options) true options owns spelled (λ step. refl)
      command_same wctl.Top owns spelled = done wctl.Top _ owns spelled (at_once wctl.Top _ refl)
      command_same wctl.Bottom owns spelled = done wctl.Bottom _ owns spelled (at_once wctl.Bottom _ refl)
      command_same wctl.Hide owns spelled = done wctl.Hide _ owns spelled (at_once wctl.Hide _ refl)
      command_same wctl.Unhide owns spelled = done wctl.Unhide _ owns spelled (at_once wctl.Unhide _ refl)
      command_same wctl.Current owns spelled = done wctl.Current _ owns spelled (at_once wctl.Current _ refl)
      command_same wctl.Delete owns spelled = done wctl.Delete _ owns spelled (at_once wctl.Delete _ refl)
      command_same (wctl.Scroll scrolls) owns spelled = done (wctl.Scroll scrolls) _ owns spelled (at_once (wctl.Scroll scrolls) _ refl)
      command_same wctl.Set owns spelled = done wctl.Set _ owns spelled (at_once wctl.Set _ refl)
      command_same wctl.Host owns spelled = absurd owns

    told_command : (o : Option Command) (command : Command) → value_or_refuse o 47 ≡ Ok command → o ≡ Some command
    told_command (Some d) command e = cc
    told_command None command e = absurd cc

    commands_same : (s : Desktop) (t : LoneDesktop) → First s t → (window : ℕ) → own ≡ Some window → (w : Window) → window_of s.table window ≡ Some w → (text : List ℕ) → asks_for_windows text ≡ false
        → SameOutcome Told (whole.commanded s window text) (commanded_alone t window text)
    unfolding whole.commanded commanded_alone
    commands_same s t is window its w found text asks =
        check_alike Told (value_or_refuse (command_of false text) 47) _ _ (λ command e.
        let spelled = told_command (command_of false text) command e in
        command_same s t is window w found r here.bare command.what (own_command text command spelled asks) (command_spelled false text command window spelled))
      where
        here : SameWindow s t window
        here = subst (SameWindows s t) its is.same.window

        r : w.r ≡ (pane_alone t window).known.r
        r = by (lookup s.panes window) refl
          where
            by : (o : Option Pane) → lookup s.panes window ≡ o → w.r ≡ (pane_alone t window).known.r
            by None at = absurd (let two : ◌≡◌ {A = Option Rect} (Some w.r) None = sym (ap (option_map (λ (v : Window). v.r)) found) ∙ here.rect ∙ ap (option_map (λ (p : Pane). p.known.r)) at in cc)
            by (Some p) at =
                let two : ◌≡◌ {A = Option Rect} (Some w.r) (Some p.known.r) = sym (ap (option_map (λ (v : Window). v.r)) found) ∙ here.rect ∙ ap (option_map (λ (p : Pane). p.known.r)) at in
                let one : w.r ≡ p.known.r = cc in
                one ∙ ap (λ (q : Pane). q.known.r) (pane_is t window (Some p) (here.alone ∙ ap (option_map (λ p. (window, p))) at))

    live_command : (s : Desktop) (t : LoneDesktop) → First s t → (connections : List ℕ) (node : Node) → HasWindow own node.serial → ((desktop_for c).view s connections node).live ≡ true → (text : List ℕ) → asks_for_windows text ≡ false
        → SameOutcome Told (whole.commanded s node.serial text) (commanded_alone t node.serial text)
    unfolding whole.view_of
    live_command s t is connections node has live text asks = by has (window_of s.table node.serial) refl
      where
        by : HasWindow own node.serial → (o : Option Window) → window_of s.table node.serial ≡ o → SameOutcome Told (whole.commanded s node.serial text) (commanded_alone t node.serial text)
        by (inl zero) o at = absurd (let two : true ≡ false = sym live ∙ ap (λ (n : ℕ). is_some (window_of s.table n)) zero ∙ ap is_some (no_window_zero s.table is.same.drawn.sound) in cc)
        by (inr its) None at = absurd (let two : true ≡ false = sym live ∙ ap is_some at in cc)
        by (inr its) (Some w) at = commands_same s t is node.serial its w at text asks

    -- ---- all of it

    quiet_read : (s : Desktop) (t : LoneDesktop) → First s t → (n most : ℕ) → HasConnection n
        → SameOutcome (λ (a : List ℕ × Desktop) (b : List ℕ × LoneDesktop). (a.0 ≡ b.0) × First a.1 b.1) ((desktop_for c).read_data s n most) (lone_desktop.read_data t n most)
    quiet_read s t is n most few =
        weaken (λ (a : List ℕ × Desktop) (b : List ℕ × LoneDesktop). (a.0 ≡ b.0) × Have a.1 b.1 × (a.1.notes ≡ s.notes)) (λ (a : List ℕ × Desktop) (b : List ℕ × LoneDesktop). (a.0 ≡ b.0) × First a.1 b.1)
        ((desktop_for c).read_data s n most) (lone_desktop.read_data t n most) (λ a b p. (p.0, record { quiet = p.2 ∙ is.quiet; same = p.1 })) (read_same c begin Like Named laws names own s t is.same n most few)

    quiet_choice : (s : Desktop) (t : LoneDesktop) → First s t → (n : ℕ) (bytes : List ℕ) → HasConnection n → SameOutcome First ((desktop_for c).write_ctl s n bytes) (lone_desktop.write_ctl t n bytes)
    quiet_choice s t is n bytes few =
        weaken (λ (a : Desktop) (b : LoneDesktop). Have a b × (a.notes ≡ s.notes)) First ((desktop_for c).write_ctl s n bytes) (lone_desktop.write_ctl t n bytes)
        (λ a b p. record { quiet = p.1 ∙ is.quiet; same = p.0 }) (choose_same c begin Like Named laws names own s t is.same n bytes few)

    quiet_write : (s : Desktop) (n : ℕ) (bytes : List ℕ) (mark : Option ℕ) → ((desktop_for c).write_data s n bytes mark).0.notes ≡ s.notes
    unfolding whole.written_data
    quiet_write s n bytes mark = refl

    pub alike : Alike (desktop_for c) lone_desktop First Told (HasWindow own) HasConnection (May c own)
    alike = record {
      numbers = λ n few. omega (arith, few);
      unchanged = unchanged;
      view = λ s t is connections node plain. view_same c begin Like Named laws names own s t is.same connections node plain;
      pane = λ s t is window has some. pane_same c begin Like Named laws names own s t is.same window has some;
      hear = λ s t is window h done has. record { quiet = is.quiet; same = heard_same c begin Like Named laws names own s t is.same window h done has };
      picture = λ s t is connections node has live. picture_same c begin Like Named laws names own s t is.same connections node has live;
      connect = λ s t is n few. record { quiet = is.quiet; same = connect_same c begin Like Named laws names own s t is.same n few };
      leave = λ s t is n few. record { quiet = is.quiet; same = leave_same c begin Like Named laws names own s t is.same n few };
      write_data = λ s t is n bytes mark told few may. (let same = write_same c begin Like Named laws names own s t is.same n bytes mark told few may in (record { quiet = quiet_write s n bytes mark ∙ is.quiet; same = same.0 }, same.1));
      read_data = quiet_read;
      read_ctl = λ s t is n few may. laws.tell (known_size s) (named_in s own) s.device t.device is.same.device n few (known_told s ((client_of s.device (client c n)).described == 0) may);
      write_ctl = λ s t is n bytes few may. quiet_choice s t is n bytes few;
      left = λ s t is windows. all_left_told c windows s t (unchanged s t is);
      attached = λ s t is asked may. absurd may;
      command = λ s t is connections node has live text asks. live_command s t is connections node has live text asks;
    }
