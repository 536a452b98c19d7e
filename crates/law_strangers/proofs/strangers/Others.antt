-- What another session does keeps the server and a world of the session's own the same to it, once that world takes its notes.
use Rattle.std.proofs.Common.{◌≡◌, ◌≢◌, ℕ, ◌+◌, ◌<◌, ◌≤◌, ◌^◌, true, false, List, fold, Option, Some, None, Ok, Err, refl, arith}
use Rattle.std.specs.Prelude.{All, IfOk}
use Rattle.r9_geom.specs.declared.Point.{Point}
use Rattle.model_text.specs.text.Outcome.{Outcome, ◌>>=◌, value_or_refuse}
use Rattle.model_history.specs.declared.words.Size.{Size}
use Rattle.model_history.specs.words.Values.{sides_of}
use Rattle.model_files.specs.declared.mouse.Mouse.{Mouse as Pointer}
use Rattle.model_rio.specs.window.Heard.{Heard}
use Rattle.model_rio.specs.window.Pane.{Pane}
use Rattle.model_files.specs.wctl.Command.{Command, Wctl}
use Rattle.model_files.specs.wctl.Command as wctl
use Rattle.model_files.specs.wctl.Reading.{command_of}
use Rattle.model_rio.specs.rio.Table.{Table, is_host}
use Rattle.model_rio.specs.rio.Act.{Act}
use Rattle.model_rio.specs.rio.Act as act
use Rattle.model_rio.specs.rio.Step.{Step}
use Rattle.model_rio.specs.rio.Rio.{rio}
use Rattle.model_draw.specs.draw.World as draw
use Rattle.model_draw.specs.draw.Act.{written}
use Rattle.model_draw.specs.draw.Files.{read_data, write_ctl}
use Rattle.model_files.specs.tree.Attach.{Attach, Whole, Existing, Fresh, Unknown}
use Rattle.model_world.specs.Desktop.{Desktop, stepped, stepped_if, stepped_or}
use Rattle.model_world.specs.Whole as whole
use Rattle.model_world.specs.Whole.{client, desktop_for, device_commanded_by, host_of, made_by, serial_of, used_by, window_made}
use Rattle.model_world.proofs.Others.{after_if, after_step}
use Rattle.law_shown.specs.fitting.Fitting.{IsSpelled}
use Rattle.law_shown.proofs.fitting.Spelled.{command_spelled}
use Rattle.law_others.specs.orders.Leading.{IsDrawn, Uses, begins, chooses, ends, reads, writes}
use Rattle.law_others.proofs.orders.Leading.{IsLed, led_beside, led_by, led_itself, led_keeps}
use Rattle.law_others.proofs.orders.Desktops.{choice_is, client_other, connect_drawn, leave_drawn, read_is, written_data_drawn}
use Rattle.law_others.proofs.orders.Sides.{sides_spelled}
use Rattle.law_likeness.specs.agreement.Agreement.{IsDone}
use Rattle.model_alone.specs.alone.Uses.{looked_at}
use Rattle.model_alone.specs.alone.Lone.{LoneDesktop, noted_alone}
use Rattle.law_others.specs.told.Telling.{notes_of}
use Rattle.law_others.proofs.told.Acts.{IfHosts, MakesOther}
use Rattle.law_strangers.specs.followed.Devices.{AreNamesFree, IsDeviceLike, LeavesName}
use Rattle.law_strangers.specs.followed.Following.{SameOnceTold, SameWindows, known_size, named_in}
use Rattle.law_strangers.proofs.followed.Stepping.{SparesOwn}
use Rattle.law_strangers.proofs.followed.Answers.{told_more}
use Rattle.law_strangers.proofs.strangers.Late.{heard_elsewhere}

-- an act makes another window than one whose serial was given
makes_other : (window : ℕ) (table : Table) (a : Act) → table.serials + 1 ≢ window → MakesOther window table a
makes_other window table (act.New host options hide) other = other
makes_other window table (act.Command at (wctl.New options hide)) other = other
makes_other window table (act.Command at (wctl.Resize options)) other = tt
makes_other window table (act.Command at (wctl.Move options)) other = tt
makes_other window table (act.Command at wctl.Top) other = tt
makes_other window table (act.Command at wctl.Bottom) other = tt
makes_other window table (act.Command at wctl.Hide) other = tt
makes_other window table (act.Command at wctl.Unhide) other = tt
makes_other window table (act.Command at wctl.Current) other = tt
makes_other window table (act.Command at wctl.Delete) other = tt
makes_other window table (act.Command at (wctl.Scroll scrolls)) other = tt
makes_other window table (act.Command at wctl.Set) other = tt
makes_other window table (act.Command at wctl.Host) other = tt
makes_other window table (act.Mouse e) other = tt
makes_other window table (act.Keys keys) other = tt
makes_other window table (act.Gone at) other = tt
makes_other window table (act.Size width height) other = tt

if_hosts : (a : Act) (P : Type 0) → P → IfHosts a P
if_hosts (act.New host options hide) P p = tt
if_hosts (act.Command at (wctl.New options hide)) P p = tt
if_hosts (act.Command at (wctl.Resize options)) P p = tt
if_hosts (act.Command at (wctl.Move options)) P p = tt
if_hosts (act.Command at wctl.Top) P p = tt
if_hosts (act.Command at wctl.Bottom) P p = tt
if_hosts (act.Command at wctl.Hide) P p = tt
if_hosts (act.Command at wctl.Unhide) P p = tt
if_hosts (act.Command at wctl.Current) P p = tt
if_hosts (act.Command at wctl.Delete) P p = tt
if_hosts (act.Command at (wctl.Scroll scrolls)) P p = tt
if_hosts (act.Command at wctl.Set) P p = tt
if_hosts (act.Command at wctl.Host) P p = p
if_hosts (act.Mouse e) P p = tt
if_hosts (act.Keys keys) P p = tt
if_hosts (act.Gone at) P p = tt
if_hosts (act.Size width height) P p = tt

module _ (c : ℕ) (begin : 0 < c) (Like : Option (ℕ × ℕ) → Option (ℕ × List ℕ) → draw.World → draw.World → Type 0) (Named : draw.World → Table → List (ℕ × Pane) → Type 0) (laws : IsDeviceLike c Like) (names : AreNamesFree Named) (own : Option ℕ) (d : ℕ) (first : 1 ≤ d) (other : d ≡ c → ⊥) (t : LoneDesktop) where
  abbrev pub Told : Desktop → Type 0
  Told s = SameOnceTold Like Named own s t

  -- the session's window hosts no rio
  abbrev pub IsBare : Desktop → Type 0
  IsBare s = (window : ℕ) → own ≡ Some window → is_host s.table window ≡ false

  -- its serial was given
  abbrev pub IsGiven : Desktop → Type 0
  IsGiven s = (window : ℕ) → own ≡ Some window → window ≤ s.table.serials

  -- the same where no rio started in the session's window
  abbrev pub Reached : Desktop → Type 0
  Reached s = IsBare s → Told s

  -- ---- windows

  pub heard_told : (s : Desktop) (window : ℕ) (h : Heard) → IsDone h → (own ≡ Some window → ⊥) → Told s → Told ((desktop_for d).hear s window h)
  heard_told s window h done away is = heard_elsewhere c begin Like Named laws names own s (fold noted_alone t (notes_of own s.notes)) window h done away is

  -- the users, the snarfs, and where the mouse was last make no difference
  pub beside_told : (s : Desktop) (users snarfs : List (ℕ × List ℕ)) (pointer : Option Point) → Told s → Told (record s { users = users; snarfs = snarfs; pointer = pointer })
  beside_told s users snarfs pointer is = record {
    drawn = (led_beside s s (record s { users = users; snarfs = snarfs; pointer = pointer }) refl refl (led_itself s is.drawn)).drawn;
    order = is.order;
    names = is.names;
    window = beside own is.window;
    device = is.device;
  }
    where
      u : LoneDesktop
      u = fold noted_alone t (notes_of own s.notes)

      beside : (o : Option ℕ) → SameWindows s u o → SameWindows (record s { users = users; snarfs = snarfs; pointer = pointer }) u o
      beside None is = is
      beside (Some n) is = record { alone = is.alone; rect = is.rect; root = is.root; bare = is.bare; counted = is.counted }

  act_reached : (s : Desktop) (a : Act) (step : Step) → Told s → IsGiven s → IsSpelled a → rio s.table a ≡ Ok step → Reached (stepped s step)
  unfolding stepped
  act_reached s a step is given spelled e bare = told_more c begin Like Named laws names own s t a step is spelled (spares own given bare) e
    where
      spares : (o : Option ℕ) → ((window : ℕ) → o ≡ Some window → window ≤ s.table.serials) → ((window : ℕ) → o ≡ Some window → is_host step.table window ≡ false) → SparesOwn c Like Named laws names o s.table a step
      spares None given bare = tt
      spares (Some window) given bare =
          let few = given window refl in (makes_other window s.table a (λ same. omega (arith, few, same)), if_hosts a (is_host step.table window ≡ false) (bare window refl))

  abbrev IfReached : Outcome Desktop → Type 0
  IfReached o = IfOk o Reached

  or_reached : (s : Desktop) (a : Act) → Told s → IsGiven s → IsSpelled a → IfReached (stepped_or s (rio s.table a))
  or_reached s a is given spelled = by (rio s.table a) refl
    where
      by : (o : Outcome Step) → rio s.table a ≡ o → IfReached (stepped_or s o)
      by (Ok step) e = act_reached s a step is given spelled e
      by (Err n) e = tt

  if_reached : (s : Desktop) (a : Act) → Told s → IsGiven s → IsSpelled a → Reached (stepped_if s (rio s.table a))
  if_reached s a is given spelled = by (rio s.table a) refl
    where
      by : (o : Outcome Step) → rio s.table a ≡ o → Reached (stepped_if s o)
      by (Ok step) e = act_reached s a step is given spelled e
      by (Err n) e = λ bare. is

  -- ---- commands and input

  command_told : (o : Option Command) (command : Command) → value_or_refuse o 47 ≡ Ok command → o ≡ Some command
  command_told (Some x) command e = cc
  command_told None command e = absurd cc

  pub commanded_reached : (s : Desktop) (window : ℕ) (text : List ℕ) → Told s → IsGiven s → IfReached (whole.commanded s window text)
  unfolding whole.commanded
  commanded_reached s window text is given =
      after_step Reached (value_or_refuse (command_of false text) 47) _ (λ command e.
      or_reached s (act.Command window command.what) is given (command_spelled false text command window (command_told (command_of false text) command e)))

  window_reached : (s : Desktop) (path : List ℕ) (what : Wctl) → Told s → IsGiven s → ((window : ℕ) → IsSpelled (act.Command window what))
      → IfReached (serial_of s.table path 47 >>= λ window. stepped_or s (rio s.table (act.Command window what)))
  window_reached s path what is given spelled = after_step Reached (serial_of s.table path 47) _ (λ window _. or_reached s (act.Command window what) is given (spelled window))

  device_by_reached : (s : Desktop) (path : List ℕ) (what : Wctl) → Told s → IsGiven s → ((window : ℕ) → IsSpelled (act.Command window what)) → IfReached (device_commanded_by s path what)
  device_by_reached s path (wctl.New options hide) is given spelled = after_step Reached (host_of s.table path 47) _ (λ host _. or_reached s (act.New host options hide) is given tt)
  device_by_reached s path what is given spelled = window_reached s path what is given spelled

  pub device_commanded_reached : (s : Desktop) (text : List ℕ) → Told s → IsGiven s → IfReached (whole.device_commanded s text)
  unfolding whole.device_commanded
  device_commanded_reached s text is given =
      after_step Reached (value_or_refuse (command_of true text) 47) _ (λ command e.
      device_by_reached s command.id command.what is given (λ window. command_spelled true text command window (command_told (command_of true text) command e)))

  pub moused_reached : (s : Desktop) (e : Pointer) → Told s → IsGiven s → Reached (whole.moused s e)
  unfolding whole.moused
  moused_reached s e is given bare =
      let next : Desktop = stepped_if s (rio s.table (act.Mouse e)) in
      beside_told next next.users next.snarfs (whole.moused s e).pointer (if_reached s (act.Mouse e) is given tt bare)

  pub typed_reached : (s : Desktop) (keys : List ℕ) → Told s → IsGiven s → Reached (whole.typed s keys)
  unfolding whole.typed
  typed_reached s keys is given = if_reached s (act.Keys keys) is given tt

  -- ---- another size of the display

  size_told : (o : Option Size) (size : Size) → value_or_refuse o 51 ≡ Ok size → o ≡ Some size
  size_told (Some x) size e = cc
  size_told None size e = absurd cc

  pub resized_reached : (s : Desktop) (text : List ℕ) → Told s → IsGiven s → IfReached (value_or_refuse (sides_of text) 51 >>= λ size. whole.resized s size)
  unfolding whole.resized
  resized_reached s text is given =
      after_step Reached (value_or_refuse (sides_of text) 51) _ (λ size e.
      or_reached s (act.Size size.width size.height) is given (sides_spelled text size (size_told (sides_of text) size e)))

  -- ---- attaches

  abbrev IsMadeReached : Desktop × ℕ → Type 0
  IsMadeReached made = Reached made.0

  made_by_reached : (s : Desktop) (host : ℕ) (what : Wctl) → Told s → IsGiven s → IfReached (made_by s host what)
  made_by_reached s host (wctl.New options hide) is given = or_reached s (act.New host options hide) is given tt
  made_by_reached s host _ is given = tt

  window_made_reached : (s : Desktop) (path text : List ℕ) → Told s → IsGiven s → IfOk (window_made s path text) IsMadeReached
  unfolding window_made
  window_made_reached s path text is given =
      after_step IsMadeReached (host_of s.table path 41) _ (λ host _.
      after_step IsMadeReached (value_or_refuse (command_of false text) 47) _ (λ command _.
      after_if IsMadeReached Reached (made_by s host command.what) _ (made_by_reached s host command.what is given) (λ next reached. reached)))

  users_reached : (s : Desktop) (users : List (ℕ × List ℕ)) → Reached s → Reached (record s { users = users })
  users_reached s users reached bare = beside_told s users s.snarfs s.pointer (reached bare)

  pub attached_reached : (s : Desktop) (asked : Attach) → Told s → IsGiven s → IfOk (whole.attached d s asked) IsMadeReached
  unfolding whole.attached
  attached_reached s Whole is given = λ bare. is
  attached_reached s Unknown is given = tt
  attached_reached s (Existing path) is given = after_step IsMadeReached (serial_of s.table path 41) _ (λ window _. users_reached s _ (λ bare. is))
  attached_reached s (Fresh path text) is given = after_if IsMadeReached IsMadeReached (window_made s path text) _ (window_made_reached s path text is given) (λ made reached. users_reached made.0 _ reached)

  -- ---- the draw device

  -- whatever was asked for it
  device_told : (s : Desktop) (next : draw.World) (cost : ℕ) → Told s → IsDrawn (record s { device = next; cost = cost }) → Uses s.device next → Like (known_size s) (named_in s own) next (fold noted_alone t (notes_of own s.notes)).device
      → Told (record s { device = next; cost = cost })
  device_told s next cost is drawn used like = record {
    drawn = drawn;
    order = is.order;
    names = names.uses s.device next s.table s.panes is.drawn.orderly is.names used;
    window = beside own is.window;
    device = like;
  }
    where
      u : LoneDesktop
      u = fold noted_alone t (notes_of own s.notes)

      beside : (o : Option ℕ) → SameWindows s u o → SameWindows (record s { device = next; cost = cost }) u o
      beside None is = is
      beside (Some n) is = record { alone = is.alone; rect = is.rect; root = is.root; bare = is.bare; counted = is.counted }

  zero_below : 0 < d
  zero_below = omega (arith, first)

  pub connect_told : (s : Desktop) (n : ℕ) → n < 2 ^ 26 → Told s → Told ((desktop_for d).connect s n)
  connect_told s n few is =
      device_told s (draw.after_connect s.device (client d n)) s.cost is (connect_drawn (IsLed s) (led_keeps s) s (client d n) (led_itself s is.drawn)).drawn (begins (client d n))
      (laws.others_connect (known_size s) (named_in s own) s.device _ is.device d n first other few)

  pub leave_told : (s : Desktop) (n : ℕ) → n < 2 ^ 26 → Told s → Told ((desktop_for d).leave s n)
  leave_told s n few is =
      let apart = client_other d n zero_below in
      device_told s (draw.after_leave s.device (client d n)) _ is (leave_drawn (IsLed s) (led_keeps s) s (client d n) apart (led_itself s is.drawn)).drawn (ends (client d n) apart)
      (laws.others_leave (known_size s) (named_in s own) s.device _ is.device d n first other few)

  pub write_told : (s : Desktop) (n : ℕ) (bytes : List ℕ) (mark : Option ℕ) → n < 2 ^ 26 → All (LeavesName (named_in s own)) (looked_at (client d n) s.device bytes mark) → Told s → Told ((desktop_for d).write_data s n bytes mark).0
  unfolding whole.written_data
  write_told s n bytes mark few leaves is =
      let apart = client_other d n zero_below in
      let next : Desktop = ((desktop_for d).write_data s n bytes mark).0 in
      let drawn : IsDrawn next = (written_data_drawn (IsLed s) (led_keeps s) (client d n) s bytes mark apart (led_itself s is.drawn)).drawn in
      device_told s (written (client d n) s.device bytes mark).world next.cost is drawn (writes (client d n) bytes mark apart)
      (laws.others_write (known_size s) (named_in s own) s.device _ is.device d n bytes mark first other few leaves)

  pub read_told : (s : Desktop) (n most : ℕ) → n < 2 ^ 26 → Told s → IfOk ((desktop_for d).read_data s n most) (λ got. Told got.1)
  unfolding whole.data_read
  read_told s n most few is = after_step (λ (got : List ℕ × Desktop). Told got.1) (read_data (client d n) s.device most) _ (λ got at.
      device_told s got.1 s.cost is (led_by s s got.1 s.cost (led_itself s is.drawn) (reads (client d n) most got at) (read_is (client d n) s.device most got is.drawn.orderly at)).drawn (reads (client d n) most got at)
      (laws.others_read (known_size s) (named_in s own) s.device _ is.device d n most first other few got at))

  pub choose_told : (s : Desktop) (n : ℕ) (bytes : List ℕ) → n < 2 ^ 26 → Told s → IfOk ((desktop_for d).write_ctl s n bytes) Told
  unfolding whole.ctl_written
  choose_told s n bytes few is = after_step Told (write_ctl (client d n) s.device bytes) _ (λ next at.
      device_told s next s.cost is (led_by s s next s.cost (led_itself s is.drawn) (chooses (client d n) bytes next at) (choice_is (client d n) s.device bytes next is.drawn.orderly at)).drawn (chooses (client d n) bytes next at)
      (laws.others_choose (known_size s) (named_in s own) s.device _ is.device d n bytes first other few next at))
