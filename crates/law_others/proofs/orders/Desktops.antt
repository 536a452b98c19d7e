-- What sessions do with the windows and the draw device leaves each desktop drawn.
use Rattle.std.proofs.Common.{◌≡◌, ℕ, ◌<◌, Bool, true, false, not, List, [], ◌∷◌, length, Option, Some, None, Ok, Err, refl, subst, arith}
use Rattle.std.specs.Prelude.{◌==◌, ◌+◌, ◌*◌, ◌^◌, IfOk, is_some}
use Rattle.std.specs.List.{fold}
use Rattle.std.proofs.lemmas.Bool.{cond_both}
use Rattle.std.proofs.lemmas.Bool.Decides.{nat_tests}
use Rattle.model_text.specs.text.Outcome.{Outcome, ◌>>=◌, value_or_refuse}
use Rattle.model_history.specs.declared.words.Size.{Size}
use Rattle.model_history.specs.words.Values.{sides_of}
use Rattle.model_files.specs.wctl.Command.{Command, Wctl}
use Rattle.model_files.specs.wctl.Command as wctl
use Rattle.model_files.specs.wctl.Reading.{command_of}
use Rattle.model_files.specs.declared.mouse.Mouse.{Mouse as Pointer}
use Rattle.model_files.specs.declared.tree.Kind.TheVariants as kind
use Rattle.model_files.specs.tree.Node.{Node}
use Rattle.model_files.specs.tree.Attach.{Attach, Whole, Existing, Fresh, Unknown}
use Rattle.model_rio.specs.rio.Act.{Act}
use Rattle.model_rio.specs.rio.Act as act
use Rattle.model_rio.specs.rio.Rio.{rio}
use Rattle.model_rio.specs.rio.Step.{Step}
use Rattle.model_rio.proofs.rio.Orders.{acts_keep_connections}
use Rattle.model_rio.proofs.rio.Soundness.{step_sound}
use Rattle.model_draw.specs.draw.World as draw
use Rattle.model_draw.specs.draw.Files.{read_data, write_ctl}
use Rattle.model_world.specs.Session.{Fid}
use Rattle.model_world.specs.Fids.{is_kind, let_go, with_held}
use Rattle.model_world.specs.Desktop.{Desktop, is_user, stepped, stepped_if, stepped_or, users_of, without_user}
use Rattle.model_world.specs.Whole.{attached, client, commanded, connection_left, ctl_written, data_read, desktop_for, device_commanded, device_commanded_by, host_of, left_one, made_by, moused, resized, serial_of, typed, window_made, with_device, written_data}
use Rattle.model_world.proofs.Others.{after_if, after_step}
use Rattle.model_rio.specs.rio.Sound.{IsSound}
use Rattle.model_draw.specs.draw.Orders.{carried_out}
use Rattle.law_shown.specs.shown.Showing.{IsOrderly}
use Rattle.law_others.specs.others.Others.{IsFurnished}
use Rattle.law_shown.specs.fitting.Fitting.{IsSpelled, Shows}
use Rattle.law_others.specs.orders.Leading.{IsDrawn}
use Rattle.law_others.specs.orders.Leading.{begins, chooses, ends, reads, writes}
use Rattle.law_others.proofs.orders.Furnished.{finds_display, orders_furnished}
use Rattle.law_others.proofs.orders.Leading.{Keeps}
use Rattle.law_others.proofs.orders.Sides.{sides_spelled}
use Rattle.law_shown.proofs.fitting.Acts.{act_fits}
use Rattle.law_shown.proofs.lasting.Messages.{Still, StillIf, connect_still, leave_still, read_data_still, write_ctl_still, written_still}
use Rattle.law_shown.proofs.fitting.Spelled.{command_spelled}

pub read_is : (k : ℕ) (device : draw.World) (most : ℕ) (got : List ℕ × draw.World) → IsOrderly device → read_data k device most ≡ Ok got → Still device got.1
read_is k device most got orderly e = subst (λ (o : Outcome (List ℕ × draw.World)). IfOk o (λ g. Still device g.1)) e (read_data_still k device most orderly)

pub choice_is : (k : ℕ) (device : draw.World) (bytes : List ℕ) (next : draw.World) → IsOrderly device → write_ctl k device bytes ≡ Ok next → Still device next
choice_is k device bytes next orderly e = subst (StillIf device) e (write_ctl_still k device bytes orderly)

drawn_step : (desktop : Desktop) (step : Step) → IsSound step.table → IsOrderly (carried_out desktop.device step.orders) → IsFurnished (carried_out desktop.device step.orders) → Shows (carried_out desktop.device step.orders) step.table → IsDrawn (stepped desktop step)
unfolding stepped
drawn_step desktop step sound orderly furnished shows = record { sound = sound; orderly = orderly; furnished = furnished; shows = shows }

-- sessions are numbered from 1, so that no connection of theirs is the manager
pub client_other : (c n : ℕ) → 0 < c → (client c n == 0) ≡ false
client_other c n begun = let some : 0 < 2 ^ 26 * c + n = omega (arith, begun) in apart (2 ^ 26 * c + n) some
  where
    apart : (m : ℕ) → 0 < m → (m == 0) ≡ false
    apart m h = grind (arith, nat_tests)

-- an act leaves a drawn desktop drawn
pub acted_drawn : (desktop : Desktop) (a : Act) (step : Step) → IsDrawn desktop → IsSpelled a → rio desktop.table a ≡ Ok step → IsDrawn (stepped desktop step)
acted_drawn desktop a step is spelled e =
    let fits = act_fits desktop.device desktop.table a step is.sound is.orderly is.shows spelled (finds_display desktop.device a is.furnished) e in
    drawn_step desktop step (step_sound desktop.table a step is.sound e) fits.orderly (orders_furnished step.orders desktop.device fits.all fits.before (acts_keep_connections desktop.table a step e) is.furnished) fits.shows

module _ (Led : Desktop → Type 0) (keep : Keeps Led) where
  abbrev IfLed : Outcome Desktop → Type 0
  IfLed o = IfOk o Led

  -- ---- steps of the windows

  pub step_drawn : (desktop : Desktop) (a : Act) (step : Step) → Led desktop → IsSpelled a → rio desktop.table a ≡ Ok step → Led (stepped desktop step)
  step_drawn desktop a step is spelled e =
      let drawn = keep.drawn desktop is in
      let fits = act_fits desktop.device desktop.table a step drawn.sound drawn.orderly drawn.shows spelled (finds_display desktop.device a drawn.furnished) e in
      keep.acted desktop a step is spelled e fits.all (acted_drawn desktop a step drawn spelled e)

  or_drawn : (desktop : Desktop) (a : Act) → Led desktop → IsSpelled a → IfLed (stepped_or desktop (rio desktop.table a))
  or_drawn desktop a is spelled = by (rio desktop.table a) refl
    where
      by : (o : Outcome Step) → rio desktop.table a ≡ o → IfLed (stepped_or desktop o)
      by (Ok step) e = step_drawn desktop a step is spelled e
      by (Err n) e = tt

  if_drawn : (desktop : Desktop) (a : Act) → Led desktop → IsSpelled a → Led (stepped_if desktop (rio desktop.table a))
  if_drawn desktop a is spelled = by (rio desktop.table a) refl
    where
      by : (o : Outcome Step) → rio desktop.table a ≡ o → Led (stepped_if desktop o)
      by (Ok step) e = step_drawn desktop a step is spelled e
      by (Err n) e = is

  -- ---- commands

  command_told : (o : Option Command) (c : Command) → value_or_refuse o 47 ≡ Ok c → o ≡ Some c
  command_told (Some d) c e = cc
  command_told None c e = absurd cc

  pub commanded_drawn : (desktop : Desktop) (window : ℕ) (text : List ℕ) → Led desktop → IfLed (commanded desktop window text)
  unfolding commanded
  commanded_drawn desktop window text is =
      after_step _ (value_or_refuse (command_of false text) 47) _ (λ command e.
      or_drawn desktop (act.Command window command.what) is (command_spelled false text command window (command_told (command_of false text) command e)))

  made_by_drawn : (desktop : Desktop) (host : ℕ) (what : Wctl) → Led desktop → IfLed (made_by desktop host what)
  made_by_drawn desktop host (wctl.New options hide) is = or_drawn desktop (act.New host options hide) is tt
  made_by_drawn desktop host _ is = tt

  -- a command to the window of a path
  window_drawn : (desktop : Desktop) (path : List ℕ) (what : Wctl) → Led desktop → ((window : ℕ) → IsSpelled (act.Command window what))
      → IfLed (serial_of desktop.table path 47 >>= λ window. stepped_or desktop (rio desktop.table (act.Command window what)))
  window_drawn desktop path what is spelled = after_step _ (serial_of desktop.table path 47) _ (λ window _. or_drawn desktop (act.Command window what) is (spelled window))

  device_by_drawn : (desktop : Desktop) (path : List ℕ) (what : Wctl) → Led desktop → ((window : ℕ) → IsSpelled (act.Command window what)) → IfLed (device_commanded_by desktop path what)
  device_by_drawn desktop path (wctl.New options hide) is spelled = after_step _ (host_of desktop.table path 47) _ (λ host _. or_drawn desktop (act.New host options hide) is tt)
  device_by_drawn desktop path what is spelled = window_drawn desktop path what is spelled

  pub device_commanded_drawn : (desktop : Desktop) (text : List ℕ) → Led desktop → IfLed (device_commanded desktop text)
  unfolding device_commanded
  device_commanded_drawn desktop text is =
      after_step _ (value_or_refuse (command_of true text) 47) _ (λ command e.
      device_by_drawn desktop command.id command.what is (λ window. command_spelled true text command window (command_told (command_of true text) command e)))

  -- ---- another size of the display

  size_told : (o : Option Size) (size : Size) → value_or_refuse o 51 ≡ Ok size → o ≡ Some size
  size_told (Some other) size e = cc
  size_told None size e = absurd cc

  pub resized_drawn : (desktop : Desktop) (text : List ℕ) → Led desktop → IfLed (value_or_refuse (sides_of text) 51 >>= λ size. resized desktop size)
  unfolding resized
  resized_drawn desktop text is =
      after_step _ (value_or_refuse (sides_of text) 51) _ (λ size e.
      or_drawn desktop (act.Size size.width size.height) is (sides_spelled text size (size_told (sides_of text) size e)))

  -- ---- attaching, and leaving

  abbrev pub IsMadeDrawn : Desktop × ℕ → Type 0
  IsMadeDrawn made = Led made.0

  with_users : (desktop : Desktop) (users : List (ℕ × List ℕ)) → Led desktop → Led (record desktop { users = users })
  with_users desktop users is = keep.beside desktop (record desktop { users = users }) refl refl refl is

  window_made_drawn : (desktop : Desktop) (path text : List ℕ) → Led desktop → IfOk (window_made desktop path text) IsMadeDrawn
  unfolding window_made
  window_made_drawn desktop path text is =
      after_step _ (host_of desktop.table path 41) _ (λ host _.
      after_step _ (value_or_refuse (command_of false text) 47) _ (λ command _.
      after_if _ Led (made_by desktop host command.what) _ (made_by_drawn desktop host command.what is) (λ next drawn. drawn)))

  pub attached_drawn : (session : ℕ) (desktop : Desktop) (name : Attach) → Led desktop → IfOk (attached session desktop name) IsMadeDrawn
  unfolding attached
  attached_drawn session desktop Whole is = is
  attached_drawn session desktop Unknown is = tt
  attached_drawn session desktop (Existing path) is = after_step _ (serial_of desktop.table path 41) _ (λ window _. with_users desktop _ is)
  attached_drawn session desktop (Fresh path text) is = after_if _ IsMadeDrawn (window_made desktop path text) _ (window_made_drawn desktop path text is) (λ made drawn. with_users made.0 _ drawn)

  left_one_drawn : (session : ℕ) (desktop : Desktop) (window : ℕ) → Led desktop → Led (left_one session desktop window)
  unfolding left_one
  left_one_drawn session desktop window is =
      let left : Desktop = record desktop { users = without_user desktop.users window session } in
      let gone : Desktop = stepped_if left (rio left.table (act.Gone window)) in
      let drawn : Led left = with_users desktop (without_user desktop.users window session) is in
      cond_both (not (is_user desktop.users window session)) desktop _ Led (λ _. is) (λ _.
      cond_both (length (users_of left.users window) == 0) gone left Led (λ _. if_drawn left (act.Gone window) drawn tt) (λ _. drawn))

  pub left_drawn : (session : ℕ) (windows : List ℕ) (desktop : Desktop) → Led desktop → Led (fold (left_one session) desktop windows)
  left_drawn session [] desktop is = is
  left_drawn session (window ∷ windows) desktop is = left_drawn session windows (left_one session desktop window) (left_one_drawn session desktop window is)

  -- ---- input

  pub moused_drawn : (desktop : Desktop) (e : Pointer) → Led desktop → Led (moused desktop e)
  unfolding moused
  moused_drawn desktop e is = keep.beside (stepped_if desktop (rio desktop.table (act.Mouse e))) (moused desktop e) refl refl refl (if_drawn desktop (act.Mouse e) is tt)

  pub typed_drawn : (desktop : Desktop) (keys : List ℕ) → Led desktop → Led (typed desktop keys)
  unfolding typed
  typed_drawn desktop keys is = if_drawn desktop (act.Keys keys) is tt

  -- ---- the files that one fid at a time has open

  pub held_drawn : (c : ℕ) (held : Bool) (desktop : Desktop) (node : Node) → Led desktop → Led (with_held (desktop_for c) held desktop node)
  held_drawn c held desktop node is =
      cond_both (is_kind kind.Mouse node.kind) _ _ Led (λ _. keep.beside desktop _ refl refl refl is) (λ _.
      cond_both (is_kind kind.Consctl node.kind) _ _ Led (λ _. keep.beside desktop _ refl refl refl is) (λ _. is))

  let_go_drawn : (c : ℕ) (desktop : Desktop) (fid : Fid) → Led desktop → Led (let_go (desktop_for c) desktop fid)
  let_go_drawn c desktop fid is = cond_both (is_some fid.mode) _ _ Led (λ _. held_drawn c false desktop fid.node is) (λ _. is)

  pub all_let_go_drawn : (c : ℕ) (gone : List Fid) (desktop : Desktop) → Led desktop → Led (fold (let_go (desktop_for c)) desktop gone)
  all_let_go_drawn c [] desktop is = is
  all_let_go_drawn c (fid ∷ gone) desktop is = all_let_go_drawn c gone (let_go (desktop_for c) desktop fid) (let_go_drawn c desktop fid is)

  -- ---- the draw device

  orderly : (desktop : Desktop) → Led desktop → IsOrderly desktop.device
  orderly desktop is = (let drawn = keep.drawn desktop is in drawn.orderly)

  pub written_data_drawn : (k : ℕ) (desktop : Desktop) (bytes : List ℕ) (mark : Option ℕ) → (k == 0) ≡ false → Led desktop → Led (written_data k desktop bytes mark).0
  unfolding written_data
  written_data_drawn k desktop bytes mark other is = keep.used desktop _ _ (omega arith) is (writes k bytes mark other) (written_still k desktop.device bytes mark other (orderly desktop is))

  abbrev pub IsReadDrawn : List ℕ × Desktop → Type 0
  IsReadDrawn got = Led got.1

  pub data_read_drawn : (k : ℕ) (desktop : Desktop) (most : ℕ) → Led desktop → IfOk (data_read k desktop most) IsReadDrawn
  unfolding data_read
  data_read_drawn k desktop most is = after_step _ (read_data k desktop.device most) _ (λ got e. keep.used desktop got.1 desktop.cost (omega arith) is (reads k most got e) (read_is k desktop.device most got (orderly desktop is) e))

  pub ctl_written_drawn : (k : ℕ) (desktop : Desktop) (bytes : List ℕ) → Led desktop → IfLed (ctl_written k desktop bytes)
  unfolding ctl_written
  ctl_written_drawn k desktop bytes is = after_step _ (write_ctl k desktop.device bytes) _ (λ device e. keep.used desktop device desktop.cost (omega arith) is (chooses k bytes device e) (choice_is k desktop.device bytes device (orderly desktop is) e))

  pub connect_drawn : (desktop : Desktop) (k : ℕ) → Led desktop → Led (with_device desktop (draw.after_connect desktop.device k))
  connect_drawn desktop k is = keep.used desktop _ desktop.cost (omega arith) is (begins k) (connect_still desktop.device k (orderly desktop is))

  pub leave_drawn : (desktop : Desktop) (k : ℕ) → (k == 0) ≡ false → Led desktop → Led (connection_left k desktop)
  leave_drawn desktop k other is = keep.used desktop _ _ (omega arith) is (ends k other) (leave_still desktop.device k other (orderly desktop is))

  pub all_leave_drawn : (c : ℕ) (gone : List ℕ) (desktop : Desktop) → 0 < c → Led desktop → Led (fold (desktop_for c).leave desktop gone)
  all_leave_drawn c [] desktop begun is = is
  all_leave_drawn c (n ∷ gone) desktop begun is = all_leave_drawn c gone ((desktop_for c).leave desktop n) begun (leave_drawn desktop (client c n) (client_other c n begun) is)
