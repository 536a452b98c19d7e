-- What each act of the window manager keeps, and each change of who uses a window, each call of a session's outside keeps.
use Rattle.std.proofs.Common.{◌≡◌, ℕ, ◌==◌, true, false, List, [], ◌∷◌, fold, length, Option, Ok, Err, refl, not, subst}
use Rattle.std.specs.Prelude.{IfOk}
use Rattle.std.proofs.lemmas.Bool.{cond_both}
use Rattle.model_text.specs.text.Outcome.{Outcome, ◌>>=◌, value_or_refuse}
use Rattle.model_history.specs.declared.words.Size.{Size}
use Rattle.model_files.specs.declared.mouse.Mouse.{Mouse as Pointer}
use Rattle.model_files.specs.wctl.Command.{Wctl}
use Rattle.model_files.specs.wctl.Command as wctl
use Rattle.model_files.specs.wctl.Reading.{command_of}
use Rattle.model_rio.specs.rio.Act.{Act}
use Rattle.model_rio.specs.rio.Act as act
use Rattle.model_rio.specs.rio.Step.{Step}
use Rattle.model_rio.specs.rio.Rio.{rio}
use Rattle.model_draw.specs.draw.Files.{read_data, write_ctl}
use Rattle.model_files.specs.tree.Attach.{Attach, Whole, Existing, Fresh, Unknown}
use Rattle.model_world.specs.Desktop.{Desktop, is_user, stepped, stepped_if, stepped_or, users_of, with_user, without_user}
use Rattle.model_world.specs.Whole as whole
use Rattle.model_world.specs.Whole.{client, desktop_for, device_commanded_by, host_of, left_one, made_by, serial_of, used_by, window_made}
use Rattle.model_world.proofs.Others.{after_if, after_step}
use Rattle.law_strangers.proofs.steady.Messages.{AllKeep}

module _ (d : ℕ) (P : Desktop → Type 0) where
  -- acts keep it, and what changes neither the windows nor who uses them nor what they were told, and that the session leaves a window
  pub record DesktopKeeps : Type 0 where
    pub acts : (s : Desktop) (a : Act) (step : Step) → P s → rio s.table a ≡ Ok step → P (stepped s step)
    pub beside : (s next : Desktop) → next.table ≡ s.table → next.users ≡ s.users → next.notes ≡ s.notes → P s → P next
    pub leaves : (s : Desktop) (window : ℕ) → P s → P (left_one d s window)

  -- an act may be refused
  pub if_keeps : ((s : Desktop) (a : Act) (step : Step) → P s → rio s.table a ≡ Ok step → P (stepped s step)) → (s : Desktop) (a : Act) → P s → P (stepped_if s (rio s.table a))
  if_keeps acts s a is = by (rio s.table a) refl
    where
      by : (o : Outcome Step) → rio s.table a ≡ o → P (stepped_if s o)
      by (Ok step) e = acts s a step is e
      by (Err n) e = is

  -- so where it is kept whoever uses windows
  pub left_keeps :
      ((s : Desktop) (a : Act) (step : Step) → P s → rio s.table a ≡ Ok step → P (stepped s step)) → ((s : Desktop) (window : ℕ) → P s → P (record s { users = without_user s.users window d }))
      → (s : Desktop) (window : ℕ) → P s → P (left_one d s window)
  unfolding left_one
  left_keeps acts without s window is =
      let left : Desktop = record s { users = without_user s.users window d } in
      cond_both (not (is_user s.users window d)) s _ P (λ _. is) (λ _.
      cond_both (length (users_of left.users window) == 0) (stepped_if left (rio left.table (act.Gone window))) left P (λ _. if_keeps acts left (act.Gone window) (without s window is)) (λ _. without s window is))

  module _ (keep : DesktopKeeps) where
    or_keeps : (s : Desktop) (a : Act) → P s → IfOk (stepped_or s (rio s.table a)) P
    or_keeps s a is = by (rio s.table a) refl
      where
        by : (o : Outcome Step) → rio s.table a ≡ o → IfOk (stepped_or s o) P
        by (Ok step) e = keep.acts s a step is e
        by (Err n) e = tt

    all_left : (windows : List ℕ) (s : Desktop) → P s → P (fold (left_one d) s windows)
    all_left [] s is = is
    all_left (window ∷ windows) s is = all_left windows (left_one d s window) (keep.leaves s window is)

    commanded_keeps : (s : Desktop) (window : ℕ) (text : List ℕ) → P s → IfOk (whole.commanded s window text) P
    unfolding whole.commanded
    commanded_keeps s window text is = after_step P (value_or_refuse (command_of false text) 47) _ (λ command _. or_keeps s (act.Command window command.what) is)

    window_keeps : (s : Desktop) (path : List ℕ) (what : Wctl) → P s → IfOk (serial_of s.table path 47 >>= λ window. stepped_or s (rio s.table (act.Command window what))) P
    window_keeps s path what is = after_step P (serial_of s.table path 47) _ (λ window _. or_keeps s (act.Command window what) is)

    device_by_keeps : (s : Desktop) (path : List ℕ) (what : Wctl) → P s → IfOk (device_commanded_by s path what) P
    device_by_keeps s path (wctl.New options hide) is = after_step P (host_of s.table path 47) _ (λ host _. or_keeps s (act.New host options hide) is)
    device_by_keeps s path what is = window_keeps s path what is

    device_commanded_keeps : (s : Desktop) (text : List ℕ) → P s → IfOk (whole.device_commanded s text) P
    unfolding whole.device_commanded
    device_commanded_keeps s text is = after_step P (value_or_refuse (command_of true text) 47) _ (λ command _. device_by_keeps s command.id command.what is)

    moused_keeps : (s : Desktop) (e : Pointer) → P s → P (whole.moused s e)
    unfolding whole.moused
    moused_keeps s e is = keep.beside (stepped_if s (rio s.table (act.Mouse e))) (whole.moused s e) refl refl refl (if_keeps keep.acts s (act.Mouse e) is)

    typed_keeps : (s : Desktop) (keys : List ℕ) → P s → P (whole.typed s keys)
    unfolding whole.typed
    typed_keeps s keys is = if_keeps keep.acts s (act.Keys keys) is

    resized_keeps : (s : Desktop) (size : Size) → P s → IfOk (whole.resized s size) P
    unfolding whole.resized
    resized_keeps s size is = or_keeps s (act.Size size.width size.height) is

    written_keeps : (s : Desktop) (n : ℕ) (bytes : List ℕ) (mark : Option ℕ) → P s → P ((desktop_for d).write_data s n bytes mark).0
    unfolding whole.written_data
    written_keeps s n bytes mark is = keep.beside s _ refl refl refl is

    read_keeps : (s : Desktop) (n most : ℕ) → P s → IfOk ((desktop_for d).read_data s n most) (λ got. P got.1)
    unfolding whole.data_read
    read_keeps s n most is = after_step (λ (got : List ℕ × Desktop). P got.1) (read_data (client d n) s.device most) _ (λ got _. keep.beside s (whole.with_device s got.1) refl refl refl is)

    choose_keeps : (s : Desktop) (n : ℕ) (bytes : List ℕ) → P s → IfOk ((desktop_for d).write_ctl s n bytes) P
    unfolding whole.ctl_written
    choose_keeps s n bytes is = after_step P (write_ctl (client d n) s.device bytes) _ (λ device _. keep.beside s (whole.with_device s device) refl refl refl is)

    -- Each call of the session's outside keeps it.
    pub all_keep : AllKeep (desktop_for d) P
    all_keep = record {
      left = λ s windows is. all_left windows s is;
      hear = λ s window h is. keep.beside s _ refl refl refl is;
      command = commanded_keeps;
      device_command = device_commanded_keeps;
      mouse = moused_keeps;
      keys = typed_keeps;
      with_size = resized_keeps;
      with_snarf = λ s host bytes is. keep.beside s _ refl refl refl is;
      connect = λ s n is. keep.beside s _ refl refl refl is;
      leave = λ s n is. keep.beside s _ refl refl refl is;
      write_data = written_keeps;
      read_data = read_keeps;
      write_ctl = choose_keeps;
    }

    -- ---- attaches

    abbrev IsMade : Desktop × ℕ → Type 0
    IsMade made = P made.0

    made_by_keeps : (s : Desktop) (host : ℕ) (what : Wctl) → P s → IfOk (made_by s host what) P
    made_by_keeps s host (wctl.New options hide) is = or_keeps s (act.New host options hide) is
    made_by_keeps s host _ is = tt

    window_made_keeps : (s : Desktop) (path text : List ℕ) → P s → IfOk (window_made s path text) IsMade
    unfolding window_made
    window_made_keeps s path text is =
        after_step IsMade (host_of s.table path 41) _ (λ host _.
        after_step IsMade (value_or_refuse (command_of false text) 47) _ (λ command _.
        after_if IsMade P (made_by s host command.what) _ (made_by_keeps s host command.what is) (λ next kept. kept)))

    -- where it is kept whoever uses windows
    pub attached_keeps : ((s : Desktop) (window : ℕ) → P s → P (record s { users = with_user s.users window d })) → (s : Desktop) (asked : Attach) → P s → IfOk (whole.attached d s asked) IsMade
    unfolding whole.attached
    attached_keeps joins s Whole is = is
    attached_keeps joins s Unknown is = tt
    attached_keeps joins s (Existing path) is = after_step IsMade (serial_of s.table path 41) _ (λ window _. joins s window is)
    attached_keeps joins s (Fresh path text) is = after_if IsMade IsMade (window_made s path text) _ (window_made_keeps s path text is) (λ made kept. joins made.0 made.1 kept)

    -- A new window's attach keeps it before the session is one that uses it.
    pub made_keeps : (s : Desktop) (path text : List ℕ) (made : Desktop × ℕ) → P s → window_made s path text ≡ Ok made → P made.0
    made_keeps s path text made is e = by (window_made s path text) e (window_made_keeps s path text is)
      where
        by : (o : Outcome (Desktop × ℕ)) → o ≡ Ok made → IfOk o IsMade → P made.0
        by (Ok m) e kept = let same : m ≡ made = cc in subst IsMade same kept
        by (Err n) e kept = absurd cc
