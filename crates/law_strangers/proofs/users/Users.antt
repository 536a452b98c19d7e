-- What a server keeps of the windows and of who uses them.
use Rattle.std.proofs.Common.{◌≡◌, ◌∙◌, ℕ, eqb, ◌==◌, ◌<◌, ◌≤◌, Bool, true, false, List, [], ◌∷◌, ◌⊎◌, inl, inr, find, fold, length, Option, Some, None, Ok, Err, refl, sym, ap, subst, arith, eqb-true, not}
use Rattle.std.specs.Prelude.{IfOk, ◌||◌, ◌&&◌, filter, if◌then◌else◌}
use Rattle.std.specs.List.{list_any}
use Rattle.std.specs.Option.{option_and_then, option_map, unwrap_or}
use Rattle.std.proofs.lemmas.Bool.{cond_both, eqb-false}
use Rattle.std.proofs.lemmas.List.Folds.{list_any-append}
use Rattle.r9_event.specs.declared.event.rio.Note.{Note}
use Rattle.r9_event.specs.declared.event.rio.Note.TheVariants as note
use Rattle.model_text.specs.text.Map.{is_key, lookup, with, without}
use Rattle.model_text.specs.text.Outcome.{Outcome, ◌>>=◌, value_or_refuse}
use Rattle.model_text.proofs.map.Keys.{eqb-same, not_key}
use Rattle.model_text.proofs.map.Maps.{and-others, with-here, with-others, without-others}
use Rattle.model_files.specs.wctl.Reading.{command_of}
use Rattle.model_rio.specs.rio.Table.{Table, Window, below, found, numbered, window_of}
use Rattle.model_rio.specs.rio.Act.{Act}
use Rattle.model_rio.specs.rio.Act as act
use Rattle.model_rio.specs.rio.Step.{Step}
use Rattle.model_rio.specs.rio.Rio.{rio}
use Rattle.model_rio.specs.rio.Notes.{is_told}
use Rattle.model_rio.specs.rio.Sound.{IsSound, IsSoundWindow}
use Rattle.model_rio.proofs.rio.Soundness.{step_sound}
use Rattle.model_files.specs.tree.Attach.{Attach, Whole, Existing, Fresh, Unknown}
use Rattle.model_world.specs.Desktop.{Desktop, is_user, stepped, stepped_if, users_of, users_told, with_user, without_user}
use Rattle.model_world.specs.Whole as whole
use Rattle.model_world.specs.Whole.{left_one, serial_of, used_by, window_made}
use Rattle.model_world.proofs.Others.{after_step}
use Rattle.law_shown.proofs.shown.Tests.{find-passes}
use Rattle.law_shown.proofs.fitting.Lists.{Each, each_found, each_of}
use Rattle.law_others.proofs.serials.Acts.{Spares, acts_count, acts_leave_gone, acts_spare_living, gone_dies, gone_refused}
use Rattle.law_strangers.proofs.steady.Messages.{AllKeep}
use Rattle.law_strangers.proofs.steady.Desktops.{DesktopKeeps, all_keep, attached_keeps, if_keeps, left_keeps, made_keeps}

-- ---- finite maps

-- what is not there does not come
tail_none : {A : Type 0} (b : Bool) (x : A) (o : Option A) → (if b then Some x else o) ≡ None → o ≡ None
tail_none true x o none = absurd cc
tail_none false x o none = none

head_none : {A : Type 0} (b : Bool) (x y : A) (o p : Option A) → (if b then Some x else o) ≡ None → (o ≡ None → p ≡ None) → (if b then Some y else p) ≡ None
head_none true x y o p none more = absurd cc
head_none false x y o p none more = more none

without_none : {A : Type 0} (es : List (ℕ × A)) (key other : ℕ) → lookup es other ≡ None → lookup (without es key) other ≡ None
without_none [] key other none = refl
without_none {A = A} (e ∷ es) key other none = by (is_key key e.0) (without_none es key other)
  where
    by : (here : Bool) → (lookup es other ≡ None → lookup (without es key) other ≡ None) → lookup (if here then es else e ∷ without es key) other ≡ None
    by true more = tail_none (eqb e.0 other) e.1 (lookup es other) none
    by false more = head_none (eqb e.0 other) e.1 e.1 (lookup es other) (lookup (without es key) other) none more

with_none : {A : Type 0} (es : List (ℕ × A)) (key other : ℕ) (value : A) → lookup es other ≡ None → lookup (with es key value) other ≡ None
with_none [] key other value none = refl
with_none {A = A} (e ∷ es) key other value none = by (is_key key e.0) (with_none es key other value)
  where
    by : (here : Bool) → (lookup es other ≡ None → lookup (with es key value) other ≡ None) → lookup (if here then (e.0, value) ∷ es else e ∷ with es key value) other ≡ None
    by true more = head_none (eqb e.0 other) e.1 value (lookup es other) (lookup es other) none (λ there. there)
    by false more = head_none (eqb e.0 other) e.1 e.1 (lookup es other) (lookup (with es key value) other) none more

-- ---- notes

one_told : (users : List (ℕ × List ℕ)) (told : ℕ × Note) (window : ℕ) → Spares window told.0 told.1 → lookup (users_told users told) window ≡ lookup users window
one_told users (at, note.Deleted) window spares = without-others users at window (λ same. spares (sym same))
one_told users (at, note.Made number serial name r depth) window spares = refl
one_told users (at, note.Moved name r) window spares = refl
one_told users (at, note.Resized name r) window spares = refl
one_told users (at, note.Hidden hidden) window spares = refl
one_told users (at, note.Current current) window spares = refl
one_told users (at, note.Mouse x y buttons msec) window spares = refl
one_told users (at, note.Key bytes) window spares = refl

-- notes that do not end a window leave those who use it
all_told : (notes : List (ℕ × Note)) (users : List (ℕ × List ℕ)) (window : ℕ) → Each (λ told. Spares window told.0 told.1) notes → lookup (fold users_told users notes) window ≡ lookup users window
all_told [] users window each = refl
all_told (told ∷ notes) users window each = all_told notes (users_told users told) window each.1 ∙ one_told users told window each.0

one_unused : (users : List (ℕ × List ℕ)) (told : ℕ × Note) (window : ℕ) → lookup users window ≡ None → lookup (users_told users told) window ≡ None
one_unused users (at, note.Deleted) window none = without_none users at window none
one_unused users (at, note.Made number serial name r depth) window none = none
one_unused users (at, note.Moved name r) window none = none
one_unused users (at, note.Resized name r) window none = none
one_unused users (at, note.Hidden hidden) window none = none
one_unused users (at, note.Current current) window none = none
one_unused users (at, note.Mouse x y buttons msec) window none = none
one_unused users (at, note.Key bytes) window none = none

pub all_unused : (notes : List (ℕ × Note)) (users : List (ℕ × List ℕ)) (window : ℕ) → lookup users window ≡ None → lookup (fold users_told users notes) window ≡ None
all_unused [] users window none = none
all_unused (told ∷ notes) users window none = all_unused notes (users_told users told) window (one_unused users told window none)

-- ---- the windows of a server

-- a window that is found was given its serial
pub found_given : (table : Table) → IsSound table → (window : ℕ) (w : Window) → window_of table window ≡ Some w → window ≤ table.serials
found_given table sound window w at =
    let is = (each_found (IsSoundWindow table) (λ (v : Window). v.serial == window) table.windows w (each_of (IsSoundWindow table) table.windows sound.windows) at).given in
    let same = eqb-true w.serial window (find-passes (λ (v : Window). v.serial == window) table.windows w at) in
    omega (arith, is, same)

-- None uses a window that is still to be made.
pub record IsRegular (s : Desktop) : Type 0 where
  pub sound : IsSound s.table
  pub unused : (window : ℕ) → s.table.serials < window → lookup s.users window ≡ None

module _ (d : ℕ) where
  regular_acts : (s : Desktop) (a : Act) (step : Step) → IsRegular s → rio s.table a ≡ Ok step → IsRegular (stepped s step)
  unfolding stepped
  regular_acts s a step is e =
      let more = acts_count s.table a step e in
      record { sound = step_sound s.table a step is.sound e; unused = λ window later. all_unused step.notes s.users window (is.unused window (omega (arith, more, later))) }

  regular_beside : (s next : Desktop) → next.table ≡ s.table → next.users ≡ s.users → next.notes ≡ s.notes → IsRegular s → IsRegular next
  regular_beside s next table users notes is = record {
    sound = subst IsSound (sym table) is.sound;
    unused = λ window later. ap (λ (us : List (ℕ × List ℕ)). lookup us window) users ∙ is.unused window (subst (λ (t : Table). t.serials < window) table later);
  }

  regular_keep : DesktopKeeps d IsRegular
  regular_keep = record {
    acts = regular_acts;
    beside = regular_beside;
    leaves = left_keeps d IsRegular regular_acts (λ s window is. record { sound = is.sound; unused = λ other later. with_none s.users window other _ (is.unused other later) });
  }

  -- Each call of a session's outside keeps it,
  pub regular_all : AllKeep (whole.desktop_for d) IsRegular
  regular_all = all_keep d IsRegular regular_keep

  -- ---- attaches

  numbered_given : (table : Table) → IsSound table → (host number serial : ℕ) → numbered table host number ≡ Some serial → serial ≤ table.serials
  numbered_given table sound host number serial e = by (find (λ (w : Window). (w.host == host) && (w.number == number)) table.windows) refl e
    where
      by : (o : Option Window) → find (λ (w : Window). (w.host == host) && (w.number == number)) table.windows ≡ o → option_map (λ w. w.serial) o ≡ Some serial → serial ≤ table.serials
      by None at e = absurd cc
      by (Some w) at e =
          let same : w.serial ≡ serial = cc in
          subst (λ (n : ℕ). n ≤ table.serials) same (each_found (IsSoundWindow table) _ table.windows w (each_of (IsSoundWindow table) table.windows sound.windows) at).given

  below_given : (table : Table) → IsSound table → (path : List ℕ) (host serial : ℕ) → host ≤ table.serials → below table host path ≡ Some serial → serial ≤ table.serials
  below_given table sound [] host serial given e = let same : host ≡ serial = cc in subst (λ (n : ℕ). n ≤ table.serials) same given
  below_given table sound (number ∷ numbers) host serial given e = by (below_given table sound numbers) (numbered table host number) refl e
    where
      by : ((host serial : ℕ) → host ≤ table.serials → below table host numbers ≡ Some serial → serial ≤ table.serials) → (o : Option ℕ) → numbered table host number ≡ o
          → option_and_then (λ n. below table n numbers) o ≡ Some serial → serial ≤ table.serials
      by more None at e = absurd cc
      by more (Some n) at e = more n serial (numbered_given table sound host number n at) e

  -- the window of a path was given its serial
  pub path_given : (table : Table) → IsSound table → (path : List ℕ) (n window : ℕ) → serial_of table path n ≡ Ok window → window ≤ table.serials
  unfolding found
  path_given table sound path n window e = by path e
    where
      there : (o : Option ℕ) → value_or_refuse o n ≡ Ok window → o ≡ Some window
      there (Some w) e = cc
      there None e = absurd cc

      by : (path : List ℕ) → serial_of table path n ≡ Ok window → window ≤ table.serials
      by [] e = absurd cc
      by (number ∷ numbers) e = below_given table sound (number ∷ numbers) 0 window (omega arith) (there (below table 0 (number ∷ numbers)) e)

  regular_joins : (s : Desktop) (window : ℕ) → window ≤ s.table.serials → IsRegular s → IsRegular (record s { users = with_user s.users window d })
  regular_joins s window given is = record { sound = is.sound; unused = λ other later. and-others s.users window other _ (λ same. absurd (omega (arith, given, later, same))) ∙ is.unused other later }

  -- a new window has the last serial that was given
  pub made_window : (s : Desktop) (path text : List ℕ) (made : Desktop × ℕ) → window_made s path text ≡ Ok made → made.1 ≡ made.0.table.serials
  unfolding window_made
  made_window s path text made e = by (window_made s path text) e shown
    where
      shown : IfOk (window_made s path text) (λ m. m.1 ≡ m.0.table.serials)
      shown =
          after_step (λ (m : Desktop × ℕ). m.1 ≡ m.0.table.serials) (whole.host_of s.table path 41) _ (λ host _.
          after_step (λ (m : Desktop × ℕ). m.1 ≡ m.0.table.serials) (value_or_refuse (command_of false text) 47) _ (λ command _.
          after_step (λ (m : Desktop × ℕ). m.1 ≡ m.0.table.serials) (whole.made_by s host command.what) _ (λ next _. refl)))

      by : (o : Outcome (Desktop × ℕ)) → o ≡ Ok made → IfOk o (λ m. m.1 ≡ m.0.table.serials) → made.1 ≡ made.0.table.serials
      by (Ok m) e is = let same : m ≡ made = cc in subst (λ (m : Desktop × ℕ). m.1 ≡ m.0.table.serials) same is
      by (Err n) e is = absurd cc

  -- and so does each attach.
  pub regular_attached : (s : Desktop) (asked : Attach) → IsRegular s → IfOk (whole.attached d s asked) (λ root. IsRegular root.0)
  unfolding whole.attached
  regular_attached s Whole is = is
  regular_attached s Unknown is = tt
  regular_attached s (Existing path) is = after_step (λ (root : Desktop × ℕ). IsRegular root.0) (serial_of s.table path 41) _ (λ window e. regular_joins s window (path_given s.table is.sound path 41 window e) is)
  regular_attached s (Fresh path text) is =
      after_step (λ (root : Desktop × ℕ). IsRegular root.0) (window_made s path text) _ (λ made e.
      let last = made_window s path text made e in regular_joins made.0 made.1 (omega (arith, last)) (made_keeps d IsRegular regular_keep s path text made is e))

-- ---- one window

-- The window, whose serial was given, does not live,
pub record IsLost (window : ℕ) (s : Desktop) : Type 0 where
  pub sound : IsSound s.table
  pub given : window ≤ s.table.serials
  pub gone : window_of s.table window ≡ None

-- and nothing was told to it in the turn.
pub record IsSilent (window : ℕ) (s : Desktop) : Type 0 where
  pub lost : IsLost window s
  pub quiet : is_told window s.notes ≡ false

-- Where it lives, session c uses it, and none else.
pub record IsUsedBy (c window : ℕ) (s : Desktop) : Type 0 where
  pub sound : IsSound s.table
  pub given : window ≤ s.table.serials
  pub alone : (window_of s.table window ≡ None) ⊎ (lookup s.users window ≡ Some (c ∷ []))

pub lost_used : (c window : ℕ) (s : Desktop) → IsLost window s → IsUsedBy c window s
lost_used c window s is = record { sound = is.sound; given = is.given; alone = inl is.gone }

module _ (d window : ℕ) where
  lost_acts : (s : Desktop) (a : Act) (step : Step) → IsLost window s → rio s.table a ≡ Ok step → IsLost window (stepped s step)
  unfolding stepped
  lost_acts s a step is e =
      let more = acts_count s.table a step e in
      let given = is.given in
      record { sound = step_sound s.table a step is.sound e; given = omega (arith, more, given); gone = (acts_leave_gone window s.table is.sound is.gone given a step e).gone }

  lost_beside : (s next : Desktop) → next.table ≡ s.table → IsLost window s → IsLost window next
  lost_beside s next table is = record {
    sound = subst IsSound (sym table) is.sound;
    given = subst (λ (t : Table). window ≤ t.serials) (sym table) is.given;
    gone = ap (λ (t : Table). window_of t window) table ∙ is.gone;
  }

  lost_keep : DesktopKeeps d (IsLost window)
  lost_keep = record {
    acts = lost_acts;
    beside = λ s next table users notes is. lost_beside s next table is;
    leaves = left_keeps d (IsLost window) lost_acts (λ s other is. record { sound = is.sound; given = is.given; gone = is.gone });
  }

  -- A window that does not live comes never back,
  pub lost_all : AllKeep (whole.desktop_for d) (IsLost window)
  lost_all = all_keep d (IsLost window) lost_keep

  pub lost_attached : (s : Desktop) (asked : Attach) → IsLost window s → IfOk (whole.attached d s asked) (λ root. IsLost window root.0)
  lost_attached = attached_keeps d (IsLost window) lost_keep (λ s other is. record { sound = is.sound; given = is.given; gone = is.gone })

  silent_acts : (s : Desktop) (a : Act) (step : Step) → IsSilent window s → rio s.table a ≡ Ok step → IsSilent window (stepped s step)
  unfolding stepped
  silent_acts s a step is e = record {
    lost = lost_acts s a step is.lost e;
    quiet = list_any-append (λ (told : ℕ × Note). told.0 == window) s.notes step.notes ∙ ap (λ (b : Bool). b || is_told window step.notes) is.quiet ∙ (acts_leave_gone window s.table is.lost.sound is.lost.gone is.lost.given a step e).quiet;
  }

  silent_users : (s : Desktop) (users : List (ℕ × List ℕ)) → IsSilent window s → IsSilent window (record s { users = users })
  silent_users s users is = record { lost = lost_beside s (record s { users = users }) refl is.lost; quiet = is.quiet }

  silent_keep : DesktopKeeps d (IsSilent window)
  silent_keep = record {
    acts = silent_acts;
    beside = λ s next table users notes is. record { lost = lost_beside s next table is.lost; quiet = ap (is_told window) notes ∙ is.quiet };
    leaves = left_keeps d (IsSilent window) silent_acts (λ s other is. silent_users s (without_user s.users other d) is);
  }

  -- and is told nothing.
  pub silent_all : AllKeep (whole.desktop_for d) (IsSilent window)
  silent_all = all_keep d (IsSilent window) silent_keep

  pub silent_attached : (s : Desktop) (asked : Attach) → IsSilent window s → IfOk (whole.attached d s asked) (λ root. IsSilent window root.0)
  silent_attached = attached_keeps d (IsSilent window) silent_keep (λ s other is. silent_users s (with_user s.users other d) is)

-- ---- who uses it

module _ (c window : ℕ) where
  used_acts : (s : Desktop) (a : Act) (step : Step) → IsUsedBy c window s → rio s.table a ≡ Ok step → IsUsedBy c window (stepped s step)
  unfolding stepped
  used_acts s a step is e = record { sound = step_sound s.table a step is.sound e; given = omega (arith, more, given); alone = by is.alone }
    where
      more : s.table.serials ≤ step.table.serials
      more = acts_count s.table a step e

      given : window ≤ s.table.serials
      given = is.given

      lives : lookup s.users window ≡ Some (c ∷ []) → (o : Option Window) → window_of step.table window ≡ o → (window_of step.table window ≡ None) ⊎ (lookup (fold users_told s.users step.notes) window ≡ Some (c ∷ []))
      lives alone None at = inl at
      lives alone (Some w) at = inr (all_told step.notes s.users window (acts_spare_living window s.table a step e (λ none. absurd (let two : ◌≡◌ {A = Option Window} (Some w) None = sym at ∙ none in cc))) ∙ alone)

      by : (window_of s.table window ≡ None) ⊎ (lookup s.users window ≡ Some (c ∷ [])) → (window_of step.table window ≡ None) ⊎ (lookup (fold users_told s.users step.notes) window ≡ Some (c ∷ []))
      by (inl none) = inl (acts_leave_gone window s.table is.sound none is.given a step e).gone
      by (inr alone) = lives alone (window_of step.table window) refl

  used_beside : (s next : Desktop) → next.table ≡ s.table → next.users ≡ s.users → next.notes ≡ s.notes → IsUsedBy c window s → IsUsedBy c window next
  used_beside s next table users notes is = record {
    sound = subst IsSound (sym table) is.sound;
    given = subst (λ (t : Table). window ≤ t.serials) (sym table) is.given;
    alone = by is.alone;
  }
    where
      by : (window_of s.table window ≡ None) ⊎ (lookup s.users window ≡ Some (c ∷ [])) → (window_of next.table window ≡ None) ⊎ (lookup next.users window ≡ Some (c ∷ []))
      by (inl none) = inl (ap (λ (t : Table). window_of t window) table ∙ none)
      by (inr alone) = inr (ap (λ (us : List (ℕ × List ℕ)). lookup us window) users ∙ alone)

  -- other users of other windows make no difference
  used_users : (s : Desktop) (users : List (ℕ × List ℕ)) → lookup users window ≡ lookup s.users window → IsUsedBy c window s → IsUsedBy c window (record s { users = users })
  used_users s users same is = record { sound = is.sound; given = is.given; alone = by is.alone }
    where
      by : (window_of s.table window ≡ None) ⊎ (lookup s.users window ≡ Some (c ∷ [])) → (window_of s.table window ≡ None) ⊎ (lookup users window ≡ Some (c ∷ []))
      by (inl none) = inl none
      by (inr alone) = inr (same ∙ alone)

  -- a session leaves another window
  other_left : (d : ℕ) (s : Desktop) (other : ℕ) → (window ≡ other → ⊥) → IsUsedBy c window s → IsUsedBy c window (left_one d s other)
  unfolding left_one
  other_left d s other apart is =
      let left : Desktop = record s { users = without_user s.users other d } in
      let same : IsUsedBy c window left = used_users s (without_user s.users other d) (with-others s.users other window _ apart) is in
      cond_both (not (is_user s.users other d)) s _ (IsUsedBy c window) (λ _. is) (λ _.
      cond_both (length (users_of left.users other) == 0) (stepped_if left (rio left.table (act.Gone other))) left (IsUsedBy c window) (λ _. if_keeps d (IsUsedBy c window) used_acts left (act.Gone other) same) (λ _. same))

  -- where the window does not live it comes not back
  lost_left : (d : ℕ) (s : Desktop) → IsUsedBy c window s → window_of s.table window ≡ None → IsLost window (left_one d s window)
  lost_left d s is none = (lost_keep d window).leaves s window (record { sound = is.sound; given = is.given; gone = none })

  -- another session does not use it
  stranger_left : (d : ℕ) (s : Desktop) → (d ≡ c → ⊥) → lookup s.users window ≡ Some (c ∷ []) → left_one d s window ≡ s
  unfolding left_one
  stranger_left d s other alone = rw (none) refl
    where
      none : is_user s.users window d ≡ false
      none = ap (λ (o : Option (List ℕ)). list_any (λ e. e == d) (unwrap_or o [])) alone ∙ ap (λ (b : Bool). b || false) (not_key c d (λ same. other (sym same)))

  used_leaves : (d : ℕ) → (d ≡ c → ⊥) → (s : Desktop) (other : ℕ) → IsUsedBy c window s → IsUsedBy c window (left_one d s other)
  used_leaves d stranger s other is = by (eqb window other) refl
    where
      here : (window_of s.table window ≡ None) ⊎ (lookup s.users window ≡ Some (c ∷ [])) → IsUsedBy c window (left_one d s window)
      here (inl none) = lost_used c window (left_one d s window) (lost_left d s is none)
      here (inr alone) = subst (IsUsedBy c window) (sym (stranger_left d s stranger alone)) is

      by : (b : Bool) → eqb window other ≡ b → IsUsedBy c window (left_one d s other)
      by true at = subst (λ (n : ℕ). IsUsedBy c window (left_one d s n)) (eqb-true window other at) (here is.alone)
      by false at = other_left d s other (eqb-false window other at) is

  -- What others do leaves that the session alone uses the window,
  pub used_all : (d : ℕ) → (d ≡ c → ⊥) → AllKeep (whole.desktop_for d) (IsUsedBy c window)
  used_all d stranger = all_keep d (IsUsedBy c window) (record { acts = used_acts; beside = used_beside; leaves = used_leaves d stranger })

  -- ---- the session itself leaves it

  own_users : (s : Desktop) → lookup s.users window ≡ Some (c ∷ []) → (is_user s.users window c ≡ true) × (users_of (without_user s.users window c) window ≡ [])
  own_users s alone = (
    ap (λ (o : Option (List ℕ)). list_any (λ e. e == c) (unwrap_or o [])) alone ∙ ap (λ (b : Bool). b || false) (eqb-same c),
    ap (λ (o : Option (List ℕ)). unwrap_or o []) (with-here s.users window (c ∷ []) _ alone)
        ∙ ap (λ (o : Option (List ℕ)). filter (λ e. not (e == c)) (unwrap_or o [])) alone ∙ ap (λ (b : Bool). if not b then c ∷ [] else []) (eqb-same c),
  )

  -- The window goes where the session leaves it.
  pub own_left : (s : Desktop) → IsUsedBy c window s → IsLost window (left_one c s window)
  unfolding left_one stepped
  own_left s is = by is.alone
    where
      left : Desktop
      left = record s { users = without_user s.users window c }

      goes : (o : Outcome Step) → rio s.table (act.Gone window) ≡ o → IsLost window (stepped_if left o)
      goes (Ok step) e =
          let more = acts_count s.table (act.Gone window) step e in
          let given = is.given in
          record { sound = step_sound s.table (act.Gone window) step is.sound e; given = omega (arith, more, given); gone = gone_dies window s.table step e }
      goes (Err n) e = record { sound = is.sound; given = is.given; gone = gone_refused window s.table n e }

      by : (window_of s.table window ≡ None) ⊎ (lookup s.users window ≡ Some (c ∷ [])) → IsLost window (left_one c s window)
      by (inl none) = lost_left c s is none
      by (inr alone) =
          let own = own_users s alone in
          let none : (length (users_of left.users window) == 0) ≡ true = ap (λ (us : List ℕ). length us == 0) own.1 in
          rw (own.0, none) (goes (rio s.table (act.Gone window)) refl)

  own_leaves : (s : Desktop) (other : ℕ) → IsUsedBy c window s → IsUsedBy c window (left_one c s other)
  own_leaves s other is = by (eqb window other) refl
    where
      by : (b : Bool) → eqb window other ≡ b → IsUsedBy c window (left_one c s other)
      by true at = subst (λ (n : ℕ). IsUsedBy c window (left_one c s n)) (eqb-true window other at) (lost_used c window (left_one c s window) (own_left s is))
      by false at = other_left c s other (eqb-false window other at) is

  -- and so does what it does itself.
  pub own_all : AllKeep (whole.desktop_for c) (IsUsedBy c window)
  own_all = all_keep c (IsUsedBy c window) (record { acts = used_acts; beside = used_beside; leaves = own_leaves })

  -- Where the session leaves windows, and this one among them, it goes.
  pub all_own_left : (windows : List ℕ) (s : Desktop) → list_any (λ n. n == window) windows ≡ true → IsUsedBy c window s → IsLost window ((whole.desktop_for c).left s windows)
  all_own_left [] s among is = absurd cc
  all_own_left (n ∷ windows) s among is = by (n == window) refl among (all_own_left windows (left_one c s n))
    where
      by : (b : Bool) → (n == window) ≡ b → (b || list_any (λ m. m == window) windows) ≡ true → (list_any (λ m. m == window) windows ≡ true → IsUsedBy c window (left_one c s n) → IsLost window (fold (left_one c) (left_one c s n) windows))
          → IsLost window (fold (left_one c) (left_one c s n) windows)
      by true at among more =
          (lost_all c window).left (left_one c s n) windows
          (subst (λ (m : ℕ). IsLost window (left_one c s m)) (sym (eqb-true n window at)) (own_left s is))
      by false at among more = more among (own_leaves s n is)

  -- ---- attaches of others

  -- An attach of another session that leads to another window keeps it.
  pub used_attached : (d : ℕ) → (d ≡ c → ⊥) → (s : Desktop) (asked : Attach) (root : Desktop × ℕ) → (window ≡ root.1 → ⊥) → whole.attached d s asked ≡ Ok root → IsUsedBy c window s → IsUsedBy c window root.0
  unfolding whole.attached
  used_attached d stranger s asked root apart e is = by asked e
    where
      keep : DesktopKeeps d (IsUsedBy c window)
      keep = record { acts = used_acts; beside = used_beside; leaves = used_leaves d stranger }

      joins : (next : Desktop) (other : ℕ) → IsUsedBy c window next → ◌≡◌ {A = Outcome (Desktop × ℕ)} (Ok (used_by d (next, other))) (Ok root) → IsUsedBy c window root.0
      joins next other was e =
          let same : used_by d (next, other) ≡ root = cc in
          subst (λ (r : Desktop × ℕ). IsUsedBy c window r.0) same
          (used_users next (with_user next.users other d) (and-others next.users other window _ (λ at. apart (at ∙ ap (λ (r : Desktop × ℕ). r.1) same))) was)

      path_joins : (o : Outcome ℕ) → (o >>= λ n. Ok (used_by d (s, n))) ≡ Ok root → IsUsedBy c window root.0
      path_joins (Ok n) e = joins s n is e
      path_joins (Err n) e = absurd cc

      made_joins : (path text : List ℕ) (o : Outcome (Desktop × ℕ)) → window_made s path text ≡ o → (o >>= λ made. Ok (used_by d made)) ≡ Ok root → IsUsedBy c window root.0
      made_joins path text (Ok made) at e = joins made.0 made.1 (made_keeps d (IsUsedBy c window) keep s path text made is at) e
      made_joins path text (Err n) at e = absurd cc

      by : (asked : Attach) → whole.attached d s asked ≡ Ok root → IsUsedBy c window root.0
      by Whole e = let same : (s, 0) ≡ root = cc in subst (λ (r : Desktop × ℕ). IsUsedBy c window r.0) same is
      by Unknown e = absurd cc
      by (Existing path) e = path_joins (serial_of s.table path 41) e
      by (Fresh path text) e = made_joins path text (window_made s path text) refl e
