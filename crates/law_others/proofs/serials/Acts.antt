-- Which windows an act tells, and that it gives serials in order.
use Rattle.std.proofs.Common.{◌≡◌, ◌≢◌, ◌∙◌, ℕ, zero, suc, ◌==◌, ◌<◌, ◌≤◌, Bool, true, false, not, List, [], ◌∷◌, ◌⊎◌, inl, inr, fold, Option, Some, None, Ok, Err, refl, sym, ap, subst, arith, eqb-true, ne_eqb}
use Rattle.std.specs.Prelude.{IfSome, IsSomeAnd, ◌||◌, if◌then◌else◌}
use Rattle.std.proofs.lemmas.Bool.{cond_both, eqb-false}
use Rattle.r9_event.specs.declared.event.rio.Note.{Note}
use Rattle.model_text.specs.text.Outcome.{◌>>=◌, value_or_refuse}
use Rattle.model_files.specs.wctl.Command as wctl
use Rattle.model_rio.specs.rio.Table.{Window, Rio, Table, Hold, Free, Held, Nobody, current_of, deepest, hold_of, made_in, window_of}
use Rattle.model_rio.specs.rio.Act.{Act}
use Rattle.model_rio.specs.rio.Act as act
use Rattle.model_rio.specs.rio.Step.{Step, begun, is_held, is_same, not_current, retired, told_current, with_current, with_hold, with_rio, without}
use Rattle.model_rio.specs.rio.Moving.{deleted, dropped}
use Rattle.model_rio.specs.rio.Rio.{command_to, commanded, rio}
use Rattle.model_rio.specs.rio.Notes.{is_told}
use Rattle.model_rio.specs.rio.Sound.{IfHeld, IsSeenIn, IsSound, IsSoundRio, window_in}
use Rattle.law_shown.proofs.shown.Tests.{find-passes, same_Ok, value_ok}
use Rattle.law_shown.proofs.fitting.Lists.{Each, each_filter, each_of, each_then}
use Rattle.law_others.proofs.serials.Walking.{IsAt, IsLasting, Knows, MayEnd, act_at, deletes, dropped_at}

-- of each
all_true : {X : Type 0} (xs : List X) → Each (λ (x : X). Unit {0}) xs
all_true [] = tt
all_true (x ∷ xs) = (tt, all_true xs)

-- ---- serials

abbrev Anything : ℕ → Type 0
Anything serial = Unit {0}

abbrev Any : ℕ → Note → Type 0
Any serial n = Unit {0}

module _ (least : ℕ) where
  knows_all : (rios : List Rio) → Each (Knows Anything Any least (λ serial n lasting has. tt) (λ serial later. tt)) rios
  knows_all [] = tt
  knows_all (rio ∷ rios) = (record { current = some rio.current; hold = held rio.hold }, knows_all rios)
    where
      some : (o : Option ℕ) → IfSome o Anything
      some None = tt
      some (Some serial) = tt

      held : (hold : Hold) → IfHeld hold Anything
      held (Held serial) = tt
      held Free = tt
      held Nobody = tt

  may_end : (b : Bool) → MayEnd Anything Any least (λ serial n lasting has. tt) (λ serial later. tt) b
  may_end true = λ serial has. tt
  may_end false = tt

-- An act gives serials in order: those that were given stay so.
pub acts_count : (table : Table) (a : Act) (out : Step) → rio table a ≡ Ok out → table.serials ≤ out.table.serials
acts_count table a out e =
    let least = table.serials in
    (act_at Anything Any least (λ serial n lasting has. tt) (λ serial later. tt) table a out (may_end least (deletes a))
    (record { windows = all_true table.windows; rios = knows_all least (table.root ∷ table.rios); notes = tt; serials = omega arith }) e).serials

-- ---- windows that do not live

none_there : (ws : List Window) (window : ℕ) → window_in ws window ≡ None → Each (λ v. v.serial ≢ window) ws
none_there [] window none = tt
none_there (v ∷ vs) window none = by (v.serial == window) refl none (none_there vs window)
  where
    by : (b : Bool) → (v.serial == window) ≡ b → (if b then Some v else window_in vs window) ≡ None → (window_in vs window ≡ None → Each (λ u. u.serial ≢ window) vs) → Each (λ u. u.serial ≢ window) (v ∷ vs)
    by true is none more = absurd cc
    by false is none more = (eqb-false v.serial window is, more none)

there_none : (ws : List Window) (window : ℕ) → Each (λ v. v.serial ≢ window) ws → window_in ws window ≡ None
there_none [] window each = refl
there_none (v ∷ vs) window each = ap (λ (b : Bool). if b then Some v else window_in vs window) (ne_eqb v.serial window each.0) ∙ there_none vs window each.1

untold : (window : ℕ) (notes : List (ℕ × Note)) → Each (λ told. told.0 ≢ window) notes → is_told window notes ≡ false
untold window [] each = refl
untold window (told ∷ notes) each = ap (λ (b : Bool). b || is_told window notes) (ne_eqb told.0 window each.0) ∙ untold window notes each.1

-- what an act leaves of a window that does not live
pub record StaysGone (window : ℕ) (out : Step) : Type 0 where
  pub gone : window_of out.table window ≡ None
  pub quiet : is_told window out.notes ≡ false

module _ (window : ℕ) where
  abbrev Other : ℕ → Type 0
  Other serial = serial ≢ window

  abbrev TellsOther : ℕ → Note → Type 0
  TellsOther serial n = serial ≢ window

  fair_other : (serial : ℕ) (n : Note) → IsLasting n → Other serial → TellsOther serial n
  fair_other serial n lasting other = other

  later_other : (serial : ℕ) → window < serial → Other serial
  later_other serial later same = omega (arith, later, same)

  end_other : (b : Bool) → MayEnd Other TellsOther window fair_other later_other b
  end_other true = λ serial other. other
  end_other false = tt

  module _ (table : Table) (sound : IsSound table) (none : window_of table window ≡ None) where
    seen_other : (host serial : ℕ) → IsSeenIn table.windows host serial → Other serial
    seen_other host serial seen same = by (window_in table.windows serial) (ap (window_in table.windows) same ∙ none) seen
      where
        by : (o : Option Window) → o ≡ None → IsSomeAnd o (λ w. (w.host ≡ host) × (w.hidden ≡ false)) → ⊥
        by None is seen = seen
        by (Some w) is seen = absurd cc

    knows_other : (rio : Rio) → IsSoundRio table.windows rio → Knows Other TellsOther window fair_other later_other rio
    knows_other rio is = record { current = some rio.current is.current; hold = held rio.hold is.hold }
      where
        some : (o : Option ℕ) → IfSome o (IsSeenIn table.windows rio.host) → IfSome o Other
        some None seen = tt
        some (Some serial) seen = seen_other rio.host serial seen

        held : (hold : Hold) → IfHeld hold (IsSeenIn table.windows rio.host) → IfHeld hold Other
        held (Held serial) seen = seen_other rio.host serial seen
        held Free seen = tt
        held Nobody seen = tt

    -- A window that does not live, and whose serial was given, is told nothing, and lives no more.
    pub acts_leave_gone : window ≤ table.serials → (a : Act) (out : Step) → rio table a ≡ Ok out → StaysGone window out
    acts_leave_gone given a out e = record { gone = there_none out.table.windows window after.windows; quiet = untold window out.notes after.notes }
      where
        after : IsAt Other TellsOther window fair_other later_other out
        after = act_at Other TellsOther window fair_other later_other table a out (end_other (deletes a)) (record {
          windows = none_there table.windows window none;
          rios = each_then (IsSoundRio table.windows) (Knows Other TellsOther window fair_other later_other) knows_other (table.root ∷ table.rios) (each_of (IsSoundRio table.windows) (table.root ∷ table.rios) sound.rios);
          notes = tt;
          serials = given;
        }) e

-- ---- windows that are deleted

module _ (window : ℕ) where
  -- a note that does not end the window
  abbrev pub Spares : ℕ → Note → Type 0
  Spares serial n = serial ≡ window → IsLasting n

  fair_spares : (serial : ℕ) (n : Note) → IsLasting n → Anything serial → Spares serial n
  fair_spares serial n lasting has same = lasting

  abbrev Spared : Step → Type 0
  Spared step = IsAt Anything Spares 0 fair_spares (λ serial later. tt) step

  abbrev Gone : Step → Type 0
  Gone step = Each (λ (v : Window). v.serial ≢ window) step.table.windows

  -- no note ends the window, or it is gone
  abbrev Fate : Step → Type 0
  Fate step = Spared step ⊎ Gone step

  retired_windows : (host serial : ℕ) (step : Step) → (retired host serial step).table.windows ≡ step.table.windows
  unfolding retired with_current
  retired_windows host serial step = current ∙ sym refl
    where
      told : (o : Option ℕ) (is : Bool) (s : Step) → (told_current o is s).table.windows ≡ s.table.windows
      told None is s = refl
      told (Some n) is s = refl

      changed_current : (with_current host None step).table.windows ≡ step.table.windows
      changed_current =
          let old = current_of step.table host in
          let next : Step = with_rio host (λ rio. record rio { current = None }) step in
          cond_both (is_same old None) step (told_current None true (told_current old false next)) (λ (s : Step). s.table.windows ≡ step.table.windows) (λ _. refl) (λ _. told old false next)

      idle_windows : (not_current host serial step).table.windows ≡ step.table.windows
      idle_windows = cond_both (is_same (current_of step.table host) (Some serial)) (with_current host None step) step (λ (s : Step). s.table.windows ≡ step.table.windows) (λ _. changed_current) (λ _. refl)

      current : (retired host serial step).table.windows ≡ step.table.windows
      current =
          let idle = not_current host serial step in
          cond_both (is_held serial (hold_of idle.table host)) (with_hold host Nobody idle) idle (λ (s : Step). s.table.windows ≡ step.table.windows) (λ _. idle_windows) (λ _. idle_windows)

  none_without : (serial : ℕ) (ws : List Window) → Each (λ (v : Window). v.serial ≢ serial) (without serial ws)
  none_without serial ws = each_filter (λ (v : Window). Unit {0}) (λ (v : Window). v.serial ≢ serial) (λ v. not (v.serial == serial)) apart ws (all_true ws)
    where
      off : (b : Bool) → not b ≡ true → b ≡ false
      off true is = absurd cc
      off false is = refl

      apart : (v : Window) → not (v.serial == serial) ≡ true → Unit {0} → v.serial ≢ serial
      apart v is _ = eqb-false v.serial serial (off (v.serial == serial) is)

  dropped_windows : (v : Window) (step : Step) → (dropped v step).table.windows ≡ without v.serial step.table.windows
  unfolding dropped
  dropped_windows v step = ap (without v.serial) (retired_windows v.host v.serial step)

  dropped_fate : (v : Window) (step : Step) → Fate step → Fate (dropped v step)
  dropped_fate v step (inr gone) =
      inr (subst (Each (λ (u : Window). u.serial ≢ window)) (sym (dropped_windows v step)) (each_filter (λ (u : Window). u.serial ≢ window) (λ (u : Window). u.serial ≢ window) (λ u. not (u.serial == v.serial)) (λ u _ is. is) step.table.windows gone))
  dropped_fate v step (inl spared) = by (v.serial == window) refl
    where
      by : (b : Bool) → (v.serial == window) ≡ b → Fate (dropped v step)
      by true same =
          inr (subst (Each (λ (u : Window). u.serial ≢ window)) (sym (dropped_windows v step))
          (subst (λ (n : ℕ). Each (λ (u : Window). u.serial ≢ n) (without v.serial step.table.windows)) (eqb-true v.serial window same) (none_without v.serial step.table.windows)))
      by false other = inl (dropped_at Anything Spares 0 fair_spares (λ serial later. tt) v step (λ same. absurd (eqb-false v.serial window other same)) spared)

  all_fate : (delete : Window → Step → Step) → ((v : Window) (step : Step) → Fate step → Fate (delete v step)) → (vs : List Window) (step : Step) → Fate step → Fate (fold (λ step v. delete v step) step vs)
  all_fate delete goes [] step fate = fate
  all_fate delete goes (v ∷ vs) step fate = all_fate delete goes vs (delete v step) (goes v step fate)

  deleted_fate : (levels : ℕ) (v : Window) (step : Step) → Fate step → Fate (deleted levels v step)
  unfolding deleted
  deleted_fate zero v step fate = fate
  deleted_fate (suc levels) v step fate =
      dropped_fate v (fold (λ step u. deleted levels u step) step (made_in step.table v.serial)) (all_fate (deleted levels) (deleted_fate levels) (made_in step.table v.serial) step fate)

  first_spared : (table : Table) → Spared (begun table)
  first_spared table = record { windows = all_true table.windows; rios = knows_any (table.root ∷ table.rios); notes = tt; serials = omega arith }
    where
      knows_any : (rios : List Rio) → Each (Knows Anything Spares 0 fair_spares (λ serial later. tt)) rios
      knows_any rios = each_then _ _ (λ rio was. record { current = was.current; hold = was.hold }) rios (knows_all 0 rios)

  end_fate : (serial : ℕ) (table : Table) (out : Step) → command_to serial wctl.Delete (begun table) ≡ Ok out → Fate out
  unfolding command_to
  end_fate serial table out e =
      let found = value_ok (window_of table serial) 42 _ out e in
      subst Fate (same_Ok (deleted deepest found.0 (begun table)) out found.2) (deleted_fate deepest found.0 (begun table) (inl (first_spared table)))

  act_fate : (table : Table) (a : Act) (out : Step) → rio table a ≡ Ok out → Fate out
  act_fate table (act.Command serial wctl.Delete) out e = end_fate serial table out e
  act_fate table (act.Gone serial) out e = end_fate serial table out e
  act_fate table (act.New host options hide) out e = inl (act_at Anything Spares 0 fair_spares (λ serial later. tt) table (act.New host options hide) out tt (first_spared table) e)
  act_fate table (act.Mouse pointer) out e = inl (act_at Anything Spares 0 fair_spares (λ serial later. tt) table (act.Mouse pointer) out tt (first_spared table) e)
  act_fate table (act.Size width height) out e = inl (act_at Anything Spares 0 fair_spares (λ serial later. tt) table (act.Size width height) out tt (first_spared table) e)
  act_fate table (act.Keys bytes) out e = inl (act_at Anything Spares 0 fair_spares (λ serial later. tt) table (act.Keys bytes) out tt (first_spared table) e)
  act_fate table (act.Command serial (wctl.New options hide)) out e = inl (act_at Anything Spares 0 fair_spares (λ serial later. tt) table (act.Command serial (wctl.New options hide)) out tt (first_spared table) e)
  act_fate table (act.Command serial (wctl.Resize options)) out e = inl (act_at Anything Spares 0 fair_spares (λ serial later. tt) table (act.Command serial (wctl.Resize options)) out tt (first_spared table) e)
  act_fate table (act.Command serial (wctl.Move options)) out e = inl (act_at Anything Spares 0 fair_spares (λ serial later. tt) table (act.Command serial (wctl.Move options)) out tt (first_spared table) e)
  act_fate table (act.Command serial wctl.Top) out e = inl (act_at Anything Spares 0 fair_spares (λ serial later. tt) table (act.Command serial wctl.Top) out tt (first_spared table) e)
  act_fate table (act.Command serial wctl.Bottom) out e = inl (act_at Anything Spares 0 fair_spares (λ serial later. tt) table (act.Command serial wctl.Bottom) out tt (first_spared table) e)
  act_fate table (act.Command serial wctl.Hide) out e = inl (act_at Anything Spares 0 fair_spares (λ serial later. tt) table (act.Command serial wctl.Hide) out tt (first_spared table) e)
  act_fate table (act.Command serial wctl.Unhide) out e = inl (act_at Anything Spares 0 fair_spares (λ serial later. tt) table (act.Command serial wctl.Unhide) out tt (first_spared table) e)
  act_fate table (act.Command serial wctl.Current) out e = inl (act_at Anything Spares 0 fair_spares (λ serial later. tt) table (act.Command serial wctl.Current) out tt (first_spared table) e)
  act_fate table (act.Command serial (wctl.Scroll scrolls)) out e = inl (act_at Anything Spares 0 fair_spares (λ serial later. tt) table (act.Command serial (wctl.Scroll scrolls)) out tt (first_spared table) e)
  act_fate table (act.Command serial wctl.Set) out e = inl (act_at Anything Spares 0 fair_spares (λ serial later. tt) table (act.Command serial wctl.Set) out tt (first_spared table) e)
  act_fate table (act.Command serial wctl.Host) out e = inl (act_at Anything Spares 0 fair_spares (λ serial later. tt) table (act.Command serial wctl.Host) out tt (first_spared table) e)

  -- No note of an act ends a window that lives after it.
  pub acts_spare_living : (table : Table) (a : Act) (out : Step) → rio table a ≡ Ok out → (window_of out.table window ≡ None → ⊥) → Each (λ told. Spares told.0 told.1) out.notes
  acts_spare_living table a out e lives = by (act_fate table a out e)
    where
      by : Fate out → Each (λ told. Spares told.0 told.1) out.notes
      by (inl spared) = spared.notes
      by (inr gone) = absurd (lives (there_none out.table.windows window gone))

  -- A window that none uses any more is gone.
  pub gone_dies : (table : Table) (out : Step) → rio table (act.Gone window) ≡ Ok out → window_of out.table window ≡ None
  unfolding command_to deleted
  gone_dies table out e =
      let found = value_ok (window_of table window) 42 _ out e in
      let same : found.0.serial ≡ window = eqb-true found.0.serial window (find-passes (λ (v : Window). v.serial == window) table.windows found.0 found.1) in
      let last : Step = fold (λ step u. deleted 8 u step) (begun table) (made_in table found.0.serial) in
      subst (λ (s : Step). window_of s.table window ≡ None) (same_Ok (dropped found.0 last) out found.2)
      (subst (λ (ws : List Window). window_in ws window ≡ None) (sym (dropped_windows found.0 last))
      (subst (λ (n : ℕ). window_in (without found.0.serial last.table.windows) n ≡ None) same (there_none (without found.0.serial last.table.windows) found.0.serial (none_without found.0.serial last.table.windows))))

  -- It is refused where there is no such window.
  pub gone_refused : (table : Table) (n : ℕ) → rio table (act.Gone window) ≡ Err n → window_of table window ≡ None
  unfolding command_to
  gone_refused table n e = by (window_of table window) e
    where
      by : (o : Option Window) → (value_or_refuse o 42 >>= λ w. commanded wctl.Delete w (begun table)) ≡ Err n → o ≡ None
      by None e = refl
      by (Some w) e = absurd cc
