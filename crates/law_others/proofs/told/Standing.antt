-- A window of the root rio in a step of the window manager: what changes nothing of it.
use Rattle.std.proofs.Common.{◌≡◌, ◌≢◌, ◌∙◌, ℕ, ◌==◌, Bool, true, false, cond, List, [], ◌∷◌, find, Option, Some, None, is_some, refl, sym, ap, subst, arith}
use Rattle.std.specs.Option.{option_map}
use Rattle.std.proofs.lemmas.Bool.{cond_both}
use Rattle.r9_geom.specs.declared.Rect.{Rect}
use Rattle.r9_event.specs.declared.event.rio.Note.{Note}
use Rattle.r9_event.specs.declared.event.rio.Note.TheVariants as note
use Rattle.r9_event.specs.declared.event.rio.Order.{Order}
use Rattle.model_rio.specs.rio.Table.{Window, Rio, Table, Nobody, Hold, current_of, hold_of, is_host, window_of}
use Rattle.model_rio.specs.rio.Step.{Step, begun, changed, is_held, is_same, noted, not_current, ordered, retired, told_current, with_current, with_hold, with_rio, with_windows}
use Rattle.model_rio.specs.rio.Sound.{IsSound, IsSoundWindow, window_in}
use Rattle.law_shown.proofs.fitting.Lists.{Each, apart_of, each_both, each_map, each_of, each_own}
use Rattle.law_others.specs.told.Telling.{IsBeside, IsSmall, Tells, begins, beside, rect_in, small}

-- ---- windows beside the one in question

-- another window, which stands in no rio of the one in question
pub record IsOther (window : ℕ) (v : Window) : Type 0 where
  pub other : v.serial ≢ window
  pub counted : v.serial ≢ 0
  pub apart : v.host ≢ window

-- a window among which the one in question is, in the root rio and with this rectangle
pub record IsAmong (window : ℕ) (now : Option Rect) (v : Window) : Type 0 where
  pub place : v.serial ≡ window → (v.host ≡ 0) × (Some v.r ≡ now)
  pub counted : v.serial ≢ 0
  pub apart : v.host ≢ window

-- a window of the root rio, which may be the one in question, with this rectangle or an earlier one
pub record IsRooted (window : ℕ) (now : Option Rect) (v : Window) : Type 0 where
  pub root : v.host ≡ 0
  pub there : v.serial ≡ window → (old : Rect) × (now ≡ Some old)
  pub counted : v.serial ≢ 0
  pub apart : v.host ≢ window

pub among_rooted : (window : ℕ) (now : Option Rect) (v : Window) → IsAmong window now v → v.host ≡ 0 → IsRooted window now v
among_rooted window now v is root = record { root = root; there = λ same. (v.r, sym (is.place same).1); counted = is.counted; apart = is.apart }

pub rooted_other : (window : ℕ) (now : Option Rect) (v : Window) → IsRooted window now v → v.serial ≢ window → IsOther window v
rooted_other window now v is other = record { other = other; counted = is.counted; apart = is.apart }

pub rooted_later : (window : ℕ) (now : Option Rect) (r : Rect) (v : Window) → IsRooted window now v → IsRooted window (Some r) v
rooted_later window now r v is = record { root = is.root; there = λ _. (r, refl); counted = is.counted; apart = is.apart }

pub other_among : (window : ℕ) (now : Option Rect) (v : Window) → IsOther window v → IsAmong window now v
other_among window now v is = record { place = λ same. absurd (is.other same); counted = is.counted; apart = is.apart }

pub among_other : (window : ℕ) (now : Option Rect) (v : Window) → IsAmong window now v → v.serial ≢ window → IsOther window v
among_other window now v is other = record { other = other; counted = is.counted; apart = is.apart }

-- ---- a step

-- no rio of a table stands in the window
abbrev pub IsNoHost : Table → (window : ℕ) → Type 0
IsNoHost table window = Each (λ rio. (rio.host == window) ≡ false) (table.root ∷ table.rios)

-- so it is no host, and the other way round
none_hosts : (window : ℕ) (rios : List Rio) → Each (λ rio. (rio.host == window) ≡ false) rios → is_some (find (λ rio. rio.host == window) rios) ≡ false
none_hosts window [] none = refl
none_hosts window (rio ∷ rios) none = ap (λ (b : Bool). is_some (cond b (Some rio) (find (λ r. r.host == window) rios))) none.0 ∙ none_hosts window rios none.1

hosts_none : (window : ℕ) (rios : List Rio) → is_some (find (λ rio. rio.host == window) rios) ≡ false → Each (λ rio. (rio.host == window) ≡ false) rios
hosts_none window [] none = tt
hosts_none window (rio ∷ rios) none = by (rio.host == window) refl (hosts_none window rios) none
  where
    by : (b : Bool) → (rio.host == window) ≡ b → (is_some (find (λ r. r.host == window) rios) ≡ false → Each (λ r. (r.host == window) ≡ false) rios)
        → is_some (cond b (Some rio) (find (λ r. r.host == window) rios)) ≡ false → Each (λ r. (r.host == window) ≡ false) (rio ∷ rios)
    by true is more none = absurd cc
    by false is more none = (is, more none)

pub no_host : (table : Table) (window : ℕ) → IsNoHost table window → is_host table window ≡ false
no_host table window none = none_hosts window (table.root ∷ table.rios) none

pub of_no_host : (table : Table) (window : ℕ) → is_host table window ≡ false → IsNoHost table window
of_no_host table window none = hosts_none window (table.root ∷ table.rios) none

-- What a step so far orders and tells leads the window to where it stands in the table, in the root rio, and it hosts no rio.
pub record Stands (window : ℕ) (start now : Option Rect) (step : Step) : Type 0 where
  pub tells : Tells window start now step.orders step.notes
  pub lives : is_some (window_of step.table window) ≡ is_some now
  pub each : Each (IsAmong window now) step.table.windows
  pub bare : IsNoHost step.table window

-- a window that lives in the root rio, if at all, and hosts no rio
pub record IsBare (table : Table) (window : ℕ) : Type 0 where
  pub root : (v : Window) → window_of table window ≡ Some v → v.host ≡ 0
  pub bare : is_host table window ≡ false

mapped_some : {X Y : Type 0} (f : X → Y) (o : Option X) → is_some o ≡ is_some (option_map f o)
mapped_some f (Some x) = refl
mapped_some f None = refl

pub begun_stands : (table : Table) (window : ℕ) → IsSound table → IsBare table window → Stands window (rect_in table window) (rect_in table window) (begun table)
begun_stands table window ok is = record {
  tells = begins;
  lives = mapped_some (λ w. w.r) (window_of table window);
  each = each_both (IsSoundWindow table) (λ v. window_in table.windows v.serial ≡ Some v) (IsAmong window (rect_in table window)) among table.windows (each_of (IsSoundWindow table) table.windows ok.windows)
      (each_own table.windows (apart_of table.windows ok.serials));
  bare = of_no_host table window is.bare;
}
  where
    among : (v : Window) → IsSoundWindow table v → window_in table.windows v.serial ≡ Some v → IsAmong window (rect_in table window) v
    among v sound found = record {
      place = λ same. let here = subst (λ (n : ℕ). window_in table.windows n ≡ Some v) same found in (is.root v here, sym (ap (option_map (λ (w : Window). w.r)) here));
      counted = λ none. (let more = sound.counted in omega (arith, more, none));
      apart = λ same. absurd (let two : true ≡ false = sym sound.housed ∙ ap (is_host table) same ∙ is.bare in cc);
    }

module _ (window : ℕ) (start now : Option Rect) where
  abbrev pub At : Step → Type 0
  At step = Stands window start now step

  -- ---- notes and orders

  pub small_stands : (serial : ℕ) (n : Note) (step : Step) → (serial ≡ window → IsSmall n) → At step → At (noted serial n step)
  small_stands serial n step little is = record { tells = small now step.orders step.notes is.tells serial n little; lives = is.lives; each = is.each; bare = is.bare }

  pub beside_stands : (o : Order) (step : Step) → IsBeside (Some window) o → At step → At (ordered o step)
  beside_stands o step other is = record { tells = beside now step.orders step.notes is.tells o other; lives = is.lives; each = is.each; bare = is.bare }

  -- ---- rios

  -- no rio comes where rios keep their hosts
  pub rio_none : (host : ℕ) (change : Rio → Rio) → ((rio : Rio) → (change rio).host ≡ rio.host) → (step : Step) → IsNoHost step.table window → IsNoHost (with_rio host change step).table window
  rio_none host change keeps step bare = each_map (λ rio. (rio.host == window) ≡ false) (λ rio. (rio.host == window) ≡ false) (changed host change) none (step.table.root ∷ step.table.rios) bare
    where
      none : (rio : Rio) → (rio.host == window) ≡ false → ((changed host change rio).host == window) ≡ false
      none rio is = cond_both (rio.host == host) (change rio) rio (λ z. (z.host == window) ≡ false) (λ _. ap (λ (n : ℕ). n == window) (keeps rio) ∙ is) (λ _. is)

  pub rio_stands : (host : ℕ) (change : Rio → Rio) → ((rio : Rio) → (change rio).host ≡ rio.host) → (step : Step) → At step → At (with_rio host change step)
  rio_stands host change keeps step is = record { tells = is.tells; lives = is.lives; each = is.each; bare = rio_none host change keeps step is.bare }

  pub hold_stands : (host : ℕ) (hold : Hold) (step : Step) → At step → At (with_hold host hold step)
  hold_stands host hold step is = rio_stands host (λ rio. record rio { hold = hold }) (λ rio. refl) step is

  told_stands : (o : Option ℕ) (current : Bool) (step : Step) → At step → At (told_current o current step)
  told_stands None current step is = is
  told_stands (Some serial) current step is = small_stands serial (note.Current current) step (λ _. tt) is

  pub current_stands : (host : ℕ) (new : Option ℕ) (step : Step) → At step → At (with_current host new step)
  unfolding with_current
  current_stands host new step is =
      let old = current_of step.table host in
      let next : Step = with_rio host (λ rio. record rio { current = new }) step in
      cond_both (is_same old new) step (told_current new true (told_current old false next)) At (λ _. is)
      (λ _. told_stands new true (told_current old false next) (told_stands old false next (rio_stands host (λ rio. record rio { current = new }) (λ rio. refl) step is)))

  pub retired_stands : (host serial : ℕ) (step : Step) → At step → At (retired host serial step)
  unfolding retired
  retired_stands host serial step is =
      let idle = not_current host serial step in
      let then : At idle = cond_both (is_same (current_of step.table host) (Some serial)) (with_current host None step) step At (λ _. current_stands host None step is) (λ _. is) in
      cond_both (is_held serial (hold_of idle.table host)) (with_hold host Nobody idle) idle At (λ _. hold_stands host Nobody idle then) (λ _. then)

  -- ---- windows in other places

  pub windows_stand : (change : List Window → List Window) (step : Step) → At step → is_some (window_in (change step.table.windows) window) ≡ is_some (window_in step.table.windows window)
      → Each (IsAmong window now) (change step.table.windows) → At (with_windows change step)
  windows_stand change step is lives each = record { tells = is.tells; lives = lives ∙ is.lives; each = each; bare = is.bare }
