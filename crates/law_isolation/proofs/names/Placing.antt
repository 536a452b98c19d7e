-- The paths of windows: no two are one, and they stay as windows come and go.
use Rattle.std.proofs.Common.{◌≡◌, ◌<◌, ◌^◌, ℕ, zero, suc, true, false, List, [], ◌∷◌, ◌++◌, Option, Some, None, refl, sym, ap, subst, ◌∙◌, arith, eqb-true}
use Rattle.std.specs.Prelude.{◌==◌, IsSomeAnd, is_some}
use Rattle.std.specs.Option.{option_map_or}
use Rattle.model_rio.specs.rio.Table.{Window, Rio, Table, found, is_host, path_of, path_up, rio_of, window_of}
use Rattle.model_rio.specs.rio.Sound.{IsNested, IsSound, IsSoundRio, IsSoundWindow, window_in}
use Rattle.model_rio.proofs.rio.Paths.{path_found, path_whole}
use Rattle.law_shown.proofs.shown.Tests.{find-passes}
use Rattle.law_shown.proofs.fitting.Lists.{Each, apart_of, each_append, each_found, each_of, each_own}
use Rattle.law_others.proofs.tied.Orders.{some_of}
use Rattle.law_isolation.specs.names.Named.{IsNameOf}
use Rattle.law_isolation.proofs.names.Spelled.{IsSmall, same_path}

-- ---- what is found

found_and : {X : Type 0} (o : Option X) (P : X → Type 0) → IsSomeAnd o P → (x : X) × (o ≡ Some x) × P x
found_and (Some x) P is = (x, refl, is)
found_and None P is = absurd is

pub serial_is : (ws : List Window) (n : ℕ) (w : Window) → window_in ws n ≡ Some w → w.serial ≡ n
serial_is ws n w e = eqb-true w.serial n (find-passes (λ (v : Window). v.serial == n) ws w e)

sound_window : (table : Table) → IsSound table → (n : ℕ) (w : Window) → window_of table n ≡ Some w → IsSoundWindow table w
sound_window table ok n w e = each_found (IsSoundWindow table) (λ (v : Window). v.serial == n) table.windows w (each_of (IsSoundWindow table) table.windows ok.windows) e

none_at_root : (table : Table) → IsSound table → window_of table 0 ≡ None
none_at_root table ok = by (window_of table 0) refl
  where
    by : (o : Option Window) → window_of table 0 ≡ o → o ≡ None
    by None e = refl
    by (Some w) e = absurd (let same = serial_is table.windows 0 w e in let counted = (sound_window table ok 0 w e).counted in omega (arith, same, counted))

-- ---- one path for each window

-- the path of a window goes on from that of its host
one_up : (table : Table) (levels n : ℕ) (w : Window) → window_of table n ≡ Some w → path_up (suc levels) table n ≡ path_up levels table w.host ++ w.number ∷ []
unfolding path_up
one_up table levels n w e = ap (λ (o : Option Window). option_map_or (λ (v : Window). path_up levels table v.host ++ v.number ∷ []) o []) e

pub path_on : (table : Table) → IsSound table → (n : ℕ) (w : Window) → window_of table n ≡ Some w → path_of table n ≡ path_of table w.host ++ w.number ∷ []
path_on table ok n w e = sym (path_whole table n w ok e 10 (omega arith)).0 ∙ one_up table 9 n w e

small_path : (table : Table) → IsSound table → table.serials < 2 ^ 32 → (levels n : ℕ) → Each IsSmall (path_up levels table n)
unfolding path_up
small_path table ok few zero n = tt
small_path table ok few (suc levels) n = by (small_path table ok few levels) (window_of table n) refl
  where
    by : ((host : ℕ) → Each IsSmall (path_up levels table host)) → (o : Option Window) → window_of table n ≡ o → Each IsSmall (option_map_or (λ w. path_up levels table w.host ++ w.number ∷ []) o [])
    by more None e = tt
    by more (Some w) e =
        let is = sound_window table ok n w e in
        each_append IsSmall (path_up levels table w.host) (w.number ∷ []) (more w.host) (omega (arith, is.within, is.given, few), tt)

-- a name is that of one window
pub names_apart : (table : Table) → IsSound table → table.serials < 2 ^ 32 → (m n : ℕ) (name : List ℕ) → IsNameOf table m name → IsNameOf table n name → m ≡ n
names_apart table ok few m n name one two =
    let v = some_of (window_of table m) one.lives in
    let w = some_of (window_of table n) two.lives in
    let same : path_of table m ≡ path_of table n = same_path (path_of table m) (path_of table n) one.generation two.generation (small_path table ok few 9 m) (small_path table ok few 9 n) (sym one.is ∙ two.is) in
    let is : ◌≡◌ {A = Option ℕ} (Some m) (Some n) = sym (path_found table m v.0 ok v.1) ∙ ap (found table) same ∙ path_found table n w.0 ok w.1 in
    cc

-- ---- windows that stand elsewhere

-- a window of this serial has the same number in the rio of the same host
pub record StandsIn (table : Table) (w : Window) : Type 0 where
  pub there : Window
  pub found : window_of table w.serial ≡ Some there
  pub host : there.host ≡ w.host
  pub number : there.number ≡ w.number

-- what is found by a serial stands under that
pub stands_found : (table : Table) (ws : List Window) → Each (StandsIn table) ws → (n : ℕ) (w : Window) → window_in ws n ≡ Some w
    → (there : Window) × (window_of table n ≡ Some there) × (there.host ≡ w.host) × (there.number ≡ w.number)
stands_found table ws each n w e =
    let is = each_found (StandsIn table) (λ (v : Window). v.serial == n) ws w each e in
    (is.there, subst (λ (k : ℕ). window_of table k ≡ Some is.there) (serial_is ws n w e) is.found, is.host, is.number)

-- each window stands in its own table
pub stands_itself : (table : Table) → IsSound table → Each (StandsIn table) table.windows
stands_itself table ok = by table.windows (each_own table.windows (apart_of table.windows ok.serials))
  where
    by : (ws : List Window) → Each (λ w. window_in table.windows w.serial ≡ Some w) ws → Each (StandsIn table) ws
    by [] own = tt
    by (w ∷ ws) own = (record { there = w; found = own.0; host = refl; number = refl }, by ws own.1)

module _ (small large : Table) (each : Each (StandsIn large) small.windows) where
  -- one more number of a path
  step_same : (levels n : ℕ) (w v : Window) → window_of small n ≡ Some w → window_of large n ≡ Some v → v.host ≡ w.host → v.number ≡ w.number
      → path_up levels small w.host ≡ path_up levels large w.host → path_up (suc levels) small n ≡ path_up (suc levels) large n
  step_same levels n w v one two host number rest =
      one_up small levels n w one ∙ (λ i. rest i ++ w.number ∷ []) ∙ (λ i. path_up levels large (sym host i) ++ sym number i ∷ []) ∙ sym (one_up large levels n v two)

  none_same : (levels n : ℕ) → window_of small n ≡ None → window_of large n ≡ None → path_up (suc levels) small n ≡ path_up (suc levels) large n
  unfolding path_up
  none_same levels n one two =
      ap (λ (o : Option Window). option_map_or (λ (u : Window). path_up levels small u.host ++ u.number ∷ []) o []) one
      ∙ sym (ap (λ (o : Option Window). option_map_or (λ (u : Window). path_up levels large u.host ++ u.number ∷ []) o []) two)

  no_levels : (n : ℕ) → path_up zero small n ≡ path_up zero large n
  unfolding path_up
  no_levels n = refl

  -- where as many windows live, all paths are the same
  pub all_same : ((n : ℕ) → is_some (window_of large n) ≡ true → is_some (window_of small n) ≡ true) → (levels n : ℕ) → path_up levels small n ≡ path_up levels large n
  all_same lives zero n = no_levels n
  all_same lives (suc levels) n = by (all_same lives levels) (window_of small n) refl (window_of large n) refl
    where
      by : ((host : ℕ) → path_up levels small host ≡ path_up levels large host) → (o : Option Window) → window_of small n ≡ o → (p : Option Window) → window_of large n ≡ p → path_up (suc levels) small n ≡ path_up (suc levels) large n
      by more (Some w) one p two =
          let at = stands_found large small.windows each n w one in
          step_same levels n w at.0 one at.1 at.2 at.3 (more w.host)
      by more None one None two = none_same levels n one two
      by more None one (Some v) two = absurd (let is : true ≡ false = sym (lives n (ap is_some two)) ∙ ap is_some one in cc)

  module _ (ok : IsSound small) (whole : IsSound large) where
    nested_same : (levels most n : ℕ) → IsNested small.windows levels n → path_up most small n ≡ path_up most large n
    nested_same levels zero n is = no_levels n
    nested_same zero (suc most) n is =
        none_same most n (ap (window_of small) is ∙ none_at_root small ok) (ap (window_of large) is ∙ none_at_root large whole)
    nested_same (suc levels) (suc most) n is =
        let w = found_and (window_in small.windows n) (λ v. IsNested small.windows levels v.host) is in
        let at = stands_found large small.windows each n w.0 w.1 in
        step_same most n w.0 at.0 w.1 at.1 at.2 at.3 (nested_same levels most w.0.host w.2)

    -- the path of a rio's host
    pub host_same : (host : ℕ) → is_host small host ≡ true → path_of small host ≡ path_of large host
    host_same host is =
        let home = some_of (rio_of small host) is in
        let nested = (each_found (IsSoundRio small.windows) (λ (r : Rio). r.host == host) (small.root ∷ small.rios) home.0 (each_of (IsSoundRio small.windows) (small.root ∷ small.rios) ok.rios) home.1).nested in
        let at : home.0.host ≡ host = eqb-true home.0.host host (find-passes (λ (r : Rio). r.host == host) (small.root ∷ small.rios) home.0 home.1) in
        nested_same nested.0 9 host (subst (λ (h : ℕ). IsNested small.windows nested.0 h) at nested.2)

    -- and that of a window
    pub window_same : (n : ℕ) → is_some (window_of small n) ≡ true → path_of small n ≡ path_of large n
    window_same n lives =
        let w = some_of (window_of small n) lives in
        let at = stands_found large small.windows each n w.0 w.1 in
        path_on small ok n w.0 w.1 ∙ (λ i. host_same w.0.host (sound_window small ok n w.0 w.1).housed i ++ w.0.number ∷ [])
        ∙ (λ i. path_of large (sym at.2 i) ++ sym at.3 i ∷ []) ∙ sym (path_on large whole n at.0 at.1)
