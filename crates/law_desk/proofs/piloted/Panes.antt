-- Lists of windows, and of the panes that a desk has of them.
use Rattle.std.proofs.Common.{◌≡◌, ◌∙◌, ℕ, suc, length, ◌==◌, ◌&&◌, Bool, true, false, cond, not, List, [], ◌∷◌, map, filter, find, Option, Some, None, option_map, refl, sym, ap, eq-eqb, eqb-true}
use Rattle.r9_geom.specs.declared.Point.{Point}
use Rattle.r9_geom.specs.Geometry.{holds}
use Rattle.model_client.specs.declared.desk.Pane.{Pane}
use Rattle.model_client.specs.desk.Table.{with_rect}
use Rattle.model_rio.specs.rio.Table.{Window}
use Rattle.model_rio.specs.rio.Step.{in_place, raised, without}
use Rattle.model_rio.specs.rio.Sound.{window_in}
use Rattle.law_shown.proofs.shown.Tests.{find-passes, same_Some, split}
use Rattle.law_shown.proofs.fitting.Lists.{Apart, Each, IsOther, each_found, each_own, each_then}
use Rattle.model_clients.specs.piloted.Following.{hidden_panes, pane_by, pane_of, seen_panes}

abbrev pub topmost_in : List Window → Point → Option Window
topmost_in ws p = find (λ w. (w.host == 0) && not w.hidden && holds w.r p) ws

-- the topmost pane at a point is that of the topmost window there
pub top_pane : (ws : List Window) (p : Point) → Each (λ w. w.host ≡ 0) ws → find (λ pane. holds pane.r p) (seen_panes ws) ≡ option_map pane_of (topmost_in ws p)
top_pane [] p own = refl
top_pane (w ∷ ws) p own = rw (eq-eqb w.host 0 own.0) (by (not w.hidden) (holds w.r p) refl (top_pane ws p own.1))
  where
    by : (b c : Bool) → holds w.r p ≡ c → find (λ pane. holds pane.r p) (seen_panes ws) ≡ option_map pane_of (topmost_in ws p)
        → find (λ pane. holds pane.r p) (map pane_of (cond b (w ∷ filter (λ v. not v.hidden) ws) (filter (λ v. not v.hidden) ws))) ≡ option_map pane_of (cond (b && c) (Some w) (topmost_in ws p))
    by true true is rest = rw is refl
    by true false is rest = rw is rest
    by false c is rest = rest

-- windows that pass a test, but for the one with a serial
pub panes_without : (q : Window → Bool) (s : ℕ) (ws : List Window) → Each (λ w. w.number ≡ w.serial) ws
    → map pane_of (filter q (without s ws)) ≡ filter (λ pane. not (pane.number == s)) (map pane_of (filter q ws))
panes_without q s [] own = refl
panes_without q s (w ∷ ws) own = by (q w) (w.serial == s) refl refl (panes_without q s ws own.1)
  where
    by : (b c : Bool) → q w ≡ b → (w.serial == s) ≡ c → map pane_of (filter q (without s ws)) ≡ filter (λ pane. not (pane.number == s)) (map pane_of (filter q ws))
        → map pane_of (filter q (cond (not c) (w ∷ without s ws) (without s ws))) ≡ filter (λ pane. not (pane.number == s)) (map pane_of (cond b (w ∷ filter q ws) (filter q ws)))
    by true true passes is rest = rw (ap (λ n. n == s) own.0 ∙ is) rest
    by true false passes is rest = rw (passes, ap (λ n. n == s) own.0 ∙ is) (ap (λ (panes : List Pane). pane_of w ∷ panes) rest)
    by false true passes is rest = rest
    by false false passes is rest = rw passes rest

-- no window with the serial is hidden, so that the hidden ones stay
hidden_stay : (s : ℕ) (ws : List Window) → Each (λ v. (v.serial == s) ≡ true → v.hidden ≡ false) ws → filter (λ v. v.hidden) (without s ws) ≡ filter (λ v. v.hidden) ws
hidden_stay s [] seen = refl
hidden_stay s (w ∷ ws) seen = by w.hidden (w.serial == s) refl (seen.0) (hidden_stay s ws seen.1)
  where
    by : (b c : Bool) → w.hidden ≡ b → (c ≡ true → w.hidden ≡ false) → filter (λ v. v.hidden) (without s ws) ≡ filter (λ v. v.hidden) ws
        → filter (λ v. v.hidden) (cond (not c) (w ∷ without s ws) (without s ws)) ≡ cond b (w ∷ filter (λ v. v.hidden) ws) (filter (λ v. v.hidden) ws)
    by true true is none rest = absurd (let both : true ≡ false = sym is ∙ none refl in cc both)
    by true false is none rest = ap (λ (b : Bool). cond b (w ∷ filter (λ v. v.hidden) (without s ws)) (filter (λ v. v.hidden) (without s ws))) is ∙ ap (λ (vs : List Window). w ∷ vs) rest
    by false true is none rest = rest
    by false false is none rest = ap (λ (b : Bool). cond b (w ∷ filter (λ v. v.hidden) (without s ws)) (filter (λ v. v.hidden) (without s ws))) is ∙ rest

-- a window among others that can be seen
pub only_seen : (ws : List Window) (w : Window) → Apart ws → window_in ws w.serial ≡ Some w → w.hidden ≡ false → Each (λ v. (v.serial == w.serial) ≡ true → v.hidden ≡ false) ws
only_seen ws w apart is seen =
    each_then (λ v. window_in ws v.serial ≡ Some v) (λ v. (v.serial == w.serial) ≡ true → v.hidden ≡ false)
    (λ v own e. ap (λ (u : Window). u.hidden) (same_Some v w (sym own ∙ ap (window_in ws) (eqb-true v.serial w.serial e) ∙ is)) ∙ seen) ws
    (each_own ws apart)

-- a window that can be seen goes above all others
pub hidden_raised : (ws : List Window) (w : Window) → Apart ws → window_in ws w.serial ≡ Some w → w.hidden ≡ false → hidden_panes (raised w ws) ≡ hidden_panes ws
hidden_raised ws w apart is seen = rw seen (ap (λ (vs : List Window). map pane_of vs) (hidden_stay w.serial ws (only_seen ws w apart is seen)))

pub seen_raised : (ws : List Window) (w : Window) → Each (λ v. v.number ≡ v.serial) ws → w.hidden ≡ false → w.number ≡ w.serial
    → seen_panes (raised w ws) ≡ pane_of w ∷ filter (λ pane. not (pane.number == w.number)) (seen_panes ws)
seen_raised ws w own seen numbered =
    rw seen (ap (λ (panes : List Pane). pane_of w ∷ panes) (panes_without (λ v. not v.hidden) w.serial ws own
    ∙ ap (λ (n : ℕ). filter (λ pane. not (pane.number == n)) (seen_panes ws)) (sym numbered)))

-- ---- a window of which a desk has the pane

find_seen : (ws : List Window) (n : ℕ) → pane_by n (seen_panes ws) ≡ option_map pane_of (find (λ w. not w.hidden && (w.number == n)) ws)
find_seen [] n = refl
find_seen (w ∷ ws) n = by (not w.hidden) (w.number == n) refl (find_seen ws n)
  where
    by : (b c : Bool) → (w.number == n) ≡ c → pane_by n (seen_panes ws) ≡ option_map pane_of (find (λ v. not v.hidden && (v.number == n)) ws)
        → pane_by n (map pane_of (cond b (w ∷ filter (λ v. not v.hidden) ws) (filter (λ v. not v.hidden) ws))) ≡ option_map pane_of (cond (b && c) (Some w) (find (λ v. not v.hidden && (v.number == n)) ws))
    by true true is rest = rw is refl
    by true false is rest = rw is rest
    by false c is rest = rest

pub record IsSeen (ws : List Window) (n : ℕ) (pane : Pane) : Type 0 where
  pub window : Window
  pub found : window_in ws n ≡ Some window
  pub seen : window.hidden ≡ false
  pub is : pane_of window ≡ pane
  pub serial : window.serial ≡ n
  pub numbered : window.number ≡ window.serial

pub seen_window : (ws : List Window) (n : ℕ) (pane : Pane) → Apart ws → Each (λ w. w.number ≡ w.serial) ws → pane_by n (seen_panes ws) ≡ Some pane → IsSeen ws n pane
seen_window ws n pane apart own e = by (find (λ w. not w.hidden && (w.number == n)) ws) refl (sym (find_seen ws n) ∙ e)
  where
    no : (b : Bool) → not b ≡ true → b ≡ false
    no true e = absurd (let both : false ≡ true = e in cc both)
    no false e = refl

    by : (o : Option Window) → find (λ w. not w.hidden && (w.number == n)) ws ≡ o → option_map pane_of o ≡ Some pane → IsSeen ws n pane
    by None is e = absurd cc
    by (Some w) is e =
        let passes = split (not w.hidden) (w.number == n) (find-passes (λ v. not v.hidden && (v.number == n)) ws w is) in
        let numbered = each_found (λ v. v.number ≡ v.serial) (λ v. not v.hidden && (v.number == n)) ws w own is in
        let serial : w.serial ≡ n = sym numbered ∙ eqb-true w.number n passes.1 in
        record {
          window = w;
          found = ap (window_in ws) (sym serial) ∙ each_found (λ v. window_in ws v.serial ≡ Some v) (λ v. not v.hidden && (v.number == n)) ws w (each_own ws apart) is;
          seen = no w.hidden passes.0;
          is = same_Some (pane_of w) pane e;
          serial = serial;
          numbered = numbered;
        }

-- a window goes that could be seen
pub seen_gone : (ws : List Window) (n : ℕ) → Each (λ w. w.number ≡ w.serial) ws → seen_panes (without n ws) ≡ filter (λ pane. not (pane.number == n)) (seen_panes ws)
seen_gone ws n own = panes_without (λ v. not v.hidden) n ws own

pub hidden_gone : (ws : List Window) (w : Window) → Apart ws → window_in ws w.serial ≡ Some w → w.hidden ≡ false → hidden_panes (without w.serial ws) ≡ hidden_panes ws
hidden_gone ws w apart is seen = ap (λ (vs : List Window). map pane_of vs) (hidden_stay w.serial ws (only_seen ws w apart is seen))

-- ---- a window with another rectangle

-- it stays where it stands, and keeps its number
pub seen_placed : (ws : List Window) (w : Window) → Each (λ v. (v.serial == w.serial) ≡ true → v.hidden ≡ false) ws → Each (λ v. v.number ≡ v.serial) ws → w.hidden ≡ false → w.number ≡ w.serial
    → seen_panes (in_place w ws) ≡ with_rect w.number w.r (seen_panes ws)
seen_placed [] w seen own is numbered = refl
seen_placed (v ∷ vs) w seen own is numbered = by (v.serial == w.serial) v.hidden refl refl (seen.0) (seen_placed vs w seen.1 own.1 is numbered)
  where
    places : Pane → Pane
    places pane = cond (pane.number == w.number) (record { number = pane.number; r = w.r }) pane

    by : (b c : Bool) → (v.serial == w.serial) ≡ b → v.hidden ≡ c → (b ≡ true → v.hidden ≡ false) → seen_panes (in_place w vs) ≡ with_rect w.number w.r (seen_panes vs)
        → seen_panes (cond b w v ∷ in_place w vs) ≡ with_rect w.number w.r (map pane_of (cond (not c) (v ∷ filter (λ u. not u.hidden) vs) (filter (λ u. not u.hidden) vs)))
    by true true same at none rest = absurd (let both : true ≡ false = sym at ∙ none refl in cc both)
    by true false same at none rest =
        let alike : v.number ≡ w.number = own.0 ∙ eqb-true v.serial w.serial same ∙ sym numbered in
        let back : w.number ≡ v.number = sym alike in
        rw (is, eq-eqb v.number w.number alike) (λ i. record { number = back i; r = w.r } ∷ rest i)
    by false true same at none rest = rw at rest
    by false false same at none rest =
        let other : (v.number == w.number) ≡ false = (λ i. own.0 i == numbered i) ∙ same in
        rw (at, other) (ap (λ (panes : List Pane). pane_of v ∷ panes) rest)

pub hidden_placed : (ws : List Window) (w : Window) → Each (λ v. (v.serial == w.serial) ≡ true → v.hidden ≡ false) ws → w.hidden ≡ false → hidden_panes (in_place w ws) ≡ hidden_panes ws
hidden_placed [] w seen is = refl
hidden_placed (v ∷ vs) w seen is = by (v.serial == w.serial) v.hidden refl (seen.0) (hidden_placed vs w seen.1 is)
  where
    by : (b c : Bool) → v.hidden ≡ c → (b ≡ true → v.hidden ≡ false) → hidden_panes (in_place w vs) ≡ hidden_panes vs
        → hidden_panes (cond b w v ∷ in_place w vs) ≡ map pane_of (cond c (v ∷ filter (λ u. u.hidden) vs) (filter (λ u. u.hidden) vs))
    by true true at none rest = absurd (let both : true ≡ false = sym at ∙ none refl in cc both)
    by true false at none rest = rw is rest
    by false true at none rest = rw at (ap (λ (panes : List Pane). pane_of v ∷ panes) rest)
    by false false at none rest = rw at rest

-- ---- a window that is hidden

pub seen_hidden : (ws : List Window) (w : Window) → w.hidden ≡ true → seen_panes (in_place w ws) ≡ seen_panes (without w.serial ws)
seen_hidden [] w is = refl
seen_hidden (v ∷ vs) w is = by (v.serial == w.serial) v.hidden refl (seen_hidden vs w is)
  where
    by : (b c : Bool) → v.hidden ≡ c → seen_panes (in_place w vs) ≡ seen_panes (without w.serial vs) → seen_panes (cond b w v ∷ in_place w vs) ≡ seen_panes (cond (not b) (v ∷ without w.serial vs) (without w.serial vs))
    by true c at rest = rw is rest
    by false true at rest = rw at rest
    by false false at rest = rw at (ap (λ (panes : List Pane). pane_of v ∷ panes) rest)

none_placed : (ws : List Window) (w : Window) → Each (λ v. (v.serial == w.serial) ≡ false) ws → in_place w ws ≡ ws
none_placed [] w others = refl
none_placed (v ∷ vs) w others = rw others.0 (ap (λ (us : List Window). v ∷ us) (none_placed vs w others.1))

-- the others are others
none_behind : (v w : Window) (vs : List Window) → (v.serial == w.serial) ≡ true → Each (IsOther v) vs → in_place w vs ≡ vs
none_behind v w vs same others =
    none_placed vs w (each_then (IsOther v) (λ u. (u.serial == w.serial) ≡ false) (λ u other. ap (λ (n : ℕ). u.serial == n) (sym (eqb-true v.serial w.serial same)) ∙ other) vs others)

-- a window of these is found among the hidden ones now, before them
pub hidden_more : (number : ℕ) (ws : List Window) (w old : Window) → Apart ws → Each (λ v. (v.serial == w.serial) ≡ true → v.hidden ≡ false) ws → Each (λ v. v.number ≡ v.serial) ws → w.hidden ≡ true → w.number ≡ w.serial
    → window_in ws w.serial ≡ Some old → pane_by number (hidden_panes (in_place w ws)) ≡ cond (w.number == number) (Some (pane_of w)) (pane_by number (hidden_panes ws))
hidden_more number [] w old apart seen own is numbered found = absurd cc
hidden_more number (v ∷ vs) w old apart seen own is numbered found =
    by (v.serial == w.serial) v.hidden refl refl (seen.0) (hidden_more number vs w old apart.1 seen.1 own.1 is numbered) found
  where
    skips : (b : Bool) → (v.number == number) ≡ b → (v.serial == w.serial) ≡ false → (c : Bool) → (w.number == number) ≡ c
        → cond b (Some (pane_of v)) (cond c (Some (pane_of w)) (pane_by number (hidden_panes vs))) ≡ cond c (Some (pane_of w)) (cond b (Some (pane_of v)) (pane_by number (hidden_panes vs)))
    skips true one other true two =
        let alike : v.serial ≡ w.serial = sym own.0 ∙ eqb-true v.number number one ∙ sym (eqb-true w.number number two) ∙ numbered in
        absurd (let both : true ≡ false = sym (eq-eqb v.serial w.serial alike) ∙ other in cc both)
    skips true one other false two = refl
    skips false one other true two = refl
    skips false one other false two = refl

    by : (b c : Bool) → (v.serial == w.serial) ≡ b → v.hidden ≡ c → (b ≡ true → v.hidden ≡ false)
        → (window_in vs w.serial ≡ Some old → pane_by number (hidden_panes (in_place w vs)) ≡ cond (w.number == number) (Some (pane_of w)) (pane_by number (hidden_panes vs))) → cond b (Some v) (window_in vs w.serial) ≡ Some old
        → pane_by number (hidden_panes (cond b w v ∷ in_place w vs)) ≡ cond (w.number == number) (Some (pane_of w)) (pane_by number (map pane_of (cond c (v ∷ filter (λ u. u.hidden) vs) (filter (λ u. u.hidden) vs))))
    by true true same at none more found = absurd (let both : true ≡ false = sym at ∙ none refl in cc both)
    by true false same at none more found = rw (is, none_behind v w vs same apart.0) refl
    by false true same at none more found = rw (at, more found) (skips (v.number == number) refl same (w.number == number) refl)
    by false false same at none more found = rw at (more found)

pub count_more : (ws : List Window) (w old : Window) → Apart ws → Each (λ v. (v.serial == w.serial) ≡ true → v.hidden ≡ false) ws → w.hidden ≡ true → window_in ws w.serial ≡ Some old
    → length (hidden_panes (in_place w ws)) ≡ suc (length (hidden_panes ws))
count_more [] w old apart seen is found = absurd cc
count_more (v ∷ vs) w old apart seen is found = by (v.serial == w.serial) v.hidden refl refl (seen.0) (count_more vs w old apart.1 seen.1 is) found
  where
    by : (b c : Bool) → (v.serial == w.serial) ≡ b → v.hidden ≡ c → (b ≡ true → v.hidden ≡ false) → (window_in vs w.serial ≡ Some old → length (hidden_panes (in_place w vs)) ≡ suc (length (hidden_panes vs)))
        → cond b (Some v) (window_in vs w.serial) ≡ Some old → length (hidden_panes (cond b w v ∷ in_place w vs)) ≡ suc (length (map pane_of (cond c (v ∷ filter (λ u. u.hidden) vs) (filter (λ u. u.hidden) vs))))
    by true true same at none more found = absurd (let both : true ≡ false = sym at ∙ none refl in cc both)
    by true false same at none more found = rw (is, none_behind v w vs same apart.0) refl
    by false true same at none more found = rw at (ap suc (more found))
    by false false same at none more found = rw at (more found)
