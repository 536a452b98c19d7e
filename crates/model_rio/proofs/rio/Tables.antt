-- Changes of a table that keep it sound.
use Rattle.std.proofs.Common.{◌≡◌, ◌∙◌, ℕ, zero, suc, AllPairs, ◌+◌, ◌-◌, ◌^◌, ◌<◌, ◌≤◌, ◌==◌, Bool, true, false, List, [], ◌∷◌, map, Option, Some, None, option_map, is_some, All, IsSomeAnd, IfSome, refl, sym, ap, subst, arith, eqb-true}
use Rattle.std.proofs.lemmas.Bool.{eqb-false, cond_both}
use Rattle.std.proofs.lemmas.List.Elements.{All-weaker}
use Rattle.model_rio.specs.rio.Table.{Window, Rio, Table, Hold, Free, Held, Nobody, rio_of, is_host}
use Rattle.model_rio.specs.rio.Step.{changed}
use Rattle.model_rio.specs.rio.Sound.{window_in, IsSeenIn, IsNested, IfHeld, IsSoundWindow, IsSoundRio, IsSound, AreDistinct, HaveOwnNumbers}
use Rattle.model_rio.proofs.rio.Lookups.{find-all, find-map, found_of, of_found, All-changed}
use Rattle.model_rio.proofs.rio.Puts.{SamePlace, has_serial, IsPut}

abbrev pub rios_of : Table → List Rio
rios_of table = table.root ∷ table.rios

abbrev pub with_windows_of : Table → List Window → Table
with_windows_of table windows = record table { windows = windows }

-- ---- what a rio stands on

-- The way to the root rio, where each window on it is still there, in the same rio. K holds of those that are.
pub nested_kept : (K : ℕ → Type 0) (old new : List Window)
    → ((serial : ℕ) (w : Window) → K serial → window_in old serial ≡ Some w → (v : Window) × (window_in new serial ≡ Some v) × (v.host ≡ w.host) × K w.host)
    → (levels serial : ℕ) → K serial → IsNested old levels serial → IsNested new levels serial
nested_kept K old new step zero serial k is = is
nested_kept K old new step (suc levels) serial k is =
    let found = found_of (window_in old serial) (λ w. IsNested old levels w.host) is in
    let now = step serial found.0 k found.1 in
    of_found (window_in new serial) (λ w. IsNested new levels w.host) now.0 now.1
    (subst (IsNested new levels) (sym now.2) (nested_kept K old new step levels found.0.host now.3 found.2))

pub held_then : (hold : Hold) (P Q : ℕ → Type 0) → ((serial : ℕ) → hold ≡ Held serial → P serial → Q serial) → IfHeld hold P → IfHeld hold Q
held_then (Held serial) P Q then is = then serial refl is
held_then Free P Q then is = tt
held_then Nobody P Q then is = tt

pub some_then : {X : Type 0} (o : Option X) (P Q : X → Type 0) → ((x : X) → o ≡ Some x → P x → Q x) → IfSome o P → IfSome o Q
some_then (Some x) P Q then is = then x refl is
some_then None P Q then is = tt

-- a rio where its host stays, and what is current in it or holds the mouse is still seen
pub rio_kept : (old new : List Window) (rio : Rio)
    → ((levels : ℕ) → IsNested old levels rio.host → IsNested new levels rio.host)
    → ((serial : ℕ) → rio.current ≡ Some serial → IsSeenIn old rio.host serial → IsSeenIn new rio.host serial)
    → ((serial : ℕ) → rio.hold ≡ Held serial → IsSeenIn old rio.host serial → IsSeenIn new rio.host serial)
    → IsSoundRio old rio → IsSoundRio new rio
rio_kept old new rio nests current holds is = record {
  nested = (is.nested.0, is.nested.1, nests is.nested.0 is.nested.2);
  current = some_then rio.current _ _ current is.current;
  hold = held_then rio.hold _ _ holds is.hold;
}

-- ---- another state of a rio

pub same_host : (host : ℕ) (change : Rio → Rio) → ((rio : Rio) → (change rio).host ≡ rio.host) → (rio : Rio) → (changed host change rio).host ≡ rio.host
same_host host change keeps rio = cond_both (rio.host == host) (change rio) rio (λ z. z.host ≡ rio.host) (λ _. keeps rio) (λ _. refl)

abbrev pub hosts_in : List Rio → List ℕ
hosts_in rios = map (λ rio. rio.host) rios

pub same_hosts : (f : Rio → Rio) → ((rio : Rio) → (f rio).host ≡ rio.host) → (rios : List Rio) → hosts_in (map f rios) ≡ hosts_in rios
same_hosts f keeps [] = refl
same_hosts f keeps (rio ∷ rios) = λ i. keeps rio i ∷ same_hosts f keeps rios i

abbrev pub with_rios : ℕ → (Rio → Rio) → Table → Table
with_rios host change table = record table { root = changed host change table.root; rios = map (changed host change) table.rios }

pub rio_changed : (host : ℕ) (change : Rio → Rio) → ((rio : Rio) → (change rio).host ≡ rio.host) → (table : Table) (at : ℕ)
    → rio_of (with_rios host change table) at ≡ option_map (changed host change) (rio_of table at)
rio_changed host change keeps table at = find-map (λ (rio : Rio). rio.host == at) (changed host change) (λ rio. ap (λ n. n == at) (same_host host change keeps rio)) (rios_of table)

some_mapped : {X Y : Type 0} (f : X → Y) (o : Option X) → is_some (option_map f o) ≡ is_some o
some_mapped f (Some x) = refl
some_mapped f None = refl

pub hosts_changed : (host : ℕ) (change : Rio → Rio) → ((rio : Rio) → (change rio).host ≡ rio.host) → (table : Table) (at : ℕ) → is_host (with_rios host change table) at ≡ is_host table at
hosts_changed host change keeps table at = ap is_some (rio_changed host change keeps table at) ∙ some_mapped (changed host change) (rio_of table at)

-- a rio that is there has still given the numbers that it had given
next_changed : (host : ℕ) (change : Rio → Rio) → ((rio : Rio) → (change rio).next ≡ rio.next) → (number : ℕ) (o : Option Rio) → IsSomeAnd o (λ rio. number < rio.next) → IsSomeAnd (option_map (changed host change) o) (λ rio. number < rio.next)
next_changed host change nexts number (Some rio) less = cond_both (rio.host == host) (change rio) rio (λ z. number < z.next) (λ _. subst (λ n. number < n) (sym (nexts rio)) less) (λ _. less)
next_changed host change nexts number None less = less

pub rios_sound : (host : ℕ) (change : Rio → Rio) → ((rio : Rio) → (change rio).host ≡ rio.host) → ((rio : Rio) → (change rio).next ≡ rio.next) → (table : Table) → IsSound table
    → ((rio : Rio) → rio.host ≡ host → IsSoundRio table.windows rio → IsSoundRio table.windows (change rio)) → IsSound (with_rios host change table)
rios_sound host change keeps nexts table ok sound = record {
  root = same_host host change keeps table.root ∙ ok.root;
  few = ok.few;
  serials = ok.serials;
  hosts = subst AreDistinct (sym (same_hosts (changed host change) (same_host host change keeps) (rios_of table))) ok.hosts;
  windows = All-weaker (IsSoundWindow table) (IsSoundWindow (with_rios host change table)) (λ w is. record {
    counted = is.counted;
    given = is.given;
    within = is.within;
    housed = hosts_changed host change keeps table w.host ∙ is.housed;
    numbered = λ left. subst (λ o. IsSomeAnd o (λ rio. w.number < rio.next)) (sym (rio_changed host change keeps table w.host)) (next_changed host change nexts w.number (rio_of table w.host) (is.numbered left));
  }) table.windows ok.windows;
  rios = All-changed (IsSoundRio table.windows) (changed host change) (λ rio is. cond_both (rio.host == host) (change rio) rio (IsSoundRio table.windows) (λ same. sound rio (eqb-true rio.host host same) is) (λ _. is)) (rios_of table) ok.rios;
  numbers = ok.numbers;
  next = All-changed (λ rio. rio.next ≤ table.serials + 1) (changed host change) (λ rio is. cond_both (rio.host == host) (change rio) rio (λ z. z.next ≤ table.serials + 1) (λ _. subst (λ n. n ≤ table.serials + 1) (sym (nexts rio)) is) (λ _. is)) (rios_of table) ok.next;
}

-- ---- a window in another's place

-- each window stands where it stood
pub nested_put : (w u : Window) (old new : List Window) → window_in old w.serial ≡ Some u → w.host ≡ u.host → IsPut w old new
    → (levels serial : ℕ) → IsNested old levels serial → IsNested new levels serial
nested_put w u old new found host put levels serial is = nested_kept (λ _. Unit {0}) old new step levels serial tt is
  where
    step : (at : ℕ) (v : Window) → Unit {0} → window_in old at ≡ Some v → (z : Window) × (window_in new at ≡ Some z) × (z.host ≡ v.host) × Unit {0}
    step at v _ e = by_test (at == w.serial) refl
      where
        by_test : (b : Bool) → (at == w.serial) ≡ b → (z : Window) × (window_in new at ≡ Some z) × (z.host ≡ v.host) × Unit {0}
        by_test true is =
            let same = eqb-true at w.serial is in
            let it : u ≡ v = (let both : Some u ≡ Some v = sym found ∙ ap (window_in old) (sym same) ∙ e in cc) in
            (w, ap (window_in new) same ∙ put.at, host ∙ ap (λ z. z.host) it, tt)
        by_test false is = (v, put.others at (eqb-false at w.serial is) ∙ e, refl, tt)

-- a window is seen where it was
pub seen_put : (w u : Window) (old new : List Window) → window_in old w.serial ≡ Some u → w.host ≡ u.host → (u.hidden ≡ false → w.hidden ≡ false) → IsPut w old new
    → (host serial : ℕ) → IsSeenIn old host serial → IsSeenIn new host serial
seen_put w u old new found at shows put host serial is = by_test (serial == w.serial) refl
  where
    by_test : (b : Bool) → (serial == w.serial) ≡ b → IsSeenIn new host serial
    by_test true e =
        let same = eqb-true serial w.serial e in
        let was = found_of (window_in old serial) _ is in
        let it : u ≡ was.0 = (let both : Some u ≡ Some was.0 = sym found ∙ ap (window_in old) (sym same) ∙ was.1 in cc) in
        of_found (window_in new serial) _ w (ap (window_in new) same ∙ put.at) (at ∙ ap (λ z. z.host) it ∙ was.2.0, shows (ap (λ z. z.hidden) it ∙ was.2.1))
    by_test false e = subst (λ o. IsSomeAnd o (λ v. (v.host ≡ host) × (v.hidden ≡ false))) (sym (put.others serial (eqb-false serial w.serial e))) is

pub found_sound : (table : Table) → IsSound table → (serial : ℕ) (w : Window) → window_in table.windows serial ≡ Some w → IsSoundWindow table w
found_sound table ok serial w e = find-all (IsSoundWindow table) (λ (v : Window). v.serial == serial) table.windows w ok.windows e

pub put_sound : (w u : Window) (new : List Window) (table : Table) → IsSound table → window_in table.windows w.serial ≡ Some u → SamePlace w u → IsPut w table.windows new
    → AllPairs HaveOwnNumbers new → All (IsSoundRio new) (rios_of table) → IsSound (with_windows_of table new)
put_sound w u new table ok found place put numbers rios =
    let is = found_sound table ok w.serial u found in
    let same = has_serial table.windows w.serial u found in
    record {
      root = ok.root;
      few = omega (arith, put.few, ok.few);
      serials = put.serials ok.serials;
      hosts = ok.hosts;
      windows = All-weaker (IsSoundWindow table) (IsSoundWindow (with_windows_of table new)) (λ v was. record { counted = was.counted; given = was.given; within = was.within; housed = was.housed; numbered = was.numbered }) new
          (put.each (IsSoundWindow table) ok.windows (record { counted = subst (λ n. 0 < n) same is.counted; given = subst (λ n. n ≤ table.serials) same is.given; within = omega (arith, is.within, place.number, same); housed = ap (is_host table) place.host ∙ is.housed; numbered = still is }));
      rios = rios;
      numbers = numbers;
      next = ok.next;
    }
  where
    still : IsSoundWindow table u → table.serials < 2 ^ 32 - 1 → IsSomeAnd (rio_of table w.host) (λ rio. w.number < rio.next)
    still is left =
        subst (λ at. IsSomeAnd (rio_of table at) (λ rio. w.number < rio.next)) (sym place.host)
        (subst (λ n. IsSomeAnd (rio_of table u.host) (λ rio. n < rio.next)) (sym place.number) (is.numbered left))

-- a window that is still seen where it was
pub shown_sound : (w u : Window) (new : List Window) (table : Table) → IsSound table → window_in table.windows w.serial ≡ Some u → SamePlace w u → (u.hidden ≡ false → w.hidden ≡ false) → IsPut w table.windows new
    → AllPairs HaveOwnNumbers new → IsSound (with_windows_of table new)
shown_sound w u new table ok found place shows put numbers =
    put_sound w u new table ok found place put numbers
    (All-weaker (IsSoundRio table.windows) (IsSoundRio new)
    (λ rio is. rio_kept table.windows new rio (λ levels. nested_put w u table.windows new found place.host put levels rio.host) (λ serial _. seen_put w u table.windows new found place.host shows put rio.host serial) (λ serial _. seen_put w u table.windows new found place.host shows put rio.host serial) is)
    (rios_of table) ok.rios)
