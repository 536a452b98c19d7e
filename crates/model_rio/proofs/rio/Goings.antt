-- Windows that go keep a table sound.
use Rattle.std.proofs.Common.{◌≡◌, ◌≢◌, ◌∙◌, ℕ, zero, suc, ◌+◌, ◌<◌, ◌≤◌, ◌==◌, true, false, not, List, [], ◌∷◌, map, filter, find, fold, get_or, Some, is_some, All, IsSomeAnd, refl, sym, ap, subst, arith, eqb-true, eq-eqb, ne_eqb}
use Rattle.std.specs.List.{position_or_len}
use Rattle.std.specs.Prelude.{nat_lt}
use Rattle.std.proofs.lemmas.Option.{same_Some}
use Rattle.std.proofs.lemmas.List.Elements.{All-nil, All-cons, All-head, All-tail, All-weaker, All-filter, filter_passes}
use Rattle.std.proofs.lemmas.List.Kept.{AllPairs-filter}
use Rattle.std.proofs.lemmas.List.Sorted.{All-permutation, IsPermutation-insert, IsPermutation-sym}
use Rattle.model_rio.specs.rio.Table.{Window, Rio, Table, Held, rio_of, current_of, hold_of, windows_in, made_in, put}
use Rattle.model_rio.specs.rio.Step.{Step, without, retired, is_same, is_held}
use Rattle.model_rio.specs.rio.Moving.{dropped, deleted}
use Rattle.model_rio.specs.rio.Sound.{window_in, IsSeenIn, IsNested, IsSoundWindow, IsSoundRio, IsSound, AreDistinct}
use Rattle.model_rio.proofs.rio.Lookups.{map-others, find-all, find-filter, length-filter_le, found_of, of_found, filtered_out, All-both}
use Rattle.model_rio.proofs.rio.Puts.{numbers_without, has_serial, differs, distinct_others, found_other}
use Rattle.model_rio.proofs.rio.Tables.{rios_of, nested_kept, rio_kept}
use Rattle.model_rio.proofs.rio.Inputs.{retired-sound, retired-windows, retired-current, retired-hold}
use Rattle.model_rio.proofs.rio.Makings.{lone, never_current, never_held, depth_of}
use Rattle.model_rio.proofs.rio.Movings.{stand_own}

-- ---- a window goes that hosts no windows

-- each window that is found by the serial stands in this rio
abbrev pub OnlyIn : List Window → (serial host : ℕ) → Type 0
OnlyIn windows serial host = (w : Window) → window_in windows serial ≡ Some w → w.host ≡ host

abbrev pub without_it : ℕ → Table → Table
without_it serial table = record table { rios = filter (λ rio. not (rio.host == serial)) table.rios; windows = without serial table.windows }

-- the root's rio stays
rios_left : (serial : ℕ) (table : Table) → IsSound table → 0 < serial → filter (λ rio. not (rio.host == serial)) (rios_of table) ≡ rios_of (without_it serial table)
rios_left serial table ok counted = rw (ne_eqb table.root.host serial (λ same. absurd (omega (arith, same, ok.root)))) refl

host_left : (serial : ℕ) (table : Table) → IsSound table → 0 < serial → (host : ℕ) → host ≢ serial → rio_of (without_it serial table) host ≡ rio_of table host
host_left serial table ok counted host apart =
    ap (find (λ (rio : Rio). rio.host == host)) (sym (rios_left serial table ok counted))
    ∙ (find-filter (λ (rio : Rio). rio.host == host) (λ rio. not (rio.host == serial)) (λ rio e. ap not (ne_eqb rio.host serial (λ same. apart (sym (eqb-true rio.host host e) ∙ same)))) (rios_of table))

nested_left : (serial : ℕ) (table : Table) → All (λ v. v.host ≢ serial) table.windows → (levels at : ℕ) → at ≢ serial → IsNested table.windows levels at → IsNested (without serial table.windows) levels at
nested_left serial table alone levels at apart is =
    nested_kept (λ n. n ≢ serial) table.windows (without serial table.windows)
    (λ n w other e. (w, found_other table.windows serial n other ∙ e, refl, find-all (λ (v : Window). v.host ≢ serial) (λ (v : Window). v.serial == n) table.windows w alone e)) levels at apart is

seen_left : (windows : List Window) (gone host serial : ℕ) → serial ≢ gone → IsSeenIn windows host serial → IsSeenIn (without gone windows) host serial
seen_left windows gone host serial apart is = subst (λ o. IsSomeAnd o (λ w. (w.host ≡ host) × (w.hidden ≡ false))) (sym (found_other windows gone serial apart)) is

rio_left : (serial host : ℕ) (table : Table) → OnlyIn table.windows serial host → All (λ v. v.host ≢ serial) table.windows
    → is_same (current_of table host) (Some serial) ≡ false → is_held serial (hold_of table host) ≡ false
    → (rio : Rio) → rio.host ≢ serial → rio_of table rio.host ≡ Some rio → IsSoundRio table.windows rio → IsSoundRio (without serial table.windows) rio
rio_left serial host table only alone current hold rio apart found is =
    rio_kept table.windows (without serial table.windows) rio
    (λ levels. nested_left serial table alone levels rio.host apart)
    (λ at e seen. seen_left table.windows serial rio.host at (λ same. never_current table rio host serial found (in_it at seen same) current (e ∙ ap Some same)) seen)
    (λ at e seen. seen_left table.windows serial rio.host at (λ same. never_held table rio host serial found (in_it at seen same) hold (e ∙ ap Held same)) seen)
    is
  where
    in_it : (at : ℕ) → IsSeenIn table.windows rio.host at → at ≡ serial → rio.host ≡ host
    in_it at seen same =
        let was = found_of (window_in table.windows at) (λ w. (w.host ≡ rio.host) × (w.hidden ≡ false)) seen in
        sym was.2.0 ∙ only was.0 (ap (window_in table.windows) (sym same) ∙ was.1)

pub left_sound : (serial host : ℕ) (table : Table) → IsSound table → 0 < serial → OnlyIn table.windows serial host → All (λ v. v.host ≢ serial) table.windows
    → is_same (current_of table host) (Some serial) ≡ false → is_held serial (hold_of table host) ≡ false → IsSound (without_it serial table)
left_sound serial host table ok counted only alone current hold = record {
  root = ok.root;
  few = omega (arith, length-filter_le (λ (v : Window). not (v.serial == serial)) table.windows, ok.few);
  serials = distinct_others serial table.windows ok.serials;
  hosts = subst AreDistinct (sym (map-others (λ (rio : Rio). rio.host) serial (rios_of table)) ∙ ap (map (λ rio. rio.host)) left) (AllPairs-filter ◌≢◌ (λ n. not (n == serial)) (map (λ rio. rio.host) (rios_of table)) ok.hosts);
  windows = All-both (IsSoundWindow table) (λ v. v.host ≢ serial) (IsSoundWindow (without_it serial table)) (λ v is apart. record {
    counted = is.counted;
    given = is.given;
    within = is.within;
    housed = ap is_some (host_left serial table ok counted v.host apart) ∙ is.housed;
    numbered = λ more. subst (λ o. IsSomeAnd o (λ rio. v.number < rio.next)) (sym (host_left serial table ok counted v.host apart)) (is.numbered more);
  }) (without serial table.windows)
      (All-filter (λ (v : Window). not (v.serial == serial)) (IsSoundWindow table) table.windows ok.windows) (All-filter (λ (v : Window). not (v.serial == serial)) (λ v. v.host ≢ serial) table.windows alone);
  numbers = numbers_without serial table.windows ok.numbers;
  next = subst (All (λ rio. rio.next ≤ table.serials + 1)) left (All-filter (λ (rio : Rio). not (rio.host == serial)) (λ rio. rio.next ≤ table.serials + 1) (rios_of table) ok.next);
  rios = subst (All (IsSoundRio (without serial table.windows))) left
      (All-both (λ rio. rio.host ≢ serial) (λ rio. (rio_of table rio.host ≡ Some rio) × IsSoundRio table.windows rio) (IsSoundRio (without serial table.windows)) (λ rio apart is. rio_left serial host table only alone current hold rio apart is.0 is.1)
      (filter (λ rio. not (rio.host == serial)) (rios_of table))
      (All-weaker (λ (rio : Rio). not (rio.host == serial) ≡ true) (λ rio. rio.host ≢ serial) (λ rio e. differs rio.host serial e) (filter (λ rio. not (rio.host == serial)) (rios_of table)) (filter_passes (λ (rio : Rio). not (rio.host == serial)) (rios_of table)))
      (All-filter (λ (rio : Rio). not (rio.host == serial)) (λ rio. (rio_of table rio.host ≡ Some rio) × IsSoundRio table.windows rio) (rios_of table)
      (All-both (λ rio. rio_of table rio.host ≡ Some rio) (IsSoundRio table.windows) (λ rio. (rio_of table rio.host ≡ Some rio) × IsSoundRio table.windows rio) (λ rio a b. (a, b)) (rios_of table) (lone table ok) ok.rios)));
}
  where
    left : filter (λ rio. not (rio.host == serial)) (rios_of table) ≡ rios_of (without_it serial table)
    left = rios_left serial table ok counted

-- ---- a window goes, and those in it before it

-- What is left when a window went: no new window, and none of its serial.
pub record IsLeft (serial : ℕ) (old new : Step) : Type 1 where
  pub sound : IsSound new.table
  pub each : (P : Window → Type 0) → All P old.table.windows → All P new.table.windows
  pub gone : All (λ w. w.serial ≢ serial) new.table.windows

dropped-left : (w : Window) (step : Step) → IsSound step.table → 0 < w.serial → OnlyIn step.table.windows w.serial w.host → All (λ v. v.host ≢ w.serial) step.table.windows → IsLeft w.serial step (dropped w step)
unfolding dropped
dropped-left w step ok counted only alone =
    let idle = retired w.host w.serial step in
    let same : idle.table.windows ≡ step.table.windows = retired-windows w.host w.serial step in
    record {
      sound = left_sound w.serial w.host idle.table (retired-sound w.host w.serial step ok) counted
          (subst (λ ws. OnlyIn ws w.serial w.host) (sym same) only) (subst (All (λ v. v.host ≢ w.serial)) (sym same) alone)
          (retired-current w.host w.serial step) (retired-hold w.host w.serial step);
      each = λ P all. All-filter (λ (v : Window). not (v.serial == w.serial)) P idle.table.windows (subst (All P) (sym same) all);
      gone = All-weaker (λ (v : Window). not (v.serial == w.serial) ≡ true) (λ v. v.serial ≢ w.serial) (λ v e. differs v.serial w.serial e) (without w.serial idle.table.windows) (filter_passes (λ (v : Window). not (v.serial == w.serial)) idle.table.windows);
    }

-- a window that may go, where so many levels are looked at
pub record MayGo (levels : ℕ) (windows : List Window) (w : Window) : Type 0 where
  pub counted : 0 < w.serial
  pub only : OnlyIn windows w.serial w.host
  pub deep : (depth : ℕ) → IsNested windows depth w.serial → 10 ≤ levels + depth

-- what is found later was found before
abbrev pub Fewer : Step → Step → Type 0
Fewer old new = (serial : ℕ) (w : Window) → window_in new.table.windows serial ≡ Some w → window_in old.table.windows serial ≡ Some w

pub fewer : (old new : Step) → IsSound old.table → ((P : Window → Type 0) → All P old.table.windows → All P new.table.windows) → Fewer old new
fewer old new ok each serial w e =
    let own = find-all (λ v. window_in old.table.windows v.serial ≡ Some v) (λ (v : Window). v.serial == serial) new.table.windows w (each (λ v. window_in old.table.windows v.serial ≡ Some v) (stand_own old.table ok)) e in
    ap (window_in old.table.windows) (sym (has_serial new.table.windows serial w e)) ∙ own

pub may_still : (old new : Step) → Fewer old new → (levels : ℕ) (w : Window) → MayGo levels old.table.windows w → MayGo levels new.table.windows w
may_still old new few levels w may = record {
  counted = may.counted;
  only = λ v e. may.only v (few w.serial v e);
  deep = λ depth is. may.deep depth (nested_kept (λ _. Unit {0}) new.table.windows old.table.windows (λ at v _ e. (v, few at v e, refl, tt)) depth w.serial tt is);
}

-- what is left when several windows went
pub record AreLeft (gone : List Window) (old new : Step) : Type 1 where
  pub sound : IsSound new.table
  pub each : (P : Window → Type 0) → All P old.table.windows → All P new.table.windows
  pub all_gone : All (λ w. All (λ v. w.serial ≢ v.serial) gone) new.table.windows

pub all_deleted : (levels : ℕ) → ((w : Window) (step : Step) → IsSound step.table → MayGo levels step.table.windows w → IsLeft w.serial step (deleted levels w step))
    → (ws : List Window) (step : Step) → IsSound step.table → All (MayGo levels step.table.windows) ws → AreLeft ws step (fold (λ step v. deleted levels v step) step ws)
all_deleted levels deletes [] step ok may = record {
  sound = ok;
  each = λ P all. all;
  all_gone = λ k d within. All-nil (λ v. (get_or step.table.windows k d).serial ≢ v.serial);
}
all_deleted levels deletes (w ∷ ws) step ok may =
    let next : Step = deleted levels w step in
    let first = deletes w step ok (All-head (MayGo levels step.table.windows) w ws may) in
    let few = fewer step next ok first.each in
    let rest = all_deleted levels deletes ws next first.sound (All-weaker (MayGo levels step.table.windows) (MayGo levels next.table.windows) (may_still step next few levels) ws (All-tail (MayGo levels step.table.windows) w ws may)) in
    let last : Step = fold (λ step v. deleted levels v step) next ws in
    record {
      sound = rest.sound;
      each = λ P all. rest.each P (first.each P all);
      all_gone = All-both (λ v. v.serial ≢ w.serial) (λ v. All (λ u. v.serial ≢ u.serial) ws) (λ v. All (λ u. v.serial ≢ u.serial) (w ∷ ws)) (λ v here later. All-cons (λ u. v.serial ≢ u.serial) w ws here later) last.table.windows
          (rest.each (λ v. v.serial ≢ w.serial) first.gone) rest.all_gone;
    }

-- the windows of a rio in ascending serial are its windows
pub put_each : (Q : Window → Type 0) (ws acc : List Window) → All Q acc → All Q ws → All Q (fold put acc ws)
put_each Q [] acc old all = old
put_each Q (w ∷ ws) acc old all =
    put_each Q ws (put acc w) (All-permutation Q (w ∷ acc) (put acc w) (IsPermutation-insert acc (position_or_len (λ v. nat_lt w.serial v.serial) acc) w) (All-cons Q w acc (All-head Q w ws all) old)) (All-tail Q w ws all)

pub each_put : (Q : Window → Type 0) (ws acc : List Window) → All Q (fold put acc ws) → All Q acc × All Q ws
each_put Q [] acc all = (all, All-nil Q)
each_put Q (w ∷ ws) acc all =
    let rest = each_put Q ws (put acc w) all in
    let both = All-permutation Q (put acc w) (w ∷ acc) (IsPermutation-sym (w ∷ acc) (put acc w) (IsPermutation-insert acc (position_or_len (λ v. nat_lt w.serial v.serial) acc) w)) rest.0 in
    (All-tail Q w acc both, All-cons Q w ws (All-head Q w acc both) rest.1)

-- each window of the rio in a window that may go may go, one level less looked at
pub inner_may : (levels : ℕ) (w : Window) (table : Table) → IsSound table → MayGo (suc levels) table.windows w → All (MayGo levels table.windows) (made_in table w.serial)
inner_may levels w table ok may =
    put_each (MayGo levels table.windows) (windows_in table w.serial) [] (All-nil (MayGo levels table.windows))
    (All-both (λ (v : Window). (v.host == w.serial) ≡ true) (λ v. IsSoundWindow table v × (window_in table.windows v.serial ≡ Some v)) (MayGo levels table.windows) each (windows_in table w.serial)
    (filter_passes (λ (v : Window). v.host == w.serial) table.windows)
    (All-filter (λ (v : Window). v.host == w.serial) (λ v. IsSoundWindow table v × (window_in table.windows v.serial ≡ Some v)) table.windows
    (All-both (IsSoundWindow table) (λ v. window_in table.windows v.serial ≡ Some v) (λ v. IsSoundWindow table v × (window_in table.windows v.serial ≡ Some v)) (λ v a b. (a, b)) table.windows ok.windows (stand_own table ok))))
  where
    deeper : (v : Window) → (v.host == w.serial) ≡ true → 0 < v.serial → window_in table.windows v.serial ≡ Some v → (depth : ℕ) → IsNested table.windows depth v.serial → 10 ≤ levels + depth
    deeper v at counted own zero is = absurd (omega (arith, counted, is))
    deeper v at counted own (suc depth) is =
        let found = found_of (window_in table.windows v.serial) (λ u. IsNested table.windows depth u.host) is in
        let same : found.0 ≡ v = same_Some found.0 v (sym found.1 ∙ own) in
        let below = may.deep depth (subst (IsNested table.windows depth) (ap (λ u. u.host) same ∙ eqb-true v.host w.serial at) found.2) in
        omega (arith, below)

    each : (v : Window) → (v.host == w.serial) ≡ true → IsSoundWindow table v × (window_in table.windows v.serial ≡ Some v) → MayGo levels table.windows v
    each v at is = record {
      counted = is.0.counted;
      only = λ u e. ap (λ z. z.host) (same_Some u v (sym e ∙ is.1));
      deep = deeper v at is.0.counted is.1;
    }

-- no window is left in a rio whose windows went
emptied : (serial : ℕ) (old new : Step) → AreLeft (made_in old.table serial) old new → All (λ v. v.host ≢ serial) new.table.windows
emptied serial old new are =
    All-both Among (λ v. All (λ u. v.serial ≢ u.serial) inner) (λ v. v.host ≢ serial) (λ v among none at. among (eq-eqb v.host serial at) none) new.table.windows (are.each Among there) are.all_gone
  where
    inner : List Window
    inner = made_in old.table serial

    Among : Window → Type 0
    Among v = (v.host == serial) ≡ true → All (λ u. v.serial ≢ u.serial) inner → ⊥

    there : All Among old.table.windows
    there =
        filtered_out (λ (v : Window). v.host == serial) (λ v. All (λ u. v.serial ≢ u.serial) inner → ⊥) old.table.windows
        (each_put (λ v. All (λ u. v.serial ≢ u.serial) inner → ⊥) (windows_in old.table serial) [] (λ k d within none. none k d within refl)).1

-- where no level is looked at, there is no such window
none_there : (w : Window) (table : Table) → IsSound table → MayGo 0 table.windows w → All (λ v. v.serial ≢ w.serial) table.windows
none_there w table ok may =
    All-both (IsSoundWindow table) (λ v. window_in table.windows v.serial ≡ Some v) (λ v. v.serial ≢ w.serial) each table.windows ok.windows (stand_own table ok)
  where
    each : (v : Window) → IsSoundWindow table v → window_in table.windows v.serial ≡ Some v → v.serial ≢ w.serial
    each v is own same =
        let depth = depth_of table ok v.host is.housed in
        let too_deep = may.deep (suc depth.0) (subst (IsNested table.windows (suc depth.0)) same (of_found (window_in table.windows v.serial) (λ u. IsNested table.windows depth.0 u.host) v own depth.2)) in
        omega (arith, too_deep, depth.1)

pub deleted-left : (levels : ℕ) (w : Window) (step : Step) → IsSound step.table → MayGo levels step.table.windows w → IsLeft w.serial step (deleted levels w step)
unfolding deleted
deleted-left zero w step ok may = record { sound = ok; each = λ P all. all; gone = none_there w step.table ok may }
deleted-left (suc levels) w step ok may =
    let inner = made_in step.table w.serial in
    let emptier : Step = fold (λ step v. deleted levels v step) step inner in
    let are = all_deleted levels (deleted-left levels) inner step ok (inner_may levels w step.table ok may) in
    let few = fewer step emptier ok are.each in
    let left = dropped-left w emptier are.sound may.counted (λ v e. may.only v (few w.serial v e)) (emptied w.serial step emptier are) in
    record { sound = left.sound; each = λ P all. left.each P (are.each P all); gone = left.gone }
