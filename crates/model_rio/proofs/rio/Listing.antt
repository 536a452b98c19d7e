-- The windows of a rio are listed in ascending serial.
use Rattle.std.proofs.Common.{AllPairs, ◌≡◌, ◌≢◌, ℕ, suc, ◌+◌, ◌<◌, ◌==◌, Bool, true, false, List, [], ◌∷◌, map, fold, Some, All, Contains, IsSomeAnd, refl, sym, ap, subst, arith, eqb-true, eq-eqb}
use Rattle.std.specs.Prelude.{nat_lt}
use Rattle.std.specs.List.{insert, position_or_len}
use Rattle.std.proofs.lemmas.Bool.{ltb-true, ltb-false}
use Rattle.std.proofs.lemmas.List.Elements.{All-nil, All-cons, All-head, All-tail, All-weaker, All-map, All-filter, All-contains_itself, filter_passes}
use Rattle.std.proofs.lemmas.List.Kept.{AllPairs-cons, AllPairs-filter}
use Rattle.std.proofs.lemmas.List.Sorted.{All-permutation, IsPermutation-insert}
use Rattle.model_rio.specs.rio.Table.{Window, Table, window_of, windows_in, made_in, serials_of, put}
use Rattle.model_rio.specs.rio.Sound.{window_in, IsSound}
use Rattle.model_rio.proofs.rio.Lookups.{find-all, of_found, filtered_out, All-both, All-from_map, AllPairs-first, AllPairs-rest}
use Rattle.model_rio.proofs.rio.Puts.{has_serial}
use Rattle.model_rio.proofs.rio.Movings.{stand_own}
use Rattle.model_rio.proofs.rio.Goings.{put_each, each_put}

abbrev IsBefore : Window → Window → Type 0
IsBefore v w = v.serial < w.serial

abbrev IsOther : Window → Window → Type 0
IsOther v w = v.serial ≢ w.serial

put_first : (w x : Window) (xs : List Window) → nat_lt w.serial x.serial ≡ true → put (x ∷ xs) w ≡ w ∷ x ∷ xs
put_first w x xs e = rw e refl

put_later : (w x : Window) (xs : List Window) → nat_lt w.serial x.serial ≡ false → put (x ∷ xs) w ≡ x ∷ put xs w
put_later w x xs e =
    let at = position_or_len (λ (v : Window). nat_lt w.serial v.serial) xs in
    let next : 1 + at ≡ suc at = omega arith in
    rw e (ap (λ n. insert (x ∷ xs) n w) next)

put_all : (P : Window → Type 0) (ws : List Window) (w : Window) → P w → All P ws → All P (put ws w)
put_all P ws w is all = All-permutation P (w ∷ ws) (put ws w) (IsPermutation-insert ws (position_or_len (λ v. nat_lt w.serial v.serial) ws) w) (All-cons P w ws is all)

put_ascends : (ws : List Window) (w : Window) → AllPairs IsBefore ws → All (λ v. IsOther v w) ws → AllPairs IsBefore (put ws w)
put_ascends [] w pairs other = AllPairs-cons IsBefore w [] (All-nil (IsBefore w)) (λ i j d before within. absurd (omega arith))
put_ascends (x ∷ xs) w pairs other = by_test (nat_lt w.serial x.serial) refl (put_ascends xs w (AllPairs-rest IsBefore x xs pairs) (All-tail (λ v. IsOther v w) x xs other))
  where
    by_test : (b : Bool) → nat_lt w.serial x.serial ≡ b → AllPairs IsBefore (put xs w) → AllPairs IsBefore (put (x ∷ xs) w)
    by_test true e later =
        let first = ltb-true w.serial x.serial e in
        subst (AllPairs IsBefore) (sym (put_first w x xs e))
        (AllPairs-cons IsBefore w (x ∷ xs) (All-cons (IsBefore w) x xs first (All-weaker (IsBefore x) (IsBefore w) (λ v next. omega (arith, first, next)) xs (AllPairs-first IsBefore x xs pairs))) pairs)
    by_test false e later =
        let least = ltb-false w.serial x.serial e in
        let apart = All-head (λ v. IsOther v w) x xs other in
        subst (AllPairs IsBefore) (sym (put_later w x xs e))
        (AllPairs-cons IsBefore x (put xs w) (put_all (IsBefore x) xs w (omega (arith, least, apart)) (AllPairs-first IsBefore x xs pairs)) later)

all_ascend : (ws acc : List Window) → AllPairs IsBefore acc → AllPairs IsOther ws → All (λ w. All (λ v. IsOther v w) acc) ws → AllPairs IsBefore (fold put acc ws)
all_ascend [] acc up apart other = up
all_ascend (w ∷ ws) acc up apart other =
    all_ascend ws (put acc w) (put_ascends acc w up (All-head (λ u. All (λ v. IsOther v u) acc) w ws other)) (AllPairs-rest IsOther w ws apart)
    (All-both (IsOther w) (λ u. All (λ v. IsOther v u) acc) (λ u. All (λ v. IsOther v u) (put acc w)) (λ u here later. put_all (λ v. IsOther v u) acc w here later) ws
    (AllPairs-first IsOther w ws apart) (All-tail (λ u. All (λ v. IsOther v u) acc) w ws other))

-- what holds of each two elements of a mapped list holds of what they are made of
pairs_from_map : (R : ℕ → ℕ → Type 0) (ws : List Window) → AllPairs R (map (λ w. w.serial) ws) → AllPairs (λ v w. R v.serial w.serial) ws
pairs_from_map R [] pairs = λ i j d before within. absurd (omega arith)
pairs_from_map R (w ∷ ws) pairs =
    AllPairs-cons (λ v u. R v.serial u.serial) w ws (All-from_map (R w.serial) (λ v. v.serial) ws (AllPairs-first R w.serial (map (λ v. v.serial) ws) pairs))
    (pairs_from_map R ws (AllPairs-rest R w.serial (map (λ v. v.serial) ws) pairs))

pairs_to_map : (R : ℕ → ℕ → Type 0) (ws : List Window) → AllPairs (λ v w. R v.serial w.serial) ws → AllPairs R (map (λ w. w.serial) ws)
pairs_to_map R [] pairs = λ i j d before within. absurd (omega arith)
pairs_to_map R (w ∷ ws) pairs =
    AllPairs-cons R w.serial (map (λ v. v.serial) ws) (All-map (R w.serial) (λ (v : Window). v.serial) ws (AllPairs-first (λ v u. R v.serial u.serial) w ws pairs))
    (pairs_to_map R ws (AllPairs-rest (λ v u. R v.serial u.serial) w ws pairs))

pub listed_up : (table : Table) (host : ℕ) → IsSound table → AllPairs ◌<◌ (serials_of table host)
unfolding serials_of
listed_up table host ok =
    pairs_to_map ◌<◌ (made_in table host)
    (all_ascend (windows_in table host) [] (λ i j d before within. absurd (omega arith)) (AllPairs-filter IsOther (λ (w : Window). w.host == host) table.windows (pairs_from_map ◌≢◌ table.windows ok.serials))
    (All-weaker (λ (w : Window). (w.host == host) ≡ true) (λ w. All (λ v. IsOther v w) []) (λ w _. All-nil (λ v. IsOther v w)) (windows_in table host) (filter_passes (λ (w : Window). w.host == host) table.windows)))

-- each that is listed is a window of the rio
pub listed_there : (table : Table) (host : ℕ) → IsSound table → All (λ serial. IsSomeAnd (window_of table serial) (λ w. w.host ≡ host)) (serials_of table host)
unfolding serials_of
listed_there table host ok =
    All-map (λ serial. IsSomeAnd (window_of table serial) (λ w. w.host ≡ host)) (λ (w : Window). w.serial) (made_in table host)
    (put_each Is (windows_in table host) [] (All-nil Is)
    (All-both (λ (w : Window). (w.host == host) ≡ true) (λ w. window_in table.windows w.serial ≡ Some w) Is (λ w at own. of_found (window_in table.windows w.serial) (λ v. v.host ≡ host) w own (eqb-true w.host host at)) (windows_in table host)
    (filter_passes (λ (w : Window). w.host == host) table.windows) (All-filter (λ (w : Window). w.host == host) (λ w. window_in table.windows w.serial ≡ Some w) table.windows (stand_own table ok))))
  where
    Is : Window → Type 0
    Is w = IsSomeAnd (window_of table w.serial) (λ v. v.host ≡ host)

-- and each window of the rio is listed
pub listed_all : (table : Table) (host serial : ℕ) (w : Window) → IsSound table → window_of table serial ≡ Some w → w.host ≡ host → Contains (serials_of table host) serial
unfolding serials_of
listed_all table host serial w ok e at =
    subst (Contains (map (λ v. v.serial) (made_in table host))) (has_serial table.windows serial w e)
    (find-all (λ v. (v.host == host) ≡ true → Listed v) (λ (v : Window). v.serial == serial) table.windows w
    (filtered_out (λ (v : Window). v.host == host) Listed table.windows (each_put Listed (windows_in table host) [] (All-from_map (Contains (map (λ v. v.serial) (made_in table host))) (λ v. v.serial) (made_in table host) (All-contains_itself (map (λ v. v.serial) (made_in table host))))).1) e (eq-eqb w.host host at))
  where
    Listed : Window → Type 0
    Listed v = Contains (map (λ u. u.serial) (made_in table host)) v.serial
