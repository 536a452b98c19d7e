-- Paths name windows.
use Rattle.std.proofs.Common.{◌≢◌, IfSome, IfNone, IsSome, ◌≡◌, ◌∙◌, ℕ, zero, suc, ◌≤◌, ◌==◌, ◌&&◌, Bool, true, false, List, [], ◌∷◌, ◌++◌, length, find, Option, Some, None, option_map, option_and_then, All, AllPairs, refl, sym, ap, arith, append_assoc, append-nil, eqb-true, eq-eqb, ne_eqb}
use Rattle.std.proofs.lemmas.Bool.{and_parts}
use Rattle.std.proofs.lemmas.List.Elements.{All-nil, All-cons}
use Rattle.model_rio.specs.rio.Table.{Window, Table, window_of, path_up, path_of, numbered, below, found}
use Rattle.model_rio.specs.rio.Sound.{window_in, IsNested, IsSound, HaveOwnNumbers}
use Rattle.model_rio.proofs.rio.Lookups.{find-all, find-passes, found_of, of_found, All-both, AllPairs-first, AllPairs-rest}
use Rattle.model_rio.proofs.rio.Puts.{has_serial}
use Rattle.model_rio.proofs.rio.Tables.{found_sound}
use Rattle.model_rio.proofs.rio.Makings.{none_at_root, path_length, depth_of}
use Rattle.model_rio.proofs.rio.Movings.{stand_own}

-- ---- looking further up finds no more

path_same : (table : Table) → IsSound table → (levels most serial : ℕ) → levels ≤ most → IsNested table.windows levels serial → path_up most table serial ≡ path_up levels table serial
unfolding path_up
path_same table ok zero zero serial few is = refl
path_same table ok zero (suc most) serial few is = rw (is, none_at_root table ok (window_in table.windows 0) refl) refl
path_same table ok (suc levels) zero serial few is = absurd (omega arith)
path_same table ok (suc levels) (suc most) serial few is =
    let found = found_of (window_in table.windows serial) (λ w. IsNested table.windows levels w.host) is in
    rw found.1 (ap (λ path. path ++ found.0.number ∷ []) (path_same table ok levels most found.0.host (omega arith) found.2))

depth : (table : Table) → IsSound table → (serial : ℕ) (w : Window) → window_of table serial ≡ Some w → (levels : ℕ) × (levels ≤ 8) × IsNested table.windows (suc levels) serial
depth table ok serial w e =
    let up = depth_of table ok w.host (found_sound table ok serial w e).housed in
    (up.0, up.1, of_found (window_in table.windows serial) (λ v. IsNested table.windows up.0 v.host) w e up.2)

pub path_whole : (table : Table) (serial : ℕ) (w : Window) → IsSound table → window_of table serial ≡ Some w → (levels : ℕ) → 9 ≤ levels
    → (path_up levels table serial ≡ path_up 9 table serial) × (length (path_up levels table serial) ≤ 9)
path_whole table serial w ok e levels more =
    let up = depth table ok serial w e in (
      path_same table ok (suc up.0) levels serial (omega (arith, up.1, more)) up.2 ∙ sym (path_same table ok (suc up.0) 9 serial (omega (arith, up.1)) up.2),
      omega (arith, path_length table ok (suc up.0) levels serial (omega (arith, up.1, more)) up.2, up.1),
    )

-- ---- a window by its rio and its number there

abbrev is_at : ℕ → ℕ → Window → Bool
is_at host number w = (w.host == host) && (w.number == number)

own_place : (ws : List Window) → AllPairs HaveOwnNumbers ws → All (λ w. find (is_at w.host w.number) ws ≡ Some w) ws
own_place [] pairs = All-nil (λ w. find (is_at w.host w.number) [] ≡ Some w)
own_place (w ∷ ws) pairs =
    All-cons (λ v. find (is_at v.host v.number) (w ∷ ws) ≡ Some v) w ws (rw (eq-eqb w.host w.host refl, eq-eqb w.number w.number refl) refl)
    (All-both (λ v. find (is_at v.host v.number) ws ≡ Some v) (HaveOwnNumbers w) (λ v. find (is_at v.host v.number) (w ∷ ws) ≡ Some v)
    (λ v later apart. by_test v later apart (w.host == v.host) refl) ws
    (own_place ws (AllPairs-rest HaveOwnNumbers w ws pairs)) (AllPairs-first HaveOwnNumbers w ws pairs))
  where
    by_test : (v : Window) → find (is_at v.host v.number) ws ≡ Some v → HaveOwnNumbers w v → (b : Bool) → (w.host == v.host) ≡ b → find (is_at v.host v.number) (w ∷ ws) ≡ Some v
    by_test v later apart true e = rw (e, ne_eqb w.number v.number (apart (eqb-true w.host v.host e))) later
    by_test v later apart false e = rw e later

numbered_own : (table : Table) → IsSound table → (serial : ℕ) (w : Window) → window_of table serial ≡ Some w → numbered table w.host w.number ≡ Some serial
numbered_own table ok serial w e =
    ap (option_map (λ v. v.serial)) (find-all (λ v. find (is_at v.host v.number) table.windows ≡ Some v) (λ (v : Window). v.serial == serial) table.windows w (own_place table.windows ok.numbers) e)
    ∙ ap Some (has_serial table.windows serial w e)

-- ---- a window by its path

then_some : (o : Option ℕ) → option_and_then (λ serial. Some serial) o ≡ o
then_some (Some n) = refl
then_some None = refl

below-push : (table : Table) (path : List ℕ) (host number : ℕ) → below table host (path ++ number ∷ []) ≡ option_and_then (λ serial. numbered table serial number) (below table host path)
below-push table [] host number = then_some (numbered table host number)
below-push table (n ∷ path) host number = by_found (numbered table host n) (λ serial. below-push table path serial number)
  where
    by_found : (o : Option ℕ) → ((serial : ℕ) → below table serial (path ++ number ∷ []) ≡ option_and_then (λ serial. numbered table serial number) (below table serial path))
        → option_and_then (λ serial. below table serial (path ++ number ∷ [])) o ≡ option_and_then (λ serial. numbered table serial number) (option_and_then (λ serial. below table serial path) o)
    by_found None later = refl
    by_found (Some serial) later = later serial

path_below : (table : Table) → IsSound table → (levels most serial : ℕ) → levels ≤ most → IsNested table.windows levels serial → below table 0 (path_up most table serial) ≡ Some serial
unfolding path_up
path_below table ok zero zero serial few is = ap Some (sym is)
path_below table ok zero (suc most) serial few is = rw (is, none_at_root table ok (window_in table.windows 0) refl) refl
path_below table ok (suc levels) zero serial few is = absurd (omega arith)
path_below table ok (suc levels) (suc most) serial few is =
    let at = found_of (window_in table.windows serial) (λ w. IsNested table.windows levels w.host) is in
    rw at.1
    (below-push table (path_up most table at.0.host) 0 at.0.number
    ∙ ap (option_and_then (λ host. numbered table host at.0.number)) (path_below table ok levels most at.0.host (omega arith) at.2)
    ∙ numbered_own table ok serial at.0 at.1)

-- the path of a window goes on from that of its host
path_on : (table : Table) → IsSound table → (serial : ℕ) (w : Window) → window_of table serial ≡ Some w → path_of table serial ≡ path_of table w.host ++ w.number ∷ []
unfolding path_up
path_on table ok serial w e =
    let up = depth_of table ok w.host (found_sound table ok serial w e).housed in
    rw e (ap (λ path. path ++ w.number ∷ []) (path_same table ok up.0 8 w.host up.1 up.2 ∙ sym (path_same table ok up.0 9 w.host (omega (arith, up.1)) up.2)))

found-push : (table : Table) (path : List ℕ) (number : ℕ) → found table (path ++ number ∷ []) ≡ below table 0 (path ++ number ∷ [])
unfolding found
found-push table [] number = refl
found-push table (n ∷ path) number = refl

pub path_found : (table : Table) (serial : ℕ) (w : Window) → IsSound table → window_of table serial ≡ Some w → found table (path_of table serial) ≡ Some serial
path_found table serial w ok e =
    let up = depth table ok serial w e in
    let on = path_on table ok serial w e in
    ap (found table) on ∙ found-push table (path_of table w.host) w.number ∙ ap (below table 0) (sym on) ∙ path_below table ok (suc up.0) 9 serial (omega (arith, up.1)) up.2

-- what is found by a number in a rio
at_number : (table : Table) → IsSound table → (host number serial : ℕ) → numbered table host number ≡ Some serial → (w : Window) × (window_of table serial ≡ Some w) × (w.host ≡ host) × (w.number ≡ number)
at_number table ok host number serial e = by_found (find (is_at host number) table.windows) refl e
  where
    by_found : (o : Option Window) → find (is_at host number) table.windows ≡ o → option_map (λ w. w.serial) o ≡ Some serial → (w : Window) × (window_of table serial ≡ Some w) × (w.host ≡ host) × (w.number ≡ number)
    by_found None at e = absurd (let f : ◌≡◌ {A = Option ℕ} None (Some serial) = e in cc)
    by_found (Some w) at e =
        let same : w.serial ≡ serial = cc in
        let is = and_parts (w.host == host) (w.number == number) (find-passes (is_at host number) table.windows w at) in
        (w, ap (window_in table.windows) (sym same) ∙ find-all (λ v. window_in table.windows v.serial ≡ Some v) (is_at host number) table.windows w (stand_own table ok) at, eqb-true w.host host is.0, eqb-true w.number number is.1)

below_path : (table : Table) → IsSound table → (path : List ℕ) (host serial : ℕ) → below table host path ≡ Some serial → path_of table serial ≡ path_of table host ++ path
below_path table ok [] host serial e = let same : host ≡ serial = cc in ap (path_of table) (sym same) ∙ sym (append-nil (path_of table host))
below_path table ok (number ∷ path) host serial e = by_found (numbered table host number) refl (below_path table ok path) e
  where
    by_found : (o : Option ℕ) → numbered table host number ≡ o → ((at serial : ℕ) → below table at path ≡ Some serial → path_of table serial ≡ path_of table at ++ path)
        → option_and_then (λ serial. below table serial path) o ≡ Some serial → path_of table serial ≡ path_of table host ++ number ∷ path
    by_found None at later e = absurd (let f : ◌≡◌ {A = Option ℕ} None (Some serial) = e in cc)
    by_found (Some next) at later e =
        let is = at_number table ok host number next at in
        later next serial e ∙ ap (λ front. front ++ path) (path_on table ok next is.0 is.1 ∙ (λ i. path_of table (is.2 i) ++ is.3 i ∷ []))
        ∙ append_assoc (path_of table host) (number ∷ []) path

root_path : (table : Table) → IsSound table → path_of table 0 ≡ []
unfolding path_up
root_path table ok = rw (none_at_root table ok (window_in table.windows 0) refl) refl

pub found_path : (table : Table) (path : List ℕ) (serial : ℕ) → IsSound table → found table path ≡ Some serial → path_of table serial ≡ path
unfolding found
found_path table [] serial ok e = absurd (let f : ◌≡◌ {A = Option ℕ} None (Some serial) = e in cc)
found_path table (number ∷ path) serial ok e = below_path table ok (number ∷ path) 0 serial e ∙ ap (λ front. front ++ number ∷ path) (root_path table ok)

-- what a search for a path answers
pub answered : (table : Table) (path : List ℕ) (answer : Option ℕ) → answer ≡ found table path → IsSound table → IfSome answer (λ serial. path_of table serial ≡ path)
answered table path (Some serial) e ok = found_path table path serial ok (sym e)
answered table path None e ok = tt

pub unanswered : (table : Table) (path : List ℕ) (answer : Option ℕ) → answer ≡ found table path → IsSound table → IfNone answer ((serial : ℕ) → IsSome (window_of table serial) → path_of table serial ≢ path)
unanswered table path (Some serial) e ok = tt
unanswered table path None e ok = λ serial is same. by_window serial same (window_of table serial) refl is
  where
    by_window : (serial : ℕ) → path_of table serial ≡ path → (o : Option Window) → window_of table serial ≡ o → IsSome o → ⊥
    by_window serial same (Some w) at is = absurd (let f : ◌≡◌ {A = Option ℕ} None (Some serial) = e ∙ ap (found table) (sym same) ∙ path_found table serial w ok at in cc)
    by_window serial same None at is = absurd (let f : false ≡ true = is in cc)
