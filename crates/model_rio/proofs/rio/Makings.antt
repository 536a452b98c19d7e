-- New windows, new rios, and windows that are hidden, shown or moved keep a table sound.
use Rattle.std.proofs.Common.{option_map, ◌≡◌, ◌≢◌, ◌∙◌, ℕ, zero, suc, ◌+◌, ◌-◌, ◌^◌, ◌<◌, ◌≤◌, ◌==◌, Bool, true, false, cond, List, [], ◌∷◌, ◌++◌, map, length, find, Option, Some, None, Ok, is_some, All, IsSomeAnd, refl, sym, ap, subst, arith, eqb-true, eq-eqb, ne_eqb, length-append}
use Rattle.std.specs.Prelude.{nat_le}
use Rattle.std.specs.Option.{option_or, option_and_then, option_map_or}
use Rattle.std.proofs.lemmas.Bool.{eqb-false, cond_both, cond-true, cond-false, or_parts, leb-false}
use Rattle.std.proofs.lemmas.Option.{same_Some}
use Rattle.std.proofs.lemmas.List.{map_push}
use Rattle.std.proofs.lemmas.List.Elements.{All-nil, All-cons, All-push, All-weaker, All-map}
use Rattle.std.proofs.lemmas.List.Kept.{AllPairs-cons}
use Rattle.std.proofs.lemmas.List.Quantifiers.{all_pairs_push}
use Rattle.std.proofs.lemmas.List.Folds.{find-append}
use Rattle.model_rio.specs.rio.Table.{Window, Rio, Table, Free, Held, Nobody, no_windows, rio_of, is_host, current_of, hold_of, path_up, path_of, name_by}
use Rattle.model_rio.specs.rio.Step.{Step, changed, ordered, noted, with_current, with_windows, with_hold, not_current, in_place, raised, lowered, retired, is_same, is_held}
use Rattle.model_rio.specs.rio.Rio.{is_full, next_number, entered, made, hidden, shown, to_top, to_bottom, made_current, hosted, outside}
use Rattle.model_rio.specs.rio.Sound.{window_in, IsSeenIn, IsNested, IsSoundWindow, IsSoundRio, IsSound, AreDistinct, HaveOwnNumbers}
use Rattle.r9_event.specs.declared.event.rio.Note.{Note}
use Rattle.r9_event.specs.declared.event.rio.Note.TheVariants as note
use Rattle.r9_event.specs.declared.event.rio.Order.{Order}
use Rattle.r9_event.specs.declared.event.rio.Order.TheVariants as order
use Rattle.model_rio.proofs.rio.Refusals.{refuse_ok, same_Ok}
use Rattle.model_rio.proofs.rio.Lookups.{All-changed, own, find-all, find-passes, of_found, found_of, All-both}
use Rattle.model_rio.proofs.rio.Puts.{SamePlace, itself, numbers_in_place, numbers_raised, numbers_lowered, has_serial, IsPut, IsPut-in_place, IsPut-raised, IsPut-lowered, serials_in}
use Rattle.model_rio.proofs.rio.Tables.{same_host, same_hosts, rio_changed, hosts_changed, rios_of, with_rios, with_windows_of, nested_kept, nested_put, rio_kept, put_sound, shown_sound, found_sound}
use Rattle.model_rio.proofs.rio.Inputs.{current_sound, retired-sound, retired-windows, retired-current, retired-hold, with_current-table, with_current-idle}

-- ---- a window that enters

-- the rios stay, and so do the windows under the new one
abbrev pub with_new : Window → Table → Table
with_new w table = record table { serials = w.serial; windows = w ∷ table.windows }

fresh_among : (table : Table) → IsSound table → (n : ℕ) → table.serials < n → All (λ m. n ≢ m) (serials_in table.windows)
fresh_among table ok n more = All-map (λ m. n ≢ m) (λ (w : Window). w.serial) table.windows (All-weaker (IsSoundWindow table) (λ w. n ≢ w.serial) (λ w is same. absurd (omega (arith, is.given))) table.windows ok.windows)

-- none has a serial that was not given yet
new_other : (table : Table) → IsSound table → (w : Window) → table.serials < w.serial → (serial : ℕ) (v : Window) → window_in table.windows serial ≡ Some v → window_in (w ∷ table.windows) serial ≡ Some v
new_other table ok w more serial v e =
    let is = found_sound table ok serial v e in
    let same = has_serial table.windows serial v e in
    cond-false (w.serial == serial) (Some w) (window_in table.windows serial) (ne_eqb w.serial serial (λ f. absurd (omega (arith, is.given, same, f, more)))) ∙ e

nested_new : (table : Table) → IsSound table → (w : Window) → table.serials < w.serial → (levels serial : ℕ) → IsNested table.windows levels serial → IsNested (w ∷ table.windows) levels serial
nested_new table ok w more levels serial is =
    nested_kept (λ _. Unit {0}) table.windows (w ∷ table.windows) (λ at v _ e. (v, new_other table ok w more at v e, refl, tt)) levels serial tt is

seen_new : (table : Table) → IsSound table → (w : Window) → table.serials < w.serial → (host serial : ℕ) → IsSeenIn table.windows host serial → IsSeenIn (w ∷ table.windows) host serial
seen_new table ok w more host serial is =
    let was = found_of (window_in table.windows serial) (λ v. (v.host ≡ host) × (v.hidden ≡ false)) is in
    of_found (window_in (w ∷ table.windows) serial) (λ v. (v.host ≡ host) × (v.hidden ≡ false)) was.0 (new_other table ok w more serial was.0 was.1) was.2

-- a window whose number is the next one of its rio has a number of its own there
number_new : (table : Table) → IsSound table → table.serials < 2 ^ 32 - 1 → (w : Window) (home : Rio) → rio_of table w.host ≡ Some home → w.number ≡ home.next → All (HaveOwnNumbers w) table.windows
number_new table ok left w home found number =
    All-weaker (IsSoundWindow table) (HaveOwnNumbers w) (λ v is same again. absurd (less v same again (is.numbered left))) table.windows ok.windows
  where
    less : (v : Window) → w.host ≡ v.host → w.number ≡ v.number → IsSomeAnd (rio_of table v.host) (λ rio. v.number < rio.next) → ⊥
    less v same again is =
        let here : IsSomeAnd (Some home) (λ rio. v.number < rio.next) = subst (λ o. IsSomeAnd o (λ rio. v.number < rio.next)) (ap (rio_of table) (sym same) ∙ found) is in
        omega (arith, here, number, again)

abbrev numbered_on : Rio → Rio
numbered_on rio = record rio { next = next_number rio.next }

-- the numbers that were given stay given
next_more : (host number : ℕ) (o : Option Rio) → number < 2 ^ 32 - 1 → IsSomeAnd o (λ rio. number < rio.next) → IsSomeAnd (option_map (changed host numbered_on) o) (λ rio. number < rio.next)
next_more host number (Some rio) left less = cond_both (rio.host == host) (numbered_on rio) rio (λ z. number < z.next) (λ _. omega (arith, less)) (λ _. less)
next_more host number None left less = less

-- the table with one window more
abbrev with_entered : Window → Table → Table
with_entered w table = with_rios w.host numbered_on (with_new w table)

entered_sound : (w : Window) (home : Rio) (step : Step) → IsSound step.table → step.table.serials < w.serial → length step.table.windows < 64 → step.table.serials < 2 ^ 32 - 1
    → rio_of step.table w.host ≡ Some home → w.number ≡ home.next → IsSound (entered w step).table
entered_sound w home step ok more room left found number = record {
  root = same_host w.host numbered_on (λ rio. refl) table.root ∙ ok.root;
  few = omega (arith, room);
  serials = AllPairs-cons ◌≢◌ w.serial (serials_in table.windows) (fresh_among table ok w.serial more) ok.serials;
  hosts = subst AreDistinct (sym (same_hosts (changed w.host numbered_on) (same_host w.host numbered_on (λ rio. refl)) (rios_of table))) ok.hosts;
  numbers = AllPairs-cons HaveOwnNumbers w table.windows (number_new table ok left w home found number) ok.numbers;
  windows = All-cons (IsSoundWindow next) w table.windows here (All-weaker (IsSoundWindow table) (IsSoundWindow next) others table.windows ok.windows);
  rios = All-changed (IsSoundRio (w ∷ table.windows)) (changed w.host numbered_on)
      (λ rio is. cond_both (rio.host == w.host) (numbered_on rio) rio (IsSoundRio (w ∷ table.windows)) (λ _. record { nested = is.nested; current = is.current; hold = is.hold }) (λ _. is)) (rios_of table)
      (All-weaker (IsSoundRio table.windows) (IsSoundRio (w ∷ table.windows))
      (λ rio is. rio_kept table.windows (w ∷ table.windows) rio (λ levels. nested_new table ok w more levels rio.host) (λ serial _. seen_new table ok w more rio.host serial) (λ serial _. seen_new table ok w more rio.host serial) is)
      (rios_of table) ok.rios);
  next = All-map (λ rio. rio.next ≤ w.serial + 1) (changed w.host numbered_on) (rios_of table)
      (All-weaker (λ (rio : Rio). rio.next ≤ table.serials + 1) (λ rio. (changed w.host numbered_on rio).next ≤ w.serial + 1) (λ rio is. cond_both (rio.host == w.host) (numbered_on rio) rio (λ z. z.next ≤ w.serial + 1) (λ _. omega (arith, is, more)) (λ _. omega (arith, is, more))) (rios_of table) ok.next);
}
  where
    table : Table
    table = step.table

    next : Table
    next = with_entered w table

    at_most : home.next ≤ table.serials + 1
    at_most = find-all (λ (rio : Rio). rio.next ≤ table.serials + 1) (λ (rio : Rio). rio.host == w.host) (rios_of table) home ok.next found

    on : (host : ℕ) → rio_of next host ≡ option_map (changed w.host numbered_on) (rio_of table host)
    on host = rio_changed w.host numbered_on (λ rio. refl) (with_new w table) host

    own_host : home.host ≡ w.host
    own_host = eqb-true home.host w.host (find-passes (λ (rio : Rio). rio.host == w.host) (rios_of table) home found)

    newest : w.serial < 2 ^ 32 - 1 → IsSomeAnd (option_map (changed w.host numbered_on) (rio_of table w.host)) (λ rio. w.number < rio.next)
    newest left = subst (λ o. IsSomeAnd (option_map (changed w.host numbered_on) o) (λ rio. w.number < rio.next)) (sym found)
        (subst (λ rio. w.number < rio.next) (sym (cond-true (home.host == w.host) (numbered_on home) home (eq-eqb home.host w.host own_host))) (omega (arith, at_most, number, left, more)))

    here : IsSoundWindow next w
    here = record {
      counted = omega (arith, more);
      given = omega arith;
      within = omega (arith, at_most, number, more);
      housed = hosts_changed w.host numbered_on (λ rio. refl) (with_new w table) w.host ∙ ap is_some found;
      numbered = λ left. subst (λ o. IsSomeAnd o (λ rio. w.number < rio.next)) (sym (on w.host)) (newest left);
    }

    others : (v : Window) → IsSoundWindow table v → IsSoundWindow next v
    others v is = record {
      counted = is.counted;
      given = omega (arith, is.given, more);
      within = is.within;
      housed = hosts_changed w.host numbered_on (λ rio. refl) (with_new w table) v.host ∙ is.housed;
      numbered = λ more_left. subst (λ o. IsSomeAnd o (λ rio. v.number < rio.next)) (sym (on v.host)) (next_more w.host v.number (rio_of table v.host) (omega (arith, is.within, is.given, left)) (is.numbered left));
    }

pub made_sound : (w : Window) (home : Rio) (step : Step) → IsSound step.table → step.table.serials < w.serial → length step.table.windows < 64 → step.table.serials < 2 ^ 32 - 1
    → rio_of step.table w.host ≡ Some home → w.number ≡ home.next → IsSound (made w step).table
unfolding made
made_sound w home step ok more room left found number =
    let sound : IsSound (entered w step).table = entered_sound w home step ok more room left found number in
    let path = path_of step.table w.host ++ w.number ∷ [] in
    let name = name_by path w.generation in
    let there : Step = noted w.serial (note.Made w.number w.serial name w.r (length path)) (ordered (order.Make w.serial w.host w.r name w.hidden (length path)) (entered w step)) in
    cond_both w.hidden (noted w.serial (note.Hidden true) there) (with_current w.host (Some w.serial) there) (λ s. IsSound s.table) (λ _. sound)
    (λ is. current_sound w.host (Some w.serial) there sound
    (of_found (window_in (w ∷ step.table.windows) w.serial) (λ v. (v.host ≡ w.host) × (v.hidden ≡ false)) w (cond-true (w.serial == w.serial) (Some w) (window_in step.table.windows w.serial) (eq-eqb w.serial w.serial refl)) (refl, is)))

pub room_from : (table : Table) → is_full table ≡ false → (length table.windows < 64) × (table.serials < 2 ^ 32 - 1)
room_from table e =
    let parts = or_parts (nat_le 64 (length table.windows)) (nat_le (2 ^ 32 - 1) table.serials) e in
    (leb-false 64 (length table.windows) parts.0, leb-false (2 ^ 32 - 1) table.serials parts.1)

-- ---- a window that is shown, or comes to the top or the bottom

-- a window of the table is the one that stands under its serial
abbrev pub Stands : Window → Step → Type 0
Stands w step = window_in step.table.windows w.serial ≡ Some w

pub raised_sound : (w : Window) (step : Step) → IsSound step.table → Stands w step → IsSound (to_top w step).table
raised_sound w step ok stands = shown_sound w w (raised w step.table.windows) step.table ok stands (itself w) (λ h. h) (IsPut-raised w w step.table.windows stands) (numbers_raised w w step.table.windows stands (itself w) ok.numbers)

pub lowered_sound : (w : Window) (step : Step) → IsSound step.table → Stands w step → IsSound (to_bottom w step).table
lowered_sound w step ok stands = shown_sound w w (lowered w step.table.windows) step.table ok stands (itself w) (λ h. h) (IsPut-lowered w w step.table.windows stands) (numbers_lowered w w step.table.windows stands (itself w) ok.numbers)

abbrev unhidden : Window → Window
unhidden w = record w { hidden = false }

pub shown-sound : (w : Window) (step : Step) → IsSound step.table → Stands w step → IsSound (shown w step).table
unfolding shown
shown-sound w step ok stands =
    let put = IsPut-raised (unhidden w) w step.table.windows stands in
    let same : SamePlace (unhidden w) w = record { host = refl; number = refl } in
    let up : Step = to_top (unhidden w) (noted w.serial (note.Hidden false) (ordered (order.Place w.serial w.r.min) step)) in
    let sound : IsSound up.table = shown_sound (unhidden w) w (raised (unhidden w) step.table.windows) step.table ok stands same (λ _. refl) put (numbers_raised (unhidden w) w step.table.windows stands same ok.numbers) in
    cond_both w.hidden (with_current w.host (Some w.serial) up) step (λ s. IsSound s.table)
    (λ _. current_sound w.host (Some w.serial) up sound (of_found (window_in up.table.windows w.serial) (λ v. (v.host ≡ w.host) × (v.hidden ≡ false)) (unhidden w) put.at (refl, refl)))
    (λ _. ok)

pub made_current-sound : (w : Window) (step : Step) → IsSound step.table → Stands w step → IsSound (made_current w step).table
made_current-sound w step ok stands =
    cond_both w.hidden (shown w step) (with_current w.host (Some w.serial) step) (λ s. IsSound s.table)
    (λ _. shown-sound w step ok stands)
    (λ is. current_sound w.host (Some w.serial) step ok (of_found (window_in step.table.windows w.serial) (λ v. (v.host ≡ w.host) × (v.hidden ≡ false)) w stands (refl, is)))

-- ---- a window that is hidden

-- each rio of a sound table is the one that is found by its host
pub lone : (table : Table) → IsSound table → All (λ rio. rio_of table rio.host ≡ Some rio) (rios_of table)
lone table ok = own (λ rio. rio.host) (rios_of table) ok.hosts

-- what is not current in the rio of its host is so in no rio, and likewise for the hold
pub never_current : (table : Table) (rio : Rio) (host serial : ℕ) → rio_of table rio.host ≡ Some rio → rio.host ≡ host → is_same (current_of table host) (Some serial) ≡ false → rio.current ≡ Some serial → ⊥
never_current table rio host serial found at none is =
    let now : current_of table host ≡ Some serial = ap (current_of table) (sym at) ∙ ap (option_and_then (λ r. r.current)) found ∙ is in
    let e : true ≡ false = sym (eq-eqb serial serial refl) ∙ ap (λ o. is_same o (Some serial)) (sym now) ∙ none in
    absurd cc

pub never_held : (table : Table) (rio : Rio) (host serial : ℕ) → rio_of table rio.host ≡ Some rio → rio.host ≡ host → is_held serial (hold_of table host) ≡ false → rio.hold ≡ Held serial → ⊥
never_held table rio host serial found at none is =
    let now : hold_of table host ≡ Held serial = ap (hold_of table) (sym at) ∙ ap (λ o. option_map_or (λ r. r.hold) o Free) found ∙ is in
    let e : true ≡ false = sym (eq-eqb serial serial refl) ∙ ap (is_held serial) (sym now) ∙ none in
    absurd cc

abbrev unseen : Window → Window
unseen w = record w { hidden = true }

-- a window that neither is current nor holds the mouse in its rio may be hidden
hidden_put : (w : Window) (table : Table) → IsSound table → window_in table.windows w.serial ≡ Some w
    → is_same (current_of table w.host) (Some w.serial) ≡ false → is_held w.serial (hold_of table w.host) ≡ false
    → IsSound (with_windows_of table (in_place (unseen w) table.windows))
hidden_put w table ok stands current hold =
    put_sound (unseen w) w (in_place (unseen w) table.windows) table ok stands same put (numbers_in_place (unseen w) w table.windows stands same ok.serials ok.numbers)
    (All-both (λ rio. rio_of table rio.host ≡ Some rio) (IsSoundRio table.windows) (IsSoundRio (in_place (unseen w) table.windows)) keeps (rios_of table) (lone table ok) ok.rios)
  where
    same : SamePlace (unseen w) w
    same = record { host = refl; number = refl }

    put : IsPut (unseen w) table.windows (in_place (unseen w) table.windows)
    put = IsPut-in_place (unseen w) w table.windows stands

    still : (host serial : ℕ) → (host ≡ w.host → serial ≢ w.serial) → IsSeenIn table.windows host serial → IsSeenIn (in_place (unseen w) table.windows) host serial
    still host serial apart is =
        let was = found_of (window_in table.windows serial) (λ v. (v.host ≡ host) × (v.hidden ≡ false)) is in
        let other : serial ≢ w.serial = λ same. apart (sym was.2.0 ∙ ap (λ v. v.host) (same_Some was.0 w (sym was.1 ∙ ap (window_in table.windows) same ∙ stands))) same in
        subst (λ o. IsSomeAnd o (λ v. (v.host ≡ host) × (v.hidden ≡ false))) (sym (put.others serial other)) is

    keeps : (rio : Rio) → rio_of table rio.host ≡ Some rio → IsSoundRio table.windows rio → IsSoundRio (in_place (unseen w) table.windows) rio
    keeps rio found is =
        rio_kept table.windows (in_place (unseen w) table.windows) rio
        (λ levels. nested_put (unseen w) w table.windows (in_place (unseen w) table.windows) stands refl put levels rio.host)
        (λ serial e. still rio.host serial (λ at same. never_current table rio w.host w.serial found at current (e ∙ ap Some same)))
        (λ serial e. still rio.host serial (λ at same. never_held table rio w.host w.serial found at hold (e ∙ ap Held same)))
        is

-- ---- what becomes of rios does not look at windows

abbrev with_told : Step → List Window → List Order → List (ℕ × Note) → Step
with_told step windows orders notes = record { table = with_windows_of step.table windows; orders = orders; notes = notes }

current-apart : (host : ℕ) (new : Option ℕ) (step : Step) (windows : List Window) (orders : List Order) (notes : List (ℕ × Note))
    → (with_current host new (with_told step windows orders notes)).table ≡ with_windows_of (with_current host new step).table windows
current-apart host new step windows orders notes = by_test (is_same (current_of step.table host) new) refl
  where
    by_test : (b : Bool) → is_same (current_of step.table host) new ≡ b → (with_current host new (with_told step windows orders notes)).table ≡ with_windows_of (with_current host new step).table windows
    by_test true e = ap (λ s. s.table) (with_current-idle host new (with_told step windows orders notes) e) ∙ ap (λ s. with_windows_of s.table windows) (sym (with_current-idle host new step e))
    by_test false e = with_current-table host new (with_told step windows orders notes) e ∙ ap (λ t. with_windows_of t windows) (sym (with_current-table host new step e))

not_current-apart : (host serial : ℕ) (step : Step) (windows : List Window) (orders : List Order) (notes : List (ℕ × Note))
    → (not_current host serial (with_told step windows orders notes)).table ≡ with_windows_of (not_current host serial step).table windows
not_current-apart host serial step windows orders notes = by_test (is_same (current_of step.table host) (Some serial))
  where
    by_test : (b : Bool) → (cond b (with_current host None (with_told step windows orders notes)) (with_told step windows orders notes)).table ≡ with_windows_of (cond b (with_current host None step) step).table windows
    by_test true = current-apart host None step windows orders notes
    by_test false = refl

abbrev hushed : ℕ → ℕ → Table → Table
hushed host serial table = cond (is_held serial (hold_of table host)) (with_rios host (λ rio. record rio { hold = Nobody }) table) table

retired-table : (host serial : ℕ) (step : Step) → (retired host serial step).table ≡ hushed host serial (not_current host serial step).table
unfolding retired
retired-table host serial step = by_test (is_held serial (hold_of (not_current host serial step).table host))
  where
    by_test : (b : Bool) → (cond b (with_hold host Nobody (not_current host serial step)) (not_current host serial step)).table
        ≡ cond b (with_rios host (λ rio. record rio { hold = Nobody }) (not_current host serial step).table) (not_current host serial step).table
    by_test true = refl
    by_test false = refl

hushed-apart : (host serial : ℕ) (table : Table) (windows : List Window) → hushed host serial (with_windows_of table windows) ≡ with_windows_of (hushed host serial table) windows
hushed-apart host serial table windows = by_test (is_held serial (hold_of table host))
  where
    by_test : (b : Bool) → cond b (with_rios host (λ rio. record rio { hold = Nobody }) (with_windows_of table windows)) (with_windows_of table windows)
        ≡ with_windows_of (cond b (with_rios host (λ rio. record rio { hold = Nobody }) table) table) windows
    by_test true = refl
    by_test false = refl

retired-apart : (host serial : ℕ) (step : Step) (windows : List Window) (orders : List Order) (notes : List (ℕ × Note))
    → (retired host serial (with_told step windows orders notes)).table ≡ with_windows_of (retired host serial step).table windows
retired-apart host serial step windows orders notes =
    retired-table host serial (with_told step windows orders notes) ∙ ap (hushed host serial) (not_current-apart host serial step windows orders notes)
    ∙ hushed-apart host serial (not_current host serial step).table windows ∙ ap (λ t. with_windows_of t windows) (sym (retired-table host serial step))

pub hidden-sound : (w : Window) (step : Step) → IsSound step.table → Stands w step → IsSound (hidden w step).table
unfolding hidden
hidden-sound w step ok stands =
    let idle = retired w.host w.serial step in
    let same : idle.table.windows ≡ step.table.windows = retired-windows w.host w.serial step in
    let there : Step = noted w.serial (note.Hidden true) (ordered (order.Place w.serial outside) (with_windows (in_place (unseen w)) step)) in
    cond_both w.hidden step (retired w.host w.serial there) (λ s. IsSound s.table) (λ _. ok)
    (λ _. subst IsSound (sym (retired-apart w.host w.serial step (in_place (unseen w) step.table.windows) there.orders there.notes))
    (subst (λ ws. IsSound (with_windows_of idle.table (in_place (unseen w) ws))) same
    (hidden_put w idle.table (retired-sound w.host w.serial step ok) (ap (λ ws. window_in ws w.serial) same ∙ stands) (retired-current w.host w.serial step) (retired-hold w.host w.serial step))))

-- ---- a rio that starts in a window

some_of : {A : Type 0} (o : Option A) → is_some o ≡ true → (x : A) × (o ≡ Some x)
some_of (Some x) e = (x, refl)
some_of None e = absurd (let f : false ≡ true = e in cc)

-- a window of a sound table is at most nine deep, and its host at most eight
pub depth_of : (table : Table) → IsSound table → (host : ℕ) → is_host table host ≡ true → (levels : ℕ) × (levels ≤ 8) × IsNested table.windows levels host
depth_of table ok host is =
    let found = some_of (rio_of table host) is in
    let sound = find-all (IsSoundRio table.windows) (λ (rio : Rio). rio.host == host) (rios_of table) found.0 ok.rios found.1 in
    let same = eqb-true found.0.host host (find-passes (λ (rio : Rio). rio.host == host) (rios_of table) found.0 found.1) in
    (sound.nested.0, sound.nested.1, subst (IsNested table.windows sound.nested.0) same sound.nested.2)

pub none_at_root : (table : Table) → IsSound table → (o : Option Window) → window_in table.windows 0 ≡ o → o ≡ None
none_at_root table ok None e = refl
none_at_root table ok (Some w) e =
    let is = found_sound table ok 0 w e in
    let same = has_serial table.windows 0 w e in
    absurd (omega (arith, is.counted, same))

-- a path has as many numbers as windows lie on the way
pub path_length : (table : Table) → IsSound table → (levels most serial : ℕ) → levels ≤ most → IsNested table.windows levels serial → length (path_up most table serial) ≡ levels
unfolding path_up
path_length table ok zero zero serial few is = refl
path_length table ok zero (suc most) serial few is = rw (is, none_at_root table ok (window_in table.windows 0) refl) refl
path_length table ok (suc levels) zero serial few is = absurd (omega arith)
path_length table ok (suc levels) (suc most) serial few is =
    let found = found_of (window_in table.windows serial) (λ w. IsNested table.windows levels w.host) is in
    let later = path_length table ok levels most found.0.host (omega arith) found.2 in
    rw found.1 (omega (arith, length-append (path_up most table found.0.host) (found.0.number ∷ []), later))

none_passes : {X : Type 0} (p : X → Bool) (xs : List X) → is_some (find p xs) ≡ false → All (λ x. p x ≡ false) xs
none_passes p [] e = All-nil (λ x. p x ≡ false)
none_passes p (x ∷ xs) e = here (p x) refl (none_passes p xs) e
  where
    here : (b : Bool) → p x ≡ b → (is_some (find p xs) ≡ false → All (λ y. p y ≡ false) xs) → is_some (cond b (Some x) (find p xs)) ≡ false → All (λ y. p y ≡ false) (x ∷ xs)
    here true is later e = absurd (let f : true ≡ false = e in cc)
    here false is later e = All-cons (λ y. p y ≡ false) x xs is (later e)

abbrev with_one_more : ℕ → Table → Table
with_one_more serial table = record table { rios = table.rios ++ no_windows serial ∷ [] }

some_or : {A : Type 0} (a b : Option A) → is_some a ≡ true → is_some (option_or a b) ≡ true
some_or (Some x) b e = refl
some_or None b e = absurd (let f : false ≡ true = e in cc)

host_still : (serial : ℕ) (table : Table) (host : ℕ) → is_host table host ≡ true → is_host (with_one_more serial table) host ≡ true
host_still serial table host is =
    ap is_some (find-append (λ (rio : Rio). rio.host == host) (rios_of table) (no_windows serial ∷ [])) ∙ some_or (rio_of table host) (find (λ (rio : Rio). rio.host == host) (no_windows serial ∷ [])) is

some_still : {A : Type 0} (P : A → Type 0) (a b : Option A) → IsSomeAnd a P → IsSomeAnd (option_or a b) P
some_still P (Some x) b is = is
some_still P None b is = absurd is

next_still : (serial : ℕ) (table : Table) (v : Window) → IsSomeAnd (rio_of table v.host) (λ rio. v.number < rio.next) → IsSomeAnd (rio_of (with_one_more serial table) v.host) (λ rio. v.number < rio.next)
next_still serial table v is =
    subst (λ o. IsSomeAnd o (λ rio. v.number < rio.next)) (sym (find-append (λ (rio : Rio). rio.host == v.host) (rios_of table) (no_windows serial ∷ [])))
    (some_still (λ rio. v.number < rio.next) (rio_of table v.host) (find (λ (rio : Rio). rio.host == v.host) (no_windows serial ∷ [])) is)

one_more_sound : (w : Window) (table : Table) → IsSound table → window_in table.windows w.serial ≡ Some w → is_host table w.serial ≡ false → nat_le 8 (length (path_of table w.host)) ≡ false → IsSound (with_one_more w.serial table)
one_more_sound w table ok stands free shallow =
    let depth = depth_of table ok w.host (found_sound table ok w.serial w stands).housed in
    let long = path_length table ok depth.0 9 w.host (omega (arith, depth.1)) depth.2 in
    record {
      root = ok.root;
      few = ok.few;
      serials = ok.serials;
      hosts = subst AreDistinct (sym (map_push (λ (rio : Rio). rio.host) (rios_of table) (no_windows w.serial)))
          (all_pairs_push ◌≢◌ (map (λ rio. rio.host) (rios_of table)) w.serial ok.hosts
          (All-map (λ n. n ≢ w.serial) (λ (rio : Rio). rio.host) (rios_of table) (All-weaker (λ (rio : Rio). (rio.host == w.serial) ≡ false) (λ rio. rio.host ≢ w.serial) (λ rio e. eqb-false rio.host w.serial e) (rios_of table) (none_passes (λ (rio : Rio). rio.host == w.serial) (rios_of table) free))));
      windows = All-weaker (IsSoundWindow table) (IsSoundWindow (with_one_more w.serial table)) (λ v is. record { counted = is.counted; given = is.given; within = is.within; housed = host_still w.serial table v.host is.housed; numbered = λ left. next_still w.serial table v (is.numbered left) }) table.windows ok.windows;
      numbers = ok.numbers;
      next = All-push (λ rio. rio.next ≤ table.serials + 1) (rios_of table) (no_windows w.serial) ok.next (omega arith);
      rios = All-push (IsSoundRio table.windows) (rios_of table) (no_windows w.serial) ok.rios (record {
        nested = (suc depth.0, omega (arith, leb-false 8 (length (path_of table w.host)) shallow, long), of_found (window_in table.windows w.serial) (λ v. IsNested table.windows depth.0 v.host) w stands depth.2);
        current = tt;
        hold = tt;
      });
    }

pub hosted-sound : (w : Window) (step out : Step) → IsSound step.table → Stands w step → hosted w step ≡ Ok out → IsSound out.table
unfolding hosted
hosted-sound w step out ok stands e =
    let free = refuse_ok (is_host step.table w.serial) 47 _ out e in
    let shallow = refuse_ok (nat_le 8 (length (path_of step.table w.host))) 50 _ out free.1 in
    subst (λ s. IsSound s.table) (same_Ok _ out shallow.1) (one_more_sound w step.table ok stands free.0 shallow.0)
