-- The notes of each act stand in turn.
use Rattle.std.proofs.Common.{◌≡◌, ◌∙◌, ℕ, zero, suc, pos, ◌≤◌, ◌==◌, Bool, true, false, cond, List, [], ◌∷◌, ◌++◌, fold, Option, Some, None, Ok, All, IfSome, ⊎_elim, length, nat_le, option_and_then, refl, sym, ap, subst, arith, eqb-true}
use Rattle.std.proofs.lemmas.Bool.{cond_both, cases_eq}
use Rattle.std.proofs.lemmas.List.Elements.{All-nil, All-head, All-tail, All-weaker, All-push}
use Rattle.std.proofs.lemmas.List.Quantifiers.{all_pairs_push}
use Rattle.r9_event.specs.declared.event.rio.Note.{Note}
use Rattle.r9_event.specs.declared.event.rio.Note.TheVariants as note
use Rattle.r9_event.specs.declared.event.rio.Order.TheVariants as order
use Rattle.model_files.specs.declared.wctl.Choice.{Choice}
use Rattle.model_files.specs.wctl.Command.{Wctl}
use Rattle.model_files.specs.wctl.Command as wctl
use Rattle.model_files.specs.wctl.Rectangle.{applied, box}
use Rattle.model_rio.specs.rio.Table.{Window, Rio, Table, Nobody, rio_of, window_of, path_of, rectangle_of, is_host, deepest, made_in, current_of, hold_of}
use Rattle.model_rio.specs.rio.Act.{Act}
use Rattle.model_rio.specs.rio.Act as act
use Rattle.model_rio.specs.rio.Step.{Step, begun, ordered, with_hold, with_current, without, is_same, is_held, not_current, retired}
use Rattle.model_rio.specs.rio.Moving.{dropped, deleted}
use Rattle.model_rio.specs.rio.Routing.{moused, focus, keyed, keys_of}
use Rattle.model_rio.specs.rio.Rio.{is_full, new_window, made, new_in, first_rectangle, hidden, shown, made_current, hosted, moved_by, windows_off, to_corner, resized, commanded, command_to, rio}
use Rattle.model_rio.specs.rio.Sound.{window_in, IsSeenIn, IsSound, IsSoundRio}
use Rattle.model_rio.specs.rio.Notes.{rank, IsInTurn, AreInTurn}
use Rattle.model_rio.proofs.rio.Lookups.{find-all, found_of}
use Rattle.model_rio.proofs.rio.Refusals.{same_Ok, refuse_ok, value_ok}
use Rattle.model_rio.proofs.rio.Puts.{found_other, found_gone}
use Rattle.model_rio.proofs.rio.Tables.{rios_of}
use Rattle.model_rio.proofs.rio.Inputs.{retired-windows}
use Rattle.model_rio.proofs.rio.Makings.{Stands}
use Rattle.model_rio.proofs.rio.Goings.{MayGo, may_still, fewer, inner_may, all_deleted, deleted-left}
use Rattle.model_rio.proofs.rio.Soundness.{may_go, found_stands}
use Rattle.model_rio.proofs.rio.Notes.{IsUpto, TellsEach, begun_upto, upto_more, made_upto, hidden_upto, shown_upto, made_current_upto, moused_upto, keyed_upto, moved_upto, each_upto}

upto_turn : (most : ℕ) (step : Step) → IsUpto most step → AreInTurn step.notes
upto_turn most step is = λ i j d before within same. is.sorted i j d before within

-- ---- windows that go

-- the notes stand in turn, and tell windows that are gone
record IsPast (step : Step) : Type 0 where
  turn : AreInTurn step.notes
  gone : All (λ a. window_in step.table.windows a.0 ≡ None) step.notes

-- a current window is there
current_there : (table : Table) → IsSound table → (host serial : ℕ) → current_of table host ≡ Some serial → (w : Window) × (window_in table.windows serial ≡ Some w)
current_there table ok host serial e = by_rio (rio_of table host) refl
  where
    seen : (rio : Rio) → (o : Option ℕ) → rio.current ≡ o → o ≡ Some serial → IsSoundRio table.windows rio → (w : Window) × (window_in table.windows serial ≡ Some w)
    seen rio o at same is =
        let here : IsSeenIn table.windows rio.host serial = subst (λ z. IfSome z (IsSeenIn table.windows rio.host)) (at ∙ same) is.current in
        let found = found_of (window_in table.windows serial) (λ v. (v.host ≡ rio.host) × (v.hidden ≡ false)) here in
        (found.0, found.1)

    by_rio : (o : Option Rio) → rio_of table host ≡ o → (w : Window) × (window_in table.windows serial ≡ Some w)
    by_rio None at = absurd (let f : ◌≡◌ {A = Option ℕ} None (Some serial) = sym (ap (option_and_then (λ rio. rio.current)) at) ∙ e in cc)
    by_rio (Some rio) at =
        seen rio rio.current refl (sym (ap (option_and_then (λ r. r.current)) at) ∙ e)
        (find-all (IsSoundRio table.windows) (λ (r : Rio). r.host == host) (rios_of table) rio ok.rios at)

-- the notes with the ones that a window gets when it goes
abbrev last_notes : ℕ → Bool → List (ℕ × Note) → List (ℕ × Note)
last_notes serial was notes = cond was (notes ++ (serial, note.Current false) ∷ []) notes ++ (serial, note.Deleted) ∷ []

same_some : (o : Option ℕ) (serial : ℕ) → is_same o (Some serial) ≡ true → o ≡ Some serial
same_some (Some x) serial e = ap Some (eqb-true x serial e)
same_some None serial e = absurd (let f : false ≡ true = e in cc)

with_current-notes : (host serial : ℕ) (step : Step) → current_of step.table host ≡ Some serial → (with_current host None step).notes ≡ step.notes ++ (serial, note.Current false) ∷ []
unfolding with_current
with_current-notes host serial step e = rw e refl

not_current-notes : (host serial : ℕ) (step : Step) → (not_current host serial step).notes ≡ cond (is_same (current_of step.table host) (Some serial)) (step.notes ++ (serial, note.Current false) ∷ []) step.notes
not_current-notes host serial step = by_test (is_same (current_of step.table host) (Some serial)) refl
  where
    by_test : (b : Bool) → is_same (current_of step.table host) (Some serial) ≡ b → (cond b (with_current host None step) step).notes ≡ cond b (step.notes ++ (serial, note.Current false) ∷ []) step.notes
    by_test true e = with_current-notes host serial step (same_some (current_of step.table host) serial e)
    by_test false e = refl

retired-notes : (host serial : ℕ) (step : Step) → (retired host serial step).notes ≡ (not_current host serial step).notes
unfolding retired
retired-notes host serial step =
    cond_both (is_held serial (hold_of (not_current host serial step).table host)) (with_hold host Nobody (not_current host serial step)) (not_current host serial step) (λ s. s.notes ≡ (not_current host serial step).notes) (λ _. refl) (λ _. refl)

dropped-notes : (w : Window) (step : Step) → (dropped w step).notes ≡ last_notes w.serial (is_same (current_of step.table w.host) (Some w.serial)) step.notes
unfolding dropped
dropped-notes w step = ap (λ notes. notes ++ (w.serial, note.Deleted) ∷ []) (retired-notes w.host w.serial step ∙ not_current-notes w.host w.serial step)

dropped-windows : (w : Window) (step : Step) → (dropped w step).table.windows ≡ without w.serial step.table.windows
unfolding dropped
dropped-windows w step = ap (without w.serial) (retired-windows w.host w.serial step)

any_before_last : (a : ℕ × Note) (serial : ℕ) → IsInTurn a (serial, note.Deleted)
any_before_last a serial same = at_most_six a.1
  where
    at_most_six : (told : Note) → rank told ≤ 6
    at_most_six (note.Made number serial name r depth) = omega arith
    at_most_six (note.Moved name r) = omega arith
    at_most_six (note.Resized name r) = omega arith
    at_most_six (note.Hidden is) = omega arith
    at_most_six (note.Current is) = omega arith
    at_most_six (note.Mouse x y buttons msec) = omega arith
    at_most_six (note.Key bytes) = omega arith
    at_most_six note.Deleted = omega arith

with_last : (serial : ℕ) (notes : List (ℕ × Note)) → AreInTurn notes → AreInTurn (notes ++ (serial, note.Deleted) ∷ [])
with_last serial notes turn = all_pairs_push IsInTurn notes (serial, note.Deleted) turn (λ k d within. any_before_last _ serial)

dropped_turn : (w : Window) (step : Step) → IsSound step.table → IsPast step → AreInTurn (dropped w step).notes
dropped_turn w step ok past = subst AreInTurn (sym (dropped-notes w step)) (with_last w.serial _ (by_test (is_same (current_of step.table w.host) (Some w.serial)) refl))
  where
    by_test : (b : Bool) → is_same (current_of step.table w.host) (Some w.serial) ≡ b → AreInTurn (cond b (step.notes ++ (w.serial, note.Current false) ∷ []) step.notes)
    by_test false e = past.turn
    by_test true e =
        let there = current_there step.table ok w.host w.serial (same_some (current_of step.table w.host) w.serial e) in
        all_pairs_push IsInTurn step.notes (w.serial, note.Current false) past.turn
        (All-weaker (λ (a : ℕ × Note). window_in step.table.windows a.0 ≡ None) (λ a. IsInTurn a (w.serial, note.Current false))
        (λ a gone same. absurd (let f : ◌≡◌ {A = Option Window} None (Some there.0) = sym gone ∙ ap (window_in step.table.windows) same ∙ there.1 in cc)) step.notes past.gone)

gone_still : (windows : List Window) (gone serial : ℕ) → window_in windows serial ≡ None → window_in (without gone windows) serial ≡ None
gone_still windows gone serial e = ⊎_elim (λ same. subst (λ n. window_in (without n windows) serial ≡ None) same (found_gone windows serial)) (λ apart. found_other windows gone serial apart ∙ e) (cases_eq serial gone)

dropped_past : (w : Window) (step : Step) → IsSound step.table → IsPast step → IsPast (dropped w step)
dropped_past w step ok past = record {
  turn = dropped_turn w step ok past;
  gone = subst (All (λ a. window_in (dropped w step).table.windows a.0 ≡ None)) (sym (dropped-notes w step))
      (subst (λ windows. All (λ a. window_in windows a.0 ≡ None) (last_notes w.serial (is_same (current_of step.table w.host) (Some w.serial)) step.notes)) (sym (dropped-windows w step))
      (All-push Gone _ (w.serial, note.Deleted) (cond_both (is_same (current_of step.table w.host) (Some w.serial)) (step.notes ++ (w.serial, note.Current false) ∷ []) step.notes (All Gone) (λ _. All-push Gone step.notes (w.serial, note.Current false) before (found_gone step.table.windows w.serial)) (λ _. before)) (found_gone step.table.windows w.serial)));
}
  where
    Gone : ℕ × Note → Type 0
    Gone a = window_in (without w.serial step.table.windows) a.0 ≡ None

    before : All Gone step.notes
    before = All-weaker (λ (a : ℕ × Note). window_in step.table.windows a.0 ≡ None) Gone (λ a e. gone_still step.table.windows w.serial a.0 e) step.notes past.gone

all_past : (levels : ℕ) → ((w : Window) (step : Step) → IsSound step.table → MayGo levels step.table.windows w → IsPast step → IsPast (deleted levels w step))
    → (ws : List Window) (step : Step) → IsSound step.table → All (MayGo levels step.table.windows) ws → IsPast step → IsPast (fold (λ step v. deleted levels v step) step ws)
all_past levels deletes [] step ok may past = past
all_past levels deletes (w ∷ ws) step ok may past =
    let goes = All-head (MayGo levels step.table.windows) w ws may in
    let first = deleted-left levels w step ok goes in
    let next : Step = deleted levels w step in
    all_past levels deletes ws next first.sound
    (All-weaker (MayGo levels step.table.windows) (MayGo levels next.table.windows) (may_still step next (fewer step next ok first.each) levels) ws (All-tail (MayGo levels step.table.windows) w ws may))
    (deletes w step ok goes past)

deleted_past : (levels : ℕ) (w : Window) (step : Step) → IsSound step.table → MayGo levels step.table.windows w → IsPast step → IsPast (deleted levels w step)
unfolding deleted
deleted_past zero w step ok may past = past
deleted_past (suc levels) w step ok may past =
    let inner = made_in step.table w.serial in
    let goes = inner_may levels w step.table ok may in
    dropped_past w (fold (λ step v. deleted levels v step) step inner) (all_deleted levels (deleted-left levels) inner step ok goes).sound (all_past levels (deleted_past levels) inner step ok goes past)

-- ---- each act

none_turn : (table : Table) → AreInTurn (begun table).notes
none_turn table = upto_turn 0 (begun table) (begun_upto table)

new_in_turn : (host : ℕ) (options : List Choice) (hide : Bool) (table : Table) (out : Step) → new_in host options hide (begun table) ≡ Ok out → AreInTurn out.notes
unfolding new_in
new_in_turn host options hide table out e =
    let home = value_ok (rio_of table host) 42 _ out e in
    let place = value_ok (applied false options (first_rectangle (rectangle_of table host))) 47 _ out home.2 in
    let room = refuse_ok (is_full table) 49 _ out place.2 in
    let w = new_window table host home.0.next hide place.0 in
    subst (λ s. AreInTurn s.notes) (same_Ok _ out room.1) (upto_turn 3 (made w (begun table)) (made_upto w (begun table) (begun_upto table)))

moved_by_upto : (keep : Bool) (options : List Choice) → TellsEach (moved_by keep options)
unfolding moved_by
moved_by_upto keep options w step out is e =
    let place = value_ok (applied keep options w.r) 47 _ out e in
    moved_upto deepest keep w place.0 step out is place.2

begun_upto_one : (table : Table) → IsUpto 1 (begun table)
begun_upto_one table = upto_more 0 1 (begun table) (omega arith) (begun_upto table)

moved_by_turn : (keep : Bool) (options : List Choice) (w : Window) (table : Table) (out : Step) → moved_by keep options w (begun table) ≡ Ok out → AreInTurn out.notes
moved_by_turn keep options w table out e = upto_turn 1 out (moved_by_upto keep options w (begun table) out (begun_upto_one table) e)

resized_turn : (width height : ℕ) (table : Table) (out : Step) → resized width height (begun table) ≡ Ok out → AreInTurn out.notes
unfolding resized
resized_turn width height table out e =
    let r = box (pos 0) (pos 0) (pos width) (pos height) in
    let upto = begun_upto_one table in
    upto_turn 1 out (each_upto (moved_by true to_corner) (moved_by_upto true to_corner) (windows_off r table) (ordered (order.Size width height) (begun (record table { r = r }))) out (record { sorted = upto.sorted; within = upto.within }) e)

hosted_turn : (w : Window) (table : Table) (out : Step) → hosted w (begun table) ≡ Ok out → AreInTurn out.notes
unfolding hosted
hosted_turn w table out e =
    let free = refuse_ok (is_host table w.serial) 47 _ out e in
    let shallow = refuse_ok (nat_le 8 (length (path_of table w.host))) 50 _ out free.1 in
    subst (λ s. AreInTurn s.notes) (same_Ok _ out shallow.1) (none_turn table)

commanded_turn : (what : Wctl) (w : Window) (table : Table) (out : Step) → IsSound table → Stands w (begun table) → commanded what w (begun table) ≡ Ok out → AreInTurn out.notes
commanded_turn (wctl.New options hide) w table out ok stands e = new_in_turn w.host options hide table out e
commanded_turn (wctl.Resize options) w table out ok stands e = moved_by_turn false options w table out e
commanded_turn (wctl.Move options) w table out ok stands e = moved_by_turn true options w table out e
commanded_turn wctl.Top w table out ok stands e = subst (λ s. AreInTurn s.notes) (same_Ok _ out e) (none_turn table)
commanded_turn wctl.Bottom w table out ok stands e = subst (λ s. AreInTurn s.notes) (same_Ok _ out e) (none_turn table)
commanded_turn wctl.Hide w table out ok stands e = subst (λ s. AreInTurn s.notes) (same_Ok _ out e) (upto_turn 3 (hidden w (begun table)) (hidden_upto w (begun table) (begun_upto table)))
commanded_turn wctl.Unhide w table out ok stands e = subst (λ s. AreInTurn s.notes) (same_Ok _ out e) (upto_turn 3 (shown w (begun table)) (shown_upto w (begun table) (begun_upto table)))
commanded_turn wctl.Current w table out ok stands e = subst (λ s. AreInTurn s.notes) (same_Ok _ out e) (upto_turn 3 (made_current w (begun table)) (made_current_upto w (begun table) (begun_upto table)))
commanded_turn wctl.Delete w table out ok stands e =
    subst (λ s. AreInTurn s.notes) (same_Ok _ out e) (deleted_past deepest w (begun table) ok (may_go w (begun table) ok stands) (record { turn = none_turn table; gone = All-nil (λ a. window_in table.windows a.0 ≡ None) })).turn
commanded_turn (wctl.Scroll scrolls) w table out ok stands e = subst (λ s. AreInTurn s.notes) (same_Ok (begun table) out e) (none_turn table)
commanded_turn wctl.Set w table out ok stands e = subst (λ s. AreInTurn s.notes) (same_Ok (begun table) out e) (none_turn table)
commanded_turn wctl.Host w table out ok stands e = hosted_turn w table out e

command_to_turn : (serial : ℕ) (what : Wctl) (table : Table) (out : Step) → IsSound table → command_to serial what (begun table) ≡ Ok out → AreInTurn out.notes
unfolding command_to
command_to_turn serial what table out ok e =
    let found = value_ok (window_of table serial) 42 _ out e in
    commanded_turn what found.0 table out ok (found_stands (begun table) serial found.0 ok found.1) found.2

pub acts_turn : (table : Table) (a : Act) (out : Step) → IsSound table → rio table a ≡ Ok out → AreInTurn out.notes
acts_turn table (act.New host options hide) out ok e = new_in_turn host options hide table out e
acts_turn table (act.Command window what) out ok e = command_to_turn window what table out ok e
acts_turn table (act.Mouse pointer) out ok e =
    subst (λ s. AreInTurn s.notes) (same_Ok _ out e) (upto_turn 4 (moused deepest pointer 0 (begun table)) (moused_upto deepest pointer 0 (begun table) (upto_more 0 3 (begun table) (omega arith) (begun_upto table))))
acts_turn table (act.Keys bytes) out ok e =
    subst (λ s. AreInTurn s.notes) (same_Ok _ out e) (upto_turn 5 (keyed (focus deepest table 0) (keys_of bytes) (begun table)) (keyed_upto (focus deepest table 0) (keys_of bytes) (begun table) (upto_more 0 5 (begun table) (omega arith) (begun_upto table))))
acts_turn table (act.Gone window) out ok e = command_to_turn window wctl.Delete table out ok e
acts_turn table (act.Size width height) out ok e = resized_turn width height table out e
