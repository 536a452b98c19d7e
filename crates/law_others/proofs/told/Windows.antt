-- A window of the root rio where windows are made, raised, hidden, shown, given another image, and deleted.
use Rattle.std.proofs.Common.{◌≡◌, ◌≢◌, ◌∙◌, ℕ, ◌==◌, Bool, true, false, cond, not, List, [], ◌∷◌, ◌++◌, length, Option, Some, None, is_some, refl, sym, ap, subst, eqb-true, eq-eqb, ne_eqb}
use Rattle.std.specs.Prelude.{if◌then◌else◌}
use Rattle.std.specs.Option.{option_or}
use Rattle.std.proofs.lemmas.Bool.{cond_both, eqb-false}
use Rattle.std.proofs.lemmas.List.Folds.{find-append}
use Rattle.r9_geom.specs.declared.Rect.{Rect}
use Rattle.r9_event.specs.declared.event.rio.Note.{Note}
use Rattle.r9_event.specs.declared.event.rio.Note.TheVariants as note
use Rattle.r9_event.specs.declared.event.rio.Order.{Order}
use Rattle.r9_event.specs.declared.event.rio.Order.TheVariants as order
use Rattle.model_rio.specs.rio.Table.{Window, Rio, name_by, path_of}
use Rattle.model_rio.specs.rio.Step.{Step, in_place, lowered, noted, ordered, raised, retired, with_current, with_windows, without}
use Rattle.model_rio.specs.rio.Moving.{dropped, forgotten, next_name, renewed, replaced}
use Rattle.model_rio.specs.rio.Rio.{entered, hidden, made, made_current, next_number, outside, shown, to_bottom, to_top}
use Rattle.model_rio.specs.rio.Sound.{window_in}
use Rattle.law_shown.proofs.fitting.Lists.{each_filter, each_map, each_then}
use Rattle.law_shown.proofs.fitting.Stepping.{each_in_place, each_lowered, each_raised}
use Rattle.law_others.specs.told.Telling.{Tells, drops, makes, replaces, told_image}
use Rattle.law_others.proofs.told.Standing.{IsAmong, IsNoHost, IsOther, IsRooted, Stands, beside_stands, current_stands, other_among, retired_stands, rio_none, rio_stands, small_stands, windows_stand}

-- ---- which windows are found

abbrev lives : List Window → ℕ → Bool
lives ws window = is_some (window_in ws window)

in_place_lives : (v : Window) (ws : List Window) (window : ℕ) → lives (in_place v ws) window ≡ lives ws window
in_place_lives v [] window = refl
in_place_lives v (u ∷ us) window = by (u.serial == v.serial) refl (in_place_lives v us window)
  where
    by : (b : Bool) → (u.serial == v.serial) ≡ b → lives (in_place v us) window ≡ lives us window
        → is_some (cond ((cond b v u).serial == window) (Some (cond b v u)) (window_in (in_place v us) window)) ≡ is_some (cond (u.serial == window) (Some u) (window_in us window))
    by true is rest = ap (λ (n : ℕ). is_some (cond (n == window) (Some v) (window_in (in_place v us) window))) (sym (eqb-true u.serial v.serial is)) ∙ found (u.serial == window) rest
      where
        found : (b : Bool) → lives (in_place v us) window ≡ lives us window → is_some (cond b (Some v) (window_in (in_place v us) window)) ≡ is_some (cond b (Some u) (window_in us window))
        found true rest = refl
        found false rest = rest
    by false is rest = found (u.serial == window) rest
      where
        found : (b : Bool) → lives (in_place v us) window ≡ lives us window → is_some (cond b (Some u) (window_in (in_place v us) window)) ≡ is_some (cond b (Some u) (window_in us window))
        found true rest = refl
        found false rest = rest

without_others : (gone window : ℕ) (ws : List Window) → gone ≢ window → window_in (without gone ws) window ≡ window_in ws window
without_others gone window [] other = refl
without_others gone window (u ∷ us) other = by (u.serial == gone) refl (without_others gone window us other)
  where
    by : (b : Bool) → (u.serial == gone) ≡ b → window_in (without gone us) window ≡ window_in us window
        → window_in (cond (not b) (u ∷ without gone us) (without gone us)) window ≡ cond (u.serial == window) (Some u) (window_in us window)
    by true is rest = rest ∙ sym (ap (λ (b : Bool). cond b (Some u) (window_in us window)) (ne_eqb u.serial window (λ same. other (sym (eqb-true u.serial gone is) ∙ same))))
    by false is rest = ap (cond (u.serial == window) (Some u)) rest

without_none : (window : ℕ) (ws : List Window) → window_in (without window ws) window ≡ None
without_none window [] = refl
without_none window (u ∷ us) = by (u.serial == window) refl (without_none window us)
  where
    by : (b : Bool) → (u.serial == window) ≡ b → window_in (without window us) window ≡ None → window_in (cond (not b) (u ∷ without window us) (without window us)) window ≡ None
    by true is rest = rest
    by false is rest = ap (λ (b : Bool). cond b (Some u) (window_in (without window us) window)) is ∙ rest

some_or : (o : Option Window) → option_or o None ≡ o
some_or None = refl
some_or (Some w) = refl

not_false : (b : Bool) → not b ≡ true → b ≡ false
not_false true h = absurd cc
not_false false h = refl

module _ (window : ℕ) (start now : Option Rect) where
  abbrev At : Step → Type 0
  At step = Stands window start now step

  -- where the one in question has another rectangle, or is there no more
  abbrev Then : Option Rect → Step → Type 0
  Then next step = Stands window start next step

  -- where it is the one in question it lives
  among_lives : (step : Step) → At step → (v : Window) → IsAmong window now v → v.serial ≡ window → lives step.table.windows window ≡ true
  among_lives step is v among same = is.lives ∙ sym (ap is_some (among.place same).1)

  raised_lives : (v : Window) (ws : List Window) → (v.serial ≡ window → lives ws window ≡ true) → lives (raised v ws) window ≡ lives ws window
  raised_lives v ws there = by (v.serial == window) refl
    where
      by : (b : Bool) → (v.serial == window) ≡ b → is_some (cond (v.serial == window) (Some v) (window_in (without v.serial ws) window)) ≡ lives ws window
      by true is = ap (λ (b : Bool). is_some (cond b (Some v) (window_in (without v.serial ws) window))) is ∙ sym (there (eqb-true v.serial window is))
      by false is = ap (λ (b : Bool). is_some (cond b (Some v) (window_in (without v.serial ws) window))) is ∙ ap is_some (without_others v.serial window ws (eqb-false v.serial window is))

  lowered_lives : (v : Window) (ws : List Window) → (v.serial ≡ window → lives ws window ≡ true) → lives (lowered v ws) window ≡ lives ws window
  lowered_lives v ws there = ap is_some (find-append (λ (u : Window). u.serial == window) (without v.serial ws) (v ∷ [])) ∙ by (v.serial == window) refl
    where
      by : (b : Bool) → (v.serial == window) ≡ b → is_some (option_or (window_in (without v.serial ws) window) (cond (v.serial == window) (Some v) None)) ≡ lives ws window
      by true is =
          let same : v.serial ≡ window = eqb-true v.serial window is in
          ap (λ (b : Bool). is_some (option_or (window_in (without v.serial ws) window) (cond b (Some v) None))) is
          ∙ ap (λ (n : ℕ). is_some (option_or (window_in (without n ws) window) (Some v))) same
          ∙ ap (λ (o : Option Window). is_some (option_or o (Some v))) (without_none window ws) ∙ sym (there same)
      by false is =
          ap (λ (b : Bool). is_some (option_or (window_in (without v.serial ws) window) (cond b (Some v) None))) is
          ∙ ap is_some (some_or (window_in (without v.serial ws) window) ∙ without_others v.serial window ws (eqb-false v.serial window is))

  -- ---- windows that are raised, lowered, hidden and shown

  pub top_stands : (v : Window) (step : Step) → At step → IsAmong window now v → At (to_top v step)
  top_stands v step is among =
      beside_stands window start now (order.Raise v.serial) (with_windows (raised v) step) tt
      (windows_stand window start now (raised v) step is (raised_lives v step.table.windows (among_lives step is v among)) (each_raised (IsAmong window now) v step.table.windows among is.each))

  pub bottom_stands : (v : Window) (step : Step) → At step → IsAmong window now v → At (to_bottom v step)
  bottom_stands v step is among =
      beside_stands window start now (order.Lower v.serial) (with_windows (lowered v) step) tt
      (windows_stand window start now (lowered v) step is (lowered_lives v step.table.windows (among_lives step is v among)) (each_lowered (IsAmong window now) v step.table.windows among is.each))

  -- the same window, hidden or not
  hidden_among : (now : Option Rect) (v : Window) (hide : Bool) → IsAmong window now v → IsAmong window now (record v { hidden = hide })
  hidden_among now v hide among = record { place = among.place; counted = among.counted; apart = among.apart }

  pub hidden_stands : (v : Window) (step : Step) → At step → IsAmong window now v → At (hidden v step)
  unfolding hidden
  hidden_stands v step is among =
      let away : Window = record v { hidden = true } in
      let placed : Step = with_windows (in_place away) step in
      let there : Step = noted v.serial (note.Hidden true) (ordered (order.Place v.serial outside) placed) in
      let one : At placed = windows_stand window start now (in_place away) step is (in_place_lives away step.table.windows window) (each_in_place (IsAmong window now) away step.table.windows (hidden_among now v true among) is.each) in
      let two : At there = small_stands window start now v.serial (note.Hidden true) (ordered (order.Place v.serial outside) placed) (λ _. tt) (beside_stands window start now (order.Place v.serial outside) placed tt one) in
      cond_both v.hidden step (retired v.host v.serial there) At (λ _. is) (λ _. retired_stands window start now v.host v.serial there two)

  pub shown_stands : (v : Window) (step : Step) → At step → IsAmong window now v → At (shown v step)
  unfolding shown
  shown_stands v step is among =
      let back : Window = record v { hidden = false } in
      let placed : Step = ordered (order.Place v.serial v.r.min) step in
      let there : Step = noted v.serial (note.Hidden false) placed in
      let one : At there = small_stands window start now v.serial (note.Hidden false) placed (λ _. tt) (beside_stands window start now (order.Place v.serial v.r.min) step tt is) in
      let up : At (to_top back there) = top_stands back there one (hidden_among now v false among) in
      cond_both v.hidden (with_current v.host (Some v.serial) (to_top back there)) step At (λ _. current_stands window start now v.host (Some v.serial) (to_top back there) up) (λ _. is)

  pub made_current_stands : (v : Window) (step : Step) → At step → IsAmong window now v → At (made_current v step)
  made_current_stands v step is among =
      cond_both v.hidden (shown v step) (with_current v.host (Some v.serial) step) At (λ _. shown_stands v step is among) (λ _. current_stands window start now v.host (Some v.serial) step is)

  -- ---- new windows

  -- what a new window becomes after its first note
  begun_stands : (next : Option Rect) (v : Window) (there : Step) → Then next there → Then next (if v.hidden then noted v.serial (note.Hidden true) there else with_current v.host (Some v.serial) there)
  begun_stands next v there is =
      cond_both v.hidden (noted v.serial (note.Hidden true) there) (with_current v.host (Some v.serial) there) (Then next)
      (λ _. small_stands window start next v.serial (note.Hidden true) there (λ _. tt) is) (λ _. current_stands window start next v.host (Some v.serial) there is)

  abbrev entering : Window → Step → Step
  entering v step = record step { table = record step.table { serials = v.serial; windows = v ∷ step.table.windows } }

  pub made_stands : (v : Window) (step : Step) → IsOther window v → At step → At (made v step)
  unfolding made
  made_stands v step other is =
      let path = path_of step.table v.host ++ v.number ∷ [] in
      let name = name_by path v.generation in
      let o : Order = order.Make v.serial v.host v.r name v.hidden (length path) in
      let told : Note = note.Made v.number v.serial name v.r (length path) in
      let one : At (entering v step) = record {
        tells = is.tells;
        lives = ap (λ (b : Bool). is_some (cond b (Some v) (window_in step.table.windows window))) (ne_eqb v.serial window other.other) ∙ is.lives;
        each = (other_among window now v other, is.each);
        bare = is.bare;
      } in
      let two : At (entered v step) = rio_stands window start now v.host (λ rio. record rio { next = next_number rio.next }) (λ rio. refl) (entering v step) one in
      begun_stands now v (noted v.serial told (ordered o (entered v step)))
      (small_stands window start now v.serial told (ordered o (entered v step)) (λ same. absurd (other.other same))
      (beside_stands window start now o (entered v step) (ne_eqb window v.serial (λ same. other.other (sym same))) two))

  -- the one in question is made
  pub own_made : (v : Window) (step : Step) → At step → v.serial ≡ window → v.host ≡ 0 → v.serial ≢ 0 → v.host ≢ window → now ≡ None → Then (Some v.r) (made v step)
  unfolding made
  own_made v step is same root counted apart none = begun_stands (Some v.r) v (noted v.serial told (ordered o (entered v step))) there
    where
      path : List ℕ
      path = path_of step.table v.host ++ v.number ∷ []

      name : List ℕ
      name = name_by path v.generation

      o : Order
      o = order.Make v.serial v.host v.r name v.hidden (length path)

      told : Note
      told = note.Made v.number v.serial name v.r (length path)

      first : Tells window start None step.orders step.notes
      first = subst (λ (now : Option Rect). Tells window start now step.orders step.notes) none is.tells

      later : (u : Window) → IsAmong window now u → IsAmong window (Some v.r) u
      later u was = record { place = λ same. absurd (let two : ◌≡◌ {A = Option Rect} (Some u.r) None = (was.place same).1 ∙ none in cc); counted = was.counted; apart = was.apart }

      there : Then (Some v.r) (noted v.serial told (ordered o (entered v step)))
      there = record {
        tells = subst (λ (s : ℕ). Tells window start (Some v.r) (step.orders ++ order.Make s v.host v.r name v.hidden (length path) ∷ []) (step.notes ++ (s, note.Made v.number s name v.r (length path)) ∷ [])) (sym same)
            (subst (λ (h : ℕ). Tells window start (Some v.r) (step.orders ++ order.Make window h v.r name v.hidden (length path) ∷ []) (step.notes ++ (window, note.Made v.number window name v.r (length path)) ∷ [])) (sym root)
            (makes step.orders step.notes first v.number (length path) name v.r v.hidden));
        lives = ap (λ (b : Bool). is_some (cond b (Some v) (window_in step.table.windows window))) (eq-eqb v.serial window same);
        each = (record { place = λ _. (root, refl); counted = counted; apart = apart }, each_then (IsAmong window now) (IsAmong window (Some v.r)) later step.table.windows is.each);
        bare = rio_none window start now v.host (λ rio. record rio { next = next_number rio.next }) (λ rio. refl) (entering v step) is.bare;
      }

  -- ---- windows that get another image

  pub replaced_stands : (keep : Bool) (v : Window) (r : Rect) (step : Step) → IsOther window v → At step → At (replaced keep v r step)
  unfolding replaced
  replaced_stands keep v r step other is =
      let name = next_name step.table v in
      let o : Order = order.Replace v.serial v.host r name keep v.hidden in
      let next : Window = renewed r v in
      let placed : Step = with_windows (in_place next) step in
      let one : At placed = windows_stand window start now (in_place next) step is (in_place_lives next step.table.windows window)
      (each_in_place (IsAmong window now) next step.table.windows (record { place = λ same. absurd (other.other same); counted = other.counted; apart = other.apart }) is.each) in
      small_stands window start now v.serial (told_image keep name r) (ordered o placed) (λ same. absurd (other.other same))
      (beside_stands window start now o placed (ne_eqb window v.serial (λ same. other.other (sym same))) one)

  pub own_replaced : (keep : Bool) (v : Window) (r : Rect) (step : Step) → At step → IsRooted window now v → v.serial ≡ window → Then (Some r) (replaced keep v r step)
  unfolding replaced
  own_replaced keep v r step is rooted same = record {
    tells = subst (λ (s : ℕ). Tells window start (Some r) (step.orders ++ order.Replace s v.host r name keep v.hidden ∷ []) (step.notes ++ (s, told_image keep name r) ∷ [])) (sym same)
        (subst (λ (h : ℕ). Tells window start (Some r) (step.orders ++ order.Replace window h r name keep v.hidden ∷ []) (step.notes ++ (window, told_image keep name r) ∷ [])) (sym rooted.root)
        (replaces there.0 step.orders step.notes (subst (λ (now : Option Rect). Tells window start now step.orders step.notes) there.1 is.tells) keep v.hidden name r));
    lives = in_place_lives next step.table.windows window ∙ is.lives ∙ ap is_some there.1;
    each = each_map (IsAmong window now) (IsAmong window (Some r)) (λ u. if u.serial == v.serial then next else u) put step.table.windows is.each;
    bare = is.bare;
  }
    where
      name : List ℕ
      name = next_name step.table v

      next : Window
      next = renewed r v

      there : (old : Rect) × (now ≡ Some old)
      there = rooted.there same

      put : (u : Window) → IsAmong window now u → IsAmong window (Some r) (if u.serial == v.serial then next else u)
      put u was = cond_both (u.serial == v.serial) next u (IsAmong window (Some r)) (λ _. record { place = λ _. (rooted.root, refl); counted = rooted.counted; apart = rooted.apart })
          (λ off. record { place = λ here. absurd (let two : false ≡ true = sym off ∙ eq-eqb u.serial v.serial (here ∙ sym same) in cc); counted = was.counted; apart = was.apart })

  -- ---- windows that go

  forgotten_none : (serial : ℕ) (step : Step) → IsNoHost step.table window → IsNoHost (forgotten serial step).table window
  forgotten_none serial step none = (none.0, each_filter (λ rio. (rio.host == window) ≡ false) (λ rio. (rio.host == window) ≡ false) (λ (rio : Rio). not (rio.host == serial)) (λ rio _ is. is) step.table.rios none.1)

  pub dropped_stands : (v : Window) (step : Step) → IsOther window v → At step → At (dropped v step)
  unfolding dropped
  dropped_stands v step other is =
      let idle : Step = retired v.host v.serial step in
      let one : At idle = retired_stands window start now v.host v.serial step is in
      let gone : Step = forgotten v.serial idle in
      let o : Order = order.Drop v.serial in
      let two : At gone = record {
        tells = one.tells;
        lives = ap is_some (without_others v.serial window idle.table.windows other.other) ∙ one.lives;
        each = each_filter (IsAmong window now) (IsAmong window now) (λ (u : Window). not (u.serial == v.serial)) (λ u _ was. was) idle.table.windows one.each;
        bare = forgotten_none v.serial idle one.bare;
      } in
      small_stands window start now v.serial note.Deleted (ordered o gone) (λ same. absurd (other.other same))
      (beside_stands window start now o gone (ne_eqb window v.serial (λ same. other.other (sym same))) two)

  pub own_dropped : (v : Window) (step : Step) → At step → IsAmong window now v → v.serial ≡ window → Then None (dropped v step)
  unfolding dropped
  own_dropped v step is among same = record {
    tells = subst (λ (s : ℕ). Tells window start None (idle.orders ++ order.Drop s ∷ []) (idle.notes ++ (s, note.Deleted) ∷ [])) (sym same)
        (drops v.r idle.orders idle.notes (subst (λ (n : Option Rect). Tells window start n idle.orders idle.notes) (sym (among.place same).1) one.tells));
    lives = ap is_some (subst (λ (s : ℕ). window_in (without s idle.table.windows) window ≡ None) (sym same) (without_none window idle.table.windows));
    each = each_filter (IsAmong window now) (IsAmong window None) (λ (u : Window). not (u.serial == v.serial)) left idle.table.windows one.each;
    bare = forgotten_none v.serial idle one.bare;
  }
    where
      idle : Step
      idle = retired v.host v.serial step

      one : At idle
      one = retired_stands window start now v.host v.serial step is

      left : (u : Window) → not (u.serial == v.serial) ≡ true → IsAmong window now u → IsAmong window None u
      left u off was = record {
        place = λ here. absurd (let two : false ≡ true = sym (not_false (u.serial == v.serial) off) ∙ eq-eqb u.serial v.serial (here ∙ sym same) in cc);
        counted = was.counted;
        apart = was.apart;
      }
