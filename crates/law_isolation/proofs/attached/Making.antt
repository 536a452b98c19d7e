-- What a step leaves and tells of the window that it makes.
use Rattle.std.proofs.Common.{◌≡◌, ◌∙◌, ℕ, ◌==◌, ◌+◌, Bool, true, false, List, [], ◌∷◌, ◌++◌, length, Option, Some, None, Ok, refl, sym, ap, subst, eqb-true, eq-eqb}
use Rattle.std.specs.Prelude.{if◌then◌else◌}
use Rattle.std.specs.List.{filter_map, last_or}
use Rattle.std.proofs.lemmas.Bool.{cond_both}
use Rattle.std.proofs.lemmas.List.Elements.{filter_map-append}
use Rattle.r9_geom.specs.declared.Rect.{Rect}
use Rattle.r9_event.specs.declared.event.rio.Note.{Note}
use Rattle.r9_event.specs.declared.event.rio.Note.TheVariants as note
use Rattle.r9_event.specs.declared.event.rio.Order.{Order}
use Rattle.r9_event.specs.declared.event.rio.Order.TheVariants as order
use Rattle.model_files.specs.declared.wctl.Choice.{Choice}
use Rattle.model_files.specs.wctl.Rectangle.{applied}
use Rattle.model_rio.specs.rio.Table.{Table, Window, current_of, name_by, path_of, rectangle_of, rio_of, window_of}
use Rattle.model_rio.specs.rio.Act as act
use Rattle.model_rio.specs.rio.Step.{Step, begun, is_same, noted, ordered, told_current, with_current, with_rio}
use Rattle.model_rio.specs.rio.Rio.{entered, first_rectangle, is_full, made, new_in, new_window, rio}
use Rattle.model_rio.specs.rio.Sound.{window_in}
use Rattle.law_shown.proofs.shown.Tests.{refuse_ok, same_Ok, value_ok}
use Rattle.model_alone.specs.alone.Lone.{made_by}
use Rattle.law_others.specs.told.Telling.{IsSmall, Tells, begins, beside, drops, makes, notes_of, replaces, small, told_image}
use Rattle.law_strangers.proofs.followed.Noted.{others_more, own_more}

-- ---- the table

-- the windows, and how many serials were given
record IsStill (step next : Step) : Type 0 where
  windows : next.table.windows ≡ step.table.windows
  serials : next.table.serials ≡ step.table.serials

told_still : (o : Option ℕ) (is : Bool) (step : Step) → IsStill step (told_current o is step)
told_still None is step = record { windows = refl; serials = refl }
told_still (Some serial) is step = record { windows = refl; serials = refl }

current_still : (host : ℕ) (new : Option ℕ) (step : Step) → IsStill step (with_current host new step)
unfolding with_current
current_still host new step =
    let old = current_of step.table host in
    let next : Step = with_rio host (λ rio. record rio { current = new }) step in
    let one = told_still old false next in
    let two = told_still new true (told_current old false next) in
    cond_both (is_same old new) step (told_current new true (told_current old false next)) (IsStill step) (λ _. record { windows = refl; serials = refl })
    (λ _. record { windows = two.windows ∙ one.windows; serials = two.serials ∙ one.serials })

-- What a new window's act leaves: it has the next serial, and stands in the rio of that host.
pub record IsMade (table : Table) (host : ℕ) (out : Step) : Type 0 where
  pub window : Window
  pub there : window_of out.table (table.serials + 1) ≡ Some window
  pub home : window.host ≡ host
  pub serials : out.table.serials ≡ table.serials + 1

made_leaves : (v : Window) (table : Table) → v.serial ≡ table.serials + 1 → IsMade table v.host (made v (begun table))
unfolding made
made_leaves v table serial = record { window = v; there = there; home = refl; serials = after.serials ∙ serial }
  where
    placed : Step
    placed = noted v.serial (note.Made v.number v.serial (name_by (path_of table v.host ++ v.number ∷ []) v.generation) v.r (length (path_of table v.host ++ v.number ∷ [])))
        (ordered (order.Make v.serial v.host v.r (name_by (path_of table v.host ++ v.number ∷ []) v.generation) v.hidden (length (path_of table v.host ++ v.number ∷ []))) (entered v (begun table)))

    after : IsStill placed (if v.hidden then noted v.serial (note.Hidden true) placed else with_current v.host (Some v.serial) placed)
    after = cond_both v.hidden (noted v.serial (note.Hidden true) placed) (with_current v.host (Some v.serial) placed) (IsStill placed) (λ _. record { windows = refl; serials = refl }) (λ _. current_still v.host (Some v.serial) placed)

    there : window_of (if v.hidden then noted v.serial (note.Hidden true) placed else with_current v.host (Some v.serial) placed).table (table.serials + 1) ≡ Some v
    there =
        ap (λ (ws : List Window). window_in ws (table.serials + 1)) after.windows
        ∙ ap (λ (b : Bool). if b then Some v else window_in table.windows (table.serials + 1)) (eq-eqb v.serial (table.serials + 1) serial)

pub new_made : (table : Table) (host : ℕ) (options : List Choice) (hide : Bool) (out : Step) → rio table (act.New host options hide) ≡ Ok out → IsMade table host out
unfolding new_in
new_made table host options hide out e =
    let home = value_ok (rio_of table host) 42 _ out e in
    let place = value_ok (applied false options (first_rectangle (rectangle_of table host))) 47 _ out home.2 in
    let room = refuse_ok (is_full table) 49 _ out place.2 in
    let v = new_window table host home.0.next hide place.0 in
    subst (IsMade table host) (same_Ok (made v (begun table)) out room.1) (made_leaves v table refl)

-- ---- the notes

small_makes_none : (n : Note) → IsSmall n → made_by n ≡ None
small_makes_none (note.Made number serial name r depth) is = absurd is
small_makes_none (note.Moved name r) is = refl
small_makes_none (note.Resized name r) is = refl
small_makes_none (note.Hidden hidden) is = refl
small_makes_none (note.Current current) is = refl
small_makes_none (note.Mouse x y buttons msec) is = refl
small_makes_none (note.Key bytes) is = refl
small_makes_none note.Deleted is = refl

image_makes_none : (keep : Bool) (name : List ℕ) (r : Rect) → made_by (told_image keep name r) ≡ None
image_makes_none true name r = refl
image_makes_none false name r = refl

last_added : (o : Option ℕ) (xs : List ℕ) (x : ℕ) → last_or o (xs ++ x ∷ []) ≡ Some x
last_added o [] x = refl
last_added o (y ∷ ys) x = last_added (Some y) ys x

-- the window that notes make
abbrev pub last_made : List Note → Option ℕ
last_made notes = last_or None (filter_map made_by notes)

module _ (window : ℕ) where
  -- one note more that makes none
  still_last : (notes : List Note) (n : Note) → made_by n ≡ None → last_made (notes ++ n ∷ []) ≡ last_made notes
  still_last notes n none = ap (last_or None) (filter_map-append made_by notes (n ∷ []) ∙ ap (λ (more : List ℕ). filter_map made_by notes ++ more) one ∙ no_more (filter_map made_by notes))
    where
      one : filter_map made_by (n ∷ []) ≡ []
      one = by (made_by n) none
        where
          by : (o : Option ℕ) → o ≡ None → filter_map (λ (m : Option ℕ). m) (o ∷ []) ≡ []
          by None is = refl
          by (Some k) is = absurd cc

      no_more : (ns : List ℕ) → ns ++ [] ≡ ns
      no_more [] = refl
      no_more (k ∷ ks) = ap (λ (rest : List ℕ). k ∷ rest) (no_more ks)

  -- A window that was not there and is in the end is the one that its notes make.
  pub tells_last : (now : Option Rect) (orders : List Order) (notes : List (ℕ × Note)) → Tells window None now orders notes → (r : Rect) → now ≡ Some r → last_made (notes_of (Some window) notes) ≡ Some window
  tells_last now orders notes begins r is = absurd cc
  tells_last now all notes (beside _ orders _ tells o other) r is = tells_last now orders notes tells r is
  tells_last now orders all (small _ _ notes tells at n little) r is = by (window == at) refl (tells_last now orders notes tells r is)
    where
      by : (b : Bool) → (window == at) ≡ b → last_made (notes_of (Some window) notes) ≡ Some window → last_made (notes_of (Some window) (notes ++ (at, n) ∷ [])) ≡ Some window
      by true same before =
          let here : window ≡ at = eqb-true window at same in
          subst (λ (k : ℕ). last_made (notes_of (Some window) (notes ++ (k, n) ∷ [])) ≡ Some window) here
          (ap last_made (own_more window notes n) ∙ still_last (notes_of (Some window) notes) n (small_makes_none n (little (sym here))) ∙ before)
      by false other before = ap last_made (others_more window notes at n other) ∙ before
  tells_last now all others (makes orders notes tells number depth name q hide) r is =
      ap last_made (own_more window notes (note.Made number window name q depth))
      ∙ ap (last_or None) (filter_map-append made_by (notes_of (Some window) notes) (note.Made number window name q depth ∷ [])) ∙ last_added None (filter_map made_by (notes_of (Some window) notes)) window
  tells_last now all others (replaces old orders notes tells keep hidden name q) r is =
      ap last_made (own_more window notes (told_image keep name q)) ∙ still_last (notes_of (Some window) notes) (told_image keep name q) (image_makes_none keep name q) ∙ tells_last (Some old) orders notes tells old refl
  tells_last now all others (drops old orders notes tells) r is = absurd cc
