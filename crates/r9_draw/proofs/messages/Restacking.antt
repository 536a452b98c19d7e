-- What a `t` asks for, as a message, and its windows.
use Rattle.std.proofs.Common.{◌≡◌, ℕ, ◌<◌, Bool, true, false, List, [], length, get_or, map, Result, Ok, Err, OnOk, refl, sym, ap, subst, ◌∙◌, arith}
use Rattle.std.specs.Prelude.{◌||◌, All, IsSome, is_ok, not, if◌then◌else◌}
use Rattle.std.specs.Result.{result_unwrap_or}
use Rattle.std.proofs.lemmas.List.{get_or-map, length-map}
use Rattle.r9_locate.specs.declared.info.ImageNo.{ImageNo}
use Rattle.model_text.specs.text.Outcome.{Outcome, ◌>>=◌, refuse_if}
use Rattle.model_forest.specs.World.{parent_of}
use Rattle.model_forest.specs.Stack.{after_lower, after_raise}
use Rattle.model_draw_parts.specs.images.Book.{by_name}
use Rattle.model_draw.specs.draw.World.{World, look, with_images}
use Rattle.model_draw.specs.draw.Making.{flag, is_window}
use Rattle.model_draw.specs.draw.Moving.{are_on_one_screen, look_window, look_windows, restack}
use Rattle.model_draw.specs.draw.Act.{act}
use Rattle.r9_dmsg.specs.declared.restacking.Restacking.{Restacking}
use Rattle.r9_dmsg.specs.Listed.{restacking_message}
use Rattle.r9_draw.specs.messages.Restacking.{after_restacking, ids_of, ShowWindows}
use Rattle.r9_device.specs.device.Kept.{IsKept}
use Rattle.r9_draw.proofs.messages.Group.{shown-at, shown-length}
use Rattle.r9_device.proofs.device.Raising.{stands}

-- ---- the images are windows

refused_unless : (a b : Bool) (i j : ℕ) → (refuse_if (not a || b) 20 >>= λ _. Ok i) ≡ Ok j → (i ≡ j) × (a ≡ true)
refused_unless true false i j h = (cc, refl)
refused_unless true true i j h = absurd cc
refused_unless false b i j h = absurd cc

window-of : (k : ℕ) (w : World) (id i : ℕ) → look_window w k id ≡ Ok i → is_window w i ≡ true
window-of k w id i h = by (look w k id) h
  where
    by : (o : Outcome ℕ) → (o >>= λ n. refuse_if (not (is_window w n) || by_name w.book k id) 20 >>= λ _. Ok n) ≡ Ok i → is_window w i ≡ true
    by (Ok n) e =
        let both = refused_unless (is_window w n) (by_name w.book k id) n i e in
        ap (is_window w) (sym both.0) ∙ both.1
    by (Err n) e = absurd cc

pub window-at : (k : ℕ) (w : World) (ids : List ℕ) (j : ℕ) → is_ok (look_windows w k ids) ≡ true → j < length ids → is_window w (get_or (result_unwrap_or (look_windows w k ids) []) j 0) ≡ true
window-at k w ids j h below = window-of k w (get_or ids j 0) _ (shown-at k w ids j h below)

pub group-stands : (k : ℕ) (w : World) (ids : List ℕ) (group : List ImageNo) → IsKept w.images w.book → is_ok (look_windows w k ids) ≡ true → map (λ i. i.0) group ≡ result_unwrap_or (look_windows w k ids) []
    → All (λ i. IsSome (parent_of w.images i.0)) group
group-stands k w ids group kept ok e j d below =
    let many = ap length e ∙ shown-length k w ids ok in
    let same = length-map group (λ (i : ImageNo). i.0) in
    let here : (get_or group j d).0 ≡ get_or (result_unwrap_or (look_windows w k ids) []) j 0 =
    sym (get_or-map (λ (i : ImageNo). i.0) group j d 0 below) ∙ ap (λ (xs : List ℕ). get_or xs j 0) e in
    let P : ℕ → Type 0 = λ n. IsSome (parent_of w.images n) in
    subst P (sym here) (stands w.images w.book _ kept (window-at k w ids j ok (omega (arith, below, many, same))))

-- ---- as a message

-- windows raised or lowered as it asks
abbrev moved : World → Restacking → List ℕ → World
moved w asked group = with_images w (if flag asked.top then after_raise w.images group else after_lower w.images group)

-- it is not refused
pub accepted-shows : (k : ℕ) (w : World) (asked : Restacking) → is_ok (act k w (restacking_message asked) []) ≡ true → ShowWindows k w asked
unfolding act restack
accepted-shows k w asked h = by (look_windows w k (ids_of asked)) h
  where
    by : (o : Outcome (List ℕ)) → is_ok (o >>= λ group. refuse_if (not (are_on_one_screen w.book group)) 22 >>= λ _. Ok (moved w asked group)) ≡ true → is_ok o ≡ true
    by (Ok group) h = refl
    by (Err n) h = h

accepted-done : (k : ℕ) (w : World) (asked : Restacking) → is_ok (act k w (restacking_message asked) []) ≡ true → act k w (restacking_message asked) [] ≡ Ok (after_restacking k w asked)
unfolding act restack after_restacking
accepted-done k w asked h = by (look_windows w k (ids_of asked)) h
  where
    one : (group : List ℕ) (b : Bool) → is_ok (refuse_if b 22 >>= λ _. Ok (moved w asked group)) ≡ true → (refuse_if b 22 >>= λ _. Ok (moved w asked group)) ≡ Ok (moved w asked group)
    one group false h = refl
    one group true h = absurd cc

    by : (o : Outcome (List ℕ)) → is_ok (o >>= λ group. refuse_if (not (are_on_one_screen w.book group)) 22 >>= λ _. Ok (moved w asked group)) ≡ true
        → (o >>= λ group. refuse_if (not (are_on_one_screen w.book group)) 22 >>= λ _. Ok (moved w asked group)) ≡ Ok (moved w asked (result_unwrap_or o []))
    by (Ok group) h = one group (not (are_on_one_screen w.book group)) h
    by (Err n) h = absurd cc

pub restacked-done : {A E : Type 0} (o : Result A E) (k : ℕ) (w next : World) (asked : Restacking) → is_ok (act k w (restacking_message asked) []) ≡ true
    → OnOk o (next ≡ after_restacking k w asked) → OnOk o (act k w (restacking_message asked) [] ≡ Ok next)
restacked-done (Ok x) k w next asked h is = accepted-done k w asked h ∙ ap Ok (sym is)
restacked-done (Err x) k w next asked h is = tt
