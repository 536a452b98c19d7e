-- Maps that are changed at a key, where it has a value or not.
use Rattle.std.proofs.Common.{◌≡◌, ◌∙◌, ℕ, Bool, true, false, cond, eqb, List, [], ◌∷◌, Option, Some, None, Result, Ok, Err, OnOk, OnErr, refl, sym, ap}
use Rattle.std.specs.Option.{unwrap_or}
use Rattle.model_text.specs.text.Map.{lookup, with}
use Rattle.model_rio.specs.window.Heard.{Heard}
use Rattle.model_rio.specs.window.Pane.{Pane, new_pane, pane_heard}
use Rattle.model_world.specs.Desktop.{pane_told}

absent_by : {A : Type 0} (e : ℕ × A) (es : List (ℕ × A)) (key : ℕ) (value : A) (b : Bool) → cond b (Some e.1) (lookup es key) ≡ None → (lookup es key ≡ None → with es key value ≡ es)
    → cond b ((e.0, value) ∷ es) (e ∷ with es key value) ≡ e ∷ es
absent_by {A = A} e es key value true at more = absurd (let f : ◌≡◌ {A = Option A} (Some e.1) None = at in cc)
absent_by e es key value false at more = ap (λ rest. e ∷ rest) (more at)

-- a key without a value gets none
pub with-absent : {A : Type 0} (es : List (ℕ × A)) (key : ℕ) (value : A) → lookup es key ≡ None → with es key value ≡ es
with-absent [] key value at = refl
with-absent (e ∷ es) key value at = absent_by e es key value (eqb e.0 key) at (with-absent es key value)

-- a window that is there is told something
pub told-some : (panes : List (ℕ × Pane)) (window : ℕ) (pane after : Pane) (h : Heard) → lookup panes window ≡ Some pane → after ≡ pane_heard pane h → with panes window after ≡ pane_told panes window h
told-some panes window pane after h found is =
    ap (with panes window) (is ∙ ap (λ (o : Option Pane). pane_heard (unwrap_or o new_pane) h) (sym found))

-- and one that is not
pub told-none : (panes : List (ℕ × Pane)) (window : ℕ) (h : Heard) → lookup panes window ≡ None → panes ≡ pane_told panes window h
told-none panes window h none = sym (with-absent panes window _ none)

pub on_err : {A E P : Type 0} (r : Result A E) → P → OnErr r P
on_err (Ok x) p = tt
on_err (Err e) p = p

pub on_ok_too : {A E P Q : Type 0} (r : Result A E) → (P → Q) → OnOk r P → OnOk r Q
on_ok_too (Ok x) follows p = follows p
on_ok_too (Err e) follows p = tt
