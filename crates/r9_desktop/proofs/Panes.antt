-- What is read at a window, whether there is such a window or not.
use Rattle.std.proofs.Common.{◌≡◌, ℕ, Bool, cond, eqb, List, [], Option, Some, None, Result, Ok, Err, sym, ap, ◌∙◌}
use Rattle.std.specs.Prelude.{IfOk, IfSome, IfNone, OnErr}
use Rattle.std.specs.Option.{unwrap_or}
use Rattle.model_text.specs.text.Map.{lookup, with}
use Rattle.model_text.proofs.map.Maps.{with-same}
use Rattle.model_files.specs.mouse.Queue.{answer, answer_text}
use Rattle.model_files.specs.console.Console as console
use Rattle.model_rio.specs.window.Pane.{Pane, new_pane}
use Rattle.model_world.specs.Desktop.{pane_of}

-- ---- what follows from what a read promises

pub if_ok_to : {A E : Type 0} (P Q : A → Type 0) (r : Result A E) → ((x : A) → P x → Q x) → IfOk r P → IfOk r Q
if_ok_to P Q (Ok x) follows p = follows x p
if_ok_to P Q (Err e) follows p = tt

some_to : {A P Q : Type 0} (o : Option A) → (P → Q) → IfSome o (λ _. P) → IfSome o (λ _. Q)
some_to (Some x) follows p = follows p
some_to None follows p = tt

none_to : {A P Q : Type 0} (o : Option A) → (P → Q) → IfNone o P → IfNone o Q
none_to (Some x) follows p = tt
none_to None follows p = follows p

pub taken_to : {A E P Q : Type 0} (r : Result (Option A) E) → (P → Q) → IfOk r (λ given. IfSome given (λ _. P)) → IfOk r (λ given. IfSome given (λ _. Q))
taken_to (Ok given) follows p = some_to given follows p
taken_to (Err e) follows p = tt

pub left_to : {A E P Q : Type 0} (r : Result (Option A) E) → (P → Q) → IfOk r (λ given. IfNone given P) → IfOk r (λ given. IfNone given Q)
left_to (Ok given) follows p = none_to given follows p
left_to (Err e) follows p = tt

pub on_err_to : {A E P Q : Type 0} (r : Result A E) → (P → Q) → OnErr r P → OnErr r Q
on_err_to (Ok x) follows p = tt
on_err_to (Err e) follows p = follows p

-- ---- windows

-- a window is put back as it was
pub put_back : (panes after : List (ℕ × Pane)) (window : ℕ) (pane new : Pane) → lookup panes window ≡ Some pane → after ≡ with panes window new → new ≡ pane → after ≡ panes
put_back panes after window pane new found written same = written ∙ ap (with panes window) same ∙ with-same panes window pane found

pub mouse_of : (panes : List (ℕ × Pane)) (window : ℕ) (pane : Pane) → lookup panes window ≡ Some pane → answer_text pane.mouse ≡ answer_text (pane_of panes window).mouse
mouse_of panes window pane found = ap (λ (o : Option Pane). answer_text (unwrap_or o new_pane).mouse) (sym found)

pub no_mouse : (panes : List (ℕ × Pane)) (window : ℕ) → lookup panes window ≡ None → None ≡ answer_text (pane_of panes window).mouse
unfolding answer
no_mouse panes window none = ap (λ (o : Option Pane). answer_text (unwrap_or o new_pane).mouse) (sym none)

pub console_of : (count : ℕ) (panes : List (ℕ × Pane)) (window : ℕ) (pane : Pane) → lookup panes window ≡ Some pane
    → console.read count pane.console ≡ console.read count (pane_of panes window).console
console_of count panes window pane found = ap (λ (o : Option Pane). console.read count (unwrap_or o new_pane).console) (sym found)

no_lines : (count : ℕ) (b : Bool) (o : Option (List ℕ)) → eqb count 0 ≡ b → o ≡ cond b (Some []) None → o ≡ console.read count new_pane.console
unfolding console.read
no_lines count b o is given = given ∙ ap (λ (empty : Bool). cond empty (Some []) None) (sym is)

-- without a window a read of 0 bytes gives none, and another one waits
pub no_console : (count : ℕ) (panes : List (ℕ × Pane)) (window : ℕ) (b : Bool) (o : Option (List ℕ)) → lookup panes window ≡ None → eqb count 0 ≡ b → o ≡ cond b (Some []) None
    → o ≡ console.read count (pane_of panes window).console
no_console count panes window b o none is given =
    no_lines count b o is given ∙ ap (λ (p : Option Pane). console.read count (unwrap_or p new_pane).console) (sym none)
