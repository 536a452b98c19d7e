-- What is kept of a window, said of the whole list of what happened.
use Rattle.std.proofs.Common.{◌≡◌, eqb, ℕ, Bool, true, false, cond, List, [], ◌∷◌, ◌++◌, Option, Some, None, refl, sym, ap, ◌∙◌, subst}
use Rattle.std.proofs.lemmas.List.Sums.{fold-append}
use Rattle.std.specs.List.{fold, filter_map, cons_option, last_or}
use Rattle.std.specs.Option.{unwrap_or}
use Rattle.r9_event.specs.declared.event.rio.Note.TheVariants as note
use Rattle.model_files.specs.mouse.Happening as mouse
use Rattle.model_files.specs.mouse.Queue.{Queue, no_events, fed, resized, answered, answer_text}
use Rattle.model_files.specs.console.Happening as console
use Rattle.model_files.specs.console.Console.{Console, empty, remembered, keyed, with_raw, with_text, after_read, rest, read, text}
use Rattle.model_files.proofs.console.Keeping.{step, same_text, same_read}
use Rattle.model_rio.specs.window.Heard.{Heard, Noted, Raw, Written, Labelled, MouseRead, ConsoleRead, MouseHeld, ConsctlHeld, known_heard, known_after, mouse_heard, mouse_answer, console_heard, console_answer, text_of, label_in, label_of, mouse_held_in, consctl_held_in, is_held_by}
use Rattle.model_rio.specs.window.Pane.{Pane, new_pane, pane_heard, pane_after}

pub goes_on : (before : List Heard) (now : Heard) → pane_after (before ++ now ∷ []) ≡ pane_heard (pane_after before) now
unfolding pane_after
goes_on before now = fold-append pane_heard new_pane before (now ∷ [])

-- Two folds, the second over what the items of the first one give: what holds of both and is kept by each step holds in
-- the end.
fold-filtered : {A B S T : Type 0} (Fits : S → T → Type 0) (f : S → A → S) (pick : A → Option B) (g : T → B → T)
    → ((x : A) (s : S) (t : T) → Fits s t → Fits (f s x) (fold g t (cons_option (pick x) [])))
    → (xs : List A) (s : S) (t : T) → Fits s t → Fits (fold f s xs) (fold g t (filter_map pick xs))
fold-filtered Fits f pick g each [] s t fits = fits
fold-filtered {A} {B} {S} {T} Fits f pick g each (x ∷ xs) s t fits =
    subst (λ (u : T). Fits (fold f (f s x) xs) u) (after_first (pick x)) (fold-filtered Fits f pick g each xs (f s x) (fold g t (cons_option (pick x) [])) (each x s t fits))
  where
    after_first : (o : Option B) → fold g (fold g t (cons_option o [])) (filter_map pick xs) ≡ fold g t (cons_option o (filter_map pick xs))
    after_first None = refl
    after_first (Some y) = refl

-- ---- what is known

known-heard : (p : Pane) (now : Heard) → (pane_heard p now).known ≡ known_heard p.known now
unfolding pane_heard
known-heard p (Noted n) = refl
known-heard p (Raw raw) = refl
known-heard p (Written bytes) = refl
known-heard p (Labelled bytes) = refl
known-heard p MouseRead = refl
known-heard p (ConsoleRead count) = refl
known-heard p (MouseHeld held) = refl
known-heard p (ConsctlHeld held) = refl

known-along : (heard : List Heard) (p : Pane) → fold known_heard p.known heard ≡ (fold pane_heard p heard).known
known-along [] p = refl
known-along (now ∷ heard) p = ap (λ k. fold known_heard k heard) (sym (known-heard p now)) ∙ known-along heard (pane_heard p now)

pub known : (heard : List Heard) → known_after heard ≡ (pane_after heard).known
unfolding known_after pane_after
known heard = known-along heard new_pane

-- ---- the label

label-heard : (now : Heard) (p : Pane) (o : Option (List ℕ)) → p.label ≡ unwrap_or o [] → (pane_heard p now).label ≡ unwrap_or (fold (λ before label. Some label) o (cons_option (label_in now) [])) []
unfolding pane_heard
label-heard (Noted n) p o e = e
label-heard (Raw raw) p o e = e
label-heard (Written bytes) p o e = e
label-heard (Labelled bytes) p o e = refl
label-heard MouseRead p o e = e
label-heard (ConsoleRead count) p o e = e
label-heard (MouseHeld held) p o e = e
label-heard (ConsctlHeld held) p o e = e

last-fold : {A : Type 0} (o : Option A) (xs : List A) → last_or o xs ≡ fold (λ before x. Some x) o xs
last-fold o [] = refl
last-fold o (x ∷ xs) = last-fold (Some x) xs

pub label : (heard : List Heard) → label_of heard ≡ (pane_after heard).label
unfolding pane_after
label heard =
    ap (λ o. unwrap_or o []) (last-fold None (filter_map label_in heard))
    ∙ sym (fold-filtered (λ (p : Pane) (o : Option (List ℕ)). p.label ≡ unwrap_or o []) pane_heard label_in (λ before label. Some label) label-heard heard new_pane None refl)

-- ---- the mouse

mouse-heard : (now : Heard) (p : Pane) (q : Queue) → p.mouse ≡ q → (pane_heard p now).mouse ≡ fold mouse.happened q (cons_option (mouse_heard now) [])
unfolding pane_heard
mouse-heard (Noted (note.Made number serial name r depth)) p q e = e
mouse-heard (Noted (note.Moved name r)) p q e = ap resized e
mouse-heard (Noted (note.Resized name r)) p q e = ap resized e
mouse-heard (Noted (note.Current current)) p q e = e
mouse-heard (Noted (note.Hidden hidden)) p q e = e
mouse-heard (Noted (note.Mouse x y buttons msec)) p q e = ap (fed (record { x = x; y = y; buttons = buttons; msec = msec })) e
mouse-heard (Noted (note.Key key)) p q e = e
mouse-heard (Noted note.Deleted) p q e = e
mouse-heard (Raw raw) p q e = e
mouse-heard (Written bytes) p q e = e
mouse-heard (Labelled bytes) p q e = e
mouse-heard MouseRead p q e = ap answered e
mouse-heard (ConsoleRead count) p q e = e
mouse-heard (MouseHeld held) p q e = e
mouse-heard (ConsctlHeld held) p q e = e

pub mouse_reads : (heard : List Heard) → mouse_answer heard ≡ answer_text (pane_after heard).mouse
unfolding pane_after mouse.queue_after
mouse_reads heard = ap answer_text (sym (fold-filtered (λ (p : Pane) (q : Queue). p.mouse ≡ q) pane_heard mouse_heard mouse.happened mouse-heard heard new_pane no_events refl))

-- ---- the console, of whose text the end is kept

read-kept : (count : ℕ) (c : Console) → after_read count (remembered c) ≡ remembered (after_read count c)
unfolding after_read
read-kept count c = by_count (eqb count 0)
  where
    by_count : (b : Bool) → cond b (remembered c) (record (remembered c) { ended = rest count c.ended }) ≡ remembered (cond b c (record c { ended = rest count c.ended }))
    by_count true = refl
    by_count false = refl

console-heard : (now : Heard) (p : Pane) (c : Console) → p.console ≡ remembered c → (pane_heard p now).console ≡ remembered (fold console.happened c (cons_option (console_heard now) []))
unfolding pane_heard
console-heard (Noted (note.Made number serial name r depth)) p c e = e
console-heard (Noted (note.Moved name r)) p c e = e
console-heard (Noted (note.Resized name r)) p c e = e
console-heard (Noted (note.Current current)) p c e = e
console-heard (Noted (note.Hidden hidden)) p c e = e
console-heard (Noted (note.Mouse x y buttons msec)) p c e = e
console-heard (Noted (note.Key key)) p c e = ap (λ d. remembered (keyed key d)) e ∙ step (console.Key key) c
console-heard (Noted note.Deleted) p c e = e
console-heard (Raw raw) p c e = ap (λ d. remembered (with_raw raw d)) e ∙ step (console.Raw raw) c
console-heard (Written bytes) p c e = ap (λ d. remembered (with_text bytes d)) e ∙ step (console.Written bytes) c
console-heard (Labelled bytes) p c e = e
console-heard MouseRead p c e = e
console-heard (ConsoleRead count) p c e = ap (after_read count) e ∙ read-kept count c
console-heard (MouseHeld held) p c e = e
console-heard (ConsctlHeld true) p c e = e
console-heard (ConsctlHeld false) p c e = ap (λ d. remembered (with_raw false d)) e ∙ step (console.Raw false) c

kept : (heard : List Heard) → (pane_after heard).console ≡ remembered (console.console_after (filter_map console_heard heard))
unfolding pane_after console.console_after
kept heard = fold-filtered (λ (p : Pane) (c : Console). p.console ≡ remembered c) pane_heard console_heard console.happened console-heard heard new_pane empty refl

pub console_reads : (count : ℕ) (heard : List Heard) → console_answer count heard ≡ read count (pane_after heard).console
console_reads count heard = sym (ap (read count) (kept heard) ∙ same_read count (console.console_after (filter_map console_heard heard)))

pub text_reads : (heard : List Heard) → text_of heard ≡ text (pane_after heard).console
text_reads heard = sym (ap text (kept heard) ∙ same_text (console.console_after (filter_map console_heard heard)))

-- ---- the files that one fid at a time has open

mouse-held-heard : (now : Heard) (p : Pane) (o : Option Bool) → p.mouse_held ≡ unwrap_or o false → (pane_heard p now).mouse_held ≡ unwrap_or (fold (λ before held. Some held) o (cons_option (mouse_held_in now) [])) false
unfolding pane_heard
mouse-held-heard (Noted n) p o e = e
mouse-held-heard (Raw raw) p o e = e
mouse-held-heard (Written bytes) p o e = e
mouse-held-heard (Labelled bytes) p o e = e
mouse-held-heard MouseRead p o e = e
mouse-held-heard (ConsoleRead count) p o e = e
mouse-held-heard (MouseHeld held) p o e = refl
mouse-held-heard (ConsctlHeld held) p o e = e

pub mouse_held : (heard : List Heard) → is_held_by mouse_held_in heard ≡ (pane_after heard).mouse_held
unfolding pane_after
mouse_held heard =
    ap (λ o. unwrap_or o false) (last-fold None (filter_map mouse_held_in heard))
    ∙ sym (fold-filtered (λ (p : Pane) (o : Option Bool). p.mouse_held ≡ unwrap_or o false) pane_heard mouse_held_in (λ before held. Some held) mouse-held-heard heard new_pane None refl)

consctl-held-heard : (now : Heard) (p : Pane) (o : Option Bool) → p.consctl_held ≡ unwrap_or o false → (pane_heard p now).consctl_held ≡ unwrap_or (fold (λ before held. Some held) o (cons_option (consctl_held_in now) [])) false
unfolding pane_heard
consctl-held-heard (Noted n) p o e = e
consctl-held-heard (Raw raw) p o e = e
consctl-held-heard (Written bytes) p o e = e
consctl-held-heard (Labelled bytes) p o e = e
consctl-held-heard MouseRead p o e = e
consctl-held-heard (ConsoleRead count) p o e = e
consctl-held-heard (MouseHeld held) p o e = e
consctl-held-heard (ConsctlHeld held) p o e = refl

pub consctl_held : (heard : List Heard) → is_held_by consctl_held_in heard ≡ (pane_after heard).consctl_held
unfolding pane_after
consctl_held heard =
    ap (λ o. unwrap_or o false) (last-fold None (filter_map consctl_held_in heard))
    ∙ sym (fold-filtered (λ (p : Pane) (o : Option Bool). p.consctl_held ≡ unwrap_or o false) pane_heard consctl_held_in (λ before held. Some held) consctl-held-heard heard new_pane None refl)
