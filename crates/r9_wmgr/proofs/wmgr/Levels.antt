-- What goes so many levels down, one level at a time.
use Rattle.std.proofs.Common.{◌≡◌, ◌∙◌, ℕ, zero, suc, ◌+◌, ◌-◌, ◌<◌, Bool, true, false, not, List, [], ◌∷◌, ◌++◌, length, drop, get_or, Some, None, Ok, Err, refl, sym, ap, arith, add-one, drop-cons}
use Rattle.std.proofs.Common.{◌≤◌}
use Rattle.std.specs.Prelude.{if◌then◌else◌}
use Rattle.std.specs.List.{fold}
use Rattle.std.proofs.lemmas.List.{drop_all}
use Rattle.r9_geom.specs.declared.Rect.{Rect}
use Rattle.r9_geom.specs.declared.Point.{Point}
use Rattle.r9_geom.specs.Geometry.{shifted}
use Rattle.r9_event.specs.declared.event.rio.Note.TheVariants as note
use Rattle.r9_event.specs.declared.window.Window.{Window}
use Rattle.r9_event.specs.window.Ways.{way}
use Rattle.model_text.specs.text.Outcome.{Outcome}
use Rattle.model_files.specs.wctl.Rectangle.{is_near}
use Rattle.model_files.specs.declared.mouse.Mouse.{Mouse}
use Rattle.model_rio.specs.rio.Table.{Table, window_of, current_of, hold_of, is_host, made_in, path_up}
use Rattle.model_rio.specs.rio.Step.{Step, noted}
use Rattle.model_rio.specs.rio.Moving.{each, carried, followed, moved, replaced, dropped, deleted}
use Rattle.model_rio.specs.rio.Routing.{receiver, reacted, given, moused, focus}

less : (n : ℕ) → suc n - 1 ≡ n
less n = omega arith

-- ---- paths

pub path_up-zero : (n : ℕ) (table : Table) (serial : ℕ) → n ≡ 0 → path_up n table serial ≡ []
unfolding path_up
path_up-zero zero table serial e = refl
path_up-zero (suc n) table serial e = absurd (omega arith)

pub path_up-none : (n : ℕ) (table : Table) (serial : ℕ) → window_of table serial ≡ None → path_up n table serial ≡ []
unfolding path_up
path_up-none zero table serial e = refl
path_up-none (suc n) table serial e = rw e refl

pub path_up-some : (n : ℕ) (table : Table) (serial : ℕ) (w : Window) → (n ≡ 0 → ⊥) → window_of table serial ≡ Some w → path_up n table serial ≡ path_up (n - 1) table w.host ++ w.number ∷ []
unfolding path_up
path_up-some zero table serial w h e = absurd (h refl)
path_up-some (suc n) table serial w h e = rw (less n, e) refl

-- ---- the window that keys go to

pub focus-zero : (n : ℕ) (table : Table) (host : ℕ) → n ≡ 0 → focus n table host ≡ None
unfolding focus
focus-zero zero table host e = refl
focus-zero (suc n) table host e = absurd (omega arith)

pub focus-none : (n : ℕ) (table : Table) (host : ℕ) → current_of table host ≡ None → focus n table host ≡ None
unfolding focus
focus-none zero table host e = refl
focus-none (suc n) table host e = rw e refl

pub focus-host : (n : ℕ) (table : Table) (host serial : ℕ) → (n ≡ 0 → ⊥) → current_of table host ≡ Some serial → is_host table serial ≡ true → focus n table host ≡ focus (n - 1) table serial
unfolding focus
focus-host zero table host serial h e is = absurd (h refl)
focus-host (suc n) table host serial h e is = rw (less n, e, is) refl

pub focus-window : (n : ℕ) (table : Table) (host serial : ℕ) → (n ≡ 0 → ⊥) → current_of table host ≡ Some serial → is_host table serial ≡ false → focus n table host ≡ Some serial
unfolding focus
focus-window zero table host serial h e is = absurd (h refl)
focus-window (suc n) table host serial h e is = rw (e, is) refl

-- ---- events of the mouse

pub moused-zero : (n : ℕ) (e : Mouse) (host : ℕ) (step : Step) → n ≡ 0 → moused n e host step ≡ step
unfolding moused
moused-zero zero e host step z = refl
moused-zero (suc n) e host step z = absurd (omega arith)

pub moused-step : (n : ℕ) (e : Mouse) (host : ℕ) (step : Step) → (n ≡ 0 → ⊥)
    → moused n e host step ≡ given (moused (n - 1) e) e (receiver step.table e host (hold_of step.table host)) (reacted e host step)
unfolding moused
moused-step zero e host step h = absurd (h refl)
moused-step (suc n) e host step h = rw (less n) refl

pub moused-none : (n : ℕ) (e : Mouse) (host : ℕ) (old next : Step) → (n ≡ 0 → ⊥)
    → receiver old.table e host (hold_of old.table host) ≡ None → next ≡ reacted e host old → next ≡ moused n e host old
moused-none n e host old next h to is =
    is ∙ sym (moused-step n e host old h ∙ ap (λ to. given (moused (n - 1) e) e to (reacted e host old)) to)

given-host : (pass : ℕ → Step → Step) (e : Mouse) (serial : ℕ) (step : Step) → is_host step.table serial ≡ true → given pass e (Some serial) step ≡ pass serial step
given-host pass e serial step h = rw h refl

given-window : (pass : ℕ → Step → Step) (e : Mouse) (serial : ℕ) (step : Step) → is_host step.table serial ≡ false
    → given pass e (Some serial) step ≡ noted serial (note.Mouse e.x e.y e.buttons e.msec) step
given-window pass e serial step h = rw h refl

-- one level of an event that a window gets
moused-to : (n : ℕ) (e : Mouse) (host serial : ℕ) (old next : Step) → (n ≡ 0 → ⊥)
    → receiver old.table e host (hold_of old.table host) ≡ Some serial → next ≡ reacted e host old
    → moused n e host old ≡ given (moused (n - 1) e) e (Some serial) next
moused-to n e host serial old next h to is =
    moused-step n e host old h ∙ ap (λ to. given (moused (n - 1) e) e to (reacted e host old)) to
    ∙ ap (given (moused (n - 1) e) e (Some serial)) (sym is)

pub moused-host : (n : ℕ) (e : Mouse) (host serial : ℕ) (old next last : Step) → (n ≡ 0 → ⊥)
    → receiver old.table e host (hold_of old.table host) ≡ Some serial → next ≡ reacted e host old → is_host next.table serial ≡ true
    → last ≡ moused (n - 1) e serial next → last ≡ moused n e host old
moused-host n e host serial old next last h to is hosts done =
    done ∙ sym (moused-to n e host serial old next h to is ∙ given-host (moused (n - 1) e) e serial next hosts)

pub moused-window : (n : ℕ) (e : Mouse) (host serial : ℕ) (old next last : Step) → (n ≡ 0 → ⊥)
    → receiver old.table e host (hold_of old.table host) ≡ Some serial → next ≡ reacted e host old → is_host next.table serial ≡ false
    → last ≡ noted serial (note.Mouse e.x e.y e.buttons e.msec) next → last ≡ moused n e host old
moused-window n e host serial old next last h to is hosts done =
    done ∙ sym (moused-to n e host serial old next h to is ∙ given-window (moused (n - 1) e) e serial next hosts)

-- ---- windows that go

pub deleted-zero : (n : ℕ) (w : Window) (step : Step) → n ≡ 0 → deleted n w step ≡ step
unfolding deleted
deleted-zero zero w step z = refl
deleted-zero (suc n) w step z = absurd (omega arith)

pub deleted-step : (n : ℕ) (w : Window) (step : Step) → (n ≡ 0 → ⊥)
    → deleted n w step ≡ dropped w (fold (λ step v. deleted (n - 1) v step) step (made_in step.table w.serial))
unfolding deleted
deleted-step zero w step h = absurd (h refl)
deleted-step (suc n) w step h = rw (less n) refl

-- a window goes, when those in it have gone
pub deleted-all : (n : ℕ) (w : Window) (old mid new : Step) (inner : List Window) (i : ℕ) → (n ≡ 0 → ⊥)
    → inner ≡ made_in old.table w.serial → length inner ≤ i
    → fold (λ step v. deleted (n - 1) v step) mid (drop i inner) ≡ fold (λ step v. deleted (n - 1) v step) old inner
    → new ≡ dropped w mid → new ≡ deleted n w old
deleted-all n w old mid new inner i h are end all is =
    let gone = sym (ap (fold (λ step v. deleted (n - 1) v step) mid) (drop_all i inner end)) ∙ all ∙ ap (fold (λ step v. deleted (n - 1) v step) old) are in
    is ∙ ap (dropped w) gone ∙ sym (deleted-step n w old h)

-- ---- windows that move

pub moved-zero : (n : ℕ) (keep : Bool) (w : Window) (r : Rect) (step : Step) → n ≡ 0 → moved n keep w r step ≡ Ok step
unfolding moved
moved-zero zero keep w r step z = refl
moved-zero (suc n) keep w r step z = absurd (omega arith)

pub moved-step : (n : ℕ) (keep : Bool) (w : Window) (r : Rect) (step : Step) → (n ≡ 0 → ⊥)
    → moved n keep w r step ≡ followed (moved (n - 1) true) w.serial (not keep) (way w.r r) (replaced keep w r step)
unfolding moved
moved-step zero keep w r step h = absurd (h refl)
moved-step (suc n) keep w r step h = rw (less n) refl

not_followed : (move : Window → Rect → Step → Outcome Step) (host : ℕ) (fill : Bool) (by : Point) (step : Step) → is_host step.table host ≡ false → followed move host fill by step ≡ Ok step
not_followed move host fill by step e = rw e refl

-- a window in which no rio runs
pub moved_alone : (keep : Bool) (w : Window) (r : Rect) (step : Step) → is_host step.table w.serial ≡ false → moved 9 keep w r step ≡ Ok (replaced keep w r step)
unfolding replaced
moved_alone keep w r step alone =
    moved-step 9 keep w r step (λ e. absurd (omega (arith, e))) ∙ not_followed (moved 8 true) w.serial (not keep) (way w.r r) (replaced keep w r step) alone

-- the windows of a rio in a window that moves
pub moved-each : (n : ℕ) (keep : Bool) (w : Window) (r : Rect) (old led : Step) (by : Point) (inner shown : List Window) → (n ≡ 0 → ⊥)
    → ((move : Window → Rect → Step → Outcome Step) → each (carried move (way w.r r)) inner led ≡ followed move w.serial (not keep) (way w.r r) (replaced keep w r old))
    → by ≡ way w.r r → shown ≡ inner
    → moved n keep w r old ≡ each (carried (moved (n - 1) true) by) shown led
moved-each n keep w r old led by inner shown h leads is are =
    moved-step n keep w r old h ∙ sym (leads (moved (n - 1) true))
    ∙ (λ i. each (carried (moved (n - 1) true) (sym is i)) (sym are i) led)

-- the next of several windows
pub each-next : (change : Window → Step → Outcome Step) (step next : Step) (w : Window) (ws : List Window) (i : ℕ) (d : Window)
    → i < length ws → w ≡ get_or ws i d → change w step ≡ Ok next → each change (drop (i + 1) ws) next ≡ each change (drop i ws) step
each-next change step next w ws i d h at e =
    rw (add-one, drop-cons ws i d, ← at, e) refl

pub each-refused : (change : Window → Step → Outcome Step) (step : Step) (n : ℕ) (w : Window) (ws : List Window) (i : ℕ) (d : Window)
    → i < length ws → w ≡ get_or ws i d → change w step ≡ Err n → each change (drop i ws) step ≡ Err n
each-refused change step n w ws i d h at e =
    rw (drop-cons ws i d, ← at, e) refl

pub each-done : (change : Window → Step → Outcome Step) (step : Step) (ws : List Window) (i : ℕ) → length ws ≤ i → each change (drop i ws) step ≡ Ok step
each-done change step ws i end = ap (λ rest. each change rest step) (drop_all i ws end)

pub near_by : (b : Bool) (r to : Rect) → (if b then Some r else None) ≡ Some to → (b ≡ true) × (r ≡ to)
near_by true r to e = (refl, cc)
near_by false r to e = absurd cc

pub far_by : (b : Bool) (r : Rect) → (if b then Some r else None) ≡ None → b ≡ false
far_by true r e = absurd cc
far_by false r e = refl

pub carried-near : (move : Window → Rect → Step → Outcome Step) (by : Point) (w : Window) (to : Rect) (step : Step)
    → (if is_near (shifted w.r by) then Some (shifted w.r by) else None) ≡ Some to → carried move by w step ≡ move w to step
carried-near move by w to step e =
    let near = near_by (is_near (shifted w.r by)) (shifted w.r by) to e in
    ap (λ b. if b then move w (shifted w.r by) step else Err 47) near.0 ∙ ap (λ r. move w r step) near.1

pub carried-far : (move : Window → Rect → Step → Outcome Step) (by : Point) (w : Window) (step : Step)
    → (if is_near (shifted w.r by) then Some (shifted w.r by) else None) ≡ None → carried move by w step ≡ Err 47
carried-far move by w step e =
    ap (λ b. if b then move w (shifted w.r by) step else Err 47) (far_by (is_near (shifted w.r by)) (shifted w.r by) e)
