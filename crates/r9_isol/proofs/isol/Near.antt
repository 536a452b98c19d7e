-- What happens at a window by its files leaves it where it is.
use Rattle.std.proofs.Common.{◌≡◌, Bool, true, false, Option, Some, None, Result, Ok, Err, sym, subst, arith}
use Rattle.std.specs.Prelude.{pos, IfNone, IfOk, IfSome, OnErr, OnOk}
use Rattle.std.proofs.lemmas.Int.{ints}
use Rattle.r9_geom.specs.Geometry.{IsNear, IsRectNear}
use Rattle.r9_event.specs.declared.event.rio.Note.{Note}
use Rattle.r9_event.specs.declared.event.rio.Note.TheVariants as note
use Rattle.law_strangers.specs.near.Near.{IsNearNote}
use Rattle.model_rio.specs.window.Heard.{Heard, known_noted, ConsctlHeld, ConsoleRead, Labelled, MouseHeld, MouseRead, Noted, Raw, Written}
use Rattle.model_rio.specs.window.Pane.{Pane, new_pane, pane_heard}

-- no note of the window manager
abbrev pub is_of_file : Heard → Bool
is_of_file (Noted n) = false
is_of_file _ = true

pub heard_near : (p q : Pane) (h : Heard) → is_of_file h ≡ true → q ≡ pane_heard p h → IsRectNear p.known.r → IsRectNear q.known.r
unfolding pane_heard
heard_near p q h of_file is near = subst (λ (x : Pane). IsRectNear x.known.r) (sym is) (by h of_file)
  where
    by : (h : Heard) → is_of_file h ≡ true → IsRectNear (pane_heard p h).known.r
    by (Noted n) e = absurd cc
    by (Raw raw) e = near
    by (Written bytes) e = near
    by (Labelled bytes) e = near
    by MouseRead e = near
    by (ConsoleRead count) e = near
    by (MouseHeld held) e = near
    by (ConsctlHeld held) e = near

pub done_near : {A E : Type 0} (r : Result A E) (p q : Pane) (h : Heard) → is_of_file h ≡ true → OnOk r (q ≡ pane_heard p h) → OnErr r (q ≡ p) → IsRectNear p.known.r → IsRectNear q.known.r
done_near (Ok x) p q h of_file done kept near = heard_near p q h of_file done near
done_near (Err e) p q h of_file done kept near = subst (λ (x : Pane). IsRectNear x.known.r) (sym kept) near

pub given_near : {A E : Type 0} (r : Result (Option A) E) (p q : Pane) (h : Heard) → is_of_file h ≡ true → IfOk r (λ given. IfSome given (λ _. q ≡ pane_heard p h)) → IfOk r (λ given. IfNone given (q ≡ p))
    → OnErr r (q ≡ p) → IsRectNear p.known.r → IsRectNear q.known.r
given_near (Ok (Some x)) p q h of_file takes leaves kept near = heard_near p q h of_file takes near
given_near (Ok None) p q h of_file takes leaves kept near = subst (λ (x : Pane). IsRectNear x.known.r) (sym leaves) near
given_near (Err e) p q h of_file takes leaves kept near = subst (λ (x : Pane). IsRectNear x.known.r) (sym kept) near

-- ---- notes

pub noted_near : (p q : Pane) (n : Note) → IsNearNote n → q ≡ pane_heard p (Noted n) → IsRectNear p.known.r → IsRectNear q.known.r
unfolding pane_heard
noted_near p q n told is near = subst (λ (x : Pane). IsRectNear x.known.r) (sym is) (by n told)
  where
    by : (n : Note) → IsNearNote n → IsRectNear (known_noted p.known n).r
    by (note.Made number serial name r depth) told = told
    by (note.Moved name r) told = told
    by (note.Resized name r) told = told
    by (note.Current current) told = near
    by (note.Hidden hidden) told = near
    by (note.Mouse x y buttons msec) told = near
    by (note.Key key) told = near
    by note.Deleted told = near

-- a window of which nothing is known yet
pub new_near : (p : Pane) → p ≡ new_pane → IsRectNear p.known.r
new_near p is = subst (λ (x : Pane). IsRectNear x.known.r) (sym is) (record { min = zero; max = zero })
  where
    zero : IsNear (record { x = pos 0; y = pos 0 })
    zero = record { left = omega (arith, ints); right = omega (arith, ints); top = omega (arith, ints); bottom = omega (arith, ints) }
