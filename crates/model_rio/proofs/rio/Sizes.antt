-- Another size of the display is refused by 47 alone.
use Rattle.std.proofs.Common.{◌≡◌, ℕ, zero, suc, pos, Bool, true, false, cond, not, List, [], ◌∷◌, reverse, Option, Some, None, Ok, Err, refl}
use Rattle.r9_geom.specs.declared.Rect.{Rect}
use Rattle.r9_geom.specs.declared.Point.{Point}
use Rattle.r9_geom.specs.Geometry.{shifted}
use Rattle.r9_event.specs.window.Ways.{way}
use Rattle.r9_event.specs.declared.event.rio.Order.TheVariants as order
use Rattle.model_text.specs.text.Outcome.{Outcome, ◌>>=◌, value_or_refuse}
use Rattle.model_files.specs.declared.wctl.Choice.{Choice}
use Rattle.model_files.specs.wctl.Rectangle.{applied, box, is_near}
use Rattle.model_rio.specs.rio.Table.{Window, Table, is_host, windows_in, deepest}
use Rattle.model_rio.specs.rio.Act as act
use Rattle.model_rio.specs.rio.Step.{Step, begun, ordered}
use Rattle.model_rio.specs.rio.Moving.{replaced, each, carried, followed, moved}
use Rattle.model_rio.specs.rio.Rio.{windows_off, to_corner, resized, moved_by, rio}

-- what is refused is refused by 47
abbrev Refuses : (Window → Step → Outcome Step) → Type 0
Refuses change = (w : Window) (step : Step) (n : ℕ) → change w step ≡ Err n → n ≡ 47

then_refused : {A B : Type 0} (o : Outcome A) (next : A → Outcome B) (n : ℕ) → (o ≡ Err n → n ≡ 47) → ((a : A) → next a ≡ Err n → n ≡ 47) → (o >>= next) ≡ Err n → n ≡ 47
then_refused (Ok a) next n first later e = later a e
then_refused (Err m) next n first later e = first cc

value_refused : {A : Type 0} (o : Option A) (n : ℕ) → value_or_refuse o 47 ≡ Err n → n ≡ 47
value_refused (Some a) n e = absurd cc
value_refused None n e = cc

each_refused : (change : Window → Step → Outcome Step) → Refuses change → (ws : List Window) (step : Step) (n : ℕ) → each change ws step ≡ Err n → n ≡ 47
each_refused change refuses [] step n e = absurd cc
each_refused change refuses (w ∷ ws) step n e = then_refused (change w step) (each change ws) n (refuses w step n) (λ next. each_refused change refuses ws next n) e

abbrev RefusesMoves : (Window → Rect → Step → Outcome Step) → Type 0
RefusesMoves move = (w : Window) (r : Rect) (step : Step) (n : ℕ) → move w r step ≡ Err n → n ≡ 47

carried_refused : (move : Window → Rect → Step → Outcome Step) → RefusesMoves move → (by : Point) → Refuses (carried move by)
carried_refused move refuses by w step n e = by_test (is_near (shifted w.r by)) e
  where
    by_test : (b : Bool) → cond b (move w (shifted w.r by) step) (Err 47) ≡ Err n → n ≡ 47
    by_test true e = refuses w (shifted w.r by) step n e
    by_test false e = cc

followed_refused : (move : Window → Rect → Step → Outcome Step) → RefusesMoves move → (host : ℕ) (fill : Bool) (by : Point) (step : Step) (n : ℕ) → followed move host fill by step ≡ Err n → n ≡ 47
followed_refused move refuses host fill by step n e = by_test (is_host step.table host) refl
  where
    by_test : (b : Bool) → is_host step.table host ≡ b → n ≡ 47
    by_test true at =
        let all : each (carried move by) (reverse (windows_in step.table host)) (ordered (order.Host host fill) step) ≡ Err n = rw at at e in
        each_refused (carried move by) (carried_refused move refuses by) (reverse (windows_in step.table host)) (ordered (order.Host host fill) step) n all
    by_test false at =
        let f : ◌≡◌ {A = Outcome Step} (Ok step) (Err n) = rw at at e in
        absurd cc

moved_refused : (levels : ℕ) (keep : Bool) → RefusesMoves (moved levels keep)
unfolding moved
moved_refused zero keep w r step n e = absurd cc
moved_refused (suc levels) keep w r step n e =
    followed_refused (moved levels true) (moved_refused levels true) w.serial (not keep) (way w.r r) (replaced keep w r step) n e

moved_by_refused : (keep : Bool) (options : List Choice) → Refuses (moved_by keep options)
unfolding moved_by
moved_by_refused keep options w step n e =
    then_refused (value_or_refuse (applied keep options w.r) 47) (λ r. moved deepest keep w r step) n (value_refused (applied keep options w.r) n) (λ r. moved_refused deepest keep w r step n) e

pub size_refused : (table : Table) (width height n : ℕ) → rio table (act.Size width height) ≡ Err n → n ≡ 47
unfolding resized
size_refused table width height n e =
    let r = box (pos 0) (pos 0) (pos width) (pos height) in
    each_refused (moved_by true to_corner) (moved_by_refused true to_corner) (windows_off r table) (ordered (order.Size width height) (begun (record table { r = r }))) n e
