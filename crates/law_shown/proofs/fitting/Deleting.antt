-- The orders of acts that delete windows fit: those in a window go first, and each once.
use Rattle.std.proofs.Common.{◌≡◌, ℕ, zero, suc, ◌≤◌, Bool, true, false, List, [], ◌∷◌, ◌++◌, filter, fold, Option, None, Some, refl, sym, ap, subst, ◌∙◌, arith, eqb-true}
use Rattle.std.specs.Prelude.{◌==◌, not}
use Rattle.r9_geom.specs.declared.Rect.{Rect}
use Rattle.r9_event.specs.declared.event.rio.Order.{Order}
use Rattle.r9_event.specs.declared.event.rio.Order.TheVariants as order
use Rattle.model_rio.specs.rio.Table.{Window, Rio, Table, made_in, windows_in}
use Rattle.model_rio.specs.rio.Step.{Step, retired, without}
use Rattle.model_rio.specs.rio.Moving.{deleted, dropped, forgotten}
use Rattle.model_draw_parts.specs.declared.images.ImageId.{ImageId}
use Rattle.model_draw_parts.specs.images.Book.{image_id}
use Rattle.model_draw.specs.draw.World.{World}
use Rattle.model_draw.specs.draw.Orders.{after_order, carried_out, manager}
use Rattle.law_shown.specs.shown.Showing.{ShowsRio, ShowsWindow}
use Rattle.law_shown.specs.fitting.Fitting.{Shows}
use Rattle.law_shown.proofs.shown.Tests.{not-true, turned}
use Rattle.law_shown.proofs.fitting.Lists.{Apart, Each, IsOther, all_of, apart_filter, each_both, each_filter, fold_apart, fold_each}
use Rattle.law_shown.proofs.shown.Following.{Follows, only}
use Rattle.law_shown.proofs.lasting.Ordering.{drop_follows, shows_has}
use Rattle.law_shown.proofs.fitting.Stepping.{IsFit, fits_more, now, one_more, retired_fit, retired_orders, retired_windows, rios_of, windows_of}

-- a window is one deeper than the window that hosts its rio
abbrev pub IsRanked : (ℕ → ℕ) → Window → Type 0
IsRanked rank v = rank v.serial ≡ suc (rank v.host)

-- What is left where a window goes: no new window, and each other one that is no deeper.
pub record Goes (device : World) (rank : ℕ → ℕ) (serial : ℕ) (old new : Step) : Type 1 where
  pub fit : IsFit device new
  pub each : (P : Window → Type 0) → Each P old.table.windows → Each P new.table.windows
  pub apart : Apart old.table.windows → Apart new.table.windows
  pub spared : (at : ℕ) (r : Rect) → (at == serial) ≡ false → rank at ≤ rank serial → ShowsWindow (now device old) at r → ShowsWindow (now device new) at r

-- What is left where windows go that are deeper than some level.
record GoDeeper (device : World) (rank : ℕ → ℕ) (level : ℕ) (old new : Step) : Type 1 where
  fit : IsFit device new
  each : (P : Window → Type 0) → Each P old.table.windows → Each P new.table.windows
  apart : Apart old.table.windows → Apart new.table.windows
  spared : (at : ℕ) (r : Rect) → rank at ≤ level → ShowsWindow (now device old) at r → ShowsWindow (now device new) at r

not_false : (b : Bool) → not b ≡ true → b ≡ false
not_false true h = absurd cc
not_false false h = refl

-- what is left of a table that a device shows, once a window has gone
forgotten_shows : (old new : World) (table : Table) (serial : ℕ) (r : Rect) → Follows (only serial) (only serial) old new → ShowsWindow old serial r → Shows old table
    → Shows new (record table { rios = filter (λ rio. not (rio.host == serial)) table.rios; windows = without serial table.windows })
forgotten_shows old new table serial r f stands shows =
    let rios = rios_of old table shows in
    record {
      rooted = shows.rooted;
      windows = all_of (λ v. ShowsWindow new v.serial v.r) (without serial table.windows)
          (each_filter (λ v. ShowsWindow old v.serial v.r) (λ v. ShowsWindow new v.serial v.r) (λ v. not (v.serial == serial)) (λ v at is. f.windows v.serial v.r (not_false (v.serial == serial) at) is) table.windows (windows_of old table shows));
      rios = all_of (λ rio. ShowsRio new rio.host) (table.root ∷ filter (λ rio. not (rio.host == serial)) table.rios) (
        f.rios table.root.host (ap (λ (n : ℕ). n == serial) shows.rooted ∙ turned 0 serial ∙ stands.counted) rios.0,
        each_filter (λ rio. ShowsRio old rio.host) (λ rio. ShowsRio new rio.host) (λ (rio : Rio). not (rio.host == serial)) (λ rio at is. f.rios rio.host (not_false (rio.host == serial) at) is) table.rios rios.1,
      );
      fresh = λ at later. fresh_gone at (shows.fresh at later);
    }
  where
    fresh_gone : (at : ℕ) → image_id old.book manager at ≡ None → image_id new.book manager at ≡ None
    fresh_gone at free =
        f.fresh at (not-true (at == serial) (λ is. absurd (let two : ◌≡◌ {A = Option ImageId} None (Some stands.id) = sym free ∙ ap (image_id old.book manager) (eqb-true at serial is) ∙ stands.found in cc))) free

dropped_goes : (device : World) (rank : ℕ → ℕ) (w : Window) (step : Step) → IsFit device step → ShowsWindow (now device step) w.serial w.r → Goes device rank w.serial step (dropped w step)
unfolding dropped
dropped_goes device rank w step fit stands =
    let idle : Step = retired w.host w.serial step in
    let still : IsFit device idle = retired_fit device w.host w.serial step fit in
    let old = now device idle in
    let same : now device step ≡ old = ap (carried_out device) (sym (retired_orders w.host w.serial step)) in
    let here : ShowsWindow old w.serial w.r = subst (λ (v : World). ShowsWindow v w.serial w.r) same stands in
    let o : Order = order.Drop w.serial in
    let new : World = after_order old o in
    let f : Follows (only w.serial) (only w.serial) old new = drop_follows old w.serial w.r still.orderly here in
    let fit_now = shows_has old w.serial w.r here in
    let is : new ≡ carried_out device (idle.orders ++ o ∷ []) = sym (one_more device idle.orders o fit_now) in
    let windows = retired_windows w.host w.serial step in
    record {
      fit = fits_more device idle.orders o idle.table (forgotten w.serial idle).table still fit_now f.orderly (forgotten_shows old new idle.table w.serial w.r f here still.shows);
      each = λ P each. each_filter P P (λ v. not (v.serial == w.serial)) (λ v _ is. is) idle.table.windows (subst (Each P) (sym windows) each);
      apart = λ apart. apart_filter (λ v. not (v.serial == w.serial)) idle.table.windows (subst Apart (sym windows) apart);
      spared = λ at r other _ shows. subst (λ (v : World). ShowsWindow v at r) is (f.windows at r other (subst (λ (v : World). ShowsWindow v at r) same shows));
    }

-- ---- those in a window

-- a window that is shown, one deeper than a level
abbrev IsBelow : World → (ℕ → ℕ) → ℕ → Window → Type 0
IsBelow device rank level v = ShowsWindow device v.serial v.r × (rank v.serial ≡ suc level)

abbrev Deletes : World → (ℕ → ℕ) → (Window → Step → Step) → Type 1
Deletes device rank delete =
    (w : Window) (step : Step) → IsFit device step → Each (IsRanked rank) step.table.windows → Apart step.table.windows → ShowsWindow (now device step) w.serial w.r → Goes device rank w.serial step (delete w step)

all_go : (device : World) (rank : ℕ → ℕ) (level : ℕ) (delete : Window → Step → Step) → Deletes device rank delete → (ws : List Window) (step : Step) → IsFit device step → Each (IsRanked rank) step.table.windows → Apart step.table.windows
    → Each (IsBelow (now device step) rank level) ws → Apart ws → GoDeeper device rank level step (fold (λ step v. delete v step) step ws)
all_go device rank level delete deletes [] step fit ranked apart below others = record { fit = fit; each = λ P each. each; apart = λ apart. apart; spared = λ at r low shows. shows }
all_go device rank level delete deletes (w ∷ ws) step fit ranked apart below others =
    let next : Step = delete w step in
    let one = deletes w step fit ranked apart below.0.0 in
    let deep : rank w.serial ≡ suc level = below.0.1 in
    let rest = all_go device rank level delete deletes ws next one.fit (one.each (IsRanked rank) ranked) (one.apart apart)
    (each_both (IsOther w) (IsBelow (now device step) rank level) (IsBelow (now device next) rank level) (λ v other is. let same = is.1 in (one.spared v.serial v.r other (omega (arith, same, deep)) is.0, is.1)) ws others.0 below.1) others.1 in
    record {
      fit = rest.fit;
      each = λ P each. rest.each P (one.each P each);
      apart = λ apart. rest.apart (one.apart apart);
      spared = λ at r low shows. rest.spared at r low (one.spared at r (higher at w.serial low deep) (omega (arith, low, deep)) shows);
    }
  where
    higher : (at serial : ℕ) → rank at ≤ level → rank serial ≡ suc level → (at == serial) ≡ false
    higher at serial low deep = not-true (at == serial) (λ is. let same : rank at ≡ rank serial = ap rank (eqb-true at serial is) in absurd (omega (arith, same, low, deep)))

none_before : (ws : List Window) → Each (λ w. Each (IsOther w) []) ws
none_before [] = tt
none_before (w ∷ ws) = (tt, none_before ws)

pub deleted_goes : (device : World) (rank : ℕ → ℕ) (levels : ℕ) → Deletes device rank (deleted levels)
unfolding deleted
deleted_goes device rank zero w step fit ranked apart stands = record { fit = fit; each = λ P each. each; apart = λ apart. apart; spared = λ at r other low shows. shows }
deleted_goes device rank (suc levels) w step fit ranked apart stands =
    let inside = windows_in step.table w.serial in
    let inner = made_in step.table w.serial in
    let level = rank w.serial in
    let below : Each (IsBelow (now device step) rank level) inner =
    fold_each (IsBelow (now device step) rank level) inside [] tt
    (each_filter (λ v. ShowsWindow (now device step) v.serial v.r × IsRanked rank v) (IsBelow (now device step) rank level) (λ v. v.host == w.serial)
    (λ v at is. (is.0, is.1 ∙ ap (λ (n : ℕ). suc (rank n)) (eqb-true v.host w.serial at))) step.table.windows
    (each_both (λ v. ShowsWindow (now device step) v.serial v.r) (IsRanked rank) (λ v. ShowsWindow (now device step) v.serial v.r × IsRanked rank v) (λ v a b. (a, b)) step.table.windows (windows_of (now device step) step.table fit.shows) ranked)) in
    let others : Apart inner = fold_apart inside [] tt (apart_filter (λ v. v.host == w.serial) step.table.windows apart) (none_before inside) in
    let emptier : Step = fold (λ step v. deleted levels v step) step inner in
    let gone = all_go device rank level (deleted levels) (deleted_goes device rank levels) inner step fit ranked apart below others in
    let last = dropped_goes device rank w emptier gone.fit (gone.spared w.serial w.r (omega arith) stands) in
    record {
      fit = last.fit;
      each = λ P each. last.each P (gone.each P each);
      apart = λ apart. last.apart (gone.apart apart);
      spared = λ at r other low shows. last.spared at r other low (gone.spared at r low shows);
    }
