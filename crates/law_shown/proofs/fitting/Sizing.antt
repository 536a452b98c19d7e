-- The orders of an act that gives the display another size fit.
use Rattle.std.proofs.Common.{◌≡◌, ℕ, pos, Bool, true, false, Ok, All, refl, sym, ap, subst, ◌∙◌, eqb-true}
use Rattle.std.specs.Prelude.{◌==◌, ◌&&◌, not, is_some, filter}
use Rattle.r9_geom.specs.declared.Rect.{Rect}
use Rattle.r9_geom.specs.Geometry.{is_empty, is_point, meet}
use Rattle.r9_event.specs.declared.event.rio.Order.{Order}
use Rattle.r9_event.specs.declared.event.rio.Order.TheVariants as order
use Rattle.model_files.specs.wctl.Rectangle.{applied, box}
use Rattle.model_rio.specs.rio.Table.{Table, deepest, windows_in}
use Rattle.model_rio.specs.rio.Step.{Step, ordered}
use Rattle.model_rio.specs.rio.Rio.{moved_by, resized, to_corner, windows_off}
use Rattle.model_forest.specs.World.{SameSize, origin_point}
use Rattle.model_exchanged.specs.resize.Resize.{after_resize}
use Rattle.model_draw_parts.specs.images.Book.{image_id}
use Rattle.model_draw.specs.draw.World.{World, at_number}
use Rattle.model_draw.specs.draw.Making.{is_window}
use Rattle.model_draw.specs.draw.Orders.{after_order, fits, has_display, image_shown, is_side, is_window_rect, manager, resize_display}
use Rattle.law_shown.specs.shown.Showing.{IsOrderly, ShowsWindow}
use Rattle.law_shown.proofs.shown.Tests.{both, not-true, not_both, split, value_ok}
use Rattle.law_shown.proofs.shown.Following.{Follows, none}
use Rattle.law_shown.specs.fitting.Fitting.{IsWay, Shows}
use Rattle.law_shown.proofs.fitting.Lists.{Each, all_of, each_filter}
use Rattle.law_shown.proofs.fitting.Rects.{applied_rect, applied_size}
use Rattle.law_shown.proofs.fitting.Stepping.{IsFit, fits_more, now, root_shown, shows_follow, windows_of}
use Rattle.law_shown.proofs.fitting.Acting.{IsIn, KeepsEach, each_moves, each_reverse, moved_moves}

-- ---- what another size of the display leaves

not_false : (b : Bool) → not b ≡ true → b ≡ false
not_false false e = refl
not_false true e = absurd cc

stands_nowhere : (w : World) → has_display w ≡ true → is_window w (image_shown w 0) ≡ false
stands_nowhere w has =
    let i = image_shown w 0 in
    let there = is_some (image_id w.book manager 0) && not (is_window w i) in
    let corner = is_point (at_number w i).r.min origin_point in
    let whole = not (at_number w i).repl in
    not_false (is_window w i) (split (is_some (image_id w.book manager 0)) (not (is_window w i)) (split there corner (split (there && corner) whole has).0).0).1

-- the images of windows and of rios' screens keep what they had
image_same : (w : World) (width height n : ℕ) → (n == image_shown w 0) ≡ false → at_number (resize_display w width height) n ≡ at_number w n
unfolding resize_display after_resize
image_same w width height n apart = rw apart refl

chan_same : (w : World) (width height n : ℕ) → (at_number (resize_display w width height) n).chan ≡ (at_number w n).chan
unfolding resize_display after_resize
chan_same w width height n = by (n == image_shown w 0) refl
  where
    by : (b : Bool) → (n == image_shown w 0) ≡ b → (at_number (resize_display w width height) n).chan ≡ (at_number w n).chan
    by true is = rw is (ap (λ (i : ℕ). (at_number w i).chan) (sym (eqb-true n (image_shown w 0) is)))
    by false is = ap (λ image. image.chan) (image_same w width height n is)

display_follows : (w : World) (width height : ℕ) → IsOrderly w → has_display w ≡ true → Follows none none w (resize_display w width height)
unfolding resize_display
display_follows w width height o has = record {
  orderly = record { ties = o.ties; images = o.images; numbers = o.numbers; screens = o.screens; spare = o.spare };
  windows = λ serial r at shows.
      let same = image_same w width height shows.id.image (apart serial r shows) in
      record {
        counted = shows.counted;
        may = shows.may;
        id = shows.id;
        found = shows.found;
        stands = shows.stands;
        size = subst (λ image. SameSize r image.r) (sym same) shows.size;
        rect = subst (λ image. is_window_rect image.r ≡ true) (sym same) shows.rect;
        chan = ap (λ image. image.chan) same ∙ shows.chan;
      };
  rios = λ host at shows. record {
    id = shows.id;
    found = shows.found;
    screen = shows.screen;
    numbered = shows.numbered;
    chan = chan_same w width height shows.screen.image ∙ shows.chan;
  };
  fresh = λ serial at none. none;
}
  where
    apart : (serial : ℕ) (r : Rect) (shows : ShowsWindow w serial r) → (shows.id.image == image_shown w 0) ≡ false
    apart serial r shows =
        not-true (shows.id.image == image_shown w 0)
        (λ is. not_both (is_window w shows.id.image) shows.stands (ap (is_window w) (eqb-true shows.id.image (image_shown w 0) is) ∙ stands_nowhere w has))

-- ---- the windows that move then

corner_ways : All IsWay to_corner
corner_ways = all_of IsWay to_corner (tt, (tt, tt))

corner_moves : (device : World) → KeepsEach device (moved_by true to_corner)
unfolding moved_by
corner_moves device w step out fit stands home e =
    let place = value_ok (applied true to_corner w.r) 47 _ out e in
    moved_moves device deepest w place.0 step out fit stands home (applied_rect true to_corner w.r place.0 place.1) (applied_size to_corner w.r place.0 corner_ways place.1) place.2

off_in : (w : World) (table : Table) (r : Rect) → Shows w table → Each (IsIn w 0) (windows_off r table)
off_in w table r shows =
    each_reverse (IsIn w 0) (filter (λ v. is_empty (meet v.r r)) (windows_in table 0))
    (each_filter (IsIn w 0) (IsIn w 0) (λ v. is_empty (meet v.r r)) (λ v _ is. is) (windows_in table 0)
    (each_filter (λ v. ShowsWindow w v.serial v.r) (IsIn w 0) (λ v. v.host == 0) (λ v at is. (is, eqb-true v.host 0 at)) table.windows (windows_of w table shows)))

pub resized_fit : (device : World) (width height : ℕ) (step out : Step) → IsFit device step → is_side width ≡ true → is_side height ≡ true → has_display (now device step) ≡ true → resized width height step ≡ Ok out → IsFit device out
unfolding resized
resized_fit device width height step out fit wide high has e =
    let r = box (pos 0) (pos 0) (pos width) (pos height) in
    let old = now device step in
    let o : Order = order.Size width height in
    let new : World = after_order old o in
    let next : Table = record step.table { r = r } in
    let led : Step = ordered o (record step { table = next }) in
    let fit_now : fits old o ≡ true = both (is_side width && is_side height) (has_display old) (both (is_side width) (is_side height) wide high) has in
    let f : Follows none none old new = display_follows old width height fit.orderly has in
    let same : Shows new step.table = shows_follow old new step.table f fit.shows in
    let shows : Shows new next = record { rooted = same.rooted; windows = same.windows; rios = same.rios; fresh = same.fresh } in
    let there : IsFit device led = fits_more device step.orders o step.table next fit fit_now f.orderly shows in
    (each_moves device (moved_by true to_corner) (corner_moves device) 0 (windows_off r step.table) led out there (root_shown (now device led) next there.shows) (off_in (now device led) next r there.shows) e).fit
