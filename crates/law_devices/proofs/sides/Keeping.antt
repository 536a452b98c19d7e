-- A device keeps its display, with sides that a display may have and with its channels, whatever connections and the orders of acts do.
use Rattle.std.proofs.Common.{◌≡◌, ℕ, true, List, [], ◌∷◌, Ok, ◌&&◌, sym, ap, subst, ◌∙◌}
use Rattle.std.specs.Prelude.{◌==◌, IfOk, length, nat_lt, not, slice_index_or}
use Rattle.std.specs.Int.{from_le_bytes, w32}
use Rattle.std.specs.Option.{option_map_or}
use Rattle.std.proofs.lemmas.List.Elements.{All-cons, All-head, All-nil, All-tail}
use Rattle.r9_geom.specs.declared.Rect.{Rect}
use Rattle.r9_geom.specs.Geometry.{height, width}
use Rattle.r9_event.specs.event.Orders.{EndNoConnection, EndsNoConnection}
use Rattle.r9_event.specs.declared.event.rio.Order.{Order}
use Rattle.r9_event.specs.declared.event.rio.Order.TheVariants.{Make, Place, Replace, Raise, Lower, Drop, Host, Leave, Size}
use Rattle.model_text.specs.text.Outcome.{Outcome, refuse_if}
use Rattle.model_pixel.specs.Channels.{colour_of, pack}
use Rattle.model_draw_parts.specs.dmsg.Message.{Message, LowN}
use Rattle.model_forest.specs.World.{Image as ImageState}
use Rattle.model_exchanged.specs.resize.Resize.{after_resize}
use Rattle.model_exchanged.proofs.resize.Shown.{resize-at}
use Rattle.model_draw_parts.specs.declared.images.ImageId.{ImageId}
use Rattle.model_draw.specs.draw.World.{World, after_leave, at_number, client_of, with_images}
use Rattle.model_draw.specs.draw.Act.{written}
use Rattle.model_draw.specs.draw.Files.{is_known, read_data, write_ctl}
use Rattle.model_draw.specs.draw.Orders.{carried_out, fits, has_display, image_shown, is_side, ordered, resize_display}
use Rattle.model_alone.specs.alone.Uses.{looked_at}
use Rattle.law_shown.specs.shown.Showing.{IsOrderly}
use Rattle.law_shown.proofs.shown.Tests.{after_step, split}
use Rattle.law_shown.proofs.lasting.Messages.{connect_still, leave_still}
use Rattle.law_likeness.specs.likeness.Likeness.{SameShape}
use Rattle.law_likeness.proofs.likeness.Shapes.{shape_itself}
use Rattle.law_likeness.specs.making.Standing.{IsWhole}
use Rattle.law_others.specs.apart.Apart.{LooksBeside, Stays}
use Rattle.law_others.specs.others.Others.{IsFurnished, IsNoSize, nothing}
use Rattle.law_others.proofs.others.Display.{IsCounted, has_counted, new_counted, others_stay}
use Rattle.law_others.proofs.others.Messages.{leave_stays}
use Rattle.law_others.proofs.others.Writes.{written_stays}
use Rattle.law_devices.proofs.holding.Rooting.{all_outside, nothing_apart}
use Rattle.law_likeness.specs.whole.Steady.{IsSteady}
use Rattle.law_likeness.proofs.whole.Freeing.{leave_whole}
use Rattle.law_likeness.proofs.whole.Messages.{connect_whole, read_data_whole, write_ctl_whole, written_steady}
use Rattle.law_others.specs.managed.Ending.{LeavesManager}
use Rattle.law_others.proofs.managed.Carrying.{ordered_steady}
use Rattle.law_others.proofs.sized.Acts.{box_height, box_width}
use Rattle.law_shown.specs.fitting.Fitting.{AllFit}
use Rattle.law_others.specs.orders.Leading.{Uses, begins, chooses, ends, reads, rests, writes}
use Rattle.law_others.proofs.orders.Desktops.{choice_is, read_is}
use Rattle.law_others.proofs.orders.Furnished.{orders_furnished, used_furnished}

-- an image with these channels, and with sides that a display may have
pub record HasSides (chan : ℕ) (image : ImageState) : Type 0 where
  pub wide : is_side (width image.r) ≡ true
  pub high : is_side (height image.r) ≡ true
  pub chan_is : image.chan ≡ chan

-- what a device keeps: it is whole and orderly, and has its display
pub record IsKept (w : World) : Type 0 where
  pub steady : IsSteady w
  pub furnished : IsFurnished w

same_sides : (chan : ℕ) (old new : ImageState) → SameShape new old → HasSides chan old → HasSides chan new
same_sides chan old new same has = record {
  wide = ap (λ (r : Rect). is_side (width r)) same.r ∙ has.wide;
  high = ap (λ (r : Rect). is_side (height r)) same.r ∙ has.high;
  chan_is = same.chan ∙ has.chan_is;
}

-- ---- what connections do

done : {A : Type 0} (P : A → Type 0) (o : Outcome A) (x : A) → o ≡ Ok x → IfOk o P → P x
done P o x is all = subst (λ (made : Outcome _). IfOk made P) is all

all_looks : (m : Message) → LooksBeside nothing m
all_looks (LowN id name) = λ none. none
all_looks _ = tt

used_steady : (old new : World) → Uses old new → IsSteady old → IsSteady new
used_steady old new rests s = s
used_steady old new (writes k bytes mark other) s = written_steady k old bytes mark other s
used_steady old new (reads k most got e) s = record {
  whole = done (λ g. IsWhole g.1) (read_data k old most) got e (read_data_whole k old s.whole s.orderly most);
  orderly = (let still = read_is k old most got s.orderly e in still.orderly);
}
used_steady old new (chooses k bytes next e) s = record {
  whole = done IsWhole (write_ctl k old bytes) next e (write_ctl_whole k old s.whole s.orderly bytes);
  orderly = (let still = choice_is k old bytes next s.orderly e in still.orderly);
}
used_steady old new (begins k) s = record { whole = connect_whole k old s.whole s.orderly; orderly = (let still = connect_still old k s.orderly in still.orderly) }
used_steady old new (ends k other) s = record { whole = leave_whole old k s.whole; orderly = (let still = leave_still old k other s.orderly in still.orderly) }

module _ (w : World) where
  -- the display has the shape that it had
  abbrev Shaped : World → Type 0
  Shaped next = SameShape (at_number next 0) (at_number w 0)

  read_shaped : (k most : ℕ) → IfOk (read_data k w most) (λ got. Shaped got.1)
  unfolding read_data
  read_shaped k most =
      after_step _ (refuse_if (length (client_of w k).pending == 0) 26) _ (λ _ _.
      after_step _ (refuse_if (nat_lt most (length (client_of w k).pending)) 25) _ (λ _ _. shape_itself (at_number w 0)))

  choice_shaped : (k : ℕ) (bytes : List ℕ) → IfOk (write_ctl k w bytes) Shaped
  unfolding write_ctl
  choice_shaped k bytes =
      after_step _ (refuse_if (not (length bytes == 4)) 27) _ (λ _ _.
      after_step _ (refuse_if (not (is_known w k (from_le_bytes w32 bytes))) 4) _ (λ _ _. shape_itself (at_number w 0)))

  pub used_shaped : (next : World) → Uses w next → IsOrderly w → IsFurnished w → Shaped next
  used_shaped next rests orderly f = shape_itself (at_number w 0)
  used_shaped next (writes k bytes mark other) orderly f =
      let stays : Stays nothing w (written k w bytes mark).world =
      written_stays nothing k (all_outside k other) w bytes mark (nothing_apart w f) f.numbers orderly (λ n d h. all_looks (slice_index_or (looked_at k w bytes mark) n d)) in
      stays.shape
  used_shaped next (reads k most got e) orderly f = done (λ g. Shaped g.1) (read_data k w most) got e (read_shaped k most)
  used_shaped next (chooses k bytes chosen e) orderly f = done Shaped (write_ctl k w bytes) chosen e (choice_shaped k bytes)
  used_shaped next (begins k) orderly f = shape_itself (at_number w 0)
  used_shaped next (ends k other) orderly f = (let stays : Stays nothing w (after_leave w k) = leave_stays nothing k (all_outside k other) w (nothing_apart w f) f.numbers in stays.shape)

pub used_kept : (old new : World) → Uses old new → IsKept old → IsKept new
used_kept old new used kept = record { steady = used_steady old new used kept.steady; furnished = used_furnished old new used kept.steady.orderly kept.furnished }

pub used_sided : (chan : ℕ) (old new : World) → Uses old new → IsKept old → HasSides chan (at_number old 0) → HasSides chan (at_number new 0)
used_sided chan old new used kept sides = same_sides chan (at_number old 0) (at_number new 0) (used_shaped old new used kept.steady.orderly kept.furnished) sides

-- ---- what acts do

leaves : (o : Order) → EndsNoConnection o → LeavesManager o
leaves (Leave client) none = absurd none
leaves _ none = tt

pub order_kept : (w : World) (o : Order) → IsKept w → fits w o ≡ true → EndsNoConnection o → IsKept (ordered w o)
order_kept w o kept fit none = record {
  steady = ordered_steady w o (leaves o none) kept.steady;
  furnished = orders_furnished (o ∷ []) w (fit, tt) (kept.steady.orderly, tt) (All-cons EndsNoConnection o [] none (All-nil EndsNoConnection)) kept.furnished;
}

module _ (chan : ℕ) (w : World) (kept : IsKept w) (sides : HasSides chan (at_number w 0)) where
  abbrev Sided : Order → Type 0
  Sided o = HasSides chan (at_number (ordered w o) 0)

  shown : image_shown w 0 ≡ 0
  shown = ap (λ o. option_map_or (λ (e : ImageId). e.image) o 0) kept.furnished.named

  size_sided : (columns rows : ℕ) → fits w (Size columns rows) ≡ true → Sided (Size columns rows)
  unfolding resize_display
  size_sided columns rows fit =
      let raw = pack (at_number w 0).chan (colour_of 0x777777ff) in
      let both = split (is_side columns) (is_side rows) (split (is_side columns && is_side rows) (has_display w) fit).0 in
      let is : ordered w (Size columns rows) ≡ with_images w (after_resize w.images 0 columns rows raw) =
      rw fit (ap (λ (i : ℕ). with_images w (after_resize w.images i columns rows (pack (at_number w i).chan (colour_of 0x777777ff)))) shown) in
      subst (λ (next : World). HasSides chan (at_number next 0)) (sym is)
      (subst (HasSides chan) (sym (resize-at w.images 0 columns rows raw)) (record {
        wide = ap (λ (n : ℕ). is_side n) (box_width columns rows) ∙ both.0;
        high = ap (λ (n : ℕ). is_side n) (box_height columns rows) ∙ both.1;
        chan_is = sides.chan_is;
      }))

  -- an order on a window
  window_sided : (o : Order) → IsNoSize o → IsCounted w kept.furnished o → Sided o
  window_sided o fixed counted =
      let stays : Stays nothing w (ordered w o) = others_stay w kept.furnished kept.steady.orderly o fixed counted in
      same_sides chan (at_number w 0) (at_number (ordered w o) 0) stays.shape sides

  order_sided : (o : Order) → fits w o ≡ true → EndsNoConnection o → Sided o
  order_sided (Make window host r name hide depth) fit none = window_sided (Make window host r name hide depth) tt (new_counted w window kept.furnished.named (split _ _ (split _ _ fit).0).1)
  order_sided (Place window at) fit none = window_sided (Place window at) tt (has_counted w window (split _ _ fit).0)
  order_sided (Replace window host r name keep hidden) fit none = window_sided (Replace window host r name keep hidden) tt (has_counted w window (split _ _ (split _ _ (split _ _ fit).0).0).0)
  order_sided (Raise window) fit none = window_sided (Raise window) tt (has_counted w window fit)
  order_sided (Lower window) fit none = window_sided (Lower window) tt (has_counted w window fit)
  order_sided (Drop window) fit none = window_sided (Drop window) tt (has_counted w window fit)
  order_sided (Host window fill) fit none = window_sided (Host window fill) tt (has_counted w window (split _ _ (split _ _ fit).0).0)
  order_sided (Leave client) fit none = absurd none
  order_sided (Size columns rows) fit none = size_sided columns rows fit

pub orders_kept : (orders : List Order) (w : World) → AllFit w orders → EndNoConnection orders → IsKept w → IsKept (carried_out w orders)
orders_kept [] w all none kept = kept
orders_kept (o ∷ orders) w all none kept =
    orders_kept orders (ordered w o) all.1 (All-tail EndsNoConnection o orders none) (order_kept w o kept all.0 (All-head EndsNoConnection o orders none))

pub orders_sided : (chan : ℕ) (orders : List Order) (w : World) → AllFit w orders → EndNoConnection orders → IsKept w → HasSides chan (at_number w 0) → HasSides chan (at_number (carried_out w orders) 0)
orders_sided chan [] w all none kept sides = sides
orders_sided chan (o ∷ orders) w all none kept sides =
    let first = All-head EndsNoConnection o orders none in
    orders_sided chan orders (ordered w o) all.1 (All-tail EndsNoConnection o orders none) (order_kept w o kept all.0 first) (order_sided chan w kept sides o all.0 first)
