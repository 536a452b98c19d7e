-- The window manager's orders that give the session's window no other image and take none away leave the session's part as it is.
use Rattle.std.proofs.Common.{◌≡◌, ℕ, Bool, true, false, List, Option, Some, None, refl, sym, ap, ◌∙◌, eq-eqb}
use Rattle.std.specs.Prelude.{◌==◌, option_map}
use Rattle.std.proofs.lemmas.Bool.{eqb-true}
use Rattle.r9_geom.specs.declared.Point.{Point}
use Rattle.r9_event.specs.declared.event.rio.Order.{Order}
use Rattle.r9_event.specs.declared.event.rio.Order.TheVariants.{Make, Place, Replace, Raise, Lower, Drop, Host, Leave, Size}
use Rattle.model_draw.specs.draw.World.{World}
use Rattle.model_draw.specs.draw.Orders.{after_order, fits, image_shown, ordered, place_window}
use Rattle.law_shown.specs.shown.Showing.{IsOrderly}
use Rattle.law_shown.proofs.shown.Tests.{not_both, split}
use Rattle.law_likeness.specs.likeness.Likeness.{AreLike}
use Rattle.law_likeness.specs.making.Standing.{IsWhole}
use Rattle.law_others.specs.told.Telling.{IsBeside, is_own}
use Rattle.law_others.specs.apart.Apart.{IsApart, Part, Stays}
use Rattle.law_others.specs.others.Others.{IsAnother, IsBare, IsNoSize, IsOtherOrder, part_of}
use Rattle.law_others.proofs.others.Display.{has_counted, new_counted}
use Rattle.law_others.proofs.others.Likeness.{like_apart, other_window, part_managed}
use Rattle.law_others.proofs.others.Orders.{ordered_stays}
use Rattle.law_devices.specs.beside.Rooted.{IsRooted, IsRootedWindow, IsTiedWindow}
use Rattle.law_devices.proofs.beside.Beside.{lower_stays, place_stays, raise_stays}
use Rattle.law_devices.proofs.beside.Rooting.{shown_same}

-- the serial of the session's window
abbrev serial_in : Option (ℕ × List ℕ) → Option ℕ
serial_in window = option_map (λ w. w.0) window

-- a window that the test finds is the session's, and another is not
own_is : (window : Option (ℕ × List ℕ)) (serial : ℕ) → is_own (serial_in window) serial ≡ true → (name : List ℕ) × (window ≡ Some (serial, name))
own_is None serial own = absurd cc
own_is (Some (n, name)) serial own = (name, ap (λ (m : ℕ). Some (m, name)) (eqb-true n serial own))

other_is : (window : Option (ℕ × List ℕ)) (serial : ℕ) → is_own (serial_in window) serial ≡ false → (n : ℕ) (name : List ℕ) → window ≡ Some (n, name) → serial ≡ n → ⊥
other_is None serial own n name is same = absurd cc
other_is (Some (m, named)) serial own n name is same =
    let at : m ≡ n = cc in not_both (m == serial) (eq-eqb m serial (at ∙ sym same)) own

module _ (Same SameScreen : ℕ → ℕ → Type 0) (c : ℕ) (window : Option (ℕ × List ℕ)) (a b : World) (like : AreLike Same SameScreen c window a b) (whole : IsWhole a) (orderly : IsOrderly a) (bare : IsBare a)
    (tied : IsTiedWindow window a.book) (rooted : IsRootedWindow window a) where
  abbrev part : Part
  part = part_of Same SameScreen c window

  apart : IsApart part a
  apart = like_apart Same SameScreen c window a b like whole orderly bare

  another : (serial : ℕ) → (serial == 0) ≡ false → is_own (serial_in window) serial ≡ false → IsAnother window serial
  another serial counted own = record { counted = counted; other = other_is window serial own }

  on_other : (order : Order) → IsOtherOrder part order → Stays part a (ordered a order)
  on_other order other =
      ordered_stays part (part_managed Same SameScreen c window like.counted) a order apart like.books.numbers_left orderly (λ name is. tied is.0 name is.1) other

  -- ---- the session's own window

  on_own : (order : Order) → fits a order ≡ true → Stays part a (after_order a order) → Stays part a (ordered a order)
  on_own order may stays = rw may stays

  own_rooted : (serial : ℕ) → is_own (serial_in window) serial ≡ true → IsRooted a (image_shown a serial)
  own_rooted serial own = let at = own_is window serial own in rooted serial at.0 at.1

  own_same : (serial : ℕ) → is_own (serial_in window) serial ≡ true → (j : ℕ) × Same (image_shown a serial) j
  own_same serial own = let at = own_is window serial own in shown_same Same SameScreen c window a b like bare rooted serial at.0 at.1

  place : (serial : ℕ) (at : Point) (own : Bool) → is_own (serial_in window) serial ≡ own → fits a (Place serial at) ≡ true → Stays part a (ordered a (Place serial at))
  unfolding place_window
  place serial at true own may =
      let same = own_same serial own in
      on_own (Place serial at) may (place_stays Same SameScreen c window a b like whole (image_shown a serial) same.0 same.1 (own_rooted serial own) at)
  place serial at false own may =
      on_other (Place serial at) (other_window Same SameScreen c window like.counted serial (another serial (has_counted a serial (split _ _ may).0) own))

  raise : (serial : ℕ) (own : Bool) → is_own (serial_in window) serial ≡ own → fits a (Raise serial) ≡ true → Stays part a (ordered a (Raise serial))
  raise serial true own may =
      let same = own_same serial own in
      on_own (Raise serial) may (raise_stays Same SameScreen c window a b like whole (image_shown a serial) same.0 same.1 (own_rooted serial own))
  raise serial false own may = on_other (Raise serial) (other_window Same SameScreen c window like.counted serial (another serial (has_counted a serial may) own))

  lower : (serial : ℕ) (own : Bool) → is_own (serial_in window) serial ≡ own → fits a (Lower serial) ≡ true → Stays part a (ordered a (Lower serial))
  lower serial true own may =
      let same = own_same serial own in
      on_own (Lower serial) may (lower_stays Same SameScreen c window a b like whole (image_shown a serial) same.0 same.1 (own_rooted serial own))
  lower serial false own may = on_other (Lower serial) (other_window Same SameScreen c window like.counted serial (another serial (has_counted a serial may) own))

  -- ---- each order

  pub ordered_beside : (order : Order) → fits a order ≡ true → IsBeside (serial_in window) order → IsNoSize order → Stays part a (ordered a order)
  ordered_beside (Make serial host r name hide depth) may own fixed =
      on_other (Make serial host r name hide depth)
      (other_window Same SameScreen c window like.counted serial (another serial (new_counted a serial like.display.named (split _ _ (split _ _ may).0).1) own))
  ordered_beside (Place serial at) may own fixed = place serial at (is_own (serial_in window) serial) refl may
  ordered_beside (Replace serial host r name keep hidden) may own fixed =
      on_other (Replace serial host r name keep hidden)
      (other_window Same SameScreen c window like.counted serial (another serial (has_counted a serial (split _ _ (split _ _ (split _ _ may).0).0).0) own))
  ordered_beside (Raise serial) may own fixed = raise serial (is_own (serial_in window) serial) refl may
  ordered_beside (Lower serial) may own fixed = lower serial (is_own (serial_in window) serial) refl may
  ordered_beside (Drop serial) may own fixed = on_other (Drop serial) (other_window Same SameScreen c window like.counted serial (another serial (has_counted a serial may) own))
  ordered_beside (Host serial fill) may own fixed =
      on_other (Host serial fill) (other_window Same SameScreen c window like.counted serial (another serial (has_counted a serial (split _ _ (split _ _ may).0).0) own))
  ordered_beside (Leave client) may own fixed = absurd own
  ordered_beside (Size width height) may own fixed = absurd fixed
