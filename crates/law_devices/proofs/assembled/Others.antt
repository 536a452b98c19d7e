-- What other sessions do, and what the window manager does that leaves the session's window its image, on devices that are the same to
-- the session.
use Rattle.std.proofs.Common.{◌≡◌, ◌<◌, ◌≤◌, ◌^◌, ℕ, false, true, List, Option, Ok, arith}
use Rattle.std.specs.Prelude.{◌==◌, All, slice_index_or}
use Rattle.r9_event.specs.declared.event.rio.Order.{Order}
use Rattle.r9_event.specs.declared.event.rio.Order.TheVariants.{Make, Place, Replace, Raise, Lower, Drop, Host, Leave, Size}
use Rattle.model_draw_parts.specs.dmsg.Message.{Message, LowN}
use Rattle.model_draw.specs.draw.World.{World, after_connect, after_leave}
use Rattle.model_draw.specs.draw.Act.{written}
use Rattle.model_draw.specs.draw.Files.{read_data, write_ctl}
use Rattle.model_draw.specs.draw.Orders.{fits, manager, ordered}
use Rattle.model_world.specs.Whole.{client}
use Rattle.law_shown.proofs.shown.Tests.{split}
use Rattle.model_alone.specs.alone.Uses.{looked_at}
use Rattle.law_likeness.proofs.likeness.Ids.{no_manager}
use Rattle.law_likeness.specs.making.Likes.{Matched}
use Rattle.law_others.specs.told.Telling.{IsBeside}
use Rattle.law_strangers.specs.followed.Devices.{LeavesName, serial_in}
use Rattle.law_others.specs.apart.Apart.{IsApart, IsOutside, LooksBeside, Part, Stays}
use Rattle.law_others.specs.sized.Sizes.{IsForSize}
use Rattle.law_others.specs.others.Others.{IsNoSize, part_of}
use Rattle.law_others.proofs.others.Display.{IsCounted, has_counted, new_counted}
use Rattle.law_others.proofs.others.Likeness.{like_apart, like_still, others_outside}
use Rattle.law_others.proofs.others.Messages.{connect_stays, leave_stays, read_data_stays, write_ctl_stays}
use Rattle.law_others.proofs.others.Writes.{written_stays}
use Rattle.law_others.specs.managed.Ending.{LeavesManager}
use Rattle.law_devices.proofs.beside.Ordering.{ordered_beside}
use Rattle.law_devices.proofs.beside.Rooting.{name_still, rooted_still}
use Rattle.law_devices.specs.assembled.Assembled.{AreAlike, IsSettled}
use Rattle.law_devices.proofs.assembled.Settling.{choose_settled, connect_settled, if_ok, leave_settled, ordered_settled, read_settled, written_settled}
use Rattle.law_devices.proofs.assembled.Sizes.{resized_alike, size_kept}

module _ (c : ℕ) (size : Option (ℕ × ℕ)) (window : Option (ℕ × List ℕ)) (a b : World) (alike : AreAlike c size window a b) where
  abbrev S : ℕ → ℕ → Type 0
  S i j = Matched alike.is.images i j

  abbrev T : ℕ → ℕ → Type 0
  T s t = Matched alike.is.screens s t

  abbrev part : Part
  part = part_of S T c window

  -- the devices are the same to the session still, where its part stays
  still : (next : World) → Stays part a next → IsSettled next → AreAlike c size window next b
  still next stays settled = record {
    is = record { images = alike.is.images; screens = alike.is.screens; like = like_still S T c window a b next alike.is.like stays };
    left = settled;
    right = alike.right;
    name = alike.name;
    alone = alike.alone;
    holds = record {
      tied = name_still S T c window a b alike.is.like alike.left.furnished.bare alike.holds.rooted next stays alike.holds.tied;
      rooted = rooted_still S T c window a b alike.is.like alike.left.furnished.bare alike.holds.rooted next stays;
    };
    size_left = size_kept size a next stays.shape alike.size_left;
    size_right = alike.size_right;
  }

  -- ---- the window manager

  on_manager : (order : Order) → IsBeside (serial_in window) order → LeavesManager order
  on_manager (Make serial host r name hide depth) beside = tt
  on_manager (Place serial at) beside = tt
  on_manager (Replace serial host r name keep hidden) beside = tt
  on_manager (Raise serial) beside = tt
  on_manager (Lower serial) beside = tt
  on_manager (Drop serial) beside = tt
  on_manager (Host serial fill) beside = tt
  on_manager (Leave k) beside = absurd beside
  on_manager (Size columns rows) beside = tt

  counted : (order : Order) → fits a order ≡ true → IsBeside (serial_in window) order → IsCounted a alike.left.furnished order
  counted (Make serial host r name hide depth) may beside = new_counted a serial alike.left.furnished.named (split _ _ (split _ _ may).0).1
  counted (Place serial at) may beside = has_counted a serial (split _ _ may).0
  counted (Replace serial host r name keep hidden) may beside = has_counted a serial (split _ _ (split _ _ (split _ _ may).0).0).0
  counted (Raise serial) may beside = has_counted a serial may
  counted (Lower serial) may beside = has_counted a serial may
  counted (Drop serial) may beside = has_counted a serial may
  counted (Host serial fill) may beside = has_counted a serial (split _ _ (split _ _ may).0).0
  counted (Leave k) may beside = absurd beside
  counted (Size columns rows) may beside = tt

  stay_alike : (order : Order) → IsNoSize order → fits a order ≡ true → IsBeside (serial_in window) order → AreAlike c size window (ordered a order) b
  stay_alike order sizeless may beside =
      still (ordered a order)
      (ordered_beside S T c window a b alike.is.like alike.left.steady.whole alike.left.steady.orderly alike.left.furnished.bare alike.holds.tied alike.holds.rooted order may beside sizeless)
      (ordered_settled a order alike.left (on_manager order beside) (counted order may beside))

  pub beside_alike : (order : Order) → fits a order ≡ true → IsBeside (serial_in window) order → IsForSize size order → AreAlike c size window (ordered a order) b
  beside_alike (Make serial host r name hide depth) may beside known = stay_alike (Make serial host r name hide depth) tt may beside
  beside_alike (Place serial at) may beside known = stay_alike (Place serial at) tt may beside
  beside_alike (Replace serial host r name keep hidden) may beside known = stay_alike (Replace serial host r name keep hidden) tt may beside
  beside_alike (Raise serial) may beside known = stay_alike (Raise serial) tt may beside
  beside_alike (Lower serial) may beside known = stay_alike (Lower serial) tt may beside
  beside_alike (Drop serial) may beside known = stay_alike (Drop serial) tt may beside
  beside_alike (Host serial fill) may beside known = stay_alike (Host serial fill) tt may beside
  beside_alike (Leave k) may beside known = absurd beside
  beside_alike (Size columns rows) may beside known = resized_alike c size window a b alike columns rows may known

  -- ---- other sessions

  looks_beside : (m : Message) → LeavesName window m → LooksBeside part m
  looks_beside (LowN id name) leaves = λ is. leaves is.0 is.1
  looks_beside _ leaves = tt

  module _ (d n : ℕ) (least : 1 ≤ d) (other : d ≡ c → ⊥) (few : n < 2 ^ 26) where
    theirs : (client d n == manager) ≡ false
    theirs = no_manager d n least

    session_is : (m : ℕ) → m < 2 ^ 26 → client d n ≡ client c m → d ≡ c
    session_is m small is = omega (arith, few, small, is)

    outside : IsOutside part (client d n)
    outside =
        others_outside S T c window (client d n)
        (record { counted = theirs; other = λ own. other (session_is own.number own.few own.is) }) alike.name

    apart : IsApart part a
    apart = like_apart S T c window a b alike.is.like alike.left.steady.whole alike.left.steady.orderly alike.left.furnished.bare

    pub others_connect : AreAlike c size window (after_connect a (client d n)) b
    others_connect =
        still _ (connect_stays part (client d n) outside a apart alike.left.furnished.numbers) (connect_settled (client d n) a theirs alike.left)

    pub others_leave : AreAlike c size window (after_leave a (client d n)) b
    others_leave = still _ (leave_stays part (client d n) outside a apart alike.left.furnished.numbers) (leave_settled (client d n) a theirs alike.left)

    pub others_write : (bytes : List ℕ) (mark : Option ℕ) → All (LeavesName window) (looked_at (client d n) a bytes mark) → AreAlike c size window (written (client d n) a bytes mark).world b
    others_write bytes mark leaves =
        still _
        (written_stays part (client d n) outside a bytes mark apart alike.left.furnished.numbers alike.left.steady.orderly
        (λ i m h. looks_beside (slice_index_or (looked_at (client d n) a bytes mark) i m) (leaves i m h)))
        (written_settled (client d n) a theirs alike.left bytes mark)

    pub others_read : (most : ℕ) (got : List ℕ × World) → read_data (client d n) a most ≡ Ok got → AreAlike c size window got.1 b
    others_read most got is =
        still got.1
        (if_ok _ (read_data (client d n) a most) got (read_data_stays part (client d n) outside a apart alike.left.furnished.numbers most) is)
        (read_settled (client d n) a theirs alike.left most got is)

    pub others_choose : (bytes : List ℕ) (next : World) → write_ctl (client d n) a bytes ≡ Ok next → AreAlike c size window next b
    others_choose bytes next is =
        still next
        (if_ok _ (write_ctl (client d n) a bytes) next (write_ctl_stays part (client d n) outside a apart alike.left.furnished.numbers bytes) is)
        (choose_settled (client d n) a theirs alike.left bytes next is)
