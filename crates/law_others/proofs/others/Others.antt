-- What other sessions do leaves a device that is like another to a session so.
use Rattle.std.proofs.Common.{ℕ, List, Option, Ok, Err}
use Rattle.std.specs.Prelude.{All, IfOk}
use Rattle.r9_event.specs.declared.event.rio.Order.{Order}
use Rattle.model_text.specs.text.Outcome.{Outcome}
use Rattle.model_draw_parts.specs.dmsg.Message.{Message}
use Rattle.model_draw.specs.draw.World.{World, after_connect, after_leave}
use Rattle.model_draw.specs.draw.Act.{act, written}
use Rattle.model_draw.specs.draw.Files.{read_data, write_ctl}
use Rattle.model_draw.specs.draw.Orders.{ordered}
use Rattle.model_alone.specs.alone.Uses.{looked_at}
use Rattle.law_shown.specs.shown.Showing.{IsOrderly}
use Rattle.law_likeness.specs.likeness.Likeness.{AreLike}
use Rattle.law_likeness.specs.making.Standing.{IsWhole}
use Rattle.law_others.specs.apart.Apart.{IsApart, IsOutside, LooksBeside, Part, Stays}
use Rattle.law_others.specs.others.Others.{AreTied, HasKeptName, IsBare, IsOfOthers, IsOtherOrder, part_of}
use Rattle.law_others.proofs.others.Likeness.{bare_still, like_apart, like_still, others_outside, part_managed}
use Rattle.law_others.proofs.others.Messages.{act_stays, connect_stays, leave_stays, read_data_stays, write_ctl_stays}
use Rattle.law_others.proofs.others.Orders.{ordered_stays, tied_still}
use Rattle.law_others.proofs.others.Writes.{written_stays}

module _ (Same SameScreen : ℕ → ℕ → Type 0) (c : ℕ) (window : Option (ℕ × List ℕ)) (a b : World) (like : AreLike Same SameScreen c window a b) (whole : IsWhole a) (orderly : IsOrderly a) (bare : IsBare a)
    (names : HasKeptName window) (k : ℕ) (others : IsOfOthers c k) where
  abbrev part : Part
  part = part_of Same SameScreen c window

  -- the devices are like still, the display stands on no screen, and the window's name is tied if it was
  pub record StillLike (next : World) : Type 0 where
    pub devices : AreLike Same SameScreen c window next b
    pub display : IsBare next
    pub names_tied : AreTied part a.book → AreTied part next.book

  apart : IsApart part a
  apart = like_apart Same SameScreen c window a b like whole orderly bare

  outside : IsOutside part k
  outside = others_outside Same SameScreen c window k others names

  still : (next : World) → Stays part a next → StillLike next
  still next stays = record {
    devices = like_still Same SameScreen c window a b next like stays;
    display = bare_still Same SameScreen c window a b next like stays bare;
    names_tied = λ tied. tied_still part (part_managed Same SameScreen c window like.counted) a.book next.book tied stays.book;
  }

  still_if : {X : Type 0} (device : X → World) (o : Outcome X) → IfOk o (λ x. Stays part a (device x)) → IfOk o (λ x. StillLike (device x))
  still_if device (Ok x) stays = still (device x) stays
  still_if device (Err n) stays = tt

  -- a message that looks up no name of the session's window
  pub act_others : (m : Message) (rest : List ℕ) → LooksBeside part m → IfOk (act k a m rest) StillLike
  act_others m rest looks = still_if (λ x. x) (act k a m rest) (act_stays part k outside a apart like.books.numbers_left orderly m rest looks)

  pub written_others : (bytes : List ℕ) (mark : Option ℕ) → All (LooksBeside part) (looked_at k a bytes mark) → StillLike (written k a bytes mark).world
  written_others bytes mark looks = still _ (written_stays part k outside a bytes mark apart like.books.numbers_left orderly looks)

  pub read_data_others : (most : ℕ) → IfOk (read_data k a most) (λ got. StillLike got.1)
  read_data_others most = still_if (λ got. got.1) (read_data k a most) (read_data_stays part k outside a apart like.books.numbers_left most)

  pub write_ctl_others : (bytes : List ℕ) → IfOk (write_ctl k a bytes) StillLike
  write_ctl_others bytes = still_if (λ x. x) (write_ctl k a bytes) (write_ctl_stays part k outside a apart like.books.numbers_left bytes)

  pub connect_others : StillLike (after_connect a k)
  connect_others = still _ (connect_stays part k outside a apart like.books.numbers_left)

  pub leave_others : StillLike (after_leave a k)
  leave_others = still _ (leave_stays part k outside a apart like.books.numbers_left)

  -- an order of the window manager on another window
  pub ordered_others : (order : Order) → AreTied part a.book → IsOtherOrder part order → StillLike (ordered a order)
  ordered_others order tied other = still _ (ordered_stays part (part_managed Same SameScreen c window like.counted) a order apart like.books.numbers_left orderly tied other)
