-- A message of a session that is alone leaves its window on the root rio's screen, and its name tied.
use Rattle.std.proofs.Common.{◌≡◌, ℕ, false, List, Option, Some, Ok, Err, sym, subst}
use Rattle.std.specs.Prelude.{◌==◌, All, IfOk}
use Rattle.model_text.specs.text.Outcome.{Outcome}
use Rattle.model_draw_parts.specs.dmsg.Message.{Message, LowN}
use Rattle.model_draw_parts.specs.declared.images.Tie.{Tie}
use Rattle.model_draw_parts.specs.images.Book.{screen_id}
use Rattle.model_draw.specs.draw.World.{World}
use Rattle.model_draw.specs.draw.Act.{act}
use Rattle.model_draw.specs.draw.Orders.{manager}
use Rattle.law_shown.specs.shown.Showing.{IsOrderly}
use Rattle.law_shown.proofs.shown.Tests.{same_Ok}
use Rattle.law_likeness.specs.making.Likes.{IsOwn}
use Rattle.law_others.specs.apart.Apart.{LooksBeside, Stays}
use Rattle.law_others.specs.others.Others.{IsFurnished, nothing}
use Rattle.law_others.proofs.others.Messages.{act_stays}
use Rattle.law_devices.specs.beside.Rooted.{IsRootedWindow, IsTiedWindow}
use Rattle.law_devices.specs.holding.Near.{IsNearMessage}
use Rattle.law_devices.proofs.holding.Freeing.{Minds}
use Rattle.law_devices.proofs.holding.Messages.{act_minds}
use Rattle.law_devices.proofs.holding.Rooting.{MindsAll, all_outside, minds_rooted, minds_tied, nothing_apart, window_known}

all_looks : (m : Message) → LooksBeside nothing m
all_looks (LowN id name) = λ none. none
all_looks _ = tt

module _ (window : Option (ℕ × List ℕ)) (w : World) (furnished : IsFurnished w) (tied : IsTiedWindow window w.book) (rooted : IsRootedWindow window w) (k : ℕ) (other : (k == manager) ≡ false) (orderly : IsOrderly w)
    (untied : All (λ t. (t.client == k) ≡ false) w.book.ties) (m : Message) (rest : List ℕ) (own : IsOwn window m) (near : IsNearMessage m) (next : World) (done : act k w m rest ≡ Ok next) where
  if_done : (P : World → Type 0) (o : Outcome World) → IfOk o P → o ≡ Ok next → P next
  if_done P (Ok x) holds is = subst P (same_Ok x next is) holds
  if_done P (Err n) holds is = absurd cc

  root : screen_id next.book manager 0 ≡ screen_id w.book manager 0
  root =
      (let stays : Stays nothing w next = if_done (Stays nothing w) (act k w m rest) (act_stays nothing k (all_outside k other) w (nothing_apart w furnished) furnished.numbers orderly m rest (all_looks m)) done in
      stays.book.root)

  minds : MindsAll window w furnished tied rooted next
  minds serial e found = if_done (Minds serial e.image w) (act k w m rest) (act_minds k w serial e found other orderly untied window m rest own near) done

  pub act_tied : IsTiedWindow window next.book
  act_tied = minds_tied window w furnished tied rooted next root minds

  pub act_rooted : IsRootedWindow window next
  act_rooted = minds_rooted window w furnished tied rooted next root minds

  -- the connection has made no ties still, where the session has a window
  pub act_untied : (serial : ℕ) (name : List ℕ) → window ≡ Some (serial, name) → All (λ t. (t.client == k) ≡ false) next.book.ties
  act_untied serial name is =
      let known = window_known window w furnished tied rooted serial name is in
      subst (λ (ts : List Tie). All (λ t. (t.client == k) ≡ false) ts) (sym (minds serial known.0 known.1).ties) untied
