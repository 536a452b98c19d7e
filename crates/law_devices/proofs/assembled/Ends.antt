-- A connection of the session ends, on devices that are the same to it.
use Rattle.std.proofs.Common.{◌≡◌, ◌<◌, ◌^◌, ℕ, false, List, Option, arith}
use Rattle.std.specs.Prelude.{◌==◌, All}
use Rattle.std.proofs.lemmas.List.Elements.{All-weaker}
use Rattle.model_draw.specs.draw.World.{World, after_leave}
use Rattle.model_draw.specs.draw.Orders.{manager}
use Rattle.model_world.specs.Whole.{client}
use Rattle.law_likeness.specs.likeness.Likeness.{IsOfSession}
use Rattle.law_likeness.proofs.likeness.Ids.{no_manager}
use Rattle.law_likeness.specs.making.Likes.{IsLike}
use Rattle.law_likeness.proofs.freeing.Freeing.{not_tied}
use Rattle.law_likeness.proofs.freeing.Leaving.{leave_like}
use Rattle.law_devices.proofs.holding.Rooting.{leave_rooted, leave_tied}
use Rattle.law_devices.specs.assembled.Assembled.{AreAlike, IsSettled}
use Rattle.law_devices.proofs.assembled.Alone.{alone_still, leave_leaves}
use Rattle.law_devices.proofs.assembled.Settling.{leave_settled}
use Rattle.law_devices.proofs.assembled.Sizes.{size_kept}

module _ (c : ℕ) (size : Option (ℕ × ℕ)) (window : Option (ℕ × List ℕ)) (a b : World) (alike : AreAlike c size window a b) (n : ℕ) (few : n < 2 ^ 26) where
  own : (client c n == manager) ≡ false
  own = no_manager c n alike.is.like.counted

  untied : All (λ t. (t.client == client c n) ≡ false) a.book.ties
  untied = All-weaker (λ t. IsOfSession c t.client → ⊥) (λ t. (t.client == client c n) ≡ false) (λ t none. not_tied c n few t none) a.book.ties alike.is.like.books.untied_left

  lone : (client 1 n == manager) ≡ false
  lone = no_manager 1 n (omega arith)

  ended : IsLike c window (after_leave a (client c n)) (after_leave b (client 1 n))
  ended =
      leave_like c window a b alike.is alike.left.steady.whole.standing alike.right.steady.whole.standing alike.left.steady.orderly.ties alike.right.steady.orderly.ties
      alike.left.steady.whole.listed alike.right.steady.whole.listed n few

  left : IsSettled (after_leave a (client c n))
  left = leave_settled (client c n) a own alike.left

  right : IsSettled (after_leave b (client 1 n))
  right = leave_settled (client 1 n) b lone alike.right

  pub leave_alike : AreAlike c size window (after_leave a (client c n)) (after_leave b (client 1 n))
  leave_alike = record {
    is = ended;
    left = left;
    right = right;
    name = alike.name;
    holds = record {
      tied = leave_tied window a alike.left.furnished alike.holds.tied alike.holds.rooted (client c n) own alike.left.steady.orderly untied;
      rooted = leave_rooted window a alike.left.furnished alike.holds.tied alike.holds.rooted (client c n) own alike.left.steady.orderly untied;
    };
    alone = alone_still (client 1 n) lone window b (after_leave b (client 1 n)) (leave_leaves (client 1 n) lone b alike.right right)
        (λ m d lt at. ended.like.books.untied_right m d lt (record { number = n; few = few; is = at })) alike.alone;
    size_left = size_kept size a (after_leave a (client c n)) (leave_leaves (client c n) own a alike.left left).stays.shape alike.size_left;
    size_right = size_kept size b (after_leave b (client 1 n)) (leave_leaves (client 1 n) lone b alike.right right).stays.shape alike.size_right;
  }
