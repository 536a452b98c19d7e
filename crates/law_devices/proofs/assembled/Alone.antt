-- What a connection does leaves what others have, and so a world of the session's own stays so.
use Rattle.std.proofs.Common.{◌≡◌, ◌≢◌, ◌<◌, ◌&&◌, ℕ, zero, suc, ◌+◌, Bool, false, List, [], ◌∷◌, Option, Some, None, Ok, Err, inl, inr, refl, sym, subst, ◌∙◌, eq-eqb}
use Rattle.std.specs.Prelude.{◌==◌, All, IfOk, get_or, length}
use Rattle.std.specs.List.{Contains}
use Rattle.std.proofs.lemmas.Bool.{eqb-true, false_from_ne_true}
use Rattle.std.proofs.lemmas.List.Elements.{All-contains}
use Rattle.model_text.specs.text.Outcome.{Outcome, refuse_if}
use Rattle.model_draw_parts.specs.dmsg.Message.{Message, LowN}
use Rattle.model_draw_parts.specs.dmsg.Reading.{first_message}
use Rattle.model_draw_parts.specs.declared.images.Tie.{Tie}
use Rattle.model_draw.specs.draw.World.{World, after_connect, after_leave}
use Rattle.model_draw.specs.draw.Act.{Written, act, is_marked, no_memory, one_message, spelled, written, written_within}
use Rattle.model_draw.specs.draw.Files.{read_data, write_ctl}
use Rattle.model_draw.specs.draw.Orders.{manager}
use Rattle.law_shown.specs.shown.Showing.{IsOut}
use Rattle.law_shown.proofs.shown.Following.{Follows, follows_itself, follows_then, none}
use Rattle.law_shown.proofs.shown.Tests.{after_step, not_both}
use Rattle.law_shown.proofs.lasting.Messages.{act_still, connect_still, leave_still, read_data_still, write_ctl_still}
use Rattle.model_alone.specs.alone.Lone.{written_alone}
use Rattle.law_others.specs.apart.Apart.{IsApart, IsHeld, IsOutside, IsTied, LooksBeside, Part, Stays}
use Rattle.law_others.proofs.apart.Devices.{stays_itself, stays_then}
use Rattle.law_others.specs.others.Others.{IsFurnished}
use Rattle.law_others.proofs.others.Messages.{act_stays, connect_stays, leave_stays, read_data_stays, write_ctl_stays}
use Rattle.law_others.proofs.others.Display.{act_furnished}
use Rattle.law_likeness.proofs.whole.Messages.{act_steady}
use Rattle.law_devices.proofs.grounded.Keeping.{act_grounded}
use Rattle.law_devices.specs.assembled.Assembled.{IsAlone, IsSettled}
use Rattle.law_devices.proofs.assembled.Settling.{if_ok}

-- ---- all but one connection

-- what other connections have of screen ids and ties
abbrev pub but : (k : ℕ) → Part
but k = record { image = λ i. ⊥; screen = λ s. ⊥; id = λ l x. ⊥; screen_id = λ l x. l ≢ k; name = λ name. ⊥; client = λ l. l ≢ k }

fails : (x y : Bool) → x ≡ false → (x && y) ≡ false
fails x y is = rw is refl

pub but_apart : (k : ℕ) (w : World) → IsFurnished w → IsApart (but k) w
but_apart k w furnished = record {
  book = record {
    ids = λ n d h none. absurd none;
    screen_ids = λ n d h none. absurd none;
    windows = λ n d h none. absurd none;
    ties = λ n d h none. absurd none;
    names = λ name t none found. absurd none;
    screens = λ i s none refers. absurd none;
    shows = λ l x e none found. absurd none;
    there = λ s none. absurd none;
    display = λ none. none;
    named = furnished.named;
    bare = furnished.bare;
  };
  stands = λ i p none stands. absurd none;
  out = λ i held. out i held;
}
  where
    out : (i : ℕ) → IsHeld (but k) i → IsOut w.numbers i
    out i (inl none) = absurd none
    out i (inr is) = subst (IsOut w.numbers) (sym is) furnished.out

all_look : (k : ℕ) (m : Message) → LooksBeside (but k) m
all_look k (LowN id name) = λ none. none
all_look k _ = tt

module _ (k : ℕ) (other : (k == manager) ≡ false) where
  pub but_outside : IsOutside (but k) k
  but_outside = record {
    counted = other;
    ids = λ x. record { ids = λ l y none. absurd none; display = fails (k == manager) (x == 0) other };
    none = λ x none. none;
    screen_ids = λ x. record {
      ids = λ l y apart. fails (k == l) (x == y) (false_from_ne_true (k == l) (λ at. apart (sym (eqb-true k l at))));
      root = fails (k == manager) (x == 0) other;
    };
    names = λ name none. absurd none;
    client = λ apart. apart refl;
  }

  manager_apart : manager ≢ k
  manager_apart at = not_both (k == manager) (eq-eqb k manager (sym at)) other

  -- ---- what stays

  -- The device is settled still. What others have stays, and the manager has no image more.
  pub record Leaves (old new : World) : Type 0 where
    pub stays : Stays (but k) old new
    pub follows : Follows none none old new
    pub settled : IsSettled new

  -- a tie of another connection was there
  tie_was : (old new : World) → Leaves old new → (n : ℕ) (d : Tie) → n < length new.book.ties → (get_or new.book.ties n d).client ≢ k → Contains old.book.ties (get_or new.book.ties n d)
  tie_was old new leaves n d lt apart = leaves.stays.book.known_ties n d lt (IsTied.by_client apart)

  pub alone_still : (window : Option (ℕ × List ℕ)) (old new : World) → Leaves old new → All (λ t. t.client ≢ k) new.book.ties → IsAlone window old → IsAlone window new
  alone_still window old new leaves untied alone = record {
    ids = λ id counted apart. leaves.follows.fresh id refl (alone.ids id counted apart);
    screens = λ id counted. leaves.stays.book.screen_ids manager id manager_apart ∙ alone.screens id counted;
    ties = λ n d lt. All-contains (λ t. (t.client ≡ manager) × ((name : List ℕ) × (window ≡ Some (t.id, name)))) old.book.ties (get_or new.book.ties n d) alone.ties (tie_was old new leaves n d lt (untied n d lt));
  }

  module _ (w : World) (settled : IsSettled w) where
    apart : IsApart (but k) w
    apart = but_apart k w settled.furnished

    pub connect_leaves : IsSettled (after_connect w k) → Leaves w (after_connect w k)
    connect_leaves next = record { stays = connect_stays (but k) k but_outside w apart settled.furnished.numbers; follows = connect_still w k settled.steady.orderly; settled = next }

    pub leave_leaves : IsSettled (after_leave w k) → Leaves w (after_leave w k)
    leave_leaves next = record { stays = leave_stays (but k) k but_outside w apart settled.furnished.numbers; follows = leave_still w k other settled.steady.orderly; settled = next }

    pub read_leaves : (most : ℕ) (got : List ℕ × World) → read_data k w most ≡ Ok got → IsSettled got.1 → Leaves w got.1
    read_leaves most got is next = record {
      stays = if_ok _ (read_data k w most) got (read_data_stays (but k) k but_outside w apart settled.furnished.numbers most) is;
      follows = if_ok _ (read_data k w most) got (read_data_still k w most settled.steady.orderly) is;
      settled = next;
    }

    pub choose_leaves : (bytes : List ℕ) (next : World) → write_ctl k w bytes ≡ Ok next → IsSettled next → Leaves w next
    choose_leaves bytes next is whole = record {
      stays = if_ok _ (write_ctl k w bytes) next (write_ctl_stays (but k) k but_outside w apart settled.furnished.numbers bytes) is;
      follows = if_ok _ (write_ctl k w bytes) next (write_ctl_still k w bytes settled.steady.orderly) is;
      settled = whole;
    }

    act_leaves : (m : Message) (rest : List ℕ) (next : World) → act k w m rest ≡ Ok next → Leaves w next
    act_leaves m rest next is = record {
      stays = if_ok _ (act k w m rest) next (act_stays (but k) k but_outside w apart settled.furnished.numbers settled.steady.orderly m rest (all_look k m)) is;
      follows = if_ok _ (act k w m rest) next (act_still k w m rest other settled.steady.orderly) is;
      settled = record {
        steady = act_steady k w next m rest other settled.steady is;
        furnished = if_ok _ (act k w m rest) next (act_furnished w settled.furnished k other settled.steady.orderly m rest) is;
        grounded = act_grounded k other w settled.steady.orderly settled.furnished settled.grounded m rest next is;
      };
    }

  -- ---- a write

  leaves_itself : (w : World) → IsSettled w → Leaves w w
  leaves_itself w settled = record { stays = stays_itself (but k) w; follows = follows_itself none none w settled.steady.orderly; settled = settled }

  leaves_then : (a b c : World) → Leaves a b → Leaves b c → Leaves a c
  leaves_then a b c one two = record {
    stays = stays_then (but k) a b c one.stays two.stays;
    follows = follows_then none none a b c one.follows two.follows;
    settled = two.settled;
  }

  one_leaves : (w : World) → IsSettled w → (mark : Option ℕ) (done : ℕ) (bytes : List ℕ) → IfOk (one_message k w mark done bytes) (λ next. Leaves w next.0)
  unfolding one_message
  one_leaves w settled mark done bytes =
      after_step _ (spelled (first_message bytes)) _ (λ m _.
      after_step _ (act k w m.0 m.1) _ (λ next acted. after_step _ (refuse_if (is_marked mark done) no_memory) _ (λ _ _. act_leaves w settled m.0 m.1 next acted)))

  within_leaves : (steps : ℕ) (w : World) → IsSettled w → (mark : Option ℕ) (done : ℕ) (bytes : List ℕ) → Leaves w (written_within steps k w mark done bytes).world
  within_leaves zero w settled mark done bytes = leaves_itself w settled
  within_leaves (suc steps) w settled mark done [] = leaves_itself w settled
  within_leaves (suc steps) w settled mark done (byte ∷ bytes) =
      by (λ v rest is. within_leaves steps v is mark (done + 1) rest) (one_message k w mark done (byte ∷ bytes)) (one_leaves w settled mark done (byte ∷ bytes))
    where
      by : ((v : World) (rest : List ℕ) → IsSettled v → Leaves v (written_within steps k v mark (done + 1) rest).world) → (o : Outcome (World × List ℕ)) → IfOk o (λ next. Leaves w next.0)
          → (let after : Written = elim o [ Ok next ↦ written_within steps k next.0 mark (done + 1) next.1 | Err refusal ↦ record { world = w; done = done; refusal = Some refusal } ] in Leaves w after.world)
      by more (Ok next) is = leaves_then w next.0 _ is (more next.0 next.1 is.settled)
      by more (Err refusal) is = leaves_itself w settled

  pub marked_leaves : (w : World) → IsSettled w → (bytes : List ℕ) (mark : Option ℕ) → Leaves w (written k w bytes mark).world
  unfolding written
  marked_leaves w settled bytes mark = within_leaves (length bytes) w settled mark 0 bytes

  pub written_leaves : (w : World) → IsSettled w → (bytes : List ℕ) (mark : Option ℕ) → Leaves w (written_alone k w bytes mark).0
  unfolding written
  written_leaves w settled bytes None = within_leaves (length bytes) w settled None 0 bytes
  written_leaves w settled bytes (Some n) = within_leaves n w settled None 0 bytes
