-- What connections do keeps a device settled, and reads and writes of their files keep what it has of the session's window.
use Rattle.std.proofs.Common.{◌≡◌, ℕ, false, List, Option, Ok, Err, refl, subst}
use Rattle.std.specs.Prelude.{◌==◌, IfOk, length, nat_lt, not}
use Rattle.std.specs.Int.{w32, from_le_bytes}
use Rattle.model_text.specs.text.Outcome.{Outcome, refuse_if}
use Rattle.model_draw.specs.draw.World.{Client, World, after_connect, after_leave, client_of}
use Rattle.model_draw.specs.draw.Act.{written}
use Rattle.model_draw.specs.draw.Files.{is_known, read_data, write_ctl}
use Rattle.r9_event.specs.declared.event.rio.Order.{Order}
use Rattle.model_draw.specs.draw.Orders.{manager, ordered}
use Rattle.law_shown.proofs.shown.Tests.{after_step, same_Ok}
use Rattle.law_shown.proofs.lasting.Messages.{connect_still, leave_still, read_data_still, write_ctl_still}
use Rattle.law_likeness.proofs.whole.Freeing.{leave_whole}
use Rattle.law_likeness.proofs.whole.Messages.{connect_whole, read_data_whole, write_ctl_whole, written_steady}
use Rattle.law_likeness.specs.agreement.Agreement.{SameOutcome}
use Rattle.law_others.proofs.others.Display.{IsCounted, connect_furnished, leave_furnished, ordered_furnished, read_data_furnished, write_ctl_furnished, written_furnished}
use Rattle.law_others.specs.managed.Ending.{LeavesManager}
use Rattle.law_others.proofs.managed.Carrying.{ordered_steady}
use Rattle.law_devices.proofs.grounded.Orders.{ordered_grounded}
use Rattle.law_devices.proofs.grounded.Keeping.{choose_grounded, connect_grounded, leave_grounded, read_grounded, written_grounded}
use Rattle.law_devices.specs.assembled.Assembled.{HoldsWindow, IsSettled}

-- what holds of all that is not refused
pub if_ok : {X : Type 0} (P : X → Type 0) (o : Outcome X) (x : X) → IfOk o P → o ≡ Ok x → P x
if_ok P (Ok y) x holds is = subst P (same_Ok y x is) holds
if_ok P (Err n) x holds is = absurd cc

-- outcomes that are the same in one way are so in another, where that follows of what is not refused
pub stronger : {A B : Type 0} (P Q : A → B → Type 0) (x : Outcome A) (y : Outcome B) → SameOutcome P x y → ((a : A) (b : B) → x ≡ Ok a → y ≡ Ok b → P a b → Q a b) → SameOutcome Q x y
stronger P Q (Ok a) (Ok b) same further = further a b refl refl same
stronger P Q (Err n) (Err m) same further = same
stronger P Q (Ok a) (Err m) same further = absurd same
stronger P Q (Err n) (Ok b) same further = absurd same

-- ---- settled devices

module _ (k : ℕ) (w : World) (other : (k == manager) ≡ false) (settled : IsSettled w) where
  pub connect_settled : IsSettled (after_connect w k)
  connect_settled = record {
    steady = record {
      whole = connect_whole k w settled.steady.whole settled.steady.orderly;
      orderly = (let follows = connect_still w k settled.steady.orderly in follows.orderly);
    };
    furnished = connect_furnished w settled.furnished k other;
    grounded = connect_grounded w k settled.grounded;
  }

  pub leave_settled : IsSettled (after_leave w k)
  leave_settled = record {
    steady = record {
      whole = leave_whole w k settled.steady.whole;
      orderly = (let follows = leave_still w k other settled.steady.orderly in follows.orderly);
    };
    furnished = leave_furnished w settled.furnished k other;
    grounded = leave_grounded k other w settled.steady.orderly settled.furnished settled.grounded;
  }

  pub written_settled : (bytes : List ℕ) (mark : Option ℕ) → IsSettled (written k w bytes mark).world
  written_settled bytes mark = record {
    steady = written_steady k w bytes mark other settled.steady;
    furnished = written_furnished w settled.furnished k other settled.steady.orderly bytes mark;
    grounded = written_grounded k other w settled.steady settled.furnished settled.grounded bytes mark;
  }

  pub read_settled : (most : ℕ) (got : List ℕ × World) → read_data k w most ≡ Ok got → IsSettled got.1
  read_settled most got is = record {
    steady = record {
      whole = if_ok _ (read_data k w most) got (read_data_whole k w settled.steady.whole settled.steady.orderly most) is;
      orderly = (let follows = if_ok _ (read_data k w most) got (read_data_still k w most settled.steady.orderly) is in follows.orderly);
    };
    furnished = if_ok _ (read_data k w most) got (read_data_furnished w settled.furnished k other most) is;
    grounded = if_ok _ (read_data k w most) got (read_grounded w k most settled.grounded) is;
  }

  pub choose_settled : (bytes : List ℕ) (next : World) → write_ctl k w bytes ≡ Ok next → IsSettled next
  choose_settled bytes next is = record {
    steady = record {
      whole = if_ok _ (write_ctl k w bytes) next (write_ctl_whole k w settled.steady.whole settled.steady.orderly bytes) is;
      orderly = (let follows = if_ok _ (write_ctl k w bytes) next (write_ctl_still k w bytes settled.steady.orderly) is in follows.orderly);
    };
    furnished = if_ok _ (write_ctl k w bytes) next (write_ctl_furnished w settled.furnished k other bytes) is;
    grounded = if_ok _ (write_ctl k w bytes) next (choose_grounded w k bytes settled.grounded) is;
  }

-- what the window manager orders, too
pub ordered_settled : (w : World) (order : Order) (settled : IsSettled w) → LeavesManager order → IsCounted w settled.furnished order → IsSettled (ordered w order)
ordered_settled w order settled leaves counted = record {
  steady = ordered_steady w order leaves settled.steady;
  furnished = ordered_furnished w settled.furnished settled.steady.orderly order counted;
  grounded = ordered_grounded w settled.steady settled.furnished order leaves settled.grounded;
}

-- ---- the session's window

module _ (window : Option (ℕ × List ℕ)) (w : World) (holds : HoldsWindow window w) where
  -- connections have nothing of it but their ids
  pub clients_hold : (clients : List (ℕ × Client)) → HoldsWindow window (record w { clients = clients })
  clients_hold clients = record {
    tied = holds.tied;
    rooted = λ serial name is.
        let old = holds.rooted serial name is in
        record { screen = old.screen; on = old.on; root = old.root; near = old.near };
  }

  pub read_holds : (k most : ℕ) → IfOk (read_data k w most) (λ got. HoldsWindow window got.1)
  unfolding read_data
  read_holds k most =
      after_step _ (refuse_if (length (client_of w k).pending == 0) 26) _ (λ _ _.
      after_step _ (refuse_if (nat_lt most (length (client_of w k).pending)) 25) _ (λ _ _. clients_hold _))

  pub choose_holds : (k : ℕ) (bytes : List ℕ) → IfOk (write_ctl k w bytes) (HoldsWindow window)
  unfolding write_ctl
  choose_holds k bytes =
      after_step _ (refuse_if (not (length bytes == 4)) 27) _ (λ _ _.
      after_step _ (refuse_if (not (is_known w k (from_le_bytes w32 bytes))) 4) _ (λ _ _. clients_hold _))
