-- The root rio's screen stays on the display, whatever connections do, and is there from the start.
use Rattle.std.proofs.Common.{◌≡◌, ℕ, zero, suc, ◌+◌, false, List, [], ◌∷◌, Option, Some, Ok, Err, refl, subst}
use Rattle.std.specs.Prelude.{◌==◌, IfOk, length, nat_lt, not}
use Rattle.std.specs.Int.{w32, from_le_bytes}
use Rattle.model_text.specs.text.Outcome.{Outcome, refuse_if}
use Rattle.model_draw_parts.specs.dmsg.Message.{Message, LowN}
use Rattle.model_draw_parts.specs.dmsg.Reading.{first_message}
use Rattle.model_forest.specs.Steps.{after_image, after_set}
use Rattle.model_draw_parts.specs.images.Book.{add_id, new_screen}
use Rattle.model_draw.specs.draw.World.{Client, Opening, World, after_connect, after_leave, client_of, started}
use Rattle.model_draw.specs.draw.Act.{Written, act, is_marked, no_memory, one_message, spelled, written, written_within}
use Rattle.model_draw.specs.draw.Files.{is_known, read_data, write_ctl}
use Rattle.model_draw.specs.draw.Orders.{manager, with_root_rio}
use Rattle.law_shown.specs.shown.Showing.{IsOrderly}
use Rattle.law_shown.proofs.shown.Tests.{after_step, same_Ok}
use Rattle.law_others.specs.apart.Apart.{LooksBeside, Stays}
use Rattle.law_others.specs.others.Others.{IsFurnished, nothing}
use Rattle.law_others.proofs.others.Display.{act_furnished}
use Rattle.law_others.proofs.others.Messages.{act_stays, leave_stays}
use Rattle.law_likeness.specs.whole.Steady.{IsSteady}
use Rattle.law_likeness.proofs.whole.Messages.{act_steady}
use Rattle.law_devices.proofs.holding.Rooting.{all_outside, nothing_apart}
use Rattle.law_devices.specs.grounded.Grounded.{IsGrounded}
use Rattle.law_devices.proofs.grounded.Messages.{Rests, act_rests, grounded_still, leave_rests}

-- ---- the start

pub first_grounded : (opening : Opening) → IsGrounded (with_root_rio (started opening))
unfolding started with_root_rio add_id new_screen after_image after_set
first_grounded opening = record { rio = refl; ground = refl; depth = refl }

-- ---- files of connections

clients_grounded : (w : World) (clients : List (ℕ × Client)) → IsGrounded w → IsGrounded (record w { clients = clients })
clients_grounded w clients ground = record { rio = ground.rio; ground = ground.ground; depth = ground.depth }

pub connect_grounded : (w : World) (k : ℕ) → IsGrounded w → IsGrounded (after_connect w k)
connect_grounded w k ground = clients_grounded w _ ground

pub read_grounded : (w : World) (k most : ℕ) → IsGrounded w → IfOk (read_data k w most) (λ got. IsGrounded got.1)
unfolding read_data
read_grounded w k most ground =
    after_step _ (refuse_if (length (client_of w k).pending == 0) 26) _ (λ _ _.
    after_step _ (refuse_if (nat_lt most (length (client_of w k).pending)) 25) _ (λ _ _. clients_grounded w _ ground))

pub choose_grounded : (w : World) (k : ℕ) (bytes : List ℕ) → IsGrounded w → IfOk (write_ctl k w bytes) IsGrounded
unfolding write_ctl
choose_grounded w k bytes ground =
    after_step _ (refuse_if (not (length bytes == 4)) 27) _ (λ _ _.
    after_step _ (refuse_if (not (is_known w k (from_le_bytes w32 bytes))) 4) _ (λ _ _. clients_grounded w _ ground))

all_look : (m : Message) → LooksBeside nothing m
all_look (LowN id name) = λ none. none
all_look _ = tt

module _ (k : ℕ) (other : (k == manager) ≡ false) where
  pub leave_grounded : (w : World) → IsOrderly w → IsFurnished w → IsGrounded w → IsGrounded (after_leave w k)
  leave_grounded w orderly furnished ground =
      let stays = leave_stays nothing k (all_outside k other) w (nothing_apart w furnished) furnished.numbers in
      grounded_still w (after_leave w k) stays.book.root (leave_rests k w other orderly furnished.named stays.book.root) ground

  -- ---- messages

  if_done : {X : Type 0} (P : X → Type 0) (o : Outcome X) (x : X) → IfOk o P → o ≡ Ok x → P x
  if_done P (Ok y) x holds is = subst P (same_Ok y x is) holds
  if_done P (Err n) x holds is = absurd cc

  pub act_grounded : (w : World) → IsOrderly w → IsFurnished w → IsGrounded w → (m : Message) (rest : List ℕ) (next : World) → act k w m rest ≡ Ok next → IsGrounded next
  act_grounded w orderly furnished ground m rest next done =
      let stays : Stays nothing w next = if_done (Stays nothing w) (act k w m rest) next (act_stays nothing k (all_outside k other) w (nothing_apart w furnished) furnished.numbers orderly m rest (all_look m)) done in
      grounded_still w next stays.book.root (if_done (Rests w) (act k w m rest) next (act_rests k w other orderly furnished.named m rest) done) ground

  -- what a device keeps from message to message
  record IsKept (w : World) : Type 0 where
    steady : IsSteady w
    furnished : IsFurnished w
    ground : IsGrounded w

  act_kept : (w next : World) (m : Message) (rest : List ℕ) → IsKept w → act k w m rest ≡ Ok next → IsKept next
  act_kept w next m rest kept done = record {
    steady = act_steady k w next m rest other kept.steady done;
    furnished = if_done IsFurnished (act k w m rest) next (act_furnished w kept.furnished k other kept.steady.orderly m rest) done;
    ground = act_grounded w kept.steady.orderly kept.furnished kept.ground m rest next done;
  }

  one_kept : (w : World) → IsKept w → (mark : Option ℕ) (done : ℕ) (bytes : List ℕ) → IfOk (one_message k w mark done bytes) (λ next. IsKept next.0)
  unfolding one_message
  one_kept w kept mark done bytes =
      after_step _ (spelled (first_message bytes)) _ (λ m _.
      after_step _ (act k w m.0 m.1) _ (λ next acted. after_step _ (refuse_if (is_marked mark done) no_memory) _ (λ _ _. act_kept w next m.0 m.1 kept acted)))

  within_kept : (steps : ℕ) (w : World) → IsKept w → (mark : Option ℕ) (done : ℕ) (bytes : List ℕ) → IsKept (written_within steps k w mark done bytes).world
  within_kept zero w kept mark done bytes = kept
  within_kept (suc steps) w kept mark done [] = kept
  within_kept (suc steps) w kept mark done (byte ∷ bytes) =
      by (λ v rest is. within_kept steps v is mark (done + 1) rest) (one_message k w mark done (byte ∷ bytes)) (one_kept w kept mark done (byte ∷ bytes))
    where
      by : ((v : World) (rest : List ℕ) → IsKept v → IsKept (written_within steps k v mark (done + 1) rest).world) → (o : Outcome (World × List ℕ)) → IfOk o (λ next. IsKept next.0)
          → (let after : Written = elim o [ Ok next ↦ written_within steps k next.0 mark (done + 1) next.1 | Err refusal ↦ record { world = w; done = done; refusal = Some refusal } ] in IsKept after.world)
      by more (Ok next) is = more next.0 next.1 is
      by more (Err refusal) is = kept

  pub written_grounded : (w : World) → IsSteady w → IsFurnished w → IsGrounded w → (bytes : List ℕ) (mark : Option ℕ) → IsGrounded (written k w bytes mark).world
  unfolding written
  written_grounded w steady furnished ground bytes mark = (within_kept (length bytes) w (record { steady = steady; furnished = furnished; ground = ground }) mark 0 bytes).ground
