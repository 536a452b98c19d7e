-- The draw device has its display still, whatever connections and the orders of acts do.
use Rattle.std.proofs.Common.{◌≡◌, ℕ, ◌==◌, true, List, [], ◌∷◌, Ok, not, subst}
use Rattle.std.proofs.lemmas.List.Elements.{All-head, All-tail}
use Rattle.std.specs.Int.{from_le_bytes, w32}
use Rattle.std.specs.Prelude.{IfOk, length, nat_lt}
use Rattle.r9_event.specs.event.Orders.{EndNoConnection, EndsNoConnection}
use Rattle.r9_event.specs.declared.event.rio.Order.{Order}
use Rattle.r9_event.specs.declared.event.rio.Order.TheVariants.{Make, Place, Replace, Raise, Lower, Drop, Host, Leave, Size}
use Rattle.model_text.specs.text.Outcome.{Outcome, refuse_if}
use Rattle.model_rio.specs.rio.Act.{Act}
use Rattle.model_rio.specs.rio.Act as act
use Rattle.model_draw.specs.draw.World.{Client, World, client_of}
use Rattle.model_draw.specs.draw.Files.{is_known, read_data, write_ctl}
use Rattle.model_draw.specs.draw.Orders.{carried_out, fits, ordered}
use Rattle.model_world.proofs.Others.{after_step}
use Rattle.law_shown.specs.shown.Showing.{IsOrderly}
use Rattle.law_shown.proofs.shown.Tests.{split}
use Rattle.law_others.specs.others.Others.{IsFurnished}
use Rattle.law_others.proofs.others.Display.{IsCounted, furnished_display, has_counted, leave_furnished, new_counted, ordered_furnished, written_furnished}
use Rattle.law_shown.specs.fitting.Fitting.{AllFit, FindsDisplay}
use Rattle.law_shown.proofs.fitting.Stepping.{AllOrderly}
use Rattle.law_others.specs.orders.Leading.{Uses, begins, chooses, ends, reads, rests, writes}

-- ---- what connections do

clients_furnished : (w : World) (clients : List (ℕ × Client)) → IsFurnished w → IsFurnished (record w { clients = clients })
clients_furnished w clients f = record { named = f.named; out = f.out; bare = f.bare; corner = f.corner; whole = f.whole; numbers = f.numbers }

done : {A : Type 0} (P : A → Type 0) (o : Outcome A) (x : A) → o ≡ Ok x → IfOk o P → P x
done P o x is all = subst (λ (made : Outcome _). IfOk made P) is all

read_furnished : (k : ℕ) (w : World) (most : ℕ) → IsFurnished w → IfOk (read_data k w most) (λ got. IsFurnished got.1)
unfolding read_data
read_furnished k w most f =
    after_step _ (refuse_if (length (client_of w k).pending == 0) 26) _ (λ _ _.
    after_step _ (refuse_if (nat_lt most (length (client_of w k).pending)) 25) _ (λ _ _. clients_furnished w _ f))

choice_furnished : (k : ℕ) (w : World) (bytes : List ℕ) → IsFurnished w → IfOk (write_ctl k w bytes) IsFurnished
unfolding write_ctl
choice_furnished k w bytes f =
    after_step _ (refuse_if (not (length bytes == 4)) 27) _ (λ _ _.
    after_step _ (refuse_if (not (is_known w k (from_le_bytes w32 bytes))) 4) _ (λ _ _. clients_furnished w _ f))

pub used_furnished : (old new : World) → Uses old new → IsOrderly old → IsFurnished old → IsFurnished new
used_furnished old new rests o f = f
used_furnished old new (writes k bytes mark other) o f = written_furnished old f k other o bytes mark
used_furnished old new (reads k most got e) o f = done (λ g. IsFurnished g.1) (read_data k old most) got e (read_furnished k old most f)
used_furnished old new (chooses k bytes next e) o f = done IsFurnished (write_ctl k old bytes) next e (choice_furnished k old bytes f)
used_furnished old new (begins k) o f = clients_furnished old _ f
used_furnished old new (ends k other) o f = leave_furnished old f k other

-- ---- what acts do

-- each is on a window, which has a serial
order_counted : (w : World) (f : IsFurnished w) (o : Order) → fits w o ≡ true → EndsNoConnection o → IsCounted w f o
order_counted w f (Make window host r name hide depth) fit kept = new_counted w window f.named (split _ _ (split _ _ fit).0).1
order_counted w f (Place window at) fit kept = has_counted w window (split _ _ fit).0
order_counted w f (Replace window host r name keep hidden) fit kept = has_counted w window (split _ _ (split _ _ (split _ _ fit).0).0).0
order_counted w f (Raise window) fit kept = has_counted w window fit
order_counted w f (Lower window) fit kept = has_counted w window fit
order_counted w f (Drop window) fit kept = has_counted w window fit
order_counted w f (Host window fill) fit kept = has_counted w window (split _ _ (split _ _ fit).0).0
order_counted w f (Leave client) fit kept = absurd kept
order_counted w f (Size width height) fit kept = tt

pub orders_furnished : (orders : List Order) (w : World) → AllFit w orders → AllOrderly w orders → EndNoConnection orders → IsFurnished w → IsFurnished (carried_out w orders)
orders_furnished [] w all orderly kept f = f
orders_furnished (o ∷ orders) w all orderly kept f =
    orders_furnished orders (ordered w o) all.1 orderly.1 (All-tail EndsNoConnection o orders kept)
    (ordered_furnished w f orderly.0 o (order_counted w f o all.0 (All-head EndsNoConnection o orders kept)))

-- so that it can get another size
pub finds_display : (w : World) (a : Act) → IsFurnished w → FindsDisplay w a
finds_display w (act.New host options hide) f = tt
finds_display w (act.Command window what) f = tt
finds_display w (act.Mouse pointer) f = tt
finds_display w (act.Keys bytes) f = tt
finds_display w (act.Gone window) f = tt
finds_display w (act.Size width height) f = furnished_display w f
