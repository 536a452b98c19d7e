-- Writes of draw messages, one message after the other, none of which is refused (draw(3)).
use Rattle.std.proofs.Common.{◌≡◌, ◌∙◌, ◌<◌, ◌≤◌, ◌+◌, ℕ, zero, suc, List, [], ◌∷◌, ◌++◌, length, Some, None, Ok, Err, refl, sym, ap, subst, append_assoc, arith}
use Rattle.std.proofs.lemmas.List.{append-nil, length-append}
use Rattle.model_text.specs.text.Outcome.{Outcome}
use Rattle.model_draw_parts.specs.dmsg.Message.{Message}
use Rattle.model_draw_parts.specs.dmsg.Reading.{IsMessage, first_message}
use Rattle.model_draw_parts.proofs.dmsg.Rest.{rest-shorter}
use Rattle.model_draw.specs.draw.World.{World}
use Rattle.model_draw.specs.draw.Act.{Written, act, behind, one_message, written, written_within}

-- the bytes lead from one device to another, however many steps there are
abbrev Runs : ℕ → (from to : World) → List ℕ → Type 0
Runs k from to bytes = (steps done : ℕ) → length bytes ≤ steps → (n : ℕ) × (written_within steps k from None done bytes ≡ record { world = to; done = n; refusal = None })

runs_end : (k : ℕ) (world : World) → Runs k world world []
runs_end k world zero done few = (done, refl)
runs_end k world (suc steps) done few = (done, refl)

-- what is left once the first message of a write was done or refused
abbrev after_one : (further : World → List ℕ → Written) → World → ℕ → Outcome (World × List ℕ) → Written
after_one further world done (Ok next) = further next.0 next.1
after_one further world done (Err refusal) = record { world = world; done = done; refusal = Some refusal }

runs_message : (k : ℕ) (from mid to : World) (bytes rest : List ℕ) → ((done : ℕ) → one_message k from None done bytes ≡ Ok (mid, rest)) → length rest < length bytes → Runs k mid to rest → Runs k from to bytes
runs_message k from mid to [] rest one shorter run steps done few = absurd (omega (arith, shorter))
runs_message k from mid to (letter ∷ bytes) rest one shorter run zero done few = absurd (omega (arith, few))
runs_message k from mid to (letter ∷ bytes) rest one shorter run (suc steps) done few =
    let further = run steps (done + 1) (omega (arith, shorter, few)) in (further.0, ap (after_one (λ next rest. written_within steps k next None (done + 1) rest) from done) (one done) ∙ further.1)

-- bytes that lead there, whatever stands behind them
abbrev pub Leads : ℕ → (from to : World) → List ℕ → Type 0
Leads k from to chunk = (end : World) (rest : List ℕ) → Runs k to end rest → Runs k from end (chunk ++ rest)

pub leads_nowhere : (k : ℕ) (world : World) → Leads k world world []
leads_nowhere k world end rest run = run

pub leads_then : (k : ℕ) (from mid to : World) (first second : List ℕ) → Leads k from mid first → Leads k mid to second → Leads k from to (first ++ second)
leads_then k from mid to first second one two end rest run =
    subst (λ (bytes : List ℕ). Runs k from end bytes) (sym (append_assoc first second rest)) (one end (second ++ rest) (two end rest run))

single : (k : ℕ) (from to : World) (m : Message) (bytes behind_it rest : List ℕ) (done : ℕ) → first_message bytes ≡ IsMessage m behind_it → act k from m behind_it ≡ Ok to → behind k from m behind_it ≡ rest
    → one_message k from None done bytes ≡ Ok (to, rest)
unfolding one_message
single k from to m bytes behind_it rest done is acted after = rw (is, acted, after) refl

-- a message that reads more than itself
pub leads_with : (k : ℕ) (from to : World) (m : Message) (chunk tail : List ℕ) → ((rest : List ℕ) → first_message (chunk ++ rest) ≡ IsMessage m (tail ++ rest)) → ((rest : List ℕ) → act k from m (tail ++ rest) ≡ Ok to)
    → ((rest : List ℕ) → behind k from m (tail ++ rest) ≡ rest) → Leads k from to chunk
leads_with k from to m chunk tail first acted after end rest run =
    let shorter : length (tail ++ rest) < length (chunk ++ rest) = rest-shorter (chunk ++ rest) (tail ++ rest) m (first rest) in
    runs_message k from to end (chunk ++ rest) rest (λ done. single k from to m (chunk ++ rest) (tail ++ rest) rest done (first rest) (acted rest) (after rest))
    (omega (arith, shorter, length-append tail rest)) run

pub leads_message : (k : ℕ) (from to : World) (m : Message) (chunk : List ℕ) → ((rest : List ℕ) → first_message (chunk ++ rest) ≡ IsMessage m rest) → ((rest : List ℕ) → act k from m rest ≡ Ok to)
    → ((rest : List ℕ) → behind k from m rest ≡ rest) → Leads k from to chunk
leads_message k from to m chunk first acted after = leads_with k from to m chunk [] first acted after

-- all of a write
pub record IsWritten (k : ℕ) (from to : World) (bytes : List ℕ) : Type 0 where
  pub done : ℕ
  pub is : written k from bytes None ≡ record { world = to; done = done; refusal = None }

pub leads_written : (k : ℕ) (from to : World) (bytes : List ℕ) → Leads k from to bytes → IsWritten k from to bytes
unfolding written
leads_written k from to bytes leads =
    let run = subst (λ (all : List ℕ). Runs k from to all) (append-nil bytes) (leads to [] (runs_end k to)) in
    let ran = run (length bytes) 0 (omega arith) in
    record { done = ran.0; is = ran.1 }
