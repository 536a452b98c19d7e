-- What the messages of a write cost, one by one.
use Rattle.std.proofs.Common.{◌≡◌, ℕ, zero, suc, Bool, ◌+◌, ◌≤◌, List, drop, Option, Some, None, Ok, Err, ap, ◌∙◌, arith}
use Rattle.std.specs.Option.{option_map_or}
use Rattle.model_text.specs.text.Outcome.{Outcome}
use Rattle.model_draw.specs.draw.World.{World}
use Rattle.model_draw.specs.draw.Act.{one_message}
use Rattle.model_draw.specs.draw.Memory.{reached}
use Rattle.model_draw.specs.cost.Cost.{first_cost, messages_cost}
use Rattle.r9_draw.specs.draw.Steps.{IsDone}

-- the cost where one message more is done
pub costs-more : (n k : ℕ) (w at : World) (bytes rest : List ℕ) (next : World × List ℕ) → reached n k w bytes ≡ Some (at, rest) → one_message k at None 0 rest ≡ Ok next
    → messages_cost (suc n) k w bytes ≡ messages_cost n k w bytes + first_cost k at rest
costs-more zero k w at bytes rest next r e =
    let same_at : w ≡ at = ap (λ (o : Option (World × List ℕ)). option_map_or (λ p. p.0) o w) r in
    let same_rest : bytes ≡ rest = ap (λ (o : Option (World × List ℕ)). option_map_or (λ p. p.1) o bytes) r in
    let first : one_message k w None 0 bytes ≡ Ok next = (λ i. one_message k (same_at i) None 0 (same_rest i)) ∙ e in
    let one : messages_cost 1 k w bytes ≡ first_cost k w bytes + 0 = ap (λ (o : Outcome (World × List ℕ)). let c : ℕ = elim o [ Ok x ↦ first_cost k w bytes + 0 | Err refusal ↦ 0 ] in c) first in
    let here : first_cost k w bytes ≡ first_cost k at rest = λ i. first_cost k (same_at i) (same_rest i) in
    omega (arith, one, here)
costs-more (suc n) k w at bytes rest next r e = by (λ v b. costs-more n k v at b rest next) (one_message k w None 0 bytes) r
  where
    by : ((v : World) (b : List ℕ) → reached n k v b ≡ Some (at, rest) → one_message k at None 0 rest ≡ Ok next → messages_cost (suc n) k v b ≡ messages_cost n k v b + first_cost k at rest)
        → (o : Outcome (World × List ℕ))
        → (let p : Option (World × List ℕ) = elim o [ Ok x ↦ reached n k x.0 x.1 | Err refusal ↦ None ] in p) ≡ Some (at, rest)
        → (let c : ℕ = elim o [ Ok x ↦ first_cost k w bytes + messages_cost (suc n) k x.0 x.1 | Err refusal ↦ 0 ] in c)
        ≡ (let c : ℕ = elim o [ Ok x ↦ first_cost k w bytes + messages_cost n k x.0 x.1 | Err refusal ↦ 0 ] in c) + first_cost k at rest
    by more (Ok x) r = let later = more x.0 x.1 r e in omega (arith, later)
    by more (Err refusal) r = absurd cc

-- no more is written than the messages cost that are done
pub counted-more : (k : ℕ) (before now next : World) (bytes rest : List ℕ) (marked : Bool) (done len start written more : ℕ) → reached done k before bytes ≡ Some (now, rest) → IsDone k now rest marked len next
    → more ≤ written + first_cost k now rest → written ≤ start + messages_cost done k before bytes → more ≤ start + messages_cost (done + 1) k before bytes
counted-more k before now next bytes rest marked done len start written more reaches d counted within =
    let on : suc done ≡ done + 1 = omega arith in
    let same = ap (λ n. messages_cost n k before bytes) on in
    omega (arith, counted, within, same, costs-more done k before now bytes rest (next, drop len rest) reaches d.done)
