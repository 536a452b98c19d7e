-- The first messages of a write, step by step.
use Rattle.std.proofs.Common.{◌≡◌, ℕ, suc, false, ◌+◌, ◌<◌, ◌≤◌, List, [], ◌∷◌, length, drop, None, Some, inl, inr, refl, sym, ap, ◌∙◌, arith, length-drop}
use Rattle.std.specs.Prelude.{◌-◌, IsSome}
use Rattle.model_text.specs.text.Map.{lookup}
use Rattle.model_draw.specs.draw.World.{World}
use Rattle.model_draw.specs.draw.Act.{written_within}
use Rattle.model_draw.specs.draw.Memory.{MayRunOut, reached}
use Rattle.r9_draw.specs.draw.Steps.{IsDone, IsRefused, IsShortOf}
use Rattle.r9_draw.proofs.draw.Writing.{ends, goes_on, message-refused, message-unmarked, reached-more, runs-out, stops}

-- so many were done
pub record AreDone (k : ℕ) (before : World) (bytes : List ℕ) (now : World) (rest : List ℕ) (done : ℕ) : Type 0 where
  pub more : (n : ℕ) → written_within (done + n) k before None 0 bytes ≡ written_within n k now None done rest
  pub reaches : reached done k before bytes ≡ Some (now, rest)
  pub within : length rest + done ≤ length bytes
  pub live : IsSome (lookup now.clients k)

room : (done most : ℕ) → done < most → (n : ℕ) × (most ≡ done + suc n)
room done most few = (most - (done + 1), omega (arith, few))

above : (done most : ℕ) → done ≤ most → (n : ℕ) × (most ≡ done + n)
above done most few = (most - done, omega (arith, few))

pub none-done : (k : ℕ) (w : World) (bytes : List ℕ) → IsSome (lookup w.clients k) → AreDone k w bytes w bytes 0
none-done k w bytes live = record { more = λ n. (let same : 0 + n ≡ n = omega arith in ap (λ m. written_within m k w None 0 bytes) same); reaches = refl; within = omega arith; live = live }

pub one-more : (k : ℕ) (before : World) (bytes : List ℕ) (now next : World) (rest : List ℕ) (done len : ℕ) → AreDone k before bytes now rest done → 0 < length rest
    → IsDone k now rest false len next → AreDone k before bytes next (drop len rest) (done + 1)
one-more k before bytes now next rest done len w some d = record {
  more = λ n.
      (let same : done + 1 + n ≡ done + suc n = omega arith in ap (λ m. written_within m k before None 0 bytes) same)
      ∙ w.more (suc n)
      ∙ goes_on n k now None done rest (next, drop len rest) some (message-unmarked k now None done rest refl ∙ d.done);
  reaches =
      (let more : done + 1 ≡ suc done = omega arith in ap (λ n. reached n k before bytes) more)
      ∙ reached-more done k before now bytes rest (next, drop len rest) w.reaches d.done;
  within = omega (arith, length-drop len rest, w.within, d.some, d.within);
  live = d.live;
}

-- the next one is refused
pub then-refused : (k : ℕ) (before : World) (bytes : List ℕ) (now next : World) (rest : List ℕ) (done most n : ℕ) → AreDone k before bytes now rest done → 0 < length rest → done < most
    → IsRefused k now rest n next → written_within most k before None 0 bytes ≡ record { world = next; done = done; refusal = Some n }
then-refused k before bytes now next rest done most n w some few r =
    let left = room done most few in
    ap (λ m. written_within m k before None 0 bytes) left.1
    ∙ w.more (suc left.0)
    ∙ stops left.0 k now None done rest n some (message-refused k now None done rest n r.refused)
    ∙ λ i. record { world = sym r.kept i; done = done; refusal = Some n }

-- none is left, or so many were to be done
empty : (xs : List ℕ) → length xs ≡ 0 → xs ≡ []
empty [] none = refl
empty (x ∷ xs) none = absurd (omega (arith, none))

pub all-done : (k : ℕ) (before : World) (bytes : List ℕ) (now : World) (rest : List ℕ) (done most : ℕ) → AreDone k before bytes now rest done → done ≤ most → length rest ≡ 0
    → written_within most k before None 0 bytes ≡ record { world = now; done = done; refusal = None }
all-done k before bytes now rest done most w few none =
    let left = above done most few in
    ap (λ m. written_within m k before None 0 bytes) left.1
    ∙ w.more left.0
    ∙ ap (λ xs. written_within left.0 k now None done xs) (empty rest none)
    ∙ ends left.0 k now None done

pub enough-done : (k : ℕ) (before : World) (bytes : List ℕ) (now : World) (rest : List ℕ) (done : ℕ) → AreDone k before bytes now rest done
    → written_within done k before None 0 bytes ≡ record { world = now; done = done; refusal = None }
enough-done k before bytes now rest done w =
    (let same : done ≡ done + 0 = omega arith in ap (λ m. written_within m k before None 0 bytes) same) ∙ w.more 0

-- memory ran out in the next one
pub then-short : (k : ℕ) (before : World) (bytes : List ℕ) (now next : World) (rest : List ℕ) (done : ℕ) → AreDone k before bytes now rest done
    → IsShortOf k now rest false next → written_within done k before None 0 bytes ≡ record { world = next; done = done; refusal = None }
then-short k before bytes now next rest done w s = enough-done k before bytes now rest done w ∙ λ i. record { world = sym s.kept i; done = done; refusal = None }

pub short-since : (k : ℕ) (before : World) (bytes : List ℕ) (now next : World) (rest : List ℕ) (done : ℕ) → AreDone k before bytes now rest done
    → IsShortOf k now rest false next → MayRunOut k before bytes done
short-since k before bytes now next rest done w s = elim s.cause [
  | inl marked ↦ absurd cc
  | inr m ↦ runs-out k before now bytes rest done w.reaches m
]
