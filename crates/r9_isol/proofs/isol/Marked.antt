-- A data write that stopped before a message that is not refused did the messages before it.
use Rattle.std.proofs.Common.{◌≡◌, ℕ, zero, suc, ◌+◌, Bool, true, false, List, [], ◌∷◌, length, Option, Some, None, Ok, Err, refl, sym, ap, ◌∙◌, arith}
use Rattle.std.proofs.lemmas.Bool.Decides.{nat_tests}
use Rattle.model_text.specs.text.Outcome.{Outcome, ◌>>=◌, refuse_if}
use Rattle.model_draw_parts.specs.dmsg.Message.{Message}
use Rattle.model_draw_parts.specs.dmsg.Reading.{first_message}
use Rattle.model_draw.specs.draw.World.{World}
use Rattle.model_draw.specs.draw.Act.{Written, act, behind, is_marked, no_memory, one_message, spelled, written, written_within}

-- a message, where it is marked or not
by_mark : Bool → ℕ → World → List ℕ → Outcome (World × List ℕ)
by_mark b k w bytes = spelled (first_message bytes) >>= λ m. act k w m.0 m.1 >>= λ next. refuse_if b no_memory >>= λ _. Ok (next, behind k w m.0 m.1)

is_by_mark : (k : ℕ) (w : World) (mark : Option ℕ) (done : ℕ) (bytes : List ℕ) → one_message k w mark done bytes ≡ by_mark (is_marked mark done) k w bytes
unfolding one_message by_mark
is_by_mark k w mark done bytes = refl

marked_ends : (k : ℕ) (w : World) (bytes : List ℕ) (next : World × List ℕ) → by_mark true k w bytes ≡ Ok next → ⊥
unfolding by_mark
marked_ends k w bytes next e = by_message (spelled (first_message bytes)) e
  where
    by_act : (m : Message × List ℕ) (o : Outcome World) → (o >>= λ after. refuse_if true no_memory >>= λ _. Ok (after, behind k w m.0 m.1)) ≡ Ok next → ⊥
    by_act m (Ok after) e = absurd cc
    by_act m (Err n) e = absurd cc

    by_message : (o : Outcome (Message × List ℕ)) → (o >>= λ m. act k w m.0 m.1 >>= λ after. refuse_if true no_memory >>= λ _. Ok (after, behind k w m.0 m.1)) ≡ Ok next → ⊥
    by_message (Ok m) e = by_act m (act k w m.0 m.1) e
    by_message (Err n) e = absurd cc

abbrev then_by : ℕ → ℕ → Option ℕ → ℕ → World → Outcome (World × List ℕ) → Written
then_by fuel k mark done w o = elim o [ Ok next ↦ written_within fuel k next.0 mark (done + 1) next.1 | Err refusal ↦ record { world = w; done = done; refusal = Some refusal } ]

-- a write that ended so
abbrev ended_by : World → ℕ → Option ℕ → Written
ended_by world done refusal = record { world = world; done = done; refusal = refusal }

-- what is known of the messages behind the first
abbrev Further : (fuel k done more : ℕ) → World → World × List ℕ → Type 0
Further fuel k done more v next =
    written_within fuel k next.0 (Some (done + 1 + more)) (done + 1) next.1 ≡ record { world = v; done = done + 1 + more; refusal = Some no_memory }
    → written_within more k next.0 None (done + 1) next.1 ≡ record { world = v; done = done + 1 + more; refusal = None }

pub first_done : (fuel k done more : ℕ) (w v : World) (bytes : List ℕ) → written_within fuel k w (Some (done + more)) done bytes ≡ record { world = v; done = done + more; refusal = Some no_memory }
    → written_within more k w None done bytes ≡ record { world = v; done = done + more; refusal = None }
first_done zero k done more w v bytes e = let none = ap (λ (x : Written). x.refusal) e in absurd cc
first_done (suc fuel) k done more w v [] e = let none = ap (λ (x : Written). x.refusal) e in absurd cc
first_done (suc fuel) k done zero w v (byte ∷ bytes) e = by (one_message k w (Some (done + 0)) done (byte ∷ bytes)) refl e
  where
    here : is_marked (Some (done + 0)) done ≡ true
    here = grind (arith, nat_tests)

    by : (o : Outcome (World × List ℕ)) → one_message k w (Some (done + 0)) done (byte ∷ bytes) ≡ o → then_by fuel k (Some (done + 0)) done w o ≡ record { world = v; done = done + 0; refusal = Some no_memory }
        → ended_by w done None ≡ ended_by v (done + 0) None
    by (Ok next) at e = absurd (marked_ends k w (byte ∷ bytes) next (ap (λ b. by_mark b k w (byte ∷ bytes)) (sym here) ∙ sym (is_by_mark k w (Some (done + 0)) done (byte ∷ bytes)) ∙ at))
    by (Err n) at e =
        let world : w ≡ v = ap (λ (x : Written). x.world) e in
        let count : done ≡ done + 0 = omega arith in
        λ i. record { world = world i; done = count i; refusal = None }
first_done (suc fuel) k done (suc more) w v (byte ∷ bytes) e =
    by (λ next. first_done fuel k (done + 1) more next.0 v next.1) (one_message k w (Some (done + suc more)) done (byte ∷ bytes)) refl e
  where
    other : is_marked (Some (done + suc more)) done ≡ false
    other = grind (arith, nat_tests)

    same : one_message k w None done (byte ∷ bytes) ≡ one_message k w (Some (done + suc more)) done (byte ∷ bytes)
    same = is_by_mark k w None done (byte ∷ bytes) ∙ ap (λ b. by_mark b k w (byte ∷ bytes)) (sym other) ∙ sym (is_by_mark k w (Some (done + suc more)) done (byte ∷ bytes))

    count : done + suc more ≡ done + 1 + more
    count = omega arith

    by : ((next : World × List ℕ) → Further fuel k done more v next) → (o : Outcome (World × List ℕ)) → one_message k w (Some (done + suc more)) done (byte ∷ bytes) ≡ o
        → then_by fuel k (Some (done + suc more)) done w o ≡ record { world = v; done = done + suc more; refusal = Some no_memory }
        → then_by more k None done w (one_message k w None done (byte ∷ bytes)) ≡ record { world = v; done = done + suc more; refusal = None }
    by further (Ok next) at e =
        ap (λ (o : Outcome (World × List ℕ)). then_by more k None done w o) (same ∙ at)
        ∙ further next
        (ap (λ n. written_within fuel k next.0 (Some n) (done + 1) next.1) (sym count) ∙ e ∙ λ i. record { world = v; done = count i; refusal = Some no_memory })
        ∙ λ i. record { world = v; done = sym count i; refusal = None }
    by further (Err n) at e = let far = ap (λ (x : Written). x.done) e in absurd (omega (arith, far))

-- with a mark so many
pub first_written : (k n : ℕ) (w v : World) (bytes : List ℕ) → written k w bytes (Some n) ≡ record { world = v; done = n; refusal = Some no_memory }
    → written_within n k w None 0 bytes ≡ record { world = v; done = n; refusal = None }
unfolding written
first_written k n w v bytes e =
    let none : 0 + n ≡ n = omega arith in
    first_done (length bytes) k 0 n w v bytes
    (ap (λ m. written_within (length bytes) k w (Some m) 0 bytes) none ∙ e ∙ λ i. record { world = v; done = sym none i; refusal = Some no_memory })
    ∙ λ i. record { world = v; done = none i; refusal = None }
