-- A write is refused for want of memory only where its mark takes effect.
use Rattle.std.proofs.Common.{◌≡◌, ◌+◌, ℕ, zero, suc, Bool, true, false, List, [], ◌∷◌, length, Option, Some, None, Ok, Err, refl, ap}
use Rattle.std.specs.Prelude.{◌==◌}
use Rattle.std.specs.Option.{option_map_or}
use Rattle.std.proofs.lemmas.Bool.{both_ways, eqb-true}
use Rattle.model_text.specs.text.Outcome.{Outcome, ◌>>=◌, refuse_if}
use Rattle.model_draw_parts.specs.dmsg.Reading.{First, IsMessage, IsShort, IsUnknown, IsUnsupported, first_message}
use Rattle.model_draw.specs.draw.World.{World}
use Rattle.model_draw.specs.draw.Act.{Written, act, is_marked, no_memory, one_message, spelled, written, written_within}
use Rattle.law_devices.proofs.marked.Sparing.{Spares, act_spares}

-- where memory ran out, the mark is that of as many messages as were done
abbrev pub IsMarked : (mark : Option ℕ) → Written → Type 0
IsMarked mark after = option_map_or (λ n. n == no_memory) after.refusal false ≡ true → mark ≡ Some after.done

-- memory ran out only where the mark is at that message
abbrev IsMarkedAt : {A : Type 0} → (mark : Option ℕ) → (done : ℕ) → Outcome A → Type 0
IsMarkedAt mark done (Ok x) = Unit {0}
IsMarkedAt mark done (Err n) = (n == no_memory) ≡ true → mark ≡ Some done

behind_spared : {A B : Type 0} (mark : Option ℕ) (done : ℕ) (o : Outcome A) (next : A → Outcome B) → Spares o → ((x : A) → IsMarkedAt mark done (next x)) → IsMarkedAt mark done (o >>= next)
behind_spared mark done (Ok x) next spares more = more x
behind_spared mark done (Err n) next spares more = λ is. absurd (both_ways (n == no_memory) spares is)

spelled_spares : (f : First) → Spares (spelled f)
spelled_spares (IsMessage m rest) = tt
spelled_spares IsShort = refl
spelled_spares IsUnknown = refl
spelled_spares IsUnsupported = refl

mark_at : {A : Type 0} (mark : Option ℕ) (done : ℕ) (x : A) → IsMarkedAt mark done (refuse_if (is_marked mark done) no_memory >>= λ _. Ok x)
mark_at None done x = tt
mark_at {A = A} (Some n) done x = by (n == done) refl
  where
    by : (b : Bool) → (n == done) ≡ b → IsMarkedAt {A = A} (Some n) done (refuse_if b no_memory >>= λ _. Ok x)
    by true is = λ _. ap Some (eqb-true n done is)
    by false is = tt

one_marked : (k : ℕ) (w : World) (mark : Option ℕ) (done : ℕ) (bytes : List ℕ) → IsMarkedAt mark done (one_message k w mark done bytes)
unfolding one_message
one_marked k w mark done bytes =
    behind_spared mark done (spelled (first_message bytes)) _ (spelled_spares (first_message bytes)) (λ m.
    behind_spared mark done (act k w m.0 m.1) _ (act_spares k w m.0 m.1) (λ next. mark_at mark done _))

-- a write, once its first message was done or refused
abbrev after_one : (steps k : ℕ) → World → (mark : Option ℕ) → (done : ℕ) → Outcome (World × List ℕ) → Written
after_one steps k w mark done (Ok next) = written_within steps k next.0 mark (done + 1) next.1
after_one steps k w mark done (Err refusal) = record { world = w; done = done; refusal = Some refusal }

within_marked_at : (steps k : ℕ) (w : World) (mark : Option ℕ) (done : ℕ) (bytes : List ℕ) → IsMarked mark (written_within steps k w mark done bytes)
within_marked_at zero k w mark done bytes out = absurd cc
within_marked_at (suc steps) k w mark done [] out = absurd cc
within_marked_at (suc steps) k w mark done (byte ∷ bytes) out =
    by (λ v rest. within_marked_at steps k v mark (done + 1) rest) (one_message k w mark done (byte ∷ bytes)) (one_marked k w mark done (byte ∷ bytes)) out
  where
    by : ((v : World) (rest : List ℕ) → IsMarked mark (written_within steps k v mark (done + 1) rest)) → (o : Outcome (World × List ℕ)) → IsMarkedAt mark done o → IsMarked mark (after_one steps k w mark done o)
    by more (Ok next) marked = more next.0 next.1
    by more (Err refusal) marked = marked

pub written_marked : (k : ℕ) (w : World) (bytes : List ℕ) (mark : Option ℕ) → IsMarked mark (written k w bytes mark)
unfolding written
written_marked k w bytes mark = within_marked_at (length bytes) k w mark 0 bytes
