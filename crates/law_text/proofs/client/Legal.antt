-- What a client says is a legal history.
use Rattle.std.proofs.Common.{◌≡◌, ◌≤◌, ◌+◌, ℕ, refl, sym, ap, subst, arith, List, [], ◌∷◌, ◌++◌, length, map, take, false}
use Rattle.r9_event.specs.declared.event.event.Event.TheVariants.{Begin}
use Rattle.model_text.specs.text.Number.{AreBytes, four_bytes, two_bytes}
use Rattle.model_history.specs.event.Legal.{AllowedFrom, IsLegal, IsMessage, Roll}
use Rattle.model_files.specs.wire.Message.{T}
use Rattle.model_files.specs.wire.Spelling.{SpellsT, message, spelling_of_t}
use Rattle.model_files.proofs.wire.Requests.{requests_again}
use Rattle.model_clients.specs.client.Saying.{says}
use Rattle.law_text.specs.client.Saying.{AreMessages}

-- ---- a message is whole

record IsLong (bytes : List ℕ) : Type 0 where
  long : 7 ≤ length bytes
  sized : take 4 bytes ≡ four_bytes (length bytes)

message_long : (kind tag : ℕ) (body : List ℕ) → IsLong (message kind tag body)
unfolding message
message_long kind tag body =
    let len : length (four_bytes (7 + length body) ++ (kind ∷ (two_bytes tag ++ body))) ≡ 7 + length body = omega arith in
    record { long = omega (arith, len); sized = ap four_bytes (sym len) }

pub whole : (m : T) → SpellsT (spelling_of_t m) m → length (spelling_of_t m) ≤ 65560 → AreBytes (spelling_of_t m) → IsMessage (spelling_of_t m)
whole m spelled short are =
    let b = requests_again m spelled.sizes spelled.fits in
    let is = subst IsLong (sym b.spelled) (message_long b.kind b.tag b.body) in
    record { long = is.long; short = short; sized = is.sized; are_bytes = are }

-- ---- the history

abbrev one : Roll
one = record { begun = 1; live = 1 ∷ []; stopped = false }

goes_on : (messages : List T) → AreMessages messages → AllowedFrom one (map says messages)
goes_on [] are = tt
goes_on (m ∷ messages) are = ((refl, ((0, omega arith, refl), are.0, tt)), goes_on messages are.1)

pub legal : (messages : List T) → AreMessages messages → IsLegal (Begin 1 ∷ map says messages)
legal messages are = ((refl, (refl, omega arith, omega arith)), goes_on messages are)
