-- Events are told one after the other.
use Rattle.std.proofs.Common.{◌≡◌, ◌∙◌, ◌≤◌, ◌<◌, ◌+◌, ◌-◌, ◌/◌, ◌==◌, ℕ, suc, false, List, [], ◌∷◌, ◌++◌, length, take, drop, Option, Some, None, Ok, Err, refl, sym, ap, arith, append_assoc, append-nil, length-drop}
use Rattle.std.proofs.lemmas.Bool.{ne_eqb}
use Rattle.std.proofs.lemmas.List.{length-take, take_all}
use Rattle.model_text.specs.text.Outcome.{Outcome, ◌>>=◌, value_or_refuse}
use Rattle.model_files.specs.declared.mouse.Mouse.{Mouse}
use Rattle.model_files.specs.mouse.Pointer.{pointer_of}
use Rattle.r9_clients.specs.deskfile.Events.{event_len, event_of, events_from, texts_in, told}
use Rattle.r9_clients.specs.deskfile.Reading.{IsReadTo}

-- ---- a text that is too short

pub short_none : (text : List ℕ) → length text < 49 → None ≡ event_of (take 49 text)
unfolding event_of pointer_of
short_none text short =
    let other : (length (take 49 text) == 49) ≡ false = ne_eqb (length (take 49 text)) 49 (λ e. omega (arith, e, short, length-take 49 text)) in
    rw other refl

-- ---- the first text

-- as many texts as stand in so many bytes
counted : (bytes : List ℕ) → 1 ≤ length bytes → (length bytes + 48) / event_len ≡ suc ((length (drop 49 bytes) + 48) / event_len)
counted bytes some = omega (arith, some, length-drop 49 bytes)

first : (place : ℕ) (bytes : List ℕ) → 1 ≤ length bytes
    → events_from place bytes ≡ (value_or_refuse (event_of (take 49 bytes)) place >>= λ e. events_from (place + 49) (drop 49 bytes) >>= λ events. Ok (e ∷ events))
unfolding events_from
first place bytes some = ap (λ (count : ℕ). told place (texts_in count bytes)) (counted bytes some)

-- ---- what was read so far

again : (o : Outcome (List Mouse)) → o ≡ (o >>= λ more. Ok ([] ++ more))
again (Ok events) = refl
again (Err place) = refl

pub begins : (bytes : List ℕ) → IsReadTo bytes bytes []
begins bytes =
    let none : length bytes - length bytes ≡ 0 = omega arith in
    record { part = omega arith; goes_on = again (events_from 0 bytes) ∙ ap (λ (place : ℕ). events_from place bytes >>= λ more. Ok ([] ++ more)) (sym none) }

behind : (read : List Mouse) (e : Mouse) (o : Outcome (List Mouse))
    → ((o >>= λ events. Ok (e ∷ events)) >>= λ more. Ok (read ++ more)) ≡ (o >>= λ more. Ok ((read ++ e ∷ []) ++ more))
behind read e (Ok events) = ap Ok (sym (append_assoc read (e ∷ []) events))
behind read e (Err place) = refl

-- the next text tells an event
pub goes_on : (bytes rest : List ℕ) (read : List Mouse) (e : Mouse) → IsReadTo bytes rest read → 49 ≤ length rest → Some e ≡ event_of (take 49 rest) → IsReadTo bytes (take (length rest - 49) (drop 49 rest)) (read ++ e ∷ [])
goes_on bytes rest read e so_far whole is =
    let after = take (length rest - 49) (drop 49 rest) in
    let cut : after ≡ drop 49 rest = take_all (length rest - 49) (drop 49 rest) (omega (arith, length-drop 49 rest)) in
    let part = so_far.part in
    let left : length after ≡ length rest - 49 = ap length cut ∙ length-drop 49 rest in
    let place : length bytes - length rest + 49 ≡ length bytes - length after = omega (arith, part, whole, left) in
    record {
      part = omega (arith, part, left);
      goes_on =
          so_far.goes_on
          ∙ ap (λ (o : Outcome (List Mouse)). o >>= λ more. Ok (read ++ more))
          (first (length bytes - length rest) rest (omega (arith, whole))
          ∙ ap (λ (o : Option Mouse). value_or_refuse o (length bytes - length rest) >>= λ f. events_from (length bytes - length rest + 49) (drop 49 rest) >>= λ events. Ok (f ∷ events)) (sym is))
          ∙ behind read e (events_from (length bytes - length rest + 49) (drop 49 rest))
          ∙ (λ i. events_from (place i) (sym cut i) >>= λ more. Ok ((read ++ e ∷ []) ++ more));
    }

-- the next text tells none
pub goes_wrong : (bytes rest : List ℕ) (read : List Mouse) → IsReadTo bytes rest read → 1 ≤ length rest → None ≡ event_of (take 49 rest) → events_from 0 bytes ≡ Err (length bytes - length rest)
goes_wrong bytes rest read so_far some is =
    so_far.goes_on
    ∙ ap (λ (o : Outcome (List Mouse)). o >>= λ more. Ok (read ++ more))
    (first (length bytes - length rest) rest some
    ∙ ap (λ (o : Option Mouse). value_or_refuse o (length bytes - length rest) >>= λ f. events_from (length bytes - length rest + 49) (drop 49 rest) >>= λ events. Ok (f ∷ events)) (sym is))

pub ends : (bytes rest : List ℕ) (read : List Mouse) → IsReadTo bytes rest read → length rest ≡ 0 → events_from 0 bytes ≡ Ok read
unfolding events_from
ends bytes [] read so_far none = so_far.goes_on ∙ ap Ok (append-nil read)
ends bytes (byte ∷ rest) read so_far none = absurd (omega (arith, none))
