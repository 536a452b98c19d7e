-- What reading answers, from what the fields behind a letter are.
use Rattle.std.proofs.Common.{◌≡◌, ℕ, Bool, true, false, List, Option, Some, None, Result, Ok, Err, refl, sym, ap, ◌∙◌, subst, ◌⊎◌, inl, inr, ◌<◌, ◌≤◌, [], ◌∷◌, length, get_or, drop, take, suc, ◌-◌, ◌↔◌, arith}
use Rattle.std.specs.Option.{option_map, option_map_or, ok_or, IsSome, IfSome}
use Rattle.std.proofs.lemmas.List.{take_all}
use Rattle.std.specs.Result.{IsErrAnd, IsErrOf, IfOk}
use Rattle.model_draw_parts.proofs.dmsg.Rest.{first_message-rest}
use Rattle.model_draw_parts.specs.dmsg.Message.{Message, spelled_len}
use Rattle.model_draw_parts.specs.dmsg.Reading.{First, Fields, IsMessage, IsShort, IsUnknown, IsUnsupported, table, fields_in, rowless, is_left_out, behind, first_message}
use Rattle.r9_dmsg.specs.declared.message.Dmsg.{Dmsg}
use Rattle.r9_dmsg.specs.declared.message.DmsgFault.{DmsgFault}
use Rattle.r9_dmsg.specs.declared.message.DmsgFault.TheVariants as fault
use Rattle.r9_dmsg.specs.View.{message_of, message_in, Tells}
use Rattle.r9_dmsg.specs.Listed.{has_list}
use Rattle.r9_dmsg.proofs.Table.{is_listed, letter_gives}

-- what stands first where these are the fields
first_by : Option (Message × List ℕ) → First
first_by fields = option_map_or (λ x. IsMessage x.0 x.1) fields IsShort

tells : (read : Option Dmsg) (fields : Option (Message × List ℕ)) → option_map message_of read ≡ option_map (λ x. x.0) fields → Tells (ok_or read fault.Short) (first_by fields)
unfolding first_by
tells (Some m) (Some x) e = sym e
tells None None e = refl
tells (Some m) None e = absurd cc
tells None (Some x) e = absurd cc

behind_is : (letter : ℕ) (fields : Fields) (bytes : List ℕ) → fields_in table letter ≡ Some fields → behind letter bytes ≡ first_by (fields bytes)
unfolding behind first_by
behind_is letter fields bytes e =
    ap (λ (o : Option Fields). option_map_or (λ (f : Fields). option_map_or (λ (x : Message × List ℕ). IsMessage x.0 x.1) (f bytes) IsShort) o (rowless letter)) e

pub told : (letter : ℕ) (fields : Fields) (read : Option Dmsg) (answer : Result Dmsg DmsgFault) (bytes : List ℕ) → fields_in table letter ≡ Some fields
    → answer ≡ ok_or read fault.Short → option_map message_of read ≡ option_map (λ x. x.0) (fields bytes) → Tells answer (behind letter bytes)
told letter fields read answer bytes row is e = rw (is, behind_is letter fields bytes row) (tells read (fields bytes) e)

wants : (answer : Result Dmsg DmsgFault) (fields : Option (Message × List ℕ)) → IsErrAnd answer (λ e. e ≡ fault.Memory) → IfSome fields (λ x. has_list x.0 ≡ true) → IsSome fields → Tells answer (first_by fields)
unfolding first_by
wants (Err f) (Some x) is listed some =
    let P : DmsgFault → Type 0 = λ f. Tells (Err f) (first_by (Some x)) in
    subst P (sym is) (ap Some listed)
wants (Err f) None is listed some = absurd cc
wants (Ok m) fields is listed some = absurd is

pub no_room : (letter : ℕ) (fields : Fields) (answer : Result Dmsg DmsgFault) (bytes : List ℕ) → fields_in table letter ≡ Some fields → is_listed letter ≡ true
    → IsErrAnd answer (λ e. e ≡ fault.Memory) → IsSome (fields bytes) → Tells answer (behind letter bytes)
no_room letter fields answer bytes row listed is some =
    let P : Bool → Type 0 = λ b. IfSome (fields bytes) (λ x. has_list x.0 ≡ b) in
    rw (behind_is letter fields bytes row) (wants answer (fields bytes) is (subst P listed (letter_gives letter fields row bytes)) some)

left_out_at : (code letter : ℕ) (bytes : List ℕ) → fields_in table code ≡ None → is_left_out code ≡ true → letter ≡ code → behind letter bytes ≡ IsUnsupported
unfolding behind
left_out_at code letter bytes none is e = rw (e, none, is) refl

pub left_out : (letter : ℕ) (bytes : List ℕ) → (letter ≡ 69) ⊎ ((letter ≡ 76) ⊎ ((letter ≡ 80) ⊎ ((letter ≡ 89) ⊎ ((letter ≡ 101) ⊎ (letter ≡ 112))))) → behind letter bytes ≡ IsUnsupported
left_out letter bytes (inl e) = left_out_at 69 letter bytes refl refl e
left_out letter bytes (inr (inl e)) = left_out_at 76 letter bytes refl refl e
left_out letter bytes (inr (inr (inl e))) = left_out_at 80 letter bytes refl refl e
left_out letter bytes (inr (inr (inr (inl e)))) = left_out_at 89 letter bytes refl refl e
left_out letter bytes (inr (inr (inr (inr (inl e))))) = left_out_at 101 letter bytes refl refl e
left_out letter bytes (inr (inr (inr (inr (inr e))))) = left_out_at 112 letter bytes refl refl e

pub unknown : (letter : ℕ) (bytes : List ℕ) → fields_in table letter ≡ None → is_left_out letter ≡ false → behind letter bytes ≡ IsUnknown
unfolding behind
unknown letter bytes none is = rw (none, is) refl

pub first-at : (bytes : List ℕ) → 1 ≤ length bytes
    → first_message bytes ≡ behind (get_or bytes 0 0) (take (length bytes - 1) (drop 1 bytes))
unfolding first_message
first-at [] h = absurd (omega arith)
first-at (letter ∷ bytes) h = ap (behind letter) (sym (take_all (suc (length bytes) - 1) bytes (omega arith)))

pub first-empty : (bytes : List ℕ) → length bytes < 1 → first_message bytes ≡ IsShort
unfolding first_message
first-empty [] h = refl
first-empty (letter ∷ bytes) h = absurd (omega arith)

-- a message that stands first, and the bytes behind it
pub message_there : (answer : Result Dmsg DmsgFault) (bytes : List ℕ) → Tells answer (first_message bytes)
    → IfOk answer (λ m. first_message bytes ≡ IsMessage (message_of m) (drop (spelled_len (message_of m)) bytes))
message_there (Ok m) bytes h = there (first_message bytes) refl h
  where
    there : (first : First) → first_message bytes ≡ first → message_in first ≡ Some (message_of m) → first_message bytes ≡ IsMessage (message_of m) (drop (spelled_len (message_of m)) bytes)
    there (IsMessage n rest) e is =
        let same : n ≡ message_of m = cc in
        let there : first_message bytes ≡ IsMessage (message_of m) rest = e ∙ ap (λ k. IsMessage k rest) same in
        there ∙ ap (IsMessage (message_of m)) (first_message-rest bytes rest (message_of m) there).is
    there IsShort e is = absurd cc
    there IsUnknown e is = absurd cc
    there IsUnsupported e is = absurd cc
message_there (Err f) bytes h = tt

pub whole_there : (answer : Result Dmsg DmsgFault) (bytes : List ℕ) → Tells answer (first_message bytes) → IfOk answer (λ m. spelled_len (message_of m) ≤ length bytes)
whole_there (Ok m) bytes h = (first_message-rest bytes _ (message_of m) (message_there (Ok m) bytes h)).fits
whole_there (Err f) bytes h = tt

-- each fault is told exactly where it stands
pub short_there : (answer : Result Dmsg DmsgFault) (first : First) → Tells answer first → IsErrOf answer fault.Short ↔ (first ≡ IsShort)
short_there answer first h = (λ e. gives answer h e, λ e. given answer (subst (Tells answer) e h))
  where
    gives : (answer : Result Dmsg DmsgFault) → Tells answer first → answer ≡ Err fault.Short → first ≡ IsShort
    gives (Err fault.Short) h e = h
    gives (Ok m) h e = absurd cc
    gives (Err fault.Unknown) h e = absurd cc
    gives (Err fault.Unsupported) h e = absurd cc
    gives (Err fault.Memory) h e = absurd cc

    given : (answer : Result Dmsg DmsgFault) → Tells answer IsShort → answer ≡ Err fault.Short
    given (Err fault.Short) h = refl
    given (Ok m) h = absurd cc
    given (Err fault.Unknown) h = absurd cc
    given (Err fault.Unsupported) h = absurd cc
    given (Err fault.Memory) h = absurd cc

pub unknown_there : (answer : Result Dmsg DmsgFault) (first : First) → Tells answer first → IsErrOf answer fault.Unknown ↔ (first ≡ IsUnknown)
unknown_there answer first h = (λ e. gives answer h e, λ e. given answer (subst (Tells answer) e h))
  where
    gives : (answer : Result Dmsg DmsgFault) → Tells answer first → answer ≡ Err fault.Unknown → first ≡ IsUnknown
    gives (Err fault.Unknown) h e = h
    gives (Ok m) h e = absurd cc
    gives (Err fault.Short) h e = absurd cc
    gives (Err fault.Unsupported) h e = absurd cc
    gives (Err fault.Memory) h e = absurd cc

    given : (answer : Result Dmsg DmsgFault) → Tells answer IsUnknown → answer ≡ Err fault.Unknown
    given (Err fault.Unknown) h = refl
    given (Ok m) h = absurd cc
    given (Err fault.Short) h = absurd cc
    given (Err fault.Unsupported) h = absurd cc
    given (Err fault.Memory) h = absurd cc

pub unsupported_there : (answer : Result Dmsg DmsgFault) (first : First) → Tells answer first → IsErrOf answer fault.Unsupported ↔ (first ≡ IsUnsupported)
unsupported_there answer first h = (λ e. gives answer h e, λ e. given answer (subst (Tells answer) e h))
  where
    gives : (answer : Result Dmsg DmsgFault) → Tells answer first → answer ≡ Err fault.Unsupported → first ≡ IsUnsupported
    gives (Err fault.Unsupported) h e = h
    gives (Ok m) h e = absurd cc
    gives (Err fault.Short) h e = absurd cc
    gives (Err fault.Unknown) h e = absurd cc
    gives (Err fault.Memory) h e = absurd cc

    given : (answer : Result Dmsg DmsgFault) → Tells answer IsUnsupported → answer ≡ Err fault.Unsupported
    given (Err fault.Unsupported) h = refl
    given (Ok m) h = absurd cc
    given (Err fault.Short) h = absurd cc
    given (Err fault.Unknown) h = absurd cc
    given (Err fault.Memory) h = absurd cc

pub memory_there : (answer : Result Dmsg DmsgFault) (first : First) → Tells answer first → IsErrOf answer fault.Memory → option_map has_list (message_in first) ≡ Some true
memory_there (Err fault.Memory) first h e = h
memory_there (Ok m) first h e = absurd cc
memory_there (Err fault.Short) first h e = absurd cc
memory_there (Err fault.Unknown) first h e = absurd cc
memory_there (Err fault.Unsupported) first h e = absurd cc
