-- What the first message asks for, where it has a list, and how many bytes spell it.
use Rattle.std.proofs.Common.{◌≡◌, ℕ, ◌/◌, ◌≤◌, Bool, true, false, List, length, drop, Option, Some, None, refl, ap, ◌∙◌, arith}
use Rattle.std.specs.Prelude.{if◌then◌else◌, IfSome, IfNone}
use Rattle.std.specs.Int.{w16, w32}
use Rattle.std.specs.Option.{option_map}
use Rattle.model_draw_parts.proofs.dmsg.Rest.{first_message-rest}
use Rattle.model_draw_parts.specs.dmsg.Message.{Message, spelled_len}
use Rattle.model_draw_parts.specs.dmsg.Reading.{First, IsMessage, IsShort, IsUnknown, IsUnsupported, first_message}
use Rattle.model_draw_parts.proofs.dmsg.Rest.{length-numbers_of}
use Rattle.r9_dmsg.specs.Listed.{has_list, listed_in, listed_len, listed_message, IsWhole}
use Rattle.r9_dmsg.specs.declared.listed.Listed.{Listed}
use Rattle.r9_dmsg.specs.declared.listed.Listed.TheVariants.{Name, Restack, UseName, Write}
use Rattle.r9_dmsg.specs.declared.writing.Background.{Background}

spelled : (l : Listed) → IsWhole l → spelled_len (listed_message l) ≡ listed_len l
spelled (Restack t) h = omega (arith, length-numbers_of w32 (length t.ids.now / 4) t.ids.now)
spelled (Name n) h = refl
spelled (UseName n) h = refl
spelled (Write l) h = by l.background refl
  where
    by : (o : Option Background) → l.background ≡ o → spelled_len (listed_message (Write l)) ≡ listed_len (Write l)
    by None e = rw e (omega (arith, length-numbers_of w16 (length l.indices.now / 2) l.indices.now))
    by (Some b) e = rw e (omega (arith, length-numbers_of w16 (length l.indices.now / 2) l.indices.now))

-- a message with a list stands first
record Stands (m : Message) (bytes : List ℕ) : Type 0 where
  rest : List ℕ
  first : first_message bytes ≡ IsMessage m rest

stands : (m : Message) (bytes : List ℕ) → Some m ≡ listed_in (first_message bytes) → Stands m bytes
stands m bytes e = by (first_message bytes) refl e
  where
    listed : (b : Bool) (n : Message) → Some m ≡ (if b then Some n else None) → n ≡ m
    listed true n e = cc
    listed false n e = absurd cc

    by : (first : First) → first_message bytes ≡ first → Some m ≡ listed_in first → Stands m bytes
    by (IsMessage n rest) is e = record { rest = rest; first = is ∙ ap (λ k. IsMessage k rest) (listed (has_list n) n e) }
    by IsShort is e = absurd cc
    by IsUnknown is e = absurd cc
    by IsUnsupported is e = absurd cc

pub found_there : (o : Option Listed) (bytes : List ℕ) → IfSome o IsWhole → option_map listed_message o ≡ listed_in (first_message bytes)
    → IfSome o (λ l. first_message bytes ≡ IsMessage (listed_message l) (drop (listed_len l) bytes))
found_there None bytes whole e = tt
found_there (Some l) bytes whole e =
    let there = stands (listed_message l) bytes e in
    let behind = first_message-rest bytes there.rest (listed_message l) there.first in
    there.first ∙ ap (IsMessage (listed_message l)) (behind.is ∙ ap (λ n. drop n bytes) (spelled l whole))

pub within_there : (o : Option Listed) (bytes : List ℕ) → IfSome o IsWhole → option_map listed_message o ≡ listed_in (first_message bytes)
    → IfSome o (λ l. listed_len l ≤ length bytes)
within_there None bytes whole e = tt
within_there (Some l) bytes whole e =
    let there = stands (listed_message l) bytes e in
    omega (arith, spelled l whole, (first_message-rest bytes there.rest (listed_message l) there.first).fits)

pub none_there : (o : Option Listed) (bytes : List ℕ) → option_map listed_message o ≡ listed_in (first_message bytes)
    → IfNone o ((m : Message) (rest : List ℕ) → first_message bytes ≡ IsMessage m rest → has_list m ≡ false)
none_there (Some l) bytes e = tt
none_there None bytes e = λ m rest is. unlisted (has_list m) m (e ∙ ap listed_in is)
  where
    unlisted : (b : Bool) (m : Message) → ◌≡◌ {A = Option Message} None (if b then Some m else None) → b ≡ false
    unlisted true m e = absurd cc
    unlisted false m e = refl
