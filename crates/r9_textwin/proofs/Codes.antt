-- Characters are those of a font.
use Rattle.std.proofs.Common.{◌≡◌, ℕ, ◌<◌, ◌==◌, Bool, true, false, List, [], ◌∷◌, refl, arith, cond}
use Rattle.std.specs.Prelude.{◌-◌, ◌&&◌, nat_le, not, filter, map, All}
use Rattle.std.proofs.lemmas.Bool.{leb-true}
use Rattle.std.proofs.lemmas.List.Elements.{All-cons, All-nil}
use Rattle.model_client.specs.textwin.Wrap.{characters, code_of}

code_below : (byte : ℕ) → code_of byte < 95
code_below byte = by (nat_le 0x20 byte) (nat_le byte 0x7E) refl
  where
    by : (b c : Bool) → nat_le byte 0x7E ≡ c → cond (b && c) (byte - 0x20) 31 < 95
    by true true e = omega (arith, leb-true byte 0x7E e)
    by true false e = omega arith
    by false c e = omega arith

all_below : (bytes : List ℕ) → All (λ code. code < 95) (map code_of bytes)
all_below [] = All-nil (λ code. code < 95)
all_below (byte ∷ bytes) = All-cons (λ code. code < 95) (code_of byte) (map code_of bytes) (code_below byte) (all_below bytes)

pub characters_below : (text : List ℕ) → All (λ code. code < 95) (characters text)
characters_below text = all_below (filter (λ byte. not (byte == 10)) text)
