-- One number more of a list.
use Rattle.std.proofs.Common.{◌≡◌, ℕ, zero, suc, ◌-◌, ◌<◌, List, [], ◌∷◌, ◌++◌, take, drop, refl, sym, ap, ◌∙◌, append_assoc, append-nil, arith}
use Rattle.std.specs.Int.{Width, byte_len, from_le_bytes}
use Rattle.model_draw_parts.specs.dmsg.Reading.{numbers_of}

next : (w : Width) (n : ℕ) (rest : List ℕ) → 0 < n
    → numbers_of w n rest ≡ from_le_bytes w (take (byte_len w) rest) ∷ numbers_of w (n - 1) (drop (byte_len w) rest)
unfolding numbers_of
next w zero rest h = absurd (omega arith)
next w (suc n) rest h =
    let e : suc n - 1 ≡ n = omega arith in
    rw e refl

pub one_more : (w : Width) (xs whole rest : List ℕ) (n : ℕ) → 0 < n → xs ++ numbers_of w n rest ≡ whole
    → (xs ++ from_le_bytes w (take (byte_len w) rest) ∷ []) ++ numbers_of w (n - 1) (drop (byte_len w) rest) ≡ whole
one_more w xs whole rest n h e =
    append_assoc xs (from_le_bytes w (take (byte_len w) rest) ∷ []) _ ∙ ap (λ ys. xs ++ ys) (sym (next w n rest h)) ∙ e

pub no_more : (w : Width) (xs whole rest : List ℕ) (n : ℕ) → n ≡ 0 → xs ++ numbers_of w n rest ≡ whole → xs ≡ whole
unfolding numbers_of
no_more w xs whole rest zero z e = sym (append-nil xs) ∙ e
no_more w xs whole rest (suc n) z e = absurd (omega arith)
