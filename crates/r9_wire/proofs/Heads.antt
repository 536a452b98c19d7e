-- A head and the body behind it are a message.
use Rattle.std.proofs.Common.{◌≡◌, ℕ, ◌+◌, List, [], ◌∷◌, ◌++◌, length, Result, Ok, Err, sym, ap, ◌∙◌, append_assoc, arith}
use Rattle.std.specs.Prelude.{IfOk}
use Rattle.std.proofs.lemmas.List.{append-nil, length-append}
use Rattle.model_text.specs.text.Number.{two_bytes, four_bytes}
use Rattle.model_files.specs.wire.Spelling.{sized, message}

pub headed : (kind tag len : ℕ) (head body bytes : List ℕ) → head ≡ four_bytes (7 + len) ++ kind ∷ two_bytes tag → length head ≡ 7 → length bytes ≡ 7 + len → bytes ≡ head ++ body
    → bytes ≡ message kind tag body
unfolding message
headed kind tag len head body bytes is seven long parts =
    let size : len ≡ length body = omega (arith, seven, long, ap length parts, length-append head body) in
    parts ∙ ap (λ (h : List ℕ). h ++ body) is ∙ append_assoc (four_bytes (7 + len)) (kind ∷ two_bytes tag) body
    ∙ ap (λ (n : ℕ). four_bytes (7 + n) ++ (kind ∷ (two_bytes tag ++ body))) size

-- one part behind another
pub behind : (head first mid second bytes : List ℕ) → mid ≡ head ++ first → bytes ≡ mid ++ second → bytes ≡ head ++ (first ++ second)
behind head first mid second bytes is more = more ∙ ap (λ (t : List ℕ). t ++ second) is ∙ append_assoc head first second

-- a text with its length before it
pub twice_sized : (tag len : ℕ) (text head mid bytes : List ℕ) → len ≡ length text → head ≡ four_bytes (7 + (2 + len)) ++ 125 ∷ two_bytes tag → length head ≡ 7 → mid ≡ head ++ two_bytes len → bytes ≡ mid ++ text
    → bytes ≡ message 125 tag (sized text)
unfolding sized
twice_sized tag len text head mid bytes size is seven first second =
    let parts : bytes ≡ head ++ (two_bytes len ++ text) = behind head (two_bytes len) mid text bytes first second in
    let long : length bytes ≡ 7 + (2 + len) = omega (arith, seven, size, ap length parts, length-append head (two_bytes len ++ text), length-append (two_bytes len) text) in
    headed 125 tag (2 + len) head (two_bytes (length text) ++ text) bytes is seven long (parts ∙ ap (λ (n : ℕ). head ++ (two_bytes n ++ text)) size)

pub bare : {E : Type 0} (kind tag : ℕ) (result : Result (List ℕ) E) → IfOk result (λ b. b ≡ four_bytes (7 + 0) ++ kind ∷ two_bytes tag) → IfOk result (λ b. b ≡ message kind tag [])
unfolding message
bare kind tag (Ok bytes) is = is ∙ ap (λ (t : List ℕ). four_bytes 7 ++ kind ∷ t) (sym (append-nil (two_bytes tag)))
bare kind tag (Err e) is = tt
