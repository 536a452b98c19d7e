-- What stands behind the first message changes nothing of it.
use Rattle.std.proofs.Common.{◌≡◌, ℕ, ◌≤◌, ◌||◌, Bool, true, false, cond, ltb, List, ◌++◌, length, take, drop, refl, sym, ap, ◌∙◌, arith}
use Rattle.std.specs.Int.{w32, from_le_bytes}
use Rattle.std.proofs.lemmas.Bool.{ltb-false, le-ltb}
use Rattle.std.proofs.lemmas.List.{take-append-le, take-append-drop, length-append, length-take}
use Rattle.model_files.specs.frame.Frame.{Frame, NeedMore, BadSize, size_of, is_bad, first}

-- which way the tests went, where a frame came
record IsFrame (limit : ℕ) (bytes frame : List ℕ) : Type 0 where
  pub four : 4 ≤ length bytes
  pub good : is_bad limit (size_of bytes) ≡ false
  pub whole : size_of bytes ≤ length bytes
  pub frame_is : take (size_of bytes) bytes ≡ frame

-- and where a bad size came
record IsBadSize (limit : ℕ) (bytes : List ℕ) (size : ℕ) : Type 0 where
  pub four : 4 ≤ length bytes
  pub bad : is_bad limit (size_of bytes) ≡ true
  pub size_is : size_of bytes ≡ size

frame_of : (limit : ℕ) (bytes frame : List ℕ) → first limit bytes ≡ Frame frame → IsFrame limit bytes frame
unfolding first
frame_of limit bytes frame e = go (ltb (length bytes) 4) refl (is_bad limit (size_of bytes)) refl (ltb (length bytes) (size_of bytes)) refl e
  where
    go : (a : Bool) → ltb (length bytes) 4 ≡ a → (b : Bool) → is_bad limit (size_of bytes) ≡ b → (c : Bool) → ltb (length bytes) (size_of bytes) ≡ c
        → cond a NeedMore (cond b (BadSize (size_of bytes)) (cond c NeedMore (Frame (take (size_of bytes) bytes)))) ≡ Frame frame → IsFrame limit bytes frame
    go true ea b eb c ec f = absurd cc
    go false ea true eb c ec f = absurd cc
    go false ea false eb true ec f = absurd cc
    go false ea false eb false ec f = record { four = ltb-false _ _ ea; good = eb; whole = ltb-false _ _ ec; frame_is = cc }

bad_of : (limit : ℕ) (bytes : List ℕ) (size : ℕ) → first limit bytes ≡ BadSize size → IsBadSize limit bytes size
unfolding first
bad_of limit bytes size e = go (ltb (length bytes) 4) refl (is_bad limit (size_of bytes)) refl (ltb (length bytes) (size_of bytes)) e
  where
    go : (a : Bool) → ltb (length bytes) 4 ≡ a → (b : Bool) → is_bad limit (size_of bytes) ≡ b → (c : Bool)
        → cond a NeedMore (cond b (BadSize (size_of bytes)) (cond c NeedMore (Frame (take (size_of bytes) bytes)))) ≡ BadSize size → IsBadSize limit bytes size
    go true ea b eb c f = absurd cc
    go false ea true eb c f = record { four = ltb-false _ _ ea; bad = eb; size_is = cc }
    go false ea false eb true f = absurd cc
    go false ea false eb false f = absurd cc

same_size : (bytes more : List ℕ) → 4 ≤ length bytes → size_of (bytes ++ more) ≡ size_of bytes
same_size bytes more four = ap (from_le_bytes w32) (take-append-le 4 bytes more four)

pub frame_stays : (limit : ℕ) (bytes more frame : List ℕ) → first limit bytes ≡ Frame frame → first limit (bytes ++ more) ≡ Frame frame
unfolding first
frame_stays limit bytes more frame e =
    let f = frame_of limit bytes frame e in
    let size : size_of (bytes ++ more) ≡ size_of bytes = same_size bytes more f.four in
    let four : ltb (length (bytes ++ more)) 4 ≡ false = le-ltb _ _ (omega (arith, length-append bytes more, f.four)) in
    let whole : ltb (length (bytes ++ more)) (size_of bytes) ≡ false = le-ltb _ _ (omega (arith, length-append bytes more, f.whole)) in
    let front : take (size_of bytes) (bytes ++ more) ≡ frame = take-append-le (size_of bytes) bytes more f.whole ∙ f.frame_is in
    rw (four, size, f.good, whole, front) refl

pub bad_stays : (limit size : ℕ) (bytes more : List ℕ) → first limit bytes ≡ BadSize size → first limit (bytes ++ more) ≡ BadSize size
unfolding first
bad_stays limit size bytes more e =
    let f = bad_of limit bytes size e in
    let same : size_of (bytes ++ more) ≡ size_of bytes = same_size bytes more f.four in
    let four : ltb (length (bytes ++ more)) 4 ≡ false = le-ltb _ _ (omega (arith, length-append bytes more, f.four)) in
    rw (four, same, f.bad, f.size_is) refl

pub frame_lawful : (limit : ℕ) (bytes frame : List ℕ) → first limit bytes ≡ Frame frame → (length frame ≡ size_of bytes) × (7 ≤ length frame) × (length frame ≤ limit)
frame_lawful limit bytes frame e =
    let f = frame_of limit bytes frame e in
    let len : length frame ≡ size_of bytes = ap length (sym f.frame_is) ∙ omega (arith, length-take (size_of bytes) bytes, f.whole) in
    let good = not_bad (ltb (size_of bytes) 7) (ltb limit (size_of bytes)) f.good in
    (len, omega (arith, len, ltb-false _ _ good.0), omega (arith, len, ltb-false _ _ good.1))
  where
    not_bad : (a b : Bool) → (a || b) ≡ false → (a ≡ false) × (b ≡ false)
    not_bad true b e = absurd cc
    not_bad false b e = (refl, e)

pub frame_parts : (limit : ℕ) (bytes frame : List ℕ) → first limit bytes ≡ Frame frame → bytes ≡ frame ++ drop (length frame) bytes
frame_parts limit bytes frame e =
    let f = frame_of limit bytes frame e in
    let len = (frame_lawful limit bytes frame e).0 in
    sym (take-append-drop (size_of bytes) bytes) ∙ ap (λ (front : List ℕ). front ++ drop (size_of bytes) bytes) f.frame_is ∙ ap (λ (n : ℕ). frame ++ drop n bytes) (sym len)

pub frame_within : (limit : ℕ) (bytes frame : List ℕ) → first limit bytes ≡ Frame frame → length frame ≤ length bytes
frame_within limit bytes frame e =
    let f = frame_of limit bytes frame e in
    omega (arith, (frame_lawful limit bytes frame e).0, f.whole)
