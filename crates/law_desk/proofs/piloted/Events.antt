-- An event of the mouse is read back from its text (mouse(3)).
use Rattle.std.proofs.Common.{◌≡◌, ◌∙◌, ◌<◌, ◌≤◌, ◌-◌, ◌^◌, ℕ, pos, zero, suc, true, false, eqb, List, [], ◌∷◌, ◌++◌, length, replicate, drop, Some, refl, sym, ap, subst, append-nil, append_assoc, arith}
use Rattle.std.specs.Prelude.{int_le, neg_ℤ, slice_index}
use Rattle.std.specs.Fmt.{decimal}
use Rattle.std.specs.List.{prefix_len}
use Rattle.std.proofs.lemmas.Bool.{and_from, le-leb, ne_eqb, eq-eqb}
use Rattle.std.proofs.lemmas.Int.{ints}
use Rattle.std.proofs.lemmas.Fmt.{decimal_nonempty, length-decimal-le}
use Rattle.std.proofs.lemmas.List.{drop_at, get_or_at, length-append, length-replicate, take_at}
use Rattle.std.proofs.lemmas.List.Elements.{All-head}
use Rattle.model_text.specs.text.Field.{field, integer, number_field, read_field}
use Rattle.model_files.specs.declared.mouse.Mouse.{Mouse}
use Rattle.model_files.specs.mouse.Pointer.{coordinate_in, is_within, natural_in, pointer_of, text}
use Rattle.law_text.proofs.client.Numbers.{IsDigit}
use Rattle.law_desk.specs.piloted.Following.{IsEvent}
use Rattle.law_desk.proofs.piloted.Numbers.{IsNumber, all_digits, decimal_is}

-- ---- a field

blanks : (k : ℕ) (byte : ℕ) (word : List ℕ) → eqb byte 32 ≡ false → prefix_len (λ b. eqb b 32) (replicate k 32 ++ byte ∷ word) ≡ k
blanks zero byte word other = rw other refl
blanks (suc k) byte word other = let rest = blanks k byte word other in omega (arith, rest)

record IsWord (n : ℕ) (word : List ℕ) : Type 0 where
  first : ℕ
  more : List ℕ
  is : word ≡ first ∷ more
  other : eqb first 32 ≡ false
  short : length word ≤ 11
  spelled : integer word ≡ Some (pos n)

word_again : (n : ℕ) (word rest : List ℕ) → IsWord n word → read_field (field word ++ rest) ≡ Some (pos n)
unfolding read_field field
word_again n word rest is =
    let front : List ℕ = replicate (11 - length word) 32 ++ word in
    let short = is.short in
    let blank : ℕ = 32 in
    let many : length (replicate (11 - length word) blank) ≡ 11 - length word = length-replicate (11 - length word) blank in
    let long : length front ≡ 11 = length-append (replicate (11 - length word) 32) word ∙ omega (arith, many, short) in
    let parts : (front ++ 32 ∷ []) ++ rest ≡ front ++ 32 ∷ rest = append_assoc front (32 ∷ []) rest in
    let enough : 12 ≤ length (front ++ 32 ∷ rest) = omega (arith, length-append front (32 ∷ rest), long) in
    let first : prefix_len (λ b. eqb b 32) front ≡ 11 - length word =
    ap (λ (w : List ℕ). prefix_len (λ b. eqb b 32) (replicate (11 - length word) 32 ++ w)) is.is ∙ blanks (11 - length word) is.first is.more is.other
    in
    rw (
      parts,
      le-leb 12 (length (front ++ 32 ∷ rest)) enough,
      eq-eqb (slice_index (front ++ 32 ∷ rest) 11) 32 (get_or_at front 32 rest 0 11 long),
      take_at front (32 ∷ rest) 11 long,
      first,
      drop_at (replicate (11 - length word) 32) word (11 - length word) many,
    ) is.spelled

-- ---- a number

word_of : (n : ℕ) (digits : List ℕ) → IsNumber n digits → 0 < length digits → length digits ≤ 11 → IsWord n digits
word_of n [] number some few = absurd (omega (arith, some))
word_of n (digit ∷ digits) number some few =
    let first = All-head IsDigit digit digits number.are in
    let no_minus : eqb digit 45 ≡ false = ne_eqb digit 45 (λ e. omega (arith, e, first.0)) in
    record {
      first = digit;
      more = digits;
      is = refl;
      other = ne_eqb digit 32 (λ e. omega (arith, e, first.0));
      short = few;
      spelled = rw (no_minus, le-leb 1 (length (digit ∷ digits)) (omega (arith, some)), all_digits (digit ∷ digits) number.are, number.is) refl;
    }

decimal_word : (n : ℕ) → n < 10 ^ 11 → IsWord n (decimal n)
decimal_word n small =
    let fits : n < 2 ^ 64 = omega (arith, small) in
    word_of n (decimal n) (decimal_is n fits) (decimal_nonempty n fits) (length-decimal-le 11 n (omega arith) small fits)

-- ---- the fields of an event

abbrev written : ℕ → List ℕ
written n = number_field (pos n)

written_len : (n : ℕ) → n < 10 ^ 11 → length (written n) ≡ 12
unfolding field
written_len n small =
    let short = (decimal_word n small).short in
    let blank : ℕ = 32 in
    let many : length (replicate (11 - length (decimal n)) blank) ≡ 11 - length (decimal n) = length-replicate (11 - length (decimal n)) blank in
    omega (arith, length-append (replicate (11 - length (decimal n)) 32 ++ decimal n) (32 ∷ []), length-append (replicate (11 - length (decimal n)) 32) (decimal n), many, short)

low : (n most : ℕ) → n ≤ most → int_le (neg_ℤ (pos most)) (pos n) ≡ true
low n most few = grind (arith, ints)

high : (n most : ℕ) → n ≤ most → int_le (pos n) (pos most) ≡ true
high n most few = grind (arith, ints)

not_below : (n : ℕ) → int_le (pos 0) (pos n) ≡ true
not_below n = grind (arith, ints)

within : (n most : ℕ) → n ≤ most → is_within (neg_ℤ (pos most)) (pos most) (pos n) ≡ true
within n most few = and_from _ _ (low n most few) (high n most few)

natural_within : (n most : ℕ) → n ≤ most → is_within (pos 0) (pos most) (pos n) ≡ true
natural_within n most few = and_from _ _ (not_below n) (high n most few)

coordinate_again : (n : ℕ) (rest : List ℕ) → n ≤ 2 ^ 20 → coordinate_in (written n ++ rest) ≡ Some (pos n)
coordinate_again n rest few = rw (word_again n (decimal n) rest (decimal_word n (omega (arith, few))), within n (2 ^ 20) few) refl

natural_again : (n most : ℕ) (rest : List ℕ) → n ≤ most → n < 10 ^ 11 → natural_in most (written n ++ rest) ≡ Some n
natural_again n most rest few small = rw (word_again n (decimal n) rest (decimal_word n small), natural_within n most few) refl

behind_two : (a b rest : List ℕ) → length a ≡ 12 → length b ≡ 12 → drop 24 (a ++ (b ++ rest)) ≡ rest
behind_two a b rest one two = ap (drop 24) (sym (append_assoc a b rest)) ∙ drop_at (a ++ b) rest 24 (length-append a b ∙ omega (arith, one, two))

behind_three : (a b c rest : List ℕ) → length a ≡ 12 → length b ≡ 12 → length c ≡ 12 → drop 36 (a ++ (b ++ (c ++ rest))) ≡ rest
behind_three a b c rest one two three =
    ap (drop 36) (sym (append_assoc a b (c ++ rest)) ∙ sym (append_assoc (a ++ b) c rest))
    ∙ drop_at ((a ++ b) ++ c) rest 36 (length-append (a ++ b) c ∙ omega (arith, length-append a b, one, two, three))

-- four fields, from the left
in_turn : (a b c d : List ℕ) → a ++ b ++ c ++ d ≡ a ++ (b ++ (c ++ d))
in_turn a b c d = append_assoc (a ++ b) c d ∙ append_assoc a b (c ++ d)

long : (a b c d : List ℕ) → length a ≡ 12 → length b ≡ 12 → length c ≡ 12 → length d ≡ 12 → length (a ++ (b ++ (c ++ d))) ≡ 48
long a b c d one two three four = omega (arith, length-append a (b ++ (c ++ d)), length-append b (c ++ d), length-append c d, one, two, three, four)

event_again : (left top buttons msec : ℕ) → left < 640 → top < 480 → buttons ≤ 31 → msec < 2 ^ 32
    → pointer_of (text 109 (record { x = pos left; y = pos top; buttons = buttons; msec = msec })) ≡ Some (record { x = pos left; y = pos top; buttons = buttons; msec = msec })
unfolding pointer_of text
event_again left top buttons msec wide high pressed late =
    let a : length (written left) ≡ 12 = written_len left (omega (arith, wide)) in
    let b : length (written top) ≡ 12 = written_len top (omega (arith, high)) in
    let c : length (written buttons) ≡ 12 = written_len buttons (omega (arith, pressed)) in
    let d : length (written msec) ≡ 12 = written_len msec (omega (arith, late)) in
    let bytes : List ℕ = written left ++ (written top ++ (written buttons ++ written msec)) in
    let all : length (109 ∷ bytes) ≡ 49 = omega (arith, long (written left) (written top) (written buttons) (written msec) a b c d) in
    let x : coordinate_in bytes ≡ Some (pos left) = coordinate_again left (written top ++ (written buttons ++ written msec)) (omega (arith, wide)) in
    let y : coordinate_in (drop 12 bytes) ≡ Some (pos top) =
    ap coordinate_in (drop_at (written left) (written top ++ (written buttons ++ written msec)) 12 a) ∙ coordinate_again top (written buttons ++ written msec) (omega (arith, high))
    in
    let p : natural_in 31 (drop 24 bytes) ≡ Some buttons =
    ap (natural_in 31) (behind_two (written left) (written top) (written buttons ++ written msec) a b) ∙ natural_again buttons 31 (written msec) pressed (omega (arith, pressed))
    in
    let t : natural_in (2 ^ 32 - 1) (drop 36 bytes) ≡ Some msec =
    ap (natural_in (2 ^ 32 - 1)) (behind_three (written left) (written top) (written buttons) (written msec) a b c ∙ sym (append-nil (written msec))) ∙ natural_again msec (2 ^ 32 - 1) [] (omega (arith, late)) (omega (arith, late))
    in
    rw (in_turn (written left) (written top) (written buttons) (written msec), all, x, y, p, t) refl

-- What is written of an event is that event.
pub pointer_again : (e : Mouse) → IsEvent e → pointer_of (text 109 e) ≡ Some e
pointer_again e is =
    subst (λ (f : Mouse). pointer_of (text 109 f) ≡ Some f) (λ i. record { x = sym is.x i; y = sym is.y i; buttons = e.buttons; msec = e.msec })
    (event_again is.left is.top e.buttons e.msec is.wide is.high is.buttons is.msec)

pub text_len : (e : Mouse) → IsEvent e → length (text 109 e) ≡ 49
unfolding text
text_len e is =
    let a : length (number_field e.x) ≡ 12 = ap (λ n. length (number_field n)) is.x ∙ written_len is.left (let wide = is.wide in omega (arith, wide)) in
    let b : length (number_field e.y) ≡ 12 = ap (λ n. length (number_field n)) is.y ∙ written_len is.top (let high = is.high in omega (arith, high)) in
    let c : length (written e.buttons) ≡ 12 = written_len e.buttons (let pressed = is.buttons in omega (arith, pressed)) in
    let d : length (written e.msec) ≡ 12 = written_len e.msec (let late = is.msec in omega (arith, late)) in
    ap (λ (bytes : List ℕ). length (109 ∷ bytes)) (in_turn (number_field e.x) (number_field e.y) (written e.buttons) (written e.msec))
    ∙ omega (arith, long (number_field e.x) (number_field e.y) (written e.buttons) (written e.msec) a b c d)
