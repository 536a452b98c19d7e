-- The text of a descriptor determines its channels, and is made of lawful pairs of a letter and a digit.
use Rattle.std.proofs.Common.{◌≡◌, ℕ, ◌+◌, ◌*◌, ◌/◌, ◌%◌, ◌<◌, ◌≤◌, ◌^◌, ◌≢◌, true, refl, ap, ◌∙◌, sym, arith, List, [], ◌∷◌, ◌++◌, length, get_or, length-append, ⊎_elim, ◌-◌, zero, suc, map, take, append_assoc, pow_mono}
use Rattle.std.specs.List.{list_all}
use Rattle.std.proofs.lemmas.List.{get_or_append_left, take_more}
use Rattle.std.proofs.Math.Seq.{get_or-append_right}
use Rattle.std.proofs.lemmas.Bool.{and_parts, leb-true, cases_lt, cond_both}
use Rattle.std.proofs.lemmas.Nat.{shr-shr, shr_le, pow-add}
use Rattle.std.specs.Prelude.{◌==◌, nat_le}
use Rattle.std.proofs.lemmas.Bool.Decides.{nat_tests}
use Rattle.model_pixel.specs.Channels.{Channel, bytes_up_to, channel, channels, is_channel, is_kind, is_descriptor, letter, name, named}
use Rattle.r9_chan.proofs.ChannelLemmas.{channels_none, channels-step, are_channels_more, same_channel}

pub name_none : (w : ℕ) → w ≡ 0 → name w ≡ []
unfolding name
name_none w h = rw (h, channels_none) refl

pub name-step : (w : ℕ) → w < 2 ^ 32 → w ≢ 0 → name w ≡ name (w / 256) ++ letter (w % 256 / 16) ∷ (48 + w % 256 % 16) ∷ []
unfolding name
name-step w h n = ap named (channels-step w h n)

pair_end : (xs ys : List ℕ) (a b c d : ℕ) → xs ++ a ∷ b ∷ [] ≡ ys ++ c ∷ d ∷ [] → (xs ≡ ys) × (a ≡ c) × (b ≡ d)
pair_end [] [] a b c d h = (refl, cc, cc)
pair_end [] (y ∷ ys) a b c d h = absurd (omega (arith, ap length h, length-append ys (c ∷ d ∷ [])))
pair_end (x ∷ xs) [] a b c d h = absurd (omega (arith, ap length h, length-append xs (a ∷ b ∷ [])))
pair_end (x ∷ xs) (y ∷ ys) a b c d h =
    let tails : xs ++ a ∷ b ∷ [] ≡ ys ++ c ∷ d ∷ [] = cc in
    let rest = pair_end xs ys a b c d tails in
    ((cc (rest.0)), rest.1, rest.2)

letter_tells : (j k : ℕ) → is_kind j ≡ true → is_kind k ≡ true → letter j ≡ letter k → j ≡ k
letter_tells j k p q h = grind (arith, nat_tests)

-- two lists of lawful channels with one text are one
pub named_tells : (cs ds : List Channel) → list_all is_channel cs ≡ true → list_all is_channel ds ≡ true → named cs ≡ named ds → cs ≡ ds
named_tells [] [] p q h = refl
named_tells [] (d ∷ ds) p q h = absurd (omega (arith, ap length h, length-append (named ds) (letter d.kind ∷ (48 + d.bits) ∷ [])))
named_tells (c ∷ cs) [] p q h = absurd (omega (arith, ap length h, length-append (named cs) (letter c.kind ∷ (48 + c.bits) ∷ [])))
named_tells (c ∷ cs) (d ∷ ds) p q h =
    let ends = pair_end (named cs) (named ds) _ _ _ _ h in
    let one = and_parts _ _ p in
    let two = and_parts _ _ q in
    let same = named_tells cs ds one.1 two.1 ends.0 in
    let kind = letter_tells c.kind d.kind (and_parts _ _ one.0).0 (and_parts _ _ two.0).0 ends.1 in
    let bits : c.bits ≡ d.bits = omega (arith, ends.2) in
    λ i. record { kind = kind i; bits = bits i } ∷ same i

-- a text of channels has a letter and a digit of a lawful channel at each even place
pub record Pair (text : List ℕ) (at : ℕ) : Type 0 where
  pub byte : ℕ
  pub below : byte < 256
  pub lawful : is_channel (channel byte) ≡ true
  pub first : letter (byte / 16) ≡ get_or text at 0
  pub second : 48 + byte % 16 ≡ get_or text (at + 1) 0

pub length-named : (cs : List Channel) → length (named cs) ≡ 2 * length cs
length-named [] = refl
length-named (c ∷ cs) = omega (arith, length-named cs, length-append (named cs) (letter c.kind ∷ (48 + c.bits) ∷ []))

kind_most : (k : ℕ) → is_kind k ≡ true → k ≤ 6
kind_most k h = grind (arith, nat_tests)

get_or_append_at : (xs ys : List ℕ) (d n k : ℕ) → n ≡ length xs + k → get_or (xs ++ ys) n d ≡ get_or ys k d
get_or_append_at xs ys d n k h = get_or-append_right xs ys n d (omega arith) ∙ ap (λ j. get_or ys j d) (omega arith)

in_front : (text : List ℕ) (tail : List ℕ) (at : ℕ) → at + 1 < length text → Pair text at → Pair (text ++ tail) at
in_front text tail at within p = record {
  byte = p.byte;
  below = p.below;
  lawful = p.lawful;
  first = p.first ∙ sym (get_or_append_left text tail 0 at (omega arith));
  second = p.second ∙ sym (get_or_append_left text tail 0 (at + 1) within);
}

pub pair_of : (cs : List Channel) (at : ℕ) → list_all is_channel cs ≡ true → at % 2 ≡ 0 → at < length (named cs) → Pair (named cs) at
pair_of [] at all even within = absurd (omega arith)
pair_of (c ∷ cs) at all even within =
    let parts = and_parts _ _ all in
    let tail = letter c.kind ∷ (48 + c.bits) ∷ [] in
    let whole = length-append (named cs) tail in
    let twice = length-named cs in
    let bits = and_parts (nat_le 1 c.bits) (nat_le c.bits 8) (and_parts (is_kind c.kind) _ parts.0).1 in
    let some : 1 ≤ c.bits = leb-true _ _ bits.0 in
    let most : c.bits ≤ 8 = leb-true _ _ bits.1 in
    let kind : c.kind ≤ 6 = kind_most c.kind (and_parts (is_kind c.kind) _ parts.0).0 in
    let high : (16 * c.kind + c.bits) / 16 ≡ c.kind = omega arith in
    let low : (16 * c.kind + c.bits) % 16 ≡ c.bits = omega arith in
    ⊎_elim
    (λ (h : at < length (named cs)). in_front (named cs) tail at (omega arith) (pair_of cs at parts.1 even h))
    (λ (h : length (named cs) ≤ at).
    let here : at ≡ length (named cs) = omega arith in
    record {
      byte = 16 * c.kind + c.bits;
      below = omega arith;
      lawful = ap is_channel (same_channel (channel (16 * c.kind + c.bits)) c high low) ∙ parts.0;
      first = ap letter high ∙ sym (get_or_append_at (named cs) tail 0 at 0 (omega arith));
      second = omega (arith, low, get_or_append_at (named cs) tail 0 (at + 1) 1 (omega arith));
    })
    (cases_lt at (length (named cs)))

-- the text of a word's front parts, one byte more at a time
front-step : (w p : ℕ) → 0 < p → w / 2 ^ (8 * (p - 1)) / 256 ≡ w / 2 ^ (8 * p)
front-step w p h = shr-shr w (8 * (p - 1)) 8 ∙ ap (λ k. w / 2 ^ k) (omega arith)

pub name_more : (w p : ℕ) (written : List ℕ) → w < 2 ^ 32 → 0 < p → w / 2 ^ (8 * (p - 1)) ≢ 0 → written ≡ name (w / 2 ^ (8 * p)) → written ++ letter (w / 2 ^ (8 * (p - 1)) % 256 / 16) ∷ (48 + w / 2 ^ (8 * (p - 1)) % 256 % 16) ∷ [] ≡ name (w / 2 ^ (8 * (p - 1)))
name_more w p written h some n before =
    let front = w / 2 ^ (8 * (p - 1)) in
    let pair = letter (front % 256 / 16) ∷ (48 + front % 256 % 16) ∷ [] in
    ap (λ text. text ++ pair) (before ∙ ap name (sym (front-step w p some)))
    ∙ sym (name-step front (omega (arith, shr_le w (8 * (p - 1)))) n)

pub name_same : (w p : ℕ) → 0 < p → w / 2 ^ (8 * (p - 1)) ≡ 0 → name (w / 2 ^ (8 * (p - 1))) ≡ name (w / 2 ^ (8 * p))
name_same w p some none =
    ap name (none ∙ sym (ap (λ v. v / 256) none) ∙ front-step w p some)

-- two descriptors with one text have the same channels
pub channels_tell : (v w : ℕ) → list_all is_channel (channels v) ≡ true → list_all is_channel (channels w) ≡ true → name v ≡ name w → channels v ≡ channels w
unfolding name
channels_tell v w p q h = named_tells (channels v) (channels w) p q h

pub pair_in : (w at : ℕ) → list_all is_channel (channels w) ≡ true → at % 2 ≡ 0 → at < length (name w) → Pair (name w) at
unfolding name
pair_in w at all even within = pair_of (channels w) at all even within

length-channels : (n w : ℕ) → length (map channel (bytes_up_to n w)) ≤ n
length-channels zero w = omega arith
length-channels (suc n) w =
    cond_both (w == 0) [] (w % 256 ∷ bytes_up_to n (w / 256)) (λ bytes. length (map channel bytes) ≤ suc n)
    (λ _. omega arith)
    (λ _. omega (arith, length-channels n (w / 256)))

-- a text has a letter and a digit for each of at most four channels
pub record Paired (text : List ℕ) : Type 0 where
  pub even : length text % 2 ≡ 0
  pub short : length text ≤ 8

pub paired : (w : ℕ) → Paired (name w)
unfolding name channels
paired w =
    let twice = length-named (channels w) in
    let few = length-channels 4 w in
    record { even = omega arith; short = omega arith }

-- one more channel at the end of a word
pub record Joins (word byte : ℕ) : Type 0 where
  pub sound : list_all is_channel (channels (256 * word + byte)) ≡ true
  pub name : name (256 * word + byte) ≡ name word ++ letter (byte / 16) ∷ (48 + byte % 16) ∷ []

pub joins : (word byte : ℕ) → word < 2 ^ 24 → byte < 256 → is_channel (channel byte) ≡ true → list_all is_channel (channels word) ≡ true → Joins word byte
joins word byte below fits lawful sound =
    let whole = 256 * word + byte in
    let small : whole < 2 ^ 32 = omega arith in
    let bits : 1 ≤ byte % 16 = leb-true 1 (byte % 16) (and_parts (nat_le 1 (byte % 16)) _ (and_parts (is_kind (byte / 16)) _ lawful).1).0 in
    let some : whole ≢ 0 = omega arith in
    let low : whole % 256 ≡ byte = omega arith in
    let high : whole / 256 ≡ word = omega arith in
    record {
      sound =
          are_channels_more whole small some (ap (λ b. is_channel (channel b)) low ∙ lawful)
          ∙ ap (λ v. list_all is_channel (channels v)) high ∙ sound;
      name = name-step whole small some ∙ (λ i. name (high i) ++ letter (low i / 16) ∷ (48 + low i % 16) ∷ []);
    }

-- two more elements of a list
pub take_two : (xs : List ℕ) (i : ℕ) → i + 1 < length xs → take (i + 2) xs ≡ take i xs ++ get_or xs i 0 ∷ get_or xs (i + 1) 0 ∷ []
take_two xs i h =
    ap (λ k. take k xs) (omega arith) ∙ take_more xs (i + 1) 0 h
    ∙ ap (λ front. front ++ get_or xs (i + 1) 0 ∷ []) (take_more xs i 0 (omega arith))
    ∙ append_assoc (take i xs) (get_or xs i 0 ∷ []) (get_or xs (i + 1) 0 ∷ [])

pub descriptor_same : (v w : ℕ) → channels v ≡ channels w → is_descriptor w ≡ true → is_descriptor v ≡ true
descriptor_same v w same h = rw same h

-- with at most six bytes read, one more channel fits
pub record HasRoom (word at : ℕ) : Type 0 where
  pub small : word < 2 ^ 24
  pub joined : (byte : ℕ) → byte < 256 → 256 * word + byte < 2 ^ (4 * (at + 2))

pub has_room : (word at size : ℕ) → word < 2 ^ (4 * at) → at % 2 ≡ 0 → at < size → size % 2 ≡ 0 → size ≤ 8 → HasRoom word at
has_room word at size below even within whole short =
    let six : at ≤ 6 = omega arith in
    let power : 2 ^ (4 * (at + 2)) ≡ 2 ^ (4 * at) * 256 = ap (λ k. 2 ^ k) (omega arith) ∙ pow-add 2 (4 * at) 8 in
    let most : 4 * at ≤ 24 = omega arith in
    record {
      small = omega (arith, below, pow_mono most);
      joined = λ byte fits. omega (arith, power, below);
    }
