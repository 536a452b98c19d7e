-- Channel descriptors, which are 32-bit words, and what a raw pixel means under one (image(6), draw(2)).
use Rattle.std.specs.Prelude.{ℕ, zero, suc, ◌+◌, ◌-◌, ◌*◌, ◌/◌, ◌%◌, ◌^◌, Bool, ◌&&◌, ◌||◌, ◌==◌, nat_le, if◌then◌else◌, List, [], ◌∷◌, ◌++◌, map}
use Rattle.std.specs.List.{list_all, count_by, sum_by}

-- A channel has a kind, red 0, green 1, blue 2, grey 3, alpha 4 or ignored 6, and a number of bits.
pub record Channel : Type 0 where
  pub kind : ℕ
  pub bits : ℕ

abbrev pub RED : ℕ
RED = 0

abbrev pub GREEN : ℕ
GREEN = 1

abbrev pub BLUE : ℕ
BLUE = 2

abbrev pub GREY : ℕ
GREY = 3

abbrev pub ALPHA : ℕ
ALPHA = 4

abbrev pub IGNORED : ℕ
IGNORED = 6

-- the bytes of a number up to the highest that is not 0, at most so many, the lowest first
abbrev pub bytes_up_to : ℕ → ℕ → List ℕ
bytes_up_to zero word = []
bytes_up_to (suc most) word = if word == 0 then [] else word % 256 ∷ bytes_up_to most (word / 256)

-- the channel of a byte of a descriptor
abbrev pub channel : ℕ → Channel
channel byte = record { kind = byte / 16; bits = byte % 16 }

-- The channels of a descriptor, the last-named first: it has the lowest byte of the descriptor and the lowest bits of a pixel.
unfoldable pub channels : ℕ → List Channel
channels word = map channel (bytes_up_to 4 word)

-- the bits of a pixel
abbrev pub depth : ℕ → ℕ
depth word = sum_by (λ c. c.bits) (channels word)

-- how many channels of a kind there are
abbrev pub count_of : ℕ → ℕ → ℕ
count_of kind word = count_by (λ c. c.kind == kind) (channels word)

-- whether it is the number of a kind
abbrev pub is_kind : ℕ → Bool
is_kind kind = nat_le kind ALPHA || kind == IGNORED

-- whether a channel has a kind and 1 to 8 bits
abbrev pub is_channel : Channel → Bool
is_channel c = is_kind c.kind && (nat_le 1 c.bits && nat_le c.bits 8)

-- whether pixels may have so many bits
abbrev pub is_depth : ℕ → Bool
is_depth n = (n == 1) || (n == 2) || (n == 4) || (n == 8) || (n == 16) || (n == 24) || (n == 32)

-- Whether the colour channels fit together: one grey; or one red, one green and one blue; or none of these
-- and one alpha.
abbrev pub is_colouring : ℕ → Bool
is_colouring word =
    ((count_of GREY word == 1) && (count_of RED word == 0) && (count_of GREEN word == 0) && (count_of BLUE word == 0))
    || ((count_of GREY word == 0) && (count_of RED word == 1) && (count_of GREEN word == 1) && (count_of BLUE word == 1))
    || ((count_of GREY word == 0) && (count_of RED word == 0) && (count_of GREEN word == 0) && (count_of BLUE word == 0) && (count_of ALPHA word == 1))

-- Whether a word is a channel descriptor. A zero byte below a used one is no channel, since it has no bits.
abbrev pub is_descriptor : ℕ → Bool
is_descriptor word =
    list_all is_channel (channels word) && is_depth (depth word) && is_colouring word
    && nat_le (count_of ALPHA word) 1 && nat_le (count_of IGNORED word) 1

-- the letter of a kind: r, g, b, k, a or x
abbrev pub letter : ℕ → ℕ
letter kind =
    if kind == RED then 114 else
    if kind == GREEN then 103 else
    if kind == BLUE then 98 else
    if kind == GREY then 107 else
    if kind == ALPHA then 97 else 120

-- the text of channels whose last-named comes first
abbrev pub named : List Channel → List ℕ
named [] = []
named (c ∷ cs) = named cs ++ letter c.kind ∷ (48 + c.bits) ∷ []

-- the text of a descriptor: the letter of each channel and its bits as a digit, in the order of the names
unfoldable pub name : ℕ → List ℕ
name word = named (channels word)

-- A colour, premultiplied by its alpha. Each component is at most 255.
pub record Colour : Type 0 where
  pub r : ℕ
  pub g : ℕ
  pub b : ℕ
  pub a : ℕ

-- a value of so many bits, written side by side so many times
abbrev pub repeated : ℕ → ℕ → ℕ → ℕ
repeated zero bits value = 0
repeated (suc times) bits value = repeated times bits value * 2 ^ bits + value

-- A value of so many bits as one of 8: its bits are repeated from the top until 8 are filled. Written eight times they
-- fill 8 and more, and the top 8 stay.
unfoldable pub promoted : ℕ → ℕ → ℕ
promoted bits value = repeated 8 bits value / 2 ^ (8 * bits - 8)

-- the value of a raw pixel's channel of a kind, at 8 bits, or a default where there is none
abbrev pub level : ℕ → ℕ → List Channel → ℕ → ℕ
level kind default [] raw = default
level kind default (c ∷ cs) raw =
    if c.kind == kind then promoted c.bits (raw % 2 ^ c.bits) else level kind default cs (raw / 2 ^ c.bits)

-- The colour of a raw pixel: a grey stands for red, green and blue; without these the colour is black, and without
-- alpha it is opaque.
unfoldable pub expand : ℕ → ℕ → Colour
expand word raw =
    let cs = channels word in
    let grey = level GREY 0 cs raw in
    record { r = level RED grey cs raw; g = level GREEN grey cs raw; b = level BLUE grey cs raw; a = level ALPHA 255 cs raw }

-- the grey of a colour: its luminance in steps of 2^-19
abbrev pub grey_of : Colour → ℕ
grey_of c = (156763 * c.r + 307758 * c.g + 59769 * c.b) / 2 ^ 19

-- what a colour writes into a channel of a kind, at 8 bits; 0 into an ignored one
abbrev pub component : ℕ → Colour → ℕ
component kind c =
    if kind == RED then c.r else
    if kind == GREEN then c.g else
    if kind == BLUE then c.b else
    if kind == GREY then grey_of c else
    if kind == ALPHA then c.a else 0

-- the bits of channels whose lowest comes first
abbrev pub packed : List Channel → Colour → ℕ
packed [] colour = 0
packed (c ∷ cs) colour = component c.kind colour / 2 ^ (8 - c.bits) + 2 ^ c.bits * packed cs colour

-- The raw pixel of a colour: each channel keeps the top bits of its component, and an ignored one is 0.
unfoldable pub pack : ℕ → Colour → ℕ
pack word colour = packed (channels word) colour

-- the mask value of a raw pixel: its alpha where it has one, else its grey
unfoldable pub mask : ℕ → ℕ → ℕ
mask word raw = if count_of ALPHA word == 0 then grey_of (expand word raw) else (expand word raw).a

-- the colour of a colour word: red in the highest byte, then green, blue and alpha
abbrev pub colour_of : ℕ → Colour
colour_of word = record {
  r = word / 2 ^ 24 % 256;
  g = word / 2 ^ 16 % 256;
  b = word / 2 ^ 8 % 256;
  a = word % 256;
}
