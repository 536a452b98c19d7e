-- The messages that show a menu's bands are short.
use Rattle.std.proofs.Common.{◌≡◌, ◌≤◌, ◌<◌, ◌+◌, ◌^◌, ℕ, List, [], ◌∷◌, ◌++◌, codes, length, refl, arith, length-append}
use Rattle.std.specs.Fmt.{decimal}
use Rattle.std.specs.List.{flat_map}
use Rattle.std.proofs.lemmas.Fmt.{length-decimal-le}
use Rattle.model_clients.specs.client.Messages.{drawing, image, named}
use Rattle.model_clients.specs.bands.Bands.{inks}
use Rattle.law_desk.specs.bands.Bands.{band, bands, freed}

-- the name of a window's first image
abbrev pub name : (window : ℕ) → List ℕ
name window = codes "window." ++ decimal window ++ codes ".1"

name_len : (window : ℕ) → window < 2 ^ 64 → length (name window) ≤ 29
name_len window fits =
    let few = length-decimal-le 20 window (omega arith) (omega (arith, fits)) fits in
    omega (arith, few, length-append (codes "window." ++ decimal window) (codes ".1"), length-append (codes "window.") (decimal window))

pub name_few : (window : ℕ) → window < 2 ^ 64 → length (name window) < 2 ^ 8
name_few window fits = omega (arith, name_len window fits)

all_len : (x y : ℕ) → length (flat_map (band x y) (0 ∷ 1 ∷ 2 ∷ 3 ∷ 4 ∷ [])) ≡ 225
unfolding drawing
all_len x y = refl

named_len : (id : ℕ) (name : List ℕ) → length (named id name) ≡ 6 + length name
unfolding named
named_len id name = omega arith

freed_len : (id : ℕ) → length (freed id) ≡ 5
unfolding freed
freed_len id = refl

pub bands_short : (window x y : ℕ) → window < 2 ^ 64 → length (bands window x y) ≤ 300
unfolding bands
bands_short window x y fits =
    omega (
      arith,
      name_len window fits,
      named_len 7 (name window),
      all_len x y,
      freed_len 7,
      length-append (named 7 (name window) ++ flat_map (band x y) (0 ∷ 1 ∷ 2 ∷ 3 ∷ 4 ∷ [])) (freed 7),
      length-append (named 7 (name window)) (flat_map (band x y) (0 ∷ 1 ∷ 2 ∷ 3 ∷ 4 ∷ [])),
    )

-- and so are those that make their colours
pub inks_short : length inks ≤ 65537
unfolding inks image
inks_short = omega arith
