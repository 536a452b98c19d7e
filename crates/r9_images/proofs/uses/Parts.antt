-- What the room of all says of each part.
use Rattle.std.proofs.Common.{◌≡◌, ℕ, ◌+◌, ◌<◌, ◌≤◌, arith}
use Rattle.std.specs.Prelude.{◌-◌, min}
use Rattle.r9_images.specs.declared.uses.uses.Uses.{Uses}
use Rattle.r9_images.specs.uses.Room.{room}
use Rattle.r9_images.specs.uses.Tally.{room_of}

pub record Parts (u : Uses) : Type 0 where
  pub image_ids : 0 < u.image_ids.room
  pub screen_ids : 0 < u.screen_ids.room
  pub screens : 0 < u.screens.room
  pub windows : 0 < u.windows.room
  pub images : 1 < room_of u.images.uses u.images.made
  pub on : 1 < room_of u.on.uses u.on.made
  pub numbers : 1 < room_of u.numbers.uses u.numbers.made

pub parts : (u : Uses) → 0 < room u → Parts u
unfolding room
parts u h = record {
  image_ids = omega (arith, h);
  screen_ids = omega (arith, h);
  screens = omega (arith, h);
  windows = omega (arith, h);
  images = omega (arith, h);
  on = omega (arith, h);
  numbers = omega (arith, h);
}

-- ---- the room of all, where that of each part is known

pub le-refl : (n : ℕ) → n ≤ n
le-refl n = omega arith

pub le-more : (n l : ℕ) → n ≤ n + l
le-more n l = omega arith

pub le-same : (n m : ℕ) → m ≡ n → n ≤ m
le-same n m h = omega (arith, h)

pub le-trans : (a b c : ℕ) → a ≤ b → b ≤ c → a ≤ c
le-trans a b c h k = omega (arith, h, k)

min-grows : (a b c d l : ℕ) → a ≤ c + l → b ≤ d + l → min a b ≤ min c d + l
min-grows a b c d l h k = omega (arith, h, k)

one-grows : (n m l : ℕ) → n ≤ m + l → n - 1 ≤ m - 1 + l
one-grows n m l h = omega (arith, h)

later : (n m l : ℕ) → n ≤ m → n ≤ m + l
later n m l h = omega (arith, h)

all-grow :
    (a b c d e f g a₂ b₂ c₂ d₂ e₂ f₂ g₂ l : ℕ) → a ≤ a₂ + l → b ≤ b₂ + l → c ≤ c₂ + l → d ≤ d₂ + l → e ≤ e₂ + l → f ≤ f₂ + l → g ≤ g₂ + l
    → min a (min b (min c (min d (min e (min f g))))) ≤ min a₂ (min b₂ (min c₂ (min d₂ (min e₂ (min f₂ g₂))))) + l
all-grow a b c d e f g a₂ b₂ c₂ d₂ e₂ f₂ g₂ l h₁ h₂ h₃ h₄ h₅ h₆ h₇ =
    min-grows a (min b (min c (min d (min e (min f g))))) a₂ (min b₂ (min c₂ (min d₂ (min e₂ (min f₂ g₂))))) l h₁
    (min-grows b (min c (min d (min e (min f g)))) b₂ (min c₂ (min d₂ (min e₂ (min f₂ g₂)))) l h₂
    (min-grows c (min d (min e (min f g))) c₂ (min d₂ (min e₂ (min f₂ g₂))) l h₃
    (min-grows d (min e (min f g)) d₂ (min e₂ (min f₂ g₂)) l h₄ (min-grows e (min f g) e₂ (min f₂ g₂) l h₅ (min-grows f g f₂ g₂ l h₆ h₇)))))

-- where that of the images' counts has fallen by so much at most
pub room-grows :
    (old new : Uses) (less : ℕ) → old.image_ids.room ≤ new.image_ids.room → old.screen_ids.room ≤ new.screen_ids.room → old.screens.room ≤ new.screens.room
    → old.windows.room ≤ new.windows.room → room_of old.images.uses old.images.made ≤ room_of new.images.uses new.images.made + less → room_of old.on.uses old.on.made ≤ room_of new.on.uses new.on.made
    → room_of old.numbers.uses old.numbers.made ≤ room_of new.numbers.uses new.numbers.made → room old ≤ room new + less
unfolding room
room-grows old new less image_ids screen_ids screens windows images on numbers =
    all-grow old.image_ids.room old.screen_ids.room old.screens.room old.windows.room (room_of old.images.uses old.images.made - 1) (room_of old.on.uses old.on.made - 1)
    (room_of old.numbers.uses old.numbers.made - 1) new.image_ids.room new.screen_ids.room new.screens.room new.windows.room
    (room_of new.images.uses new.images.made - 1) (room_of new.on.uses new.on.made - 1) (room_of new.numbers.uses new.numbers.made - 1) less (later _ _ less image_ids) (later _ _ less screen_ids)
    (later _ _ less screens) (later _ _ less windows)
    (one-grows (room_of old.images.uses old.images.made) (room_of new.images.uses new.images.made) less images)
    (one-grows (room_of old.on.uses old.on.made) (room_of new.on.uses new.on.made) less (later _ _ less on))
    (one-grows (room_of old.numbers.uses old.numbers.made) (room_of new.numbers.uses new.numbers.made) less (later _ _ less numbers))

-- where none has fallen
pub room-kept :
    (old new : Uses) → old.image_ids.room ≤ new.image_ids.room → old.screen_ids.room ≤ new.screen_ids.room → old.screens.room ≤ new.screens.room
    → old.windows.room ≤ new.windows.room → room_of old.images.uses old.images.made ≤ room_of new.images.uses new.images.made → room_of old.on.uses old.on.made ≤ room_of new.on.uses new.on.made
    → room_of old.numbers.uses old.numbers.made ≤ room_of new.numbers.uses new.numbers.made → room old ≤ room new
room-kept old new image_ids screen_ids screens windows images on numbers =
    let grows = room-grows old new 0 image_ids screen_ids screens windows (later _ _ 0 images) on numbers in
    omega (arith, grows)
