-- How often images and screens are referred to.
use Rattle.std.specs.Prelude.{ℕ, ◌==◌, ◌+◌, Bool, false, List, Option, None, Some}
use Rattle.std.specs.List.{count_by}
use Rattle.model_draw_parts.specs.declared.images.ImageId.{ImageId}
use Rattle.model_draw_parts.specs.declared.images.ScreenId.{ScreenId}
use Rattle.model_draw_parts.specs.declared.images.OnScreen.{OnScreen}
use Rattle.model_draw_parts.specs.declared.images.Screen.{Screen as Filled}
use Rattle.model_draw_parts.specs.images.Book.{is_on}

-- there is a screen, and it has this image as fill
abbrev pub is_filled_by : ℕ → Option Filled → Bool
is_filled_by i None = false
is_filled_by i (Some s) = s.fill == i

-- how many screens are on an image
abbrev pub screens_on : ℕ → List (Option Filled) → ℕ
screens_on i screens = count_by (is_on i) screens

-- how often an image is referred to: by ids, and by screens on it and with it as fill
abbrev pub image_uses : ℕ → List ImageId → List (Option Filled) → ℕ
image_uses i ids screens = count_by (λ e. e.image == i) ids + (count_by (is_on i) screens + count_by (is_filled_by i) screens)

-- how often a screen is referred to: by ids and by windows
abbrev pub screen_uses : ℕ → List ScreenId → List OnScreen → ℕ
screen_uses s ids windows = count_by (λ e. e.screen == s) ids + count_by (λ w. w.screen == s) windows
