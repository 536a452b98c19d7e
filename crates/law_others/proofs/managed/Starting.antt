-- A draw device is whole when it starts.
use Rattle.std.proofs.Common.{◌≡◌, ℕ, zero, suc, Bool, true, false, [], Some, None, refl, sym, subst, ◌∙◌, arith}
use Rattle.std.specs.Prelude.{◌==◌, find, is_some}
use Rattle.std.proofs.lemmas.Bool.{eqb-true}
use Rattle.std.proofs.lemmas.Bool.Decides.{nat_tests}
use Rattle.std.proofs.lemmas.List.Elements.{All-cons, All-nil}
use Rattle.model_forest.specs.World.{World as Images, IsLive, image_at, parent_of}
use Rattle.model_forest.specs.Steps.{after_image, after_set}
use Rattle.model_draw_parts.specs.declared.images.ImageId.{ImageId}
use Rattle.model_draw_parts.specs.declared.images.ScreenId.{ScreenId}
use Rattle.model_draw_parts.specs.declared.images.OnScreen.{OnScreen}
use Rattle.model_draw_parts.specs.declared.images.Thing.TheVariants.{Image, Screen}
use Rattle.model_draw_parts.specs.images.Book.{add_id, comes_before, new_screen, screen_numbered}
use Rattle.model_draw_parts.specs.images.Release.{is_image_id, is_screen_id, is_used}
use Rattle.model_draw.specs.draw.World.{Opening, World, background, started}
use Rattle.model_draw.specs.draw.Orders.{dot, everywhere, manager, with_root_rio}
use Rattle.law_likeness.specs.making.Standing.{IsWhole}
use Rattle.law_likeness.proofs.whole.Resting.{Each, Rests, set_rests}
use Rattle.law_likeness.proofs.whole.Joining.{Joins, image_joins}

abbrev first : Opening → World
first opening = with_root_rio (started opening)

-- no image, the display alone, and the fill of each rio with it
abbrev bare : Images
bare i = None

abbrev display_alone : Opening → Images
display_alone opening = after_image bare 0 opening.r opening.chan (background opening)

abbrev filled : Opening → Images
filled opening = after_image (display_alone opening) 1 dot opening.chan (background opening)

abbrev both : Opening → Images
both opening = after_set (filled opening) 1 true everywhere

module _ (opening : Opening) where
  one : Joins bare (display_alone opening) 0 None
  one = image_joins bare 0 opening.r opening.chan (background opening)

  two : Joins (display_alone opening) (filled opening) 1 None
  two = image_joins (display_alone opening) 1 dot opening.chan (background opening)

  rests : (i : ℕ) → Rests (filled opening) (both opening) i
  rests = set_rests (filled opening) 1 true everywhere two.live

  -- what lives is the display or the fill
  low : (i : ℕ) → IsLive (both opening) i → ((i == 0) ≡ true → ⊥) → (i == 1) ≡ true
  low i live other = by (i == 1) refl (i == 0) refl
    where
      by : (b : Bool) → (i == 1) ≡ b → (c : Bool) → (i == 0) ≡ c → b ≡ true
      by true is c at = refl
      by false is true at = absurd (other at)
      by false is false at = absurd (let none : is_some (bare i) ≡ true = sym ((rests i).live ∙ two.others i is ∙ one.others i at) ∙ live in cc)

  each : (P : ℕ → Type 0) → P 0 → P 1 → (i : ℕ) → IsLive (both opening) i → P i
  each P zero_has one_has i live = by (i == 0) refl
    where
      by : (b : Bool) → (i == 0) ≡ b → P i
      by true is = subst P (sym (eqb-true i 0 is)) zero_has
      by false is = subst P (sym (eqb-true i 1 (low i live (λ at. let no : ◌≡◌ {A = Bool} true false = sym at ∙ is in absurd cc)))) one_has

  lives_zero : IsLive (both opening) 0
  lives_zero = (rests 0).live ∙ two.others 0 refl ∙ one.live

  lives_one : IsLive (both opening) 1
  lives_one = (rests 1).live ∙ two.live

  standing_none : (i : ℕ) → IsLive (both opening) i → (image_at (both opening) i).standing ≡ None
  standing_none = each (λ i. (image_at (both opening) i).standing ≡ None) ((rests 0).standing ∙ two.stand 0 refl ∙ one.standing) ((rests 1).standing ∙ two.standing)

  abbrev OnIt : ℕ → ℕ → Type 0
  OnIt i n = IsLive (both opening) n × (parent_of (both opening) n ≡ Some i)

  windows_none : (i : ℕ) → IsLive (both opening) i → Each (OnIt i) (image_at (both opening) i).windows
  windows_none =
      each (λ i. Each (OnIt i) (image_at (both opening) i).windows)
      ((rests 0).listed (OnIt 0) (two.listed 0 refl (OnIt 0) (λ on. absurd cc) (one.bare (OnIt 0)))) ((rests 1).listed (OnIt 1) (two.bare (OnIt 1)))

  pub first_whole : IsWhole (first opening)
  unfolding started with_root_rio add_id new_screen
  first_whole = record {
    standing = record {
      live = λ i used. used_lives i (low_used i used);
      screens = λ s used. subst (λ (n : ℕ). is_some (screen_numbered (first opening).book n) ≡ true) (zero_is s used) refl;
      stands = standing_none;
      windows = windows_none;
      placed = All-nil (λ (w : OnScreen). IsLive (both opening) w.image);
      finds = record {
        image_ids = All-cons (λ (e : ImageId). find (is_image_id e.client e.id) (first opening).book.image_ids ≡ Some e) (record { client = 0; id = 0; image = 0; tie = None }) [] refl
            (All-nil (λ (e : ImageId). find (is_image_id e.client e.id) (first opening).book.image_ids ≡ Some e));
        screen_ids = All-cons (λ (e : ScreenId). find (is_screen_id e.client e.id) (first opening).book.screen_ids ≡ Some e) (record { client = 0; id = 0; screen = 0; public = false }) [] refl
            (All-nil (λ (e : ScreenId). find (is_screen_id e.client e.id) (first opening).book.screen_ids ≡ Some e));
        windows = All-nil (λ (w : OnScreen). find (λ v. v.image == w.image) (first opening).book.windows ≡ Some w);
      };
    };
    listed = record {
      image_ids = (All-nil (λ (e : ImageId). comes_before 0 0 e.client e.id ≡ true), tt);
      screen_ids = (All-nil (λ (e : ScreenId). comes_before 0 0 e.client e.id ≡ true), tt);
      own = All-cons (λ (e : ImageId). (e.id == 0) ≡ true → e.client ≡ manager) (record { client = 0; id = 0; image = 0; tie = None }) [] (λ zero. refl)
          (All-nil (λ (e : ImageId). (e.id == 0) ≡ true → e.client ≡ manager));
      clients = tt;
    };
    used = each (λ i. is_used (first opening).book (Image i) ≡ true) refl refl;
    screens_used = screens_used;
  }
    where
      low_used : (i : ℕ) → is_used (first opening).book (Image i) ≡ true → (i == 0) ≡ false → (i == 1) ≡ true
      low_used i used other = grind (arith, nat_tests)

      zero_is : (s : ℕ) → is_used (first opening).book (Screen s) ≡ true → 0 ≡ s
      zero_is s used = grind (arith, nat_tests)

      used_lives : (i : ℕ) → ((i == 0) ≡ false → (i == 1) ≡ true) → IsLive (both opening) i
      used_lives i low = by (i == 0) refl
        where
          by : (b : Bool) → (i == 0) ≡ b → IsLive (both opening) i
          by true is = subst (λ (n : ℕ). IsLive (both opening) n) (sym (eqb-true i 0 is)) lives_zero
          by false is = subst (λ (n : ℕ). IsLive (both opening) n) (sym (eqb-true i 1 (low is))) lives_one

      screens_used : (s : ℕ) → is_some (screen_numbered (first opening).book s) ≡ true → is_used (first opening).book (Screen s) ≡ true
      screens_used zero there = refl
      screens_used (suc s) there = absurd cc
