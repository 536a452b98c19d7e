-- What is used, by its count.
use Rattle.std.proofs.Common.{◌≡◌, ℕ, zero, suc, ◌+◌, ◌<◌, Bool, true, List, [], ◌∷◌, Option, Some, None, refl, sym, ap, subst, ◌∙◌, arith}
use Rattle.std.specs.Prelude.{◌==◌, ◌||◌, find, nat_lt, is_some, All, option_map, nat_eq}
use Rattle.std.specs.Option.{option_map_or}
use Rattle.std.specs.List.{count_by, list_any}
use Rattle.std.specs.HashMap.{HashMap, get}
use Rattle.std.proofs.lemmas.Bool.Decides.{nat_tests}
use Rattle.model_draw_parts.specs.declared.images.ImageId.{ImageId}
use Rattle.model_draw_parts.specs.declared.images.ScreenId.{ScreenId}
use Rattle.model_draw_parts.specs.declared.images.OnScreen.{OnScreen}
use Rattle.model_draw_parts.specs.declared.images.Screen.{Screen as Filled}
use Rattle.model_draw_parts.specs.declared.images.Thing.{Thing}
use Rattle.model_draw_parts.specs.declared.images.Thing.TheVariants.{Screen}
use Rattle.model_draw_parts.specs.images.Book.{is_on}
use Rattle.model_draw_parts.specs.images.Release.{refers_to}
use Rattle.r9_images.specs.uses.Counts.{image_uses, screen_uses, is_filled_by}
use Rattle.r9_images.specs.uses.Tally.{count_of, knows}
use Rattle.r9_images.specs.declared.uses.tally.Use.{Use}
use Rattle.r9_images.proofs.uses.Counts.{any-count, refers-count, count-found, same-number}

lt-sum : (a b : ℕ) → nat_lt 0 (a + b) ≡ (nat_lt 0 a || nat_lt 0 b)
lt-sum a b = grind (arith, nat_tests)

pub used-image : (i count : ℕ) (ids : List ImageId) (screens : List (Option Filled)) → count ≡ image_uses i ids screens
    → nat_lt 0 count ≡ (list_any (λ e. e.image == i) ids || list_any (refers_to i) screens)
used-image i count ids screens is =
    let a = count_by (λ (e : ImageId). e.image == i) ids in
    let b = count_by (is_on i) screens in
    let d = count_by (is_filled_by i) screens in
    ap (λ (k : ℕ). nat_lt 0 k) is ∙ lt-sum a (b + d) ∙ ap (λ (t : Bool). nat_lt 0 a || t) (lt-sum b d)
    ∙ (λ k. any-count (λ (e : ImageId). e.image == i) ids k || (any-count (is_on i) screens k || any-count (is_filled_by i) screens k))
    ∙ ap (λ (t : Bool). list_any (λ (e : ImageId). e.image == i) ids || t) (sym (refers-count i screens))

pub used-screen : (s count : ℕ) (ids : List ScreenId) (windows : List OnScreen) → count ≡ screen_uses s ids windows
    → nat_lt 0 count ≡ (list_any (λ e. e.screen == s) ids || list_any (λ w. w.screen == s) windows)
used-screen s count ids windows is =
    let a = count_by (λ (e : ScreenId). e.screen == s) ids in
    let b = count_by (λ (w : OnScreen). w.screen == s) windows in
    ap (λ (k : ℕ). nat_lt 0 k) is ∙ lt-sum a b
    ∙ (λ k. any-count (λ (e : ScreenId). e.screen == s) ids k || any-count (λ (w : OnScreen). w.screen == s) windows k)

-- ---- what is known

known-some : (o : Option Use) → 0 < option_map_or (λ (u : Use). u.count) o 0 → is_some o ≡ true
known-some None h = absurd (omega (arith, h))
known-some (Some u) h = refl

pub counted-known : {S : Type 0} (uses : HashMap ℕ Use S) (n : ℕ) → 0 < count_of uses n → knows uses n ≡ true
counted-known uses n h = known-some (get nat_eq uses n) h

-- the screen of a window is counted
pub window-counted : (i s : ℕ) (windows : List OnScreen) → option_map (λ (w : OnScreen). w.screen) (find (λ w. w.image == i) windows) ≡ Some s → 0 < count_by (λ w. w.screen == s) windows
window-counted i s windows h = by _ refl h
  where
    by : (o : Option OnScreen) → find (λ w. w.image == i) windows ≡ o → option_map (λ (w : OnScreen). w.screen) o ≡ Some s → 0 < count_by (λ w. w.screen == s) windows
    by None e h = absurd cc
    by (Some w) e h =
        let same : w.screen ≡ s = cc in
        count-found (λ v. v.image == i) (λ v. v.screen == s) w windows e (ap (λ (n : ℕ). n == s) same ∙ same-number s)

one-of : (P : Thing → Type 0) (thing : Thing) → P thing → All P (thing ∷ [])
one-of P thing p zero d l = p
one-of P thing p (suc k) d l = absurd (omega (arith, l))

pub all-one : (P : Thing → Type 0) (s : ℕ) (o : Option ℕ) → o ≡ Some s → P (Screen s) → All P (option_map_or (λ n. Screen n ∷ []) o [])
all-one P s None e p = absurd cc
all-one P s (Some n) e p = let same : s ≡ n = cc in one-of P (Screen n) (subst (λ (m : ℕ). P (Screen m)) same p)
