-- What holds of the images while things go, one after the other.
use Rattle.std.proofs.Common.{◌≡◌, ℕ, Bool, true, false, cond, List, [], ◌∷◌, Option, Some, None, ◌⊎◌, inl, inr, refl, sym, ap, ◌∙◌, arith}
use Rattle.std.specs.Prelude.{◌==◌, ◌||◌, ◌&&◌, find, is_some, option_map, unwrap_or, All}
use Rattle.std.specs.Option.{option_map_or}
use Rattle.std.specs.List.{list_any, fold}
use Rattle.std.proofs.lemmas.Bool.{eqb-true}
use Rattle.std.proofs.lemmas.Bool.Decides.{nat_tests}
use Rattle.std.proofs.lemmas.List.Elements.{recursion_from_All}
use Rattle.model_forest.specs.declared.Standing.{Standing}
use Rattle.model_forest.specs.declared.Window.{Window}
use Rattle.model_forest.specs.World.{CanGo, Image, IsForest, IsWindowOf, World, image_at, no_image, parent_of}
use Rattle.model_forest.specs.Steps.{after_release}
use Rattle.model_forest.proofs.Releasing.{Stays, frame-after, frame-same, released-frame, released-live, released-none}
use Rattle.model_draw_parts.specs.declared.images.OnScreen.{OnScreen}
use Rattle.model_draw_parts.specs.declared.images.Screen.{Screen as Filled}
use Rattle.model_draw_parts.specs.declared.images.Thing.{Thing}
use Rattle.model_draw_parts.specs.declared.images.Thing.TheVariants.{Image as Shown, Screen}
use Rattle.model_draw_parts.specs.images.Book.{Book, fill_of, image_of, screen_numbered, screen_of}
use Rattle.model_draw_parts.specs.images.Release.{HasScreens, IsInOrder, IsOnce, is_used, refers, refers_to, same_thing}
use Rattle.model_draw_parts.proofs.images.Freed.{same-is}
use Rattle.r9_device.specs.device.Kept.{standing_on}
use Rattle.r9_device.specs.device.Gone.{CanRelease, images_without}
use Rattle.r9_device.proofs.device.Lookups.{first_true, second_true}
use Rattle.r9_device.proofs.device.Rects.{first_false, second_false}

pub either_true : (a b : Bool) → (a || b) ≡ true → (a ≡ true) ⊎ (b ≡ true)
either_true true b h = inl refl
either_true false b h = inr h

pub not_both : (b : Bool) → b ≡ true → b ≡ false → ⊥
not_both true h k = cc
not_both false h k = cc

pub not-true : (b : Bool) → (b ≡ true → ⊥) → b ≡ false
not-true true h = absurd (h refl)
not-true false h = refl

-- ---- what refers to what

-- a window on a screen refers to it
window-refers : (n s : ℕ) (ws : List OnScreen) → option_map (λ w. w.screen) (find (λ w. w.image == n) ws) ≡ Some s → list_any (λ w. (w.image == n) && (w.screen == s)) ws ≡ true
window-refers n s [] e = absurd cc
window-refers n s (w ∷ ws) e = by (window-refers n s ws) (w.image == n) refl e
  where
    by : (option_map (λ w. w.screen) (find (λ w. w.image == n) ws) ≡ Some s → list_any (λ w. (w.image == n) && (w.screen == s)) ws ≡ true)
        → (b : Bool) → (w.image == n) ≡ b → option_map (λ w. w.screen) (cond b (Some w) (find (λ w. w.image == n) ws)) ≡ Some s
        → list_any (λ w. (w.image == n) && (w.screen == s)) (w ∷ ws) ≡ true
    by more true at e =
        let same : w.screen ≡ s = cc in
        first_true _ _ (ap (λ b. b && (w.screen == s)) at ∙ grind (arith, nat_tests))
    by more false at e = second_true ((w.image == n) && (w.screen == s)) _ (more e)

-- and uses it
window-uses : (n s : ℕ) (ws : List OnScreen) → list_any (λ w. (w.image == n) && (w.screen == s)) ws ≡ true → list_any (λ w. w.screen == s) ws ≡ true
window-uses n s [] h = absurd cc
window-uses n s (w ∷ ws) h = elim (either_true ((w.image == n) && (w.screen == s)) _ h) [
  | inl here ↦ first_true _ _ (second (w.image == n) (w.screen == s) here)
  | inr there ↦ second_true (w.screen == s) _ (window-uses n s ws there)
]
  where
    second : (a b : Bool) → (a && b) ≡ true → b ≡ true
    second true b h = h
    second false b h = absurd cc

pub on-used : (book : Book) (n s : ℕ) → screen_of book n ≡ Some s → is_used book (Screen s) ≡ true
on-used book n s e = second_true (list_any (λ e. e.screen == s) book.screen_ids) _ (window-uses n s book.windows (window-refers n s book.windows e))

image-referred : (o : Option Filled) (i : ℕ) → is_some o ≡ true → option_map_or (λ (e : Filled). e.image) o 0 ≡ i → refers_to i o ≡ true
image-referred None i h e = absurd cc
image-referred (Some s) i h e = first_true (s.image == i) _ (grind (arith, nat_tests))

fill-referred : (o : Option Filled) (i : ℕ) → is_some o ≡ true → option_map_or (λ (e : Filled). e.fill) o 0 ≡ i → refers_to i o ≡ true
fill-referred None i h e = absurd cc
fill-referred (Some s) i h e = second_true (s.image == i) (s.fill == i) (grind (arith, nat_tests))

-- ---- while things go

-- Some things of a book have gone, the last one first, and these are to go yet.
pub record IsGoing (book : Book) (now : World) (past rest : List Thing) : Type 0 where
  pub screens : HasScreens book
  -- an image that lives stands where its screen had it, on one that lives
  pub stands : (n : ℕ) → is_some (now n) ≡ true → (image_at now n).standing ≡ option_map (standing_on book) (screen_of book n)
  pub parents : (n p : ℕ) → is_some (now n) ≡ true → parent_of now n ≡ Some p → is_some (now p) ≡ true
  -- what has gone lives no more, and has taken all with it that referred to it
  pub gone : (n : ℕ) → list_any (same_thing (Shown n)) past ≡ true → is_some (now n) ≡ false
  pub taken : (other thing : Thing) → list_any (same_thing thing) past ≡ true → refers book other thing ≡ true → list_any (same_thing other) past ≡ true
  pub live : (n : ℕ) → list_any (same_thing (Shown n)) rest ≡ true → is_some (now n) ≡ true
  pub once : IsOnce rest
  pub order : IsInOrder book past rest

pub going-begins : (images : World) (book : Book) (gone : List Thing) → CanRelease images book gone → ((n p : ℕ) → is_some (images n) ≡ true → parent_of images n ≡ Some p → is_some (images p) ≡ true) → IsGoing book images [] gone
going-begins images book gone can parents = record {
  screens = can.screens;
  stands = λ n h. can.stands n;
  parents = parents;
  gone = λ n h. absurd cc;
  taken = λ other thing h k. absurd cc;
  live = can.live;
  once = can.once;
  order = can.order;
}

-- what refers to the next thing lives no more
none-refers : (book : Book) (now : World) (past rest : List Thing) (i n s : ℕ) → IsGoing book now past (Shown i ∷ rest) → is_some (now n) ≡ true → screen_of book n ≡ Some s
    → (is_some (screen_numbered book s) ≡ true → refers_to i (screen_numbered book s) ≡ true) → ⊥
none-refers book now past rest i n s g live on ref =
    let screen_gone : list_any (same_thing (Screen s)) past ≡ true = g.order.0 (Screen s) (ref (g.screens s (on-used book n s on))) in
    let image_gone = g.taken (Shown n) (Screen s) screen_gone (window-refers n s book.windows on) in
    not_both (is_some (now n)) live (g.gone n image_gone)

pub none-stands : (book : Book) (now : World) (past rest : List Thing) (i n : ℕ) → IsGoing book now past (Shown i ∷ rest) → is_some (now n) ≡ true → parent_of now n ≡ Some i → ⊥
none-stands book now past rest i n g live e = by (screen_of book n) refl (sym (ap (λ (o : Option Standing). option_map (λ s. s.parent) o) (g.stands n live)) ∙ e)
  where
    by : (o : Option ℕ) → screen_of book n ≡ o → option_map (λ s. s.parent) (option_map (standing_on book) o) ≡ Some i → ⊥
    by None at e = absurd cc
    by (Some s) at e = none-refers book now past rest i n s g live at (λ there. image-referred (screen_numbered book s) i there (let same : image_of book s ≡ i = cc in same))

none-fills : (book : Book) (now : World) (past rest : List Thing) (i n : ℕ) → IsGoing book now past (Shown i ∷ rest) → is_some (now n) ≡ true → option_map (λ s. s.fill) (image_at now n).standing ≡ Some i → ⊥
none-fills book now past rest i n g live e = by (screen_of book n) refl (sym (ap (λ (o : Option Standing). option_map (λ s. s.fill) o) (g.stands n live)) ∙ e)
  where
    by : (o : Option ℕ) → screen_of book n ≡ o → option_map (λ s. s.fill) (option_map (standing_on book) o) ≡ Some i → ⊥
    by None at e = absurd cc
    by (Some s) at e = none-refers book now past rest i n s g live at (λ there. fill-referred (screen_numbered book s) i there (let same : fill_of book s ≡ i = cc in same))

fills_live : (o : Option Image) (i : ℕ) → option_map (λ s. s.fill) (unwrap_or o no_image).standing ≡ Some i → is_some o ≡ true
fills_live None i e = absurd cc
fills_live (Some x) i e = refl

pub next-live : (book : Book) (now : World) (past rest : List Thing) (i : ℕ) → IsGoing book now past (Shown i ∷ rest) → is_some (now i) ≡ true
next-live book now past rest i g = g.live i (first_true (i == i) _ (grind (arith, nat_tests)))

-- nothing stands on the next image, and it fills for none
pub can-go : (book : Book) (now : World) (past rest : List Thing) (i : ℕ) → IsGoing book now past (Shown i ∷ rest) → IsForest now → CanGo now i
can-go book now past rest i g forest = record {
  live = next-live book now past rest i g;
  alone = by (image_at now i).windows (forest.windows i (next-live book now past rest i g));
  fills_none = λ n e. none-fills book now past rest i n g (fills_live (now n) i e) e;
}
  where
    by : (ws : List Window) → All (IsWindowOf now i) ws → ws ≡ []
    by [] all = refl
    by (w ∷ ws) all =
        let first = (recursion_from_All (IsWindowOf now i) (w ∷ ws) all).0 in
        absurd (none-stands book now past rest i w.image g first.live first.stands)

-- ---- one thing goes

pub another : (j i : ℕ) (rest : List Thing) (b : Bool) → (j == i) ≡ b → list_any (same_thing (Shown i)) rest ≡ false → list_any (same_thing (Shown j)) rest ≡ true → (j == i) ≡ false
another j i rest false e none some = e
another j i rest true e none some =
    absurd (not_both (list_any (same_thing (Shown i)) rest) (ap (λ n. list_any (same_thing (Shown n)) rest) (sym (eqb-true j i e)) ∙ some) none)

-- what lives after an image has gone is another
lives-other : (now : World) (i n : ℕ) (b : Bool) → (n == i) ≡ b → is_some (after_release now i n) ≡ true → (n == i) ≡ false
lives-other now i n true e h = absurd (not_both (is_some (after_release now i n)) h (ap is_some (released-none now i n e)))
lives-other now i n false e h = e

pub other-live : (book : Book) (now : World) (past rest : List Thing) (i n : ℕ) → IsGoing book now past (Shown i ∷ rest) → (n == i) ≡ false → is_some (after_release now i n) ≡ is_some (now n)
other-live book now past rest i n g e = released-live now i n (λ p stands. g.parents i p (next-live book now past rest i g) stands) e

-- what lives after an image has gone lived before
pub lived : (book : Book) (now : World) (past rest : List Thing) (i n : ℕ) → IsGoing book now past (Shown i ∷ rest) → is_some (after_release now i n) ≡ true → is_some (now n) ≡ true
lived book now past rest i n g h = sym (other-live book now past rest i n g (lives-other now i n (n == i) refl h)) ∙ h

dead : (book : Book) (now : World) (past rest : List Thing) (i n : ℕ) → IsGoing book now past (Shown i ∷ rest) → (b : Bool) → (n == i) ≡ b → ((n == i) ≡ false → is_some (now n) ≡ false) → is_some (after_release now i n) ≡ false
dead book now past rest i n g true e h = ap is_some (released-none now i n e)
dead book now past rest i n g false e h = other-live book now past rest i n g e ∙ h e

taken-more : (book : Book) (past : List Thing) (next : Thing)
    → ((other : Thing) → refers book other next ≡ true → list_any (same_thing other) past ≡ true)
    → ((other thing : Thing) → list_any (same_thing thing) past ≡ true → refers book other thing ≡ true → list_any (same_thing other) past ≡ true)
    → (other thing : Thing) → list_any (same_thing thing) (next ∷ past) ≡ true → refers book other thing ≡ true → list_any (same_thing other) (next ∷ past) ≡ true
taken-more book past next first more other thing h ref = elim (either_true (same_thing thing next) _ h) [
  | inl here ↦ second_true (same_thing other next) _ (first other (ap (λ (t : Thing). refers book other t) (sym (same-is thing next here)) ∙ ref))
  | inr there ↦ second_true (same_thing other next) _ (more other thing there ref)
]

pub going-image : (book : Book) (now : World) (past rest : List Thing) (i : ℕ) → IsGoing book now past (Shown i ∷ rest) → IsGoing book (after_release now i) (Shown i ∷ past) rest
going-image book now past rest i g = record {
  screens = g.screens;
  stands = λ n h.
      let other = lives-other now i n (n == i) refl h in
      (released-frame now i n other).standing ∙ g.stands n (sym (other-live book now past rest i n g other) ∙ h);
  parents = λ n p h e.
      let other = lives-other now i n (n == i) refl h in
      let live = sym (other-live book now past rest i n g other) ∙ h in
      let stood : parent_of now n ≡ Some p = sym (ap (λ (o : Option Standing). option_map (λ s. s.parent) o) (released-frame now i n other).standing) ∙ e in
      let apart : (p == i) ≡ false = not-true (p == i) (λ same. none-stands book now past rest i n g live (stood ∙ ap Some (eqb-true p i same))) in
      other-live book now past rest i p g apart ∙ g.parents n p live stood;
  gone = λ n h. dead book now past rest i n g (n == i) refl (λ apart. g.gone n (elim (either_true (n == i) _ h) [ inl here ↦ absurd (not_both (n == i) here apart) | inr there ↦ there ]));
  taken = taken-more book past (Shown i) g.order.0 g.taken;
  live = λ n h.
      let other = another n i rest (n == i) refl g.once.0 h in
      other-live book now past rest i n g other ∙ g.live n (second_true (n == i) _ h);
  once = g.once.1;
  order = g.order.1;
}

pub going-screen : (book : Book) (now : World) (past rest : List Thing) (s : ℕ) → IsGoing book now past (Screen s ∷ rest) → IsGoing book now (Screen s ∷ past) rest
going-screen book now past rest s g = record {
  screens = g.screens;
  stands = g.stands;
  parents = g.parents;
  gone = g.gone;
  taken = taken-more book past (Screen s) g.order.0 g.taken;
  live = g.live;
  once = g.once.1;
  order = g.order.1;
}

-- ---- all go

-- what does not go stays
pub fold-stays : (rest past : List Thing) (book : Book) (now : World) (n : ℕ) → IsGoing book now past rest → list_any (same_thing (Shown n)) rest ≡ false → Stays now (fold images_without now rest) n
fold-stays [] past book now n g h = record { live = refl; frame = frame-same (image_at now n) }
fold-stays (Shown i ∷ rest) past book now n g h =
    let apart = first_false (n == i) _ h in
    let more = fold-stays rest (Shown i ∷ past) book (after_release now i) n (going-image book now past rest i g) (second_false (n == i) _ h) in
    record { live = more.live ∙ other-live book now past rest i n g apart; frame = frame-after _ _ _ (released-frame now i n apart) more.frame }
fold-stays (Screen s ∷ rest) past book now n g h = fold-stays rest (Screen s ∷ past) book now n (going-screen book now past rest s g) h

-- what has gone or goes lives no more
fold-dead : (rest past : List Thing) (book : Book) (now : World) (n : ℕ) → IsGoing book now past rest → (list_any (same_thing (Shown n)) past ≡ true) ⊎ (list_any (same_thing (Shown n)) rest ≡ true) → is_some (fold images_without now rest n) ≡ false
fold-dead [] past book now n g h = elim h [ inl before ↦ g.gone n before | inr after ↦ absurd cc ]
fold-dead (Shown i ∷ rest) past book now n g h = fold-dead rest (Shown i ∷ past) book (after_release now i) n (going-image book now past rest i g) (elim h [
  | inl before ↦ inl (second_true (n == i) _ before)
  | inr after ↦ elim (either_true (n == i) _ after) [ inl here ↦ inl (first_true (n == i) _ here) | inr there ↦ inr there ]
])
fold-dead (Screen s ∷ rest) past book now n g h = fold-dead rest (Screen s ∷ past) book now n (going-screen book now past rest s g) h

pub fold-gone : (gone : List Thing) (book : Book) (images : World) (n : ℕ) → IsGoing book images [] gone → list_any (same_thing (Shown n)) gone ≡ true → is_some (fold images_without images gone n) ≡ false
fold-gone gone book images n g h = fold-dead gone [] book images n g (inr h)
