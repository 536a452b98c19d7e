-- What `A`, `S` and `o` do once their tests have passed.
use Rattle.std.proofs.Common.{◌≡◌, ℕ, Bool, true, false, ◌≤◌, Some, Result, Ok, Err, OnOk, OnErr, refl, sym, ap, subst, ◌∙◌, arith}
use Rattle.std.specs.Prelude.{◌^◌, ◌==◌, ◌&&◌, nat_lt, is_some}
use Rattle.std.specs.Result.{result_unwrap_or}
use Rattle.std.proofs.lemmas.Bool.Decides.{nat_tests}
use Rattle.r9_geom.specs.declared.Point.{Point}
use Rattle.r9_geom.specs.declared.Rect.{Rect}
use Rattle.r9_geom.specs.Geometry.{at_min, IsNearBy}
use Rattle.model_forest.specs.World.{World as Images, image_at, parent_of}
use Rattle.model_forest.specs.Steps.{after_origin}
use Rattle.model_draw_parts.specs.images.Book.{Book, add_screen, image_of, is_screen_id_taken, new_screen, public, screen_numbered}
use Rattle.model_draw.specs.draw.World.{World, at_number, look}
use Rattle.model_draw.specs.draw.Making.{farthest, is_near_rect, make_screen, share_screen}
use Rattle.model_draw.specs.draw.Moving.{stays_near}
use Rattle.r9_draw.specs.declared.messages.plan.Screening.{Screening}
use Rattle.r9_device.specs.device.Kept.{IsKept}
use Rattle.r9_device.specs.device.Spare.{AreSpare, are_free}
use Rattle.r9_draw.specs.messages.Plans.{after_make_screen, after_share}
use Rattle.r9_device.proofs.device.Kept.{kept-same}
use Rattle.r9_device.proofs.device.Rects.{near-of, point-wider}
use Rattle.r9_device.proofs.device.Screens.{kept-screened, kept-shared, spare-screened, spare-shared}
use Rattle.r9_device.proofs.device.Shifting.{kept-shifted}

-- ---- as the definitions have them

not_zero : (n : ℕ) → (n ≡ 0 → ⊥) → (n == 0) ≡ false
not_zero n h = grind (arith, nat_tests)

new_screen-fresh : (book other : Book) (k id : ℕ) (open_to_all : Bool) (i fill : ℕ) → is_screen_id_taken book k id open_to_all ≡ false → new_screen book k id open_to_all i fill ≡ Ok (result_unwrap_or (new_screen book k id open_to_all i fill) other)
unfolding new_screen
new_screen-fresh book other k id open_to_all i fill h = rw h refl

add_screen-fresh : (book other : Book) (k id screen : ℕ) (open_to_all : Bool) → is_screen_id_taken book k id open_to_all ≡ false → add_screen book k id screen open_to_all ≡ Ok (result_unwrap_or (add_screen book k id screen open_to_all) other)
unfolding add_screen
add_screen-fresh book other k id screen open_to_all h = rw h refl

pub screening-made : (k : ℕ) (w : World) (s : Screening) (imageid fillid : ℕ) → (s.id ≡ 0 → ⊥) → is_screen_id_taken w.book k s.id s.public ≡ false → look w k imageid ≡ Ok s.image.0 → look w k fillid ≡ Ok s.fill.0
    → (at_number w s.image.0).repl ≡ false → (at_number w s.image.0).depth ≤ 15 → make_screen k w s.id imageid fillid s.public ≡ Ok (after_make_screen k w s)
unfolding make_screen after_make_screen
screening-made k w s imageid fillid some fresh image fill flat shallow =
    let zero = not_zero s.id some in
    let high : nat_lt 15 (at_number w s.image.0).depth ≡ false = grind (arith, nat_tests) in
    let made = new_screen-fresh w.book w.book k s.id s.public s.image.0 s.fill.0 fresh in
    rw zero (rw fresh (rw image (rw fill (rw flat (rw high (rw made refl))))))

pub sharing-made : (k : ℕ) (w : World) (id s chan : ℕ) → (id ≡ 0 → ⊥) → is_screen_id_taken w.book k id false ≡ false → public w.book id ≡ Ok s → (at_number w (image_of w.book s)).chan ≡ chan
    → share_screen k w id chan ≡ Ok (after_share k w id s)
unfolding share_screen after_share
sharing-made k w id s chan some fresh found alike =
    let zero = not_zero id some in
    let same : ((at_number w (image_of w.book s)).chan == chan) ≡ true = grind (arith, nat_tests) in
    let made = add_screen-fresh w.book w.book k id s false fresh in
    rw zero (rw fresh (rw found (rw same (rw made refl))))

-- ---- what is kept

pub kept-made_screen : {A E : Type 0} (o : Result A E) (images : Images) (book made : Book) (k : ℕ) (s : Screening) → IsKept images book → AreSpare book → is_some (images s.image.0) ≡ true → is_some (images s.fill.0) ≡ true
    → OnOk o (new_screen book k s.id s.public s.image.0 s.fill.0 ≡ Ok made) → OnErr o (made ≡ book) → IsKept images made
kept-made_screen (Ok x) images book made k s kept spare image fill e err = kept-screened images book made k s.id s.public s.image.0 s.fill.0 kept spare e image fill
kept-made_screen (Err x) images book made k s kept spare image fill e err = subst (IsKept images) (sym err) kept

pub spare-made_screen : {A E : Type 0} (o : Result A E) (book made : Book) (k : ℕ) (s : Screening) → AreSpare book → OnOk o (new_screen book k s.id s.public s.image.0 s.fill.0 ≡ Ok made) → OnErr o (made ≡ book) → AreSpare made
spare-made_screen (Ok x) book made k s spare e err = spare-screened book made k s.id s.public s.image.0 s.fill.0 spare e
spare-made_screen (Err x) book made k s spare e err = ap (λ (b : Book). are_free b.screens b.spare) err ∙ spare

pub kept-shared_screen : {A E : Type 0} (o : Result A E) (images : Images) (book added : Book) (k id screen : ℕ) → IsKept images book → is_some (screen_numbered book screen) ≡ true
    → OnOk o (add_screen book k id screen false ≡ Ok added) → OnErr o (added ≡ book) → IsKept images added
kept-shared_screen (Ok x) images book added k id screen kept there e err = kept-shared images book added k id screen false kept e there
kept-shared_screen (Err x) images book added k id screen kept there e err = subst (IsKept images) (sym err) kept

pub spare-shared_screen : {A E : Type 0} (o : Result A E) (book added : Book) (k id screen : ℕ) → AreSpare book → OnOk o (add_screen book k id screen false ≡ Ok added) → OnErr o (added ≡ book) → AreSpare added
spare-shared_screen (Ok x) book added k id screen spare e err = spare-shared book added k id screen false spare e
spare-shared_screen (Err x) book added k id screen spare e err = ap (λ (b : Book). are_free b.screens b.spare) err ∙ spare

-- ---- a window that moves

near-left : (r : Rect) (rmin scr : Point) → stays_near r rmin scr ≡ true → is_near_rect farthest (at_min r rmin) ≡ true
near-left r rmin scr h = by (is_near_rect farthest (at_min r rmin)) (is_near_rect farthest (at_min r scr)) h
  where
    by : (a b : Bool) → (a && b) ≡ true → a ≡ true
    by true b e = refl
    by false b e = absurd cc

near-right : (r : Rect) (rmin scr : Point) → stays_near r rmin scr ≡ true → is_near_rect farthest (at_min r scr) ≡ true
near-right r rmin scr h = by (is_near_rect farthest (at_min r rmin)) (is_near_rect farthest (at_min r scr)) h
  where
    by : (a b : Bool) → (a && b) ≡ true → b ≡ true
    by true b e = e
    by false b e = absurd cc

pub corner-near : (r : Rect) (rmin scr : Point) → stays_near r rmin scr ≡ true → IsNearBy (2 ^ 34) scr
corner-near r rmin scr h = let near = near-of (at_min r scr) (near-right r rmin scr h) in point-wider (2 ^ 32) (2 ^ 34) scr (omega arith) near.min

pub min-near : (r : Rect) (rmin scr : Point) → stays_near r rmin scr ≡ true → IsNearBy (2 ^ 34) rmin
min-near r rmin scr h = let near = near-of (at_min r rmin) (near-left r rmin scr h) in point-wider (2 ^ 32) (2 ^ 34) rmin (omega arith) near.min

pub kept-moved : (images : Images) (book : Book) (i : ℕ) (min corner : Point) → IsKept images book → is_some (images i) ≡ true → ((p : ℕ) → parent_of images i ≡ Some p → is_some (images p) ≡ true)
    → stays_near (image_at images i).r min corner ≡ true → IsKept (after_origin images i min corner) book
kept-moved images book i min corner kept live parents near =
    kept-shifted images book i min corner kept live parents (near-of (at_min (image_at images i).r min) (near-left (image_at images i).r min corner near))

pub kept-origin : {A E : Type 0} (o : Result A E) (images next : Images) (book : Book) (i : ℕ) (min corner : Point) → IsKept images book → is_some (images i) ≡ true → ((p : ℕ) → parent_of images i ≡ Some p → is_some (images p) ≡ true)
    → stays_near (image_at images i).r min corner ≡ true → OnOk o (next ≡ after_origin images i min corner) → OnErr o (next ≡ images) → IsKept next book
kept-origin (Ok x) images next book i min corner kept live parents near is err = kept-same _ next book (kept-moved images book i min corner kept live parents near) is
kept-origin (Err x) images next book i min corner kept live parents near is err = kept-same images next book kept err
