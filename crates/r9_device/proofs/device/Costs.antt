-- What the things cost that go.
use Rattle.std.proofs.Common.{◌≡◌, ℕ, ◌≤◌, ◌+◌, ◌*◌, true, List, [], ◌∷◌, Option, Some, None, refl, sym, ap, ◌∙◌, arith}
use Rattle.std.specs.Prelude.{◌==◌, is_some, option_map, if◌then◌else◌}
use Rattle.std.specs.List.{list_any}
use Rattle.std.proofs.lemmas.Bool.Decides.{nat_tests}
use Rattle.std.proofs.lemmas.List.Sums.{sum_by-cons}
use Rattle.r9_geom.specs.Geometry.{area_of}
use Rattle.model_draw.specs.cost.Cost.{coming, going, going_all}
use Rattle.model_forest.specs.declared.Standing.{Standing}
use Rattle.model_forest.specs.World.{World, image_at, parent_of}
use Rattle.model_forest.specs.Steps.{after_release}
use Rattle.model_forest.proofs.Releasing.{SameFrame, released-frame}
use Rattle.model_draw_parts.specs.declared.images.Thing.{Thing}
use Rattle.model_draw_parts.specs.declared.images.Thing.TheVariants.{Image, Screen}
use Rattle.model_draw_parts.specs.images.Book.{Book}
use Rattle.model_draw_parts.specs.images.Release.{same_thing}
use Rattle.r9_device.proofs.device.Going.{IsGoing, another}
use Rattle.r9_device.proofs.device.Lookups.{first_true, second_true}

-- ---- in worlds that differ

-- an image that has the frame that it had costs what it cost
pub going-same : (old new : World) (i : ℕ) → SameFrame (image_at old i) (image_at new i) → going new (Image i) ≡ going old (Image i)
going-same old new i same =
    (λ j. if is_some (option_map (λ (s : Standing). s.parent) (same.standing j)) then coming (same.r j) else 0)

-- things of which each image has the frame that it had cost what they cost
pub going_all-same : (old new : World) (things : List Thing) → ((i : ℕ) → list_any (same_thing (Image i)) things ≡ true → SameFrame (image_at old i) (image_at new i)) → going_all new things ≡ going_all old things
going_all-same old new [] same = refl
going_all-same old new (Image i ∷ things) same =
    let here : going new (Image i) ≡ going old (Image i) = going-same old new i (same i (first_true (i == i) _ (grind (arith, nat_tests)))) in
    let rest : going_all new things ≡ going_all old things = going_all-same old new things (λ n h. same n (second_true (n == i) _ h)) in
    sum_by-cons (going new) (Image i) things ∙ (λ j. here j + rest j) ∙ sym (sum_by-cons (going old) (Image i) things)
going_all-same old new (Screen s ∷ things) same =
    let rest : going_all new things ≡ going_all old things = going_all-same old new things same in
    sum_by-cons (going new) (Screen s) things ∙ ap (λ n. 0 + n) rest ∙ sym (sum_by-cons (going old) (Screen s) things)

-- ---- one after the other

-- one image goes, and the others cost what they cost
pub rest-same : (book : Book) (now : World) (past rest : List Thing) (i : ℕ) → IsGoing book now past (Image i ∷ rest) → going_all (after_release now i) rest ≡ going_all now rest
rest-same book now past rest i g =
    going_all-same now (after_release now i) rest (λ n h. released-frame now i n (another n i rest (n == i) refl g.once.0 h))

-- what is written where an image goes is no more than it costs
pub goes-within : (now : World) (i before after : ℕ) → after ≤ before + 2 * area_of (image_at now i).r → (parent_of now i ≡ None → after ≡ before) → after ≤ before + going now (Image i)
goes-within now i before after most bare = by (parent_of now i) refl
  where
    by : (o : Option ℕ) → parent_of now i ≡ o → after ≤ before + (if is_some o then coming (image_at now i).r else 0)
    by None e = (let none = bare e in omega arith)
    by (Some p) e = omega arith

-- So much was written and what is to go yet costs so much, together no more than `most`: still so when one more has gone.
pub image-within : (book : Book) (now next : World) (past rest : List Thing) (i written more most : ℕ) → IsGoing book now past (Image i ∷ rest) → next ≡ after_release now i
    → more ≤ written + 2 * area_of (image_at now i).r → (parent_of now i ≡ None → more ≡ written)
    → written + going_all now (Image i ∷ rest) ≤ most → more + going_all next rest ≤ most
image-within book now next past rest i written more most g is counted bare within =
    let one = goes-within now i written more counted bare in
    let same : going_all next rest ≡ going_all now rest = ap (λ (w : World). going_all w rest) is ∙ rest-same book now past rest i g in
    omega (arith, one, same, within, sum_by-cons (going now) (Image i) rest)

pub screen-within : (now : World) (rest : List Thing) (s written most : ℕ) → written + going_all now (Screen s ∷ rest) ≤ most → written + going_all now rest ≤ most
screen-within now rest s written most within = omega (arith, within, sum_by-cons (going now) (Screen s) rest)
