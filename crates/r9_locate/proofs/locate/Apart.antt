-- No two points of an image are kept at one place, and no place of a window is where the image below it keeps a point.
use Rattle.std.proofs.Common.{◌≡◌, ◌≢◌, ◌∙◌, ℕ, suc, zero, ◌<◌, ◌≤◌, Bool, true, false, Option, Some, None, refl, sym, ap, arith}
use Rattle.std.specs.Prelude.{if◌then◌else◌}
use Rattle.std.specs.Option.{option_map_or}
use Rattle.r9_geom.specs.declared.Point.{Point}
use Rattle.r9_geom.specs.Geometry.{carried}
use Rattle.r9_plane.specs.Pixels.{along}
use Rattle.model_forest.specs.World.{World, image_at, parent_of, IsLive}
use Rattle.model_forest.proofs.Changes.{live-standing}
use Rattle.model_kept.specs.Keeping.{own, outward, is_shown, keeping, keeping_within, place_among, IsStanding, Place}
use Rattle.r9_locate.specs.locate.Forms.{bits_in, Form, HasBits}
use Rattle.model_kept.proofs.Storing.{carried-back, step_of}

-- who keeps a pixel stands no higher than the image
pub keeping-depth : (world : World) → IsStanding world → (depth i : ℕ) (y : Point) → IsLive world i → (image_at world (keeping_within depth world i y).image).depth ≤ (image_at world i).depth
keeping-depth world ok zero i y live = omega arith
keeping-depth world ok (suc depth) i y live =
    by_parent (parent_of world i) refl (λ parent. keeping-depth world ok depth parent (outward world parent i y))
  where
    low : Place → Type 0
    low k = (image_at world k.image).depth ≤ (image_at world i).depth

    by_parent : (o : Option ℕ) → parent_of world i ≡ o → ((parent : ℕ) → IsLive world parent → (image_at world (keeping_within depth world parent (outward world parent i y)).image).depth ≤ (image_at world parent).depth) → low (option_map_or (step_of depth world i y) o (own i y))
    by_parent None stands above = omega arith
    by_parent (Some parent) stands above = by_test (is_shown world parent i (outward world parent i y))
      where
        by_test : (b : Bool) → low (if b then keeping_within depth world parent (outward world parent i y) else own i y)
        by_test false = omega arith
        by_test true =
            let lower = above parent (ok.parents i parent live stands) in
            let deeper = ok.above i parent live stands in
            omega (arith, lower, deeper)

-- no place of a window is where the image below it keeps a point
pub own-apart : (world : World) → IsStanding world → (p i : ℕ) (x q : Point) → IsLive world p → parent_of world i ≡ Some p → own i x ≢ keeping world p q
own-apart world ok p i x q live stands same =
    let low = keeping-depth world ok (image_at world p).depth p q live in
    let depths : (image_at world i).depth ≡ (image_at world (keeping world p q).image).depth = ap (λ (k : Place). (image_at world k.image).depth) same in
    let above = ok.above i p (live-standing world i p stands) stands in
    absurd (omega (arith, low, depths, above))

carried-injective : (y z from to : Point) → carried y from to ≡ carried z from to → y ≡ z
carried-injective y z from to same = sym (carried-back y from to) ∙ ap (λ p. carried p to from) same ∙ carried-back z from to

-- two points of an image that are kept at one place are one
pub keeping-injective : (world : World) → IsStanding world → (depth i : ℕ) (y z : Point) → IsLive world i → keeping_within depth world i y ≡ keeping_within depth world i z → y ≡ z
keeping-injective world ok zero i y z live same = ap (λ (k : Place). k.at) same
keeping-injective world ok (suc depth) i y z live same =
    by_parent (parent_of world i) refl (λ parent live same. keeping-injective world ok depth parent (outward world parent i y) (outward world parent i z) live same) same
  where
    by_parent : (o : Option ℕ) → parent_of world i ≡ o → ((parent : ℕ) → IsLive world parent → keeping_within depth world parent (outward world parent i y) ≡ keeping_within depth world parent (outward world parent i z) → outward world parent i y ≡ outward world parent i z) → option_map_or (step_of depth world i y) o (own i y) ≡ option_map_or (step_of depth world i z) o (own i z) → y ≡ z
    by_parent None stands above same = ap (λ (k : Place). k.at) same
    by_parent (Some parent) stands above same = by_test (is_shown world parent i (outward world parent i y)) (is_shown world parent i (outward world parent i z)) same
      where
        parent_live : IsLive world parent
        parent_live = ok.parents i parent live stands

        not_own : (x q : Point) → own i x ≢ keeping_within depth world parent q
        not_own x q e =
            let low = keeping-depth world ok depth parent q parent_live in
            let depths : (image_at world i).depth ≡ (image_at world (keeping_within depth world parent q).image).depth = ap (λ (k : Place). (image_at world k.image).depth) e in
            let higher = ok.above i parent live stands in
            absurd (omega (arith, low, depths, higher))

        by_test : (a b : Bool) → (if a then keeping_within depth world parent (outward world parent i y) else own i y) ≡ (if b then keeping_within depth world parent (outward world parent i z) else own i z) → y ≡ z
        by_test true true e = carried-injective y z (image_at world i).r.min (place_among (image_at world parent).windows i).min (above parent parent_live e)
        by_test true false e = absurd (not_own z (outward world parent i y) (sym e))
        by_test false true e = absurd (not_own y (outward world parent i z) e)
        by_test false false e = ap (λ (k : Place). k.at) e

-- what keeps a pixel of an image has as many bits a pixel
pub keeping-bits : (world : World) → IsStanding world → (forms : ℕ → Option Form) → HasBits world forms → (depth i : ℕ) (y : Point) → IsLive world i → bits_in forms (keeping_within depth world i y).image ≡ bits_in forms i
keeping-bits world ok forms same zero i y live = refl
keeping-bits world ok forms same (suc depth) i y live =
    by_parent (parent_of world i) refl (λ parent. keeping-bits world ok forms same depth parent (outward world parent i y))
  where
    by_parent : (o : Option ℕ) → parent_of world i ≡ o → ((parent : ℕ) → IsLive world parent → bits_in forms (keeping_within depth world parent (outward world parent i y)).image ≡ bits_in forms parent) → bits_in forms (option_map_or (step_of depth world i y) o (own i y)).image ≡ bits_in forms i
    by_parent None stands above = refl
    by_parent (Some parent) stands above = by_test (is_shown world parent i (outward world parent i y))
      where
        by_test : (b : Bool) → bits_in forms (if b then keeping_within depth world parent (outward world parent i y) else own i y).image ≡ bits_in forms i
        by_test false = refl
        by_test true = above parent (ok.parents i parent live stands) ∙ sym (same i parent live stands)

-- and so what keeps points side by side
pub run_bits : (world : World) → IsStanding world → (forms : ℕ → Option Form) → HasBits world forms → (i j : ℕ) (start at : Point) (len : ℕ) → IsLive world i → 0 < len → ((k : ℕ) → k < len → keeping world i (along start k) ≡ own j (along at k)) → bits_in forms j ≡ bits_in forms i
run_bits world ok forms same i j start at len live some found =
    ap (λ (place : Place). bits_in forms place.image) (sym (found 0 some)) ∙ keeping-bits world ok forms same (image_at world i).depth i (along start 0) live
