-- After a change of one image's list, the pixels of every image are where it keeps them.
use Rattle.std.proofs.Common.{◌≡◌, ◌≢◌, ℕ, zero, suc, ◌<◌, Bool, true, false, Option, Some, None, refl, sym, ◌∙◌, ap, subst, eq-eqb, add-one, arith}
use Rattle.std.specs.Prelude.{◌==◌, if◌then◌else◌}
use Rattle.std.specs.Option.{option_map_or}
use Rattle.std.proofs.lemmas.Bool.{and_parts, ne_eqb}
use Rattle.std.proofs.lemmas.Bool.Decides.{Decides-eqb}
use Rattle.r9_geom.specs.declared.Point.{Point}
use Rattle.r9_geom.specs.Geometry.{holds}
use Rattle.model_forest.specs.declared.Window.{Window}
use Rattle.model_forest.specs.World.{World, image_at, parent_of, deepest, IsLive, IsWindowOf}
use Rattle.model_forest.specs.View.{top_window, is_bare, inward}
use Rattle.model_forest.proofs.Changes.{live-standing}
use Rattle.model_kept.specs.Keeping.{Place, own, outward, is_top, is_shown, keeping_within, keeping, HasOnePlaces, IsStanding}
use Rattle.model_kept.proofs.Storing.{shown_within, shown}
use Rattle.model_kept.specs.Restack.{IsRestacked, SameButList}
use Rattle.model_kept.proofs.Relisting.{Way, way_through, through_within, keeping_step}
use Rattle.model_kept.proofs.Storing.{window-at, inward-inside, outward-inward, is_shown-top, shown-bare, shown-keeping, shown_there, keeping-inside}
use Rattle.model_kept.proofs.Relisting.{keeping-relist_other, through_within-same, keeping-through, parent_of-same, way, further_way}

-- a window stands one level above its parent
pub depth-parent : (world : World) → IsStanding world → (i p : ℕ) → parent_of world i ≡ Some p → (image_at world i).depth ≡ suc (image_at world p).depth
depth-parent world ok i p stands = ok.above i p (live-standing world i p stands) stands

-- what the way up comes through: a window of that image, and a point of it
pub record IsWay (world : World) (p j : ℕ) (t : Way) : Type 0 where
  pub stands : parent_of world t.image ≡ Some p
  pub inside : holds (image_at world t.image).r t.at ≡ true
  pub levels : t.levels ≡ (image_at world p).depth
  pub below : (image_at world p).depth < (image_at world j).depth

pub is_way : (world : World) → IsStanding world → (p depth j : ℕ) (y : Point) (t : Way) → depth ≡ (image_at world j).depth → holds (image_at world j).r y ≡ true → through_within depth world p j y ≡ Some t → IsWay world p j t
is_way world ok p zero j y t level inside is = cc
is_way world ok p (suc depth) j y t level inside is =
    by_parent (parent_of world j) refl (λ parent. is_way world ok p depth parent (outward world parent j y) t)
  where
    by_parent : (o : Option ℕ) → parent_of world j ≡ o → ((parent : ℕ) → depth ≡ (image_at world parent).depth → holds (image_at world parent).r (outward world parent j y) ≡ true → through_within depth world p parent (outward world parent j y) ≡ Some t → IsWay world p parent t) → IsWay world p j t
    by_parent None stands further =
        let none : None ≡ Some t = sym (ap (λ o. option_map_or (way depth world p j y) o None) stands) ∙ is in cc
    by_parent (Some parent) stands further = by_p (parent == p) refl
      where
        here : way depth world p j y parent ≡ Some t
        here = sym (ap (λ o. option_map_or (way depth world p j y) o None) stands) ∙ is

        deeper : (image_at world j).depth ≡ suc (image_at world parent).depth
        deeper = depth-parent world ok j parent stands

        by_p : (b : Bool) → (parent == p) ≡ b → IsWay world p j t
        by_p true e =
            let at_p : parent ≡ p = (Decides-eqb parent p).0 e in
            let first : Way = way_through depth j y in
            let some : Some first ≡ Some t = sym (ap (λ b. if b then Some first else further_way depth world p j y parent) e) ∙ here in
            let same : first ≡ t = cc in
            let depths : (image_at world parent).depth ≡ (image_at world p).depth = ap (λ (k : ℕ). (image_at world k).depth) at_p in
            let level_is : depth ≡ (image_at world p).depth = omega (arith, level, deeper, depths) in
            let less : (image_at world p).depth < (image_at world j).depth = omega (arith, deeper, depths) in
            subst (IsWay world p j) same (record { stands = stands ∙ ap Some at_p; inside = inside; levels = level_is; below = less })
        by_p false e = by_shown (is_shown world parent j (outward world parent j y)) refl
          where
            on : further_way depth world p j y parent ≡ Some t
            on = sym (ap (λ b. if b then Some (way_through depth j y) else further_way depth world p j y parent) e) ∙ here

            by_shown : (b : Bool) → is_shown world parent j (outward world parent j y) ≡ b → IsWay world p j t
            by_shown false f =
                let none : None ≡ Some t = sym (ap (λ b. if b then through_within depth world p parent (outward world parent j y) else None) f) ∙ on in cc
            by_shown true f =
                let some : through_within depth world p parent (outward world parent j y) ≡ Some t = sym (ap (λ b. if b then through_within depth world p parent (outward world parent j y) else None) f) ∙ on in
                let is_in = (and_parts (holds (image_at world parent).r (outward world parent j y)) (is_top (image_at world parent).windows j (outward world parent j y)) f).0 in
                let rest = further parent (omega (arith, level, deeper)) is_in some in
                record { stands = rest.stands; inside = rest.inside; levels = rest.levels; below = omega (arith, deeper, rest.below) }

-- an image is not on its own way up
pub no_own_way : (world : World) → IsStanding world → (p : ℕ) (q : Point) → holds (image_at world p).r q ≡ true → through_within (image_at world p).depth world p p q ≡ None
no_own_way world ok p q inside = by_way (through_within (image_at world p).depth world p p q) refl
  where
    by_way : (o : Option Way) → through_within (image_at world p).depth world p p q ≡ o → o ≡ None
    by_way None e = refl
    by_way (Some t) e =
        let is = is_way world ok p (image_at world p).depth p q t refl inside e in
        absurd (omega (arith, is.below))

-- a window that is looked down into from a point has the way of that point
abbrev pub HasWay : World → ℕ → ℕ → Point → Type 0
HasWay world p j y = (t : Way) × (through_within (image_at world j).depth world p j y ≡ Some t)

-- where one looks down from a point with a way to a bare pixel, that pixel has a way
pub way_below : (world : World) → IsStanding world → HasOnePlaces world → (p depth j : ℕ) (x : Point) → IsLive world j → holds (image_at world j).r x ≡ true → HasWay world p j x → HasWay world p (shown_within depth world j x).image (shown_within depth world j x).at
way_below world ok places p zero j x live inside has = has
way_below world ok places p (suc depth) j x live inside has =
    by_top (top_window (image_at world j).windows x) refl (λ w top. way_below world ok places p depth w.image (inward world w x))
  where
    goes : Place → Type 0
    goes k = HasWay world p k.image k.at

    by_top : (o : Option Window) → top_window (image_at world j).windows x ≡ o → ((w : Window) → top_window (image_at world j).windows x ≡ Some w → IsLive world w.image → holds (image_at world w.image).r (inward world w x) ≡ true → HasWay world p w.image (inward world w x) → goes (shown_within depth world w.image (inward world w x))) → goes (option_map_or (λ w. shown_within depth world w.image (inward world w x)) o (own j x))
    by_top None top further = has
    by_top (Some w) top further =
        let is : IsWindowOf world j w = window-at world ok j x w live top in
        further w top is.live (inward-inside world ok j x w live top) (has.0, one_more)
      where
        is : IsWindowOf world j w
        is = window-at world ok j x w live top

        apart : j ≢ p
        apart same =
            let t = is_way world ok p (image_at world j).depth j x has.0 refl inside has.1 in
            let depths : (image_at world j).depth ≡ (image_at world p).depth = ap (λ (k : ℕ). (image_at world k).depth) same in
            absurd (omega (arith, t.below, depths))

        one_more : through_within (image_at world w.image).depth world p w.image (inward world w x) ≡ Some has.0
        one_more =
            let q : Point = inward world w x in
            let differ : (j == p) ≡ false = ne_eqb j p apart in
            ap (λ n. through_within n world p w.image q) (is.above ∙ add-one (image_at world j).depth)
            ∙ ap (λ o. option_map_or (way (image_at world j).depth world p w.image q) o None) is.stands
            ∙ ap (λ b. if b then Some (way_through (image_at world j).depth w.image q) else further_way (image_at world j).depth world p w.image q j) differ
            ∙ ap (λ z. if is_shown world j w.image z then through_within (image_at world j).depth world p j z else None) (outward-inward world places j x w live top)
            ∙ ap (λ b. if b then through_within (image_at world j).depth world p j x else None) (is_shown-top world j x w inside top)
            ∙ has.1

-- a window of p has one
pub way_of_window : (world : World) → IsStanding world → (p i : ℕ) (x : Point) → parent_of world i ≡ Some p → HasWay world p i x
way_of_window world ok p i x stands =
    let itself : (p == p) ≡ true = eq-eqb p p refl in (
      way_through (image_at world p).depth i x,
      ap (λ n. through_within n world p i x) (depth-parent world ok i p stands)
          ∙ ap (λ o. option_map_or (way (image_at world p).depth world p i x) o None) stands
          ∙ ap (λ b. if b then Some (way_through (image_at world p).depth i x) else further_way (image_at world p).depth world p i x p) itself,
    )

-- and so has all that p shows but its own pixels
pub way_of_shown : (world : World) → IsStanding world → HasOnePlaces world → (p : ℕ) (q : Point) → IsLive world p → holds (image_at world p).r q ≡ true → (shown world p q).image ≢ p → HasWay world p (shown world p q).image (shown world p q).at
way_of_shown world ok places p q live inside apart = by_top (top_window (image_at world p).windows q) refl
  where
    goes : Place → Type 0
    goes k = HasWay world p k.image k.at

    by_top : (o : Option Window) → top_window (image_at world p).windows q ≡ o → HasWay world p (shown world p q).image (shown world p q).at
    by_top None top = absurd (apart (ap (λ (o : Option Window). (option_map_or (λ w. shown_within deepest world w.image (inward world w q)) o (own p q)).image) top))
    by_top (Some w) top =
        let is : IsWindowOf world p w = window-at world ok p q w live top in
        subst goes (sym (ap (λ (o : Option Window). option_map_or (λ w. shown_within deepest world w.image (inward world w q)) o (own p q)) top))
        (way_below world ok places p deepest w.image (inward world w q) is.live (inward-inside world ok p q w live top) (way_of_window world ok p w.image (inward world w q) is.stands))

-- where p keeps its own points does not change
pub keeping-own : (old new : World) (p : ℕ) (q : Point) → SameButList old new p → IsStanding new → holds (image_at new p).r q ≡ true → keeping new p q ≡ keeping old p q
keeping-own old new p q same ok inside =
    let none : through_within (image_at new p).depth old p p q ≡ None = sym (through_within-same old new p same (image_at new p).depth p q) ∙ no_own_way new ok p q inside in
    keeping-relist_other old new p same (image_at new p).depth p q none ∙ ap (λ n. keeping_within n old p q) (same.depth p)

-- what p shows of itself
pub restacked-list : (old new : World) (p : ℕ) (before after : Place → ℕ) (fill : Point → ℕ) (q : Point) → SameButList old new p → IsStanding new → IsRestacked old new p before after fill → holds (image_at new p).r q ≡ true → is_bare (image_at new p).windows q ≡ true → after (keeping new p q) ≡ (if is_bare (image_at old p).windows q then before (keeping old p q) else fill q)
restacked-list old new p before after fill q same ok is inside bare = ap after (keeping-own old new p q same ok inside) ∙ is.bare q inside bare

-- each pixel of a window is where it is kept
pub restacked-window : (old new : World) (p : ℕ) (before after : Place → ℕ) (fill : Point → ℕ) (i : ℕ) (x : Point) → SameButList old new p → IsStanding new → HasOnePlaces new → IsLive new p → IsRestacked old new p before after fill → parent_of new i ≡ Some p → holds (image_at new i).r x ≡ true → after (keeping_step (image_at new p).depth new i x p) ≡ before (keeping old i x)
restacked-window old new p before after fill i x same ok places live is stands inside = by_shown (is_shown new p i (outward new p i x)) refl
  where
    by_shown : (b : Bool) → is_shown new p i (outward new p i x) ≡ b → after (if b then keeping new p (outward new p i x) else own i x) ≡ before (keeping old i x)
    by_shown false e = is.hidden i x stands inside e
    by_shown true e =
        let by = shown_there new places p i x live e in
        let q : Point = outward new p i x in
        ap after (keeping-own old new p q same ok by.1.inside)
        ∙ is.covered q by.0 by.1.inside by.1.top
        ∙ ap (λ y. before (keeping old by.0.image y)) by.1.back
        ∙ ap (λ n. before (keeping old n x)) by.1.image

-- a place where a bare pixel is kept that has no way through p is none of those that change
pub restacked-apart : (old new : World) (p : ℕ) (before after : Place → ℕ) (fill : Point → ℕ) (n : ℕ) (y : Point) → SameButList old new p → IsStanding new → HasOnePlaces new → IsLive new p → IsRestacked old new p before after fill → n ≢ p → IsLive new n → holds (image_at new n).r y ≡ true → is_bare (image_at new n).windows y ≡ true → through_within (image_at new n).depth new p n y ≡ None → after (keeping new n y) ≡ before (keeping new n y)
restacked-apart old new p before after fill n y same ok places live is apart n_live inside bare none =
    is.others (keeping new n y) (λ q q_in e. not_p q (q_in) (e ∙ sym (keeping-own old new p q same ok q_in))) not_window
  where
    -- what is looked at from its place is itself
    itself : (k : Place) → keeping new n y ≡ k → shown new k.image k.at ≡ own n y
    itself k e =
        ap (λ (l : Place). shown new l.image l.at) (sym e)
        ∙ shown-keeping new ok places (image_at new n).depth n y n_live
        ∙ shown-bare new n y bare

    no_way : HasWay new p n y → ⊥
    no_way has = let both : None ≡ Some has.0 = sym none ∙ has.1 in cc

    goes : Place → Type 0
    goes k = HasWay new p k.image k.at

    not_p : (q : Point) → holds (image_at new p).r q ≡ true → keeping new n y ≡ keeping new p q → ⊥
    not_p q q_in e =
        let seen : shown new p q ≡ own n y =
        sym (shown-keeping new ok places (image_at new p).depth p q live) ∙ itself (keeping new p q) e in
        let other : (shown new p q).image ≢ p = λ same_p. apart (sym (ap (λ (k : Place). k.image) seen) ∙ same_p) in
        no_way (subst goes seen (way_of_shown new ok places p q live q_in other))

    not_window : (i : ℕ) (x : Point) → parent_of new i ≡ Some p → keeping new n y ≢ own i x
    not_window i x stands e =
        let seen : shown new i x ≡ own n y = itself (own i x) e in
        let i_live : IsLive new i = live-standing new i p stands in
        let x_in : holds (image_at new i).r x ≡ true = subst (λ (k : Place). holds (image_at new k.image).r k.at ≡ true) e (keeping-inside new (image_at new n).depth n y inside) in
        no_way (subst goes seen (way_below new ok places p (suc deepest) i x i_live x_in (way_of_window new ok p i x stands)))

-- and so the pixels of the other images are where they are kept
pub restacked-others : (old new : World) (p : ℕ) (before after : Place → ℕ) (fill : Point → ℕ) (n : ℕ) (y : Point) → SameButList old new p → IsStanding new → HasOnePlaces new → IsLive new p → IsRestacked old new p before after fill → n ≢ p → IsLive new n → holds (image_at new n).r y ≡ true → is_bare (image_at new n).windows y ≡ true → after (keeping new n y) ≡ before (keeping old n y)
restacked-others old new p before after fill n y same ok places live is apart n_live inside bare = by_way (through_within (image_at new n).depth new p n y) refl
  where
    was : through_within (image_at new n).depth new p n y ≡ through_within (image_at new n).depth old p n y
    was = through_within-same old new p same (image_at new n).depth n y

    by_way : (o : Option Way) → through_within (image_at new n).depth new p n y ≡ o → after (keeping new n y) ≡ before (keeping old n y)
    by_way None none =
        restacked-apart old new p before after fill n y same ok places live is apart n_live inside bare none
        ∙ ap before (keeping-relist_other old new p same (image_at new n).depth n y (sym was ∙ none) ∙ ap (λ k. keeping_within k old n y) (same.depth n))
    by_way (Some t) some =
        let way = is_way new ok p (image_at new n).depth n y t refl inside some in
        let stood : parent_of old t.image ≡ Some p = sym (parent_of-same old new p same t.image) ∙ way.stands in
        let one_level : keeping old t.image t.at ≡ keeping_step (image_at new p).depth old t.image t.at p =
        ap (λ k. keeping_within k old t.image t.at) (sym (same.depth t.image) ∙ depth-parent new ok t.image p way.stands)
        ∙ ap (λ o. option_map_or (keeping_step (image_at new p).depth old t.image t.at) o (own t.image t.at)) stood in
        ap after (keeping-through new p (image_at new n).depth n y t some)
        ∙ ap (λ k. after (keeping_step k new t.image t.at p)) way.levels
        ∙ restacked-window old new p before after fill t.image t.at same ok places live is way.stands way.inside
        ∙ ap before (one_level
        ∙ ap (λ k. keeping_step k old t.image t.at p) (sym way.levels)
        ∙ sym (keeping-through old p (image_at new n).depth n y t (sym was ∙ some))
        ∙ ap (λ k. keeping_within k old n y) (same.depth n))
