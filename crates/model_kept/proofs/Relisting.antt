-- Where pixels are kept after the list of one image has changed.
use Rattle.std.proofs.Common.{◌≡◌, ◌≢◌, ℕ, zero, suc, Bool, true, false, List, Option, Some, None, refl, sym, ◌∙◌, ap, cond, eq-eqb}
use Rattle.std.specs.Prelude.{◌&&◌, ◌==◌, option_map, if◌then◌else◌}
use Rattle.std.specs.Option.{option_map_or}
use Rattle.std.proofs.lemmas.Bool.Decides.{Decides-eqb}
use Rattle.r9_geom.specs.declared.Point.{Point}
use Rattle.r9_geom.specs.declared.Rect.{Rect}
use Rattle.r9_geom.specs.Geometry.{holds, carried}
use Rattle.model_forest.specs.declared.Window.{Window}
use Rattle.model_forest.specs.declared.Standing.{Standing}
use Rattle.model_forest.specs.World.{World, image_at, parent_of}
use Rattle.model_kept.specs.Keeping.{own, place_among, outward, is_top, is_shown, keeping_within, Place}
use Rattle.model_kept.specs.Restack.{SameButList}

-- a window of an image, and a point of it, that the way up from a pixel comes through, with the levels that are left
pub record Way : Type 0 where
  pub levels : ℕ
  pub image : ℕ
  pub at : Point

abbrev pub way_through : ℕ → ℕ → Point → Way
way_through levels i x = record { levels = levels; image = i; at = x }

-- the way up from a point of image j to image p, if the images above p on that way show it; it reads no list of p
abbrev pub through_within : ℕ → World → ℕ → ℕ → Point → Option Way
through_within zero world p j y = None
through_within (suc depth) world p j y =
    option_map_or
    (λ parent.
    if parent == p then Some (way_through depth j y)
    else (if is_shown world parent j (outward world parent j y) then through_within depth world p parent (outward world parent j y) else None))
    (parent_of world j)
    None

-- one level up: what the parent shows it keeps, and the rest is its own
abbrev pub keeping_step : ℕ → World → ℕ → Point → ℕ → Place
keeping_step depth world j y parent =
    if is_shown world parent j (outward world parent j y) then keeping_within depth world parent (outward world parent j y)
    else own j y

pub parent_of-same : (old new : World) (p : ℕ) → SameButList old new p → (n : ℕ) → parent_of new n ≡ parent_of old n
parent_of-same old new p same n = ap (option_map (λ (s : Standing). s.parent)) (same.standing n)

outward-same : (old new : World) (p : ℕ) → SameButList old new p → (parent j : ℕ) (y : Point) → parent ≢ p → outward new parent j y ≡ outward old parent j y
outward-same old new p same parent j y apart =
    ap (λ (r : Rect). carried y r.min (place_among (image_at new parent).windows j).min) (same.r j)
    ∙ ap (λ (ws : List Window). carried y (image_at old j).r.min (place_among ws j).min) (same.windows parent apart)

is_shown-same : (old new : World) (p : ℕ) → SameButList old new p → (parent j : ℕ) (q : Point) → parent ≢ p → is_shown new parent j q ≡ is_shown old parent j q
is_shown-same old new p same parent j q apart =
    ap (λ (r : Rect). holds r q && is_top (image_at new parent).windows j q) (same.r parent)
    ∙ ap (λ (ws : List Window). holds (image_at old parent).r q && is_top ws j q) (same.windows parent apart)

if_some : {A : Type 0} (b : Bool) (x : A) (o : Option A) → b ≡ true → cond b (Some x) o ≡ None → ⊥
if_some true x o is none = cc
if_some false x o is none = cc

if_none : {A : Type 0} (b : Bool) (o rest : Option A) → b ≡ false → cond b o rest ≡ None → rest ≡ None
if_none true o rest not none = cc
if_none false o rest not none = none

if_then : {A : Type 0} (b : Bool) (o : Option A) → b ≡ true → cond b o None ≡ None → o ≡ None
if_then true o is none = none
if_then false o is none = cc

-- one level up on the way
abbrev pub further_way : ℕ → World → ℕ → ℕ → Point → ℕ → Option Way
further_way depth world p j y parent = if is_shown world parent j (outward world parent j y) then through_within depth world p parent (outward world parent j y) else None

abbrev pub way : ℕ → World → ℕ → ℕ → Point → ℕ → Option Way
way depth world p j y parent = if parent == p then Some (way_through depth j y) else further_way depth world p j y parent

-- where the way up comes through no window of that image, the pixel stays where it is
pub keeping-relist_other : (old new : World) (p : ℕ) → SameButList old new p → (depth j : ℕ) (y : Point) → through_within depth old p j y ≡ None → keeping_within depth new j y ≡ keeping_within depth old j y
keeping-relist_other old new p same zero j y none = refl
keeping-relist_other old new p same (suc depth) j y none =
    by_parent (parent_of old j) refl (λ parent. keeping-relist_other old new p same depth parent (outward old parent j y))
  where
    by_shown : (parent : ℕ) → parent ≢ p → further_way depth old p j y parent ≡ None → (through_within depth old p parent (outward old parent j y) ≡ None → keeping_within depth new parent (outward old parent j y) ≡ keeping_within depth old parent (outward old parent j y)) → (b : Bool) → is_shown old parent j (outward old parent j y) ≡ b → keeping_step depth new j y parent ≡ keeping_step depth old j y parent
    by_shown parent apart none further b e =
        let out : outward new parent j y ≡ outward old parent j y = outward-same old new p same parent j y apart in
        let shown : is_shown new parent j (outward new parent j y) ≡ is_shown old parent j (outward old parent j y) = ap (λ q. is_shown new parent j q) out ∙ is_shown-same old new p same parent j (outward old parent j y) apart in
        ap (λ t. if t then keeping_within depth new parent (outward new parent j y) else own j y) shown
        ∙ ap (λ q. if is_shown old parent j (outward old parent j y) then keeping_within depth new parent q else own j y) out
        ∙ by_test b e
      where
        by_test : (b : Bool) → is_shown old parent j (outward old parent j y) ≡ b → (if is_shown old parent j (outward old parent j y) then keeping_within depth new parent (outward old parent j y) else own j y) ≡ (if is_shown old parent j (outward old parent j y) then keeping_within depth old parent (outward old parent j y) else own j y)
        by_test true e = ap (λ k. if is_shown old parent j (outward old parent j y) then k else own j y) (further (if_then (is_shown old parent j (outward old parent j y)) (through_within depth old p parent (outward old parent j y)) e none))
        by_test false e = rw e refl

    by_parent : (o : Option ℕ) → parent_of old j ≡ o → ((parent : ℕ) → through_within depth old p parent (outward old parent j y) ≡ None → keeping_within depth new parent (outward old parent j y) ≡ keeping_within depth old parent (outward old parent j y)) → keeping_within (suc depth) new j y ≡ keeping_within (suc depth) old j y
    by_parent None stands further =
        ap (λ o. option_map_or (keeping_step depth new j y) o (own j y)) (parent_of-same old new p same j ∙ stands) ∙ sym (ap (λ o. option_map_or (keeping_step depth old j y) o (own j y)) stands)
    by_parent (Some parent) stands further =
        ap (λ o. option_map_or (keeping_step depth new j y) o (own j y)) (parent_of-same old new p same j ∙ stands)
        ∙ by_p (parent == p) refl
        ∙ sym (ap (λ o. option_map_or (keeping_step depth old j y) o (own j y)) stands)
      where
        no_way : way depth old p j y parent ≡ None
        no_way = sym (ap (λ o. option_map_or (way depth old p j y) o None) stands) ∙ none

        by_p : (b : Bool) → (parent == p) ≡ b → keeping_step depth new j y parent ≡ keeping_step depth old j y parent
        by_p true e = absurd (if_some (parent == p) (way_through depth j y) (further_way depth old p j y parent) e no_way)
        by_p false e =
            let apart : parent ≢ p = λ is. let both : (parent == p) ≡ true = eq-eqb parent p is in cc in
            by_shown parent apart (if_none (parent == p) (Some (way_through depth j y)) (further_way depth old p j y parent) e no_way) (further parent) (is_shown old parent j (outward old parent j y)) refl

-- the way up is the same in both worlds
pub through_within-same : (old new : World) (p : ℕ) → SameButList old new p → (depth j : ℕ) (y : Point) → through_within depth new p j y ≡ through_within depth old p j y
through_within-same old new p same zero j y = refl
through_within-same old new p same (suc depth) j y =
    ap (λ o. option_map_or (way depth new p j y) o None) (parent_of-same old new p same j)
    ∙ by_parent (parent_of old j) (λ parent. through_within-same old new p same depth parent (outward old parent j y))
  where
    by_p : (parent : ℕ) → (through_within depth new p parent (outward old parent j y) ≡ through_within depth old p parent (outward old parent j y)) → (b : Bool) → (parent == p) ≡ b → way depth new p j y parent ≡ way depth old p j y parent
    by_p parent further true e = rw e refl
    by_p parent further false e =
        let apart : parent ≢ p = λ is. let both : (parent == p) ≡ true = eq-eqb parent p is in cc in
        let out : outward new parent j y ≡ outward old parent j y = outward-same old new p same parent j y apart in
        let shown : is_shown new parent j (outward new parent j y) ≡ is_shown old parent j (outward old parent j y) = ap (λ q. is_shown new parent j q) out ∙ is_shown-same old new p same parent j (outward old parent j y) apart in
        ap (λ o. if parent == p then Some (way_through depth j y) else o)
        (ap (λ t. if t then through_within depth new p parent (outward new parent j y) else None) shown
        ∙ ap (λ q. if is_shown old parent j (outward old parent j y) then through_within depth new p parent q else None) out
        ∙ ap (λ o. if is_shown old parent j (outward old parent j y) then o else None) further)

    by_parent : (o : Option ℕ) → ((parent : ℕ) → through_within depth new p parent (outward old parent j y) ≡ through_within depth old p parent (outward old parent j y)) → option_map_or (way depth new p j y) o None ≡ option_map_or (way depth old p j y) o None
    by_parent None further = refl
    by_parent (Some parent) further = by_p parent (further parent) (parent == p) refl

if_shown : {A B : Type 0} (b : Bool) (o : Option A) (t : A) (k l m : B) → cond b o None ≡ Some t → (o ≡ Some t → k ≡ m) → cond b k l ≡ m
if_shown true o t k l m is give = give is
if_shown false o t k l m is give = cc

-- where the way up comes through a window of that image, its list alone says where the pixel is kept
pub keeping-through : (world : World) (p depth j : ℕ) (y : Point) (t : Way) → through_within depth world p j y ≡ Some t → keeping_within depth world j y ≡ keeping_step t.levels world t.image t.at p
keeping-through world p zero j y t is = cc
keeping-through world p (suc depth) j y t is =
    by_parent (parent_of world j) refl (λ parent. keeping-through world p depth parent (outward world parent j y) t)
  where
    by_parent : (o : Option ℕ) → parent_of world j ≡ o → ((parent : ℕ) → through_within depth world p parent (outward world parent j y) ≡ Some t → keeping_within depth world parent (outward world parent j y) ≡ keeping_step t.levels world t.image t.at p) → keeping_within (suc depth) world j y ≡ keeping_step t.levels world t.image t.at p
    by_parent None stands further =
        let none : None ≡ Some t = sym (ap (λ o. option_map_or (way depth world p j y) o None) stands) ∙ is in cc
    by_parent (Some parent) stands further =
        ap (λ o. option_map_or (keeping_step depth world j y) o (own j y)) stands ∙ by_p (parent == p) refl
      where
        here : way depth world p j y parent ≡ Some t
        here = sym (ap (λ o. option_map_or (way depth world p j y) o None) stands) ∙ is

        by_p : (b : Bool) → (parent == p) ≡ b → keeping_step depth world j y parent ≡ keeping_step t.levels world t.image t.at p
        by_p true e =
            let at_p : parent ≡ p = (Decides-eqb parent p).0 e in
            let first : Way = way_through depth j y in
            let some : Some first ≡ Some t = sym (ap (λ b. if b then Some first else further_way depth world p j y parent) e) ∙ here in
            let same : first ≡ t = cc in
            ap (keeping_step depth world j y) at_p ∙ ap (λ (u : Way). keeping_step u.levels world u.image u.at p) same
        by_p false e =
            let way_on : further_way depth world p j y parent ≡ Some t = sym (ap (λ b. if b then Some (way_through depth j y) else further_way depth world p j y parent) e) ∙ here in
            if_shown (is_shown world parent j (outward world parent j y)) (through_within depth world p parent (outward world parent j y)) t (keeping_within depth world parent (outward world parent j y)) (own j y) (keeping_step t.levels world t.image t.at p) way_on (further parent)
