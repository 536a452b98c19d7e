use Rattle.std.proofs.Common.{◌≡◌, ◌∙◌, ◌≤◌, ℕ, Bool, true, false, List, map, ap, sym, subst, arith}
use Rattle.std.specs.Prelude.{◌&&◌, if◌then◌else◌, IsSome}
use Rattle.std.proofs.lemmas.Bool.{and_parts}
use Rattle.std.proofs.lemmas.List.Elements.{All-map}
use Rattle.std.proofs.lemmas.Result.{on_ok_weaker}
use Rattle.r9_geom.specs.declared.Point.{Point}
use Rattle.r9_geom.specs.Geometry.{holds}
use Rattle.r9_region.specs.Region.{covers, how_many_hold}
use Rattle.r9_region.proofs.Counted.{areas_apart}
use Rattle.r9_locate.specs.declared.info.ImageNo.{ImageNo}
use Rattle.model_forest.specs.declared.Window.{Window}
use Rattle.model_forest.specs.World.{Image, image_at, parent_of, IsForest}
use Rattle.model_forest.specs.Stack.{after_raise, raised}
use Rattle.model_forest.proofs.Steps.{IsForest-after_raise}
use Rattle.model_kept.proofs.Once.{places-forest}
use Rattle.r9_locate.specs.locate.Table.{shape}
use Rattle.r9_pixels.specs.Kept.{kept_at}
use Rattle.r9_restack.specs.Moving.{IsReordering, IsSameTop}
use Rattle.r9_restack.proofs.Areas.{areas_in}
use Rattle.r9_restack.proofs.Raised.{outside-raised, reordering-raised}
use Rattle.r9_forest.specs.Images.{world}
use Rattle.r9_forest.specs.Groups.{places_of}
use Rattle.r9_forest.proofs.Groups.{group_area-bare, group_listed, left_false, places_most}
use Rattle.r9_relist.proofs.relist.Lists.{lists_near}
use Rattle.r9_forest.proofs.Sounding.{sound_forest, sound_live, sound_windows}
use Rattle.r9_forest.proofs.images.Images.raise.Given.{Over}
use Rattle.r9_forest.proofs.images.Images.raise.Goals as goal
use Rattle.r9_forest.proofs.images.Images.raise.Goals.{After-parts, In_ok-list}

-- the list that was made
made : (g : Over) (c : In_ok-list g) → c.in_ok-list.list.items ≡ raised (map (λ i. i.0) c.args.group.now) (image_at (shape c.args.self.now.lists) c.in-Some.parent).windows
made g c = c.in_ok-list.ensures ∙ ap (raised (map (λ i. i.0) c.args.group.now)) (c.deref.ensures.value ∙ sym (ap (λ (im : Image). im.windows) c.get.ensures))

list : (g : Over) (c : In_ok-list g) → c.in_ok-list.list.items ≡ raised (map (λ i. i.0) c.args.group.now) (image_at (world c.args.self.now) c.in-Some.parent).windows
unfolding world
list g c = made g c ∙ ap (raised (map (λ i. i.0) c.args.group.now)) (sound_windows c.args.self.now.lists (kept_at c.args.self.now.pixels) c.in-Some.parent)

pub returns-in_default-clause-raised : goal.returns-in_default-clause-raised
unfolding world after_raise
returns-in_default-clause-raised g c =
    sym (ap (λ (group : List ImageNo). after_raise (world c.args.self.now) (map (λ i. i.0) group)) c.in_default.ensures.none)

pub places_of-requires : goal.places_of-requires
unfolding world
places_of-requires g c = sound_live c.args.self.now.lists (kept_at c.args.self.now.pixels) c.in-Some.parent c.in-Some.ensures.parent.live

pub get-requires : goal.get-requires
unfolding world
get-requires g c = sound_live c.args.self.now.lists (kept_at c.args.self.now.pixels) c.in-Some.parent c.in-Some.ensures.parent.live

pub set_order-requires-clause-order : goal.set_order-requires-clause-order
unfolding world
set_order-requires-clause-order g c =
    let was = c.args.self.now in
    let ok = sound_forest was.lists (kept_at was.pixels) was.sound.forest in
    subst (IsReordering (shape was.lists) c.in-Some.parent) (sym (made g (goal.at.set_order-requires-clause-order g c).In_ok-list))
    (reordering-raised (shape was.lists) ok (places-forest (shape was.lists) ok) c.in-Some.parent (map (λ i. i.0) c.args.group.now) (sound_live was.lists (kept_at was.pixels) c.in-Some.parent c.in-Some.ensures.parent.live))

pub set_order-requires-clause-forest : goal.set_order-requires-clause-forest
unfolding world after_raise
set_order-requires-clause-forest g c =
    let group = map (λ i. i.0) c.args.group.now in
    let w = world c.args.self.now in
    subst IsForest (sym (group_listed w group c.in-Some.parent c.in_ok-list.list.items (raised group) c.in-Some.ensures.parent (list g (goal.at.set_order-requires-clause-forest g c).In_ok-list)))
    (IsForest-after_raise w group (All-map (λ n. IsSome (parent_of w n)) (λ (i : ImageNo). i.0) c.args.group.now c.requires.windows) c.args.self.now.sound.forest)

-- where the group stands
standing : (g : Over) (c : After-parts g) → (z : Point) → covers c.parts.result.now z ≡ (covers (places_of (shape c.args.self.now.lists) c.in-Some.parent (map (λ i. i.0) c.args.group.now)) z && holds (image_at (shape c.args.self.now.lists) c.in-Some.parent).r z)
standing g c z = ap (λ ps. covers ps z) c.parts.ensures.value ∙ c.in_ok-places.ensures z

once : (g : Over) (c : After-parts g) → (z : Point) → how_many_hold c.parts.result.now z ≤ 1
once g c z = most (covers c.in_ok-places.places z) (how_many_hold c.parts.result.now z) (c.parts.ensures.once z)
  where
    most : (b : Bool) (n : ℕ) → n ≡ (if b then 1 else 0) → n ≤ 1
    most true n e = omega (arith, e)
    most false n e = omega (arith, e)

pub set_order-requires-clause-areas : goal.set_order-requires-clause-areas
unfolding world
set_order-requires-clause-areas g c =
    let was = c.args.self.now in
    let live = sound_live was.lists (kept_at was.pixels) c.in-Some.parent c.in-Some.ensures.parent.live in
    let at = (goal.at.set_order-requires-clause-areas g c).After-parts in
    areas_in (image_at (shape was.lists) c.in-Some.parent).r c.parts.result.now (lists_near was.lists c.in-Some.parent live).0 c.parts.ensures.solid (once g at)
    (λ z h. (and_parts (covers (places_of (shape was.lists) c.in-Some.parent (map (λ i. i.0) c.args.group.now)) z) _ (sym (standing g at z) ∙ h)).1)

pub set_order-requires-clause-outside : goal.set_order-requires-clause-outside
unfolding world
set_order-requires-clause-outside g c z inside out =
    let was = c.args.self.now in
    let ok = sound_forest was.lists (kept_at was.pixels) was.sound.forest in
    let group = map (λ i. i.0) c.args.group.now in
    let at = goal.at.set_order-requires-clause-outside g c in
    subst (λ (ws : List Window). IsSameTop (shape was.lists) c.in-Some.parent ws z) (sym (made g at.In_ok-list))
    (outside-raised (shape was.lists) (places-forest (shape was.lists) ok) c.in-Some.parent group z (sound_live was.lists (kept_at was.pixels) c.in-Some.parent c.in-Some.ensures.parent.live)
    (left_false (covers (places_of (shape was.lists) c.in-Some.parent group) z) (holds (image_at (shape was.lists) c.in-Some.parent).r z) (sym (standing g at.After-parts z) ∙ out) inside))

pub returns-clause-raised : goal.returns-clause-raised
unfolding after_raise
returns-clause-raised g c =
    let group = map (λ i. i.0) c.args.group.now in
    on_ok_weaker c.set_order.result
    (λ is. is ∙ group_listed (world c.args.self.now) group c.in-Some.parent c.in_ok-list.list.items (raised group) c.in-Some.ensures.parent (list g (goal.at.returns-clause-raised g c).In_ok-list))
    c.set_order.ensures.world

pub returns-clause-steps : goal.returns-clause-steps
unfolding world
returns-clause-steps g c =
    let was = c.args.self.now in
    let ok = sound_forest was.lists (kept_at was.pixels) was.sound.forest in
    let shape_live = sound_live was.lists (kept_at was.pixels) c.in-Some.parent c.in-Some.ensures.parent.live in
    let group = map (λ i. i.0) c.args.group.now in
    let at = (goal.at.returns-clause-steps g c).After-parts in
    let fewer =
    areas_apart (image_at (shape was.lists) c.in-Some.parent).r c.parts.result.now (places_of (shape was.lists) c.in-Some.parent group) (ok.images c.in-Some.parent shape_live).ordered c.parts.ensures.solid (once g at)
    (λ z h. (and_parts (covers (places_of (shape was.lists) c.in-Some.parent group) z) _ (sym (standing g at z) ∙ h)).1)
    (λ z h. (and_parts (covers (places_of (shape was.lists) c.in-Some.parent group) z) _ (sym (standing g at z) ∙ h)).0) in
    let most = places_most (shape was.lists) c.in-Some.parent group ok shape_live in
    let same = group_area-bare was.lists was.pixels group in
    omega (arith, fewer, most, same, c.set_order.ensures.steps)
