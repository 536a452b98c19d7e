use Rattle.std.proofs.Common.{◌≡◌, ◌≢◌, ◌∙◌, ◌<◌, ◌^◌, false, true, All, Bool, List, [], ◌∷◌, Option, ℕ, inl, inr, refl, sym, subst, ap, ⊎_elim, arith}
use Rattle.std.specs.Prelude.{◌&&◌}
use Rattle.std.specs.Option.{option_map_or}
use Rattle.std.proofs.lemmas.Bool.{and_from, and_parts, cases_eq, false_from_ne_true, true≢false}
use Rattle.r9_geom.specs.declared.Point.{Point}
use Rattle.r9_geom.specs.declared.Rect.{Rect}
use Rattle.r9_geom.specs.Geometry.{area_of, holds, IsOrdered, IsRectNear}
use Rattle.model_forest.specs.declared.Window.{Window}
use Rattle.model_forest.specs.Stack.{without}
use Rattle.model_forest.specs.World.{Image, image_at}
use Rattle.model_forest.proofs.Views.{All-top_window}
use Rattle.model_kept.specs.Cells.{cell_of, cell_part, hides_on}
use Rattle.model_kept.specs.Keeping.{is_top, keeping, place_among, Place}
use Rattle.model_kept.specs.Restack.{with_list, IsRestacked}
use Rattle.r9_locate.specs.locate.Forms.{bits_in, Form, HasBits}
use Rattle.r9_locate.specs.locate.Table.{shape}
use Rattle.r9_pixels.specs.Kept.{has_place, kept_at}
use Rattle.r9_pixels.specs.Places.{HasTakenOff}
use Rattle.r9_restack.specs.Changing.{IsUnseen}
use Rattle.r9_restack.specs.Stacks.{IsFront}
use Rattle.r9_relist.proofs.relist.Away.{away_bare, away_has, away_unseen}
use Rattle.r9_relist.proofs.relist.Front.{front_other}
use Rattle.r9_relist.proofs.relist.Lists.{lists_near, lists_places}
use Rattle.r9_relist.proofs.relist.Off.{relisted_taken}
use Rattle.r9_relist.proofs.relist.Relisted.{relist_apart, relist_area, relist_bits, relist_corners, relist_disclosed, relist_on, relist_one, relist_ones, relist_others, relist_placed_ordered, relist_rect, relist_stand, relisted_world}
use Rattle.r9_relist.proofs.relist.Surfaces.{surface_has, unshown_has}
use Rattle.r9_relist.proofs.relist.Tops.{others_places, others_top, top_place}
use Rattle.r9_relist.proofs.relist.relisting.disclose_pixels.Goals as goal
use Rattle.r9_relist.proofs.relist.relisting.disclose_pixels.Goals.{After-common-area, After-count_front-from, After-deref}

listed : (g : _) (c : After-deref g) → c.deref.result.now ≡ (image_at (shape c.args.lists.now) c.args.p).windows
listed g c = c.deref.ensures.value ∙ ap (λ (image : Image). image.windows) (sym c.get.ensures)

front : (g : _) (c : After-count_front-from g) → c.deref.result.now ≡ (image_at (shape c.args.lists.now) c.args.p).windows → IsFront (image_at (shape c.args.lists.now) c.args.p).windows c.args.new.now c.args.w c.count_front-from.result
front g c is = subst (λ (ws : List Window). IsFront ws c.args.new.now c.args.w c.count_front-from.result) is c.count_front-from.ensures

-- none of them is the image below
apart_all : (g : _) (c : After-deref g) → All (λ (v : Window). v.image ≢ c.args.p) c.args.new.now
apart_all g c k d below =
    let is = c.requires.change in
    relist_apart (shape c.args.lists.now) c.args.p c.args.new.now is.live is.forest _ (relist_stand (shape c.args.lists.now) c.args.p c.args.new.now is.live is.forest k d below).stands

-- each has the place that it had, but for the one that moves
places : (g : _) (c : After-deref g) → (i : ℕ) → i ≢ c.args.w → place_among c.args.new.now i ≡ place_among (image_at (shape c.args.lists.now) c.args.p).windows i
places g c i other = others_places (shape c.args.lists.now) c.args.p c.args.w c.args.new.now (lists_places c.args.lists.now c.args.p c.requires.change.live) c.requires.change.others i other

pub get-requires : goal.get-requires
get-requires g c = c.requires.change.live

pub count_front-from-requires : goal.count_front-from-requires
count_front-from-requires g c = c.requires.change.others ∙ ap (without c.args.w) (sym (listed g (goal.at.count_front-from-requires g c).After-deref))

pub take_hidden-requires-clause-live : goal.take_hidden-requires-clause-live
take_hidden-requires-clause-live g c = c.requires.change.live

pub take_hidden-requires-clause-windows : goal.take_hidden-requires-clause-windows
take_hidden-requires-clause-windows g c = relist_on (shape c.args.lists.now) c.args.p c.args.new.now c.requires.change.live c.requires.change.forest

pub take_hidden-requires-clause-one : goal.take_hidden-requires-clause-one
take_hidden-requires-clause-one g c = relist_ones (shape c.args.lists.now) c.args.p c.args.new.now c.requires.change.live c.requires.change.forest

pub take_hidden-requires-clause-still : goal.take_hidden-requires-clause-still
take_hidden-requires-clause-still g c =
    let world = shape c.args.lists.now in
    let is = c.requires.change in
    let at = goal.at.take_hidden-requires-clause-still g c in
    subst (λ (r : Rect). HasTakenOff world c.args.p c.args.new.now c.count_front-from.result (r ∷ []) (has_place c.args.pixels.now)) (sym c.requires.stands)
    (relisted_taken world c.args.p c.args.w c.args.new.now is (lists_places c.args.lists.now c.args.p is.live) c.count_front-from.result (front g at.After-count_front-from (listed g at.After-deref)) (has_place c.args.pixels.now)
    (λ i x other stands inside.
    let r = (image_at world i).r in
    c.requires.cells i c.args.p x stands inside ∙ ap (λ o. option_map_or (λ n. hides_on world n i (cell_part r (cell_of r x))) o false) stands))

pub disclose-requires-clause-front : goal.disclose-requires-clause-front
disclose-requires-clause-front g c =
    let at = goal.at.disclose-requires-clause-front g c in
    front_other (image_at (shape c.args.lists.now) c.args.p).windows c.args.new.now c.args.w c.args.p c.count_front-from.result (front g at.After-count_front-from (listed g at.After-deref)) (apart_all g at.After-deref)

pub common-area-requires-clause-near : goal.common-area-requires-clause-near
common-area-requires-clause-near g c =
    let is = c.requires.change in
    subst IsRectNear (sym c.requires.stands) (relist_rect (shape c.args.lists.now) c.args.p c.args.new.now is.live is.forest c.args.w is.stands)

pub common-area-requires-clause-also : goal.common-area-requires-clause-also
common-area-requires-clause-also g c = subst (λ (image : Image). IsRectNear image.r) c.get-2.ensures (lists_near c.args.lists.now c.args.p c.requires.change.live).0

-- the points of the area
below : (g : _) (c : After-common-area g) → (z : Point) → holds c.common-area.result z ≡ (holds (place_among c.args.new.now c.args.w) z && holds (image_at (shape c.args.lists.now) c.args.p).r z)
below g c z =
    c.common-area.ensures.points z
    ∙ (λ j. holds (c.requires.stands j) z && holds (sym c.get-2.ensures j).r z)

pub disclose-requires-clause-change : goal.disclose-requires-clause-change
disclose-requires-clause-change g c =
    let world = shape c.args.lists.now in
    let at = goal.at.disclose-requires-clause-change g c in
    let is = c.requires.change in
    let unseen = away_unseen world c.args.p c.args.w c.args.new.now is c.requires.before c.requires.away in
    record {
      window = c.args.w;
      others = λ i other. places g at.After-deref i other;
      change = record {
        live = is.live;
        places = λ i z apart inside top.
            ⊎_elim
            (λ (same : i ≡ c.args.w). inr (subst (λ n. IsUnseen world c.args.p c.args.new.now n) (sym same) unseen))
            (λ (other : i ≢ c.args.w). inl (places g at.After-deref i other))
            (cases_eq i c.args.w);
        stand = relist_stand world c.args.p c.args.new.now is.live is.forest;
        one = relist_one world c.args.p c.args.new.now is.live is.forest;
      };
      above = is.stands;
      unseen = unseen;
    }

pub disclose-requires-clause-inside : goal.disclose-requires-clause-inside
disclose-requires-clause-inside g c z h =
    let at = goal.at.disclose-requires-clause-inside g c in
    (and_parts (holds (place_among c.args.new.now c.args.w) z) (holds (image_at (shape c.args.lists.now) c.args.p).r z) (sym (below g at.After-common-area z) ∙ h)).1

pub disclose-requires-clause-outside : goal.disclose-requires-clause-outside
disclose-requires-clause-outside g c = λ z inside away.
    let world = shape c.args.lists.now in
    let at = goal.at.disclose-requires-clause-outside g c in
    let is = c.requires.change in
    let none : is_top c.args.new.now c.args.w z ≡ false = false_from_ne_true (is_top c.args.new.now c.args.w z)
    (λ seen.
    let stood = top_place c.args.w z c.args.new.now (relist_one world c.args.p c.args.new.now is.live is.forest) seen in
    true≢false (sym (below g at.After-common-area z ∙ and_from (holds (place_among c.args.new.now c.args.w) z) (holds (image_at world c.args.p).r z) stood inside) ∙ away)) in
    let it = others_top world c.args.p c.args.w c.args.new.now (lists_places c.args.lists.now c.args.p is.live) is.others c.common-area.result (λ y lower stood. absurd (true≢false (sym lower ∙ c.requires.away.off y stood))) z inside away none in
    record { tops = it.tops; apart = λ v top. All-top_window (λ (u : Window). u.image ≢ c.args.p) c.args.new.now z v (apart_all g at.After-deref) top; bare = it.bare }

pub disclose-requires-clause-near_new : goal.disclose-requires-clause-near_new
disclose-requires-clause-near_new g c = relist_corners (shape c.args.lists.now) c.args.p c.args.new.now c.requires.change.live c.requires.change.forest

pub disclose-requires-clause-places : goal.disclose-requires-clause-places
disclose-requires-clause-places g c =
    let world = shape c.args.lists.now in
    let at = goal.at.disclose-requires-clause-places g c in
    let is = c.requires.change in
    relist_disclosed world c.args.p c.args.new.now is.live is.forest c.args.w (has_place c.args.pixels.now) (has_place c.take_hidden.new.self)
    (λ i other. places g at.After-deref i other)
    (λ x inside. away_has world c.args.p c.args.w c.args.new.now is c.requires.before c.requires.away (has_place c.args.pixels.now) c.requires.cells x inside)
    (λ z h. surface_has c.args.pixels.now world c.requires.before c.requires.forms c.requires.cells (image_at world c.args.p).depth c.args.p z refl is.live h)
    (λ i x stands inside none. unshown_has world (has_place c.args.pixels.now) i c.args.p x c.requires.before c.requires.cells stands inside none)
    c.take_hidden.ensures.has

pub disclose-requires-clause-bits : goal.disclose-requires-clause-bits
disclose-requires-clause-bits g c =
    subst (HasBits (shape c.args.lists.now)) (sym (c.take_hidden.ensures.forms ∙ c.requires.forms))
    (relist_bits (shape c.args.lists.now) c.args.p c.args.new.now c.requires.change.live c.requires.change.forest)

pub disclose-requires-clause-fill : goal.disclose-requires-clause-fill
disclose-requires-clause-fill g c = subst (λ (forms : ℕ → Option Form). (x : _) → g.S.Source.fill c.args.source.now x < 2 ^ bits_in forms c.args.p) (sym c.take_hidden.ensures.forms) c.requires.fill

pub returns-clause-front : goal.returns-clause-front
returns-clause-front g c =
    let at = goal.at.returns-clause-front g c in
    front g at.After-count_front-from (listed g at.After-deref)

pub returns-clause-others : goal.returns-clause-others
returns-clause-others g c =
    relist_others (shape c.args.lists.now) c.args.p c.args.new.now c.requires.change.live c.requires.change.forest (has_place c.args.pixels.now) (has_place c.disclose.new.pixels)
    (λ i q x other stands inside. c.requires.cells i q x stands inside)
    (λ place. ap (λ (has : Place → Bool). has place) c.disclose.ensures.has ∙ c.take_hidden.ensures.has place)

pub returns-clause-has : goal.returns-clause-has
returns-clause-has g c = λ place. ap (λ (has : Place → Bool). has place) c.disclose.ensures.has ∙ c.take_hidden.ensures.has place

pub returns-clause-steps : goal.returns-clause-steps
returns-clause-steps g c =
    let world = shape c.args.lists.now in
    let is = c.requires.change in
    let ordered : IsOrdered c.args.place.now = subst IsOrdered (sym c.requires.stands) (relist_placed_ordered world c.args.p c.args.new.now is.live is.forest c.args.w is.stands) in
    let fewer = c.common-area.ensures.fewer ordered in
    let same = ap area_of c.requires.stands ∙ relist_area world c.args.p c.args.new.now is.live is.forest c.args.w is.stands in
    omega (arith, fewer, same, c.disclose.ensures.steps)

pub returns-clause-moved : goal.returns-clause-moved
returns-clause-moved g c =
    let world = shape c.args.lists.now in
    let is = c.requires.change in
    let kept = kept_at c.args.pixels.now in
    let fill = g.S.Source.fill c.args.source.now in
    relisted_world world c.args.p c.args.w c.args.new.now (λ x. kept (keeping world c.args.w x)) fill kept kept (kept_at c.disclose.new.pixels) is.live is.forest
    (record {
      others = λ place other. refl;
      pixels = λ x inside. refl;
      fills = λ q inside covered bare.
          absurd (true≢false (sym (away_bare world c.args.p c.args.w c.args.new.now is c.requires.before c.requires.away q inside bare) ∙ covered));
    })
    (subst (λ (k : Place → ℕ). IsRestacked world (with_list world c.args.p c.args.new.now) c.args.p k (kept_at c.disclose.new.pixels) fill) c.take_hidden.ensures.kept c.disclose.ensures.moved)
