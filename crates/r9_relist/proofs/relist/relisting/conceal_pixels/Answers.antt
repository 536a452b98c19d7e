use Rattle.std.proofs.Common.{◌≡◌, ◌≢◌, ◌∙◌, ◌<◌, ◌^◌, false, true, All, Bool, List, [], ◌∷◌, Option, ℕ, inl, refl, sym, subst, ap}
use Rattle.std.specs.Prelude.{is_none}
use Rattle.std.specs.Option.{option_map_or}
use Rattle.std.proofs.lemmas.Bool.{true≢false}
use Rattle.r9_geom.specs.declared.Rect.{Rect}
use Rattle.model_forest.specs.declared.Window.{Window}
use Rattle.model_forest.specs.Stack.{without}
use Rattle.model_forest.specs.View.{top_window}
use Rattle.model_forest.specs.World.{Image, image_at}
use Rattle.model_forest.proofs.Views.{All-top_window}
use Rattle.model_kept.specs.Cells.{cell_of, cell_part, hides_on}
use Rattle.model_kept.specs.Keeping.{is_top, keeping, place_among, Place}
use Rattle.model_kept.specs.Restack.{with_list, IsRestacked}
use Rattle.r9_locate.specs.locate.Forms.{bits_in, Form, HasBits}
use Rattle.r9_locate.specs.locate.Table.{shape}
use Rattle.r9_pixels.specs.Kept.{has_place, kept_at}
use Rattle.r9_pixels.specs.Places.{HasTakenOff}
use Rattle.r9_restack.specs.Stacks.{IsFront}
use Rattle.r9_relist.proofs.relist.Front.{front_other}
use Rattle.r9_relist.proofs.relist.Lists.{lists_places}
use Rattle.r9_relist.proofs.relist.Off.{relisted_taken}
use Rattle.r9_relist.proofs.relist.Relisted.{relist_apart, relist_bits, relist_concealed, relist_corners, relist_on, relist_one, relist_ones, relist_others, relist_stand, relisted_world}
use Rattle.r9_relist.proofs.relist.Surfaces.{surface_has, unshown_has}
use Rattle.r9_relist.proofs.relist.Tops.{others_places, others_top, top-but}
use Rattle.r9_relist.proofs.relist.relisting.conceal_pixels.Goals as goal
use Rattle.r9_relist.proofs.relist.relisting.conceal_pixels.Goals.{After-count_front-from, After-deref}

listed : (g : _) (c : After-deref g) → c.deref.result.now ≡ (image_at (shape c.args.lists.now) c.args.p).windows
listed g c = c.deref.ensures.value ∙ ap (λ (image : Image). image.windows) (sym c.get.ensures)

front : (g : _) (c : After-count_front-from g) → c.deref.result.now ≡ (image_at (shape c.args.lists.now) c.args.p).windows → IsFront (image_at (shape c.args.lists.now) c.args.p).windows c.args.new.now c.args.w c.count_front-from.result
front g c is = subst (λ (ws : List Window). IsFront ws c.args.new.now c.args.w c.count_front-from.result) is c.count_front-from.ensures

-- none of them is the image below
apart_all : (g : _) (c : After-deref g) → All (λ (v : Window). v.image ≢ c.args.p) c.args.new.now
apart_all g c k d below =
    let is = c.requires.change in
    relist_apart (shape c.args.lists.now) c.args.p c.args.new.now is.live is.forest _ (relist_stand (shape c.args.lists.now) c.args.p c.args.new.now is.live is.forest k d below).stands

-- each has the place that it had, but for the one that moves
places : (g : _) (c : After-deref g) → (i : ℕ) → i ≢ c.args.w → place_among c.args.new.now i ≡ place_among (image_at (shape c.args.lists.now) c.args.p).windows i
places g c i other = others_places (shape c.args.lists.now) c.args.p c.args.w c.args.new.now (lists_places c.args.lists.now c.args.p c.requires.change.live) c.requires.change.others i other

pub get-requires : goal.get-requires
get-requires g c = c.requires.change.live

pub count_front-from-requires : goal.count_front-from-requires
count_front-from-requires g c = c.requires.change.others ∙ ap (without c.args.w) (sym (listed g (goal.at.count_front-from-requires g c).After-deref))

pub take_hidden-requires-clause-live : goal.take_hidden-requires-clause-live
take_hidden-requires-clause-live g c = c.requires.change.live

pub take_hidden-requires-clause-windows : goal.take_hidden-requires-clause-windows
take_hidden-requires-clause-windows g c = relist_on (shape c.args.lists.now) c.args.p c.args.new.now c.requires.change.live c.requires.change.forest

pub take_hidden-requires-clause-one : goal.take_hidden-requires-clause-one
take_hidden-requires-clause-one g c = relist_ones (shape c.args.lists.now) c.args.p c.args.new.now c.requires.change.live c.requires.change.forest

pub take_hidden-requires-clause-still : goal.take_hidden-requires-clause-still
take_hidden-requires-clause-still g c =
    let world = shape c.args.lists.now in
    let is = c.requires.change in
    let at = goal.at.take_hidden-requires-clause-still g c in
    subst (λ (r : Rect). HasTakenOff world c.args.p c.args.new.now c.count_front-from.result (r ∷ []) (has_place c.args.pixels.now)) (sym c.place_among-place.ensures)
    (relisted_taken world c.args.p c.args.w c.args.new.now is (lists_places c.args.lists.now c.args.p is.live) c.count_front-from.result (front g at.After-count_front-from (listed g at.After-deref)) (has_place c.args.pixels.now)
    (λ i x other stands inside.
    let r = (image_at world i).r in
    c.requires.cells i c.args.p x stands inside ∙ ap (λ o. option_map_or (λ n. hides_on world n i (cell_part r (cell_of r x))) o false) stands))

pub conceal-requires-clause-front : goal.conceal-requires-clause-front
conceal-requires-clause-front g c =
    let at = goal.at.conceal-requires-clause-front g c in
    front_other (image_at (shape c.args.lists.now) c.args.p).windows c.args.new.now c.args.w c.args.p c.count_front-from.result (front g at.After-count_front-from (listed g at.After-deref)) (apart_all g at.After-deref)

pub conceal-requires-clause-change : goal.conceal-requires-clause-change
conceal-requires-clause-change g c =
    let world = shape c.args.lists.now in
    let at = goal.at.conceal-requires-clause-change g c in
    let is = c.requires.change in
    record {
      window = c.args.w;
      others = λ i other. places g at.After-deref i other;
      change = record {
        live = is.live;
        places = λ i z apart inside top. inl (places g at.After-deref i (λ same. true≢false (sym top ∙ ap (λ m. is_top c.args.new.now m z) same ∙ c.requires.hidden z inside)));
        stand = relist_stand world c.args.p c.args.new.now is.live is.forest;
        one = relist_one world c.args.p c.args.new.now is.live is.forest;
      };
      above = is.stands;
      gone = λ z inside. c.requires.hidden z inside;
    }

pub conceal-requires-clause-outside : goal.conceal-requires-clause-outside
conceal-requires-clause-outside g c = λ z inside away.
    let world = shape c.args.lists.now in
    let at = goal.at.conceal-requires-clause-outside g c in
    let it = others_top world c.args.p c.args.w c.args.new.now (lists_places c.args.lists.now c.args.p c.requires.change.live) c.requires.change.others c.args.area.now c.requires.place z inside away (c.requires.hidden z inside) in
    record { tops = it.tops; apart = λ v top. All-top_window (λ (u : Window). u.image ≢ c.args.p) c.args.new.now z v (apart_all g at.After-deref) top; bare = it.bare }

pub conceal-requires-clause-near_new : goal.conceal-requires-clause-near_new
conceal-requires-clause-near_new g c = relist_corners (shape c.args.lists.now) c.args.p c.args.new.now c.requires.change.live c.requires.change.forest

pub conceal-requires-clause-places : goal.conceal-requires-clause-places
conceal-requires-clause-places g c =
    let world = shape c.args.lists.now in
    let at = goal.at.conceal-requires-clause-places g c in
    let live = c.requires.change.live in
    relist_concealed world c.args.p c.args.new.now live c.requires.change.forest c.args.w (has_place c.args.pixels.now) (has_place c.take_hidden.new.self)
    (λ i other. places g at.After-deref i other) c.requires.hidden
    (λ z h. surface_has c.args.pixels.now world c.requires.before c.requires.forms c.requires.cells (image_at world c.args.p).depth c.args.p z refl live h)
    (λ i x stands inside none. unshown_has world (has_place c.args.pixels.now) i c.args.p x c.requires.before c.requires.cells stands inside none)
    c.take_hidden.ensures.has

pub conceal-requires-clause-bits : goal.conceal-requires-clause-bits
conceal-requires-clause-bits g c =
    subst (HasBits (shape c.args.lists.now)) (sym (c.take_hidden.ensures.forms ∙ c.requires.forms))
    (relist_bits (shape c.args.lists.now) c.args.p c.args.new.now c.requires.change.live c.requires.change.forest)

pub conceal-requires-clause-fill : goal.conceal-requires-clause-fill
conceal-requires-clause-fill g c = subst (λ (forms : ℕ → Option Form). (x : _) → g.S.Source.fill c.args.source.now x < 2 ^ bits_in forms c.args.p) (sym c.take_hidden.ensures.forms) c.requires.fill

pub returns-clause-front : goal.returns-clause-front
returns-clause-front g c =
    let at = goal.at.returns-clause-front g c in
    front g at.After-count_front-from (listed g at.After-deref)

pub returns-clause-others : goal.returns-clause-others
returns-clause-others g c =
    relist_others (shape c.args.lists.now) c.args.p c.args.new.now c.requires.change.live c.requires.change.forest (has_place c.args.pixels.now) (has_place c.conceal.new.pixels)
    (λ i q x other stands inside. c.requires.cells i q x stands inside)
    (λ place. ap (λ (has : Place → Bool). has place) c.conceal.ensures.has ∙ c.take_hidden.ensures.has place)

pub returns-clause-has : goal.returns-clause-has
returns-clause-has g c = λ place. ap (λ (has : Place → Bool). has place) c.conceal.ensures.has ∙ c.take_hidden.ensures.has place

pub returns-clause-moved : goal.returns-clause-moved
returns-clause-moved g c =
    let world = shape c.args.lists.now in
    let is = c.requires.change in
    let kept = kept_at c.args.pixels.now in
    let fill = g.S.Source.fill c.args.source.now in
    relisted_world world c.args.p c.args.w c.args.new.now (λ x. kept (keeping world c.args.w x)) fill kept kept (kept_at c.conceal.new.pixels) is.live is.forest
    (record {
      others = λ place other. refl;
      pixels = λ x inside. refl;
      fills = λ q inside covered bare.
          c.requires.fills q inside covered
          (ap (λ (ws : List Window). is_none (top_window ws q)) (sym is.others) ∙ ap is_none (top-but c.args.w q c.args.new.now (c.requires.hidden q inside)) ∙ bare);
    })
    (subst (λ (k : Place → ℕ). IsRestacked world (with_list world c.args.p c.args.new.now) c.args.p k (kept_at c.conceal.new.pixels) fill) c.take_hidden.ensures.kept c.conceal.ensures.moved)
