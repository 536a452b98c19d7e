use Rattle.std.proofs.Common.{◌≡◌, ◌∙◌, ◌<◌, ◌^◌, ℕ, List, Option, sym, subst, ap}
use Rattle.std.specs.Prelude.{All}
use Rattle.r9_geom.specs.declared.Rect.{Rect}
use Rattle.r9_geom.specs.Geometry.{carried, holds, IsNear, IsRectNear}
use Rattle.model_forest.specs.declared.Window.{Window}
use Rattle.model_forest.specs.World.{Image, image_at}
use Rattle.model_kept.specs.Keeping.{is_top, own, place_among}
use Rattle.model_kept.specs.Restack.{with_list, with_own, IsRestacked}
use Rattle.r9_locate.specs.locate.Forms.{bits_in, Form, HasBits}
use Rattle.r9_locate.specs.locate.Table.{shape}
use Rattle.r9_restack.specs.Changing.{HasPlacesBut, IsChange, IsGiven, StaysTop}
use Rattle.r9_restack.specs.Placing.{shows}
use Rattle.r9_restack.specs.Stacks.{after_of, IsFront, IsStacked}
use Rattle.r9_restack.proofs.Changes.{changed-all, changing, inside_w, shown_then}
use Rattle.r9_restack.proofs.Parting.{nearby}
use Rattle.r9_restack.proofs.Placed.{done_inside, done_last, done_outside, own_under, placed_from}
use Rattle.r9_restack.proofs.restacking.restack.Given.{Over}
use Rattle.r9_restack.proofs.restacking.restack.Goals as goal
use Rattle.r9_restack.proofs.restacking.restack.Goals.{After-stacks_of-stacks}

-- the list of after, and what is known of it
after : (g : Over) (c : After-stacks_of-stacks g) → c.args.new.now ≡ after_of c.stacks_of-stacks.result
after g c = sym c.stacks_of-stacks.ensures.after

change_after : (g : Over) (c : After-stacks_of-stacks g) → IsChange (shape c.args.lists.now) c.args.p (after_of c.stacks_of-stacks.result) c.args.w
change_after g c = subst (λ (ws : List Window). IsChange (shape c.args.lists.now) c.args.p ws c.args.w) (after g c) c.requires.change

stacked : (g : Over) (c : After-stacks_of-stacks g) → IsStacked (shape c.args.lists.now) c.args.p c.args.w c.stacks_of-stacks.result
stacked g c = record {
  before = ap (λ (im : Image). im.windows) c.get.ensures ∙ sym c.deref.ensures.value ∙ sym c.stacks_of-stacks.ensures.before;
  apart = c.stacks_of-stacks.ensures.apart;
}

near_after : (g : Over) (c : After-stacks_of-stacks g) → All (λ v. IsNear v.place.min) (after_of c.stacks_of-stacks.result)
near_after g c = subst (All (λ v. IsNear v.place.min)) (after g c) c.requires.near_new

places_after : (g : Over) (c : After-stacks_of-stacks g) → HasPlacesBut (shape c.args.lists.now) c.args.p (after_of c.stacks_of-stacks.result) c.args.w (g.P.Pixels.has c.args.pixels.now)
places_after g c = subst (λ (ws : List Window). HasPlacesBut (shape c.args.lists.now) c.args.p ws c.args.w (g.P.Pixels.has c.args.pixels.now)) (after g c) c.requires.places

pub stacks_of-stacks-requires : goal.stacks_of-stacks-requires
stacks_of-stacks-requires g c = subst (λ (ws : List Window). IsFront ws c.args.new.now c.args.w c.args.from) (ap (λ (im : Image). im.windows) c.get.ensures ∙ sym c.deref.ensures.value) c.requires.front

pub change_area-requires-clause-change : goal.change_area-requires-clause-change
change_area-requires-clause-change g c = change_after g (goal.at.change_area-requires-clause-change g c).After-stacks_of-stacks

pub change_area-requires-clause-stacks : goal.change_area-requires-clause-stacks
change_area-requires-clause-stacks g c = stacked g (goal.at.change_area-requires-clause-stacks g c).After-stacks_of-stacks

pub change_area-requires-clause-near_new : goal.change_area-requires-clause-near_new
change_area-requires-clause-near_new g c = near_after g (goal.at.change_area-requires-clause-near_new g c).After-stacks_of-stacks

pub change_area-requires-clause-places : goal.change_area-requires-clause-places
change_area-requires-clause-places g c = places_after g (goal.at.change_area-requires-clause-places g c).After-stacks_of-stacks

pub place-requires-clause-change : goal.place-requires-clause-change
place-requires-clause-change g c = change_after g (goal.at.place-requires-clause-change g c).After-stacks_of-stacks

pub place-requires-clause-stacks : goal.place-requires-clause-stacks
place-requires-clause-stacks g c = stacked g (goal.at.place-requires-clause-stacks g c).After-stacks_of-stacks

pub place-requires-clause-near_new : goal.place-requires-clause-near_new
place-requires-clause-near_new g c = near_after g (goal.at.place-requires-clause-near_new g c).After-stacks_of-stacks

pub place-requires-clause-places : goal.place-requires-clause-places
place-requires-clause-places g c =
    let now = (goal.at.place-requires-clause-places g c).After-stacks_of-stacks in
    subst (HasPlacesBut (shape c.args.lists.now) c.args.p (after_of c.stacks_of-stacks.result) c.args.w) (sym c.change_area.ensures.has) (places_after g now)

pub place-requires-clause-own : goal.place-requires-clause-own
place-requires-clause-own g c z h hid =
    let now = (goal.at.place-requires-clause-own g c).After-stacks_of-stacks in
    let world = shape c.args.lists.now in
    let w = c.args.w in
    let own_r : (image_at world w).r ≡ c.get-2.result.now.r = ap (λ (im : Image). im.r) c.get-2.ensures in
    let at = ap (λ (place : Rect). place.min) c.place_among.ensures in
    ap (λ has. has (own w z)) c.change_area.ensures.has
    ∙ c.requires.own_places z (ap (λ (r : Rect). holds r z) own_r ∙ h)
    ((λ j. shows (image_at world c.args.p).r (after g now j) w (carried z (own_r j).min (sym at j))) ∙ hid)

pub place-requires-clause-near : goal.place-requires-clause-near
place-requires-clause-near g c = subst (λ (im : Image). IsRectNear im.r) c.get-2.ensures (nearby c.args.lists.now c.args.w c.requires.live).0

pub place-requires-clause-bits : goal.place-requires-clause-bits
place-requires-clause-bits g c = subst (HasBits (shape c.args.lists.now)) (sym c.change_area.ensures.forms) c.requires.bits

pub place-requires-clause-given : goal.place-requires-clause-given
place-requires-clause-given g c z = subst (λ (forms : ℕ → Option Form). g.S.Source.given c.args.source.now z < 2 ^ bits_in forms c.args.p) (sym c.change_area.ensures.forms) (c.requires.given z)

pub place-requires-clause-fill : goal.place-requires-clause-fill
place-requires-clause-fill g c z = subst (λ (forms : ℕ → Option Form). g.S.Source.fill c.args.source.now z < 2 ^ bits_in forms c.args.p) (sym c.change_area.ensures.forms) (c.requires.fill z)

pub returns-clause-moved : goal.returns-clause-moved
returns-clause-moved g c as_before was given_is =
    let world = shape c.args.lists.now in
    let p = c.args.p in
    let w = c.args.w in
    let now = (goal.at.returns-clause-moved g c).After-stacks_of-stacks in
    let new = after_of c.stacks_of-stacks.result in
    let is = after g now in
    let change = change_after g now in
    let area = c.args.area.now in
    let r = c.get-2.result.now.r in
    let corner = c.place_among.result.min in
    let given = g.S.Source.given c.args.source.now in
    let fill = g.S.Source.fill c.args.source.now in
    let kept = g.P.Pixels.kept in
    let old = kept c.args.pixels.now in
    let last = kept c.place.new.pixels in
    let besides = with_own w (λ x. last (own w x)) old in
    let own_r : (image_at world w).r ≡ r = ap (λ (im : Image). im.r) c.get-2.ensures in
    let at = ap (λ (place : Rect). place.min) (c.place_among.ensures ∙ ap (λ l. place_among l w) is) in
    let s = changing c.args.lists.now p new w change in
    let with_w : IsGiven world p new w given besides last as_before last =
    record {
      was_same = λ place other. was place other ∙ sym (own_under w (λ x. last (own w x)) old place other);
      pixels = λ q v h top is_w. given_is _ (inside_w world p new w change q v top is_w);
      now_same = λ place apart. λ j. last place;
      hidden = λ x h none.
          c.place.ensures.kept x (ap (λ (q : Rect). holds q x) (sym own_r) ∙ h)
          ((λ j. shows (image_at world p).r new w (carried x (sym own_r j).min (at j))) ∙ sym (shown_then world p new w x change.live) ∙ none)
          ∙ sym (given_is x h);
    } in
    subst (λ (ws : List Window). IsRestacked world (with_list world p ws) p as_before last fill) (sym is)
    (changed-all world p new w given fill besides last as_before last (done_last world p new w change area r corner (sym own_r) at) s c.requires.above
    (done_inside world p new w change area r corner (sym own_r) at c.requires.inside)
    (λ q h none. let where_not = done_outside world p new w change area r corner (sym own_r) at q h none in
    subst (λ (ws : List Window). StaysTop world p ws w q) is (c.requires.outside q h where_not.0 (ap (λ ws. is_top ws w q) is ∙ where_not.1)))
    (c.place.ensures.moved old (placed_from world p new w given fill s c.requires.above old (kept c.change_area.new.pixels) (holds area) c.change_area.ensures.moved))
    with_w)

pub change_area-requires-clause-given : goal.change_area-requires-clause-given
change_area-requires-clause-given g c stands x = c.requires.given x
