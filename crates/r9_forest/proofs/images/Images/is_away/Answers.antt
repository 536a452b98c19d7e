use Rattle.std.proofs.Common.{◌≡◌, ◌∙◌, ◌&&◌, true, sym, ap}
use Rattle.std.proofs.lemmas.Bool.{and_parts}
use Rattle.r9_geom.specs.Geometry.{is_empty, meet}
use Rattle.model_forest.specs.World.{Image, image_at}
use Rattle.model_kept.specs.Keeping.{place_among}
use Rattle.r9_locate.specs.locate.Table.{shape}
use Rattle.r9_forest.specs.Images.{world}
use Rattle.r9_forest.proofs.Placing.{apart_points, stood_below}
use Rattle.r9_forest.proofs.images.Images.is_away.Goals as goal
use Rattle.r9_forest.proofs.images.Images.is_away.Goals.{After-place_among-place}

-- where it stands
place_is : (c : After-place_among-place) → c.place_among-place.result ≡ place_among (image_at (shape c.args.self.now.lists) c.args.standing.now.parent).windows c.args.i
place_is c =
    c.place_among-place.ensures ∙ (λ j. place_among (c.deref.ensures.value j) c.args.i) ∙ ap (λ (image : Image). place_among image.windows c.args.i) (sym c.get-below.ensures)

pub get-below-requires : goal.get-below-requires
unfolding world
get-below-requires c = let was = c.args.self.now in stood_below was.lists was.pixels was.spare.items c.args.i c.args.standing.now was.sound c.requires.stands

pub returns : goal.returns
returns c told =
    let p = c.args.standing.now.parent in
    let below = image_at (shape c.args.self.now.lists) p in
    let place = place_is (goal.at.returns c).After-place_among-place in
    let stood = place_among below.windows c.args.i in
    let later = place_among c.args.list.now c.args.i in
    let none : (is_empty (meet stood below.r) && is_empty (meet stood later)) ≡ true =
    (λ j. is_empty (meet (sym place j) (c.get-below.ensures j).r) && is_empty (meet (sym place j) (sym c.place_among-then.ensures j)))
    ∙ sym c.is_apart_from.ensures ∙ told in
    let both = and_parts (is_empty (meet stood below.r)) (is_empty (meet stood later)) none in
    record { off = λ z here. apart_points stood below.r both.0 z here; apart = λ z here. apart_points stood later both.1 z here }
