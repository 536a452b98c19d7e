use Rattle.std.proofs.Common.{◌≡◌, ◌∙◌, ◌≤◌, ◌^◌, List, Some, lit≤, refl, sym, subst, ap, arith}
use Rattle.std.proofs.lemmas.Bool.{false≢true}
use Rattle.std.specs.Prelude.{option_map, OnErr, OnOk}
use Rattle.r9_geom.specs.declared.Rect.{Rect}
use Rattle.r9_geom.specs.Geometry.{area_of, holds, is_empty, IsRectNear}
use Rattle.r9_geom.proofs.GeometryLemmas.{near_wider}
use Rattle.model_forest.specs.declared.Standing.{Standing}
use Rattle.model_forest.specs.declared.Window.{Window}
use Rattle.model_forest.specs.Stack.{moved, with_windows}
use Rattle.model_forest.specs.Steps.{carried_rect}
use Rattle.model_forest.specs.World.{Image, World, image_at, parent_of, IsForest, IsLive}
use Rattle.model_forest.proofs.Changes.{live-standing}
use Rattle.model_forest.proofs.Steps.{IsForest-moved_to}
use Rattle.model_kept.specs.Keeping.{place_among, with_kept}
use Rattle.r9_locate.specs.locate.Table.{shape}
use Rattle.r9_pixels.specs.Kept.{kept_at, spare_in, wanted_in}
use Rattle.r9_relist.proofs.relist.Lists.{lists_near}
use Rattle.r9_relist.specs.relist.Relisting.{IsRelisting}
use Rattle.r9_forest.specs.Images.{numbers, world}
use Rattle.r9_relist.proofs.arrive.Canvases.{bare_canvas}
use Rattle.r9_relist.proofs.arrive.Entering.{on_err}
use Rattle.r9_forest.proofs.Going.{parent_is}
use Rattle.r9_forest.proofs.Leftover.{hidden_top}
use Rattle.r9_forest.proofs.Moves.{moved_relisting}
use Rattle.r9_forest.proofs.Sounding.{sound_forest, sound_list, sound_same, sound_windows}
use Rattle.r9_forest.proofs.Still.{is_rect_true, list-still, placed-still, true_is_rect}
use Rattle.r9_forest.proofs.images.Images.move_window.Given.{Over}
use Rattle.r9_forest.proofs.images.Images.move_window.Goals as goal
use Rattle.r9_forest.proofs.images.Images.move_window.Goals.{After-carried_rect-place, After-get, After-place_among, After-reserve_move, In_ok-list, Start}

parent : (g : Over) (c : Start g) → parent_of (shape c.args.self.now.lists) c.args.i ≡ Some c.args.standing.parent
unfolding world
parent g c =
    parent_is (shape c.args.self.now.lists) (kept_at c.args.self.now.pixels) c.args.i ∙ ap (option_map (λ (s : Standing). s.parent)) c.requires.stands

alive : (g : Over) (c : Start g) → IsLive (shape c.args.self.now.lists) c.args.i
alive g c = live-standing (shape c.args.self.now.lists) c.args.i c.args.standing.parent (parent g c)

below : (g : Over) (c : Start g) → IsLive (shape c.args.self.now.lists) c.args.standing.parent
below g c =
    let was = c.args.self.now in
    (sound_forest was.lists (kept_at was.pixels) was.sound.forest).parents c.args.i c.args.standing.parent (alive g c) (parent g c)

rect : (g : Over) (c : After-get g) → c.get.result.now.r ≡ (image_at (world c.args.self.now) c.args.i).r
unfolding world
rect g c = ap (λ (image : Image). image.r) (sym c.get.ensures) ∙ (bare_canvas (shape c.args.self.now.lists) (kept_at c.args.self.now.pixels)).r c.args.i

-- the list that was made, by the lists and by the world
made : (g : Over) (c : In_ok-list g) → c.in_ok-list.list.items ≡ moved c.args.i c.carried_rect-place.result (image_at (shape c.args.self.now.lists) c.args.standing.parent).windows
made g c = c.in_ok-list.ensures ∙ ap (moved c.args.i c.carried_rect-place.result) (c.deref-2.ensures.value ∙ sym (ap (λ (image : Image). image.windows) c.get-below.ensures))

place_is : (g : Over) (c : After-carried_rect-place g) → c.get.result.now.r ≡ (image_at (world c.args.self.now) c.args.i).r → c.carried_rect-place.result ≡ carried_rect (image_at (world c.args.self.now) c.args.i).r (image_at (world c.args.self.now) c.args.i).r.min c.args.corner
place_is g c is = c.carried_rect-place.ensures ∙ ap (λ (r : Rect). carried_rect r r.min c.args.corner) is

list_is : (g : Over) (c : In_ok-list g) → c.carried_rect-place.result ≡ carried_rect (image_at (world c.args.self.now) c.args.i).r (image_at (world c.args.self.now) c.args.i).r.min c.args.corner → c.in_ok-list.list.items ≡ moved c.args.i (carried_rect (image_at (world c.args.self.now) c.args.i).r (image_at (world c.args.self.now) c.args.i).r.min c.args.corner) (image_at (world c.args.self.now) c.args.standing.parent).windows
unfolding world
list_is g c place = made g c ∙ (λ j. moved c.args.i (place j) (sound_windows c.args.self.now.lists (kept_at c.args.self.now.pixels) c.args.standing.parent j))

-- a world of images then
forest : (g : Over) (c : In_ok-list g) → IsLive (world c.args.self.now) c.args.standing.parent → c.in_ok-list.list.items ≡ moved c.args.i (carried_rect (image_at (world c.args.self.now) c.args.i).r (image_at (world c.args.self.now) c.args.i).r.min c.args.corner) (image_at (world c.args.self.now) c.args.standing.parent).windows → IsForest (with_windows (world c.args.self.now) c.args.standing.parent c.in_ok-list.list.items)
unfolding world
forest g c live is =
    subst (λ (ws : List Window). IsForest (with_windows (world c.args.self.now) c.args.standing.parent ws)) (sym is)
    (IsForest-moved_to (world c.args.self.now) c.args.self.now.sound.forest c.args.i c.args.standing.parent c.args.corner live c.requires.corner)

live_below : (g : Over) (c : Start g) → IsLive (world c.args.self.now) c.args.standing.parent
unfolding world
live_below g c = sym ((bare_canvas (shape c.args.self.now.lists) (kept_at c.args.self.now.pixels)).live c.args.standing.parent) ∙ below g c

pub get-requires : goal.get-requires
get-requires g c = alive g (goal.at.get-requires g c).Start

pub get-below-requires : goal.get-below-requires
get-below-requires g c = below g (goal.at.get-below-requires g c).Start

pub carried_rect-place-requires-clause-rect : goal.carried_rect-place-requires-clause-rect
carried_rect-place-requires-clause-rect g c =
    subst (λ (image : Image). IsRectNear image.r) c.get.ensures (lists_near c.args.self.now.lists c.args.i (alive g (goal.at.carried_rect-place-requires-clause-rect g c).Start)).0

pub carried_rect-place-requires-clause-from : goal.carried_rect-place-requires-clause-from
carried_rect-place-requires-clause-from g c =
    (subst (λ (image : Image). IsRectNear image.r) c.get.ensures (lists_near c.args.self.now.lists c.args.i (alive g (goal.at.carried_rect-place-requires-clause-from g c).Start)).0).min

pub carried_rect-place-requires-clause-to : goal.carried_rect-place-requires-clause-to
carried_rect-place-requires-clause-to g c = near_wider (2 ^ 34) (2 ^ 40) c.args.corner (lit≤ tt) c.requires.corner

pub reserve_move-requires-clause-change : goal.reserve_move-requires-clause-change
unfolding world
reserve_move-requires-clause-change g c =
    let at = goal.at.reserve_move-requires-clause-change g c in
    let was = c.args.self.now in
    let is = list_is g at.In_ok-list (place_is g at.After-carried_rect-place (rect g at.After-get)) in
    subst (IsRelisting (shape was.lists) c.args.standing.parent c.args.i) (sym c.deref-3.ensures.value)
    (moved_relisting (shape was.lists) c.args.standing.parent c.args.i c.in_ok-list.list.items (below g at.Start) (parent g at.Start) (c.carried_rect-place.result, made g at.In_ok-list)
    (sound_list was.lists (kept_at was.pixels) c.args.standing.parent c.in_ok-list.list.items (forest g at.In_ok-list (live_below g at.Start) is)))

pub reserve_move-requires-clause-forms : goal.reserve_move-requires-clause-forms
reserve_move-requires-clause-forms g c = c.args.self.now.sound.forms

pub reserve_move-requires-clause-cells : goal.reserve_move-requires-clause-cells
reserve_move-requires-clause-cells g c = c.args.self.now.sound.cells

-- ---- once the tiles are reserved

same : (g : Over) (c : After-reserve_move g) → with_kept (shape c.args.self.now.lists) (kept_at c.reserve_move.new.pixels) ≡ world c.args.self.now
unfolding world
same g c = ap (with_kept (shape c.args.self.now.lists)) c.reserve_move.ensures.kept.kept

pub invariant_of-self : goal.invariant_of-self
invariant_of-self g c = record {
  sound = sound_same c.args.self.now.lists c.args.self.now.lists c.args.self.now.pixels c.reserve_move.new.pixels c.args.self.now.spare.items refl refl c.reserve_move.ensures.kept c.args.self.now.sound;
  back = c.args.self.now.back;
  fills = c.args.self.now.fills;
}

pub returns-in_err-reserve_move-clause-numbers : goal.returns-in_err-reserve_move-clause-numbers
unfolding numbers
returns-in_err-reserve_move-clause-numbers g c = refl

pub returns-in_err-reserve_move-clause-err : goal.returns-in_err-reserve_move-clause-err
unfolding world
returns-in_err-reserve_move-clause-err g c = on_err c.from_residual-in_err-reserve_move.result (same g (goal.at.returns-in_err-reserve_move-clause-err g c).After-reserve_move)

pub move_listed-requires-clause-stands : goal.move_listed-requires-clause-stands
unfolding world
move_listed-requires-clause-stands g c =
    ap (λ (w : World). (image_at w c.args.i).standing) (same g (goal.at.move_listed-requires-clause-stands g c).After-reserve_move) ∙ c.requires.stands

pub move_listed-requires-clause-list : goal.move_listed-requires-clause-list
unfolding world
move_listed-requires-clause-list g c =
    let at = goal.at.move_listed-requires-clause-list g c in
    (c.carried_rect-place.result, made g at.In_ok-list ∙ ap (moved c.args.i c.carried_rect-place.result) (sound_windows c.args.self.now.lists (kept_at c.reserve_move.new.pixels) c.args.standing.parent))

pub move_listed-requires-clause-hidden : goal.move_listed-requires-clause-hidden
unfolding world
move_listed-requires-clause-hidden g c none z inside =
    let at = goal.at.move_listed-requires-clause-hidden g c in
    let below = c.get-below.result.now.r in
    let off = ap is_empty (sym c.meet.ensures.exact) ∙ sym c.is_empty-is_hidden.ensures.exact ∙ none in
    let rect : below ≡ (image_at (with_kept (shape c.args.self.now.lists) (kept_at c.reserve_move.new.pixels)) c.args.standing.parent).r =
    ap (λ (image : Image). image.r) (sym c.get-below.ensures) ∙ (bare_canvas (shape c.args.self.now.lists) (kept_at c.reserve_move.new.pixels)).r c.args.standing.parent in
    hidden_top c.args.i c.carried_rect-place.result below (image_at (shape c.args.self.now.lists) c.args.standing.parent).windows c.in_ok-list.list.items (made g at.In_ok-list) off z (ap (λ (r : Rect). holds r z) rect ∙ inside)

pub move_listed-requires-clause-forest : goal.move_listed-requires-clause-forest
unfolding world
move_listed-requires-clause-forest g c =
    let at = goal.at.move_listed-requires-clause-forest g c in
    subst (λ (w : World). IsForest (with_windows w c.args.standing.parent c.in_ok-list.list.items)) (sym (same g at.After-reserve_move))
    (forest g at.In_ok-list (live_below g at.Start) (list_is g at.In_ok-list (place_is g at.After-carried_rect-place (rect g at.After-get))))

pub move_listed-requires-clause-spare : goal.move_listed-requires-clause-spare
move_listed-requires-clause-spare g c =
    subst (λ (vs : List Window). wanted_in c.reserve_move.new.pixels (shape c.args.self.now.lists) c.args.standing.parent vs ≤ spare_in c.reserve_move.new.pixels) c.deref-3.ensures.value c.in_ok-reserve_move.ensures.spare

pub returns-clause-world : goal.returns-clause-world
unfolding world
returns-clause-world g c =
    let at = goal.at.returns-clause-world g c in
    let was = world c.args.self.now in
    let p = c.args.standing.parent in
    let list = list_is g at.In_ok-list (place_is g at.After-carried_rect-place (rect g at.After-get)) in
    let path : with_windows (with_kept (shape c.args.self.now.lists) (kept_at c.reserve_move.new.pixels)) p c.in_ok-list.list.items ≡ with_windows was p (moved c.args.i (carried_rect (image_at was c.args.i).r (image_at was c.args.i).r.min c.args.corner) (image_at was p).windows) =
    λ j. with_windows (same g at.After-reserve_move j) p (list j) in
    subst (λ (v : World). OnOk c.move_listed.result (world c.move_listed.new.self ≡ v)) path c.move_listed.ensures.world

pub returns-clause-numbers : goal.returns-clause-numbers
unfolding numbers
returns-clause-numbers g c = c.move_listed.ensures.numbers

pub returns-clause-err : goal.returns-clause-err
unfolding world
returns-clause-err g c =
    subst (λ (v : World). OnErr c.move_listed.result (world c.move_listed.new.self ≡ v)) (same g (goal.at.returns-clause-err g c).After-reserve_move) c.move_listed.ensures.err

pub returns-clause-steps : goal.returns-clause-steps
unfolding world
returns-clause-steps g c =
    let size = ap (λ (w : World). area_of (image_at w c.args.i).r) (same g (goal.at.returns-clause-steps g c).After-reserve_move) in
    omega (arith, size, c.move_listed.ensures.steps)

-- ---- where it gets the place that it has

-- the place that it has, by the world
placed : (g : Over) (c : After-place_among g) → c.place_among.result ≡ place_among (image_at (world c.args.self.now) c.args.standing.parent).windows c.args.i
unfolding world
placed g c =
    c.place_among.ensures
    ∙ ap (λ (ws : List Window). place_among ws c.args.i)
    (c.deref.ensures.value ∙ sym (ap (λ (image : Image). image.windows) c.get-below.ensures) ∙ sound_windows c.args.self.now.lists (kept_at c.args.self.now.pixels) c.args.standing.parent)

pub returns-then-eq-clause-world : goal.returns-then-eq-clause-world
unfolding world
returns-then-eq-clause-world g c =
    let at = goal.at.returns-then-eq-clause-world g c in
    let now = c.args.self.now in
    let was = world now in
    let p = c.args.standing.parent in
    let to = place_is g at.After-carried_rect-place (rect g at.After-get) in
    let same = sym (placed g at.After-place_among) ∙ is_rect_true c.place_among.result c.carried_rect-place.result (sym c.eq.ensures ∙ c.if-eq.true) ∙ to in
    sym
    (ap (with_windows was p) (placed-still was c.args.i p _ now.sound.forest (live_below g at.Start) same)
    ∙ list-still (shape now.lists) (kept_at now.pixels) p (live_below g at.Start))

pub returns-clause-still : goal.returns-clause-still
returns-clause-still g c has =
    let at = goal.at.returns-clause-still g c in
    let to = place_is g at.After-carried_rect-place (rect g at.After-get) in
    let same = placed g at.After-place_among ∙ has ∙ sym to in
    absurd (false≢true (sym c.if-eq.false ∙ c.eq.ensures ∙ true_is_rect c.place_among.result c.carried_rect-place.result same))

pub returns-in_err-reserve_move-clause-moment : goal.returns-in_err-reserve_move-clause-moment
returns-in_err-reserve_move-clause-moment g c = c.reserve_move.ensures.kept.moment

pub returns-in_err-reserve_move-clause-writes : goal.returns-in_err-reserve_move-clause-writes
returns-in_err-reserve_move-clause-writes g c = let same = c.reserve_move.ensures.kept.writes in omega (arith, same)

pub returns-clause-moment : goal.returns-clause-moment
returns-clause-moment g c = c.move_listed.ensures.moment ∙ c.reserve_move.ensures.kept.moment

pub returns-clause-writes : goal.returns-clause-writes
returns-clause-writes g c = let same = c.reserve_move.ensures.kept.writes in omega (arith, c.move_listed.ensures.writes, same)
