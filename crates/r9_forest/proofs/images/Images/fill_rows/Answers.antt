use Rattle.std.proofs.Common.{◌≡◌, ◌∙◌, ◌+◌, ◌*◌, ◌<◌, ◌≤◌, ◌++◌, ℕ, true, List, drop, get_or, length, take, refl, sym, ap, arith}
use Rattle.std.specs.Prelude.{if◌then◌else◌}
use Rattle.std.proofs.lemmas.List.{get_or-take, length-take-le, with_items_is}
use native.Mathlib.Nat.{mul_comm}
use Rattle.r9_geom.specs.declared.Point.{Point}
use Rattle.r9_geom.specs.declared.Rect.{Rect}
use Rattle.r9_geom.specs.Geometry.{area_of, height, holds, width}
use Rattle.model_pixel.specs.Channels.{depth}
use Rattle.model_forest.specs.World.{Image, image_at}
use Rattle.r9_plane.specs.Pixels.{number_of}
use Rattle.r9_plane.proofs.PlaneLemmas.{number_below}
use Rattle.r9_locate.specs.locate.Table.{shape}
use Rattle.r9_put.specs.fills.Fills.{fill_at}
use Rattle.r9_forest.specs.Given.{left_of}
use Rattle.r9_forest.specs.Images.{world}
use Rattle.r9_forest.proofs.Going.{fill_below}
use Rattle.r9_forest.proofs.Moves.{pictured_fits}
use Rattle.r9_forest.proofs.Placing.{left_small, stood_below, stood_fill, stood_lawful, stood_parent}
use Rattle.r9_forest.proofs.images.Images.fill_rows.Goals as goal
use Rattle.r9_forest.proofs.images.Images.fill_rows.Goals.{After-deref, After-place_of-left, After-put_block}

-- the rectangle is not larger than the room
small : (c : After-place_of-left) → area_of c.place_of-left.result ≤ c.args.self.now.room.len
unfolding world
small c =
    let was = c.args.self.now in
    let most = left_small was.lists was.pixels was.spare.items c.args.i c.args.standing.now was.sound c.requires.stands in
    let room = was.fills c.args.i c.args.standing.now.parent (stood_parent was.lists was.pixels was.spare.items c.args.i c.args.standing.now was.sound c.requires.stands) in
    let here = ap area_of c.place_of-left.ensures.value in
    omega (arith, most, room, here)

pub get-requires : goal.get-requires
unfolding world
get-requires c = let was = c.args.self.now in stood_below was.lists was.pixels was.spare.items c.args.i c.args.standing.now was.sound c.requires.stands

pub overflow_mul-count : goal.overflow_mul-count
overflow_mul-count c =
    let most = small (goal.at.overflow_mul-count c).After-place_of-left in
    let same : c.width.result * c.height.result ≡ area_of c.place_of-left.result = λ j. c.width.ensures j * c.height.ensures j in
    omega (arith, same, most)

pub gather-requires-clause-live : goal.gather-requires-clause-live
unfolding world
gather-requires-clause-live c = let was = c.args.self.now in stood_fill was.lists was.pixels was.spare.items c.args.i c.args.standing.now was.sound c.requires.stands

pub gather-requires-clause-room : goal.gather-requires-clause-room
gather-requires-clause-room c = small (goal.at.gather-requires-clause-room c).After-place_of-left

-- ---- what was gathered is put there

wide : (c : After-place_of-left) (w h : ℕ) → w ≡ width c.place_of-left.result → h ≡ height c.place_of-left.result → w * h ≤ c.args.self.now.room.len
wide c w h across down =
    let most = small c in
    let same : w * h ≡ area_of c.place_of-left.result = λ j. across j * down j in
    omega (arith, most, same)

-- the room has as many pixels as before
held : (c : After-deref) → length c.deref.result.now ≡ c.args.self.now.room.len
held c =
    let items = ap length c.deref.ensures.value in
    omega (arith, items, c.gather.ensures.len, c.gather.new.self.room.ok.0)

fits : (c : After-deref) → c.width.result * c.height.result ≤ c.args.self.now.room.len → c.width.result * c.height.result ≤ length c.deref.result.now
fits c most = let long = held c in omega (arith, most, long)

pub slice_bounds-put_block-end : goal.slice_bounds-put_block-end
slice_bounds-put_block-end c =
    let at = goal.at.slice_bounds-put_block-end c in
    let n = c.width.result * c.height.result in
    sym (length-take-le n c.deref.result.now (fits at.After-deref (wide at.After-place_of-left c.width.result c.height.result c.width.ensures c.height.ensures)))

-- each pixel that was put is what was gathered
put : (c : After-put_block) (p : Point) → c.width.result * c.height.result ≤ length c.deref.result.now → holds c.place_of-left.result p ≡ true → get_or (take c.args.rows.len (c.put_block.new.room ++ drop (length c.put_block.new.room) c.args.rows.items)) (number_of c.place_of-left.result p) 0 ≡ fill_at (world c.args.self.now) c.get.result.now.chan c.args.standing.now.fill p
put c p most h =
    let left = c.place_of-left.result in
    let n = c.width.result * c.height.result in
    let k = number_of left p in
    let long : length c.put_block.new.room ≡ c.args.rows.len = omega (arith, c.put_block.auto.room, c.deref_mut.ensures.len) in
    let same : height left * width left ≡ n = mul_comm (height left) (width left) ∙ (λ j. sym c.width.ensures j * sym c.height.ensures j) in
    let within : k < n = omega (arith, number_below left p h, same) in
    let block : length (take n c.deref.result.now) ≡ n = length-take-le n c.deref.result.now most in
    let first : 0 + k ≡ k = omega arith in
    ap (λ (l : List ℕ). get_or l k 0) (with_items_is c.args.rows c.put_block.new.room long)
    ∙ ap (λ m. get_or c.put_block.new.room m 0) (sym first)
    ∙ c.put_block.ensures.block k (omega (arith, within, block))
    ∙ get_or-take n c.deref.result.now k 0 within
    ∙ ap (λ (l : List ℕ). get_or l k 0) c.deref.ensures.value
    ∙ c.gather.ensures.gathered p h

-- as the contract names the rectangle and the channels
told : (c : After-put_block) → c.width.result * c.height.result ≤ length c.deref.result.now → (p : Point) → holds (left_of (shape c.args.self.now.lists) c.args.standing.now.parent c.args.i) p ≡ true → get_or (take c.args.rows.len (c.put_block.new.room ++ drop (length c.put_block.new.room) c.args.rows.items)) (number_of (left_of (shape c.args.self.now.lists) c.args.standing.now.parent c.args.i) p) 0 ≡ fill_at (world c.args.self.now) (image_at (shape c.args.self.now.lists) c.args.standing.now.parent).chan c.args.standing.now.fill p
told c most p h =
    let is = c.place_of-left.ensures.value in
    let items = take c.args.rows.len (c.put_block.new.room ++ drop (length c.put_block.new.room) c.args.rows.items) in
    ap (λ (r : Rect). get_or items (number_of r p) 0) (sym is)
    ∙ put c p most (ap (λ (r : Rect). holds r p) is ∙ h)
    ∙ ap (λ (image : Image). fill_at (world c.args.self.now) image.chan c.args.standing.now.fill p) (sym c.get.ensures)

pub returns-clause-filled : goal.returns-clause-filled
returns-clause-filled c p h =
    let at = goal.at.returns-clause-filled c in
    let left = left_of (shape c.args.self.now.lists) c.args.standing.now.parent c.args.i in
    let items = take c.args.rows.len (c.put_block.new.room ++ drop (length c.put_block.new.room) c.args.rows.items) in
    ap (λ b. if b then get_or items (number_of left p) 0 else 0) h
    ∙ told at.After-put_block (fits at.After-deref (wide at.After-place_of-left c.width.result c.height.result c.width.ensures c.height.ensures)) p h

pub returns-clause-below : goal.returns-clause-below
unfolding world
returns-clause-below c p =
    let at = goal.at.returns-clause-below c in
    let was = c.args.self.now in
    let q = c.args.standing.now.parent in
    let chan = (image_at (shape was.lists) q).chan in
    let left = left_of (shape was.lists) q c.args.i in
    let items = take c.args.rows.len (c.put_block.new.room ++ drop (length c.put_block.new.room) c.args.rows.items) in
    pictured_fits (λ z. if holds left z then get_or items (number_of left z) 0 else 0) (λ z. fill_at (world was) chan c.args.standing.now.fill z) left items (λ z. refl)
    (told at.After-put_block (fits at.After-deref (wide at.After-place_of-left c.width.result c.height.result c.width.ensures c.height.ensures)))
    (depth chan)
    (λ z. fill_below (world was) chan c.args.standing.now.fill z was.sound.forest (stood_fill was.lists was.pixels was.spare.items c.args.i c.args.standing.now was.sound c.requires.stands) (stood_lawful was.lists was.pixels was.spare.items c.args.i c.args.standing.now was.sound c.requires.stands)) p
