use Rattle.std.proofs.Common.{◌≡◌, ◌∙◌, ℕ, ◌+◌, ◌<◌, ◌≤◌, ◌^◌, Bool, false, All, List, [], Option, Some, lit≤, sym, subst, ap, arith}
use Rattle.std.specs.Prelude.{is_some, option_map, unwrap_or}
use Rattle.r9_geom.specs.declared.Rect.{Rect}
use Rattle.r9_geom.specs.Geometry.{area_of, height, width, IsOrdered, IsRectNear}
use Rattle.r9_geom.proofs.GeometryLemmas.{rect_near_wider}
use Rattle.model_pixel.specs.Channels.{depth}
use Rattle.model_forest.specs.declared.Window.{Window}
use Rattle.model_forest.specs.Stack.{without}
use Rattle.model_forest.specs.World.{Image, World, image_at, no_image, with_image, IsForest, IsLive}
use Rattle.model_forest.proofs.Changes.{with_image-at, with_image-other}
use Rattle.model_kept.specs.Keeping.{own, place_among, HasOnePlaces, IsStanding, Place}
use Rattle.model_kept.specs.Restack.{with_list}
use Rattle.r9_locate.specs.locate.Forms.{bits_in, form_of, forms_of, Form}
use Rattle.r9_locate.specs.locate.Lists.{frame_image, IsNearby}
use Rattle.r9_locate.specs.locate.Table.{shape}
use Rattle.r9_pixels.specs.Kept.{form_at, has_place, kept_at, later_in, wanted_in}
use Rattle.r9_pixels.specs.Places.{HasCells, StandsOn}
use Rattle.r9_restack.specs.Stacks.{IsFront}
use Rattle.r9_relist.specs.relist.Relisting.{HasPlacesBefore, IsRelisting}
use Rattle.r9_relist.proofs.relist.Relisted.{bits_at, list_other}
use Rattle.r9_relist.specs.arrive.Arriving.{bare_window, listed, with_coming, IsLeft, IsLeftOf}
use Rattle.r9_relist.proofs.arrive.Bare.{bared_lists}
use Rattle.r9_relist.proofs.arrive.Entering.{on_err}
use Rattle.r9_relist.proofs.arrive.Wanting.{coming_wants, place_none}
use Rattle.r9_relist.proofs.arrive.Windows.{apart, at_parent, coming_live, coming_near, coming_places, coming_standing, nothing_on, window_came, window_forest, window_places, window_relisting, window_sized, window_world, IsFree}
use Rattle.r9_relist.proofs.arrive.arrive.Given.{Over}
use Rattle.r9_relist.proofs.arrive.arrive.Goals as goal
use Rattle.r9_relist.proofs.arrive.arrive.Goals.{After-add, After-count_front-from, After-deref, After-window_frame-frame, In_ok-enter, Start}

-- the number is free, and the lists with the window are a world of images
free : (g : Over) (c : Start g) → IsFree (shape c.args.lists.now) (kept_at c.args.pixels.now) c.args.w.image c.args.standing.parent
free g c = record {
  free = c.requires.free;
  bare = bared_lists c.args.lists.now;
  whole = c.requires.whole;
  live = c.requires.parent;
}

abbrev mid : (g : Over) (c : Start g) → World
mid g c = with_coming (shape c.args.lists.now) c.args.w.image c.args.standing.parent c.args.standing.fill c.args.r

after : (g : Over) (c : Start g) → IsForest (with_list (mid g c) c.args.standing.parent c.args.list.items)
after g c =
    window_forest (shape c.args.lists.now) (kept_at c.args.pixels.now) c.args.w.image c.args.standing.parent c.args.standing.fill c.args.r (free g c) (g.S.Source.given c.args.source.now) c.args.list.items c.requires.forest

alive : (g : Over) (c : Start g) → IsLive (mid g c) c.args.standing.parent
alive g c = coming_live (shape c.args.lists.now) (kept_at c.args.pixels.now) c.args.w.image c.args.standing.parent c.args.standing.fill c.args.r (free g c)

-- the frame
image : (g : Over) (c : After-window_frame-frame g) → frame_image c.window_frame-frame.result ≡ bare_window (shape c.args.lists.now) c.args.standing.parent c.args.standing.fill c.args.r
image g c =
    let chan : c.get-below.result.now.chan ≡ (image_at (shape c.args.lists.now) c.args.standing.parent).chan = sym (ap (λ (im : Image). im.chan) c.get-below.ensures) in
    let deep : c.get-below.result.now.depth ≡ (image_at (shape c.args.lists.now) c.args.standing.parent).depth = sym (ap (λ (im : Image). im.depth) c.get-below.ensures) in
    c.window_frame-frame.ensures
    ∙ (λ j. record {
      r = c.args.r;
      clipr = c.args.r;
      repl = false;
      chan = chan j;
      standing = Some c.args.standing;
      depth = deep j + 1;
      canvas = λ _. 0;
      windows = [];
    })

coming : (g : Over) (c : After-window_frame-frame g) → with_image (shape c.args.lists.now) c.args.w.image (Some (frame_image c.window_frame-frame.result)) ≡ with_coming (shape c.args.lists.now) c.args.w.image c.args.standing.parent c.args.standing.fill c.args.r
coming g c = ap (λ (im : Image). with_image (shape c.args.lists.now) c.args.w.image (Some im)) (image g c)

rect : (g : Over) (c : After-window_frame-frame g) → c.window_frame-frame.result.r ≡ c.args.r
rect g c = ap (λ (im : Image). im.r) (image g c)

-- the list before
before : (g : Over) (c : After-deref g) → c.deref.result.now ≡ (image_at (shape c.args.lists.now) c.args.standing.parent).windows
before g c = c.deref.ensures.value ∙ ap (λ (im : Image). im.windows) (sym c.get-below.ensures)

abbrev IsFreeFrom : (g : Over) (c : After-count_front-from g) → Type 0
IsFreeFrom g c = IsFree (shape c.args.lists.now) (kept_at c.args.pixels.now) c.args.w.image c.args.standing.parent

-- ---- into the tables

pub enter-requires-clause-window : goal.enter-requires-clause-window
enter-requires-clause-window g c = ap (λ (im : Image). is_some im.standing) (image g (goal.at.enter-requires-clause-window g c).After-window_frame-frame)

pub enter-requires-clause-standing : goal.enter-requires-clause-standing
enter-requires-clause-standing g c =
    let at = goal.at.enter-requires-clause-standing g c in
    subst IsStanding (sym (coming g at.After-window_frame-frame)) (coming_standing (shape c.args.lists.now) (kept_at c.args.pixels.now) c.args.w.image c.args.standing.parent c.args.standing.fill c.args.r (free g at.Start) c.requires.few)

pub enter-requires-clause-places : goal.enter-requires-clause-places
enter-requires-clause-places g c =
    let at = goal.at.enter-requires-clause-places g c in
    subst HasOnePlaces (sym (coming g at.After-window_frame-frame)) (coming_places (shape c.args.lists.now) (kept_at c.args.pixels.now) c.args.w.image c.args.standing.parent c.args.standing.fill c.args.r (free g at.Start))

pub enter-requires-clause-near : goal.enter-requires-clause-near
enter-requires-clause-near g c =
    let at = goal.at.enter-requires-clause-near g c in
    subst IsNearby (sym (coming g at.After-window_frame-frame)) (coming_near (shape c.args.lists.now) (kept_at c.args.pixels.now) c.args.w.image c.args.standing.parent c.args.standing.fill c.args.r (free g at.Start) c.requires.near)

pub enter-requires-clause-rect : goal.enter-requires-clause-rect
enter-requires-clause-rect g c = subst IsRectNear (sym (rect g (goal.at.enter-requires-clause-rect g c).After-window_frame-frame)) (rect_near_wider (2 ^ 34) (2 ^ 40) c.args.r (lit≤ tt) c.requires.near)

ordered : (g : Over) (c : Start g) → IsOrdered c.args.r
ordered g c =
    let p = c.args.standing.parent in
    let i = c.args.w.image in
    let ws = c.args.list.items in
    let slot : image_at (with_list (mid g c) p ws) i ≡ bare_window (shape c.args.lists.now) p c.args.standing.fill c.args.r =
    list_other (mid g c) p i ws (λ e. apart (shape c.args.lists.now) (kept_at c.args.pixels.now) i p c.args.standing.fill c.args.r (free g c) (sym e))
    ∙ ap (λ (o : Option Image). unwrap_or o no_image) (with_image-at (shape c.args.lists.now) i (Some (bare_window (shape c.args.lists.now) p c.args.standing.fill c.args.r))) in
    let there : IsLive (with_list (mid g c) p ws) i =
    ap is_some (with_image-other (mid g c) p i (Some (record (image_at (mid g c) p) { windows = ws })) (λ e. apart (shape c.args.lists.now) (kept_at c.args.pixels.now) i p c.args.standing.fill c.args.r (free g c) (sym e)))
    ∙ ap is_some (with_image-at (shape c.args.lists.now) i (Some (bare_window (shape c.args.lists.now) p c.args.standing.fill c.args.r))) in
    subst (λ (im : Image). IsOrdered im.r) slot ((after g c).images i there).ordered

pub enter-requires-clause-ordered : goal.enter-requires-clause-ordered
enter-requires-clause-ordered g c =
    let at = goal.at.enter-requires-clause-ordered g c in
    subst IsOrdered (sym (rect g at.After-window_frame-frame)) (ordered g at.Start)

sized : (g : Over) (c : Start g) → (width c.args.r ≤ 2 ^ 35) × (height c.args.r ≤ 2 ^ 35)
sized g c = window_sized (shape c.args.lists.now) (kept_at c.args.pixels.now) c.args.w.image c.args.standing.parent c.args.standing.fill c.args.r (free g c) c.args.list.items (after g c)

pub enter-requires-clause-columns : goal.enter-requires-clause-columns
enter-requires-clause-columns g c =
    let at = goal.at.enter-requires-clause-columns g c in
    subst (λ (r : Rect). width r ≤ 2 ^ 35) (sym (rect g at.After-window_frame-frame)) (sized g at.Start).0

pub enter-requires-clause-rows : goal.enter-requires-clause-rows
enter-requires-clause-rows g c =
    let at = goal.at.enter-requires-clause-rows g c in
    subst (λ (r : Rect). height r ≤ 2 ^ 35) (sym (rect g at.After-window_frame-frame)) (sized g at.Start).1

pub enter-requires-clause-later : goal.enter-requires-clause-later
enter-requires-clause-later g c =
    let at = goal.at.enter-requires-clause-later g c in
    subst (λ (w : World). All (StandsOn w c.args.q) c.args.later.now) (sym (coming g at.After-window_frame-frame)) c.requires.later

pub count_front-from-requires : goal.count_front-from-requires
count_front-from-requires g c =
    ap (without c.args.w.image) c.deref-2.ensures.value ∙ c.requires.coming.others
    ∙ ap (without c.args.w.image) (sym (before g (goal.at.count_front-from-requires g c).After-deref))

pub enter-requires-clause-place_is : goal.enter-requires-clause-place_is
enter-requires-clause-place_is g c = ap (λ (ws : List Window). place_among ws c.args.w.image) c.deref-3.ensures.value ∙ c.requires.stands

pub enter-requires-clause-change : goal.enter-requires-clause-change
enter-requires-clause-change g c =
    let at = goal.at.enter-requires-clause-change g c in
    subst (λ (v : World). IsRelisting v c.args.standing.parent c.args.w.image c.deref-3.result.now) (sym (coming g at.After-window_frame-frame))
    (subst (IsRelisting (mid g at.Start) c.args.standing.parent c.args.w.image) (sym c.deref-3.ensures.value)
    (window_relisting (shape c.args.lists.now) (kept_at c.args.pixels.now) c.args.w c.args.standing.parent c.args.standing.fill c.args.r (free g at.Start) c.args.list.items c.requires.coming (after g at.Start)))

pub enter-requires-clause-before : goal.enter-requires-clause-before
enter-requires-clause-before g c =
    let at = goal.at.enter-requires-clause-before g c in
    subst (λ (v : World). HasPlacesBefore v c.args.standing.parent c.args.w.image (has_place c.args.pixels.now)) (sym (coming g at.After-window_frame-frame))
    (window_places (shape c.args.lists.now) (kept_at c.args.pixels.now) c.args.w.image c.args.standing.parent c.args.standing.fill c.args.r (free g at.Start) c.args.pixels.now c.requires.forms c.requires.cells)

-- both lists begin with the same windows
front : (g : Over) (c : After-count_front-from g) → c.deref.result.now ≡ (image_at (shape c.args.lists.now) c.args.standing.parent).windows → IsFreeFrom g c → IsFront (image_at (with_coming (shape c.args.lists.now) c.args.w.image c.args.standing.parent c.args.standing.fill c.args.r) c.args.standing.parent).windows c.args.list.items c.args.w.image c.count_front-from.result
front g c is free =
    subst (λ (ws : List Window). IsFront ws c.args.list.items c.args.w.image c.count_front-from.result)
    (is ∙ sym (ap (λ (im : Image). im.windows) (at_parent (shape c.args.lists.now) (kept_at c.args.pixels.now) c.args.w.image c.args.standing.parent c.args.standing.fill c.args.r free)))
    (subst (λ (ws : List Window). IsFront c.deref.result.now ws c.args.w.image c.count_front-from.result) c.deref-2.ensures.value c.count_front-from.ensures)

pub enter-requires-clause-front : goal.enter-requires-clause-front
enter-requires-clause-front g c =
    let at = goal.at.enter-requires-clause-front g c in
    subst (λ (v : World). IsFront (image_at v c.args.standing.parent).windows c.deref-3.result.now c.args.w.image c.count_front-from.result) (sym (coming g at.After-window_frame-frame))
    (subst (λ (ws : List Window). IsFront (image_at (mid g at.Start) c.args.standing.parent).windows ws c.args.w.image c.count_front-from.result) (sym c.deref-3.ensures.value)
    (front g at.After-count_front-from (before g at.After-deref) (free g at.Start)))

pub enter-requires-clause-alone : goal.enter-requires-clause-alone
enter-requires-clause-alone g c =
    nothing_on (shape c.args.lists.now) (kept_at c.args.pixels.now) c.args.w.image c.args.standing.parent c.args.standing.fill c.args.r (free g (goal.at.enter-requires-clause-alone g c).Start)

pub enter-requires-clause-left : goal.enter-requires-clause-left
enter-requires-clause-left g c =
    subst (λ (ws : List Window). IsLeft (shape c.args.lists.now) c.args.standing.parent ws c.args.q c.args.later.now c.args.areas.now) (sym c.deref-3.ensures.value) c.requires.left

pub enter-requires-clause-left_own : goal.enter-requires-clause-left_own
enter-requires-clause-left_own g c =
    let at = goal.at.enter-requires-clause-left_own g c in
    subst (λ (ws : List Window). IsLeftOf (shape c.args.lists.now) c.args.standing.parent ws c.args.q c.args.later.now c.args.areas.now c.args.w.image c.window_frame-frame.result.r) (sym c.deref-3.ensures.value)
    (subst (λ (r : Rect). IsLeftOf (shape c.args.lists.now) c.args.standing.parent c.args.list.items c.args.q c.args.later.now c.args.areas.now c.args.w.image r) (sym (rect g at.After-window_frame-frame)) c.requires.left_own)

pub returns-in_err-enter-clause-err : goal.returns-in_err-enter-clause-err
returns-in_err-enter-clause-err g c =
    on_err c.from_residual.result
    (record {
      kept = c.enter.ensures.kept;
      has = c.enter.ensures.has;
      forms = c.enter.ensures.forms ∙ ap forms_of c.in_err-enter.ensures.lists_err ∙ sym c.requires.forms;
      moment = c.enter.ensures.moment;
      writes = c.enter.ensures.writes;
    })

-- ---- into the list

abbrev IsFrame : (g : Over) (c : In_ok-enter g) → Type 0
IsFrame g c = frame_image c.window_frame-frame.result ≡ bare_window (shape c.args.lists.now) c.args.standing.parent c.args.standing.fill c.args.r

abbrev IsFreeThere : (g : Over) (c : In_ok-enter g) → Type 0
IsFreeThere g c = IsFree (shape c.args.lists.now) (kept_at c.args.pixels.now) c.args.w.image c.args.standing.parent

entered : (g : Over) (c : In_ok-enter g) → IsFrame g c → shape c.enter.new.lists ≡ with_coming (shape c.args.lists.now) c.args.w.image c.args.standing.parent c.args.standing.fill c.args.r
entered g c frame = c.in_ok-enter.ensures.lists ∙ ap (λ (im : Image). with_image (shape c.args.lists.now) c.args.w.image (Some im)) frame

pub add-requires-clause-change : goal.add-requires-clause-change
add-requires-clause-change g c =
    let at = goal.at.add-requires-clause-change g c in
    subst (λ (v : World). IsRelisting v c.args.standing.parent c.args.w.image c.args.list.items) (sym (entered g at.In_ok-enter (image g at.After-window_frame-frame)))
    (window_relisting (shape c.args.lists.now) (kept_at c.args.pixels.now) c.args.w c.args.standing.parent c.args.standing.fill c.args.r (free g at.Start) c.args.list.items c.requires.coming (after g at.Start))

pub add-requires-clause-places : goal.add-requires-clause-places
add-requires-clause-places g c =
    let at = goal.at.add-requires-clause-places g c in
    let p = c.args.standing.parent in
    let i = c.args.w.image in
    subst (λ (v : World). HasPlacesBefore v p i (has_place c.enter.new.pixels)) (sym (entered g at.In_ok-enter (image g at.After-window_frame-frame)))
    (subst (HasPlacesBefore (mid g at.Start) p i) (sym c.enter.ensures.has)
    (window_places (shape c.args.lists.now) (kept_at c.args.pixels.now) i p c.args.standing.fill c.args.r (free g at.Start) c.args.pixels.now c.requires.forms c.requires.cells))

pub add-requires-clause-spare : goal.add-requires-clause-spare
add-requires-clause-spare g c =
    let same = ap (λ (ws : List Window). wanted_in c.enter.new.pixels (shape c.enter.new.lists) c.args.standing.parent ws) c.deref-3.ensures.value in
    omega (arith, same, c.in_ok-enter.ensures.spare)

pub add-requires-clause-front : goal.add-requires-clause-front
add-requires-clause-front g c =
    let at = goal.at.add-requires-clause-front g c in
    subst (λ (v : World). IsFront (image_at v c.args.standing.parent).windows c.args.list.items c.args.w.image c.count_front-from.result) (sym (entered g at.In_ok-enter (image g at.After-window_frame-frame)))
    (front g at.After-count_front-from (before g at.After-deref) (free g at.Start))

pub add-requires-clause-came : goal.add-requires-clause-came
add-requires-clause-came g c =
    let at = goal.at.add-requires-clause-came g c in
    ap (λ (v : World). place_among (image_at v c.args.standing.parent).windows c.args.w.image) (entered g at.In_ok-enter (image g at.After-window_frame-frame))
    ∙ window_came (shape c.args.lists.now) (kept_at c.args.pixels.now) c.args.w.image c.args.standing.parent c.args.standing.fill c.args.r (free g at.Start)

pub add-requires-clause-bare : goal.add-requires-clause-bare
add-requires-clause-bare g c = λ x.
    ap (λ (has : Place → Bool). has (own c.args.w.image x)) c.enter.ensures.has
    ∙ place_none c.args.pixels.now c.args.w.image x (ap (λ (forms : ℕ → Option Form). forms c.args.w.image) c.requires.forms ∙ ap (option_map form_of) c.requires.free)

-- the bits of the pixels of the image on which it stands
bits : (g : Over) (c : In_ok-enter g) → IsFrame g c → IsFreeThere g c → bits_in (form_at c.enter.new.pixels) c.args.standing.parent ≡ depth (image_at (shape c.args.lists.now) c.args.standing.parent).chan
bits g c frame is =
    let p = c.args.standing.parent in
    ap (λ (forms : ℕ → Option Form). bits_in forms p) (c.enter.ensures.forms ∙ ap forms_of (entered g c frame))
    ∙ bits_at (with_coming (shape c.args.lists.now) c.args.w.image p c.args.standing.fill c.args.r) p (coming_live (shape c.args.lists.now) (kept_at c.args.pixels.now) c.args.w.image p c.args.standing.fill c.args.r is)
    ∙ ap (λ (im : Image). depth im.chan) (at_parent (shape c.args.lists.now) (kept_at c.args.pixels.now) c.args.w.image p c.args.standing.fill c.args.r is)

pub add-requires-clause-given : goal.add-requires-clause-given
add-requires-clause-given g c x =
    let at = goal.at.add-requires-clause-given g c in
    subst (λ (n : ℕ). g.S.Source.given c.args.source.now x < 2 ^ n) (sym (bits g at.In_ok-enter (image g at.After-window_frame-frame) (free g at.Start))) (c.requires.given x)

pub add-requires-clause-fill : goal.add-requires-clause-fill
add-requires-clause-fill g c z =
    let at = goal.at.add-requires-clause-fill g c in
    subst (λ (n : ℕ). g.S.Source.fill c.args.source.now z < 2 ^ n) (sym (bits g at.In_ok-enter (image g at.After-window_frame-frame) (free g at.Start))) (c.requires.fill z)

-- ---- what is there then

then : (g : Over) (c : After-add g) → shape c.enter.new.lists ≡ with_coming (shape c.args.lists.now) c.args.w.image c.args.standing.parent c.args.standing.fill c.args.r → shape c.add.new.lists ≡ listed (shape c.args.lists.now) c.args.w.image c.args.standing.parent c.args.standing.fill c.args.r c.args.list.items
then g c there = c.add.ensures.lists ∙ ap (λ (v : World). with_list v c.args.standing.parent c.args.list.items) there

pub returns-clause-lists : goal.returns-clause-lists
returns-clause-lists g c =
    let at = goal.at.returns-clause-lists g c in
    then g at.After-add (entered g at.In_ok-enter (image g at.After-window_frame-frame))

pub returns-clause-made : goal.returns-clause-made
returns-clause-made g c = c.add.ensures.made ∙ c.in_ok-enter.ensures.made

pub returns-clause-world : goal.returns-clause-world
returns-clause-world g c =
    let at = goal.at.returns-clause-world g c in
    window_world (shape c.args.lists.now) (kept_at c.args.pixels.now) c.args.w c.args.standing.parent c.args.standing.fill c.args.r (free g at.Start) c.args.list.items c.requires.coming (g.S.Source.given c.args.source.now) (g.S.Source.fill c.args.source.now) (kept_at c.enter.new.pixels) (kept_at c.add.new.pixels) (shape c.enter.new.lists) (shape c.add.new.lists)
    (entered g at.In_ok-enter (image g at.After-window_frame-frame)) c.enter.ensures.kept c.add.ensures.world

pub returns-clause-later : goal.returns-clause-later
returns-clause-later g c =
    let at = goal.at.returns-clause-later g c in
    let p = c.args.standing.parent in
    let q = c.args.q in
    let vs = c.args.later.now in
    let ws = c.args.list.items in
    let fewer = coming_wants (shape c.args.lists.now) (kept_at c.args.pixels.now) c.args.w p c.args.standing.fill c.args.r (free g at.Start) ws c.requires.coming c.args.pixels.now c.enter.new.pixels c.add.new.pixels q vs
    (ap (λ (forms : ℕ → Option Form). forms c.args.w.image) c.requires.forms ∙ ap (option_map form_of) c.requires.free) c.requires.cells
    (c.enter.ensures.forms ∙ ap forms_of (entered g at.In_ok-enter (image g at.After-window_frame-frame))) c.enter.ensures.has
    (c.add.ensures.forms ∙ ap forms_of (then g at.After-add (entered g at.In_ok-enter (image g at.After-window_frame-frame))))
    (subst (λ (v : World). HasCells v (has_place c.add.new.pixels)) (then g at.After-add (entered g at.In_ok-enter (image g at.After-window_frame-frame))) c.add.ensures.cells) (after g at.Start) c.requires.later in
    let now = ap (λ (v : World). wanted_in c.add.new.pixels v q vs) (then g at.After-add (entered g at.In_ok-enter (image g at.After-window_frame-frame))) in
    let before = ap (λ (v : World). later_in c.enter.new.pixels v p ws q vs) (entered g at.In_ok-enter (image g at.After-window_frame-frame)) in
    let same = ap (λ (us : List Window). wanted_in c.enter.new.pixels (shape c.enter.new.lists) p us) c.deref-3.ensures.value in
    let other = ap (λ (us : List Window). later_in c.enter.new.pixels (shape c.enter.new.lists) p us q vs) c.deref-3.ensures.value in
    omega (arith, fewer, now, before, same, other, c.in_ok-enter.ensures.spare, c.add.ensures.spare)

pub returns-clause-steps : goal.returns-clause-steps
returns-clause-steps g c =
    let at = goal.at.returns-clause-steps g c in
    let own : (image_at (shape c.enter.new.lists) c.args.w.image).r ≡ c.args.r =
    ap (λ (v : World). (image_at v c.args.w.image).r) (entered g at.In_ok-enter (image g at.After-window_frame-frame))
    ∙ ap (λ (o : Option Image). (unwrap_or o no_image).r) (with_image-at (shape c.args.lists.now) c.args.w.image (Some (bare_window (shape c.args.lists.now) c.args.standing.parent c.args.standing.fill c.args.r))) in
    let size = ap area_of own in
    omega (arith, size, c.add.ensures.steps)
