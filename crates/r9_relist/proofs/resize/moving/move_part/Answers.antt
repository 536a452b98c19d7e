use Rattle.std.proofs.Common.{◌≡◌, ◌∙◌, ℕ, ◌<◌, ◌^◌, true, false, length, None, Option, Some, sym, subst, ap, arith}
use Rattle.std.specs.Prelude.{is_some, slice_index}
use Rattle.r9_geom.specs.declared.Point.{Point}
use Rattle.r9_geom.specs.declared.Rect.{Rect}
use Rattle.r9_geom.specs.Geometry.{holds}
use Rattle.model_pixel.specs.Channels.{depth}
use Rattle.r9_plane.specs.Pixels.{along, chan_of, pixel_at, rect_of}
use Rattle.model_forest.specs.declared.Window.{Window}
use Rattle.model_forest.specs.View.{top_window}
use Rattle.model_forest.specs.World.{Image, image_at}
use Rattle.model_forest.proofs.Changes.{live-standing}
use Rattle.model_kept.specs.Keeping.{own}
use Rattle.r9_locate.specs.locate.Forms.{bits_in, Form}
use Rattle.r9_locate.specs.locate.Table.{shape}
use Rattle.r9_locate.proofs.locate.Locating.{strip_at}
use Rattle.r9_pixels.specs.Kept.{form_at, has_place, kept_at}
use Rattle.r9_restack.proofs.Changes.{near_of_old}
use Rattle.r9_restack.proofs.Parting.{old_is}
use Rattle.r9_relist.proofs.relist.Relisted.{bits_at, forest_bits}
use Rattle.r9_relist.specs.resize.Moves.{IsLost, IsWon}
use Rattle.r9_relist.proofs.resize.Lost.{top_stands}
use Rattle.r9_relist.proofs.resize.Moved.{at_along, moved_lost, moved_skip, moved_won}
use Rattle.r9_relist.proofs.resize.moving.move_part.Given.{Over}
use Rattle.r9_relist.proofs.resize.moving.move_part.Goals as goal
use Rattle.r9_relist.proofs.resize.moving.move_part.Goals.{After-holds, After-top, Start}

-- the window there
top_is : (g : Over) (c : After-top g) (o : Option Window) → c.top.result ≡ o → top_window (image_at (shape c.args.lists.now) c.args.i).windows c.args.q ≡ o
top_is g c o is = old_is (shape c.args.lists.now) c.args.i c.get-frame.result.now c.deref.result.now c.args.q c.top.result o c.get-frame.ensures c.deref.ensures.value c.top.ensures is

-- whether the image had the point
had_is : (g : Over) (c : After-holds g) → holds (rect_of c.args.had.now) c.args.q ≡ c.holds.result
had_is g c = ap (λ (r : Rect). holds r c.args.q) (sym c.rect.ensures.value) ∙ sym c.holds.ensures

-- how many bits the pixels of a window of it have
bits_of : (g : Over) (c : Start g) (v : Window) → top_window (image_at (shape c.args.lists.now) c.args.i).windows c.args.q ≡ Some v → bits_in (form_at c.args.pixels.now) v.image ≡ bits_in (form_at c.args.pixels.now) c.args.i
bits_of g c v top =
    let world = shape c.args.lists.now in
    let stands = top_stands world c.args.i c.requires.live c.requires.forest c.args.q v top in
    subst (λ (forms : ℕ → Option Form). bits_in forms v.image ≡ bits_in forms c.args.i) (sym c.requires.forms)
    (forest_bits world c.requires.forest v.image c.args.i (live-standing world v.image c.args.i stands) stands)

own_bits : (g : Over) (c : Start g) → bits_in (form_at c.args.pixels.now) c.args.i ≡ depth (chan_of c.args.had.now)
own_bits g c =
    ap (λ (forms : ℕ → Option Form). bits_in forms c.args.i) c.requires.forms ∙ bits_at (shape c.args.lists.now) c.args.i c.requires.live ∙ ap depth (sym c.requires.chan)

-- the points at which it is lost, and those at which it is won
lost_at : (g : Over) (c : Start g) (v : Window) → top_window (image_at (shape c.args.lists.now) c.args.i).windows c.args.q ≡ Some v → holds (rect_of c.args.had.now) c.args.q ≡ true → holds (image_at (shape c.args.lists.now) c.args.i).r c.args.q ≡ false → (k : ℕ) → k < length c.args.raws.now → IsLost (shape c.args.lists.now) c.args.i (rect_of c.args.had.now) (along c.args.q k) v
lost_at g c v top had gone k below = record { had = c.requires.before k below ∙ had; gone = c.requires.here k below ∙ gone; top = c.requires.tops k below ∙ top }

won_at : (g : Over) (c : Start g) (v : Window) → top_window (image_at (shape c.args.lists.now) c.args.i).windows c.args.q ≡ Some v → holds (rect_of c.args.had.now) c.args.q ≡ false → holds (image_at (shape c.args.lists.now) c.args.i).r c.args.q ≡ true → (k : ℕ) → k < length c.args.raws.now → IsWon (shape c.args.lists.now) c.args.i (rect_of c.args.had.now) (along c.args.q k) v
won_at g c v top missed here k below = record { missed = c.requires.before k below ∙ missed; here = c.requires.here k below ∙ here; top = c.requires.tops k below ∙ top }

pub returns-in_default-clause-moved : goal.returns-in_default-clause-moved
returns-in_default-clause-moved g c before done fresh m =
    let at = goal.at.returns-in_default-clause-moved g c in
    let none = top_is g at.After-top None c.in_default.is in
    moved_skip (shape c.args.lists.now) c.args.i (rect_of c.args.had.now) (pixel_at c.args.had.now) c.requires.live c.requires.forest before (kept_at c.args.pixels.now) done c.args.q (length c.args.raws.now)
    (λ k v below lost. ap {A = Option Window} is_some (sym lost.top ∙ c.requires.tops k below ∙ none))
    (λ k v below won. ap {A = Option Window} is_some (sym won.top ∙ c.requires.tops k below ∙ none))
    m

pub inward-x-requires-clause-live : goal.inward-x-requires-clause-live
inward-x-requires-clause-live g c =
    let at = goal.at.inward-x-requires-clause-live g c in
    let v = c.in-Some.v in
    live-standing (shape c.args.lists.now) v.image c.args.i (top_stands (shape c.args.lists.now) c.args.i c.requires.live c.requires.forest c.args.q v (top_is g at.After-top (Some v) c.in-Some.is))

pub inward-x-requires-clause-place : goal.inward-x-requires-clause-place
inward-x-requires-clause-place g c =
    let at = goal.at.inward-x-requires-clause-place g c in
    near_of_old c.args.lists.now c.args.i c.requires.live c.args.q c.in-Some.v (top_is g at.After-top (Some c.in-Some.v) c.in-Some.is)

pub get_row-requires : goal.get_row-requires
get_row-requires g c =
    let now = (goal.at.get_row-requires g c).After-holds in
    record {
      inside = λ p h.
          let at = strip_at c.args.q p (length c.args.raws.now) h in
          ap (holds (rect_of c.args.had.now)) at.2 ∙ c.requires.before at.0 at.1 ∙ had_is g now ∙ c.if-holds.true;
    }

pub write-requires-clause-has : goal.write-requires-clause-has
write-requires-clause-has g c k small =
    let at = goal.at.write-requires-clause-has g c in
    let world = shape c.args.lists.now in
    let v = c.in-Some.v in
    let below : k < length c.args.raws.now = omega (arith, small, c.get_row.auto.raws) in
    ap (λ (y : Point). has_place c.args.pixels.now (own v.image y)) (at_along world c.args.i (rect_of c.args.had.now) (pixel_at c.args.had.now) c.requires.live c.requires.forest c.inward-x.result c.args.q v k c.inward-x.ensures)
    ∙ c.requires.places.lost (along c.args.q k) v
    (lost_at g at.Start v (top_is g at.After-top (Some v) c.in-Some.is) (had_is g at.After-holds ∙ c.if-holds.true) (ap (λ (im : Image). holds im.r c.args.q) c.get-frame.ensures ∙ sym c.holds-then-holds.ensures ∙ c.if-not-holds.true) k below)

pub write-requires-clause-below : goal.write-requires-clause-below
write-requires-clause-below g c k small =
    let at = goal.at.write-requires-clause-below g c in
    subst (λ (n : ℕ). slice_index c.get_row.new.raws k < 2 ^ n) (sym (bits_of g at.Start c.in-Some.v (top_is g at.After-top (Some c.in-Some.v) c.in-Some.is) ∙ own_bits g at.Start))
    (c.get_row.ensures.range k (omega (arith, small, c.get_row.auto.raws)))

pub read-requires : goal.read-requires
read-requires g c k below =
    let at = goal.at.read-requires g c in
    let world = shape c.args.lists.now in
    let v = c.in-Some.v in
    ap (λ (y : Point). has_place c.args.pixels.now (own v.image y)) (at_along world c.args.i (rect_of c.args.had.now) (pixel_at c.args.had.now) c.requires.live c.requires.forest c.inward-x.result c.args.q v k c.inward-x.ensures)
    ∙ c.requires.places.won (along c.args.q k) v
    (won_at g at.Start v (top_is g at.After-top (Some v) c.in-Some.is) (had_is g at.After-holds ∙ c.if-holds.false) (ap (λ (im : Image). holds im.r c.args.q) c.get-frame.ensures ∙ sym c.holds-else-holds.ensures ∙ c.if-holds-2.true) k below)

pub write-requires-then-holds-2-clause-has : goal.write-requires-then-holds-2-clause-has
write-requires-then-holds-2-clause-has g c k small =
    c.requires.places.whole (along c.args.q k)
    (c.requires.here k (omega (arith, small, c.read.auto.raws)) ∙ ap (λ (im : Image). holds im.r c.args.q) c.get-frame.ensures ∙ sym c.holds-else-holds.ensures ∙ c.if-holds-2.true)

pub write-requires-then-holds-2-clause-below : goal.write-requires-then-holds-2-clause-below
write-requires-then-holds-2-clause-below g c k small =
    let at = goal.at.write-requires-then-holds-2-clause-below g c in
    subst (λ (n : ℕ). slice_index c.read.new.raws k < 2 ^ n) (bits_of g at.Start c.in-Some.v (top_is g at.After-top (Some c.in-Some.v) c.in-Some.is))
    (c.read.ensures.below k (omega (arith, small, c.read.auto.raws)))

pub returns-then-not-holds-clause-moved : goal.returns-then-not-holds-clause-moved
returns-then-not-holds-clause-moved g c before done fresh m =
    let at = goal.at.returns-then-not-holds-clause-moved g c in
    let v = c.in-Some.v in
    moved_lost (shape c.args.lists.now) c.args.i (rect_of c.args.had.now) (pixel_at c.args.had.now) c.requires.live c.requires.forest before (kept_at c.args.pixels.now) (kept_at c.write.new.self) done c.args.q (length c.args.raws.now) v
    (lost_at g at.Start v (top_is g at.After-top (Some v) c.in-Some.is) (had_is g at.After-holds ∙ c.if-holds.true) (ap (λ (im : Image). holds im.r c.args.q) c.get-frame.ensures ∙ sym c.holds-then-holds.ensures ∙ c.if-not-holds.true))
    fresh
    (λ k below.
    ap (λ (y : Point). kept_at c.write.new.self (own v.image (along y k))) (sym c.inward-x.ensures)
    ∙ c.write.ensures.at k (omega (arith, below, c.get_row.auto.raws))
    ∙ c.get_row.ensures.pixels k below)
    (λ place apart.
    c.write.ensures.others place
    (λ k small e. apart k (omega (arith, small, c.get_row.auto.raws)) (e ∙ ap (λ (y : Point). own v.image (along y k)) c.inward-x.ensures)))
    m

pub returns-else-not-holds-clause-moved : goal.returns-else-not-holds-clause-moved
returns-else-not-holds-clause-moved g c before done fresh m =
    let at = goal.at.returns-else-not-holds-clause-moved g c in
    let had = had_is g at.After-holds ∙ c.if-holds.true in
    let here = ap (λ (im : Image). holds im.r c.args.q) c.get-frame.ensures ∙ sym c.holds-then-holds.ensures ∙ c.if-not-holds.false in
    moved_skip (shape c.args.lists.now) c.args.i (rect_of c.args.had.now) (pixel_at c.args.had.now) c.requires.live c.requires.forest before (kept_at c.args.pixels.now) done c.args.q (length c.args.raws.now)
    (λ k v below lost. sym (c.requires.here k below ∙ here) ∙ lost.gone)
    (λ k v below won. sym (c.requires.before k below ∙ had) ∙ won.missed)
    m

pub returns-then-holds-2-clause-moved : goal.returns-then-holds-2-clause-moved
returns-then-holds-2-clause-moved g c before done fresh m =
    let at = goal.at.returns-then-holds-2-clause-moved g c in
    let v = c.in-Some.v in
    moved_won (shape c.args.lists.now) c.args.i (rect_of c.args.had.now) (pixel_at c.args.had.now) c.requires.live c.requires.forest before (kept_at c.args.pixels.now) (kept_at c.write-then-holds-2.new.self) done c.args.q (length c.args.raws.now) v
    (won_at g at.Start v (top_is g at.After-top (Some v) c.in-Some.is) (had_is g at.After-holds ∙ c.if-holds.false) (ap (λ (im : Image). holds im.r c.args.q) c.get-frame.ensures ∙ sym c.holds-else-holds.ensures ∙ c.if-holds-2.true))
    fresh
    (λ k below.
    c.write-then-holds-2.ensures.at k (omega (arith, below, c.read.auto.raws))
    ∙ c.read.ensures.pixels k below
    ∙ ap (λ (y : Point). kept_at c.args.pixels.now (own v.image (along y k))) c.inward-x.ensures)
    (λ place apart. c.write-then-holds-2.ensures.others place (λ k small e. apart k (omega (arith, small, c.read.auto.raws)) e))
    m

pub returns-else-holds-2-clause-moved : goal.returns-else-holds-2-clause-moved
returns-else-holds-2-clause-moved g c before done fresh m =
    let at = goal.at.returns-else-holds-2-clause-moved g c in
    let missed = had_is g at.After-holds ∙ c.if-holds.false in
    let gone = ap (λ (im : Image). holds im.r c.args.q) c.get-frame.ensures ∙ sym c.holds-else-holds.ensures ∙ c.if-holds-2.false in
    moved_skip (shape c.args.lists.now) c.args.i (rect_of c.args.had.now) (pixel_at c.args.had.now) c.requires.live c.requires.forest before (kept_at c.args.pixels.now) done c.args.q (length c.args.raws.now)
    (λ k v below lost. sym lost.had ∙ c.requires.before k below ∙ missed)
    (λ k v below won. sym won.here ∙ c.requires.here k below ∙ gone)
    m
