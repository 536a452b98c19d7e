use borrow.Rule.Slice.PartMut.{post_of, put_mid}
use Rattle.std.proofs.Common.{◌≡◌, ◌≤◌, ◌∙◌, ◌+◌, ◌-◌, ◌*◌, ◌++◌, ℕ, List, [], ◌∷◌, length, take, drop, refl, ap, append-nil, arith}
use Rattle.std.proofs.lemmas.List.{drop_all, length-append, length-drop, take_all, with_items_is}
use Rattle.r9_geom.specs.Geometry.{height}
use Rattle.model_pixel.specs.Channels.{depth}
use Rattle.model_pixel.specs.Rows.{row_bytes, rows_of}
use Rattle.model_forest.specs.Paint.{paint}
use Rattle.model_draw.specs.draw.World.{at_number}
use Rattle.r9_hall.specs.hall.WorldView.{display_in, world_in}
use Rattle.r9_serve.proofs.sending.Pictures.{shown_rows, IsShown}
use Rattle.r9_serve.proofs.sending.Rows.{length-rows_of}
use Rattle.r9_serve.proofs.sending.frame.with_rows.Goals as goal

taken : (front shown : List ℕ) → take (length front) (front ++ shown) ≡ front
taken [] shown = refl
taken (n ∷ front) shown = ap (λ (t : List ℕ). n ∷ t) (taken front shown)

dropped : (front shown : List ℕ) → drop (length front) (front ++ shown) ≡ shown
dropped [] shown = refl
dropped (n ∷ front) shown = dropped front shown

-- The rows stand behind the bytes that were there, as a part that ends where all ends.
record StandsBehind (front shown all : List ℕ) (begun : ℕ) : Type 0 where
  before : take begun all ≡ front
  part : take (length all - begun) (drop begun all) ≡ shown
  after : post_of begun (length all - begun) all ≡ []
  long : length all ≡ begun + length shown

behind : (front shown all : List ℕ) (begun : ℕ) → all ≡ front ++ shown → begun ≡ length front → StandsBehind front shown all begun
behind front shown all begun is n =
    let whole : length (drop begun all) ≤ length all - begun = omega (arith, length-drop begun all) in
    record {
      before = (λ i. take (n i) (is i)) ∙ taken front shown;
      part = take_all (length all - begun) (drop begun all) whole ∙ (λ i. drop (n i) (is i)) ∙ dropped front shown;
      after = drop_all (length all - begun) (drop begun all) whole;
      long = omega (arith, ap length is, length-append front shown, n);
    }

pub put_cursor-requires-clause-rows : goal.put_cursor-requires-clause-rows
put_cursor-requires-clause-rows c =
    let device = (world_in c.args.world.now).desktop.device in
    let shown = rows_of c.args.r (depth (at_number device 0).chan) (paint device.images 0) in
    let parts = behind c.args.front.items shown c.deref_mut.result.now c.len-begun.result (c.deref_mut.ensures.value ∙ c.in_ok-all.ensures) (c.len-begun.ensures ∙ c.args.front.ok.0) in
    ap length parts.part
    ∙ length-rows_of c.args.r (depth (at_number device 0).chan) (paint device.images 0)
    ∙ ap (λ (chan : ℕ). row_bytes c.args.r (depth chan) * height c.args.r) c.requires.display.chan_is

pub returns : goal.returns
returns c =
    let w = world_in c.args.world.now in
    let device = w.desktop.device in
    let display = display_in c.args.world.now in
    let is : IsShown c.args.chan device display = record { has = c.requires.display; shows = c.sound.ensures.shows; sound = c.sound.ensures.sound; forest = c.sound.ensures.forest } in
    let front = c.args.front.items in
    let shown = rows_of c.args.r (depth (at_number device 0).chan) (paint device.images 0) in
    let all = c.deref_mut.result.now in
    let begun = c.len-begun.result in
    let parts = behind front shown all begun (c.deref_mut.ensures.value ∙ c.in_ok-all.ensures) (c.len-begun.ensures ∙ c.args.front.ok.0) in
    let rows = c.put_cursor.new.rows in
    let put = put_mid begun (length all - begun) all rows in
    let put_is : put ≡ front ++ rows = (λ i. parts.before i ++ (rows ++ parts.after i)) ∙ ap (λ (t : List ℕ). front ++ t) (append-nil rows) in
    let long : length put ≡ c.in_ok-all.all.len =
    omega (arith, ap length put_is, length-append front rows, c.put_cursor.ensures.long, ap length parts.part, parts.long, c.deref_mut.ensures.len, c.len-begun.ensures ∙ c.args.front.ok.0) in
    record {
      rows = rows;
      are_rows = shown_rows c.args.chan w display c.args.r c.pointer.result _ rows is c.requires.part c.pointer.ensures.pointer parts.part c.put_cursor.ensures.long c.put_cursor.ensures.pixels;
      text = with_items_is c.in_ok-all.all put long ∙ put_is;
    }
