use Rattle.std.proofs.Common.{◌≡◌, ◌^◌, true, false, refl, sym, ap, ◌∙◌, rules, arith}
use Rattle.std.specs.Prelude.{is_some}
use Rattle.std.proofs.lemmas.Result.{err_from_is_err_and}
use Rattle.r9_geom.specs.Geometry.{is_empty}
use Rattle.model_draw.specs.imgfile.ImageFile.{rows_len}
use Rattle.model_draw_parts.specs.images.Book.{image_id}
use Rattle.model_draw.specs.draw.World.{client_of}
use Rattle.model_draw.specs.draw.Making.{farthest, is_near_rect, is_too_large}
use Rattle.r9_device.specs.device.World.{world_of}
use Rattle.r9_draw.specs.messages.Plans.{screen_for}
use Rattle.r9_device.proofs.device.Rects.{near-of, points-of, wider}
use Rattle.r9_draw.proofs.messages.Allocating.{Passes, allocate-made, allocate-refused, allocate-unlawful, fits-of, fresh-of, refreshed-of, shaped-of}
use Rattle.r9_draw.proofs.messages.image.allocate.Goals as goal

pub returns-in_default-clause-refused : goal.returns-in_default-clause-refused
returns-in_default-clause-refused c =
    let none : is_some (image_id c.args.device.now.book.book c.args.client c.args.asked.now.id) ≡ false = search rules in
    allocate-unlawful c.args.client (world_of c.args.device.now) c.args.asked.now.id c.args.asked.now.screenid c.args.asked.now.refresh c.args.asked.now.chan c.args.asked.now.repl c.args.asked.now.r c.args.asked.now.clipr c.args.asked.now.color
    (fresh-of c.args.device.now.book.book c.args.client c.args.asked.now.id c.if-asked-eq0.false none) (refreshed-of _ c.if-asked-gt2.false) c.in_default.ensures.unknown

pub rows_len-requires-clause-near : goal.rows_len-requires-clause-near
rows_len-requires-clause-near c = wider (2 ^ 32) (2 ^ 33) c.args.asked.now.r (omega arith) (near-of c.args.asked.now.r (search rules))

pub rows_len-requires-clause-points : goal.rows_len-requires-clause-points
rows_len-requires-clause-points c = points-of c.args.asked.now.r (search rules)

pub returns-in_err-screen-clause-refused : goal.returns-in_err-screen-clause-refused
returns-in_err-screen-clause-refused c =
    let none : is_some (image_id c.args.device.now.book.book c.args.client c.args.asked.now.id) ≡ false = search rules in
    let some : is_empty c.args.asked.now.r ≡ false = search rules in
    let near : is_near_rect farthest c.args.asked.now.r ≡ true = search rules in
    let small : is_too_large (client_of (world_of c.args.device.now) c.args.client) (rows_len c.args.asked.now.chan c.args.asked.now.r) ≡ false =
    ap (is_too_large (client_of (world_of c.args.device.now) c.args.client)) (ap (λ n. rows_len n c.args.asked.now.r) (sym c.in-Some.ensures.known) ∙ sym c.in-Some-rows_len.ensures) ∙ sym c.is_too_large.ensures ∙ c.if-not-is_too_large.true in
    let passes : Passes c.args.client (world_of c.args.device.now) c.args.asked.now.id c.args.asked.now.refresh c.args.asked.now.chan c.args.asked.now.r = record {
      fresh = fresh-of c.args.device.now.book.book c.args.client c.args.asked.now.id c.if-asked-eq0.false none;
      refreshed = refreshed-of _ c.if-asked-gt2.false;
      lawful = c.in-Some.ensures.lawful refl;
      shaped = shaped-of _ _ some near;
      small = small;
    } in
    let p = err_from_is_err_and c.from_residual.result c.from_residual.ensures.1 in
    rw (p.1, p.2) (allocate-refused c.args.client (world_of c.args.device.now) c.args.asked.now.id c.args.asked.now.screenid c.args.asked.now.refresh c.args.asked.now.chan c.args.asked.now.repl c.args.asked.now.r c.args.asked.now.clipr c.args.asked.now.color _ passes (ap (λ chan. screen_for c.args.client (world_of c.args.device.now) c.args.asked.now.screenid chan c.args.asked.now.repl) (sym c.in-Some.ensures.known) ∙ c.in_err-screen.ensures.refused))

pub returns-clause-made : goal.returns-clause-made
returns-clause-made c =
    let none : is_some (image_id c.args.device.now.book.book c.args.client c.args.asked.now.id) ≡ false = search rules in
    let some : is_empty c.args.asked.now.r ≡ false = search rules in
    let near : is_near_rect farthest c.args.asked.now.r ≡ true = search rules in
    let small : is_too_large (client_of (world_of c.args.device.now) c.args.client) (rows_len c.args.asked.now.chan c.args.asked.now.r) ≡ false =
    ap (is_too_large (client_of (world_of c.args.device.now) c.args.client)) (ap (λ n. rows_len n c.args.asked.now.r) (sym c.in-Some.ensures.known) ∙ sym c.in-Some-rows_len.ensures) ∙ sym c.is_too_large.ensures ∙ c.if-not-is_too_large.true in
    let passes : Passes c.args.client (world_of c.args.device.now) c.args.asked.now.id c.args.asked.now.refresh c.args.asked.now.chan c.args.asked.now.r = record {
      fresh = fresh-of c.args.device.now.book.book c.args.client c.args.asked.now.id c.if-asked-eq0.false none;
      refreshed = refreshed-of _ c.if-asked-gt2.false;
      lawful = c.in-Some.ensures.lawful refl;
      shaped = shaped-of _ _ some near;
      small = small;
    } in
    allocate-made c.args.client (world_of c.args.device.now) _ c.args.asked.now.screenid c.args.asked.now.refresh c.args.asked.now.chan c.args.asked.now.color passes c.in-Some.ensures.known c.fill_raw.ensures.value c.in-Some-rows_len.ensures c.in_ok-screen.ensures.found

pub returns-clause-ready : goal.returns-clause-ready
returns-clause-ready c =
    let none : is_some (image_id c.args.device.now.book.book c.args.client c.args.asked.now.id) ≡ false = search rules in
    let some : is_empty c.args.asked.now.r ≡ false = search rules in
    let near : is_near_rect farthest c.args.asked.now.r ≡ true = search rules in
    record {
      fresh = fresh-of c.args.device.now.book.book c.args.client c.args.asked.now.id c.if-asked-eq0.false none;
      points = points-of _ some;
      near = near-of _ near;
      clip = c.requires.clip;
      raw = c.fill_raw.ensures.range;
      fits = fits-of _ _ (sym c.is_too_large.ensures ∙ c.if-not-is_too_large.true);
      screen = c.in_ok-screen.ensures.holds;
    }
