use Rattle.std.proofs.Common.{◌==◌, ◌+◌, ◌*◌, ◌<◌, List, filter, length, ap, ◌∙◌, arith}
use Rattle.std.specs.Prelude.{not}
use Rattle.model_draw_parts.specs.declared.images.ImageId.{ImageId}
use Rattle.model_draw_parts.specs.images.Release.{freed_image_id, is_image_id}
use Rattle.r9_images.specs.uses.Freed.{freed_of, own_images}
use Rattle.r9_images.proofs.uses.Rooms.{fewer-left, fold-none, fold-one, less-room, none-own}
use Rattle.r9_images.proofs.uses.uses.Uses.drop_image_ids.Goals as goal

pub dropping-smaller : goal.dropping-smaller
dropping-smaller c =
    let e = c.in-Some.e in
    let less = fewer-left (is_image_id e.client e.id) e c.dropping.self.image_ids.ids c.in-Some.ensures.there in
    let same = ap length c.drop_image_id.ensures.image_ids in
    omega (arith, less, same)

pub dropping-preserved : goal.dropping-preserved
dropping-preserved c =
    let e = c.in-Some.e in
    let now = c.dropping.self in
    let new = c.drop_image_id.new.self in
    let rest = ap length c.in-Some.ensures.rest in
    let left = ap (λ (ids : List ImageId). length (filter (λ x. x.client == c.args.client) ids)) c.drop_image_id.ensures.image_ids in
    let less : own_images new c.args.client < own_images now c.args.client = omega (arith, rest, left) in
    record {
      step = λ ties next_tie.
          fold-one freed_image_id (freed_of now ties next_tie) (freed_of new ties next_tie) e (filter (λ x. x.client == c.args.client) now.image_ids.ids)
          (filter (λ x. x.client == c.args.client) (filter (λ x. not (is_image_id e.client e.id x)) now.image_ids.ids)) (filter (λ x. x.client == c.args.client) new.image_ids.ids)
          (c.drop_image_id.ensures.freed ties next_tie) (ap (filter (λ (x : ImageId). x.client == c.args.client)) c.drop_image_id.ensures.image_ids) c.in-Some.ensures.rest
          ∙ c.dropping.invariant.step ties next_tie;
      room = λ more h.
          less-room new (own_images new c.args.client + 3 * length new.windows.windows + more) (3 * length new.windows.windows + (own_images new c.args.client + more)) (omega arith)
          (c.drop_image_id.ensures.room (own_images new c.args.client + more)
          (less-room now (1 + 3 * length now.windows.windows + (own_images new c.args.client + more)) (own_images now c.args.client + 3 * length now.windows.windows + more) (omega (arith, less))
          (c.dropping.invariant.room more h)));
      fewer = omega (arith, c.drop_image_id.ensures.fewer, c.dropping.invariant.fewer, less);
      none = c.drop_image_id.ensures.none;
      more = omega (arith, c.drop_image_id.ensures.more, c.dropping.invariant.more);
      most = c.drop_image_id.ensures.most ∙ c.dropping.invariant.most;
      screen_ids = c.drop_image_id.ensures.screen_ids ∙ c.dropping.invariant.screen_ids;
    }

pub returns-clause-freed : goal.returns-clause-freed
returns-clause-freed c = λ ties next_tie.
    fold-none freed_image_id (freed_of c.dropping.self ties next_tie) (filter (λ e. e.client == c.args.client) c.dropping.self.image_ids.ids)
    (none-own (λ (e : ImageId). e.client == c.args.client) c.dropping.self.image_ids.ids c.in_default.ensures.found)
    ∙ c.dropping.invariant.step ties next_tie

pub returns-clause-room : goal.returns-clause-room
returns-clause-room c = λ more h.
    let now = c.dropping.self in
    less-room now (3 * length now.windows.windows + more) (own_images now c.args.client + 3 * length now.windows.windows + more) (omega arith) (c.dropping.invariant.room more h)
