use Rattle.std.proofs.Common.{◌==◌, ◌+◌, ◌*◌, ◌<◌, List, filter, length, ap, ◌∙◌, arith}
use Rattle.std.specs.Prelude.{not}
use Rattle.model_draw_parts.specs.declared.images.ScreenId.{ScreenId}
use Rattle.model_draw_parts.specs.images.Release.{freed_screen_id, is_screen_id}
use Rattle.r9_images.specs.uses.Freed.{freed_of, own_screens}
use Rattle.r9_images.proofs.uses.Rooms.{fewer-left, fold-none, fold-one, less-room, none-own}
use Rattle.r9_images.proofs.uses.uses.Uses.drop_screen_ids.Goals as goal

pub dropping-smaller : goal.dropping-smaller
dropping-smaller c =
    let e = c.in-Some.e in
    let less = fewer-left (is_screen_id e.client e.id) e c.dropping.self.screen_ids.ids c.in-Some.ensures.there in
    let same = ap length c.drop_screen_id.ensures.screen_ids in
    omega (arith, less, same)

pub dropping-preserved : goal.dropping-preserved
dropping-preserved c =
    let e = c.in-Some.e in
    let now = c.dropping.self in
    let new = c.drop_screen_id.new.self in
    let rest = ap length c.in-Some.ensures.rest in
    let left = ap (λ (ids : List ScreenId). length (filter (λ x. x.client == c.args.client) ids)) c.drop_screen_id.ensures.screen_ids in
    let less : own_screens new c.args.client < own_screens now c.args.client = omega (arith, rest, left) in
    record {
      step = λ ties next_tie.
          fold-one freed_screen_id (freed_of now ties next_tie) (freed_of new ties next_tie) e (filter (λ x. x.client == c.args.client) now.screen_ids.ids)
          (filter (λ x. x.client == c.args.client) (filter (λ x. not (is_screen_id e.client e.id x)) now.screen_ids.ids)) (filter (λ x. x.client == c.args.client) new.screen_ids.ids)
          (c.drop_screen_id.ensures.freed ties next_tie) (ap (filter (λ (x : ScreenId). x.client == c.args.client)) c.drop_screen_id.ensures.screen_ids) c.in-Some.ensures.rest
          ∙ c.dropping.invariant.step ties next_tie;
      room = λ more h.
          less-room new (3 * own_screens new c.args.client + 3 * length new.windows.windows + more) (3 * length new.windows.windows + (3 * own_screens new c.args.client + more)) (omega arith)
          (c.drop_screen_id.ensures.room (3 * own_screens new c.args.client + more)
          (less-room now (3 + 3 * length now.windows.windows + (3 * own_screens new c.args.client + more)) (3 * own_screens now c.args.client + 3 * length now.windows.windows + more) (omega (arith, less))
          (c.dropping.invariant.room more h)));
      fewer = omega (arith, c.drop_screen_id.ensures.fewer, c.dropping.invariant.fewer, less);
      none = c.drop_screen_id.ensures.none;
      more = omega (arith, c.drop_screen_id.ensures.more, c.dropping.invariant.more);
      most = c.drop_screen_id.ensures.most ∙ c.dropping.invariant.most;
      image_ids = c.drop_screen_id.ensures.image_ids ∙ c.dropping.invariant.image_ids;
    }

pub returns : goal.returns
returns c = record {
  more = c.dropping.invariant.more;
  freed = λ ties next_tie.
      fold-none freed_screen_id (freed_of c.dropping.self ties next_tie) (filter (λ e. e.client == c.args.client) c.dropping.self.screen_ids.ids)
      (none-own (λ (e : ScreenId). e.client == c.args.client) c.dropping.self.screen_ids.ids c.in_default.ensures.found)
      ∙ c.dropping.invariant.step ties next_tie;
}
