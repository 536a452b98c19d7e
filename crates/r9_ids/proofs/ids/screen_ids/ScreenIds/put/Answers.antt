use Rattle.std.proofs.Common.{find, ap, ◌∙◌}
use Rattle.model_draw_parts.specs.images.Book.{put_screen_id}
use Rattle.model_draw_parts.specs.images.Release.{is_screen_id}
use Rattle.r9_ids.specs.ids.Rows.{screens_of}
use Rattle.r9_ids.specs.ids.ScreenIds.{Ids}
use Rattle.r9_ids.proofs.ids.IdRows.{absent, put}
use Rattle.r9_ids.proofs.ids.Entries.{screens}
use Rattle.r9_ids.proofs.ids.Publics.{private-put, public-absent, public-put}
use Rattle.r9_ids.proofs.ids.screen_ids.ScreenIds.put.Goals as goal

pub put-requires-clause-absent : goal.put-requires-clause-absent
put-requires-clause-absent c =
    absent screens c.args.e.client c.args.e.id c.self.inside.rows.rows (ap (λ (x : Ids). find (is_screen_id c.args.e.client c.args.e.id) x.ids) c.self.view_is ∙ c.requires.fresh)

pub put-requires-then-e-clause-absent : goal.put-requires-then-e-clause-absent
put-requires-then-e-clause-absent c =
    public-absent c.args.e c.self.inside.rows.rows c.self.inside.publics.rows c.self.invariant
    (absent screens c.args.e.client c.args.e.id c.self.inside.rows.rows (ap (λ (x : Ids). find (is_screen_id c.args.e.client c.args.e.id) x.ids) c.self.view_is ∙ c.requires.fresh))

pub invariant_of-self : goal.invariant_of-self
invariant_of-self c =
    let rows = c.self.inside.rows.rows in
    let fresh = absent screens c.args.e.client c.args.e.id rows (ap (λ (x : Ids). find (is_screen_id c.args.e.client c.args.e.id) x.ids) c.self.view_is ∙ c.requires.fresh) in
    rw c.put.ensures.rows (rw c.put-then-e.ensures.rows (public-put c.args.e rows c.self.inside.publics.rows c.self.invariant fresh c.if-e.true))

pub invariant_of-self-else-e : goal.invariant_of-self-else-e
invariant_of-self-else-e c =
    let rows = c.self.inside.rows.rows in
    let fresh = absent screens c.args.e.client c.args.e.id rows (ap (λ (x : Ids). find (is_screen_id c.args.e.client c.args.e.id) x.ids) c.self.view_is ∙ c.requires.fresh) in
    rw c.put.ensures.rows (private-put c.args.e rows c.self.inside.publics.rows c.self.invariant fresh c.if-e.false)

pub returns-then-e-clause-ids : goal.returns-then-e-clause-ids
returns-then-e-clause-ids c =
    ap screens_of c.put.ensures.rows ∙ put screens (record { e = c.args.e }) c.self.inside.rows.rows ∙ ap (λ (x : Ids). put_screen_id c.args.e x.ids) c.self.view_is

pub returns-else-e-clause-ids : goal.returns-else-e-clause-ids
returns-else-e-clause-ids c =
    ap screens_of c.put.ensures.rows ∙ put screens (record { e = c.args.e }) c.self.inside.rows.rows ∙ ap (λ (x : Ids). put_screen_id c.args.e x.ids) c.self.view_is
