use Rattle.std.proofs.Common.{◌==◌, find, sym, ap, ◌∙◌}
use Rattle.model_draw_parts.specs.declared.images.ImageId.{ImageId}
use Rattle.model_draw_parts.specs.images.Release.{is_image_id}
use Rattle.r9_ids.specs.declared.sorted.key.Key.{Key}
use Rattle.r9_ids.specs.sorted.Rows.{first_from}
use Rattle.r9_ids.specs.ids.ImageIds.{Ids}
use Rattle.r9_ids.specs.ids.Rows.{image_key}
use Rattle.r9_ids.proofs.ids.IdRows.{own-found, own-rest, own-there, own-past, own-none, is-own, is-other}
use Rattle.r9_ids.proofs.ids.Entries.{images}
use Rattle.r9_ids.proofs.ids.image_ids.ImageIds.first_of.Goals as goal

pub returns-in-None-clause-found : goal.returns-in-None-clause-found
returns-in-None-clause-found c =
    own-none images c.args.client c.self.inside.rows.rows (ap (λ (k : Key). first_from image_key k c.self.inside.rows.rows) (sym c.key_of_id.ensures) ∙ sym c.first_from.ensures.found ∙ c.in-None.is)
    ∙ ap (λ (x : Ids). find (λ (e : ImageId). e.client == c.args.client) x.ids) c.self.view_is

pub returns-then-row-client-clause-found : goal.returns-then-row-client-clause-found
returns-then-row-client-clause-found c =
    own-past images c.args.client c.self.inside.rows.rows c.in-Some.row c.first_from.ensures.order
    (ap (λ (k : Key). first_from image_key k c.self.inside.rows.rows) (sym c.key_of_id.ensures) ∙ sym c.first_from.ensures.found ∙ c.in-Some.is) (is-other _ _ c.if-row-client.true)
    ∙ ap (λ (x : Ids). find (λ (e : ImageId). e.client == c.args.client) x.ids) c.self.view_is

pub returns-else-row-client-clause-found : goal.returns-else-row-client-clause-found
returns-else-row-client-clause-found c =
    own-found images c.args.client c.self.inside.rows.rows c.in-Some.row c.first_from.ensures.order
    (ap (λ (k : Key). first_from image_key k c.self.inside.rows.rows) (sym c.key_of_id.ensures) ∙ sym c.first_from.ensures.found ∙ c.in-Some.is) (is-own _ _ c.if-row-client.false)
    ∙ ap (λ (x : Ids). find (λ (e : ImageId). e.client == c.args.client) x.ids) c.self.view_is

pub returns-else-row-client-clause-there : goal.returns-else-row-client-clause-there
returns-else-row-client-clause-there c =
    ap (λ (x : Ids). find (is_image_id c.in-Some.row.e.client c.in-Some.row.e.id) x.ids) (sym c.self.view_is)
    ∙ own-there images c.args.client c.self.inside.rows.rows c.in-Some.row c.first_from.ensures.order
    (ap (λ (k : Key). first_from image_key k c.self.inside.rows.rows) (sym c.key_of_id.ensures) ∙ sym c.first_from.ensures.found ∙ c.in-Some.is)

pub returns-else-row-client-clause-rest : goal.returns-else-row-client-clause-rest
returns-else-row-client-clause-rest c =
    own-rest images c.args.client c.self.inside.rows.rows c.in-Some.row c.args.self.now.ids (ap (λ (x : Ids). x.ids) c.self.view_is) c.first_from.ensures.order
    (ap (λ (k : Key). first_from image_key k c.self.inside.rows.rows) (sym c.key_of_id.ensures) ∙ sym c.first_from.ensures.found ∙ c.in-Some.is) (is-own _ _ c.if-row-client.false)
