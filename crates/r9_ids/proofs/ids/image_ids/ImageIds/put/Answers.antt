use Rattle.std.proofs.Common.{find, ap, ◌∙◌}
use Rattle.model_draw_parts.specs.images.Book.{put_image_id}
use Rattle.model_draw_parts.specs.images.Release.{is_image_id}
use Rattle.r9_ids.specs.ids.ImageIds.{Ids}
use Rattle.r9_ids.specs.ids.Rows.{images_of}
use Rattle.r9_ids.proofs.ids.IdRows.{absent, put}
use Rattle.r9_ids.proofs.ids.Entries.{images}
use Rattle.r9_ids.proofs.ids.image_ids.ImageIds.put.Goals as goal

pub put-requires-clause-absent : goal.put-requires-clause-absent
put-requires-clause-absent c =
    absent images c.args.e.client c.args.e.id c.self.inside.rows.rows (ap (λ (x : Ids). find (is_image_id c.args.e.client c.args.e.id) x.ids) c.self.view_is ∙ c.requires.fresh)

pub returns-clause-ids : goal.returns-clause-ids
returns-clause-ids c =
    ap images_of c.put.ensures.rows ∙ put images (record { e = c.args.e }) c.self.inside.rows.rows ∙ ap (λ (x : Ids). put_image_id c.args.e x.ids) c.self.view_is
