-- The kinds of ids.
use Rattle.std.proofs.Common.{refl}
use Rattle.model_draw_parts.specs.declared.images.ImageId.{ImageId}
use Rattle.model_draw_parts.specs.declared.images.ScreenId.{ScreenId}
use Rattle.model_draw_parts.specs.images.Book.{put_image_id, put_screen_id}
use Rattle.r9_ids.specs.declared.ids.rows.ImageRow.{ImageRow}
use Rattle.r9_ids.specs.declared.ids.rows.ScreenRow.{ScreenRow}
use Rattle.r9_ids.proofs.ids.IdRows.{Kind}

abbrev pub images : Kind ImageRow ImageId
images = record {
  entry = λ row. row.e;
  client = λ e. e.client;
  id = λ e. e.id;
  put_id = put_image_id;
  put_none = λ e. refl;
  put_some = λ e x xs. refl;
}

abbrev pub screens : Kind ScreenRow ScreenId
screens = record {
  entry = λ row. row.e;
  client = λ e. e.client;
  id = λ e. e.id;
  put_id = put_screen_id;
  put_none = λ e. refl;
  put_some = λ e x xs. refl;
}
