-- Ids as rows.
use Rattle.std.specs.Prelude.{◌≡◌, ℕ, List, map, find, Option, Some, None, if◌then◌else◌}
use Rattle.r9_ids.specs.declared.sorted.key.Key.{Key}
use Rattle.r9_ids.specs.sorted.Order.{key}
use Rattle.r9_ids.specs.sorted.Rows.{has_key, Ascend}
use Rattle.model_draw_parts.specs.declared.images.ImageId.{ImageId}
use Rattle.model_draw_parts.specs.declared.images.ScreenId.{ScreenId}
use Rattle.r9_ids.specs.declared.ids.rows.ImageRow.{ImageRow}
use Rattle.r9_ids.specs.declared.ids.rows.ScreenRow.{ScreenRow}
use Rattle.r9_ids.specs.declared.ids.rows.PublicRow.{PublicRow}

abbrev pub image_key : ImageRow → Key
image_key row = key row.e.client row.e.id 0

abbrev pub images_of : List ImageRow → List ImageId
images_of rows = map (λ row. row.e) rows

abbrev pub screen_key : ScreenRow → Key
screen_key row = key row.e.client row.e.id 0

abbrev pub screens_of : List ScreenRow → List ScreenId
screens_of rows = map (λ row. row.e) rows

abbrev pub public_key : PublicRow → Key
public_key row = key row.e.id row.e.client 0

-- the row's id, where it is public
abbrev pub public_in : Option ScreenRow → Option PublicRow
public_in None = None
public_in (Some row) = if row.e.public then Some (record { e = row.e }) else None

-- the rows of the second table are the public ids of the first
pub record ArePublic (rows : List ScreenRow) (publics : List PublicRow) : Type 0 where
  pub order : Ascend screen_key rows
  pub found :
      (client id : ℕ)
      → find (has_key public_key (key id client 0)) publics ≡ public_in (find (has_key screen_key (key client id 0)) rows)
