-- The ids of a connection from one on.
use Rattle.std.specs.Prelude.{ℕ, ◌==◌, ◌&&◌, List, filter, nat_le}
use Rattle.model_draw_parts.specs.declared.images.ImageId.{ImageId}
use Rattle.model_draw_parts.specs.declared.images.ScreenId.{ScreenId}

abbrev pub images_from : (client from : ℕ) → List ImageId → List ImageId
images_from client from ids = filter (λ e. (e.client == client) && nat_le from e.id) ids

abbrev pub screens_from : (client from : ℕ) → List ScreenId → List ScreenId
screens_from client from ids = filter (λ e. (e.client == client) && nat_le from e.id) ids
