-- What can be looked at is painted.
use Rattle.std.proofs.Common.{◌≡◌, ℕ, Option, Some, None, refl, ap}
use Rattle.std.specs.Prelude.{option_map}
use Rattle.std.specs.Option.{option_map_or}
use Rattle.model_draw_parts.specs.declared.images.ImageId.{ImageId}
use Rattle.model_draw_parts.specs.images.Book.{image_id}
use Rattle.model_pixel.specs.Channels.{depth}
use Rattle.model_pixel.specs.Rows.{rows_of}
use Rattle.model_draw.specs.imgfile.ImageFile.{image_file}
use Rattle.model_forest.specs.Paint.{paint}
use Rattle.model_draw.specs.draw.World.{World, at_number}
use Rattle.model_draw.specs.draw.Files.{screen_file}
use Rattle.model_draw.specs.draw.Orders.{picture_of}
use Rattle.r9_device.specs.device.Kept.{IsKept}
use Rattle.r9_draw.specs.draw.Shown.{picture_in, shown_in}
use Rattle.r9_draw.specs.declared.draw.shown.Shown.{Shown}
use Rattle.r9_draw.specs.declared.draw.shown.Shown.TheVariants.{Display, Window}

-- what 0 shows is the display
shown-is : (o : Option ImageId) (i : ℕ) → option_map (λ e. e.image) o ≡ Some i → option_map_or (λ e. e.image) o 0 ≡ i
shown-is (Some x) i e = cc
shown-is None i e = absurd cc

pub display-picture : (w : World) → IsKept w.images w.book → picture_of w 0 ≡ screen_file w
unfolding picture_of screen_file
display-picture w kept =
    ap (λ (i : ℕ). image_file (at_number w i).chan (at_number w i).r (rows_of (at_number w i).r (depth (at_number w i).chan) (paint w.images i))) (shown-is (image_id w.book 0 0) 0 kept.display)

-- what can be looked at is painted
pub picture-painted : (w : World) (s : Shown) → picture_in w s ≡ image_file (at_number w (shown_in w s)).chan (at_number w (shown_in w s)).r (rows_of (at_number w (shown_in w s)).r (depth (at_number w (shown_in w s)).chan) (paint w.images (shown_in w s)))
unfolding picture_of screen_file
picture-painted w Display = refl
picture-painted w (Window serial) = refl
