-- The pixels of a window that comes.
use Rattle.std.specs.Prelude.{ℕ}
use Rattle.r9_geom.specs.declared.Point.{Point}
use Rattle.r9_put.specs.declared.fills.gathered.Content.{Content}
use Rattle.r9_put.specs.declared.fills.gathered.Content.TheVariants.{Shown, Plain}
use Rattle.r9_put.specs.fills.Gathered.{pictured}

abbrev pub content : Content → Point → ℕ
content (Shown picture) p = pictured picture p
content (Plain raw) p = raw
