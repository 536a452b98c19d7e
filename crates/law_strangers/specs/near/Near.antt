-- What notes tell that stay near.
use Rattle.r9_geom.specs.Geometry.{IsRectNear}
use Rattle.r9_event.specs.declared.event.rio.Note.{Note}
use Rattle.r9_event.specs.declared.event.rio.Note.TheVariants as note

-- the rectangle of which a note tells, if it tells of one, is near
abbrev pub IsNearNote : Note → Type 0
IsNearNote (note.Made number serial name r depth) = IsRectNear r
IsNearNote (note.Moved name r) = IsRectNear r
IsNearNote (note.Resized name r) = IsRectNear r
IsNearNote _ = Unit {0}
