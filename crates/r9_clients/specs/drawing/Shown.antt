-- The code's places, areas and strings as those of the definitions.
use Rattle.std.specs.Prelude.{pos, List, ℕ}
use Rattle.r9_geom.specs.declared.Point.{Point}
use Rattle.r9_geom.specs.declared.Rect.{Rect}
use Rattle.model_draw_parts.specs.dmsg.Message as dmsg
use Rattle.model_clients.specs.page.Text.{box}
use Rattle.r9_clients.specs.declared.drawing.fields.Place.{Place}
use Rattle.r9_clients.specs.declared.drawing.fields.Area.{Area}
use Rattle.r9_clients.specs.declared.drawing.messages.Writing.{Writing}

abbrev pub point_of : Place → Point
point_of p = record { x = pos p.x; y = pos p.y }

abbrev pub rect_of : Area → Rect
rect_of r = box r.left r.upper r.right r.lower

abbrev pub writing_of : Writing → List ℕ → dmsg.Writing
writing_of w indices = record {
  dstid = w.dst;
  srcid = w.src;
  fontid = w.font;
  p = point_of w.p;
  clipr = rect_of w.clipr;
  sp = point_of w.sp;
  indices = indices;
}
