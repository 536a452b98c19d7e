use Rattle.std.proofs.Common.{◌≡◌, ◌*◌, ◌/◌, ◌^◌, ◌<◌}
use Rattle.std.specs.Option.{unwrap_or}
use Rattle.model_pixel.specs.Rows.{joined}
use Rattle.model_client.specs.cursor.Rows.{put_in}
use Rattle.r9_cursor.specs.Bytes.{old_bits}
use Rattle.r9_cursor.proofs.cursor.Cursor.small_byte.Given as goal

abbrev pub invariant-loop-i : goal.invariant-loop-i
invariant-loop-i l = record {
  value : l.byte ≡ joined l.self.depth (λ n. unwrap_or (put_in l.self.r l.self.chan l.self.at l.row n) (old_bits l.self.depth l.old n)) (l.k * (8 / l.self.depth)) l.i;
  range : l.byte < 2 ^ (l.self.depth * l.i);
}
