-- What a table ends as, once a `&mut` into it has ended.
use Rattle.std.specs.Prelude.{ℕ, List, Option}
use Rattle.std.specs.Borrow.{LendsIf, Fml, RattleType, MutBor}
use Rattle.std.specs.Map.{set_value}
use Rattle.r9_fids.specs.Fids.{is_fid}
use Rattle.r9_fids.specs.contracts.table.FidTable.{the_row}

-- the fid is bound to the last value written through r, and where r is None the table stays as it is
abbrev pub LendsFile : (F : RattleType) → MutBor (List (ℕ × F.Denot)) → ℕ → Option (MutBor F.Denot) → Fml
LendsFile F s fid r = LendsIf (the_row F) F s r (set_value (is_fid fid) s.now) s.now
