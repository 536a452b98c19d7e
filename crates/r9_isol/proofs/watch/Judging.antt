-- What uses show, one after the other.
use Rattle.std.proofs.Common.{◌≡◌, ℕ, Bool, List, Option}
use Rattle.std.specs.List.{fold}
use Rattle.r9_event.specs.declared.event.own.Use.{Use}
use Rattle.model_alone.specs.alone.Own.{Watched, after_use, reasons_from}
use Rattle.r9_isol.specs.watch.Words.{least, least_of}

-- the uses that are left, and what was found of those before them, make what all uses make
pub record Goes (own : Bool) (first : Watched) (uses : List Use) (seen : Watched) (reason : Option ℕ) (later : List Use) : Type 0 where
  pub seen_is : fold (after_use own) seen later ≡ fold (after_use own) first uses
  pub reason_is : least reason (least_of (reasons_from own seen later)) ≡ least_of (reasons_from own first uses)
