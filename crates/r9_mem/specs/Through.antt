-- What rows of one drawing through one mask pixel are told once.
use Rattle.std.specs.Prelude.{◌≡◌, ℕ, true}
use Rattle.model_pixel.specs.Channels.{expand, pack}
use Rattle.model_pixel.specs.Composition.{composed_raw}
use Rattle.r9_chan.specs.Op.{number}
use Rattle.r9_mem.specs.declared.single.Through.{Through}

-- whether it serves the rows of a drawing of these channels, by the operator of this number, through mask pixel m
pub record IsThrough (t : Through) (dst : ℕ) (src : ℕ) (chan : ℕ) (op : ℕ) (m : ℕ) : Type 0 where
  pub composed : (s d : ℕ) → composed_raw t.dst t.src t.grey (number t.op) s t.value d ≡ composed_raw dst src chan op s m d
  pub moved : t.moved ≡ true → (s d : ℕ) → pack t.dst (expand t.src s) ≡ composed_raw dst src chan op s m d
