-- What becomes of one message.
use Rattle.std.specs.Prelude.{◌≡◌, ◌≢◌, ◌+◌, ◌<◌, ◌≤◌, ◌⊎◌, ◌++◌, ℕ, Bool, true, false, List, [], ◌∷◌, length, drop, None, Ok, Err, is_ok, IsSome}
use Rattle.model_text.specs.text.Map.{lookup}
use Rattle.model_draw_parts.specs.dmsg.Message.{Message, LowY}
use Rattle.model_draw.specs.draw.World.{World}
use Rattle.model_draw.specs.draw.Act.{one_message, no_memory}
use Rattle.model_draw.specs.draw.Memory.{MayRunOut}
use Rattle.model_draw.specs.looked.Rows.{rows_first}
use Rattle.model_draw.specs.cost.Cost.{first_cost}
use Rattle.r9_draw.specs.declared.draw.message.Step.{Step}
use Rattle.r9_draw.specs.declared.draw.message.Step.TheVariants.{Done, Refused, Short}

pub record IsDone (k : ℕ) (before : World) (bytes : List ℕ) (marked : Bool) (len : ℕ) (after : World) : Type 0 where
  pub done : one_message k before None 0 bytes ≡ Ok (after, drop len bytes)
  pub some : 0 < len
  pub within : len ≤ length bytes
  pub unmarked : marked ≡ false
  pub live : IsSome (lookup after.clients k)

pub record IsRefused (k : ℕ) (before : World) (bytes : List ℕ) (refusal : ℕ) (after : World) : Type 0 where
  pub refused : one_message k before None 0 bytes ≡ Err refusal
  pub other : refusal ≢ no_memory
  pub kept : after ≡ before

pub record IsShortOf (k : ℕ) (before : World) (bytes : List ℕ) (marked : Bool) (after : World) : Type 0 where
  pub accepted : is_ok (one_message k before None 0 bytes) ≡ true
  pub cause : (marked ≡ true) ⊎ MayRunOut k before bytes 0
  pub kept : after ≡ before

-- the first of these bytes' messages, and the world after it
abbrev pub IsStep : ℕ → World → List ℕ → Bool → Step → World → Type 0
IsStep k before bytes marked (Done len) after = IsDone k before bytes marked len after
IsStep k before bytes marked (Refused refusal) after = IsRefused k before bytes refusal after
IsStep k before bytes marked Short after = IsShortOf k before bytes marked after

-- ---- the rows of a `y`

-- a message's rows have this length, where it is a `y`
abbrev pub rows_by : Message → (len : ℕ) → List ℕ
rows_by (LowY id r) len = len ∷ []
rows_by m len = []

-- the length of the rows of the first of these bytes' messages was added, where it is a `y` that was done
abbrev pub HasRows : ℕ → World → List ℕ → Step → (before after : List ℕ) → Type 0
HasRows k world bytes (Done len) before after = after ≡ before ++ rows_first k world bytes
HasRows k world bytes step before after = after ≡ before

-- ---- the cost

-- no more pixels were written than the first of these bytes' messages costs, where it is done, and none where it is not
abbrev pub IsCounted : ℕ → World → List ℕ → Step → (before after : ℕ) → Type 0
IsCounted k world bytes (Done len) before after = after ≤ before + first_cost k world bytes
IsCounted k world bytes step before after = after ≡ before
