-- What clap's matches give.
use Rattle.std.specs.Prelude.{◌≡◌, ◌≤◌, ℕ, Bool, true, false, List, codes, length, Option, Some}
use Rattle.clap.specs.Walk.{Row, first_of, one_of}
use Rattle.r9_event.specs.declared.event.event.Opening.{Opening}
use Rattle.model_history.specs.words.Options.{or}
use Rattle.model_history.specs.words.Values.{IsOpening, counted}

abbrev pub IsDisplay : List Row → Opening → Type 0
IsDisplay rows opening = IsOpening (or (first_of (codes "size") rows) (codes "640x480")) (or (first_of (codes "chan") rows) (codes "x8r8g8b8")) opening

-- the flag is as the text tells, where it tells it
pub record Tells (text : Option (List ℕ)) (flag : Bool) : Type 0 where
  pub yes : text ≡ Some (codes "true") → flag ≡ true
  pub not_so : text ≡ Some (codes "false") → flag ≡ false

pub record IsReplayOf (rows : List Row) (opening : Opening) (screen : Bool) : Type 0 where
  pub opened : IsDisplay rows opening
  pub shown : Tells (one_of (codes "screen") rows) screen

-- the address that is given, of at most 255 bytes
pub record IsAddressOf (rows : List Row) (listen : List ℕ) : Type 0 where
  pub given : first_of (codes "listen") rows ≡ Some listen
  pub short : length listen ≤ 255

-- the number that is given under a name, from 1 to a most one
pub record IsCountOf (rows : List Row) (name : List ℕ) (most n : ℕ) : Type 0 where
  pub text : List ℕ
  pub given : first_of name rows ≡ Some text
  pub counts : counted most text ≡ Some n

pub record IsAloneOf (rows : List Row) (opening : Opening) (session : ℕ) : Type 0 where
  pub opened : IsDisplay rows opening
  pub chosen : IsCountOf rows (codes "conn") 4294967295 session

-- the number that is given under a name, from a least to a most one
pub record IsNumberOf (rows : List Row) (name : List ℕ) (least most n : ℕ) : Type 0 where
  pub count : IsCountOf rows name most n
  pub enough : least ≤ n

pub record IsTextOf (rows : List Row) (columns lines : ℕ) : Type 0 where
  pub wide : IsNumberOf rows (codes "cols") 4 200 columns
  pub high : IsNumberOf rows (codes "rows") 4 100 lines

pub record IsServeOf (rows : List Row) (opening : Opening) (listen : List ℕ) (workers conns : ℕ) : Type 0 where
  pub opened : IsDisplay rows opening
  pub address : IsAddressOf rows listen
  pub shared : counted 16 (or (first_of (codes "workers") rows) (codes "1")) ≡ Some workers
  pub connections : IsCountOf rows (codes "conns") 100000 conns
