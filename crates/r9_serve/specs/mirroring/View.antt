-- What a mirror has done so far.
use Rattle.std.specs.Prelude.{◌≡◌, ◌*◌, ◌≤◌, ℕ, Bool, true, false, List, Option}
use Rattle.model_client.specs.mirror.Picture.{Picture}
use Rattle.model_mirror.specs.Frame.{IsEntry}
use Rattle.model_mirror.specs.Mirror.{is_resized}
use Rattle.model_mirror.specs.Pictures.{IsSameWhereUnsent}
use Rattle.model_mirror.specs.Sent.{sent_of}
use Rattle.r9_hall.specs.hall.Marks.{Display}
use Rattle.r9_outside.specs.outside.Sink.{Appends, AppendsPart}

-- no cell is marked
pub record IsUnmarked (display : Display) : Type 0 where
  pub marked : (column row : ℕ) → display.marked column row ≡ false
  pub count : display.count ≡ 0

-- An entry that made a picture of another size cost a pixel at least for each of its pixels.
abbrev pub IsPaid : (before after : Picture) (cost : ℕ) → Type 0
IsPaid before after cost = is_resized before after ≡ true → after.width * after.height ≤ cost

-- After an entry this was put out: at most so many cells; and where the size is as before, what was not sent is as before.
pub record IsSent (chan number most : ℕ) (before after : Picture) (text : List ℕ) : Type 0 where
  pub sent : (column row : ℕ) → Bool
  pub entry : IsEntry chan number (is_resized before after) after sent text
  pub few : sent_of after sent ≤ most
  pub all : is_resized before after ≡ true → sent ≡ (λ column row. true)
  pub same : is_resized before after ≡ false → IsSameWhereUnsent sent before after

-- a text that is so was put
pub record HasPut (IsSo : List ℕ → Type 0) (before after : Option (List ℕ)) : Type 0 where
  pub text : List ℕ
  pub is_so : IsSo text
  pub appended : Appends before text after

-- a front of a text that is so was put, which may be empty
pub record HasPutPart (IsSo : List ℕ → Type 0) (before after : Option (List ℕ)) : Type 0 where
  pub text : List ℕ
  pub is_so : IsSo text
  pub appended : AppendsPart before text after
