-- What a mirror reads and puts out.
use Rattle.std.specs.Prelude.{◌≡◌, ℕ, List, ◌++◌, Option}
use Rattle.r9_event.specs.declared.event.event.Event.{Event}
use Rattle.r9_event.specs.declared.event.event.Opening.{Opening}
use Rattle.r9_outside.specs.outside.Sink.{AppendsPart}
use Rattle.r9_serve.specs.replay.Replays.{HadRecord}
use Rattle.model_mirror.specs.Mirror.{AreFramesOf}

-- The input had the record of a history, and these are its frames.
pub record AreFrames (opening : Opening) (left : Option (List ℕ)) (frames : List ℕ) : Type 0 where
  pub events : List Event
  pub had : HadRecord left events
  pub are : AreFramesOf opening events frames

-- The input had the record of a history, and these are the frames of its first events.
pub record AreFirstFrames (opening : Opening) (left : Option (List ℕ)) (frames : List ℕ) : Type 0 where
  pub events : List Event
  pub later : List Event
  pub had : HadRecord left (events ++ later)
  pub are : AreFramesOf opening events frames

-- out has a front of such frames more, which may be empty
pub record HasPutFirst (opening : Opening) (left before after : Option (List ℕ)) : Type 0 where
  pub frames : List ℕ
  pub are : AreFirstFrames opening left frames
  pub appended : AppendsPart before frames after

-- out has a front more, which may be empty, of the frames of the first of these events
pub record HasPutFront (opening : Opening) (all : List Event) (before after : Option (List ℕ)) : Type 0 where
  pub events : List Event
  pub later : List Event
  pub frames : List ℕ
  pub whole : events ++ later ≡ all
  pub are : AreFramesOf opening events frames
  pub appended : AppendsPart before frames after
