-- What a mirror of a history puts out.
use Rattle.std.specs.Prelude.{◌≡◌, ◌+◌, ◌≤◌, ◌==◌, ◌&&◌, ◌++◌, ℕ, Bool, true, not, List, [], ◌∷◌, length, Some, Ok}
use Rattle.r9_event.specs.declared.event.event.Event.{Event}
use Rattle.r9_event.specs.declared.event.event.Opening.{Opening}
use Rattle.model_client.specs.mirror.Picture.{Picture}
use Rattle.model_client.specs.mirror.Frames.{viewer}
use Rattle.model_world.specs.Replay.{replay, step}
use Rattle.model_mirror.specs.Shown.{mirrored}
use Rattle.model_mirror.specs.Sent.{sent_of}
use Rattle.model_mirror.specs.Frame.{IsEntry, IsFrame}

-- whether two pictures differ in size
abbrev pub is_resized : (before after : Picture) → Bool
is_resized before after = not ((before.width == after.width) && (before.height == after.height))

-- a viewer of these frames shows the display to which events lead, with the cursor over it
abbrev pub Shows : Opening → List Event → (frames : List ℕ) → Type 0
Shows opening events frames = viewer opening.chan frames ≡ Ok (Some (mirrored (replay opening events)))

-- These frames are those of a history so far. Frame 0 has each cell. After entry K there is a frame, or nothing: it has at most so many
-- cells as the entry may write pixels, and 8; with it a viewer shows the display after that entry.
pub data AreFramesOf (opening : Opening) : List Event → (frames : List ℕ) → Type 0 where
  begins :
      (frames : List ℕ)
      → IsFrame opening.chan 0 true (mirrored (replay opening [])) (λ column row. true) frames
      → Shows opening [] frames
      → AreFramesOf opening [] frames
  goes_on :
      (events : List Event) (event : Event) (frames entry : List ℕ) (sent : (column row : ℕ) → Bool)
      → AreFramesOf opening events frames
      → IsEntry opening.chan (length events + 1) (is_resized (mirrored (replay opening events)) (mirrored (replay opening (events ++ event ∷ []))))
      (mirrored (replay opening (events ++ event ∷ []))) sent entry
      → sent_of (mirrored (replay opening (events ++ event ∷ []))) sent ≤ (step (replay opening events) event).cost + 8
      → Shows opening (events ++ event ∷ []) (frames ++ entry)
      → AreFramesOf opening (events ++ event ∷ []) (frames ++ entry)
