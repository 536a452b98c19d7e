-- The record: one session makes the windows, and then so many messages act on them.
use Rattle.std.specs.Prelude.{ℕ, ◌+◌, ◌-◌, ◌*◌, ◌^◌, pos, neg_ℤ, List, [], ◌∷◌, ◌++◌, codes, map, None}
use Rattle.model_history.specs.declared.generator.Area.{Area}
use Rattle.r9_event.specs.declared.event.event.Event.{Event}
use Rattle.r9_event.specs.declared.event.event.Event.TheVariants.{Begin, Msg, End}
use Rattle.model_files.specs.wire.Message.{T, Tversion, Tattach, Twalk, Topen, Twrite, no_tag, no_fid}
use Rattle.model_files.specs.wire.Spelling.{spelling_of_t}
use Rattle.model_history.specs.generator.Bytes.{allocate, make_screen}
use Rattle.model_history.specs.generator.Desk.{corner, messages, start, window_at}

-- one pixel, and all of the plane as far as it matters
abbrev pub one_pixel : Area
one_pixel = record { min = record { x = pos 0; y = pos 0 }; max = record { x = pos 1; y = pos 1 } }

abbrev pub everywhere : Area
everywhere = record {
  min = record { x = neg_ℤ (pos 0x3fffffff); y = neg_ℤ (pos 0x3fffffff) };
  max = record { x = pos 0x3fffffff; y = pos 0x3fffffff };
}

-- k1 and x8r8g8b8
abbrev pub grey1 : ℕ
grey1 = 0x31

abbrev pub rgb24 : ℕ
rgb24 = 0x68081828

-- an image of one pixel that repeats
unfoldable pub pixel : (id chan color : ℕ) → List ℕ
pixel id chan color = allocate id 0 chan 1 one_pixel everywhere color

-- a window of the staircase, the redder and the less blue the further down
unfoldable pub window : ℕ → List ℕ
window i = allocate (10 + i) 1 rgb24 0 (window_at (corner i)) (window_at (corner i)) (2 ^ 24 * (32 * i) + 2 ^ 8 * (255 - 32 * i) + 255)

-- the full mask, the screen's fill, four colours, the screen, eight windows
unfoldable pub making : List ℕ
making =
    pixel 1 grey1 0xffffffff ++ pixel 2 rgb24 0x336699ff ++ pixel 20 rgb24 0xff0000ff ++ pixel 21 rgb24 0x00ff00ff ++ pixel 22 rgb24 0x0000ffff
    ++ pixel 23 rgb24 0x808080ff ++ make_screen 1 0 2 ++ window 0 ++ window 1 ++ window 2 ++ window 3 ++ window 4 ++ window 5 ++ window 6 ++ window 7

abbrev pub write : List ℕ → T
write bytes = Twrite 1 2 0 bytes

-- the session begins, and opens the data file of its first connection as fid 2
abbrev pub opening : List T
opening =
    Tversion no_tag 65560 (codes "9P2000")
    ∷ Tattach 1 0 no_fid [] []
    ∷ Twalk 1 0 1 (codes "draw" ∷ codes "new" ∷ [])
    ∷ Topen 1 1 2
    ∷ Twalk 1 0 2 (codes "draw" ∷ codes "1" ∷ codes "data" ∷ [])
    ∷ Topen 1 2 2
    ∷ []

-- what the session sends
abbrev pub sent : ℕ → List T
sent n = opening ++ map write (making ∷ messages n (start n))

abbrev pub message_event : T → Event
message_event m = Msg 1 (spelling_of_t m) None

-- the record that the number n gives
abbrev pub generated : ℕ → List Event
generated n = Begin 1 ∷ (map message_event (sent n) ++ End 1 ∷ [])
