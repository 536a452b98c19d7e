-- Replies that joined bytes hold.
use Rattle.std.specs.Prelude.{◌≡◌, ◌≤◌, ℕ, List, [], ◌∷◌, length, take, drop}
use Rattle.r9_event.specs.declared.event.event.Reply.{Reply}
use Rattle.r9_serve.specs.declared.replay.log.Mark.{Mark}

-- one after the other, each as long as its mark says
abbrev pub cut_replies : List Mark → List ℕ → List Reply
cut_replies [] bytes = []
cut_replies (mark ∷ marks) bytes = record { session = mark.session; bytes = take mark.len bytes } ∷ cut_replies marks (drop mark.len bytes)

-- the marks reach to the end of the bytes
abbrev pub AreCut : List Mark → List ℕ → Type 0
AreCut [] bytes = bytes ≡ []
AreCut (mark ∷ marks) bytes = (mark.len ≤ length bytes) × AreCut marks (drop mark.len bytes)
