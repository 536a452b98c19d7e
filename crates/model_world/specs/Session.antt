-- What a server keeps of a session (intro(5)).
use Rattle.std.specs.Prelude.{ℕ, Bool, false, List, [], Option, None}
use Rattle.model_files.specs.tree.Node.{Node}

-- the stats of a directory's listing that are left, and the offset of the read that goes on with them (read(5))
pub record Kept : Type 0 where
  pub left : List (List ℕ)
  pub next : ℕ

-- a fid: its file, the mode that it is open with, what it keeps of a listing, and the text of `wctl` that it gave last
pub record Fid : Type 0 where
  pub node : Node
  pub mode : Option ℕ
  pub kept : Option Kept
  pub told : Option (List ℕ)

-- a fid that stands for a file and is not open
abbrev pub fid_at : Node → Fid
fid_at node = record { node = node; mode = None; kept = None; told = None }

-- a read that waits: its fid, and how many bytes it asks for
pub record Wait : Type 0 where
  pub fid : ℕ
  pub count : ℕ

-- The greatest size of a message; whether a version is agreed; the tag whose second use closed the session; the fids; the reads
-- that wait, by the tags of their messages in order of arrival; the connections to the draw device that live, in ascending order;
-- and how many it ever made, whose numbers are from 1 to that.
pub record Session : Type 0 where
  pub msize : ℕ
  pub agreed : Bool
  pub closed : Option ℕ
  pub fids : List (ℕ × Fid)
  pub waiting : List (ℕ × Wait)
  pub connections : List ℕ
  pub made : ℕ

-- the greatest size of a message that the server takes
abbrev pub max_msize : ℕ
max_msize = 65560

-- a session that has agreed on nothing
abbrev pub fresh : Session
fresh = record { msize = max_msize; agreed = false; closed = None; fids = []; waiting = []; connections = []; made = 0 }
