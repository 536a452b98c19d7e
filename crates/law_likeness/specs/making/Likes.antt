-- Images and screens that come to be the same in two draw devices, and go.
use Rattle.std.specs.Prelude.{◌≡◌, ◌==◌, ℕ, false, List, [], ◌∷◌, Option, Some}
use Rattle.model_draw_parts.specs.dmsg.Message.{Message, LowB, UpA, LowC, LowD, UpD, LowF, UpF, LowI, LowL, UpN, LowN, LowO, UpO, LowR, LowS, UpS, LowT, LowV, LowX, LowY}
use Rattle.model_draw.specs.draw.World.{World}
use Rattle.model_draw.specs.draw.Making.{flag}
use Rattle.law_likeness.specs.renamed.Renamed.{And, But}
use Rattle.law_likeness.specs.likeness.Likeness.{AreLike}

-- two things came that are the same, or those went of which this is the first
pub data Change : Type 0 where
  Came : (left right : ℕ) → Change
  Went : (left : ℕ) → Change

-- what is the same after some changes, the last one first
abbrev pub Matched : List Change → ℕ → ℕ → Type 0
Matched [] i j = ⊥
Matched (Came m n ∷ changes) i j = And (Matched changes) m n i j
Matched (Went m ∷ changes) i j = But (Matched changes) m i j

-- The devices are the same to the session's connections by some changes of images and of screens.
pub record IsLike (c : ℕ) (window : Option (ℕ × List ℕ)) (a b : World) : Type 0 where
  pub images : List Change
  pub screens : List Change
  pub like : AreLike (Matched images) (Matched screens) c window a b

-- the id is not the display's
abbrev pub IsOther : ℕ → Type 0
IsOther id = (id == 0) ≡ false

abbrev pub AreOther : List ℕ → Type 0
AreOther [] = Unit {0}
AreOther (id ∷ ids) = IsOther id × AreOther ids

-- A message of a session that is alone names no image of others and shares none of its own.
abbrev pub IsOwn : (window : Option (ℕ × List ℕ)) → Message → Type 0
IsOwn window (LowB id screenid refresh chan repl r clipr color) = Unit {0}
IsOwn window (UpA id imageid fillid public) = IsOther imageid × IsOther fillid × (flag public ≡ false)
IsOwn window (LowC dstid repl clipr) = IsOther dstid
IsOwn window (LowD dstid srcid maskid dstr srcp maskp) = IsOther dstid × IsOther srcid × IsOther maskid
IsOwn window (UpD debug) = Unit {0}
IsOwn window (LowF id) = IsOther id
IsOwn window (UpF id) = Unit {0}
IsOwn window (LowI id n ascent) = IsOther id
IsOwn window (LowL cacheid srcid index r sp left width) = IsOther cacheid × IsOther srcid
IsOwn window (UpN id tied name) = ⊥
IsOwn window (LowN id name) = (serial : ℕ) × (window ≡ Some (serial, name))
IsOwn window (LowO id rmin scr) = IsOther id
IsOwn window (UpO op) = Unit {0}
IsOwn window (LowR id r) = IsOther id
IsOwn window (LowS writing) = IsOther writing.dstid × IsOther writing.srcid × IsOther writing.fontid
IsOwn window (UpS id chan) = ⊥
IsOwn window (LowT top ids) = AreOther ids
IsOwn window LowV = Unit {0}
IsOwn window (LowX writing bgid bgp) = IsOther writing.dstid × IsOther writing.srcid × IsOther writing.fontid × IsOther bgid
IsOwn window (LowY id r) = IsOther id
