-- What an outside leaves the draw device that stands in it: its connections, but for those that a session begins and ends.
use Rattle.std.proofs.Common.{◌≡◌, ℕ, Bool, true, false, List, [], ◌∷◌, Option, refl, ap, ◌∙◌}
use Rattle.std.specs.Prelude.{is_some, if◌then◌else◌}
use Rattle.std.specs.List.{fold}
use Rattle.model_history.specs.declared.words.Size.{Size}
use Rattle.model_files.specs.declared.mouse.Mouse.{Mouse as Pointer}
use Rattle.model_files.specs.declared.tree.Kind.TheVariants as kind
use Rattle.model_files.specs.tree.Attach.{Attach}
use Rattle.model_files.specs.tree.Node.{Node}
use Rattle.model_rio.specs.window.Heard.{Heard, ConsctlHeld, MouseHeld}
use Rattle.model_draw.specs.draw.World as draw
use Rattle.model_world.specs.Session.{Fid}
use Rattle.model_world.specs.Outside.{Outside}
use Rattle.model_world.specs.Fids.{is_kind, let_go, with_held}
use Rattle.model_world.specs.Whole.{client}
use Rattle.model_world.proofs.Others.{IsOther, IsTold}
use Rattle.model_world.proofs.Connections.{numbers_of}
use Rattle.model_world.proofs.Links.{leaves}

-- `device` is the draw device in a state of the outside of session c.
module _ {S : Type 0} (c : ℕ) (outside : Outside S) (device : S → draw.World) where
  -- the device has the same connections
  abbrev pub IsSame : S → S → Type 0
  IsSame before after = numbers_of (device after) ≡ numbers_of (device before)

  abbrev pub IsMadeSame : S → S × ℕ → Type 0
  IsMadeSame rest made = IsSame rest made.0

  abbrev pub IsReadSame : S → List ℕ × S → Type 0
  IsReadSame rest got = IsSame rest got.1

  -- Each call keeps them, and is not refused for want of memory.
  pub record KeepsConnections : Type 0 where
    pub attached : (rest : S) (asked : Attach) → IsOther (IsMadeSame rest) (outside.attached rest asked)
    pub left : (rest : S) (windows : List ℕ) → IsSame rest (outside.left rest windows)
    pub hear : (rest : S) (window : ℕ) (h : Heard) → IsSame rest (outside.hear rest window h)
    pub command : (rest : S) (window : ℕ) (text : List ℕ) → IsOther (IsSame rest) (outside.command rest window text)
    pub device_command : (rest : S) (text : List ℕ) → IsOther (IsSame rest) (outside.device_command rest text)
    pub mouse : (rest : S) (e : Pointer) → IsSame rest (outside.mouse rest e)
    pub keys : (rest : S) (typed : List ℕ) → IsSame rest (outside.keys rest typed)
    pub with_size : (rest : S) (size : Size) → IsOther (IsSame rest) (outside.with_size rest size)
    pub with_snarf : (rest : S) (host : ℕ) (bytes : List ℕ) → IsSame rest (outside.with_snarf rest host bytes)
    pub connect : (rest : S) (n : ℕ) → device (outside.connect rest n) ≡ draw.after_connect (device rest) (client c n)
    pub leave : (rest : S) (n : ℕ) → device (outside.leave rest n) ≡ draw.after_leave (device rest) (client c n)
    pub write_data : (rest : S) (n : ℕ) (bytes : List ℕ) (mark : Option ℕ) → IsSame rest (outside.write_data rest n bytes mark).0
    pub read_data : (rest : S) (n most : ℕ) → IsOther (IsReadSame rest) (outside.read_data rest n most)
    pub read_ctl : (rest : S) (n : ℕ) → IsTold (outside.read_ctl rest n)
    pub write_ctl : (rest : S) (n : ℕ) (bytes : List ℕ) → IsOther (IsSame rest) (outside.write_ctl rest n bytes)

  module _ (keeps : KeepsConnections) where
    -- the files that one fid at a time has open
    pub held_same : (held : Bool) (rest : S) (node : Node) → IsSame rest (with_held outside held rest node)
    held_same held rest node = by (is_kind kind.Mouse node.kind) (is_kind kind.Consctl node.kind)
      where
        by : (a b : Bool) → IsSame rest (if a then outside.hear rest node.serial (MouseHeld held) else if b then outside.hear rest node.serial (ConsctlHeld held) else rest)
        by true b = keeps.hear rest node.serial (MouseHeld held)
        by false true = keeps.hear rest node.serial (ConsctlHeld held)
        by false false = refl

    let_go_same : (rest : S) (fid : Fid) → IsSame rest (let_go outside rest fid)
    let_go_same rest fid = by (is_some fid.mode)
      where
        by : (b : Bool) → IsSame rest (if b then with_held outside false rest fid.node else rest)
        by true = held_same false rest fid.node
        by false = refl

    pub all_let_go_same : (gone : List Fid) (rest : S) → IsSame rest (fold (let_go outside) rest gone)
    all_let_go_same [] rest = refl
    all_let_go_same (fid ∷ gone) rest = all_let_go_same gone (let_go outside rest fid) ∙ let_go_same rest fid

    -- some of the session's connections end
    pub device_left : (gone : List ℕ) (rest : S) → device (fold outside.leave rest gone) ≡ fold (leaves c) (device rest) gone
    device_left [] rest = refl
    device_left (n ∷ ns) rest = device_left ns (outside.leave rest n) ∙ ap (λ (d : draw.World). fold (leaves c) d ns) (keeps.leave rest n)
