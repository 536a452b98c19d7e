-- The files that are served (draw(3), rio(4)): their kinds, names and permissions.
use Rattle.std.specs.Prelude.{ℕ, ◌+◌, ◌*◌, ◌-◌, ◌/◌, ◌%◌, ◌^◌, ◌==◌, ◌&&◌, ◌||◌, Bool, not, nat_le, List, [], ◌∷◌, codes, if◌then◌else◌}
use Rattle.std.specs.List.{slice_index_or}
use Rattle.model_files.specs.wire.Message.{Qid}
use Rattle.model_files.specs.declared.tree.Kind.{Kind}
use Rattle.model_files.specs.declared.tree.Kind.TheVariants.{Device, Draw, New, Connection, Ctl, Data, Refresh, Mousein, Kbdin, Screen, Snarf, DeviceWctl, Wsys, Window, Cons, Consctl, Label, Mouse, Text, Wctl, Winid, Winname, Picture, Listed, Hwsize}

-- A file: its kind; the connection of a connection's directory and files; the serial of the window that it tells of, for
-- what belongs to a rio that of the rio's host; and the serial of the window whose attach led to it. 0 stands for none.
pub record Node : Type 0 where
  pub kind : Kind
  pub connection : ℕ
  pub serial : ℕ
  pub root : ℕ

-- of what there is one such file
pub data Owner : Type 0 where
  OfSession : Owner
  OfConnection : Owner
  OfRio : Owner
  OfWindow : Owner

-- what is fixed of a kind: its number, the name of its files, their permissions, and of what each is one
pub record Row : Type 0 where
  pub number : ℕ
  pub name : List ℕ
  pub mode : ℕ
  pub owner : Owner

abbrev pub directory_mode : ℕ
directory_mode = 0x8000016d

abbrev pub directory : ℕ → List ℕ → Owner → Row
directory number name owner = record { number = number; name = name; mode = directory_mode; owner = owner }

abbrev pub file : ℕ → List ℕ → ℕ → Owner → Row
file number name mode owner = record { number = number; name = name; mode = mode; owner = owner }

-- Each kind. A connection's directory and a listed window are named by their numbers instead.
unfoldable pub row : Kind → Row
row Device = directory 1 (codes "/") OfSession
row Draw = directory 2 (codes "draw") OfSession
row New = file 3 (codes "new") 0x180 OfSession
row Connection = directory 4 (codes "") OfConnection
row Ctl = file 5 (codes "ctl") 0x180 OfConnection
row Data = file 6 (codes "data") 0x180 OfConnection
row Refresh = file 7 (codes "refresh") 0x100 OfConnection
row Mousein = file 8 (codes "mousein") 0x80 OfSession
row Kbdin = file 9 (codes "kbdin") 0x80 OfSession
row Screen = file 10 (codes "screen") 0x100 OfRio
row Snarf = file 11 (codes "snarf") 0x180 OfRio
row DeviceWctl = file 12 (codes "wctl") 0x80 OfSession
row Wsys = directory 13 (codes "wsys") OfRio
row Window = directory 14 (codes "/") OfWindow
row Cons = file 15 (codes "cons") 0x180 OfWindow
row Consctl = file 16 (codes "consctl") 0x80 OfWindow
row Label = file 17 (codes "label") 0x180 OfWindow
row Mouse = file 18 (codes "mouse") 0x180 OfWindow
row Text = file 19 (codes "text") 0x100 OfWindow
row Wctl = file 20 (codes "wctl") 0x180 OfWindow
row Winid = file 21 (codes "winid") 0x100 OfWindow
row Winname = file 22 (codes "winname") 0x100 OfWindow
row Picture = file 23 (codes "window") 0x100 OfWindow
row Listed = directory 24 (codes "") OfWindow
row Hwsize = file 25 (codes "hwsize") 0x180 OfSession

-- the kinds in the order of their numbers, from 1 on
abbrev pub kinds : List Kind
kinds = Device ∷ Draw ∷ New ∷ Connection ∷ Ctl ∷ Data ∷ Refresh ∷ Mousein ∷ Kbdin ∷ Screen ∷ Snarf ∷ DeviceWctl
    ∷ Wsys ∷ Window ∷ Cons ∷ Consctl ∷ Label ∷ Mouse ∷ Text ∷ Wctl ∷ Winid ∷ Winname ∷ Picture ∷ Listed ∷ Hwsize ∷ []

-- the kind of a number
unfoldable pub kind_numbered : ℕ → Kind
kind_numbered number = slice_index_or kinds (number - 1) Device

abbrev pub is_directory_kind : Kind → Bool
is_directory_kind kind = (row kind).mode == directory_mode

abbrev pub is_directory : Node → Bool
is_directory node = is_directory_kind node.kind

-- The qid of a file. Its path names one file within a session.
unfoldable pub qid : Node → Qid
qid node = record {
  kind = if is_directory node then 0x80 else 0;
  vers = 0;
  path = (row node.kind).number + 64 * node.connection + 2 ^ 32 * node.serial;
}

-- whether a mode of open(5) is for reading, writing or both; 16 beside it has no meaning here
abbrev pub is_mode : ℕ → Bool
is_mode mode = nat_le mode 2 || (nat_le 16 mode && nat_le mode 18)

abbrev pub reads : ℕ → Bool
reads mode = (mode % 16 == 0) || (mode % 16 == 2)

abbrev pub writes : ℕ → Bool
writes mode = (mode % 16 == 1) || (mode % 16 == 2)

abbrev pub has : ℕ → ℕ → Bool
has mode bit = mode / bit % 2 == 1

-- whether the permissions of a file, its owner's, let it be opened so
unfoldable pub may : Node → ℕ → Bool
may node mode =
    let allowed = (row node.kind).mode in
    is_mode mode && (not (reads mode) || has allowed 0x100) && (not (writes mode) || has allowed 0x80)
