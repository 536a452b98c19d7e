-- A kind is found by its number.
use Rattle.std.proofs.Common.{◌≡◌, ◌<◌, ◌&&◌, ℕ, nat_le, refl}
use Rattle.std.proofs.lemmas.Bool.{agree_below_at}
use Rattle.model_files.specs.declared.tree.Kind.{Kind}
use Rattle.model_files.specs.declared.tree.Kind.TheVariants.{Device, Draw, New, Connection, Ctl, Data, Refresh, Mousein, Kbdin, Screen, Snarf, DeviceWctl, Wsys, Window, Cons, Consctl, Label, Mouse, Text, Wctl, Winid, Winname, Picture, Listed, Hwsize}
use Rattle.model_files.specs.tree.Node.{row, kind_numbered}
use Rattle.model_files.specs.tree.Tree.{is_of_connection}

pub kind_numbered_number : (kind : Kind) → kind_numbered (row kind).number ≡ kind
unfolding kind_numbered row
kind_numbered_number Device = refl
kind_numbered_number Draw = refl
kind_numbered_number New = refl
kind_numbered_number Connection = refl
kind_numbered_number Ctl = refl
kind_numbered_number Data = refl
kind_numbered_number Refresh = refl
kind_numbered_number Mousein = refl
kind_numbered_number Kbdin = refl
kind_numbered_number Screen = refl
kind_numbered_number Snarf = refl
kind_numbered_number DeviceWctl = refl
kind_numbered_number Wsys = refl
kind_numbered_number Window = refl
kind_numbered_number Cons = refl
kind_numbered_number Consctl = refl
kind_numbered_number Label = refl
kind_numbered_number Mouse = refl
kind_numbered_number Text = refl
kind_numbered_number Wctl = refl
kind_numbered_number Winid = refl
kind_numbered_number Winname = refl
kind_numbered_number Picture = refl
kind_numbered_number Listed = refl
kind_numbered_number Hwsize = refl

-- the kinds of a connection's directory and files have numbers of their own
pub of_connection_numbered : (n : ℕ) → n < 256 → (nat_le 4 n && nat_le n 7) ≡ is_of_connection (kind_numbered n)
unfolding kind_numbered row
of_connection_numbered n below =
    agree_below_at (λ k. nat_le 4 k && nat_le k 7) (λ k. is_of_connection (kind_numbered k)) 256 n refl below
