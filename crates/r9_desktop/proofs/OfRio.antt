-- What belongs to a rio, by its kind.
use Rattle.std.proofs.Common.{◌≡◌, Bool, true, false, refl}
use Rattle.std.specs.Option.{option_map_or}
use Rattle.model_rio.specs.rio.Table.{Table, window_of}
use Rattle.model_files.specs.declared.tree.Kind.{Kind}
use Rattle.model_files.specs.declared.tree.Kind.TheVariants.{Device, Draw, New, Connection, Ctl, Data, Refresh, Mousein, Kbdin, Screen, Snarf, DeviceWctl, Wsys, Window, Cons, Consctl, Label, Mouse, Text, Wctl, Winid, Winname, Picture, Listed, Hwsize}
use Rattle.model_files.specs.tree.Node.{Node, row}
use Rattle.model_world.specs.Whole.{host_by}
use Rattle.r9_desktop.specs.Words.{is_of_rio}

pub host-rio : (table : Table) (node : Node) (kind : Kind) → is_of_rio kind ≡ true → node.serial ≡ host_by table node kind
unfolding row
host-rio table node Device e = absurd (let f : ◌≡◌ {A = Bool} false true = e in cc)
host-rio table node Draw e = absurd (let f : ◌≡◌ {A = Bool} false true = e in cc)
host-rio table node New e = absurd (let f : ◌≡◌ {A = Bool} false true = e in cc)
host-rio table node Connection e = absurd (let f : ◌≡◌ {A = Bool} false true = e in cc)
host-rio table node Ctl e = absurd (let f : ◌≡◌ {A = Bool} false true = e in cc)
host-rio table node Data e = absurd (let f : ◌≡◌ {A = Bool} false true = e in cc)
host-rio table node Refresh e = absurd (let f : ◌≡◌ {A = Bool} false true = e in cc)
host-rio table node Mousein e = absurd (let f : ◌≡◌ {A = Bool} false true = e in cc)
host-rio table node Kbdin e = absurd (let f : ◌≡◌ {A = Bool} false true = e in cc)
host-rio table node Screen e = refl
host-rio table node Snarf e = refl
host-rio table node DeviceWctl e = absurd (let f : ◌≡◌ {A = Bool} false true = e in cc)
host-rio table node Wsys e = refl
host-rio table node Window e = absurd (let f : ◌≡◌ {A = Bool} false true = e in cc)
host-rio table node Cons e = absurd (let f : ◌≡◌ {A = Bool} false true = e in cc)
host-rio table node Consctl e = absurd (let f : ◌≡◌ {A = Bool} false true = e in cc)
host-rio table node Label e = absurd (let f : ◌≡◌ {A = Bool} false true = e in cc)
host-rio table node Mouse e = absurd (let f : ◌≡◌ {A = Bool} false true = e in cc)
host-rio table node Text e = absurd (let f : ◌≡◌ {A = Bool} false true = e in cc)
host-rio table node Wctl e = absurd (let f : ◌≡◌ {A = Bool} false true = e in cc)
host-rio table node Winid e = absurd (let f : ◌≡◌ {A = Bool} false true = e in cc)
host-rio table node Winname e = absurd (let f : ◌≡◌ {A = Bool} false true = e in cc)
host-rio table node Picture e = absurd (let f : ◌≡◌ {A = Bool} false true = e in cc)
host-rio table node Listed e = absurd (let f : ◌≡◌ {A = Bool} false true = e in cc)
host-rio table node Hwsize e = absurd (let f : ◌≡◌ {A = Bool} false true = e in cc)

pub host-window : (table : Table) (node : Node) (kind : Kind) → is_of_rio kind ≡ false → option_map_or (λ w. w.host) (window_of table node.serial) 0 ≡ host_by table node kind
unfolding row
host-window table node Device e = refl
host-window table node Draw e = refl
host-window table node New e = refl
host-window table node Connection e = refl
host-window table node Ctl e = refl
host-window table node Data e = refl
host-window table node Refresh e = refl
host-window table node Mousein e = refl
host-window table node Kbdin e = refl
host-window table node Screen e = absurd (let f : ◌≡◌ {A = Bool} true false = e in cc)
host-window table node Snarf e = absurd (let f : ◌≡◌ {A = Bool} true false = e in cc)
host-window table node DeviceWctl e = refl
host-window table node Wsys e = absurd (let f : ◌≡◌ {A = Bool} true false = e in cc)
host-window table node Window e = refl
host-window table node Cons e = refl
host-window table node Consctl e = refl
host-window table node Label e = refl
host-window table node Mouse e = refl
host-window table node Text e = refl
host-window table node Wctl e = refl
host-window table node Winid e = refl
host-window table node Winname e = refl
host-window table node Picture e = refl
host-window table node Listed e = refl
host-window table node Hwsize e = refl
