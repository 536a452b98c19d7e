-- How a client opens the files by which it points: what it says, and how that is answered (draw(3), rio(4)).
use Rattle.std.specs.Prelude.{List, [], ◌∷◌, codes, map}
use Rattle.model_files.specs.declared.tree.Kind.TheVariants.{Ctl, Data, Device, DeviceWctl, Mousein}
use Rattle.model_files.specs.tree.Node.{qid}
use Rattle.model_files.specs.wire.Message.{R, Rattach, Ropen, Rwalk, T, Tattach, Topen, Twalk, no_fid}
use Rattle.model_clients.specs.client.Files.{data_way, file, new_way, to_data, to_new}

-- what it says once its version is agreed on
abbrev pub to_point : List T
to_point =
    Tattach 1 0 no_fid [] []
    ∷ Twalk 1 0 1 (codes "mousein" ∷ [])
    ∷ Topen 1 1 1
    ∷ Twalk 1 0 2 (codes "wctl" ∷ [])
    ∷ Topen 1 2 1
    ∷ Twalk 1 0 3 to_new
    ∷ Topen 1 3 2
    ∷ Twalk 1 0 4 to_data
    ∷ Topen 1 4 2
    ∷ []

-- and how that is answered
abbrev pub point_replies : List R
point_replies =
    Rattach 1 (qid (file 0 Device 0))
    ∷ Rwalk 1 (map qid (file 0 Mousein 0 ∷ []))
    ∷ Ropen 1 (qid (file 0 Mousein 0)) 0
    ∷ Rwalk 1 (map qid (file 0 DeviceWctl 0 ∷ []))
    ∷ Ropen 1 (qid (file 0 DeviceWctl 0)) 0
    ∷ Rwalk 1 (map qid (new_way 0))
    ∷ Ropen 1 (qid (file 0 Ctl 1)) 0
    ∷ Rwalk 1 (map qid (data_way 0))
    ∷ Ropen 1 (qid (file 0 Data 1)) 0
    ∷ []
