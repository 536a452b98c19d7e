-- The display of a client that shows a text in a window, and how all is answered that comes before the first piece (draw(3), rio(4)).
use Rattle.std.specs.Prelude.{ℕ, List, [], ◌∷◌, ◌++◌, length, map}
use Rattle.r9_event.specs.declared.event.event.Opening.{Opening}
use Rattle.model_files.specs.wire.Message.{R, Rattach, Ropen, Rwalk, Rwrite}
use Rattle.model_files.specs.declared.tree.Kind.TheVariants.{Ctl, Data, Window}
use Rattle.model_files.specs.tree.Node.{qid}
use Rattle.model_clients.specs.client.Files.{data_way, file, new_way, own_file}
use Rattle.model_clients.specs.client.Saying.{welcome}
use Rattle.model_clients.specs.page.Text.{Shape, making, rgb24}

-- the display that records of texts are for
abbrev pub display : Opening
display = record { width = 640; height = 480; chan = rgb24 }

-- how the walks to the connection's files and their opens are answered
abbrev pub opened_replies : List R
opened_replies = Rwalk 1 (map qid (new_way 1)) ∷ Ropen 1 (qid (file 1 Ctl 1)) 0 ∷ Rwalk 1 (map qid (data_way 1)) ∷ Ropen 1 (qid (file 1 Data 1)) 0 ∷ []

-- how all is answered that comes before the first piece
abbrev pub opening_replies : Shape → (pixels : List ℕ) → List R
opening_replies shape pixels =
    welcome ∷ Rattach 1 (qid (own_file 1 Window)) ∷ opened_replies ++ Rwrite 1 (length (making shape pixels)) ∷ []
