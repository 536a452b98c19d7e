-- Where the walks of a client lead (walk(5)).
use Rattle.std.proofs.Common.{◌≡◌, ℕ, true, false, not, eqb, List, [], ◌∷◌, None, refl}
use Rattle.std.specs.Prelude.{codes, is_some}
use Rattle.std.specs.Fmt.{digits}
use Rattle.std.proofs.lemmas.Bool.{and_right}
use Rattle.model_rio.specs.rio.Table.{Table, window_of}
use Rattle.model_files.specs.declared.tree.Kind.TheVariants.{Mousein, DeviceWctl, Window, Wctl, Winname}
use Rattle.model_files.specs.tree.Node.{row}
use Rattle.model_files.specs.tree.Tree.{check_live, files, kinds_in, root_of, walk}
use Rattle.model_world.specs.Walking.{walked}
use Rattle.model_world.specs.Whole.{view_of}
use Rattle.model_clients.specs.client.Files.{data_way, file, new_way, own_file, to_data, to_new}

-- ---- in the device tree

pub device_new : (table : Table) (connections : List ℕ) → walked (view_of table connections) (root_of 0) to_new ≡ (new_way 0, None)
unfolding view_of walk files kinds_in row check_live
device_new table connections = refl

pub device_data : (table : Table) → walked (view_of table (1 ∷ [])) (root_of 0) to_data ≡ (data_way 0, None)
unfolding view_of walk files kinds_in row check_live digits
device_data table = refl

pub device_mousein : (table : Table) (connections : List ℕ) → walked (view_of table connections) (root_of 0) (codes "mousein" ∷ []) ≡ (file 0 Mousein 0 ∷ [], None)
unfolding view_of walk files kinds_in row check_live
device_mousein table connections = refl

pub device_wctl : (table : Table) (connections : List ℕ) → walked (view_of table connections) (root_of 0) (codes "wctl" ∷ []) ≡ (file 0 DeviceWctl 0 ∷ [], None)
unfolding view_of walk files kinds_in row check_live
device_wctl table connections = refl

-- ---- in the tree of a window that lives

pub window_new : (table : Table) (connections : List ℕ) (window : ℕ) → is_some (window_of table window) ≡ true
    → walked (view_of table connections) (own_file window Window) to_new ≡ (new_way window, None)
unfolding view_of walk files kinds_in row check_live
window_new table connections window lives = rw (lives, and_right (not (eqb window 0)) false refl) refl

pub window_data : (table : Table) (window : ℕ) → is_some (window_of table window) ≡ true
    → walked (view_of table (1 ∷ [])) (own_file window Window) to_data ≡ (data_way window, None)
unfolding view_of walk files kinds_in row check_live digits
window_data table window lives = rw (lives, and_right (not (eqb window 0)) false refl) refl

pub window_wctl : (table : Table) (connections : List ℕ) (window : ℕ) → is_some (window_of table window) ≡ true
    → walked (view_of table connections) (own_file window Window) (codes "wctl" ∷ []) ≡ (own_file window Wctl ∷ [], None)
unfolding view_of walk files kinds_in row check_live
window_wctl table connections window lives = rw (lives, and_right (not (eqb window 0)) false refl) refl

pub window_winname : (table : Table) (connections : List ℕ) (window : ℕ) → is_some (window_of table window) ≡ true
    → walked (view_of table connections) (own_file window Window) (codes "winname" ∷ []) ≡ (own_file window Winname ∷ [], None)
unfolding view_of walk files kinds_in row check_live
window_winname table connections window lives = rw (lives, and_right (not (eqb window 0)) false refl) refl
