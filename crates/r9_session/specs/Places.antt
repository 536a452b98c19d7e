-- Where reads wait.
use Rattle.std.specs.Prelude.{◌≡◌, ◌==◌, ℕ, Bool, true, List, Some}
use Rattle.std.specs.List.{list_any}
use Rattle.model_text.specs.text.Map.{lookup}
use Rattle.model_world.specs.Session.{Fid, Wait}
use Rattle.model_world.specs.Links.{is_among}
use Rattle.model_world.specs.Sleeping.{has_place}

-- a read that waits names the fid
abbrev pub is_awaited : List (ℕ × Wait) → ℕ → Bool
is_awaited waiting number = list_any (λ entry. entry.1.fid == number) waiting

-- each file that a read waits for has its serial among the places, if something may happen there
abbrev pub AreCovered : List (ℕ × Fid) → List (ℕ × Wait) → (places : List ℕ) → Type 0
AreCovered fids waiting places = (number : ℕ) (fid : Fid) → is_awaited waiting number ≡ true → lookup fids number ≡ Some fid → has_place fid ≡ true
    → is_among places fid.node.serial ≡ true
