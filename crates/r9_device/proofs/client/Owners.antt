-- The entry of a connection that lives.
use Rattle.std.proofs.Common.{◌≡◌, ℕ, List, Option, Some, None, IsSome, Result, Ok, Err, OnOk, OnErr, refl, ap, ◌∙◌}
use Rattle.std.specs.Option.{option_map_or}
use Rattle.model_text.specs.text.Map.{lookup, with, and, without}
use Rattle.model_text.proofs.map.Maps.{with-here, and-here}
use Rattle.model_draw_parts.specs.fonts.Font.{Font}
use Rattle.model_draw.specs.draw.World.{Client, new_client}
use Rattle.model_draw.specs.draw.Making.{forget_id}
use Rattle.r9_device.specs.client.Clients.{entry_of}

pub owner_is : (clients : List (ℕ × Client)) (k : ℕ) (owner : Client) → lookup clients k ≡ Some owner → entry_of clients k ≡ owner
owner_is clients k owner found = ap (λ (o : Option Client). option_map_or (λ c. c) o new_client) found

pub forgotten : (client : Client) (id : ℕ) (sizes : List (ℕ × ℕ)) (fonts : List (ℕ × Font)) → sizes ≡ without client.sizes id → fonts ≡ without client.fonts id
    → (let left : Client = record client { sizes = sizes; fonts = fonts } in left) ≡ forget_id client id
forgotten client id sizes fonts s f = λ i. record client { sizes = s i; fonts = f i }

pub on_err : {A E P : Type 0} (r : Result A E) → P → OnErr r P
on_err (Ok x) p = tt
on_err (Err e) p = p

-- what follows from a fact of an answer is one of it too
pub on_ok_too : {A E P Q : Type 0} (r : Result A E) → (P → Q) → OnOk r P → OnOk r Q
on_ok_too (Ok x) follows p = follows p
on_ok_too (Err e) follows p = tt

pub on_err_too : {A E P Q : Type 0} (r : Result A E) → (P → Q) → OnErr r P → OnErr r Q
on_err_too (Ok x) follows p = tt
on_err_too (Err e) follows p = follows p

-- what was written is the entry
pub entry_with : (clients : List (ℕ × Client)) (k : ℕ) (owner : Client) → IsSome (lookup clients k) → entry_of (with clients k owner) k ≡ owner
entry_with clients k owner there = owner_is (with clients k owner) k owner (written (lookup clients k) refl there)
  where
    written : (found : Option Client) → lookup clients k ≡ found → IsSome found → lookup (with clients k owner) k ≡ Some owner
    written None at some = absurd cc
    written (Some before) at some = with-here clients k before owner at

-- an image id that became a font is it
pub font_put : (clients after : List (ℕ × Client)) (k id : ℕ) (font : Font) → IsSome (lookup clients k)
    → after ≡ with clients k (record (entry_of clients k) { fonts = and (entry_of clients k).fonts id font })
    → lookup (entry_of after k).fonts id ≡ Some font
font_put clients after k id font there put =
    ap (λ (es : List (ℕ × Client)). lookup (entry_of es k).fonts id) put
    ∙ ap (λ (o : Client). lookup o.fonts id) (entry_with clients k (record (entry_of clients k) { fonts = and (entry_of clients k).fonts id font }) there)
    ∙ and-here (entry_of clients k).fonts id font
