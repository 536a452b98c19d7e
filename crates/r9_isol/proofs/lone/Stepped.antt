-- Steps of what a session is told.
use Rattle.std.proofs.Common.{◌≡◌, ◌+◌, ◌<◌, ◌≤◌, ℕ, List, ◌∷◌, ◌++◌, All, length, drop, get_or, refl, sym, ap, subst, ◌∙◌, append_assoc}
use Rattle.std.specs.Prelude.{is_some}
use Rattle.std.specs.Map.{keys_of}
use Rattle.std.proofs.lemmas.List.{append-nil, drop_more}
use Rattle.std.proofs.lemmas.List.Elements.{All-get_or}
use Rattle.std.proofs.Math.ListN.{drop_of_length-le}
use Rattle.r9_event.specs.declared.event.own.Item.{Item}
use Rattle.r9_event.specs.declared.event.own.Item.TheVariants.{Sent, Noted}
use Rattle.r9_event.specs.declared.event.rio.Note.{Note}
use Rattle.r9_event.specs.declared.event.rio.Note.TheVariants as note
use Rattle.model_text.specs.text.Map.{lookup}
use Rattle.model_text.specs.map.Ascending.{Ascend}
use Rattle.model_draw.specs.draw.World as draw
use Rattle.model_world.specs.Links.{IsLinked}
use Rattle.model_world.specs.Whole.{client}
use Rattle.model_world.proofs.Connections.{carried_out_kept}
use Rattle.model_world.proofs.Orders.{EndNone}
use Rattle.model_alone.specs.alone.Lone.{LoneDesktop, LoneWorld, lone_from, lone_step, noted_alone, notes_in, orders_of, with_notes}
use Rattle.law_strangers.specs.near.Steps.{IsSoundStep}

-- what stands at a place begins what is left there
pub begins_with : {A : Type 0} (xs : List A) (i : ℕ) (x : A) → i < length xs → x ≡ get_or xs i x → drop i xs ≡ x ∷ drop (i + 1) xs
begins_with {A = A} xs i x within is = drop_more xs i x within ∙ ap (λ (y : A). y ∷ drop (i + 1) xs) (sym is)

-- ---- notes leave the connections

none_ended : (serial : ℕ) (n : Note) → EndNone (orders_of serial n)
none_ended serial (note.Made number made name r depth) = refl
none_ended serial (note.Moved name r) = refl
none_ended serial (note.Resized name r) = refl
none_ended serial note.Deleted = refl
none_ended serial (note.Current current) = refl
none_ended serial (note.Hidden hidden) = refl
none_ended serial (note.Mouse x y buttons msec) = refl
none_ended serial (note.Key key) = refl

same_linked : (made : ℕ) (connections : List ℕ) (device after : draw.World) → after.clients ≡ device.clients → IsLinked 1 made connections device → IsLinked 1 made connections after
same_linked made connections device after same linked = record {
  counted = linked.counted;
  ordered = subst (λ (clients : List (ℕ × draw.Client)). Ascend (keys_of clients)) (sym same) linked.ordered;
  linked = λ n few. ap (λ (clients : List (ℕ × draw.Client)). is_some (lookup clients (client 1 n))) same ∙ linked.linked n few;
}

pub note_linked : (made : ℕ) (connections : List ℕ) (desktop : LoneDesktop) (n : Note) → IsLinked 1 made connections desktop.device → IsLinked 1 made connections (noted_alone desktop n).device
note_linked made connections desktop n linked =
    same_linked made connections desktop.device (noted_alone desktop n).device (carried_out_kept desktop.device (orders_of _ n) (none_ended _ n)) linked

-- ---- the notes of a step

-- the world after so many items of a step, where the notes of the others make of it what all make of the first
abbrev pub ToldSoFar : (first : LoneWorld) (items : List Item) (place : ℕ) → LoneWorld → Type 0
ToldSoFar first items place now = with_notes now (notes_in (drop place items)) ≡ with_notes first (notes_in items)

pub note_told : (first now next : LoneWorld) (items : List Item) (i : ℕ) (item : Item) (n : Note) → i < length items → item ≡ get_or items i item → item ≡ Noted n → next ≡ record now { desktop = noted_alone now.desktop n }
    → ToldSoFar first items i now → ToldSoFar first items (i + 1) next
note_told first now next items i item n within at is told so_far =
    ap (λ (w : LoneWorld). with_notes w (notes_in (drop (i + 1) items))) told
    ∙ ap (λ (l : List Item). with_notes now (notes_in l)) (ap (λ (x : Item). x ∷ drop (i + 1) items) (sym is) ∙ sym (begins_with items i item within at))
    ∙ so_far

pub item_passed : (first now : LoneWorld) (items : List Item) (i : ℕ) (item : Item) → i < length items → item ≡ get_or items i item → ((n : Note) → item ≡ Noted n → ⊥) → ToldSoFar first items i now → ToldSoFar first items (i + 1) now
item_passed first now items i (Noted n) within at other so_far = absurd (other n refl)
item_passed first now items i (Sent bytes mark) within at other so_far =
    ap (λ (l : List Item). with_notes now (notes_in l)) (sym (begins_with items i (Sent bytes mark) within at)) ∙ so_far

-- ---- steps

pub sound_at : (items all : List (List Item)) (i : ℕ) (items_there slice : List Item) → All IsSoundStep items → all ≡ items → i < length all → items_there ≡ get_or all i items_there → slice ≡ items_there → IsSoundStep slice
sound_at items all i there slice sound same within at is =
    subst IsSoundStep (sym (is ∙ at ∙ ap (λ (l : List (List Item)). get_or l i there) same)) (All-get_or IsSoundStep items i there (subst (λ (l : List (List Item)). i < length l) same within) sound)

pub step_taken : (now next : LoneWorld) (items all : List (List Item)) (i : ℕ) (there slice : List Item) (replies more whole : List (List ℕ)) → all ≡ items → i < length all → there ≡ get_or all i there → slice ≡ there
    → next ≡ (lone_step now slice).0 → more ≡ replies ++ (lone_step now slice).1 → replies ++ lone_from now (drop i items) ≡ whole → more ++ lone_from next (drop (i + 1) items) ≡ whole
step_taken now next items all i there slice replies more whole same within at is world answered so_far =
    let rest = drop (i + 1) items in
    let begins : slice ∷ rest ≡ drop i items =
    ap (λ (x : List Item). x ∷ rest) is
    ∙ sym (begins_with items i there (subst (λ (l : List (List Item)). i < length l) same within) (at ∙ ap (λ (l : List (List Item)). get_or l i there) same)) in
    (λ k. answered k ++ lone_from (world k) rest)
    ∙ append_assoc replies (lone_step now slice).1 (lone_from (lone_step now slice).0 rest)
    ∙ ap (λ (l : List (List Item)). replies ++ lone_from now l) begins
    ∙ so_far

pub all_taken : (now : LoneWorld) (items all : List (List Item)) (i : ℕ) (replies whole : List (List ℕ)) → all ≡ items → length all ≤ i → replies ++ lone_from now (drop i items) ≡ whole → replies ≡ whole
all_taken now items all i replies whole same beyond so_far =
    sym (append-nil replies)
    ∙ ap (λ (l : List (List Item)). replies ++ lone_from now l) (sym (drop_of_length-le items (subst (λ (l : List (List Item)). length l ≤ i) same beyond)))
    ∙ so_far
