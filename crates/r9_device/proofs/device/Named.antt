-- What the images and the book keep together stays so where names are tied, untied and used.
use Rattle.std.proofs.Common.{◌≡◌, ℕ, Bool, true, false, List, Option, Some, None, Result, Ok, Err, OnOk, OnErr, inl, inr, refl, sym, ap, subst, ◌∙◌}
use Rattle.std.specs.Prelude.{◌==◌, ◌&&◌, is_some, option_map}
use Rattle.std.specs.List.{list_any}
use Rattle.std.proofs.lemmas.Bool.{eqb-true}
use Rattle.model_text.specs.text.Outcome.{◌>>=◌, refuse_if, value_or_refuse}
use Rattle.model_forest.specs.World.{World}
use Rattle.model_draw_parts.specs.declared.images.ImageId.{ImageId}
use Rattle.model_draw_parts.specs.declared.images.Tie.{Tie}
use Rattle.model_draw_parts.specs.declared.images.Thing.TheVariants.{Image as Shown}
use Rattle.model_draw_parts.specs.images.Book.{Book, add_named, is_image_id_taken, put_image_id, tie, tie_of, untie}
use Rattle.model_draw_parts.specs.images.Release.{is_used}
use Rattle.model_draw_parts.specs.images.Ties.{HasTies}
use Rattle.model_draw_parts.proofs.images.Finds.{put-image}
use Rattle.model_draw_parts.proofs.images.Ties.{any-put, find-put, tie-rest, tie_of-shown, untie-rest}
use Rattle.r9_device.specs.device.Kept.{IsKept}
use Rattle.r9_device.proofs.device.Going.{either_true}
use Rattle.r9_device.specs.device.Spare.{AreSpare}
use Rattle.r9_device.proofs.device.Kept.{and_false}
use Rattle.r9_device.proofs.device.Lookups.{first_true, second_true}

-- the ties are no part of it
kept-ties : (images : World) (book : Book) (ties : List Tie) (next_tie : ℕ) → IsKept images book → IsKept images (record book { ties = ties; next_tie = next_tie })
kept-ties images book ties next_tie k = record {
  live = k.live;
  placed = λ i. let p = k.placed i in record { stands = p.stands; ordered = p.ordered; near = p.near; clip = p.clip };
  screens = k.screens;
  display = k.display;
  points = k.points;
  used = k.used;
  screens_used = k.screens_used;
  finds = record { image_ids = k.finds.image_ids; screen_ids = k.finds.screen_ids; windows = k.finds.windows };
}

pub kept-tied : {A E : Type 0} (o : Result A E) (images : World) (book next : Book) (k id : ℕ) (name : List ℕ) → IsKept images book → OnOk o (tie book k id name ≡ Ok next) → OnErr o (next ≡ book) → IsKept images next
kept-tied (Ok x) images book next k id name kept e same = subst (IsKept images) (sym (tie-rest book next k id name e)) (kept-ties images book next.ties next.next_tie kept)
kept-tied (Err x) images book next k id name kept e same = subst (IsKept images) (sym same) kept

pub kept-untied : {A E : Type 0} (o : Result A E) (images : World) (book next : Book) (k id : ℕ) (name : List ℕ) → IsKept images book → OnOk o (untie book k id name ≡ Ok next) → OnErr o (next ≡ book) → IsKept images next
kept-untied (Ok x) images book next k id name kept e same = subst (IsKept images) (sym (untie-rest book next k id name e)) (kept-ties images book next.ties book.next_tie kept)
kept-untied (Err x) images book next k id name kept e same = subst (IsKept images) (sym same) kept

pub spare-tied : {A E : Type 0} (o : Result A E) (book next : Book) (k id : ℕ) (name : List ℕ) → AreSpare book → OnOk o (tie book k id name ≡ Ok next) → OnErr o (next ≡ book) → AreSpare next
spare-tied (Ok x) book next k id name spare e same = subst AreSpare (sym (tie-rest book next k id name e)) spare
spare-tied (Err x) book next k id name spare e same = subst AreSpare (sym same) spare

pub spare-untied : {A E : Type 0} (o : Result A E) (book next : Book) (k id : ℕ) (name : List ℕ) → AreSpare book → OnOk o (untie book k id name ≡ Ok next) → OnErr o (next ≡ book) → AreSpare next
spare-untied (Ok x) book next k id name spare e same = subst AreSpare (sym (untie-rest book next k id name e)) spare
spare-untied (Err x) book next k id name spare e same = subst AreSpare (sym same) spare

-- the image of a name lives
kept-entered : (images : World) (book : Book) (k id : ℕ) (t : Tie) → IsKept images book → is_used book (Shown t.image) ≡ true → (k == 0) ≡ false → is_image_id_taken book k id ≡ false
    → IsKept images (record book { image_ids = put_image_id (record { client = k; id = id; image = t.image; tie = Some t.number }) book.image_ids })
kept-entered images book k id t kept used own free =
    let entry : ImageId = record { client = k; id = id; image = t.image; tie = Some t.number } in
    record {
      live = λ j h. elim (either_true (list_any (λ e. e.image == j) (put_image_id entry book.image_ids)) _ h) [
        | inl here ↦ elim (either_true (t.image == j) _ (sym (any-put (λ e. e.image == j) entry book.image_ids) ∙ here)) [
          | inl new ↦ ap (λ n. is_some (images n)) (sym (eqb-true t.image j new)) ∙ kept.live t.image used
          | inr old ↦ kept.live j (first_true _ _ old)
        ]
        | inr there ↦ kept.live j (second_true (list_any (λ e. e.image == j) book.image_ids) _ there)
      ];
      placed = λ i. let p = kept.placed i in record { stands = p.stands; ordered = p.ordered; near = p.near; clip = p.clip };
      screens = kept.screens;
      display = ap (λ (o : Option ImageId). option_map (λ e. e.image) o) (find-put (λ e. (e.client == 0) && (e.id == 0)) entry book.image_ids (and_false (k == 0) (id == 0) own)) ∙ kept.display;
      points = kept.points;
      used = λ j h. elim (either_true (list_any (λ e. e.image == j) book.image_ids) _ (kept.used j h)) [
        | inl here ↦ first_true _ _ (any-put (λ e. e.image == j) entry book.image_ids ∙ second_true (t.image == j) _ here)
        | inr there ↦ second_true (list_any (λ e. e.image == j) (put_image_id entry book.image_ids)) _ there
      ];
      screens_used = kept.screens_used;
      finds = record { image_ids = put-image book entry free kept.finds.image_ids; screen_ids = kept.finds.screen_ids; windows = kept.finds.windows };
    }

-- the book with an id for the image of a name
abbrev named_by : Book → (k id : ℕ) → Tie → Book
named_by book k id t = record book { image_ids = put_image_id (record { client = k; id = id; image = t.image; tie = Some t.number }) book.image_ids }

named-is : (book next : Book) (k id : ℕ) (name : List ℕ) → add_named book k id name ≡ Ok next → (t : Tie) × (tie_of book name ≡ Some t) × (named_by book k id t ≡ next)
unfolding add_named
named-is book next k id name e = by (is_image_id_taken book k id) e
  where
    tied : (o : Option Tie) → tie_of book name ≡ o → (value_or_refuse o 17 >>= λ t. Ok (named_by book k id t)) ≡ Ok next → (t : Tie) × (tie_of book name ≡ Some t) × (named_by book k id t ≡ next)
    tied None at e = absurd cc
    tied (Some t) at e = (t, at, cc)

    by : (b : Bool) → (refuse_if b 6 >>= λ _. value_or_refuse (tie_of book name) 17 >>= λ t. Ok (named_by book k id t)) ≡ Ok next → (t : Tie) × (tie_of book name ≡ Some t) × (named_by book k id t ≡ next)
    by true e = absurd cc
    by false e = tied (tie_of book name) refl e

named-free : (book next : Book) (k id : ℕ) (name : List ℕ) → add_named book k id name ≡ Ok next → is_image_id_taken book k id ≡ false
unfolding add_named
named-free book next k id name e = by (is_image_id_taken book k id) e
  where
    by : (b : Bool) → (refuse_if b 6 >>= λ _. value_or_refuse (tie_of book name) 17 >>= λ t. Ok (named_by book k id t)) ≡ Ok next → b ≡ false
    by true e = absurd cc
    by false e = refl

pub kept-named : {A E : Type 0} (o : Result A E) (images : World) (book next : Book) (k id : ℕ) (name : List ℕ) → IsKept images book → HasTies book → (k == 0) ≡ false
    → OnOk o (add_named book k id name ≡ Ok next) → OnErr o (next ≡ book) → IsKept images next
kept-named (Ok x) images book next k id name kept ties own e same =
    let is = named-is book next k id name e in
    subst (IsKept images) is.2 (kept-entered images book k id is.0 kept (tie_of-shown book name is.0 ties is.1) own (named-free book next k id name e))
kept-named (Err x) images book next k id name kept ties own e same = subst (IsKept images) (sym same) kept

pub spare-named : {A E : Type 0} (o : Result A E) (book next : Book) (k id : ℕ) (name : List ℕ) → AreSpare book → OnOk o (add_named book k id name ≡ Ok next) → OnErr o (next ≡ book) → AreSpare next
spare-named (Ok x) book next k id name spare e same = subst AreSpare (named-is book next k id name e).2 spare
spare-named (Err x) book next k id name spare e same = subst AreSpare (sym same) spare
