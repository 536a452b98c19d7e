-- A new image, its id and what it counts.
use Rattle.std.proofs.Common.{◌≡◌, ℕ, true, false, Option, Some, None, Result, Ok, Err, OnOk, OnErr, refl, sym, ap, subst, ◌∙◌}
use Rattle.std.specs.Prelude.{◌^◌, ◌==◌, is_some, option_map, unwrap_or, IfSome, IsSome}
use Rattle.std.specs.Option.{option_map_or}
use Rattle.std.specs.Result.{result_unwrap_or}
use Rattle.r9_geom.specs.declared.Rect.{Rect}
use Rattle.r9_geom.specs.Geometry.{HasPoints, IsRectNearBy}
use Rattle.model_text.specs.text.Map.{lookup, with}
use Rattle.model_text.proofs.map.Maps.{with-same}
use Rattle.model_text.specs.text.Outcome.{Outcome}
use Rattle.model_forest.specs.World.{Image, World as Images, image_at, no_image, with_image}
use Rattle.model_forest.proofs.Releasing.{Stays, changed-at, changed-other, stays-after, stays-same, window-frame, window-live, window-others}
use Rattle.model_forest.specs.Numbers.{next_number, taken}
use Rattle.model_forest.specs.Steps.{after_image, after_set, new_image}
use Rattle.model_draw_parts.specs.images.Book.{Book, add_id, fill_of, image_of, screen_numbered}
use Rattle.model_draw.specs.draw.World.{Client, World, client_of, new_client, next_image}
use Rattle.model_draw.specs.draw.Making.{with_new_image, with_size}
use Rattle.r9_draw.specs.declared.messages.plan.Making.{Making}
use Rattle.r9_device.specs.device.Kept.{IsKept, standing_on}
use Rattle.r9_device.specs.device.Live.{CanHold}
use Rattle.r9_draw.specs.messages.Plans.{after_make, images_made, one_pixel}
use Rattle.r9_device.proofs.device.Adding.{live_apart}
use Rattle.r9_device.proofs.device.Kept.{Grows, and_false, kept-added, kept-same}

-- Image i is one of one pixel, and the others stay.
pub record IsOne (images next : Images) (book : Book) (i : ℕ) (screen : Option ℕ) (r : Rect) : Type 0 where
  pub others : (n : ℕ) → (n == i) ≡ false → Stays images next n
  pub live : is_some (next i) ≡ true
  pub stands : (image_at next i).standing ≡ option_map (standing_on book) screen
  pub rect : (image_at next i).r ≡ r

pub one-made : (images : Images) (book : Book) (i : ℕ) (screen : Option ℕ) (r : Rect) (chan raw : ℕ) → images i ≡ None → IfSome screen (λ s. CanHold images book s chan)
    → IsOne images (one_pixel images book i screen r chan raw) book i screen r
unfolding after_image
one-made images book i None r chan raw free can =
    let at = changed-at images i (Some (new_image r chan raw)) in
    record {
      others = λ n e. stays-same images _ n (changed-other images i n (Some (new_image r chan raw)) e);
      live = ap is_some at;
      stands = ap (λ (o : Option Image). (unwrap_or o no_image).standing) at;
      rect = ap (λ (o : Option Image). (unwrap_or o no_image).r) at;
    }
one-made images book i (Some s) r chan raw free can =
    let apart = live_apart images (image_of book s) i can.image free in
    let frame = window-frame images i (image_of book s) (fill_of book s) r raw in
    record {
      others = λ n e. window-others images i (image_of book s) (fill_of book s) r raw n can.image apart e;
      live = window-live images i (image_of book s) (fill_of book s) r raw can.image apart;
      stands = frame.standing;
      rect = frame.r;
    }

-- and then repeats or not, with a clip rectangle
grows-made : (images : Images) (book : Book) (i : ℕ) (m : Making) → images i ≡ None → IfSome m.screen (λ s. CanHold images book s m.chan) → HasPoints m.r → IsRectNearBy (2 ^ 32) m.r → IsRectNearBy (2 ^ 33) m.clipr
    → Grows images (images_made images book i m) book i m.screen
unfolding after_set
grows-made images book i m free can points near clip =
    let one : Images = one_pixel images book i m.screen m.r m.chan m.raw in
    let is = one-made images book i m.screen m.r m.chan m.raw free can in
    let set : Image = record (image_at one i) { repl = m.repl; clipr = m.clipr } in
    let at : with_image one i (Some set) i ≡ Some set = changed-at one i (Some set) in
    record {
      free = free;
      others = λ n e. stays-after images one _ n (is.others n e) (stays-same one _ n (changed-other one i n (Some set) e));
      live = ap is_some at;
      stands = ap (λ (o : Option Image). (unwrap_or o no_image).standing) at ∙ is.stands;
      points = subst HasPoints (sym (ap (λ (o : Option Image). (unwrap_or o no_image).r) at ∙ is.rect)) points;
      near = subst (IsRectNearBy (2 ^ 32)) (sym (ap (λ (o : Option Image). (unwrap_or o no_image).r) at ∙ is.rect)) near;
      clip = subst (IsRectNearBy (2 ^ 33)) (sym (ap (λ (o : Option Image). (unwrap_or o no_image).clipr) at)) clip;
    }

screen_there : (images : Images) (book : Book) (chan : ℕ) (s : Option ℕ) → IfSome s (λ n. CanHold images book n chan) → IfSome s (λ n. is_some (screen_numbered book n) ≡ true)
screen_there images book chan None h = h
screen_there images book chan (Some n) h = h.there

pub kept-made : {A E : Type 0} (o : Result A E) (images next : Images) (book added : Book) (k n : ℕ) (m : Making) → IsKept images book → HasPoints m.r → IsRectNearBy (2 ^ 32) m.r
    → IsRectNearBy (2 ^ 33) m.clipr → (k == 0) ≡ false → IfSome m.screen (λ s. CanHold images book s m.chan)
    → OnOk o (images n ≡ None) → OnOk o (next ≡ images_made images book n m) → OnOk o (add_id book k m.id n m.screen ≡ Ok added)
    → OnErr o (next ≡ images) → OnErr o (added ≡ book) → IsKept next added
kept-made (Ok x) images next book added k n m kept points near clip own can free is e none same =
    kept-same _ next added
    (kept-added images (images_made images book n m) book added k m.id n m.screen kept (grows-made images book n m free can points near clip) e (and_false (k == 0) (m.id == 0) own) (screen_there images book m.chan m.screen can)) is
kept-made (Err x) images next book added k n m kept points near clip own can free is e none same =
    let P : Book → Type 0 = λ b. IsKept next b in subst P (sym same) (kept-same images next book kept none)

-- as the definitions have them
made-new : (w : World) (m : Making) (screen : Option ℕ) → with_new_image w screen m.r m.chan m.raw m.repl m.clipr ≡ after_set (one_pixel w.images w.book (next_image w) screen m.r m.chan m.raw) (next_image w) m.repl m.clipr
made-new w m None = refl
made-new w m (Some s) = refl

pub makes : {A E : Type 0} (o : Result A E) (w next : World) (k : ℕ) (m : Making) (owner : Client)
    → OnOk o (next.images ≡ images_made w.images w.book (next_number w.numbers) m)
    → OnOk o (next.numbers ≡ taken w.numbers) → OnOk o (add_id w.book k m.id (next_number w.numbers) m.screen ≡ Ok next.book)
    → OnOk o (owner ≡ with_size (client_of w k) m.id m.len) → next.clients ≡ with w.clients k owner → next.opening ≡ w.opening → OnOk o (next ≡ after_make k w m)
unfolding after_make
makes (Ok x) w next k m owner images numbers book is clients opening =
    let new : next.images ≡ with_new_image w m.screen m.r m.chan m.raw m.repl m.clipr = images ∙ sym (made-new w m m.screen) in
    let books : next.book ≡ result_unwrap_or (add_id w.book k m.id (next_number w.numbers) m.screen) w.book = ap (λ (o : Outcome Book). result_unwrap_or o w.book) (sym book) in
    let all : next.clients ≡ with w.clients k (with_size (client_of w k) m.id m.len) = clients ∙ ap (λ (c : Client). with w.clients k c) is in
    λ i. record { opening = opening i; images = new i; numbers = numbers i; book = books i; clients = all i }
makes (Err x) w next k m owner images numbers book is clients opening = tt

-- ---- what the calls want

pub one-live : (images next : Images) (book : Book) (i : ℕ) (m : Making) → images i ≡ None → IfSome m.screen (λ s. CanHold images book s m.chan)
    → next ≡ one_pixel images book i m.screen m.r m.chan m.raw → is_some (next i) ≡ true
one-live images next book i m free can is = ap (λ (w : Images). is_some (w i)) is ∙ (one-made images book i m.screen m.r m.chan m.raw free can).live

pub one-points : (images next : Images) (book : Book) (i : ℕ) (m : Making) → images i ≡ None → IfSome m.screen (λ s. CanHold images book s m.chan)
    → next ≡ one_pixel images book i m.screen m.r m.chan m.raw → HasPoints m.r → HasPoints (image_at next i).r
one-points images next book i m free can is points =
    subst HasPoints (sym (ap (λ (w : Images). (image_at w i).r) is ∙ (one-made images book i m.screen m.r m.chan m.raw free can).rect)) points

there : {A : Type 0} (o : Option A) (d : A) → IsSome o → o ≡ Some (option_map_or (λ x. x) o d)
there None d h = absurd cc
there (Some x) d h = refl

pub keeps : {A E : Type 0} (o : Result A E) (w next : World) (k : ℕ) (owner : Client) → IsSome (lookup w.clients k)
    → OnErr o (next.images ≡ w.images) → OnErr o (next.numbers ≡ w.numbers) → OnErr o (next.book ≡ w.book) → OnErr o (owner ≡ client_of w k)
    → next.clients ≡ with w.clients k owner → next.opening ≡ w.opening → OnErr o (next ≡ w)
keeps (Ok x) w next k owner at images numbers book is clients opening = tt
keeps (Err x) w next k owner at images numbers book is clients opening =
    let all : next.clients ≡ w.clients = clients ∙ ap (λ (c : Client). with w.clients k c) is ∙ with-same w.clients k (client_of w k) (there (lookup w.clients k) new_client at) in
    λ i. record { opening = opening i; images = images i; numbers = numbers i; book = book i; clients = all i }

pub owner_ok : {A E : Type 0} (o : Result A E) (before entry after : Client) (id len : ℕ) → before ≡ entry → OnOk o (after ≡ with_size before id len) → OnOk o (after ≡ with_size entry id len)
owner_ok (Ok x) before entry after id len same is = is ∙ ap (λ (c : Client). with_size c id len) same
owner_ok (Err x) before entry after id len same is = tt

pub owner_err : {A E : Type 0} (o : Result A E) (before entry after : Client) → before ≡ entry → OnErr o (after ≡ before) → OnErr o (after ≡ entry)
owner_err (Ok x) before entry after same is = tt
owner_err (Err x) before entry after same is = is ∙ same
