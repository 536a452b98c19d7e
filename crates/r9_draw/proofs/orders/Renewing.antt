-- A window gets another image: what the images and the book keep together, and the world that is left.
use Rattle.std.proofs.Common.{◌≡◌, ℕ, Bool, true, false, [], Some, None, Result, Ok, Err, OnOk, sym, ap, subst, ◌∙◌}
use Rattle.std.specs.Prelude.{◌==◌, ◌&&◌, ◌||◌, find, not, is_some, if◌then◌else◌}
use Rattle.std.specs.List.{fold, list_any}
use Rattle.model_text.specs.text.Outcome.{Outcome}
use Rattle.model_forest.specs.World.{World as Images, IsForest}
use Rattle.model_forest.specs.Numbers.{Numbers, taken}
use Rattle.model_draw_parts.specs.declared.images.Thing.TheVariants.{Screen}
use Rattle.model_draw_parts.specs.images.Book.{Book, add_id, image_id, is_image_id_taken}
use Rattle.model_draw_parts.specs.images.Release.{Freed, IsFreed, IsInOrder, KeepsRest, free_id, is_used}
use Rattle.model_draw.specs.draw.World.{World, next_image, with_book}
use Rattle.model_draw.specs.draw.Making.{with_made}
use Rattle.model_draw.specs.draw.Orders.{with_window_id}
use Rattle.r9_draw.specs.declared.orders.next.Next.{Next}
use Rattle.r9_device.specs.device.Gone.{images_without, numbers_without}
use Rattle.r9_device.specs.device.Kept.{IsKept}
use Rattle.r9_draw.specs.orders.Ordering.{CanReplace, IsNext, images_come, images_renewed, is_used_by_id, renewed}
use Rattle.r9_device.proofs.device.Kept.{Grows}
use Rattle.r9_device.proofs.device.Lookups.{first_true}
use Rattle.r9_draw.proofs.orders.Managed.{free_id-screen_ids, free_id-unknown}
use Rattle.r9_draw.proofs.orders.Ordered.{grows-new, new-come, next-stands, next_standing, window-added}
use Rattle.model_draw_parts.proofs.images.Complete.{LeavesNone}
use Rattle.r9_device.specs.device.Spare.{AreSpare}
use Rattle.r9_device.proofs.device.Spare.{spare-added}
use Rattle.r9_draw.proofs.orders.Freed.{image-freed-world}
use Rattle.r9_device.proofs.device.Worlds.{kept-after}

-- the screen of a rio stays used
pub screen-left : (book : Book) (window s : ℕ) (freed : Freed) → is_used_by_id book s ≡ true → free_id book 0 window ≡ Ok freed → is_used freed.book (Screen s) ≡ true
screen-left book window s freed by e =
    first_true (list_any (λ e. e.screen == s) freed.book.screen_ids) _ (ap (λ ids. list_any (λ e. e.screen == s) ids) (free_id-screen_ids book 0 window freed e) ∙ by)

-- the id is free again
pub id-left : (book : Book) (window : ℕ) (freed : Freed) → (window == 0) ≡ false → free_id book 0 window ≡ Ok freed → is_image_id_taken freed.book 0 window ≡ false
id-left book window freed other e = by (window == 0) other
  where
    none : is_some (find (λ e. (e.client == 0) && (e.id == window)) freed.book.image_ids) ≡ false
    none = ap is_some (free_id-unknown book window freed other e)

    by : (b : Bool) → b ≡ false → ((b && not (0 == 0)) || is_some (find (λ e. (e.client == (if b then 0 else 0)) && (e.id == window)) freed.book.image_ids)) ≡ false
    by true h = absurd cc
    by false h = none

pub grows-renewed : {A E : Type 0} (o : Result A E) (w : World) (next : Images) (window i s : ℕ) (nx : Next) (stays : Bool) → IsKept w.images w.book → IsForest w.images → IsNext w window s nx → CanReplace w.images nx
    → OnOk o (w.images i ≡ None) → OnOk o (next ≡ images_come w.images i nx stays) → OnOk o (Grows w.images next w.book i (Some s))
grows-renewed (Ok x) w next window i s nx stays kept forest is can free made =
    subst (λ (images : Images). Grows w.images images w.book i (Some s)) (sym made)
    (grows-new w.images (images_come w.images i nx stays) w.book i s nx.r (next_standing w.images nx) (new-come w.images i nx stays free can forest) (next-stands w window s nx kept is) can.points can.near)
grows-renewed (Err x) w next window i s nx stays kept forest is can free made = tt

pub renewed-world : (w : World) (window s : ℕ) (nx : Next) (f : Freed) (images : Images) (numbers : Numbers) (book : Book) → free_id w.book 0 window ≡ Ok f
    → images ≡ fold images_without (images_renewed w.images (next_image w) nx) f.gone → numbers ≡ fold numbers_without (taken w.numbers) f.gone → book ≡ with_window_id f.book window (next_image w) s
    → (let next : World = record w { images = images; numbers = numbers; book = book } in next) ≡ renewed w window s nx
unfolding renewed
renewed-world w window s nx f images numbers book e is given added =
    (λ i. let next : World = record w { images = is i; numbers = given i; book = added i } in next)
    ∙ sym (ap (λ (left : World). with_book left (with_window_id left.book window (next_image w) s)) (image-freed-world (with_made w (images_renewed w.images (next_image w) nx) w.book) window f e))

-- ---- what is kept

-- what is left where the new image did not come
pub kept-left : (images next last : Images) (book after : Book) (freed : Freed) → IsKept images book → IsForest images → IsFreed book freed → LeavesNone book freed → IsInOrder book [] freed.gone → KeepsRest book freed
    → image_id freed.book 0 0 ≡ image_id book 0 0 → next ≡ images → last ≡ fold images_without next freed.gone → after ≡ freed.book → IsKept last after
kept-left images next last book after freed kept forest is none order rest display same left e =
    subst (IsKept last) (sym e) (kept-after images last book freed kept forest is none order rest display (left ∙ ap (λ (w : Images). fold images_without w freed.gone) same))

pub added-is : (freed_book book added : Book) (window i n s : ℕ) → book ≡ freed_book → i ≡ n → added ≡ with_window_id book window i s → added ≡ with_window_id freed_book window n s
added-is freed_book book added window i n s same is e = e ∙ (λ j. with_window_id (same j) window (is j) s)

pub id-given : (book added : Book) (window i s : ℕ) → is_image_id_taken book 0 window ≡ false → added ≡ with_window_id book window i s → add_id book 0 window i (Some s) ≡ Ok added
id-given book added window i s free e = window-added book window i s free ∙ ap (λ (b : Book). let o : Outcome Book = Ok b in o) (sym e)

pub spare-given : (book added : Book) (window i s : ℕ) → AreSpare book → add_id book 0 window i (Some s) ≡ Ok added → AreSpare added
spare-given book added window i s spare e = let o : Outcome Book = Ok added in spare-added o book added 0 window i (Some s) spare e tt
