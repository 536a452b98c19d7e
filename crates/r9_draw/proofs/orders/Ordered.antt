-- What the images and the book keep together stays so in each step of the window manager's orders.
use Rattle.std.proofs.Common.{◌≡◌, ℕ, Bool, true, false, List, [], ◌∷◌, Option, Some, None, Result, Ok, Err, OnOk, OnErr, IfOk, refl, sym, ap, subst, ◌∙◌, arith}
use Rattle.std.specs.Prelude.{◌^◌, ◌+◌, ◌==◌, ◌&&◌, ◌||◌, not, is_none, is_some, option_map, unwrap_or, if◌then◌else◌}
use Rattle.std.specs.Option.{option_map_or}
use Rattle.std.specs.Result.{result_unwrap_or}
use Rattle.std.proofs.lemmas.Bool.{eqb-true}
use Rattle.std.proofs.lemmas.Int.{ints}
use Rattle.r9_geom.specs.declared.Point.{Point}
use Rattle.r9_geom.specs.declared.Rect.{Rect}
use Rattle.r9_geom.specs.Geometry.{at_min, carried, HasPoints, IsRectNearBy}
use Rattle.model_forest.specs.declared.Standing.{Standing}
use Rattle.model_forest.specs.declared.Window.{Window}
use Rattle.model_forest.specs.World.{Image, IsForest, World, image_at, no_image, parent_of, with_image}
use Rattle.model_forest.specs.Draw.{after_fill, with_canvas}
use Rattle.model_forest.specs.View.{is_bare, view}
use Rattle.model_forest.specs.Stack.{after_window, moved, new_window, seen}
use Rattle.model_forest.specs.Steps.{after_origin, after_replace, after_replace_on, carried_rect, put_above}
use Rattle.model_exchanged.specs.exchanged.Exchanged.{after_put_on, after_put_under, put_below}
use Rattle.r9_locate.specs.declared.info.ImageNo.{ImageNo}
use Rattle.model_forest.proofs.Releasing.{SameFrame, origin-at, Stays, changed-at, changed-other, relisted, relisted-stays, stays-after, stays-same, windows-stay}
use Rattle.model_draw_parts.specs.declared.images.ImageId.{ImageId}
use Rattle.model_draw_parts.specs.declared.images.Thing.TheVariants.{Screen}
use Rattle.model_draw_parts.specs.images.Book.{Book, add_id, fill_of, image_id, image_of, is_image_id_taken, screen_of, tie}
use Rattle.model_draw_parts.specs.images.Release.{is_used}
use Rattle.model_text.specs.text.Outcome.{Outcome}
use Rattle.model_draw_parts.specs.images.Ties.{HasTies}
use Rattle.model_draw.specs.draw.World.{World as Drawn}
use Rattle.model_draw.specs.draw.Orders.{bordered, corner, stands_on, white, with_window_id, with_window_name}
use Rattle.r9_draw.specs.declared.orders.next.Next.{Next}
use Rattle.r9_device.specs.device.Kept.{IsKept, standing_on}
use Rattle.r9_draw.specs.orders.Ordering.{CanReplace, IsNext, images_come, images_next}
use Rattle.r9_device.specs.device.Live.{CanHold}
use Rattle.r9_device.specs.device.Spare.{AreSpare}
use Rattle.r9_device.proofs.device.Adding.{add_id-fresh, live_apart}
use Rattle.r9_device.proofs.device.Lookups.{fill-of-used, image-of-used}
use Rattle.r9_device.proofs.device.Named.{kept-tied, spare-tied}
use Rattle.r9_device.proofs.device.Ties.{ties-tied}
use Rattle.r9_device.proofs.device.Kept.{Grows, kept-added, kept-same}
use Rattle.r9_device.proofs.device.Raising.{kept-staying}
use Rattle.r9_device.proofs.device.Rects.{wider}
use Rattle.r9_device.proofs.device.Shifting.{kept-shifted}

-- ---- what is written on an image

pub canvas-stays : (images : World) (i : ℕ) (area : Point → Bool) (raws : Point → ℕ) (n : ℕ) → is_some (images i) ≡ true → Stays images (with_canvas images i area raws) n
canvas-stays images i area raws n live = by (n == i) refl
  where
    drawn : Image
    drawn = record (image_at images i) { canvas = λ p. if area p && is_bare (image_at images i).windows p then raws p else (image_at images i).canvas p }

    here : Stays images (with_image images i (Some drawn)) i
    here =
        let Q : Option Image → Type 0 = λ o. SameFrame (image_at images i) (unwrap_or o no_image) in
        record {
          live = ap is_some (changed-at images i (Some drawn)) ∙ sym live;
          frame = subst Q (sym (changed-at images i (Some drawn))) (record { r = refl; clipr = refl; repl = refl; chan = refl; standing = refl; depth = refl });
        }

    by : (b : Bool) → (n == i) ≡ b → Stays images (with_image images i (Some drawn)) n
    by false e = stays-same images (with_image images i (Some drawn)) n (changed-other images i n (Some drawn) e)
    by true e = let P : ℕ → Type 0 = λ m. Stays images (with_image images i (Some drawn)) m in subst P (sym (eqb-true n i e)) here

pub fill-stays : (images : World) (i : ℕ) (r : Rect) (raw n : ℕ) → is_some (images i) ≡ true → Stays images (after_fill images i r raw) n
unfolding after_fill
fill-stays images i r raw n live = canvas-stays images i _ _ n live

pub kept-fill : (images : World) (book : Book) (i : ℕ) (r : Rect) (raw : ℕ) → IsKept images book → is_some (images i) ≡ true → IsKept (after_fill images i r raw) book
kept-fill images book i r raw kept live = kept-staying images _ book kept (λ n. fill-stays images i r raw n live)

pub border-stays : (images : World) (i n : ℕ) → is_some (images i) ≡ true → Stays images (bordered images i) n
unfolding bordered
border-stays images i n live = canvas-stays images i _ _ n live

-- ---- what comes

-- Image i is new, with this rectangle, and the others stay.
pub record IsNew (images next : World) (i : ℕ) (r : Rect) (standing : Option Standing) : Type 0 where
  pub free : images i ≡ None
  pub others : (n : ℕ) → (n == i) ≡ false → Stays images next n
  pub live : is_some (next i) ≡ true
  pub rect : (image_at next i).r ≡ r
  pub clip : (image_at next i).clipr ≡ r
  pub stands : (image_at next i).standing ≡ standing

-- an image that was put, whatever lists of windows change then
new-put : (images next : World) (i : ℕ) (x : Image) → x.clipr ≡ x.r → images i ≡ None → ((n : ℕ) → Stays (with_image images i (Some x)) next n) → IsNew images next i x.r x.standing
new-put images next i x same free stays =
    let put : World = with_image images i (Some x) in
    let P : Option Image → Type 0 = λ o. SameFrame (unwrap_or o no_image) (image_at next i) in
    let f : SameFrame x (image_at next i) = subst P (changed-at images i (Some x)) (stays i).frame in
    record {
      free = free;
      others = λ n e. stays-after images put next n (stays-same images put n (changed-other images i n (Some x) e)) (stays n);
      live = (stays i).live ∙ ap is_some (changed-at images i (Some x));
      rect = f.r;
      clip = f.clipr ∙ same;
      stands = f.standing;
    }

-- what stays where it stands after an image has come
pub new-stays : (images next after : World) (i : ℕ) (r : Rect) (standing : Option Standing) → IsNew images next i r standing → ((n : ℕ) → Stays next after n) → IsNew images after i r standing
new-stays images next after i r standing new stays =
    let f = (stays i).frame in
    record {
      free = new.free;
      others = λ n e. stays-after images next after n (new.others n e) (stays n);
      live = (stays i).live ∙ new.live;
      rect = f.r ∙ new.rect;
      clip = f.clipr ∙ new.clip;
      stands = f.standing ∙ new.stands;
    }

pub grows-new : (images next : World) (book : Book) (i s : ℕ) (r : Rect) (standing : Option Standing) → IsNew images next i r standing → standing ≡ Some (standing_on book s) → HasPoints r → IsRectNearBy (2 ^ 32) r
    → Grows images next book i (Some s)
grows-new images next book i s r standing new on points near = record {
  free = new.free;
  others = new.others;
  live = new.live;
  stands = new.stands ∙ on;
  points = subst HasPoints (sym new.rect) points;
  near = subst (IsRectNearBy (2 ^ 32)) (sym new.rect) near;
  clip = subst (IsRectNearBy (2 ^ 33)) (sym new.clip) (wider (2 ^ 32) (2 ^ 33) r (omega arith) near);
}

-- an image that lives does so beside a new one
still-live : (images : World) (i n : ℕ) (x : Image) → is_some (images n) ≡ true → is_some (with_image images i (Some x) n) ≡ true
still-live images i n x live = by (n == i)
  where
    by : (b : Bool) → is_some (if b then Some x else images n) ≡ true
    by true = refl
    by false = live

pub new-window : (images : World) (i parent fill : ℕ) (r : Rect) (raw : ℕ) → images i ≡ None → is_some (images parent) ≡ true → IsNew images (after_window images i parent fill r raw) i r (Some (record { parent = parent; fill = fill }))
unfolding after_window
new-window images i parent fill r raw free live =
    let x : Image = new_window images parent fill r raw in
    let put : World = with_image images i (Some x) in
    new-put images _ i x refl free (λ n. windows-stay put parent n (record { image = i; place = r } ∷ (image_at images parent).windows) (still-live images i parent x live))

-- the parent of another image than the new one
parent-still : (images : World) (i old : ℕ) (x : Image) → (old == i) ≡ false → parent_of (with_image images i (Some x)) old ≡ parent_of images old
parent-still images i old x e = ap (λ (o : Option Image). option_map (λ (s : Standing). s.parent) (unwrap_or o no_image).standing) (changed-other images i old (Some x) e)

-- a list changes where an image stands that was there before
list-stays : (images world : World) (old n : ℕ) (change : List Window → List Window) → ((p : ℕ) → parent_of images old ≡ Some p → is_some (images p) ≡ true)
    → ((m : ℕ) → is_some (images m) ≡ true → is_some (world m) ≡ true) → parent_of world old ≡ parent_of images old → Stays world (relisted world change (parent_of world old)) n
list-stays images world old n change parents lives same = relisted-stays world change n (parent_of world old) (λ p e. lives p (parents p (sym same ∙ e)))

parent-stays : (a b : World) (n : ℕ) → Stays a b n → parent_of b n ≡ parent_of a n
parent-stays a b n stays = ap (λ (o : Option Standing). option_map (λ (s : Standing). s.parent) o) stays.frame.standing

-- what lives lives beside a new image
new-lives : (images next : World) (i n : ℕ) (r : Rect) (standing : Option Standing) → IsNew images next i r standing → is_some (images n) ≡ true → is_some (next n) ≡ true
new-lives images next i n r standing new live = (new.others n (live_apart images n i live new.free)).live ∙ live

-- a window that comes beside another, white or of its contents
abbrev beside : World → (old : ℕ) → Rect → (raw : ℕ) → (keep : Bool) → Image
beside images old r raw keep =
    let image = image_at images old in
    record {
      r = r;
      clipr = r;
      repl = false;
      chan = image.chan;
      standing = image.standing;
      depth = image.depth;
      canvas = seen r [] (λ p. if keep then view images old (carried p r.min image.r.min) else raw);
      windows = [];
    }

-- wherever the list has it
new-beside : (images : World) (i old : ℕ) (r : Rect) (raw : ℕ) (keep : Bool) (change : List Window → List Window) → images i ≡ None → is_some (images old) ≡ true
    → ((p : ℕ) → parent_of images old ≡ Some p → is_some (images p) ≡ true)
    → (let put : World = with_image images i (Some (beside images old r raw keep)) in IsNew images (relisted put change (parent_of put old)) i r (image_at images old).standing)
new-beside images i old r raw keep change free live parents =
    let x : Image = beside images old r raw keep in
    let put : World = with_image images i (Some x) in
    new-put images _ i x refl free (λ n. list-stays images put old n change parents (λ m h. still-live images i m x h) (parent-still images i old x (live_apart images old i live free)))

pub new-put_under : (images : World) (i old : ℕ) (r : Rect) (corner : Point) (raw : ℕ) (keep : Bool) → images i ≡ None → is_some (images old) ≡ true
    → ((p : ℕ) → parent_of images old ≡ Some p → is_some (images p) ≡ true) → IsNew images (after_put_under images i old r corner raw keep) i r (image_at images old).standing
unfolding after_put_under
new-put_under images i old r corner raw keep free live parents = new-beside images i old r raw keep (put_below (record { image = i; place = carried_rect r r.min corner }) old) free live parents

pub new-put_on : (images : World) (i old parent fill : ℕ) (r : Rect) (corner : Point) (raw : ℕ) (keep : Bool) → images i ≡ None → is_some (images parent) ≡ true
    → IsNew images (after_put_on images i old parent fill r corner raw keep) i r (Some (record { parent = parent; fill = fill }))
unfolding after_put_on
new-put_on images i old parent fill r corner raw keep free there =
    let x : Image = record {
      r = r;
      clipr = r;
      repl = false;
      chan = (image_at images parent).chan;
      standing = Some (record { parent = parent; fill = fill });
      depth = (image_at images parent).depth + 1;
      canvas = seen r [] (λ p. if keep then view images old (carried p r.min (image_at images old).r.min) else raw);
      windows = [];
    } in
    let first : Window = record { image = i; place = carried_rect r r.min corner } in
    new-put images _ i x refl free (λ n. windows-stay (with_image images i (Some x)) parent n (first ∷ (image_at images parent).windows) (still-live images i parent x there))

-- the other moves far outside then
new-away : (images put : World) (i old n : ℕ) (r place : Rect) (standing : Option Standing) → is_some (images old) ≡ true → ((p : ℕ) → parent_of images old ≡ Some p → is_some (images p) ≡ true)
    → IsNew images put i r standing → Stays put (relisted put (moved old place) (parent_of put old)) n
new-away images put i old n r place standing live parents new =
    list-stays images put old n (moved old place) parents (λ m h. new-lives images put i m r standing new h) (parent-stays images put old (new.others old (live_apart images old i live new.free)))

pub new-replace : (images : World) (i old : ℕ) (r : Rect) (corner : Point) (raw : ℕ) (keep : Bool) → images i ≡ None → is_some (images old) ≡ true
    → ((p : ℕ) → parent_of images old ≡ Some p → is_some (images p) ≡ true) → IsNew images (after_replace images i old r corner raw keep) i r (image_at images old).standing
unfolding after_replace
new-replace images i old r corner raw keep free live parents =
    let above : List Window → List Window = put_above (record { image = i; place = carried_rect r r.min corner }) old in
    let came : World = with_image images i (Some (beside images old r raw keep)) in
    let put : World = relisted came above (parent_of came old) in
    let new : IsNew images put i r (image_at images old).standing = new-beside images i old r raw keep above free live parents in
    new-stays images put _ i r _ new (λ n. new-away images put i old n r _ _ live parents new)

pub new-replace_on : (images : World) (i old parent fill : ℕ) (r : Rect) (corner : Point) (raw : ℕ) (keep : Bool) → images i ≡ None → is_some (images old) ≡ true → is_some (images parent) ≡ true
    → ((p : ℕ) → parent_of images old ≡ Some p → is_some (images p) ≡ true)
    → IsNew images (after_replace_on images i old parent fill r corner raw keep) i r (Some (record { parent = parent; fill = fill }))
unfolding after_put_on after_replace_on
new-replace_on images i old parent fill r corner raw keep free live there parents =
    let put : World = after_put_on images i old parent fill r corner raw keep in
    let new : IsNew images put i r (Some (record { parent = parent; fill = fill })) = new-put_on images i old parent fill r corner raw keep free there in
    new-stays images put _ i r _ new (λ n. new-away images put i old n r _ _ live parents new)

-- where the next image of a window stands
abbrev pub next_standing : World → Next → Option Standing
next_standing images next = if next.above then (image_at images next.old.0).standing else Some (record { parent = next.parent.0; fill = next.fill.0 })

pub new-next : (images : World) (i : ℕ) (next : Next) (stays : Bool) → images i ≡ None → CanReplace images next → IsForest images → IsNew images (images_next images i next stays) i next.r (next_standing images next)
new-next images i next stays free can forest = by stays next.above
  where
    old : ℕ
    old = next.old.0

    on : Option Standing
    on = Some (record { parent = next.parent.0; fill = next.fill.0 })

    parents : (p : ℕ) → parent_of images old ≡ Some p → is_some (images p) ≡ true
    parents p e = forest.parents old p can.old e

    to : Point
    to = corner next.r next.hidden

    raw_over : ℕ
    raw_over = white (image_at images old).chan

    raw_on : ℕ
    raw_on = white (image_at images next.parent.0).chan

    by : (b above : Bool) → IsNew images
        (if b then (if above then after_put_under images i old next.r to raw_over next.keep else after_put_on images i old next.parent.0 next.fill.0 next.r to raw_on next.keep)
        else (if above then after_replace images i old next.r to raw_over next.keep else after_replace_on images i old next.parent.0 next.fill.0 next.r to raw_on next.keep))
        i next.r (if above then (image_at images old).standing else on)
    by true true = new-put_under images i old next.r to raw_over next.keep free can.old parents
    by true false = new-put_on images i old next.parent.0 next.fill.0 next.r to raw_on next.keep free can.parent
    by false true = new-replace images i old next.r to raw_over next.keep free can.old parents
    by false false = new-replace_on images i old next.parent.0 next.fill.0 next.r to raw_on next.keep free can.old can.parent parents

pub new-come : (images : World) (i : ℕ) (next : Next) (stays : Bool) → images i ≡ None → CanReplace images next → IsForest images → IsNew images (images_come images i next stays) i next.r (next_standing images next)
new-come images i next stays free can forest = by next.keep
  where
    came : World
    came = images_next images i next stays

    new : IsNew images came i next.r (next_standing images next)
    new = new-next images i next stays free can forest

    by : (b : Bool) → IsNew images (if b then came else bordered came i) i next.r (next_standing images next)
    by true = new
    by false = new-stays images _ _ i next.r _ new (λ n. border-stays came i n new.live)

pub next-comes : (images next : World) (i : ℕ) (nx : Next) (stays : Bool) → images i ≡ None → CanReplace images nx → IsForest images → next ≡ images_next images i nx stays → IsNew images next i nx.r (next_standing images nx)
next-comes images next i nx stays free can forest made = subst (λ (w : World). IsNew images w i nx.r (next_standing images nx)) (sym made) (new-next images i nx stays free can forest)

-- which is where its screen has it
pub next-stands : (w : Drawn) (window s : ℕ) (next : Next) → IsKept w.images w.book → IsNext w window s next → next_standing w.images next ≡ Some (standing_on w.book s)
next-stands w window s next kept is = by next.above refl
  where
    on : (o : Option ℕ) → screen_of w.book next.old.0 ≡ o → option_map_or (λ t. t == s) o false ≡ true → option_map (standing_on w.book) o ≡ Some (standing_on w.book s)
    on (Some t) e h = ap (λ n. Some (standing_on w.book n)) (eqb-true t s h)
    on None e h = absurd cc

    stands : stands_on w.book next.old.0 s ≡ next.above
    stands = ap (λ n. stands_on w.book n s) is.old ∙ sym is.above

    by : (b : Bool) → next.above ≡ b → (if b then (image_at w.images next.old.0).standing else Some (record { parent = next.parent.0; fill = next.fill.0 })) ≡ Some (standing_on w.book s)
    by true e = (kept.placed next.old.0).stands ∙ on (screen_of w.book next.old.0) refl (stands ∙ e)
    by false e = λ j. Some (record { parent = is.parent j; fill = is.fill j })

-- ---- a window at another place, whose own coordinates stay

same_corner : (r : Rect) → IsRectNearBy (2 ^ 32) r → IsRectNearBy (2 ^ 32) (at_min r r.min)
same_corner r near =
    let high = near.max in
    let left = high.left in
    let right = high.right in
    let top = high.top in
    let bottom = high.bottom in
    record {
      min = near.min;
      max = record { left = omega (arith, ints); right = omega (arith, ints); top = omega (arith, ints); bottom = omega (arith, ints) };
    }

pub kept-place : (images : World) (book : Book) (i : ℕ) (corner : Point) → IsKept images book → is_some (images i) ≡ true → ((p : ℕ) → parent_of images i ≡ Some p → is_some (images p) ≡ true)
    → IsKept (after_origin images i (image_at images i).r.min corner) book
kept-place images book i corner kept live parents = kept-shifted images book i (image_at images i).r.min corner kept live parents (same_corner (image_at images i).r (kept.placed i).near)

-- ---- the id and the name of a window

-- an id that the window manager does not have is not that of the display
pub fresh-other : (images : World) (book : Book) (window : ℕ) → IsKept images book → is_none (image_id book 0 window) ≡ true → (window == 0) ≡ false
fresh-other images book window kept fresh = by (window == 0) refl
  where
    shown : (o : Option ImageId) → is_none o ≡ true → option_map (λ e. e.image) o ≡ Some 0 → ⊥
    shown (Some x) h e = cc
    shown None h e = cc

    by : (b : Bool) → (window == 0) ≡ b → b ≡ false
    by true e = absurd (shown (image_id book 0 window) fresh (ap (λ n. option_map (λ e. e.image) (image_id book 0 n)) (eqb-true window 0 e) ∙ kept.display))
    by false e = refl

pub fresh-taken : (book : Book) (window : ℕ) → is_none (image_id book 0 window) ≡ true → (window == 0) ≡ false → is_image_id_taken book 0 window ≡ false
fresh-taken book window fresh other = ap (λ b. (b && not (0 == 0)) || is_some (image_id book 0 window)) other ∙ by (image_id book 0 window) fresh
  where
    by : (o : Option ImageId) → is_none o ≡ true → is_some o ≡ false
    by (Some x) h = absurd cc
    by None h = refl

-- an id that is free is given
pub window-added : (book : Book) (window i s : ℕ) → is_image_id_taken book 0 window ≡ false → add_id book 0 window i (Some s) ≡ Ok (with_window_id book window i s)
window-added book window i s free = add_id-fresh book book 0 window i (Some s) free

pub white-ok : {A E : Type 0} (o : Result A E) (book added : Book) (window i s : ℕ) → is_image_id_taken book 0 window ≡ false → OnOk o (added ≡ with_window_id book window i s) → OnOk o (add_id book 0 window i (Some s) ≡ Ok added)
white-ok (Ok x) book added window i s free e = window-added book window i s free ∙ ap (λ (b : Book). let o : Outcome Book = Ok b in o) (sym e)
white-ok (Err x) book added window i s free e = tt

-- what a screen that is used has
pub can-hold : (images : World) (book : Book) (s : ℕ) → IsKept images book → is_used book (Screen s) ≡ true → CanHold images book s (image_at images (image_of book s)).chan
can-hold images book s kept used =
    let there = kept.screens s used in
    record {
      there = there;
      image = kept.live _ (image-of-used book s there);
      fill = kept.live _ (fill-of-used book s there);
      alike = refl;
    }

-- a white image with the id of a window
pub kept-white : {A E : Type 0} (o : Result A E) (images next : World) (book added : Book) (window i s : ℕ) (r : Rect) (raw : ℕ) → IsKept images book → is_none (image_id book 0 window) ≡ true → is_used book (Screen s) ≡ true
    → HasPoints r → IsRectNearBy (2 ^ 32) r → OnOk o (images i ≡ None) → OnOk o (next ≡ after_window images i (image_of book s) (fill_of book s) r raw) → OnOk o (added ≡ with_window_id book window i s)
    → OnErr o (next ≡ images) → OnErr o (added ≡ book) → IsKept next added
kept-white (Ok x) images next book added window i s r raw kept fresh used points near free made is same_images same_book =
    let other = fresh-other images book window kept fresh in
    let can = can-hold images book s kept used in
    let new : IsNew images next i r (Some (standing_on book s)) = subst (λ (w : World). IsNew images w i r (Some (standing_on book s))) (sym made) (new-window images i (image_of book s) (fill_of book s) r raw free can.image) in
    kept-added images next book added 0 window i (Some s) kept (grows-new images next book i s r _ new refl points near)
    (window-added book window i s (fresh-taken book window fresh other) ∙ ap (λ (b : Book). let o : Outcome Book = Ok b in o) (sym is)) other can.there
kept-white (Err x) images next book added window i s r raw kept fresh used points near free made is same_images same_book =
    subst (IsKept next) (sym same_book) (kept-same images next book kept same_images)

-- where the new image is found under its number
pub white-stands : {E : Type 0} (o : Result ImageNo E) (images next : World) (book : Book) (i s : ℕ) (r : Rect) (raw : ℕ) → is_some (images (image_of book s)) ≡ true → IfOk o (λ n. n.0 ≡ i)
    → OnOk o (images i ≡ None) → OnOk o (next ≡ after_window images i (image_of book s) (fill_of book s) r raw) → IfOk o (λ n. IsNew images next n.0 r (Some (standing_on book s)))
white-stands (Ok n) images next book i s r raw live is free made =
    subst (λ (m : ℕ). IsNew images next m r (Some (standing_on book s))) (sym is)
    (subst (λ (w : World). IsNew images w i r (Some (standing_on book s))) (sym made) (new-window images i (image_of book s) (fill_of book s) r raw free live))
white-stands (Err x) images next book i s r raw live is free made = tt

pub white-lives : {E : Type 0} (o : Result ImageNo E) (images next : World) (r : Rect) (standing : Option Standing) → IfOk o (λ n. IsNew images next n.0 r standing) → IfOk o (λ n. is_some (next n.0) ≡ true)
white-lives (Ok n) images next r standing new = new.live
white-lives (Err x) images next r standing new = tt

pub white-rect : {E : Type 0} (o : Result ImageNo E) (images next : World) (r : Rect) (standing : Option Standing) → IfOk o (λ n. IsNew images next n.0 r standing) → IfOk o (λ n. (image_at next n.0).r ≡ r)
white-rect (Ok n) images next r standing new = new.rect
white-rect (Err x) images next r standing new = tt

-- ---- by the calls

pub by-result : {A E : Type 0} (P : Book → Type 0) (o : Result A E) (book made next : Book) → P book → P made → OnOk o (next ≡ made) → OnErr o (next ≡ book) → P next
by-result P (Ok x) book made next before after ok err = subst P (sym ok) after
by-result P (Err x) book made next before after ok err = subst P (sym err) before

pub kept-bordered : (images next : World) (book : Book) (i : ℕ) → IsKept images book → is_some (images i) ≡ true → next ≡ bordered images i → IsKept next book
kept-bordered images next book i kept live is = kept-same _ next book (kept-staying images (bordered images i) book kept (λ n. border-stays images i n live)) is

pub kept-hidden : {A E : Type 0} (o : Result A E) (images next : World) (book : Book) (i : ℕ) (min corner : Point) → IsKept images book → is_some (images i) ≡ true → IsForest images
    → IsRectNearBy (2 ^ 32) (at_min (image_at images i).r min) → OnOk o (next ≡ after_origin images i min corner) → OnErr o (next ≡ images) → IsKept next book
kept-hidden (Ok x) images next book i min corner kept live forest near ok err = kept-same _ next book (kept-shifted images book i min corner kept live (λ p e. forest.parents i p live e) near) ok
kept-hidden (Err x) images next book i min corner kept live forest near ok err = kept-same images next book kept err

pub hidden-lives : {A E : Type 0} (o : Result A E) (images next : World) (i : ℕ) (min corner : Point) → is_some (images i) ≡ true → OnOk o (next ≡ after_origin images i min corner) → OnErr o (next ≡ images) → is_some (next i) ≡ true
hidden-lives (Ok x) images next i min corner live ok err = ap (λ (w : World). is_some (w i)) ok ∙ ap is_some (origin-at images i min corner)
hidden-lives (Err x) images next i min corner live ok err = ap (λ (w : World). is_some (w i)) err ∙ live

pub kept-window_named : (images : World) (book : Book) (window : ℕ) (name : List ℕ) → IsKept images book → IsKept images (with_window_name book window name)
kept-window_named images book window name kept = by (tie book 0 window name) refl
  where
    by : (o : Outcome Book) → tie book 0 window name ≡ o → IsKept images (result_unwrap_or o book)
    by (Ok next) e = let o : Outcome Book = Ok next in kept-tied o images book next 0 window name kept e tt
    by (Err n) e = kept

pub spare-window_named : (book : Book) (window : ℕ) (name : List ℕ) → AreSpare book → AreSpare (with_window_name book window name)
spare-window_named book window name spare = by (tie book 0 window name) refl
  where
    by : (o : Outcome Book) → tie book 0 window name ≡ o → AreSpare (result_unwrap_or o book)
    by (Ok next) e = let o : Outcome Book = Ok next in spare-tied o book next 0 window name spare e tt
    by (Err n) e = spare

pub ties-window_named : (book : Book) (window : ℕ) (name : List ℕ) → HasTies book → HasTies (with_window_name book window name)
ties-window_named book window name ties = by (tie book 0 window name) refl
  where
    by : (o : Outcome Book) → tie book 0 window name ≡ o → HasTies (result_unwrap_or o book)
    by (Ok next) e = let o : Outcome Book = Ok next in ties-tied o book next 0 window name ties e tt
    by (Err n) e = ties
