-- Where pixels are kept when an image that stands nowhere has another rectangle.
use Rattle.std.proofs.Common.{◌≡◌, ◌≢◌, ◌∙◌, ℕ, zero, suc, Bool, true, false, List, Option, Some, None, refl, sym, ap, ⊎_elim, arith}
use Rattle.std.specs.Prelude.{◌&&◌, if◌then◌else◌}
use Rattle.std.proofs.lemmas.Bool.{cases_eq, true≢false}
use Rattle.r9_geom.specs.declared.Point.{Point}
use Rattle.r9_geom.specs.Geometry.{carried, holds}
use Rattle.model_forest.specs.declared.Window.{Window}
use Rattle.model_forest.specs.View.{top_window}
use Rattle.model_forest.specs.World.{World, image_at, parent_of, IsForest, IsLive}
use Rattle.model_forest.proofs.Changes.{live-standing}
use Rattle.model_forest.proofs.Sound.{some_same}
use Rattle.model_kept.specs.Keeping.{is_shown, is_top, keeping, outward, own, place_among, IsStanding, Place}
use Rattle.model_kept.proofs.Worlds.{standing-forest}
use Rattle.r9_locate.proofs.locate.Locating.{keeping-root, keeping-up}
use Rattle.model_exchanged.proofs.resize.Sizes.{size-parent, SameButSize}
use Rattle.r9_relist.specs.resize.Moves.{IsLost, IsResized}
use Rattle.r9_relist.proofs.resize.Lost.{other_apart, top_by, top_is, top_out}

module _ (old new : World) (i raw : ℕ) (before after : Place → ℕ) (live : IsLive new i) (was : IsForest old) (ok : IsForest new) (same : SameButSize old new i) (is : IsResized new i (image_at old i).r raw before after) where
  stood : IsStanding old
  stood = standing-forest old was

  standing : IsStanding new
  standing = standing-forest new ok

  abbrev ws : List Window
  ws = (image_at new i).windows

  -- the image keeps its own
  pub root_now : parent_of new i ≡ None
  root_now = size-parent old new i same i ∙ same.nowhere

  -- a point of a window stands where it stood
  out_same : (p n : ℕ) (x : Point) → outward new p n x ≡ outward old p n x
  out_same p n x = λ j. carried x (same.min n j) (place_among (same.windows p j) n).min

  -- what an image keeps that does not stand on this one
  elsewhere : (n : ℕ) (x : Point) → n ≢ i → parent_of new n ≢ Some i → after (own n x) ≡ before (own n x)
  elsewhere n x other apart = is.others (own n x) other (λ q v lost. other_apart new i live ok n x q v apart lost.top)

  -- what was and is hidden
  hidden_both : (n : ℕ) (x : Point) → n ≢ i → ((v : Window) → v.image ≡ n → IsLost new i (image_at old i).r (outward new i n x) v → true ≡ false) → after (own n x) ≡ before (own n x)
  hidden_both n x other not_lost =
      is.others (own n x) other
      (λ q v lost e.
      let there : outward new i n x ≡ q = ap (λ (k : Place). outward new i k.image k.at) e ∙ top_out new i live ok q v lost.top in
      true≢false
      (not_lost v (ap (λ (k : Place). k.image) (sym e)) (record {
        had = ap (holds (image_at old i).r) there ∙ lost.had;
        gone = ap (holds (image_at new i).r) there ∙ lost.gone;
        top = ap (top_window ws) there ∙ lost.top;
      })))

  -- a window of the image
  of_window : (n : ℕ) (x : Point) → n ≢ i → (had here topmost : Bool) → holds (image_at old i).r (outward new i n x) ≡ had → holds (image_at new i).r (outward new i n x) ≡ here → is_top ws n (outward new i n x) ≡ topmost → after (if here && topmost then own i (outward new i n x) else own n x) ≡ before (if had && topmost then own i (outward new i n x) else own n x)
  of_window n x other true true true e h t = is.stays (outward new i n x) e h
  of_window n x other true false true e h t =
      let by = top_by new i live ok n x t in
      ap after (sym by.2) ∙ is.lost (outward new i n x) by.0 (record { had = e; gone = h; top = by.1 })
  of_window n x other false true true e h t =
      let by = top_by new i live ok n x t in
      is.won (outward new i n x) by.0 (record { missed = e; here = h; top = by.1 }) ∙ ap before by.2
  of_window n x other false false true e h t = hidden_both n x other (λ v named lost. sym lost.had ∙ e)
  of_window n x other had here false e h t =
      ap after (ap (λ b. if b then own i (outward new i n x) else own n x) (none here))
      ∙ hidden_both n x other
      (λ v named lost. sym (top_is new i live ok (outward new i n x) v lost.top) ∙ ap (λ m. is_top ws m (outward new i n x)) named ∙ t)
      ∙ sym (ap before (ap (λ b. if b then own i (outward new i n x) else own n x) (none had)))
    where
      none : (b : Bool) → (b && false) ≡ false
      none true = refl
      none false = refl

  -- in a window of another image
  of_other : (n p : ℕ) (x : Point) → p ≢ i → n ≢ i → parent_of new n ≡ Some p → (after (keeping new p (outward new p n x)) ≡ before (keeping old p (outward new p n x))) → after (keeping new n x) ≡ before (keeping old n x)
  of_other n p x away other stands below =
      let rect = same.r p away in
      let shown : is_shown old p n (outward new p n x) ≡ is_shown new p n (outward new p n x) = sym (λ j. holds (rect j) (outward new p n x) && is_top (same.windows p j) n (outward new p n x)) in
      ap after (keeping-up new standing n p x (live-standing new n p stands) stands)
      ∙ by_shown (is_shown new p n (outward new p n x)) refl
      ∙ sym (ap before (keeping-up old stood n p x (live-standing old n p stood_at) stood_at
      ∙ (λ j. if is_shown old p n (sym (out_same p n x) j) then keeping old p (sym (out_same p n x) j) else own n x)
      ∙ ap (λ b. if b then keeping old p (outward new p n x) else own n x) shown))
    where
      stood_at : parent_of old n ≡ Some p
      stood_at = sym (size-parent old new i same n) ∙ stands

      by_shown : (b : Bool) → is_shown new p n (outward new p n x) ≡ b → after (if is_shown new p n (outward new p n x) then keeping new p (outward new p n x) else own n x) ≡ before (if is_shown new p n (outward new p n x) then keeping old p (outward new p n x) else own n x)
      by_shown true e = (λ j. after (if e j then keeping new p (outward new p n x) else own n x)) ∙ below ∙ sym (λ j. before (if e j then keeping old p (outward new p n x) else own n x))
      by_shown false e =
          (λ j. after (if e j then keeping new p (outward new p n x) else own n x))
          ∙ elsewhere n x other (λ here. away (some_same p i (sym stands ∙ here)))
          ∙ sym (λ j. before (if e j then keeping old p (outward new p n x) else own n x))

  -- in one of this image
  of_this : (n : ℕ) (x : Point) → n ≢ i → parent_of new n ≡ Some i → after (keeping new n x) ≡ before (keeping old n x)
  of_this n x other stands =
      let q : Point = outward new i n x in
      ap after (keeping-up new standing n i x (live-standing new n i stands) stands ∙ ap (λ (k : Place). if is_shown new i n q then k else own n x) (keeping-root new i q root_now))
      ∙ of_window n x other (holds (image_at old i).r q) (holds (image_at new i).r q) (is_top ws n q) refl refl refl
      ∙ sym (ap before (keeping-up old stood n i x (live-standing old n i stood_at) stood_at
      ∙ (λ j. if is_shown old i n (sym (out_same i n x) j) then keeping old i (sym (out_same i n x) j) else own n x)
      ∙ ap (λ (k : Place). if is_shown old i n q then k else own n x) (keeping-root old i q same.nowhere)
      ∙ ap (λ (l : List Window). if holds (image_at old i).r q && is_top l n q then own i q else own n x) (sym (same.windows i))))
    where
      stood_at : parent_of old n ≡ Some i
      stood_at = sym (size-parent old new i same n) ∙ stands

  alike_step : (n : ℕ) (x : Point) → n ≢ i → ((p : ℕ) → parent_of new n ≡ Some p → p ≢ i → after (keeping new p (outward new p n x)) ≡ before (keeping old p (outward new p n x))) → after (keeping new n x) ≡ before (keeping old n x)
  alike_step n x other below = by_parent (parent_of new n) refl
    where
      by_parent : (o : Option ℕ) → parent_of new n ≡ o → after (keeping new n x) ≡ before (keeping old n x)
      by_parent None stands =
          ap after (keeping-root new n x stands)
          ∙ elsewhere n x other (λ here. let none : None ≡ Some i = sym stands ∙ here in cc)
          ∙ sym (ap before (keeping-root old n x (sym (size-parent old new i same n) ∙ stands)))
      by_parent (Some p) stands =
          ⊎_elim
          (λ (this : p ≡ i). of_this n x other (stands ∙ ap (λ m. Some m) this))
          (λ (away : p ≢ i). of_other n p x away other stands (below p stands away))
          (cases_eq p i)

  alike_within : (depth n : ℕ) (x : Point) → (image_at new n).depth ≡ depth → IsLive new n → n ≢ i → after (keeping new n x) ≡ before (keeping old n x)
  alike_within zero n x deep alive other =
      alike_step n x other (λ p stands away. let above = standing.above n p alive stands in absurd (omega (arith, above, deep)))
  alike_within (suc depth) n x deep alive other =
      alike_step n x other
      (λ p stands away.
      let above = standing.above n p alive stands in
      alike_within depth p (outward new p n x) (omega (arith, above, deep)) (standing.parents n p alive stands) away)

  -- what is kept for the others is what was
  pub alike : (n : ℕ) (x : Point) → IsLive new n → n ≢ i → after (keeping new n x) ≡ before (keeping old n x)
  alike n x alive other = alike_within (image_at new n).depth n x refl alive other
