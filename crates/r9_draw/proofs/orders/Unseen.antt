-- A window that goes first and unseen goes from where it stands as from far outside.
use Rattle.std.proofs.Common.{◌≡◌, ℕ, Bool, true, false, List, [], ◌∷◌, Option, None, refl, sym, ap, ◌∙◌}
use Rattle.std.specs.Prelude.{unwrap_or, if◌then◌else◌}
use Rattle.std.specs.List.{fold}
use Rattle.std.proofs.lemmas.Bool.{eqb-true}
use Rattle.r9_geom.specs.declared.Point.{Point}
use Rattle.model_forest.specs.Draw.{with_canvas}
use Rattle.model_forest.specs.Steps.{after_release, after_replace, after_replace_on}
use Rattle.model_forest.specs.World.{Image, IsForest, World, image_at, no_image}
use Rattle.model_exchanged.specs.exchanged.Exchanged.{LeavesUnseen, after_put_on, after_put_under}
use Rattle.model_exchanged.proofs.exchanged.Replaced.{on_goes, on_goes_drawn, on_same, under_goes, under_goes_drawn, under_same}
use Rattle.model_draw_parts.specs.declared.images.Thing.{Thing}
use Rattle.model_draw_parts.specs.declared.images.Thing.TheVariants.{Image as Shown, Screen}
use Rattle.model_draw.specs.draw.Orders.{bordered, border_pixel, corner, on_border, white}
use Rattle.r9_device.specs.device.Gone.{images_without}
use Rattle.r9_draw.specs.declared.orders.next.Next.{Next}
use Rattle.r9_draw.specs.orders.Ordering.{CanReplace, GoesUnseen, images_come, images_put, images_renewed, images_replaced, is_first}

-- ---- what goes first

first-is : (things : List Thing) (i : ℕ) → is_first things i ≡ true → (rest : List Thing) × (things ≡ Shown i ∷ rest)
first-is [] i h = absurd cc
first-is (Shown n ∷ things) i h = (things, ap (λ m. Shown m ∷ things) (eqb-true n i h))
first-is (Screen s ∷ things) i h = absurd cc

-- where its going leaves the same, all that goes does
pub first-gone : (a b : World) (gone : List Thing) (i : ℕ) → is_first gone i ≡ true → after_release a i ≡ after_release b i → fold images_without a gone ≡ fold images_without b gone
first-gone a b gone i h same =
    let first = first-is gone i h in
    ap (λ (things : List Thing). fold images_without a things) first.1
    ∙ ap (λ (w : World). fold images_without w first.0) same
    ∙ sym (ap (λ (things : List Thing). fold images_without b things) first.1)

-- ---- where another comes in place of it

module _ (images : World) (i : ℕ) (next : Next) (forest : IsForest images) (free : images i ≡ None) (can : CanReplace images next) where
  abbrev old : ℕ
  old = next.old.0

  abbrev p : ℕ
  p = next.parent.0

  abbrev to : Point
  to = corner next.r next.hidden

  abbrev over_raw : ℕ
  over_raw = white (image_at images old).chan

  abbrev on_raw : ℕ
  on_raw = white (image_at images p).chan

  abbrev put : Bool → World
  put above = if above then after_put_under images i old next.r to over_raw next.keep else after_put_on images i old p next.fill.0 next.r to on_raw next.keep

  abbrev replaced : Bool → World
  replaced above = if above then after_replace images i old next.r to over_raw next.keep else after_replace_on images i old p next.fill.0 next.r to on_raw next.keep

  same : images_put images i next i ≡ images_replaced images i next i
  same = by next.above
    where
      by : (above : Bool) → put above i ≡ replaced above i
      by true = under_same images i old next.r to over_raw next.keep forest free can.window
      by false = on_same images i old next.r to on_raw next.keep forest free can.window p next.fill.0 can.parent

  goes : LeavesUnseen images old p → after_release (images_put images i next) old ≡ after_release (images_replaced images i next) old
  goes unseen = by next.above
    where
      by : (above : Bool) → after_release (put above) old ≡ after_release (replaced above) old
      by true = under_goes images i old next.r to over_raw next.keep forest free can.window p unseen
      by false = on_goes images i old next.r to on_raw next.keep forest free can.window p next.fill.0 can.parent unseen

  goes-drawn : (area : Point → Bool) (raws : Point → ℕ) → LeavesUnseen images old p
      → after_release (with_canvas (images_put images i next) i area raws) old ≡ after_release (with_canvas (images_replaced images i next) i area raws) old
  goes-drawn area raws unseen = by next.above
    where
      by : (above : Bool) → after_release (with_canvas (put above) i area raws) old ≡ after_release (with_canvas (replaced above) i area raws) old
      by true = under_goes_drawn images i old next.r to over_raw next.keep forest free can.window p area raws unseen
      by false = on_goes_drawn images i old next.r to on_raw next.keep forest free can.window p next.fill.0 can.parent area raws unseen

  -- also where the new one has got its border
  goes-bordered : LeavesUnseen images old p → after_release (bordered (images_put images i next) i) old ≡ after_release (bordered (images_replaced images i next) i) old
  unfolding bordered
  goes-bordered unseen =
      let new : Image = image_at (images_put images i next) i in
      goes-drawn (on_border new.r) (λ _. border_pixel new.chan) unseen
      ∙ ap (λ (o : Option Image). after_release (with_canvas (images_replaced images i next) i (on_border (unwrap_or o no_image).r) (λ _. border_pixel (unwrap_or o no_image).chan)) old) same

  goes-come : LeavesUnseen images old p → after_release (images_come images i next true) old ≡ after_release (images_renewed images i next) old
  goes-come unseen = by next.keep
    where
      by : (keep : Bool) → after_release (if keep then images_put images i next else bordered (images_put images i next) i) old ≡ after_release (if keep then images_replaced images i next else bordered (images_replaced images i next) i) old
      by true = goes unseen
      by false = goes-bordered unseen

  -- once all has gone that goes
  pub come-gone : (stays : Bool) (gone : List Thing) → (stays ≡ true → GoesUnseen images old p gone) → fold images_without (images_come images i next stays) gone ≡ fold images_without (images_renewed images i next) gone
  come-gone false gone unseen = refl
  come-gone true gone unseen =
      let is = unseen refl in first-gone (images_come images i next true) (images_renewed images i next) gone old is.first (goes-come is.unseen)
