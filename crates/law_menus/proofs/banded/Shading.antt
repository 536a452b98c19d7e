-- A band is drawn in a menu's window.
use Rattle.std.proofs.Common.{◌≡◌, ◌∙◌, ◌<◌, ◌+◌, ◌*◌, ℕ, ◌==◌, suc, Bool, true, false, ◌&&◌, cond, List, Option, Some, Ok, refl, sym, ap, subst, arith, eq-eqb}
use Rattle.std.specs.Prelude.{unwrap_or}
use Rattle.std.proofs.lemmas.Bool.{and_right}
use Rattle.r9_geom.specs.declared.Point.{Point}
use Rattle.r9_geom.specs.declared.Rect.{Rect}
use Rattle.r9_geom.specs.Geometry.{carried, holds}
use Rattle.model_text.proofs.map.Maps.{with-here}
use Rattle.model_text.specs.text.Map.{lookup}
use Rattle.model_pixel.specs.Channels.{expand}
use Rattle.model_draw_parts.specs.dmsg.Message.{LowD}
use Rattle.model_forest.specs.World.{Image, World as Images, image_at, no_image}
use Rattle.model_forest.specs.View.{at, is_bare, view}
use Rattle.model_forest.specs.Draw.{Drawing, after_draw, drawn, in_area, reaches}
use Rattle.model_draw_parts.specs.images.Book.{Book, image}
use Rattle.model_draw.specs.draw.World.{Client, World, at_number, client_of, s_over_d}
use Rattle.model_draw.specs.draw.Drawing.{draw, drawing_of}
use Rattle.model_draw.specs.draw.Orders.{white}
use Rattle.model_draw.specs.draw.Act.{act, behind}
use Rattle.law_text.proofs.client.Messages.{drawing_first, is_coordinate}
use Rattle.law_text.proofs.client.Writes.{Leads, leads_message}
use Rattle.law_desk.specs.bands.Bands.{band}
use Rattle.model_clients.specs.page.Text.{box, origin, rgb24}
use Rattle.law_text.specs.page.Page.{IsColour, IsSheet}
use Rattle.law_text.proofs.page.Acting.{drawn_on}
use Rattle.law_text.proofs.page.Colours.{copy}
use Rattle.law_text.proofs.page.Painting.{colour_at, colour_reaches}
use Rattle.law_text.proofs.page.Spots.{box_holds, spot}
use Rattle.law_text.proofs.page.Strokes.{IsCounted, carried_top, counted}
use Rattle.law_menus.specs.inked.Inked.{connection}
use Rattle.law_menus.specs.banded.Banded.{band_box, ink, menu_box, shaded}
use Rattle.law_menus.proofs.banded.Inks.{ink_opaque}

-- ---- what a drawing leaves

drawn_image : (images : Images) (d : Drawing) → image_at (after_draw images d) d.dst
    ≡ record (image_at images d.dst) { canvas = λ p. cond (in_area images d p && is_bare (image_at images d.dst).windows p) (drawn images d p) ((image_at images d.dst).canvas p) }
unfolding after_draw
drawn_image images d = rw (eq-eqb d.dst d.dst refl) refl

pub other_slot : (images : Images) (d : Drawing) (j : ℕ) → (j == d.dst) ≡ false → after_draw images d j ≡ images j
unfolding after_draw
other_slot images d j other = rw other refl

pub same_standing : (images : Images) (d : Drawing) → (image_at (after_draw images d) d.dst).standing ≡ (image_at images d.dst).standing
same_standing images d = ap (λ (im : Image). im.standing) (drawn_image images d)

-- a sheet shows at the points that are drawn on what they got, and elsewhere what it showed
drawn_sheet : (images : Images) (d : Drawing) (place : Rect) (chan : ℕ) (pixel next : Point → ℕ) → IsSheet (image_at images d.dst) place chan pixel
    → ((p : Point) → holds place p ≡ true → (in_area images d p ≡ true → drawn images d p ≡ next p) × (in_area images d p ≡ false → pixel p ≡ next p)) → IsSheet (image_at (after_draw images d) d.dst) place chan next
drawn_sheet images d place chan pixel next sheet each = subst (λ (im : Image). IsSheet im place chan next) (sym (drawn_image images d)) (record {
  r = sheet.r;
  clipr = sheet.clipr;
  repl = sheet.repl;
  chan = sheet.chan;
  canvas = λ p held. rw sheet.windows (by p held (in_area images d p) refl);
  windows = sheet.windows;
})
  where
    by : (p : Point) → holds place p ≡ true → (b : Bool) → in_area images d p ≡ b → cond (b && true) (drawn images d p) ((image_at images d.dst).canvas p) ≡ next p
    by p held true is = (each p held).0 is
    by p held false is = sheet.canvas p held ∙ (each p held).1 is

-- ---- one band

-- an image of the menu's window, while so many bands are drawn
pub record IsShaded (from : World) (book : Book) (i x y count : ℕ) (device : World) : Type 0 where
  pub same_book : device.book ≡ book
  pub same_numbers : device.numbers ≡ from.numbers
  pub same_opening : device.opening ≡ from.opening
  pub state : Client
  pub connected : lookup device.clients connection ≡ Some state
  pub over : state.op ≡ s_over_d
  pub sheet : IsSheet (at_number device i) (menu_box x y) rgb24 (shaded x y count)
  pub others : (j : ℕ) → (j == i) ≡ false → device.images j ≡ from.images j
  pub stands : (at_number device i).standing ≡ (at_number from i).standing

behind_drawing : (k : ℕ) (device : World) (dst src mask : ℕ) (r : Rect) (sp mp : Point) (rest : List ℕ) → behind k device (LowD dst src mask r sp mp) rest ≡ rest
unfolding behind
behind_drawing k device dst src mask r sp mp rest = refl

-- the drawing of a band, from the image of its colour through white
abbrev shading : (i x y item pen paper : ℕ) → Drawing
shading i x y item pen paper = record { dst = i; clip = band_box x y item; r = band_box x y item; src = pen; sp = origin; mask = Some paper; mp = origin; op = 11 }

draws : (device : World) (i x y item pen paper : ℕ) (state : Client) (rest : List ℕ) → image device.book connection 7 ≡ Ok i → image device.book connection (2 + item) ≡ Ok pen → image device.book connection 1 ≡ Ok paper
    → lookup device.clients connection ≡ Some state → state.op ≡ s_over_d
    → act connection device (LowD 7 (2 + item) 1 (band_box x y item) origin origin) rest ≡ Ok (drawn_on connection device (after_draw device.images (shading i x y item pen paper)))
unfolding act draw drawing_of
draws device i x y item pen paper state rest window found mask connected over = rw (window, found, mask, connected, over) refl

module _ (images : Images) (i x y item pen paper : ℕ) (few : item < 5) (left : x < 640) (top : y < 480) (colour : IsColour (image_at images pen) (ink item)) (mask : IsColour (image_at images paper) (white rgb24))
    (sheet : IsSheet (image_at images i) (menu_box x y) rgb24 (shaded x y item)) where
  abbrev d : Drawing
  d = shading i x y item pen paper

  abbrev bx : ℕ
  bx = x + 4

  abbrev by : ℕ
  by = y + 4 + 16 * item

  band_is : band_box x y item ≡ box bx by (bx + 40) (by + 16)
  band_is =
      let right : x + 44 ≡ bx + 40 = omega arith in
      let bottom : y + 20 + 16 * item ≡ by + 16 = omega arith in
      λ j. box bx by (right j) (bottom j)

  point_of : (p : Point) → holds (band_box x y item) p ≡ true → IsCounted bx by 40 16 p
  point_of p held = counted bx by 40 16 p (subst (λ (r : Rect). holds r p ≡ true) band_is held)

  module _ (dx dy : ℕ) (wide : dx < 40) (high : dy < 16) where
    ink_reaches : reaches (image_at images pen) (carried (spot (bx + dx) (by + dy)) (spot bx by) origin) ≡ true
    ink_reaches = subst (λ (q : Point). reaches (image_at images pen) q ≡ true) (sym (carried_top bx by 0 dx dy)) (colour_reaches (image_at images pen) (ink item) (0 + dx) dy colour (omega (arith, wide)) (omega (arith, high)))

    white_reaches : reaches (image_at images paper) (carried (spot (bx + dx) (by + dy)) (spot bx by) origin) ≡ true
    white_reaches = subst (λ (q : Point). reaches (image_at images paper) q ≡ true) (sym (carried_top bx by 0 dx dy)) (colour_reaches (image_at images paper) (white rgb24) (0 + dx) dy mask (omega (arith, wide)) (omega (arith, high)))

    in_menu : holds (menu_box x y) (spot (bx + dx) (by + dy)) ≡ true
    in_menu = box_holds x y (x + 48) (y + 88) (bx + dx) (by + dy) (record { left = omega arith; right = omega (arith, wide); top = omega arith; bottom = omega (arith, high, few) })

    in_band : holds (band_box x y item) (spot (bx + dx) (by + dy)) ≡ true
    in_band = box_holds bx by (x + 44) (y + 20 + 16 * item) (bx + dx) (by + dy) (record { left = omega arith; right = omega (arith, wide); top = omega arith; bottom = omega (arith, high) })

    reached : in_area images d (spot (bx + dx) (by + dy)) ≡ true
    reached = rw (ink_reaches, white_reaches, sheet.r, sheet.clipr, in_menu, in_band) refl

    ink_there : at images pen (carried (spot (bx + dx) (by + dy)) (spot bx by) origin) ≡ ink item
    ink_there = ap (at images pen) (carried_top bx by 0 dx dy) ∙ colour_at images pen (ink item) (0 + dx) dy colour

    white_there : at images paper (carried (spot (bx + dx) (by + dy)) (spot bx by) origin) ≡ white rgb24
    white_there = ap (at images paper) (carried_top bx by 0 dx dy) ∙ colour_at images paper (white rgb24) (0 + dx) dy mask

    drawn_there : drawn images d (spot (bx + dx) (by + dy)) ≡ ink item
    drawn_there = rw (ink_there, white_there, sheet.chan, colour.chan, mask.chan) (copy (ink item) (expand rgb24 (view images i (spot (bx + dx) (by + dy)))) (ink_opaque item few))

  outside_band : (p : Point) → holds (band_box x y item) p ≡ false → in_area images d p ≡ false
  outside_band p without = rw (without, and_right (holds (image_at images i).r p && holds (image_at images i).clipr p) false refl) refl

  pub band_drawn : IsSheet (image_at (after_draw images d) i) (menu_box x y) rgb24 (shaded x y (suc item))
  band_drawn = drawn_sheet images d (menu_box x y) rgb24 (shaded x y item) (shaded x y (suc item)) sheet (λ p held. by_band p held (holds (band_box x y item) p) refl)
    where
      by_band : (p : Point) → holds (menu_box x y) p ≡ true → (b : Bool) → holds (band_box x y item) p ≡ b
          → (in_area images d p ≡ true → drawn images d p ≡ shaded x y (suc item) p) × (in_area images d p ≡ false → shaded x y item p ≡ shaded x y (suc item) p)
      by_band p held true within =
          let c = point_of p within in
          let now : shaded x y (suc item) p ≡ ink item = rw within refl in (
            λ _. subst (λ (q : Point). drawn images d q ≡ ink item) (sym c.is) (drawn_there c.dx c.dy c.wide c.high) ∙ sym now,
            λ off. absurd (let both : true ≡ false = sym (subst (λ (q : Point). in_area images d q ≡ true) (sym c.is) (reached c.dx c.dy c.wide c.high)) ∙ off in cc both),
          )
      by_band p held false without =
          let now : shaded x y (suc item) p ≡ shaded x y item p = rw without refl in
          (λ on. absurd (let both : true ≡ false = sym on ∙ outside_band p without in cc both), λ _. sym now)

-- what the message of a band leads to
pub record IsBanded (from : World) (book : Book) (i x y item : ℕ) (device : World) : Type 0 where
  pub after : World
  pub leads : Leads connection device after (band x y item)
  pub shaded : IsShaded from book i x y (suc item) after

pub shades : (from : World) (book : Book) (i x y item pen paper : ℕ) (device : World) → item < 5 → x < 640 → y < 480 → IsShaded from book i x y item device
    → image book connection 7 ≡ Ok i → image book connection (2 + item) ≡ Ok pen → image book connection 1 ≡ Ok paper
    → (pen == i) ≡ false → (paper == i) ≡ false → IsColour (at_number from pen) (ink item) → IsColour (at_number from paper) (white rgb24) → IsBanded from book i x y item device
shades from book i x y item pen paper device few left top is window found mask pen_other paper_other colour white_one =
    let images : Images = after_draw device.images (shading i x y item pen paper) in
    let after : World = drawn_on connection device images in
    let there : (n : ℕ) → (n == i) ≡ false → (raw : ℕ) → IsColour (at_number from n) raw → IsColour (at_number device n) raw =
    λ n other raw was. subst (λ (slot : Option Image). IsColour (unwrap_or slot no_image) raw) (sym (is.others n other)) was in
    let in_book : (id n : ℕ) → image book connection id ≡ Ok n → image device.book connection id ≡ Ok n = λ id n got. ap (λ (b : Book). image b connection id) is.same_book ∙ got in
    record {
      after = after;
      leads = leads_message connection device after (LowD 7 (2 + item) 1 (band_box x y item) origin origin) (band x y item)
          (λ rest. drawing_first 7 (2 + item) 1 (band_box x y item) origin origin rest (omega arith) (omega (arith, few)) (omega arith)
          ((is_coordinate (x + 4) (omega (arith, left)), is_coordinate (y + 4 + 16 * item) (omega (arith, top, few))), (is_coordinate (x + 44) (omega (arith, left)), is_coordinate (y + 20 + 16 * item) (omega (arith, top, few))))
          (is_coordinate 0 (omega arith), is_coordinate 0 (omega arith)) (is_coordinate 0 (omega arith), is_coordinate 0 (omega arith)))
          (λ rest. draws device i x y item pen paper is.state rest (in_book 7 i window) (in_book (2 + item) pen found) (in_book 1 paper mask) is.connected is.over)
          (λ rest. behind_drawing connection device 7 (2 + item) 1 (band_box x y item) origin origin rest);
      shaded = record {
        same_book = is.same_book;
        same_numbers = is.same_numbers;
        same_opening = is.same_opening;
        state = record (client_of device connection) { op = 11 };
        connected = with-here device.clients connection is.state (record (client_of device connection) { op = 11 }) is.connected;
        over = refl;
        sheet = band_drawn device.images i x y item pen paper few left top (there pen pen_other (ink item) colour) (there paper paper_other (white rgb24) white_one) is.sheet;
        others = λ j other. other_slot device.images (shading i x y item pen paper) j other ∙ is.others j other;
        stands = same_standing device.images (shading i x y item pen paper) ∙ is.stands;
      };
    }
