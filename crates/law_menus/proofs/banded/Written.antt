-- The bands of a menu are written, and its window then shows them.
use Rattle.std.proofs.Common.{◌≡◌, ◌∙◌, ◌<◌, ◌≤◌, ◌+◌, ◌*◌, ◌^◌, ℕ, ◌==◌, Bool, true, false, List, [], ◌∷◌, ◌++◌, length, Option, Some, None, Ok, refl, sym, ap, subst, append_assoc, arith, eqb-true}
use Rattle.std.specs.Prelude.{codes, option_map, unwrap_or}
use Rattle.std.specs.Fmt.{decimal}
use Rattle.std.specs.List.{flat_map}
use Rattle.std.specs.Option.{option_map_or}
use Rattle.std.proofs.lemmas.Fmt.{decimal_digit, length-decimal-le}
use Rattle.std.proofs.lemmas.List.{length-append}
use Rattle.r9_geom.specs.declared.Point.{Point}
use Rattle.r9_geom.specs.Geometry.{holds}
use Rattle.model_text.proofs.map.Maps.{with-here}
use Rattle.model_files.proofs.wire.Parts.{field32}
use Rattle.model_draw_parts.specs.dmsg.Message.{LowF, LowN}
use Rattle.model_draw_parts.specs.dmsg.Reading.{IsMessage, behind as behind_letter, first_message, long, low_f}
use Rattle.model_forest.specs.declared.Standing.{Standing}
use Rattle.model_forest.specs.World.{Image, no_image, parent_of}
use Rattle.model_forest.specs.View.{view}
use Rattle.model_draw_parts.specs.declared.images.ImageId.{ImageId}
use Rattle.model_draw_parts.specs.images.Book.{Book, add_named, tie_of}
use Rattle.model_draw_parts.specs.images.Release.{free_id, nothing_freed}
use Rattle.model_draw.specs.draw.World.{World, at_number, client_of, with_book, with_client}
use Rattle.model_draw.specs.draw.Making.{forget_id, free_image}
use Rattle.model_draw.specs.draw.Naming.{use_name, with_described}
use Rattle.model_draw.specs.draw.Orders.{image_shown}
use Rattle.model_draw.specs.draw.Act.{act, behind, written}
use Rattle.model_rio.specs.rio.Table.{Table, name_by}
use Rattle.law_shown.specs.shown.Showing.{IsOut}
use Rattle.law_shown.proofs.lasting.Messages.{written_still}
use Rattle.law_shown.specs.fitting.Fitting.{Shows}
use Rattle.law_shown.proofs.fitting.Stepping.{shows_follow}
use Rattle.law_others.specs.apart.Apart.{IsApart}
use Rattle.law_likeness.proofs.making.Entries.{all_found}
use Rattle.law_likeness.specs.whole.Steady.{IsSteady}
use Rattle.law_likeness.proofs.whole.Messages.{written_steady}
use Rattle.model_clients.specs.client.Messages.{drawing, named}
use Rattle.law_text.proofs.client.Messages.{named_first}
use Rattle.law_text.proofs.client.Writes.{Leads, leads_message, leads_nowhere, leads_then, leads_written}
use Rattle.law_desk.specs.bands.Bands.{band, bands, freed}
use Rattle.model_clients.specs.page.Text.{rgb24}
use Rattle.law_text.specs.page.Page.{IsColour}
use Rattle.law_text.proofs.page.Painting.{sheet_view}
use Rattle.law_text.proofs.page.Spots.{box_holds, held_in_box, spot_in}
use Rattle.law_menus.specs.pens.Pens.{pens}
use Rattle.law_menus.specs.inked.Inked.{IsInked, IsPen, connection}
use Rattle.law_menus.specs.banded.Banded.{HasSheet, band_box, blank, ink, menu_box, shaded}
use Rattle.law_menus.proofs.banded.Naming.{name_plain}
use Rattle.law_menus.proofs.banded.Freed.{name_adds, named_freed, named_there, others_there, with_named}
use Rattle.law_menus.proofs.banded.Inks.{band_shown}
use Rattle.law_menus.proofs.banded.Shading.{IsBanded, IsShaded, shades}

-- ---- the first message, and the last

-- an id goes: the message is read back
freed_first : (id : ℕ) (rest : List ℕ) → id < 2 ^ 32 → first_message (freed id ++ rest) ≡ IsMessage (LowF id) rest
unfolding first_message behind_letter low_f freed long
freed_first id rest fits = rw (field32.again id rest fits) refl

behind_n : (k : ℕ) (world : World) (id : ℕ) (name rest : List ℕ) → behind k world (LowN id name) rest ≡ rest
unfolding behind
behind_n k world id name rest = refl

behind_f : (k : ℕ) (world : World) (id : ℕ) (rest : List ℕ) → behind k world (LowF id) rest ≡ rest
unfolding behind
behind_f k world id rest = refl

uses_name : (device : World) (name rest : List ℕ) (book : Book) → add_named device.book connection 7 name ≡ Ok book → act connection device (LowN 7 name) rest ≡ Ok (with_described (with_book device book) connection 7)
unfolding act use_name
uses_name device name rest book adds = rw adds refl

frees : (device : World) (rest : List ℕ) (book : Book) → free_id device.book connection 7 ≡ Ok (nothing_freed book)
    → act connection device (LowF 7) rest ≡ Ok (with_client (with_book device book) connection (forget_id (client_of device connection) 7))
unfolding act free_image
frees device rest book gone = rw gone refl

-- the name in the message is the first of the window
name_is : (window : ℕ) → codes "window." ++ decimal window ++ codes ".1" ≡ name_by (window ∷ []) 1
name_is window =
    sym (append_assoc (codes "window." ++ decimal window) (codes ".") (codes "1"))
    ∙ ap (λ (generation : List ℕ). codes "window." ++ decimal window ++ codes "." ++ generation) (sym (decimal_digit 1 (omega arith))) ∙ sym (name_plain window 1)

name_few : (window : ℕ) → window < 10 ^ 9 → length (codes "window." ++ decimal window ++ codes ".1") ≤ 18
name_few window early =
    let few = length-decimal-le 9 window (omega arith) early (omega (arith, early)) in
    omega (arith, few, length-append (codes "window." ++ decimal window) (codes ".1"), length-append (codes "window.") (decimal window))

bands_len : (x y : ℕ) → length (flat_map (band x y) (0 ∷ 1 ∷ 2 ∷ 3 ∷ 4 ∷ [])) ≡ 225
unfolding drawing
bands_len x y = refl

named_len : (id : ℕ) (name : List ℕ) → length (named id name) ≡ 6 + length name
unfolding named
named_len id name = omega arith

freed_len : (id : ℕ) → length (freed id) ≡ 5
unfolding freed
freed_len id = refl

bands_short : (window x y : ℕ) → window < 10 ^ 9 → length (bands window x y) ≤ 65537
unfolding bands
bands_short window x y early =
    let name : List ℕ = codes "window." ++ decimal window ++ codes ".1" in
    omega (
      arith,
      name_few window early,
      named_len 7 name,
      bands_len x y,
      freed_len 7,
      length-append (named 7 name ++ flat_map (band x y) (0 ∷ 1 ∷ 2 ∷ 3 ∷ 4 ∷ [])) (freed 7),
      length-append (named 7 name) (flat_map (band x y) (0 ∷ 1 ∷ 2 ∷ 3 ∷ 4 ∷ [])),
    )

-- ---- all of it

-- what the bands of a menu lead to
pub record IsBandedAll (device : World) (table : Table) (window x y : ℕ) : Type 0 where
  pub after : World
  pub leads : Leads connection device after (bands window x y)
  pub short : length (bands window x y) ≤ 65537
  pub inked : IsInked after table
  pub viewed : (item : ℕ) (p : Point) → item < 5 → holds (band_box x y item) p ≡ true → view after.images (image_shown after window) p ≡ ink item

module _ (device : World) (table : Table) (inked : IsInked device table) (window i x y : ℕ) (has : HasSheet device window i (menu_box x y) (blank (menu_box x y))) (left : x < 640) (top : y < 480) (early : window < 10 ^ 9) where
  abbrev name : List ℕ
  name = codes "window." ++ decimal window ++ codes ".1"

  abbrev book : Book
  book = with_named device.book has.tie

  -- no pen is the window's image
  pen_apart : (id : ℕ) → 0 < id → id < 7 → (inked.number id == i) ≡ false
  pen_apart id some few = by (inked.number id == i) refl
    where
      by : (b : Bool) → (inked.number id == i) ≡ b → b ≡ false
      by false is = refl
      by true is =
          let own = all_found (λ (e : ImageId). IsPen inked.number e.image → (e.client ≡ connection) × (0 < e.id)) _ device.book.image_ids _ inked.apart.book.ids has.shown (id, some, few, eqb-true (inked.number id) i is) in
          absurd (let same : 0 ≡ connection = own.0 in omega (arith, same))

  abbrev named_device : World
  named_device = with_described (with_book device book) connection 7

  to_named : Leads connection device named_device (named 7 name)
  to_named = leads_message connection device named_device (LowN 7 name) (named 7 name)
      (λ rest. named_first 7 name rest (omega arith) (let few = name_few window early in omega (arith, few)))
      (λ rest. uses_name device name rest book (name_adds device.book name has.tie (ap (λ (n : List ℕ). tie_of device.book n) (name_is window) ∙ has.named) inked.free))
      (λ rest. behind_n connection device 7 name rest)

  first : IsShaded device book i x y 0 named_device
  first = record {
    same_book = refl;
    same_numbers = refl;
    same_opening = refl;
    state = record (client_of device connection) { described = 7 };
    connected = with-here device.clients connection inked.client (record (client_of device connection) { described = 7 }) inked.connected;
    over = rw inked.connected inked.over;
    sheet = has.sheet;
    others = λ j other. refl;
    stands = refl;
  }

  abbrev pen : ℕ → ℕ
  pen item = inked.number (2 + item)

  one_more : (item : ℕ) (from : World) → item < 5 → IsShaded device book i x y item from → IsBanded device book i x y item from
  one_more item from few is =
      shades device book i x y item (pen item) (inked.number 1) from few left top is
      (named_there device.book name has.tie tied inked.free ∙ ap Ok has.image)
      (others_there device.book name has.tie tied inked.free (2 + item) (pen item) (omega arith) (omega (arith, few)) (inked.ids (2 + item) (omega arith) (omega (arith, few))))
      (others_there device.book name has.tie tied inked.free 1 (inked.number 1) (omega arith) (omega arith) (inked.ids 1 (omega arith) (omega arith)))
      (pen_apart (2 + item) (omega arith) (omega (arith, few)))
      (pen_apart 1 (omega arith) (omega arith))
      (inked.inks item few)
      inked.white
    where
      tied : tie_of device.book name ≡ Some has.tie
      tied = ap (λ (n : List ℕ). tie_of device.book n) (name_is window) ∙ has.named

  abbrev b0 : IsBanded device book i x y 0 named_device
  b0 = one_more 0 named_device (omega arith) first

  abbrev b1 : IsBanded device book i x y 1 b0.after
  b1 = one_more 1 b0.after (omega arith) b0.shaded

  abbrev b2 : IsBanded device book i x y 2 b1.after
  b2 = one_more 2 b1.after (omega arith) b1.shaded

  abbrev b3 : IsBanded device book i x y 3 b2.after
  b3 = one_more 3 b2.after (omega arith) b2.shaded

  abbrev b4 : IsBanded device book i x y 4 b3.after
  b4 = one_more 4 b3.after (omega arith) b3.shaded

  all_bands : Leads connection named_device b4.after (flat_map (band x y) (0 ∷ 1 ∷ 2 ∷ 3 ∷ 4 ∷ []))
  all_bands =
      leads_then connection named_device b0.after b4.after (band x y 0) _ b0.leads
      (leads_then connection b0.after b1.after b4.after (band x y 1) _ b1.leads
      (leads_then connection b1.after b2.after b4.after (band x y 2) _ b2.leads
      (leads_then connection b2.after b3.after b4.after (band x y 3) _ b3.leads
      (leads_then connection b3.after b4.after b4.after (band x y 4) [] b4.leads (leads_nowhere connection b4.after)))))

  -- the device at the end
  module _ (drawn : World) (is : IsShaded device book i x y 5 drawn) where
    abbrev after : World
    after = with_client (with_book drawn device.book) connection (forget_id (client_of drawn connection) 7)

    to_freed : Leads connection drawn after (freed 7)
    to_freed = leads_message connection drawn after (LowF 7) (freed 7) (λ rest. freed_first 7 rest (omega arith))
        (λ rest. frees drawn rest device.book (ap (λ (b : Book). free_id b connection 7) is.same_book ∙ named_freed device.book name has.tie (ap (λ (n : List ℕ). tie_of device.book n) (name_is window) ∙ has.named) inked.free window _ has.shown (sym has.image) inked.ties))
        (λ rest. behind_f connection drawn 7 rest)

    parent_same : (j : ℕ) → parent_of after.images j ≡ parent_of device.images j
    parent_same j = by (j == i) refl
      where
        by : (b : Bool) → (j == i) ≡ b → parent_of after.images j ≡ parent_of device.images j
        by true here = subst (λ (n : ℕ). parent_of after.images n ≡ parent_of device.images n) (sym (eqb-true j i here)) (ap (λ (o : Option Standing). option_map (λ s. s.parent) o) is.stands)
        by false other = ap (λ (slot : Option Image). option_map (λ s. s.parent) (unwrap_or slot no_image).standing) (is.others j other)

    still : (n raw : ℕ) → (n == i) ≡ false → IsColour (at_number device n) raw → IsColour (at_number after n) raw
    still n raw other was = subst (λ (slot : Option Image). IsColour (unwrap_or slot no_image) raw) (sym (is.others n other)) was

    still_apart : IsApart (pens (IsPen inked.number)) after
    still_apart = record {
      book = inked.apart.book;
      stands = λ j p held stands. inked.apart.stands j p held (sym (parent_same j) ∙ stands);
      out = λ j held. subst (λ (ns : _). IsOut ns j) (sym is.same_numbers) (inked.apart.out j held);
    }

    still_inked : IsSteady after → Shows after table → IsInked after table
    still_inked steady shows = record {
      steady = steady;
      shows = shows;
      numbers = inked.numbers;
      ties = inked.ties;
      channels = ap (λ (o : _). o.chan) is.same_opening ∙ inked.channels;
      number = inked.number;
      apart = still_apart;
      ids = inked.ids;
      free = inked.free;
      white = still (inked.number 1) _ (pen_apart 1 (omega arith) (omega arith)) inked.white;
      inks = λ item few. still (pen item) _ (pen_apart (2 + item) (omega arith) (omega (arith, few))) (inked.inks item few);
      client = forget_id (client_of drawn connection) 7;
      connected = with-here drawn.clients connection is.state (forget_id (client_of drawn connection) 7) is.connected;
      over = rw is.connected is.over;
    }

    in_menu : (item : ℕ) (p : Point) → item < 5 → holds (band_box x y item) p ≡ true → holds (menu_box x y) p ≡ true
    in_menu item p few held =
        let at = spot_in (x + 4) (y + 4 + 16 * item) (x + 44) (y + 20 + 16 * item) p held in
        let w = held_in_box (x + 4) (y + 4 + 16 * item) (x + 44) (y + 20 + 16 * item) at.x at.y (subst (λ (q : Point). holds (band_box x y item) q ≡ true) at.is held) in
        let a = w.left in
        let b = w.right in
        let c = w.top in
        let d = w.bottom in
        subst (λ (q : Point). holds (menu_box x y) q ≡ true) (sym at.is)
        (box_holds x y (x + 48) (y + 88) at.x at.y (record { left = omega (arith, a); right = omega (arith, b); top = omega (arith, c); bottom = omega (arith, d, few) }))

    all_viewed : (item : ℕ) (p : Point) → item < 5 → holds (band_box x y item) p ≡ true → view after.images (image_shown after window) p ≡ ink item
    all_viewed item p few held =
        ap (λ (o : Option ImageId). view after.images (option_map_or (λ e. e.image) o 0) p) has.shown
        ∙ sheet_view after.images i (menu_box x y) rgb24 (shaded x y 5) p is.sheet (in_menu item p few held)
        ∙ band_shown x y item 5 p few held

  abbrev end : World
  end = after b4.after b4.shaded

  pub all_written : IsBandedAll device table window x y
  unfolding bands
  all_written =
      let bytes : List ℕ = named 7 name ++ flat_map (band x y) (0 ∷ 1 ∷ 2 ∷ 3 ∷ 4 ∷ []) ++ freed 7 in
      let leads : Leads connection device end bytes =
      leads_then connection device b4.after end _ (freed 7) (leads_then connection device named_device b4.after (named 7 name) _ to_named all_bands) (to_freed b4.after b4.shaded)
      in
      let run = leads_written connection device end bytes leads in
      let left_world : (written connection device bytes None).world ≡ end = ap (λ w. w.world) run.is in
      record {
        after = end;
        leads = leads;
        short = bands_short window x y early;
        inked = still_inked b4.after b4.shaded (subst IsSteady left_world (written_steady connection device bytes None refl inked.steady))
            (subst (λ (w : World). Shows w table) left_world (shows_follow device (written connection device bytes None).world table (written_still connection device bytes None refl inked.steady.orderly) inked.shows));
        viewed = all_viewed b4.after b4.shaded;
      }
