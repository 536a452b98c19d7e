-- Characters and strings, windows that move, and connections, on two devices that are like.
use Rattle.std.proofs.Common.{◌≡◌, ◌<◌, ◌^◌, ◌||◌, ℕ, Bool, true, false, eqb, List, [], ◌∷◌, ◌++◌, Option, Some, None, refl, sym, ap, subst, ◌∙◌}
use Rattle.std.specs.Prelude.{◌==◌, is_some, not, length, map, ℤ}
use Rattle.std.specs.Int.{w32, from_le_bytes}
use Rattle.std.specs.List.{AllZip, fold}
use Rattle.std.proofs.lemmas.Bool.{eqb-true, eqb-false}
use Rattle.r9_geom.specs.declared.Point.{Point}
use Rattle.r9_geom.specs.declared.Rect.{Rect}
use Rattle.r9_geom.specs.Geometry.{is_inside}
use Rattle.model_text.specs.text.Map.{and, lookup}
use Rattle.model_text.specs.text.Outcome.{refuse_if, value_or_refuse}
use Rattle.model_text.proofs.map.Maps.{and-here, and-others}
use Rattle.model_draw_parts.specs.dmsg.Message.{Writing}
use Rattle.model_draw_parts.specs.declared.fonts.Piece.{Piece}
use Rattle.model_draw_parts.specs.fonts.Font.{layout, with_cell}
use Rattle.model_draw_parts.specs.declared.images.ImageId.{ImageId}
use Rattle.model_draw_parts.specs.images.Book.{by_name, image_id}
use Rattle.model_forest.specs.World.{World as Images}
use Rattle.model_forest.specs.Draw.{Drawing, after_draw}
use Rattle.model_draw.specs.draw.World.{Client, World, after_connect, at_number, client_of, look, new_client, with_images}
use Rattle.model_draw.specs.draw.Making.{is_window}
use Rattle.model_draw.specs.draw.Moving.{look_window, move_window, stays_near}
use Rattle.model_draw.specs.draw.Files.{is_known, write_ctl}
use Rattle.model_draw.specs.draw.Writing.{background_drawing, background_rect, character, font_of, is_turned, load_cell, look_background, s_alone, string_drawings, unmasked, write_string}
use Rattle.law_likeness.specs.renamed.Renamed.{AreRenamed, SameMask}
use Rattle.law_likeness.proofs.renamed.Drawing.{renamed_draw}
use Rattle.law_likeness.proofs.renamed.Lists.{renamed_origin}
use Rattle.model_world.specs.Whole.{client}
use Rattle.law_likeness.specs.agreement.Agreement.{SameOption, SameOutcome}
use Rattle.law_likeness.proofs.agreement.Relations.{bind_alike, check_alike, equal_alike}
use Rattle.law_likeness.specs.likeness.Likeness.{AreLike, SameId}
use Rattle.law_likeness.proofs.likeness.Shapes.{keeps_draw, keeps_draws, keeps_origin}
use Rattle.law_likeness.proofs.likeness.Looking.{by_name_same, client_is, client_same, look_same, window_same, with_client_like, with_images_like}
use Rattle.law_likeness.proofs.likeness.Acts.{drawn_like}

-- the same drawing, of images that are the same
record SameDrawing (Same : ℕ → ℕ → Type 0) (d e : Drawing) : Type 0 where
  dst : Same d.dst e.dst
  src : Same d.src e.src
  mask : SameMask Same d.mask e.mask
  clip : d.clip ≡ e.clip
  r : d.r ≡ e.r
  sp : d.sp ≡ e.sp
  mp : d.mp ≡ e.mp
  op : d.op ≡ e.op

module _ (Same : ℕ → ℕ → Type 0) where
  drawing_renamed : (a b : Images) → AreRenamed Same a b → (d e : Drawing) → SameDrawing Same d e → AreRenamed Same (after_draw a d) (after_draw b e)
  drawing_renamed a b same d e one =
      let is : record e { dst = d.dst; src = d.src; mask = d.mask } ≡ d = λ t. record {
        dst = d.dst;
        clip = sym one.clip t;
        r = sym one.r t;
        src = d.src;
        sp = sym one.sp t;
        mask = d.mask;
        mp = sym one.mp t;
        op = sym one.op t;
      } in
      subst (λ (x : Drawing). AreRenamed Same (after_draw a x) (after_draw b e)) is
      (renamed_draw Same a b same e d.dst e.dst d.src e.src d.mask e.mask one.dst one.src one.mask)

  all_renamed : (ds es : List Drawing) (a b : Images) → AllZip (SameDrawing Same) ds es → AreRenamed Same a b → AreRenamed Same (fold after_draw a ds) (fold after_draw b es)
  all_renamed [] [] a b zip same = same
  all_renamed [] (e ∷ es) a b zip same = absurd zip
  all_renamed (d ∷ ds) [] a b zip same = absurd zip
  all_renamed (d ∷ ds) (e ∷ es) a b zip same = all_renamed ds es (after_draw a d) (after_draw b e) zip.1 (drawing_renamed a b same d e zip.0)

  characters_same : (dst i src s font f op : ℕ) (clip : Rect) → Same dst i → Same src s → Same font f → (pieces : List Piece)
      → AllZip (SameDrawing Same) (map (character dst clip src font op) pieces) (map (character i clip s f op) pieces)
  characters_same dst i src s font f op clip target source masked [] = tt
  characters_same dst i src s font f op clip target source masked (piece ∷ pieces) = (
    record { dst = target; src = source; mask = masked; clip = refl; r = refl; sp = refl; mp = refl; op = refl },
    characters_same dst i src s font f op clip target source masked pieces,
  )

module _ (Same SameScreen : ℕ → ℕ → Type 0) (c : ℕ) (window : Option (ℕ × List ℕ)) (a b : World) (like : AreLike Same SameScreen c window a b) (n : ℕ) (few : n < 2 ^ 26) where
  abbrev Like : World → World → Type 0
  Like x y = AreLike Same SameScreen c window x y

  font_same : (id : ℕ) → font_of a (client c n) id ≡ font_of b (client 1 n) id
  font_same id = ap (λ (x : Client). value_or_refuse (lookup x.fonts id) 14) (client_same Same SameScreen c window a b like n few)

  -- ---- `l`

  pub load_cell_like : (cacheid srcid index : ℕ) (r : Rect) (sp : Point) (left : ℤ) (width : ℕ) → (cacheid == 0) ≡ false → (srcid == 0) ≡ false
      → SameOutcome Like (load_cell (client c n) a cacheid srcid index r sp left width) (load_cell (client 1 n) b cacheid srcid index r sp left width)
  unfolding load_cell
  load_cell_like cacheid srcid index r sp left width first second =
      bind_alike Same Like (look a (client c n) cacheid) (look b (client 1 n) cacheid) _ _ (look_same Same SameScreen c window a b like n few cacheid first) (λ i j target.
      equal_alike Like (font_of a (client c n) cacheid) (font_of b (client 1 n) cacheid) _ _ (font_same cacheid) (λ font.
      bind_alike Same Like (look a (client c n) srcid) (look b (client 1 n) srcid) _ _ (look_same Same SameScreen c window a b like n few srcid second) (λ s t source.
      check_alike Like (with_cell font index (record { r = r; left = left; width = width })) _ _ (λ loaded _.
      equal_alike Like (refuse_if (is_turned r || not (is_inside r (at_number a i).r)) 9) (refuse_if (is_turned r || not (is_inside r (at_number b j).r)) 9) _ _
      (ap (λ (q : Rect). refuse_if (is_turned r || not (is_inside r q)) 9) (like.images.faces i j target).r) (λ _.
      let x = after_draw a.images (unmasked i r r s sp s_alone) in
      let y = after_draw b.images (unmasked j r r t sp s_alone) in
      let drawn : AreRenamed Same x y = drawing_renamed Same a.images b.images like.images (unmasked i r r s sp s_alone) (unmasked j r r t sp s_alone)
      (record { dst = target; src = source; mask = tt; clip = refl; r = refl; sp = refl; mp = refl; op = refl }) in
      let next = with_images_like Same SameScreen c window a b like n few x y drawn (keeps_draw a.images (unmasked i r r s sp s_alone) 0) (keeps_draw b.images (unmasked j r r t sp s_alone) 0) in
      with_client_like Same SameScreen c window (with_images a x) (with_images b y) next n few _ _
      (ap (λ (z : Client). record z { fonts = and z.fonts cacheid loaded }) (client_same Same SameScreen c window (with_images a x) (with_images b y) next n few)))))))

  -- ---- `s` and `x`

  -- a background names an image that is not the display
  abbrev IsNamed : Option (ℕ × Point) → Type 0
  IsNamed None = Unit {0}
  IsNamed (Some bg) = (bg.0 == 0) ≡ false

  abbrev SameUnder : Option (ℕ × Point) → Option (ℕ × Point) → Type 0
  SameUnder x y = SameOption (λ u v. Same u.0 v.0 × (u.1 ≡ v.1)) x y

  under_like : (bg : Option (ℕ × Point)) → IsNamed bg → SameOutcome SameUnder (look_background a (client c n) bg) (look_background b (client 1 n) bg)
  under_like None named = tt
  under_like (Some bg) named =
      bind_alike Same SameUnder (look a (client c n) bg.0) (look b (client 1 n) bg.0) _ _ (look_same Same SameScreen c window a b like n few bg.0 named) (λ i j is. (is, refl))

  background_same : (i j op : ℕ) (clip r q : Rect) → Same i j → r ≡ q → (x y : Option (ℕ × Point)) → SameUnder x y
      → AllZip (SameDrawing Same) (background_drawing i clip r op x) (background_drawing j clip q op y)
  background_same i j op clip r q target is None None under = tt
  background_same i j op clip r q target is (Some u) (Some v) under =
      (record { dst = target; src = under.0; mask = tt; clip = refl; r = is; sp = under.1; mp = refl; op = refl }, tt)
  background_same i j op clip r q target is (Some u) None under = absurd under
  background_same i j op clip r q target is None (Some v) under = absurd under

  joined : (ds es fs gs : List Drawing) → AllZip (SameDrawing Same) ds es → AllZip (SameDrawing Same) fs gs → AllZip (SameDrawing Same) (ds ++ fs) (es ++ gs)
  joined [] [] fs gs zip more = more
  joined [] (e ∷ es) fs gs zip more = absurd zip
  joined (d ∷ ds) [] fs gs zip more = absurd zip
  joined (d ∷ ds) (e ∷ es) fs gs zip more = (zip.0, joined ds es fs gs zip.1 more)

  strings_like : (w : Writing) (bg : Option (ℕ × Point)) → (w.dstid == 0) ≡ false → (w.srcid == 0) ≡ false → (w.fontid == 0) ≡ false → IsNamed bg
      → SameOutcome (AllZip (SameDrawing Same)) (string_drawings (client c n) a w bg) (string_drawings (client 1 n) b w bg)
  unfolding string_drawings
  strings_like w bg first second third named =
      rw (client_same Same SameScreen c window a b like n few)
      (bind_alike Same (AllZip (SameDrawing Same)) (look a (client c n) w.dstid) (look b (client 1 n) w.dstid) _ _ (look_same Same SameScreen c window a b like n few w.dstid first) (λ i j target.
      bind_alike Same (AllZip (SameDrawing Same)) (look a (client c n) w.srcid) (look b (client 1 n) w.srcid) _ _ (look_same Same SameScreen c window a b like n few w.srcid second) (λ s t source.
      bind_alike Same (AllZip (SameDrawing Same)) (look a (client c n) w.fontid) (look b (client 1 n) w.fontid) _ _ (look_same Same SameScreen c window a b like n few w.fontid third) (λ f g masked.
      check_alike (AllZip (SameDrawing Same)) (font_of b (client 1 n) w.fontid) _ _ (λ font _.
      bind_alike SameUnder (AllZip (SameDrawing Same)) (look_background a (client c n) bg) (look_background b (client 1 n) bg) _ _ (under_like bg named) (λ x y under.
      check_alike (AllZip (SameDrawing Same)) (layout font w.p w.sp w.indices) _ _ (λ laid _.
      joined _ _ _ _
      (background_same i j (client_of b (client 1 n)).op w.clipr _ _ target (ap (background_rect w.p laid.end font.ascent) (like.images.faces f g masked).r) x y under)
      (characters_same Same i j s t f g (client_of b (client 1 n)).op w.clipr target source masked laid.pieces))))))))

  pub write_string_like : (w : Writing) (bg : Option (ℕ × Point)) → (w.dstid == 0) ≡ false → (w.srcid == 0) ≡ false → (w.fontid == 0) ≡ false → IsNamed bg
      → SameOutcome Like (write_string (client c n) a w bg) (write_string (client 1 n) b w bg)
  unfolding write_string
  write_string_like w bg first second third named =
      bind_alike (AllZip (SameDrawing Same)) Like (string_drawings (client c n) a w bg) (string_drawings (client 1 n) b w bg) _ _ (strings_like w bg first second third named) (λ ds es zip.
      drawn_like Same SameScreen c window a b like n few _ _ (all_renamed Same ds es a.images b.images zip like.images)
      (keeps_draws a.images ds 0) (keeps_draws b.images es 0))

  -- ---- `o`

  pub move_like : (id : ℕ) (rmin scr : Point) → (id == 0) ≡ false → SameOutcome Like (move_window (client c n) a id rmin scr) (move_window (client 1 n) b id rmin scr)
  unfolding move_window
  move_like id rmin scr other =
      bind_alike Same Like (look_window a (client c n) id) (look_window b (client 1 n) id) _ _
      (bind_alike Same Same (look a (client c n) id) (look b (client 1 n) id) _ _ (look_same Same SameScreen c window a b like n few id other) (λ i j is.
      equal_alike Same (refuse_if (not (is_window a i) || by_name a.book (client c n) id) 20) (refuse_if (not (is_window b j) || by_name b.book (client 1 n) id) 20) _ _
      (ap (λ (x : Bool). refuse_if (not x || by_name a.book (client c n) id) 20) (window_same Same SameScreen c window a b like n few i j is)
      ∙ ap (λ (x : Bool). refuse_if (not (is_window b j) || x) 20) (by_name_same Same SameScreen c window a b like n few id other)) (λ _. is)))
      (λ i j is.
      equal_alike Like (refuse_if (not (stays_near (at_number a i).r rmin scr)) 9) (refuse_if (not (stays_near (at_number b j).r rmin scr)) 9) _ _
      (ap (λ (r : Rect). refuse_if (not (stays_near r rmin scr)) 9) (like.images.faces i j is).r) (λ _.
      with_images_like Same SameScreen c window a b like n few _ _ (renamed_origin Same a.images b.images like.images i j is rmin scr)
      (keeps_origin a.images i rmin scr 0 (λ at. like.display.left i j is (sym at))) (keeps_origin b.images j rmin scr 0 (λ at. like.display.right i j is (sym at)))))

  -- ---- connections

  known_same : (id : ℕ) → is_known a (client c n) id ≡ is_known b (client 1 n) id
  known_same id = by (id == 0) refl
    where
      found : (o q : Option ImageId) → SameOption (SameId Same a.book b.book) o q → is_some o ≡ is_some q
      found (Some e) (Some f) one = refl
      found None None one = refl
      found (Some e) None one = absurd one
      found None (Some f) one = absurd one

      by : (zero : Bool) → (id == 0) ≡ zero → is_known a (client c n) id ≡ is_known b (client 1 n) id
      by true is = rw is refl
      by false is = ap (λ (x : Bool). (id == 0) || x) (found (image_id a.book (client c n) id) (image_id b.book (client 1 n) id) (like.books.ids n id few is))

  pub write_ctl_like : (bytes : List ℕ) → SameOutcome Like (write_ctl (client c n) a bytes) (write_ctl (client 1 n) b bytes)
  unfolding write_ctl
  write_ctl_like bytes =
      check_alike Like (refuse_if (not (length bytes == 4)) 27) _ _ (λ _ _.
      equal_alike Like (refuse_if (not (is_known a (client c n) (from_le_bytes w32 bytes))) 4) (refuse_if (not (is_known b (client 1 n) (from_le_bytes w32 bytes))) 4) _ _
      (ap (λ (x : Bool). refuse_if (not x) 4) (known_same (from_le_bytes w32 bytes))) (λ _.
      with_client_like Same SameScreen c window a b like n few _ _ (ap (λ (x : Client). record x { described = from_le_bytes w32 bytes }) (client_same Same SameScreen c window a b like n few))))

  clients_and : (m : ℕ) → m < 2 ^ 26 → lookup (and a.clients (client c n) new_client) (client c m) ≡ lookup (and b.clients (client 1 n) new_client) (client 1 m)
  clients_and m small = by (eqb m n) refl
    where
      by : (here : Bool) → eqb m n ≡ here → lookup (and a.clients (client c n) new_client) (client c m) ≡ lookup (and b.clients (client 1 n) new_client) (client 1 m)
      by true at =
          subst (λ (k : ℕ). lookup (and a.clients (client c n) new_client) (client c k) ≡ lookup (and b.clients (client 1 n) new_client) (client 1 k)) (sym (eqb-true m n at))
          (and-here a.clients (client c n) new_client ∙ sym (and-here b.clients (client 1 n) new_client))
      by false at =
          and-others a.clients (client c n) (client c m) new_client (λ is. eqb-false m n at (client_is c m n is)) ∙ like.clients m small
          ∙ sym (and-others b.clients (client 1 n) (client 1 m) new_client (λ is. eqb-false m n at (client_is 1 m n is)))

  pub connect_like : Like (after_connect a (client c n)) (after_connect b (client 1 n))
  connect_like = record {
    counted = like.counted;
    images = like.images;
    books = like.books;
    display = record {
      named = like.display.named;
      named_alone = like.display.named_alone;
      look = like.display.look;
      live_left = like.display.live_left;
      live_right = like.display.live_right;
      left = like.display.left;
      right = like.display.right;
    };
    clients = clients_and;
  }
