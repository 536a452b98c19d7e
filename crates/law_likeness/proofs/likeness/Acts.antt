-- The messages that leave ids as they are, on two devices that are like.
use Rattle.std.proofs.Common.{◌≡◌, ◌<◌, ◌^◌, ◌||◌, ℕ, Bool, false, List, Option, Some, refl, sym, ap, subst, ◌∙◌}
use Rattle.std.specs.Prelude.{◌==◌, ◌&&◌, nat_lt, not, length, take}
use Rattle.r9_geom.specs.declared.Point.{Point}
use Rattle.r9_geom.specs.declared.Rect.{Rect}
use Rattle.r9_geom.specs.Geometry.{is_empty, is_inside}
use Rattle.model_text.specs.text.Outcome.{refuse_if}
use Rattle.model_draw.specs.imgfile.ImageFile.{rows_len}
use Rattle.model_draw_parts.specs.images.Book.{has_screen}
use Rattle.model_draw_parts.specs.images.Book.{by_name}
use Rattle.model_forest.specs.World.{World as Images}
use Rattle.model_forest.specs.View.{view}
use Rattle.model_forest.specs.Draw.{Drawing, after_draw, after_load}
use Rattle.model_pixel.specs.Channels.{depth}
use Rattle.model_pixel.specs.Rows.{row_pixel, rows_of}
use Rattle.model_text.specs.text.Map.{and}
use Rattle.model_draw.specs.draw.World.{Client, World, at_number, client_of, is_display, look, s_over_d, with_images}
use Rattle.model_draw.specs.draw.Making.{is_window, set_clip}
use Rattle.model_draw.specs.draw.Drawing.{draw, drawing_of, most_read, read_pixels, rows_shown, set_operator, with_operator, write_pixels}
use Rattle.model_draw.specs.draw.Files.{read_data}
use Rattle.model_draw.specs.draw.Writing.{make_font, most_cells}
use Rattle.model_draw_parts.specs.fonts.Font.{new_font}
use Rattle.law_likeness.specs.renamed.Renamed.{AreRenamed, SameFace}
use Rattle.law_likeness.proofs.renamed.Drawing.{renamed_draw, renamed_load, renamed_set}
use Rattle.law_likeness.proofs.renamed.Views.{view_same}
use Rattle.model_world.specs.Whole.{client}
use Rattle.law_likeness.specs.agreement.Agreement.{SameOutcome}
use Rattle.law_likeness.proofs.agreement.Relations.{bind_alike, check_alike, equal_alike}
use Rattle.law_likeness.specs.likeness.Likeness.{AreLike}
use Rattle.law_likeness.proofs.likeness.Shapes.{Keeps, keeps_draw, keeps_load, keeps_set}
use Rattle.law_likeness.proofs.likeness.Looking.{by_name_same, client_same, left_other, look_same, right_other, window_same, with_client_like, with_images_like}

module _ (Same SameScreen : ℕ → ℕ → Type 0) (c : ℕ) (window : Option (ℕ × List ℕ)) (a b : World) (like : AreLike Same SameScreen c window a b) (n : ℕ) (few : n < 2 ^ 26) where
  abbrev Like : World → World → Type 0
  Like x y = AreLike Same SameScreen c window x y

  pub face : (i j : ℕ) → Same i j → SameFace (at_number a i) (at_number b j)
  face i j is = like.images.faces i j is

  -- ---- `O`, `c` and `d`

  pub operator_like : (op : ℕ) → SameOutcome Like (set_operator (client c n) a op) (set_operator (client 1 n) b op)
  unfolding set_operator
  operator_like op =
      check_alike Like (refuse_if (nat_lt 11 op) 21) _ _ (λ _ _.
      with_client_like Same SameScreen c window a b like n few _ _ (ap (λ (x : Client). record x { op = op }) (client_same Same SameScreen c window a b like n few)))

  pub set_clip_like : (id : ℕ) (repl : Bool) (clipr : Rect) → (id == 0) ≡ false → SameOutcome Like (set_clip (client c n) a id repl clipr) (set_clip (client 1 n) b id repl clipr)
  unfolding set_clip
  set_clip_like id repl clipr other =
      bind_alike Same Like (look a (client c n) id) (look b (client 1 n) id) _ _ (look_same Same SameScreen c window a b like n few id other) (λ i j is.
      equal_alike Like (refuse_if (is_display a i) 23) (refuse_if (is_display b j) 23) _ _
      (ap (λ (x : Bool). refuse_if x 23) (left_other Same SameScreen c window a b like n few i j is ∙ sym (right_other Same SameScreen c window a b like n few i j is))) (λ _.
      equal_alike Like (refuse_if (repl && (is_window a i || has_screen a.book i)) 11) (refuse_if (repl && (is_window b j || has_screen b.book j)) 11) _ _
      (ap (λ (x : Bool). refuse_if (repl && (x || has_screen a.book i)) 11) (window_same Same SameScreen c window a b like n few i j is)
      ∙ ap (λ (x : Bool). refuse_if (repl && (is_window b j || x)) 11) (like.books.hosts i j is)) (λ _.
      with_images_like Same SameScreen c window a b like n few _ _ (renamed_set Same a.images b.images like.images i j is repl clipr)
      (keeps_set a.images i repl clipr 0 (λ at. like.display.left i j is (sym at))) (keeps_set b.images j repl clipr 0 (λ at. like.display.right i j is (sym at))))))

  -- what is drawn leaves images that are the same
  abbrev SameDrawn : Drawing → Drawing → Type 0
  SameDrawn d e = AreRenamed Same (after_draw a.images d) (after_draw b.images e)

  drawing_like : (dstid srcid maskid : ℕ) (dstr : Rect) (srcp maskp : Point) → (dstid == 0) ≡ false → (srcid == 0) ≡ false → (maskid == 0) ≡ false
      → SameOutcome SameDrawn (drawing_of (client c n) a dstid srcid maskid dstr srcp maskp) (drawing_of (client 1 n) b dstid srcid maskid dstr srcp maskp)
  unfolding drawing_of
  drawing_like dstid srcid maskid dstr srcp maskp first second third =
      rw (client_same Same SameScreen c window a b like n few)
      (bind_alike Same SameDrawn (look a (client c n) dstid) (look b (client 1 n) dstid) _ _ (look_same Same SameScreen c window a b like n few dstid first) (λ i j target.
      bind_alike Same SameDrawn (look a (client c n) srcid) (look b (client 1 n) srcid) _ _ (look_same Same SameScreen c window a b like n few srcid second) (λ s t source.
      bind_alike Same SameDrawn (look a (client c n) maskid) (look b (client 1 n) maskid) _ _ (look_same Same SameScreen c window a b like n few maskid third) (λ k l masked.
      renamed_draw Same a.images b.images like.images
      (record { dst = i; clip = dstr; r = dstr; src = s; sp = srcp; mask = Some k; mp = maskp; op = (client_of b (client 1 n)).op }) i j s t (Some k) (Some l) target source masked))))

  -- images change, and the operator is set back
  pub drawn_like : (x y : Images) → AreRenamed Same x y → Keeps a.images x 0 → Keeps b.images y 0
      → Like (with_operator (with_images a x) (client c n) s_over_d) (with_operator (with_images b y) (client 1 n) s_over_d)
  drawn_like x y renamed left right =
      let next = with_images_like Same SameScreen c window a b like n few x y renamed left right in
      with_client_like Same SameScreen c window (with_images a x) (with_images b y) next n few _ _
      (ap (λ (z : Client). record z { op = s_over_d }) (client_same Same SameScreen c window (with_images a x) (with_images b y) next n few))

  pub draw_like : (dstid srcid maskid : ℕ) (dstr : Rect) (srcp maskp : Point) → (dstid == 0) ≡ false → (srcid == 0) ≡ false → (maskid == 0) ≡ false
      → SameOutcome Like (draw (client c n) a dstid srcid maskid dstr srcp maskp) (draw (client 1 n) b dstid srcid maskid dstr srcp maskp)
  unfolding draw
  draw_like dstid srcid maskid dstr srcp maskp first second third =
      bind_alike SameDrawn Like (drawing_of (client c n) a dstid srcid maskid dstr srcp maskp) (drawing_of (client 1 n) b dstid srcid maskid dstr srcp maskp) _ _
      (drawing_like dstid srcid maskid dstr srcp maskp first second third) (λ d e same. drawn_like _ _ same (keeps_draw a.images d 0) (keeps_draw b.images e 0))

  -- ---- `r` and `y`

  inside_same : (i j : ℕ) (r : Rect) → Same i j → is_inside r (at_number a i).r ≡ is_inside r (at_number b j).r
  inside_same i j r is = ap (is_inside r) (face i j is).r

  rows_same : (i j : ℕ) (r : Rect) → Same i j → rows_shown a i r ≡ rows_shown b j r
  rows_same i j r is =
      ap (λ (chan : ℕ). rows_of r (depth chan) (view a.images i)) (face i j is).chan
      ∙ ap (λ (shown : Point → ℕ). rows_of r (depth (at_number b j).chan) shown) (λ t p. view_same Same a.images b.images like.images i j p is t)

  pub read_pixels_like : (id : ℕ) (r : Rect) → (id == 0) ≡ false → SameOutcome Like (read_pixels (client c n) a id r) (read_pixels (client 1 n) b id r)
  unfolding read_pixels
  read_pixels_like id r other =
      bind_alike Same Like (look a (client c n) id) (look b (client 1 n) id) _ _ (look_same Same SameScreen c window a b like n few id other) (λ i j is.
      equal_alike Like (refuse_if (is_empty r || not (is_inside r (at_number a i).r)) 12) (refuse_if (is_empty r || not (is_inside r (at_number b j).r)) 12) _ _
      (ap (λ (x : Bool). refuse_if (is_empty r || not x) 12) (inside_same i j r is)) (λ _.
      equal_alike Like (refuse_if (nat_lt most_read (rows_len (at_number a i).chan r)) 25) (refuse_if (nat_lt most_read (rows_len (at_number b j).chan r)) 25) _ _
      (ap (λ (chan : ℕ). refuse_if (nat_lt most_read (rows_len chan r)) 25) (face i j is).chan) (λ _.
      with_client_like Same SameScreen c window a b like n few _ _
      (ap (λ (x : Client). record x { pending = rows_shown a i r }) (client_same Same SameScreen c window a b like n few)
      ∙ ap (λ (rows : List ℕ). record (client_of b (client 1 n)) { pending = rows }) (rows_same i j r is)))))

  pub write_pixels_like : (id : ℕ) (r : Rect) (rest : List ℕ) → (id == 0) ≡ false → SameOutcome Like (write_pixels (client c n) a id r rest) (write_pixels (client 1 n) b id r rest)
  unfolding write_pixels
  write_pixels_like id r rest other =
      bind_alike Same Like (look a (client c n) id) (look b (client 1 n) id) _ _ (look_same Same SameScreen c window a b like n few id other) (λ i j is.
      equal_alike Like (refuse_if (is_empty r || not (is_inside r (at_number a i).r)) 13) (refuse_if (is_empty r || not (is_inside r (at_number b j).r)) 13) _ _
      (ap (λ (x : Bool). refuse_if (is_empty r || not x) 13) (inside_same i j r is)) (λ _.
      equal_alike Like (refuse_if (nat_lt (length rest) (rows_len (at_number a i).chan r)) 1) (refuse_if (nat_lt (length rest) (rows_len (at_number b j).chan r)) 1) _ _
      (ap (λ (chan : ℕ). refuse_if (nat_lt (length rest) (rows_len chan r)) 1) (face i j is).chan) (λ _.
      with_images_like Same SameScreen c window a b like n few _ _
      (subst (λ (chan : ℕ). AreRenamed Same (after_load a.images i r (row_pixel r (depth (at_number a i).chan) (take (rows_len (at_number a i).chan r) rest)))
      (after_load b.images j r (row_pixel r (depth chan) (take (rows_len chan r) rest)))) (face i j is).chan
      (renamed_load Same a.images b.images like.images i j is r (row_pixel r (depth (at_number a i).chan) (take (rows_len (at_number a i).chan r) rest))))
      (keeps_load a.images i r (row_pixel r (depth (at_number a i).chan) (take (rows_len (at_number a i).chan r) rest)) 0)
      (keeps_load b.images j r (row_pixel r (depth (at_number b j).chan) (take (rows_len (at_number b j).chan r) rest)) 0))))

  -- ---- fonts

  pub make_font_like : (id count ascent : ℕ) → (id == 0) ≡ false → SameOutcome Like (make_font (client c n) a id count ascent) (make_font (client 1 n) b id count ascent)
  unfolding make_font
  make_font_like id count ascent other =
      bind_alike Same Like (look a (client c n) id) (look b (client 1 n) id) _ _ (look_same Same SameScreen c window a b like n few id other) (λ i j is.
      equal_alike Like (refuse_if ((id == 0) || is_window a i || by_name a.book (client c n) id) 23) (refuse_if ((id == 0) || is_window b j || by_name b.book (client 1 n) id) 23) _ _
      (ap (λ (x : Bool). refuse_if ((id == 0) || x || by_name a.book (client c n) id) 23) (window_same Same SameScreen c window a b like n few i j is)
      ∙ ap (λ (x : Bool). refuse_if ((id == 0) || is_window b j || x) 23) (by_name_same Same SameScreen c window a b like n few id other)) (λ _.
      check_alike Like (refuse_if ((count == 0) || nat_lt most_cells count) 23) _ _ (λ _ _.
      with_client_like Same SameScreen c window a b like n few _ _
      (ap (λ (x : Client). record x { fonts = and x.fonts id (new_font count ascent) }) (client_same Same SameScreen c window a b like n few)))))

  -- ---- reads of `data`

  pub read_data_like : (most : ℕ) → SameOutcome (λ x y. (x.0 ≡ y.0) × Like x.1 y.1) (read_data (client c n) a most) (read_data (client 1 n) b most)
  unfolding read_data
  read_data_like most =
      rw (client_same Same SameScreen c window a b like n few)
      (check_alike (λ x y. (x.0 ≡ y.0) × Like x.1 y.1) (refuse_if (length (client_of b (client 1 n)).pending == 0) 26) _ _ (λ _ _.
      check_alike (λ x y. (x.0 ≡ y.0) × Like x.1 y.1) (refuse_if (nat_lt most (length (client_of b (client 1 n)).pending)) 25) _ _ (λ _ _.
      (refl, with_client_like Same SameScreen c window a b like n few _ _ refl))))
