-- The draw messages of a client are read back, whatever stands behind them.
use Rattle.std.proofs.Common.{◌≡◌, ◌^◌, ◌<◌, ◌*◌, ℕ, ltb, List, [], ◌∷◌, ◌++◌, length, Option, Some, false, refl, ap, append_assoc, arith}
use Rattle.std.specs.Prelude.{ℤ, pos, FitsSigned}
use Rattle.std.specs.Int.{w16, w32, cast_unsigned}
use Rattle.std.specs.List.{All, flat_map}
use Rattle.std.proofs.lemmas.Bool.{le-ltb}
use Rattle.std.proofs.lemmas.Int.{to_z-of_z, fits_signed_from_abs}
use Rattle.std.proofs.lemmas.List.{length-append, take_at, drop_at}
use Rattle.std.proofs.lemmas.List.Elements.{All-head, All-tail}
use mir.ValLaws as laws
use Rattle.r9_geom.specs.declared.Point.{Point}
use Rattle.r9_geom.specs.declared.Rect.{Rect}
use Rattle.model_text.specs.text.Number.{two_bytes, four_bytes}
use Rattle.model_text.specs.text.Reading.{◌&◌}
use Rattle.model_text.proofs.text.Fields.{wide16}
use Rattle.model_files.proofs.wire.Parts.{field8, field16, field32}
use Rattle.model_draw_parts.specs.dmsg.Message.{LowB, LowD, LowI, LowL, LowN, LowS, LowY, Writing}
use Rattle.model_draw_parts.specs.dmsg.Reading.{IsMessage, behind, byte, coordinate as coordinate_at, counted, first_message, long, low_b, low_d, low_i, low_l, low_n, low_s, low_y, name as name_at, numbers, numbers_of, point as point_at, rect as rect_at, short, signed_byte, some_bytes, string_head}
use Rattle.model_clients.specs.client.Messages.{character, coordinate, drawing, font, image, named, point, rect, rows, string}

-- what is written is read again, whatever stands behind it, for the values that fit
record IsRead {A : Type 0} (get : List ℕ → Option (A × List ℕ)) (put : A → List ℕ) (Fits : A → Type 0) : Type 0 where
  again : (x : A) (rest : List ℕ) → Fits x → get (put x ++ rest) ≡ Some (x, rest)

both : {A B : Type 0} (get_a : List ℕ → Option (A × List ℕ)) (put_a : A → List ℕ) (FitsA : A → Type 0) (get_b : List ℕ → Option (B × List ℕ)) (put_b : B → List ℕ) (FitsB : B → Type 0)
    → IsRead get_a put_a FitsA → IsRead get_b put_b FitsB → IsRead (get_a & get_b) (λ (x : A × B). put_a x.0 ++ put_b x.1) (λ (x : A × B). FitsA x.0 × FitsB x.1)
both get_a put_a FitsA get_b put_b FitsB a b = record {
  again = λ x rest fits. rw (append_assoc (put_a x.0) (put_b x.1) rest, a.again x.0 (put_b x.1 ++ rest) fits.0, b.again x.1 rest fits.1) refl;
}

-- ---- fields

bytes_read : IsRead byte (λ n. n ∷ []) (λ n. n < 2 ^ 8)
unfolding byte
bytes_read = record { again = λ n rest fits. field8.again n rest fits }

shorts_read : IsRead short two_bytes (λ n. n < 2 ^ 16)
unfolding short
shorts_read = record { again = λ n rest fits. field16.again n rest fits }

longs_read : IsRead long four_bytes (λ n. n < 2 ^ 32)
unfolding long
longs_read = record { again = λ n rest fits. field32.again n rest fits }

abbrev pub IsCoordinate : ℤ → Type 0
IsCoordinate z = FitsSigned w32 z

abbrev pub IsPoint : Point → Type 0
IsPoint p = IsCoordinate p.x × IsCoordinate p.y

abbrev pub IsRect : Rect → Type 0
IsRect r = IsPoint r.min × IsPoint r.max

pub is_coordinate : (n : ℕ) → n < 2 ^ 31 → IsCoordinate (pos n)
is_coordinate n lt = fits_signed_from_abs w32 (pos n) lt

coordinates_read : IsRead coordinate_at coordinate IsCoordinate
unfolding coordinate_at
coordinates_read = record { again = λ z rest fits. rw (longs_read.again (cast_unsigned w32 z) rest (laws.of_z_fits w32 z fits).fits, to_z-of_z w32 z fits) refl }

points_read : IsRead point_at point IsPoint
unfolding point_at
points_read = record { again = λ p rest fits. rw ((both _ _ _ _ _ _ coordinates_read coordinates_read).again (p.x, p.y) rest fits) refl }

rects_read : IsRead rect_at rect IsRect
unfolding rect_at
rects_read = record { again = λ r rest fits. rw ((both _ _ _ _ _ _ points_read points_read).again (r.min, r.max) rest fits) refl }

zeros_read : IsRead signed_byte (λ (z : ℤ). 0 ∷ []) (λ z. pos 0 ≡ z)
unfolding signed_byte
zeros_read = record { again = λ z rest fits. rw (bytes_read.again 0 rest (omega arith)) (ap (λ (y : ℤ). let got : ℤ × List ℕ = (y, rest) in Some got) fits) }

-- ---- lists

length-twos : (xs : List ℕ) → length (flat_map two_bytes xs) ≡ length xs * 2
length-twos [] = refl
length-twos (x ∷ xs) = omega (arith, length-twos xs)

numbers_again : (xs rest : List ℕ) → All (λ x. x < 2 ^ 16) xs → numbers_of w16 (length xs) (flat_map two_bytes xs ++ rest) ≡ xs
unfolding numbers_of
numbers_again [] rest fits = refl
numbers_again (x ∷ xs) rest fits =
    rw (wide16.again x (All-head (λ x. x < 2 ^ 16) x xs fits), numbers_again xs rest (All-tail (λ x. x < 2 ^ 16) x xs fits)) refl

numbers_read : (xs rest : List ℕ) → All (λ x. x < 2 ^ 16) xs → numbers w16 (length xs) (flat_map two_bytes xs ++ rest) ≡ Some (xs, rest)
unfolding numbers
numbers_read xs rest fits =
    let long_enough : ltb (length (flat_map two_bytes xs ++ rest)) (length xs * 2) ≡ false = le-ltb _ _ (omega (arith, length-append (flat_map two_bytes xs) rest, length-twos xs)) in
    rw (long_enough, numbers_again xs rest fits, drop_at (flat_map two_bytes xs) rest (length xs * 2) (length-twos xs)) refl

abbrev AreIndices : List ℕ → Type 0
AreIndices xs = (length xs < 2 ^ 16) × All (λ x. x < 2 ^ 16) xs

indices_read : IsRead (counted w16) (λ xs. two_bytes (length xs) ++ flat_map two_bytes xs) AreIndices
unfolding counted
indices_read = record {
  again = λ xs rest fits.
      rw (append_assoc (two_bytes (length xs)) (flat_map two_bytes xs) rest, shorts_read.again (length xs) (flat_map two_bytes xs ++ rest) fits.0, numbers_read xs rest fits.1) refl;
}

some_read : (text rest : List ℕ) → some_bytes (length text) (text ++ rest) ≡ Some (text, rest)
unfolding some_bytes
some_read text rest =
    let long_enough : ltb (length (text ++ rest)) (length text) ≡ false = le-ltb _ _ (omega (arith, length-append text rest)) in
    rw (long_enough, take_at text rest (length text) refl, drop_at text rest (length text) refl) refl

names_read : IsRead name_at (λ text. length text ∷ text) (λ text. length text < 2 ^ 8)
unfolding name_at
names_read = record { again = λ text rest fits. rw (bytes_read.again (length text) (text ++ rest) fits, some_read text rest) refl }

-- ---- messages

pub drawing_first : (dst src mask : ℕ) (r : Rect) (sp mp : Point) (rest : List ℕ) → dst < 2 ^ 32 → src < 2 ^ 32 → mask < 2 ^ 32 → IsRect r → IsPoint sp → IsPoint mp
    → first_message (drawing dst src mask r sp mp ++ rest) ≡ IsMessage (LowD dst src mask r sp mp) rest
unfolding first_message behind low_d drawing
drawing_first dst src mask r sp mp rest dst_fits src_fits mask_fits r_fits sp_fits mp_fits =
    rw ((both _ _ _ _ _ _ longs_read (both _ _ _ _ _ _ longs_read (both _ _ _ _ _ _ longs_read (both _ _ _ _ _ _ rects_read (both _ _ _ _ _ _ points_read points_read))))).again (dst, (src, (mask, (r, (sp, mp))))) rest (dst_fits, (src_fits, (mask_fits, (r_fits, (sp_fits, mp_fits)))))) refl

pub image_first : (id chan repl : ℕ) (r clipr : Rect) (color : ℕ) (rest : List ℕ) → id < 2 ^ 32 → chan < 2 ^ 32 → repl < 2 ^ 8 → IsRect r → IsRect clipr → color < 2 ^ 32
    → first_message (image id chan repl r clipr color ++ rest) ≡ IsMessage (LowB id 0 0 chan repl r clipr color) rest
unfolding first_message behind low_b image
image_first id chan repl r clipr color rest id_fits chan_fits repl_fits r_fits clipr_fits color_fits =
    rw ((both _ _ _ _ _ _ longs_read (both _ _ _ _ _ _ longs_read (both _ _ _ _ _ _ bytes_read (both _ _ _ _ _ _ longs_read (both _ _ _ _ _ _ bytes_read (both _ _ _ _ _ _ rects_read (both _ _ _ _ _ _ rects_read longs_read))))))).again (id, (0, (0, (chan, (repl, (r, (clipr, color))))))) rest (id_fits, (omega arith, (omega arith, (chan_fits, (repl_fits, (r_fits, (clipr_fits, color_fits)))))))) refl

pub font_first : (id n ascent : ℕ) (rest : List ℕ) → id < 2 ^ 32 → n < 2 ^ 32 → ascent < 2 ^ 8 → first_message (font id n ascent ++ rest) ≡ IsMessage (LowI id n ascent) rest
unfolding first_message behind low_i font
font_first id n ascent rest id_fits n_fits ascent_fits =
    rw ((both _ _ _ _ _ _ longs_read (both _ _ _ _ _ _ longs_read bytes_read)).again (id, (n, ascent)) rest (id_fits, (n_fits, ascent_fits))) refl

pub character_first : (cache src index : ℕ) (r : Rect) (sp : Point) (width : ℕ) (rest : List ℕ) → cache < 2 ^ 32 → src < 2 ^ 32 → index < 2 ^ 16 → IsRect r → IsPoint sp → width < 2 ^ 8
    → first_message (character cache src index r sp width ++ rest) ≡ IsMessage (LowL cache src index r sp (pos 0) width) rest
unfolding first_message behind low_l character
character_first cache src index r sp width rest cache_fits src_fits index_fits r_fits sp_fits width_fits =
    rw ((both _ _ _ _ _ _ longs_read (both _ _ _ _ _ _ longs_read (both _ _ _ _ _ _ shorts_read (both _ _ _ _ _ _ rects_read (both _ _ _ _ _ _ points_read (both _ _ _ _ _ _ zeros_read bytes_read)))))).again (cache, (src, (index, (r, (sp, (pos 0, width)))))) rest (cache_fits, (src_fits, (index_fits, (r_fits, (sp_fits, (refl, width_fits))))))) refl

pub named_first : (id : ℕ) (name rest : List ℕ) → id < 2 ^ 32 → length name < 2 ^ 8 → first_message (named id name ++ rest) ≡ IsMessage (LowN id name) rest
unfolding first_message behind low_n named
named_first id name rest id_fits name_fits = rw ((both _ _ _ _ _ _ longs_read names_read).again (id, name) rest (id_fits, name_fits)) refl

pub string_first : (w : Writing) (rest : List ℕ) → w.dstid < 2 ^ 32 → w.srcid < 2 ^ 32 → w.fontid < 2 ^ 32 → IsPoint w.p → IsRect w.clipr → IsPoint w.sp → AreIndices w.indices
    → first_message (string w ++ rest) ≡ IsMessage (LowS w) rest
unfolding first_message behind low_s string string_head
string_first w rest dst_fits src_fits font_fits p_fits clipr_fits sp_fits indices_fit =
    rw ((both _ _ _ _ _ _ (both _ _ _ _ _ _ longs_read (both _ _ _ _ _ _ longs_read (both _ _ _ _ _ _ longs_read (both _ _ _ _ _ _ points_read (both _ _ _ _ _ _ rects_read points_read))))) indices_read).again ((w.dstid, (w.srcid, (w.fontid, (w.p, (w.clipr, w.sp))))), w.indices) rest ((dst_fits, (src_fits, (font_fits, (p_fits, (clipr_fits, sp_fits))))), indices_fit)) refl

pub rows_first : (id : ℕ) (r : Rect) (bytes rest : List ℕ) → id < 2 ^ 32 → IsRect r → first_message (rows id r bytes ++ rest) ≡ IsMessage (LowY id r) (bytes ++ rest)
unfolding first_message behind low_y rows
rows_first id r bytes rest id_fits r_fits = rw ((both _ _ _ _ _ _ longs_read rects_read).again (id, r) (bytes ++ rest) (id_fits, r_fits)) refl
