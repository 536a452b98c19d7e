-- What a field leaves of the bytes: all but as many as its value takes.
use Rattle.std.proofs.Common.{◌≡◌, ℕ, suc, zero, ◌+◌, ◌*◌, ◌-◌, ◌<◌, ◌≤◌, Bool, true, false, cond, List, [], ◌∷◌, length, take, drop, Option, Some, None, refl, sym, ap, subst, ◌∙◌, arith}
use Rattle.std.specs.Prelude.{nat_lt, ◌==◌, if◌then◌else◌}
use Rattle.std.specs.Option.{option_map_or}
use Rattle.std.specs.Int.{Width, w8, w16, w32, byte_len, from_le_bytes}
use Rattle.std.proofs.lemmas.List.{drop-drop, length-drop, length-take-le}
use borrow.Author.Tests.{ltb-false}
use Rattle.r9_geom.specs.declared.Point.{Point}
use Rattle.r9_geom.specs.declared.Rect.{Rect}
use Rattle.model_text.specs.text.Reading.{◌>>=◌, ◌&◌, number_at}
use Rattle.model_draw_parts.specs.dmsg.Message.{Message, spelled_len, LowB, UpN, LowN, LowS, LowT, LowX}
use Rattle.model_draw_parts.specs.dmsg.Reading.{read_as, byte, short, long, signed_byte, coordinate, point, rect, numbers_of, numbers, some_bytes, name, counted, counted_around, string_head, writing_of, Fields, table, fields_in, is_left_out, rowless, spelled_by, low_b, up_a, low_c, low_d, up_d, low_f, up_f, low_i, low_l, up_n, low_n, low_o, up_o, low_r, low_s, up_s, low_t, low_v, low_x, low_y, IsMessage, IsShort, IsUnknown, IsUnsupported, behind, first_message}

-- the rest is what stands behind the first n of these bytes
pub record IsBehind (rest : List ℕ) (n : ℕ) (bytes : List ℕ) : Type 0 where
  pub is : rest ≡ drop n bytes
  pub fits : n ≤ length bytes

along : (rest bytes : List ℕ) (n m : ℕ) → n ≡ m → IsBehind rest n bytes → IsBehind rest m bytes
along rest bytes n m e h = let P : ℕ → Type 0 = λ k. IsBehind rest k bytes in subst P e h

further : (last rest bytes : List ℕ) (n m : ℕ) → IsBehind rest n bytes → IsBehind last m rest → IsBehind last (n + m) bytes
further last rest bytes n m h k = record {
  is = k.is ∙ ap (drop m) h.is ∙ drop-drop m n bytes;
  fits = omega (arith, ap length h.is, length-drop n bytes, h.fits, k.fits);
}

-- the bytes behind a value are those that it does not take
abbrev Left : {A : Type 0} → Option (A × List ℕ) → (A → ℕ) → List ℕ → Type 0
Left None len bytes = Unit {0}
Left (Some x) len bytes = IsBehind x.1 (len x.0) bytes

abbrev Leaves : {A : Type 0} → (List ℕ → Option (A × List ℕ)) → (A → ℕ) → Type 0
Leaves f len = (bytes : List ℕ) → Left (f bytes) len bytes

tested : {A : Type 0} (b : Bool) (x : A) (bytes : List ℕ) (len : A → ℕ) (n : ℕ) → n ≡ len x → nat_lt (length bytes) n ≡ b
    → Left (cond b None (Some (x, drop n bytes))) len bytes
tested true x bytes len n e b = tt
tested false x bytes len n e b =
    along (drop n bytes) bytes n (len x) e (record { is = refl; fits = omega (arith, ltb-false) })

number_leaves : (w : Width) → Leaves (number_at w) (λ _. byte_len w)
number_leaves w bytes =
    tested (nat_lt (length bytes) (byte_len w)) (from_le_bytes w (take (byte_len w) bytes)) bytes (λ _. byte_len w) (byte_len w) refl refl

read_as_step : {A B : Type 0} (make : A → B) (len : A → ℕ) (len' : B → ℕ) (bytes : List ℕ) → ((a : A) → len' (make a) ≡ len a)
    → (o : Option (A × List ℕ)) → Left o len bytes → Left (o >>= λ x. Some (make x.0, x.1)) len' bytes
read_as_step make len len' bytes same None h = tt
read_as_step make len len' bytes same (Some x) h = along x.1 bytes _ _ (sym (same x.0)) h

read_as_leaves : {A B : Type 0} (f : List ℕ → Option (A × List ℕ)) (make : A → B) (len : A → ℕ) (len' : B → ℕ)
    → Leaves f len → ((a : A) → len' (make a) ≡ len a) → Leaves (read_as f make) len'
read_as_leaves f make len len' h same bytes = read_as_step make len len' bytes same (f bytes) (h bytes)

second_step : {A B : Type 0} (a : A) (rest bytes : List ℕ) (len : A → ℕ) (len_b : B → ℕ) → IsBehind rest (len a) bytes
    → (o : Option (B × List ℕ)) → Left o len_b rest
    → Left (o >>= λ y. Some ((a, y.0), y.1)) (λ (x : A × B). len x.0 + len_b x.1) bytes
second_step a rest bytes len len_b e None h = tt
second_step a rest bytes len len_b e (Some y) h = further y.1 rest bytes (len a) (len_b y.0) e h

pair_step : {A B : Type 0} (g : List ℕ → Option (B × List ℕ)) (len : A → ℕ) (len_b : B → ℕ) (bytes : List ℕ) → Leaves g len_b
    → (o : Option (A × List ℕ)) → Left o len bytes
    → Left (o >>= λ x. g x.1 >>= λ y. Some ((x.0, y.0), y.1)) (λ (x : A × B). len x.0 + len_b x.1) bytes
pair_step g len len_b bytes k None h = tt
pair_step g len len_b bytes k (Some x) h = second_step x.0 x.1 bytes len len_b h (g x.1) (k x.1)

pair_leaves : {A B : Type 0} (f : List ℕ → Option (A × List ℕ)) (g : List ℕ → Option (B × List ℕ)) (len : A → ℕ) (len_b : B → ℕ)
    → Leaves f len → Leaves g len_b → Leaves (f & g) (λ (x : A × B). len x.0 + len_b x.1)
pair_leaves f g len len_b h k bytes = pair_step g len len_b bytes k (f bytes) (h bytes)

-- as many numbers as are asked for
pub length-numbers_of : (w : Width) (n : ℕ) (bytes : List ℕ) → length (numbers_of w n bytes) ≡ n
unfolding numbers_of
length-numbers_of w zero bytes = refl
length-numbers_of w (suc n) bytes = ap suc (length-numbers_of w n (drop (byte_len w) bytes))

numbers_leaves : (w : Width) (n : ℕ) → Leaves (numbers w n) (λ xs. byte_len w * length xs)
unfolding numbers
numbers_leaves w n bytes =
    let len : n * byte_len w ≡ byte_len w * length (numbers_of w n bytes) = rw length-numbers_of (omega arith) in
    tested (nat_lt (length bytes) (n * byte_len w)) (numbers_of w n bytes) bytes (λ xs. byte_len w * length xs) (n * byte_len w) len refl

-- a count of a fixed size, and then something that leaves so much less
counted_step : {A : Type 0} (g : ℕ → List ℕ → Option (A × List ℕ)) (size : ℕ) (len : A → ℕ) (bytes : List ℕ) → ((n : ℕ) → Leaves (g n) len)
    → (o : Option (ℕ × List ℕ)) → Left o (λ _. size) bytes → Left (o >>= λ n. g n.0 n.1) (λ x. size + len x) bytes
counted_step g size len bytes k None h = tt
counted_step {A = A} g size len bytes k (Some n) h = after (g n.0 n.1) (k n.0 n.1)
  where
    after : (o : Option (A × List ℕ)) → Left o len n.1 → Left o (λ x. size + len x) bytes
    after None e = tt
    after (Some x) e = further x.1 n.1 bytes size (len x.0) h e

byte_leaves : Leaves byte (λ _. 1)
unfolding byte
byte_leaves bytes = number_leaves w8 bytes

short_leaves : Leaves short (λ _. 2)
unfolding short
short_leaves bytes = number_leaves w16 bytes

long_leaves : Leaves long (λ _. 4)
unfolding long
long_leaves bytes = number_leaves w32 bytes

coordinate_leaves : Leaves coordinate (λ _. 4)
unfolding coordinate
coordinate_leaves = read_as_leaves long _ (λ _. 4) (λ _. 4) long_leaves (λ _. refl)

taken : (b : Bool) (n : ℕ) (bytes : List ℕ) → nat_lt (length bytes) n ≡ b
    → Left (cond b None (Some (take n bytes, drop n bytes))) length bytes
taken true n bytes e = tt
taken false n bytes e =
    let fits : n ≤ length bytes = omega (arith, ltb-false) in
    along (drop n bytes) bytes n _ (sym (length-take-le n bytes fits)) (record { is = refl; fits = fits })

some_bytes_leaves : (n : ℕ) → Leaves (some_bytes n) length
unfolding some_bytes
some_bytes_leaves n bytes = taken (nat_lt (length bytes) n) n bytes refl

name_leaves : Leaves name (λ xs. 1 + length xs)
unfolding name
name_leaves bytes = counted_step some_bytes 1 length bytes some_bytes_leaves (byte bytes) (byte_leaves bytes)

counted_leaves : (w : Width) → Leaves (counted w) (λ xs. 2 + byte_len w * length xs)
unfolding counted
counted_leaves w bytes =
    counted_step (numbers w) 2 (λ xs. byte_len w * length xs) bytes (numbers_leaves w) (short bytes) (short_leaves bytes)

signed_byte_leaves : Leaves signed_byte (λ _. 1)
unfolding signed_byte
signed_byte_leaves = read_as_leaves byte _ (λ _. 1) (λ _. 1) byte_leaves (λ _. refl)

point_leaves : Leaves point (λ _. 8)
unfolding point
point_leaves = read_as_leaves _ _ (λ _. 8) (λ _. 8) (pair_leaves coordinate coordinate _ _ coordinate_leaves coordinate_leaves) (λ _. refl)

rect_leaves : Leaves rect (λ _. 16)
unfolding rect
rect_leaves = read_as_leaves _ _ (λ _. 16) (λ _. 16) (pair_leaves point point _ _ point_leaves point_leaves) (λ _. refl)

string_head_leaves : Leaves string_head (λ _. 44)
unfolding string_head
string_head_leaves =
    pair_leaves long _ (λ _. 4) (λ _. 40) long_leaves
    (pair_leaves long _ (λ _. 4) (λ _. 36) long_leaves
    (pair_leaves long _ (λ _. 4) (λ _. 32) long_leaves
    (pair_leaves point _ (λ _. 8) (λ _. 24) point_leaves (pair_leaves rect point (λ _. 16) (λ _. 8) rect_leaves point_leaves))))

around_leaves : {A : Type 0} (field : List ℕ → Option (A × List ℕ)) (size : ℕ) → Leaves field (λ _. size)
    → Leaves (counted_around field) (λ x. 2 + (size + 2 * length x.1))
unfolding counted_around
around_leaves field size h bytes =
    counted_step (λ n. field & numbers w16 n) 2 (λ x. size + 2 * length x.1) bytes
    (λ n. pair_leaves field (numbers w16 n) (λ _. size) (λ xs. 2 * length xs) h (numbers_leaves w16 n))
    (short bytes)
    (short_leaves bytes)

-- the bytes of a message behind its letter
behind_letter : Message → ℕ
behind_letter m = spelled_len m - 1

-- two fields of a fixed size
two : {A B : Type 0} (f : List ℕ → Option (A × List ℕ)) (g : List ℕ → Option (B × List ℕ)) (n m : ℕ)
    → Leaves f (λ _. n) → Leaves g (λ _. m) → Leaves (f & g) (λ _. n + m)
two f g n m h k = pair_leaves f g (λ _. n) (λ _. m) h k

-- the letters with a list: a name, indices or ids
up_n_leaves : Leaves up_n behind_letter
unfolding behind_letter up_n
up_n_leaves = read_as_leaves (long & (byte & name)) (λ (id, (tied, name)). UpN id tied name)
    (λ (x : ℕ × (ℕ × List ℕ)). 4 + (1 + (1 + length x.1.1))) behind_letter
    (pair_leaves long (byte & name) (λ _. 4) (λ (x : ℕ × List ℕ). 1 + (1 + length x.1)) long_leaves
    (pair_leaves byte name (λ _. 1) (λ xs. 1 + length xs) byte_leaves name_leaves))
    (λ x. omega arith)

low_n_leaves : Leaves low_n behind_letter
unfolding behind_letter low_n
low_n_leaves = read_as_leaves (long & name) (λ (id, name). LowN id name)
    (λ (x : ℕ × List ℕ). 4 + (1 + length x.1)) behind_letter
    (pair_leaves long name (λ _. 4) (λ xs. 1 + length xs) long_leaves name_leaves)
    (λ x. omega arith)

low_s_leaves : Leaves low_s behind_letter
unfolding behind_letter low_s
low_s_leaves = read_as_leaves (string_head & counted w16) (λ (head, indices). LowS (writing_of head indices))
    (λ (x : (ℕ × (ℕ × (ℕ × (Point × (Rect × Point))))) × List ℕ). 44 + (2 + 2 * length x.1)) behind_letter
    (pair_leaves string_head (counted w16) (λ _. 44) (λ xs. 2 + 2 * length xs) string_head_leaves (counted_leaves w16))
    (λ x. omega arith)

low_t_leaves : Leaves low_t behind_letter
unfolding behind_letter low_t
low_t_leaves = read_as_leaves (byte & counted w32) (λ (top, ids). LowT top ids)
    (λ (x : ℕ × List ℕ). 1 + (2 + 4 * length x.1)) behind_letter
    (pair_leaves byte (counted w32) (λ _. 1) (λ xs. 2 + 4 * length xs) byte_leaves (counted_leaves w32))
    (λ x. omega arith)

low_x_leaves : Leaves low_x behind_letter
unfolding behind_letter low_x
low_x_leaves = read_as_leaves (string_head & counted_around (long & point)) (λ (head, ((bgid, bgp), indices)). LowX (writing_of head indices) bgid bgp)
    (λ (x : (ℕ × (ℕ × (ℕ × (Point × (Rect × Point))))) × ((ℕ × Point) × List ℕ)). 44 + (2 + (12 + 2 * length x.1.1))) behind_letter
    (pair_leaves string_head (counted_around (long & point)) (λ _. 44) (λ (x : (ℕ × Point) × List ℕ). 2 + (12 + 2 * length x.1)) string_head_leaves (around_leaves (long & point) 12 (two long point 4 8 long_leaves point_leaves)))
    (λ x. omega arith)

low_b_leaves : Leaves low_b behind_letter
unfolding behind_letter low_b
low_b_leaves = read_as_leaves _ _ (λ _. 50) behind_letter (two long _ 4 46 long_leaves (two long _ 4 42 long_leaves (two byte _ 1 41 byte_leaves (two long _ 4 37 long_leaves (two byte _ 1 36 byte_leaves (two rect _ 16 20 rect_leaves (two rect _ 16 4 rect_leaves long_leaves))))))) (λ _. refl)

up_a_leaves : Leaves up_a behind_letter
unfolding behind_letter up_a
up_a_leaves = read_as_leaves _ _ (λ _. 13) behind_letter (two long _ 4 9 long_leaves (two long _ 4 5 long_leaves (two long _ 4 1 long_leaves byte_leaves))) (λ _. refl)

low_c_leaves : Leaves low_c behind_letter
unfolding behind_letter low_c
low_c_leaves = read_as_leaves _ _ (λ _. 21) behind_letter (two long _ 4 17 long_leaves (two byte _ 1 16 byte_leaves rect_leaves)) (λ _. refl)

low_d_leaves : Leaves low_d behind_letter
unfolding behind_letter low_d
low_d_leaves = read_as_leaves _ _ (λ _. 44) behind_letter (two long _ 4 40 long_leaves (two long _ 4 36 long_leaves (two long _ 4 32 long_leaves (two rect _ 16 16 rect_leaves (two point _ 8 8 point_leaves point_leaves))))) (λ _. refl)

up_d_leaves : Leaves up_d behind_letter
unfolding behind_letter up_d
up_d_leaves = read_as_leaves _ _ (λ _. 1) behind_letter byte_leaves (λ _. refl)

low_f_leaves : Leaves low_f behind_letter
unfolding behind_letter low_f
low_f_leaves = read_as_leaves _ _ (λ _. 4) behind_letter long_leaves (λ _. refl)

up_f_leaves : Leaves up_f behind_letter
unfolding behind_letter up_f
up_f_leaves = read_as_leaves _ _ (λ _. 4) behind_letter long_leaves (λ _. refl)

low_i_leaves : Leaves low_i behind_letter
unfolding behind_letter low_i
low_i_leaves = read_as_leaves _ _ (λ _. 9) behind_letter (two long _ 4 5 long_leaves (two long _ 4 1 long_leaves byte_leaves)) (λ _. refl)

low_l_leaves : Leaves low_l behind_letter
unfolding behind_letter low_l
low_l_leaves = read_as_leaves _ _ (λ _. 36) behind_letter (two long _ 4 32 long_leaves (two long _ 4 28 long_leaves (two short _ 2 26 short_leaves (two rect _ 16 10 rect_leaves (two point _ 8 2 point_leaves (two signed_byte _ 1 1 signed_byte_leaves byte_leaves)))))) (λ _. refl)

low_o_leaves : Leaves low_o behind_letter
unfolding behind_letter low_o
low_o_leaves = read_as_leaves _ _ (λ _. 20) behind_letter (two long _ 4 16 long_leaves (two point _ 8 8 point_leaves point_leaves)) (λ _. refl)

up_o_leaves : Leaves up_o behind_letter
unfolding behind_letter up_o
up_o_leaves = read_as_leaves _ _ (λ _. 1) behind_letter byte_leaves (λ _. refl)

low_r_leaves : Leaves low_r behind_letter
unfolding behind_letter low_r
low_r_leaves = read_as_leaves _ _ (λ _. 20) behind_letter (two long _ 4 16 long_leaves rect_leaves) (λ _. refl)

up_s_leaves : Leaves up_s behind_letter
unfolding behind_letter up_s
up_s_leaves = read_as_leaves _ _ (λ _. 8) behind_letter (two long _ 4 4 long_leaves long_leaves) (λ _. refl)

low_y_leaves : Leaves low_y behind_letter
unfolding behind_letter low_y
low_y_leaves = read_as_leaves _ _ (λ _. 20) behind_letter (two long _ 4 16 long_leaves rect_leaves) (λ _. refl)

low_v_leaves : Leaves low_v behind_letter
unfolding behind_letter low_v
low_v_leaves bytes = record { is = refl; fits = omega arith }

-- each row of a table leaves all but the bytes of its message
abbrev TableLeaves : List (ℕ × Fields) → Type 0
TableLeaves [] = Unit {0}
TableLeaves (row ∷ rows) = Leaves row.1 behind_letter × TableLeaves rows

table_leaves : TableLeaves table
table_leaves = (low_b_leaves, (up_a_leaves, (low_c_leaves, (low_d_leaves, (up_d_leaves, (low_f_leaves, (up_f_leaves, (low_i_leaves, (low_l_leaves, (up_n_leaves, (low_n_leaves, (low_o_leaves, (up_o_leaves, (low_r_leaves, (low_s_leaves, (up_s_leaves, (low_t_leaves, (low_v_leaves, (low_x_leaves, (low_y_leaves, tt))))))))))))))))))))

same_rest : (m n : Message) (rest other : List ℕ) → IsMessage m rest ≡ IsMessage n other → (m ≡ n) × (rest ≡ other)
same_rest m n rest other e = (cc, cc)

spelled_rest : (fields : Fields) (bytes rest : List ℕ) (m : Message) → Leaves fields behind_letter → spelled_by fields bytes ≡ IsMessage m rest → IsBehind rest (behind_letter m) bytes
spelled_rest fields bytes rest m h e = found (fields bytes) (h bytes) e
  where
    found : (o : Option (Message × List ℕ)) → Left o behind_letter bytes → option_map_or (λ x. IsMessage x.0 x.1) o IsShort ≡ IsMessage m rest → IsBehind rest (behind_letter m) bytes
    found None l e = absurd cc
    found (Some x) l e =
        let same = same_rest x.0 m x.1 rest e in
        let P : List ℕ → Type 0 = λ r. IsBehind r (behind_letter m) bytes in
        subst P same.1 (along x.1 bytes _ _ (ap behind_letter same.0) l)

rowless_none : (b : Bool) (m : Message) (rest : List ℕ) → (if b then IsUnsupported else IsUnknown) ≡ IsMessage m rest → ⊥
rowless_none true m rest e = cc
rowless_none false m rest e = cc

table_rest : (rows : List (ℕ × Fields)) (letter : ℕ) (bytes rest : List ℕ) (m : Message) → TableLeaves rows
    → option_map_or (λ fields. spelled_by fields bytes) (fields_in rows letter) (rowless letter) ≡ IsMessage m rest → IsBehind rest (behind_letter m) bytes
table_rest [] letter bytes rest m h e = absurd (rowless_none (is_left_out letter) m rest e)
table_rest (row ∷ rows) letter bytes rest m h e = chosen (row.0 == letter) (table_rest rows letter bytes rest m h.1) e
  where
    chosen : (b : Bool) → (option_map_or (λ fields. spelled_by fields bytes) (fields_in rows letter) (rowless letter) ≡ IsMessage m rest → IsBehind rest (behind_letter m) bytes)
        → option_map_or (λ fields. spelled_by fields bytes) (if b then Some row.1 else fields_in rows letter) (rowless letter) ≡ IsMessage m rest → IsBehind rest (behind_letter m) bytes
    chosen true below e = spelled_rest row.1 bytes rest m h.0 e
    chosen false below e = below e

positive : (m : Message) → spelled_len m ≡ suc (behind_letter m)
unfolding behind_letter
positive (LowB id screenid refresh chan repl r clipr color) = refl
positive (UpN id tied name) = omega arith
positive (LowN id name) = omega arith
positive (LowS writing) = omega arith
positive (LowT top ids) = omega arith
positive (LowX writing bgid bgp) = omega arith
positive _ = refl

pub first_message-rest : (bytes rest : List ℕ) (m : Message) → first_message bytes ≡ IsMessage m rest → IsBehind rest (spelled_len m) bytes
unfolding first_message behind
first_message-rest [] rest m e = absurd cc
first_message-rest (letter ∷ bytes) rest m e =
    let found = table_rest table letter bytes rest m table_leaves e in
    along rest (letter ∷ bytes) _ _ (sym (positive m)) (record { is = found.is; fits = omega (arith, found.fits) })

-- a message takes a byte at least
pub rest-shorter : (bytes rest : List ℕ) (m : Message) → first_message bytes ≡ IsMessage m rest → length rest < length bytes
rest-shorter bytes rest m e =
    let found = first_message-rest bytes rest m e in
    omega (arith, ap length found.is, length-drop (spelled_len m) bytes, positive m, found.fits)
