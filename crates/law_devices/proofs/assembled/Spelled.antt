-- The first message that bytes spell sets no clip rectangle but one whose coordinates have 32 bits.
use borrow.Author.Tests.{ltb-false, ltb-true}
use Rattle.std.proofs.Common.{◌≡◌, ◌<◌, ◌-◌, ℕ, suc, ℤ, Bool, true, false, List, [], ◌∷◌, Option, Some, None, Ok, refl, subst, arith}
use Rattle.std.specs.Prelude.{negsuc, ◌==◌, nat_lt, if◌then◌else◌, ◌^◌}
use Rattle.std.specs.Int.{w16, w32, cast_signed}
use Rattle.std.specs.Option.{option_map_or}
use Rattle.std.proofs.lemmas.Int.{clamps, ints}
use Rattle.r9_geom.specs.declared.Point.{Point}
use Rattle.r9_geom.specs.declared.Rect.{Rect}
use Rattle.model_text.specs.text.Reading.{◌>>=◌, ◌&◌}
use Rattle.model_text.specs.text.Outcome.{Outcome}
use Rattle.model_forest.specs.Steps.{clamped, clamped_rect}
use Rattle.model_draw_parts.specs.dmsg.Message.{Message, LowB, UpA, LowC, LowD, UpD, LowF, UpF, LowI, LowL, UpN, LowN, LowO, UpO, LowR, LowS, UpS, LowT, LowX, LowY}
use Rattle.model_draw_parts.specs.dmsg.Reading.{byte, short, long, signed_byte, coordinate, point, rect, name, counted, counted_around, string_head, writing_of, Fields, table, fields_in, First, is_left_out, rowless, spelled_by, low_b, up_a, low_c, low_d, up_d, low_f, up_f, low_i, low_l, up_n, low_n, low_o, up_o, low_r, low_s, up_s, low_t, low_v, low_x, low_y, IsMessage, IsShort, IsUnknown, IsUnsupported, behind, first_message}
use Rattle.model_draw.specs.draw.Act.{spelled}
use Rattle.law_devices.specs.holding.Near.{IsNearMessage}

clamped_negative : (k : ℕ) → k < 2 ^ 31 → clamped (negsuc k) ≡ negsuc k
clamped_negative k few = omega (arith, ints, clamps)

clamped_signed : (n : ℕ) → clamped (cast_signed w32 n) ≡ cast_signed w32 n
clamped_signed n = by (nat_lt n (2 ^ 31)) refl
  where
    by : (b : Bool) → nat_lt n (2 ^ 31) ≡ b → clamped (cast_signed w32 n) ≡ cast_signed w32 n
    by true is = rw is omega (arith, ints, clamps, ltb-true)
    by false is = rw is (clamped_negative (2 ^ 32 - suc n) (omega (arith, ltb-false)))

-- ---- fields

-- what holds of the value of a field, where there is one
abbrev Reads : {A : Type 0} → (A → Type 0) → Option (A × List ℕ) → Type 0
Reads P None = Unit {0}
Reads P (Some x) = P x.0

abbrev AlwaysReads : {A : Type 0} → (A → Type 0) → (List ℕ → Option (A × List ℕ)) → Type 0
AlwaysReads P field = (bytes : List ℕ) → Reads P (field bytes)

made_of : {A B : Type 0} (P : A → Type 0) (Q : B → Type 0) (make : A → B) → ((x : A) → P x → Q (make x)) → (o : Option (A × List ℕ)) → Reads P o → Reads Q (o >>= λ x. Some (make x.0, x.1))
made_of P Q make each None reads = tt
made_of P Q make each (Some x) reads = each x.0 reads

pair_of : {A B : Type 0} (P : A → Type 0) (Q : B → Type 0) (second : List ℕ → Option (B × List ℕ)) → AlwaysReads Q second → (o : Option (A × List ℕ)) → Reads P o
    → Reads (λ (x : A × B). P x.0 × Q x.1) (o >>= λ x. second x.1 >>= λ y. Some ((x.0, y.0), y.1))
pair_of P Q second always None reads = tt
pair_of {A = A} {B = B} P Q second always (Some x) reads = after (second x.1) (always x.1)
  where
    after : (q : Option (B × List ℕ)) → Reads Q q → Reads (λ (z : A × B). P z.0 × Q z.1) (q >>= λ y. Some ((x.0, y.0), y.1))
    after None next = tt
    after (Some y) next = (reads, next)

all : {A : Type 0} (o : Option (A × List ℕ)) → Reads (λ x. Unit {0}) o
all None = tt
all (Some x) = tt

abbrev IsNear : ℤ → Type 0
IsNear x = clamped x ≡ x

abbrev IsNearPoint : Point → Type 0
IsNearPoint p = IsNear p.x × IsNear p.y

abbrev IsNearRect : Rect → Type 0
IsNearRect r = clamped_rect r ≡ r

near_coordinate : AlwaysReads IsNear coordinate
unfolding coordinate
near_coordinate bytes = made_of (λ n. Unit {0}) IsNear (cast_signed w32) (λ n _. clamped_signed n) (long bytes) (all (long bytes))

near_point : AlwaysReads IsNearPoint point
unfolding point
near_point bytes =
    made_of (λ (x : ℤ × ℤ). IsNear x.0 × IsNear x.1) IsNearPoint (λ (x, y). record { x = x; y = y }) (λ x near. near) ((coordinate & coordinate) bytes)
    (pair_of IsNear IsNear coordinate near_coordinate (coordinate bytes) (near_coordinate bytes))

near_rect : AlwaysReads IsNearRect rect
unfolding rect
near_rect bytes =
    made_of (λ (x : Point × Point). IsNearPoint x.0 × IsNearPoint x.1) IsNearRect (λ (min, max). record { min = min; max = max })
    (λ x near i. record { min = record { x = near.0.0 i; y = near.0.1 i }; max = record { x = near.1.0 i; y = near.1.1 i } }) ((point & point) bytes)
    (pair_of IsNearPoint IsNearPoint point near_point (point bytes) (near_point bytes))

-- ---- messages

abbrev Ends : Option ((ℕ × (ℕ × Rect)) × List ℕ) → Type 0
Ends o = Reads (λ (x : ℕ × (ℕ × Rect)). IsNearRect x.1.1) o

near_c : AlwaysReads IsNearMessage low_c
unfolding low_c
near_c bytes =
    made_of (λ (x : ℕ × (ℕ × Rect)). IsNearRect x.1.1) IsNearMessage (λ (dstid, (repl, clipr)). LowC dstid repl clipr) (λ x near. near) ((long & (byte & rect)) bytes)
    (behind_two (long bytes))
  where
    last : (n m : ℕ) (o : Option (Rect × List ℕ)) → Reads IsNearRect o
        → Ends (o >>= λ z. let one : Option ((ℕ × Rect) × List ℕ) = Some ((m, z.0), z.1) in one >>= λ y. let two : Option ((ℕ × (ℕ × Rect)) × List ℕ) = Some ((n, y.0), y.1) in two)
    last n m None near = tt
    last n m (Some z) near = near

    behind_one : (n : ℕ) (o : Option (ℕ × List ℕ))
        → Ends ((o >>= λ x. rect x.1 >>= λ y. let one : Option ((ℕ × Rect) × List ℕ) = Some ((x.0, y.0), y.1) in one) >>= λ y. let two : Option ((ℕ × (ℕ × Rect)) × List ℕ) = Some ((n, y.0), y.1) in two)
    behind_one n None = tt
    behind_one n (Some x) = by (rect x.1) (near_rect x.1)
      where
        by : (q : Option (Rect × List ℕ)) → Reads IsNearRect q
            → Ends ((q >>= λ y. let one : Option ((ℕ × Rect) × List ℕ) = Some ((x.0, y.0), y.1) in one) >>= λ y. let two : Option ((ℕ × (ℕ × Rect)) × List ℕ) = Some ((n, y.0), y.1) in two)
        by None near = tt
        by (Some y) near = near

    behind_two : (o : Option (ℕ × List ℕ)) → Ends (o >>= λ x. (byte & rect) x.1 >>= λ y. let two : Option ((ℕ × (ℕ × Rect)) × List ℕ) = Some ((x.0, y.0), y.1) in two)
    behind_two None = tt
    behind_two (Some x) = behind_one x.0 (byte x.1)

-- ---- each letter

other : {A : Type 0} (make : A → Message) → ((x : A) → IsNearMessage (make x)) → (o : Option (A × List ℕ)) → Reads IsNearMessage (o >>= λ x. Some (make x.0, x.1))
other make each None = tt
other make each (Some x) = each x.0

near_b : AlwaysReads IsNearMessage low_b
unfolding low_b
near_b bytes = other (λ (id, (screenid, (refresh, (chan, (repl, (r, (clipr, color))))))). LowB id screenid refresh chan repl r clipr color) (λ x. tt) ((long & (long & (byte & (long & (byte & (rect & (rect & long))))))) bytes)

near_up_a : AlwaysReads IsNearMessage up_a
unfolding up_a
near_up_a bytes = other (λ (id, (imageid, (fillid, public))). UpA id imageid fillid public) (λ x. tt) ((long & (long & (long & byte))) bytes)

near_d : AlwaysReads IsNearMessage low_d
unfolding low_d
near_d bytes = other (λ (dstid, (srcid, (maskid, (dstr, (srcp, maskp))))). LowD dstid srcid maskid dstr srcp maskp) (λ x. tt) ((long & (long & (long & (rect & (point & point))))) bytes)

near_up_d : AlwaysReads IsNearMessage up_d
unfolding up_d
near_up_d bytes = other UpD (λ x. tt) (byte bytes)

near_f : AlwaysReads IsNearMessage low_f
unfolding low_f
near_f bytes = other LowF (λ x. tt) (long bytes)

near_up_f : AlwaysReads IsNearMessage up_f
unfolding up_f
near_up_f bytes = other UpF (λ x. tt) (long bytes)

near_i : AlwaysReads IsNearMessage low_i
unfolding low_i
near_i bytes = other (λ (id, (n, ascent)). LowI id n ascent) (λ x. tt) ((long & (long & byte)) bytes)

near_l : AlwaysReads IsNearMessage low_l
unfolding low_l
near_l bytes = other (λ (cacheid, (srcid, (index, (r, (sp, (left, width)))))). LowL cacheid srcid index r sp left width) (λ x. tt) ((long & (long & (short & (rect & (point & (signed_byte & byte)))))) bytes)

near_up_n : AlwaysReads IsNearMessage up_n
unfolding up_n
near_up_n bytes = other (λ (id, (tied, name)). UpN id tied name) (λ x. tt) ((long & (byte & name)) bytes)

near_n : AlwaysReads IsNearMessage low_n
unfolding low_n
near_n bytes = other (λ (id, name). LowN id name) (λ x. tt) ((long & name) bytes)

near_o : AlwaysReads IsNearMessage low_o
unfolding low_o
near_o bytes = other (λ (id, (rmin, scr)). LowO id rmin scr) (λ x. tt) ((long & (point & point)) bytes)

near_up_o : AlwaysReads IsNearMessage up_o
unfolding up_o
near_up_o bytes = other UpO (λ x. tt) (byte bytes)

near_r : AlwaysReads IsNearMessage low_r
unfolding low_r
near_r bytes = other (λ (id, r). LowR id r) (λ x. tt) ((long & rect) bytes)

near_s : AlwaysReads IsNearMessage low_s
unfolding low_s
near_s bytes = other (λ (head, indices). LowS (writing_of head indices)) (λ x. tt) ((string_head & counted w16) bytes)

near_up_s : AlwaysReads IsNearMessage up_s
unfolding up_s
near_up_s bytes = other (λ (id, chan). UpS id chan) (λ x. tt) ((long & long) bytes)

near_t : AlwaysReads IsNearMessage low_t
unfolding low_t
near_t bytes = other (λ (top, ids). LowT top ids) (λ x. tt) ((byte & counted w32) bytes)

near_x : AlwaysReads IsNearMessage low_x
unfolding low_x
near_x bytes = other (λ (head, ((bgid, bgp), indices)). LowX (writing_of head indices) bgid bgp) (λ x. tt) ((string_head & counted_around (long & point)) bytes)

near_y : AlwaysReads IsNearMessage low_y
unfolding low_y
near_y bytes = other (λ (id, r). LowY id r) (λ x. tt) ((long & rect) bytes)

near_v : AlwaysReads IsNearMessage low_v
unfolding low_v
near_v bytes = tt

abbrev TableReads : List (ℕ × Fields) → Type 0
TableReads [] = Unit {0}
TableReads (row ∷ rows) = AlwaysReads IsNearMessage row.1 × TableReads rows

table_reads : TableReads table
table_reads = (near_b, (near_up_a, (near_c, (near_d, (near_up_d, (near_f, (near_up_f, (near_i, (near_l, (near_up_n, (near_n, (near_o, (near_up_o, (near_r, (near_s, (near_up_s, (near_t, (near_v, (near_x, (near_y, tt))))))))))))))))))))

same_message : (m n : Message) (rest more : List ℕ) → IsMessage m rest ≡ IsMessage n more → m ≡ n
same_message m n rest more e = cc

rowless_none : (b : Bool) (m : Message) (rest : List ℕ) → (if b then IsUnsupported else IsUnknown) ≡ IsMessage m rest → ⊥
rowless_none true m rest e = cc
rowless_none false m rest e = cc

table_near : (rows : List (ℕ × Fields)) (letter : ℕ) (bytes rest : List ℕ) (m : Message) → TableReads rows
    → option_map_or (λ fields. spelled_by fields bytes) (fields_in rows letter) (rowless letter) ≡ IsMessage m rest → IsNearMessage m
table_near [] letter bytes rest m reads e = absurd (rowless_none (is_left_out letter) m rest e)
table_near (row ∷ rows) letter bytes rest m reads e = chosen (row.0 == letter) (table_near rows letter bytes rest m reads.1) e
  where
    found : (o : Option (Message × List ℕ)) → Reads IsNearMessage o → option_map_or (λ x. IsMessage x.0 x.1) o IsShort ≡ IsMessage m rest → IsNearMessage m
    found None near is = absurd cc
    found (Some x) near is = subst IsNearMessage (same_message x.0 m x.1 rest is) near

    chosen : (b : Bool) → (option_map_or (λ fields. spelled_by fields bytes) (fields_in rows letter) (rowless letter) ≡ IsMessage m rest → IsNearMessage m)
        → option_map_or (λ fields. spelled_by fields bytes) (if b then Some row.1 else fields_in rows letter) (rowless letter) ≡ IsMessage m rest → IsNearMessage m
    chosen true below is = found (row.1 bytes) (reads.0 bytes) is
    chosen false below is = below is

near_first : (bytes rest : List ℕ) (m : Message) → first_message bytes ≡ IsMessage m rest → IsNearMessage m
unfolding first_message behind
near_first [] rest m e = absurd cc
near_first (letter ∷ bytes) rest m e = table_near table letter bytes rest m table_reads e

same_Ok : {X : Type 0} (x y : X) → ◌≡◌ {A = Outcome X} (Ok x) (Ok y) → x ≡ y
same_Ok x y is = cc

-- as an outcome has it
pub spelled_near : (bytes : List ℕ) (m : Message × List ℕ) → spelled (first_message bytes) ≡ Ok m → IsNearMessage m.0
spelled_near bytes m is = by (first_message bytes) refl is
  where
    by : (f : First) → first_message bytes ≡ f → spelled f ≡ Ok m → IsNearMessage m.0
    by (IsMessage n rest) first same = let P : Message × List ℕ → Type 0 = λ x. IsNearMessage x.0 in subst P (same_Ok (n, rest) m same) (near_first bytes rest n first)
    by IsShort first same = absurd cc
    by IsUnknown first same = absurd cc
    by IsUnsupported first same = absurd cc
