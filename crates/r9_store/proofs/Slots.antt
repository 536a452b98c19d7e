-- Tiles by number, told by which are held.
use Rattle.std.proofs.Common.{◌≡◌, ◌≢◌, ◌∙◌, ℕ, zero, suc, ◌+◌, ◌<◌, ◌≤◌, Bool, true, false, ◌&&◌, List, [], ◌∷◌, ◌++◌, set, length, get_or, take, replicate, cond, count_by, is_some, Option, Some, None, ⊎_elim, arith, refl, ap, sym}
use Rattle.std.specs.Prelude.{if◌then◌else◌, ◌==◌, ◌||◌, not}
use Rattle.std.proofs.lemmas.Bool.{both_ways, cases_Bool, cases_lt, false≢true, true≢false}
use Rattle.std.proofs.lemmas.Bool.Decides.{Decides-eqb}
use Rattle.std.proofs.lemmas.List.{get_or-set_other, get_or-set_same, get_or-take, get_or_append_left, get_or_past, length-set, length-take-le}
use Rattle.std.proofs.lemmas.List.Sums.{count_by-le-length, sum_by-cons}
use Rattle.r9_geom.specs.declared.Point.{Point}
use Rattle.r9_geom.specs.Geometry.{holds, is_point, strip}
use Rattle.r9_store.specs.Sound.{slots_of, IsSound}
use Rattle.r9_store.specs.Tiles.{cell, is_held, place_of, Tiles}
use Rattle.r9_store.proofs.Blocks.{shown-put_at, PutAt}
use Rattle.r9_store.proofs.Pixels.{shown, shown-blank, shown-none, shown-put, shown-taken}
use Rattle.r9_store.proofs.Rows.{shown-put_row, Lies, Put, Tells}

-- a flag that is set is one of them
pub flag_below : (flags : List Bool) (t : ℕ) → get_or flags t false ≡ true → t < length flags
flag_below flags t is =
    ⊎_elim (λ (below : t < length flags). below)
    (λ (past : length flags ≤ t). absurd (false≢true (sym (get_or_past flags t false past) ∙ is)))
    (cases_lt t (length flags))

-- whether a tile is held
pub slot_held : (flags : List Bool) (tiles : List (List ℕ)) (t : ℕ) → length tiles ≡ length flags → is_some (get_or (slots_of flags tiles) t None) ≡ get_or flags t false
slot_held [] tiles t e = refl
slot_held (f ∷ flags) [] t e = absurd (omega (arith, e))
slot_held (true ∷ flags) (tile ∷ tiles) zero e = refl
slot_held (false ∷ flags) (tile ∷ tiles) zero e = refl
slot_held (f ∷ flags) (tile ∷ tiles) (suc t) e = slot_held flags tiles t (omega (arith, e))

-- what a tile that is held has
pub slot_is : (flags : List Bool) (tiles : List (List ℕ)) (t : ℕ) (tile : List ℕ) → length tiles ≡ length flags → get_or flags t false ≡ true → tile ≡ get_or tiles t tile → get_or (slots_of flags tiles) t None ≡ Some tile
slot_is [] tiles t tile e held is = absurd (false≢true held)
slot_is (f ∷ flags) [] t tile e held is = absurd (omega (arith, e))
slot_is (f ∷ flags) (x ∷ tiles) zero tile e held is = (λ i. if held i then Some (sym is i) else None)
slot_is (f ∷ flags) (x ∷ tiles) (suc t) tile e held is = slot_is flags tiles t tile (omega (arith, e)) held is

-- one tile changes
pub slots_put : (flags : List Bool) (tiles : List (List ℕ)) (t : ℕ) (tile : List ℕ) → get_or flags t false ≡ true → length tiles ≡ length flags → slots_of flags (set tiles t tile) ≡ set (slots_of flags tiles) t (Some tile)
slots_put [] tiles t tile held e = absurd (false≢true held)
slots_put (f ∷ flags) [] t tile held e = absurd (omega (arith, e))
slots_put (f ∷ flags) (x ∷ tiles) zero tile held e = ap (λ h. (if h then Some tile else None) ∷ slots_of flags tiles) held
slots_put (f ∷ flags) (x ∷ tiles) (suc t) tile held e = ap (λ slots. (if f then Some x else None) ∷ slots) (slots_put flags tiles t tile held (omega (arith, e)))

-- one is held from now on
pub slots_taken : (flags : List Bool) (tiles : List (List ℕ)) (t : ℕ) (tile : List ℕ) → length tiles ≡ length flags → slots_of (set flags t true) (set tiles t tile) ≡ set (slots_of flags tiles) t (Some tile)
slots_taken [] [] t tile e = refl
slots_taken [] (x ∷ tiles) t tile e = absurd (omega (arith, e))
slots_taken (f ∷ flags) [] t tile e = absurd (omega (arith, e))
slots_taken (f ∷ flags) (x ∷ tiles) zero tile e = refl
slots_taken (f ∷ flags) (x ∷ tiles) (suc t) tile e = ap (λ slots. (if f then Some x else None) ∷ slots) (slots_taken flags tiles t tile (omega (arith, e)))

-- or no more
pub slots_given : (flags : List Bool) (tiles : List (List ℕ)) (t : ℕ) → length tiles ≡ length flags → slots_of (set flags t false) tiles ≡ set (slots_of flags tiles) t None
slots_given [] tiles t e = refl
slots_given (f ∷ flags) [] t e = absurd (omega (arith, e))
slots_given (f ∷ flags) (x ∷ tiles) zero e = refl
slots_given (f ∷ flags) (x ∷ tiles) (suc t) e = ap (λ slots. (if f then Some x else None) ∷ slots) (slots_given flags tiles t (omega (arith, e)))

-- one more is there, and held
pub slots_pushed : (flags : List Bool) (tiles : List (List ℕ)) (tile : List ℕ) → length tiles ≡ length flags → slots_of (flags ++ true ∷ []) (tiles ++ tile ∷ []) ≡ slots_of flags tiles ++ Some tile ∷ []
slots_pushed [] [] tile e = refl
slots_pushed [] (x ∷ tiles) tile e = absurd (omega (arith, e))
slots_pushed (f ∷ flags) [] tile e = absurd (omega (arith, e))
slots_pushed (f ∷ flags) (x ∷ tiles) tile e = ap (λ slots. (if f then Some x else None) ∷ slots) (slots_pushed flags tiles tile (omega (arith, e)))

pub length-slots : (flags : List Bool) (tiles : List (List ℕ)) → length tiles ≡ length flags → length (slots_of flags tiles) ≡ length flags
length-slots [] tiles e = refl
length-slots (f ∷ flags) [] e = absurd (omega (arith, e))
length-slots (f ∷ flags) (x ∷ tiles) e = ap suc (length-slots flags tiles (omega (arith, e)))

-- how many are held
abbrev pub count : List Bool → ℕ
count flags = count_by (λ (held : Bool). held) flags

count-true : (flags : List Bool) → count (true ∷ flags) ≡ 1 + count flags
count-true flags = sum_by-cons (λ (held : Bool). cond held 1 0) true flags

count-false : (flags : List Bool) → count (false ∷ flags) ≡ count flags
count-false flags = sum_by-cons (λ (held : Bool). cond held 1 0) false flags ∙ omega arith

pub slots_count : (flags : List Bool) (tiles : List (List ℕ)) → length tiles ≡ length flags → count_by is_some (slots_of flags tiles) ≡ count flags
slots_count [] tiles e = refl
slots_count (f ∷ flags) [] e = absurd (omega (arith, e))
slots_count (true ∷ flags) (x ∷ tiles) e =
    sum_by-cons (λ (slot : Option (List ℕ)). cond (is_some slot) 1 0) (Some x) (slots_of flags tiles)
    ∙ ap (λ n. 1 + n) (slots_count flags tiles (omega (arith, e)))
    ∙ sym (count-true flags)
slots_count (false ∷ flags) (x ∷ tiles) e = slots_count flags tiles (omega (arith, e))

pub count-set_true : (flags : List Bool) (t : ℕ) → get_or flags t true ≡ false → count (set flags t true) ≡ count flags + 1
count-set_true [] t spare = absurd (true≢false spare)
count-set_true (true ∷ flags) zero spare = absurd (true≢false spare)
count-set_true (false ∷ flags) zero spare = count-true flags ∙ omega (arith, count-false flags)
count-set_true (true ∷ flags) (suc t) spare = count-true (set flags t true) ∙ omega (arith, count-set_true flags t spare, count-true flags)
count-set_true (false ∷ flags) (suc t) spare = count-set_true flags t spare

pub count-set_false : (flags : List Bool) (t : ℕ) → get_or flags t false ≡ true → count (set flags t false) + 1 ≡ count flags
count-set_false [] t held = absurd (false≢true held)
count-set_false (false ∷ flags) zero held = absurd (false≢true held)
count-set_false (true ∷ flags) zero held = ap (λ n. n + 1) (count-false flags) ∙ omega (arith, count-true flags)
count-set_false (true ∷ flags) (suc t) held = ap (λ n. n + 1) (count-true (set flags t false)) ∙ omega (arith, count-set_false flags t held, count-true flags)
count-set_false (false ∷ flags) (suc t) held = count-set_false flags t held

pub count-push : (flags : List Bool) → count (flags ++ true ∷ []) ≡ count flags + 1
count-push [] = refl
count-push (true ∷ flags) = count-true (flags ++ true ∷ []) ∙ omega (arith, count-push flags, count-true flags)
count-push (false ∷ flags) = count-push flags

-- a flag that is there reads the same, whatever else would be
pub flag_read : (flags : List Bool) (t : ℕ) (d : Bool) → t < length flags → get_or flags t d ≡ get_or flags t false
flag_read [] t d below = absurd (omega (arith, below))
flag_read (f ∷ flags) zero d below = refl
flag_read (f ∷ flags) (suc t) d below = flag_read flags t d (omega (arith, below))

pub spare_below : (flags : List Bool) (t : ℕ) → get_or flags t true ≡ false → t < length flags
spare_below flags t is =
    ⊎_elim (λ (below : t < length flags). below)
    (λ (past : length flags ≤ t). absurd (true≢false (sym (get_or_past flags t true past) ∙ is)))
    (cases_lt t (length flags))

-- the last number that was given back is held again
pub sound-taken : (flags : List Bool) (tiles : List (List ℕ)) (given : List ℕ) (room t n : ℕ) (tile : List ℕ) → IsSound flags tiles given room → n + 1 ≡ length given → t ≡ get_or given n 0 → IsSound (set flags t true) (set tiles t tile) (take n given) room
sound-taken flags tiles given room t n tile is size last = record {
  same = length-set tiles t tile ∙ is.same ∙ sym (length-set flags t true);
  count = omega (arith, is.count, size, short, count-set_true flags t was, length-set flags t true);
  spare = λ k below.
      let early : k < n = omega (arith, below, short) in
      let other : get_or given k 0 ≢ t = (λ same. is.apart k n early (omega (arith, size)) (same ∙ last)) in
      ap (λ u. get_or (set flags t true) u true) (get_or-take n given k 0 early)
      ∙ get_or-set_other flags t (get_or given k 0) true true other
      ∙ is.spare k (omega (arith, early, size));
  apart = λ k l order below same.
      let late : l < n = omega (arith, below, short) in
      let early : k < n = omega (arith, late, order) in
      is.apart k l order (omega (arith, late, size)) (sym (get_or-take n given k 0 early) ∙ same ∙ get_or-take n given l 0 late);
  holds_all = omega (arith, is.holds_all, length-set flags t true);
  most = is.most;
}
  where
    short : length (take n given) ≡ n
    short = length-take-le n given (omega (arith, size))

    was : get_or flags t true ≡ false
    was = ap (λ u. get_or flags u true) last ∙ is.spare n (omega (arith, size))

-- one more tile is held, where none was given back
pub sound-pushed : (flags : List Bool) (tiles : List (List ℕ)) (given left : List ℕ) (room : ℕ) (tile : List ℕ) → IsSound flags tiles given room → length given ≡ 0 → length left ≡ 0 → length flags < room → IsSound (flags ++ true ∷ []) (tiles ++ tile ∷ []) left room
sound-pushed flags tiles given left room tile is none none_left below = record {
  same = omega (arith, is.same, grown flags true, grown tiles tile);
  count = omega (arith, is.count, none, none_left, count-push flags, grown flags true);
  spare = λ k early. absurd (omega (arith, early, none_left));
  apart = λ k l order early. absurd (omega (arith, early, none_left));
  holds_all = omega (arith, grown flags true, below);
  most = is.most;
}
  where
    grown : {X : Type 0} (xs : List X) (x : X) → length (xs ++ x ∷ []) ≡ length xs + 1
    grown [] x = refl
    grown (y ∷ xs) x = ap suc (grown xs x) ∙ omega arith

-- a tile that was held is given back
pub sound-given : (flags : List Bool) (tiles : List (List ℕ)) (given : List ℕ) (room t : ℕ) → IsSound flags tiles given room → get_or flags t false ≡ true → IsSound (set flags t false) tiles (given ++ t ∷ []) room
sound-given flags tiles given room t is held = record {
  same = is.same ∙ sym (length-set flags t false);
  count = omega (arith, is.count, grown given, count-set_false flags t held, length-set flags t false);
  spare = λ k below.
      ⊎_elim
      (λ (early : k < length given).
      let other : get_or given k 0 ≢ t = before k early in
      ap (λ u. get_or (set flags t false) u true) (get_or_append_left given (t ∷ []) 0 k early)
      ∙ get_or-set_other flags t (get_or given k 0) false true other
      ∙ is.spare k early)
      (λ (late : length given ≤ k).
      ap (λ u. get_or (set flags t false) u true) (ap (λ n. get_or (given ++ t ∷ []) n 0) (omega (arith, below, late, grown given)) ∙ at_end given)
      ∙ now flags t (flag_below flags t held))
      (cases_lt k (length given));
  apart = λ k l order below same.
      ⊎_elim
      (λ (early : l < length given).
      is.apart k l order early (sym (get_or_append_left given (t ∷ []) 0 k (omega (arith, order, early))) ∙ same ∙ get_or_append_left given (t ∷ []) 0 l early))
      (λ (late : length given ≤ l).
      let early : k < length given = omega (arith, order, below, grown given) in
      let end : l ≡ length given = omega (arith, below, late, grown given) in
      before k early (sym (get_or_append_left given (t ∷ []) 0 k early) ∙ same ∙ ap (λ n. get_or (given ++ t ∷ []) n 0) end ∙ at_end given))
      (cases_lt l (length given));
  holds_all = omega (arith, is.holds_all, length-set flags t false);
  most = is.most;
}
  where
    grown : (xs : List ℕ) → length (xs ++ t ∷ []) ≡ length xs + 1
    grown [] = refl
    grown (y ∷ xs) = ap suc (grown xs) ∙ omega arith

    at_end : (xs : List ℕ) → get_or (xs ++ t ∷ []) (length xs) 0 ≡ t
    at_end [] = refl
    at_end (y ∷ xs) = at_end xs

    now : (fs : List Bool) (n : ℕ) → n < length fs → get_or (set fs n false) n true ≡ false
    now [] n below = absurd (omega (arith, below))
    now (f ∷ fs) zero below = refl
    now (f ∷ fs) (suc n) below = now fs n (omega (arith, below))

    before : (k : ℕ) → k < length given → get_or given k 0 ≢ t
    before k early e =
        let spare = sym (ap (λ u. get_or flags u true) e) ∙ is.spare k early in
        true≢false (sym held ∙ sym (flag_read flags t true (flag_below flags t held)) ∙ spare)

-- a tile that is taken: it was not there, it is 0 everywhere, and all others stay
pub record IsTaken (old new : List (Option (List ℕ))) (t : ℕ) : Type 0 where
  pub free : get_or old t None ≡ None
  pub now : get_or new t None ≡ Some (replicate 1024 0)
  pub others : (u : ℕ) → u ≢ t → get_or new u None ≡ get_or old u None
  pub more : count_by is_some new ≡ count_by is_some old + 1

pub slot_free : (flags : List Bool) (tiles : List (List ℕ)) (t : ℕ) → get_or flags t false ≡ false → get_or (slots_of flags tiles) t None ≡ None
slot_free [] tiles t free = refl
slot_free (f ∷ flags) [] t free = refl
slot_free (f ∷ flags) (x ∷ tiles) zero free = ap (λ h. if h then Some x else None) free
slot_free (f ∷ flags) (x ∷ tiles) (suc t) free = slot_free flags tiles t free

pub taken_again : (flags : List Bool) (tiles : List (List ℕ)) (t : ℕ) (tile : List ℕ) → tile ≡ replicate 1024 0 → length tiles ≡ length flags → get_or flags t true ≡ false → IsTaken (slots_of flags tiles) (slots_of (set flags t true) (set tiles t tile)) t
taken_again flags tiles t tile blank e spare = record {
  free = slot_free flags tiles t (sym (flag_read flags t true below) ∙ spare);
  now = ap (λ slots. get_or slots t None) now_is ∙ get_or-set_same (slots_of flags tiles) t (Some tile) None (omega (arith, below, length-slots flags tiles e)) ∙ ap (λ (pixels : List ℕ). Some pixels) blank;
  others = λ u other. ap (λ slots. get_or slots u None) now_is ∙ get_or-set_other (slots_of flags tiles) t u (Some tile) None other;
  more =
      slots_count (set flags t true) (set tiles t tile) (length-set tiles t tile ∙ e ∙ sym (length-set flags t true))
      ∙ count-set_true flags t spare
      ∙ ap (λ n. n + 1) (sym (slots_count flags tiles e));
}
  where
    below : t < length flags
    below = spare_below flags t spare

    now_is : slots_of (set flags t true) (set tiles t tile) ≡ set (slots_of flags tiles) t (Some tile)
    now_is = slots_taken flags tiles t tile e

pub taken_new : (flags : List Bool) (tiles : List (List ℕ)) (tile : List ℕ) → tile ≡ replicate 1024 0 → length tiles ≡ length flags → IsTaken (slots_of flags tiles) (slots_of (flags ++ true ∷ []) (tiles ++ tile ∷ [])) (length tiles)
taken_new flags tiles tile blank e = record {
  free = get_or_past slots (length tiles) None (omega (arith, long, e));
  now = ap (λ all. get_or all (length tiles) None) now_is ∙ at_end slots (length tiles) (omega (arith, long, e)) ∙ ap (λ (pixels : List ℕ). Some pixels) blank;
  others = λ u other.
      ap (λ all. get_or all u None) now_is
      ∙ ⊎_elim
      (λ (early : u < length slots). get_or_append_left slots (Some tile ∷ []) None u early)
      (λ (late : length slots ≤ u).
      get_or_past (slots ++ Some tile ∷ []) u None (omega (arith, late, other, long, e, grown slots)) ∙ sym (get_or_past slots u None late))
      (cases_lt u (length slots));
  more =
      slots_count (flags ++ true ∷ []) (tiles ++ tile ∷ []) (omega (arith, e, long_of tiles tile, long_of flags true))
      ∙ count-push flags
      ∙ ap (λ n. n + 1) (sym (slots_count flags tiles e));
}
  where
    slots : List (Option (List ℕ))
    slots = slots_of flags tiles

    long : length slots ≡ length flags
    long = length-slots flags tiles e

    long_of : {X : Type 0} (xs : List X) (x : X) → length (xs ++ x ∷ []) ≡ length xs + 1
    long_of [] x = refl
    long_of (y ∷ xs) x = ap suc (long_of xs x) ∙ omega arith

    grown : (xs : List (Option (List ℕ))) → length (xs ++ Some tile ∷ []) ≡ length xs + 1
    grown xs = long_of xs (Some tile)

    at_end : (xs : List (Option (List ℕ))) (n : ℕ) → n ≡ length xs → get_or (xs ++ Some tile ∷ []) n None ≡ Some tile
    at_end [] n is = ap (λ k. get_or (Some tile ∷ []) k None) is
    at_end (y ∷ xs) zero is = absurd (omega (arith, is))
    at_end (y ∷ xs) (suc n) is = at_end xs n (omega (arith, is))

    now_is : slots_of (flags ++ true ∷ []) (tiles ++ tile ∷ []) ≡ slots ++ Some tile ∷ []
    now_is = slots_pushed flags tiles tile e

-- what is told of a tile that is taken
pub taken_held : (old new : List (Option (List ℕ))) (t : ℕ) → IsTaken old new t → (u : ℕ) → is_some (get_or new u None) ≡ ((u == t) || is_some (get_or old u None))
taken_held old new t is u =
    ⊎_elim
    (λ (e : (u == t) ≡ true). ap (λ n. is_some (get_or new n None)) ((Decides-eqb u t).0 e) ∙ ap is_some is.now ∙ sym (ap (λ b. b || is_some (get_or old u None)) e))
    (λ (e : (u == t) ≡ false). ap is_some (is.others u (λ same. both_ways _ e ((Decides-eqb u t).1 same))) ∙ sym (ap (λ b. b || is_some (get_or old u None)) e))
    (cases_Bool (u == t))

pub taken_blank : (old new : List (Option (List ℕ))) (t : ℕ) → IsTaken old new t → (p : Point) → shown (get_or new t None) p ≡ 0
taken_blank old new t is p = ap (λ slot. shown slot p) is.now ∙ shown-blank p

pub taken_pixels : (old new : List (Option (List ℕ))) (t : ℕ) → IsTaken old new t → (u : ℕ) (p : Point) → shown (get_or new u None) p ≡ shown (get_or old u None) p
taken_pixels old new t is u p = shown-taken (λ n. get_or old n None) (λ n. get_or new n None) t is.free is.now is.others u p

-- and of one that is given back
pub given_held : (flags : List Bool) (tiles : List (List ℕ)) (t : ℕ) → length tiles ≡ length flags → t < length flags → (u : ℕ) → is_some (get_or (slots_of (set flags t false) tiles) u None) ≡ (not (u == t) && is_some (get_or (slots_of flags tiles) u None))
given_held flags tiles t e below u =
    ap (λ slots. is_some (get_or slots u None)) (slots_given flags tiles t e)
    ∙ ⊎_elim
    (λ (h : (u == t) ≡ true).
    ap (λ n. is_some (get_or (set (slots_of flags tiles) t None) n None)) ((Decides-eqb u t).0 h)
    ∙ ap is_some (get_or-set_same (slots_of flags tiles) t None None (omega (arith, below, length-slots flags tiles e)))
    ∙ sym (ap (λ b. not b && is_some (get_or (slots_of flags tiles) u None)) h))
    (λ (h : (u == t) ≡ false).
    ap is_some (get_or-set_other (slots_of flags tiles) t u None None (λ same. both_ways _ h ((Decides-eqb u t).1 same)))
    ∙ sym (ap (λ b. not b && is_some (get_or (slots_of flags tiles) u None)) h))
    (cases_Bool (u == t))

pub given_pixels : (flags : List Bool) (tiles : List (List ℕ)) (t : ℕ) → length tiles ≡ length flags → t < length flags → (u : ℕ) (p : Point) → shown (get_or (slots_of (set flags t false) tiles) u None) p ≡ (if u == t then 0 else shown (get_or (slots_of flags tiles) u None) p)
given_pixels flags tiles t e below u p =
    ap (λ slots. shown (get_or slots u None) p) (slots_given flags tiles t e)
    ∙ ⊎_elim
    (λ (h : (u == t) ≡ true).
    ap (λ n. shown (get_or (set (slots_of flags tiles) t None) n None) p) ((Decides-eqb u t).0 h)
    ∙ ap (λ slot. shown slot p) (get_or-set_same (slots_of flags tiles) t None None (omega (arith, below, length-slots flags tiles e)))
    ∙ shown-none p
    ∙ sym (ap (λ b. if b then 0 else shown (get_or (slots_of flags tiles) u None) p) h))
    (λ (h : (u == t) ≡ false).
    ap (λ slot. shown slot p) (get_or-set_other (slots_of flags tiles) t u None None (λ same. both_ways _ h ((Decides-eqb u t).1 same)))
    ∙ sym (ap (λ b. if b then 0 else shown (get_or (slots_of flags tiles) u None) p) h))
    (cases_Bool (u == t))

pub given_count : (flags : List Bool) (tiles : List (List ℕ)) (t : ℕ) → length tiles ≡ length flags → get_or flags t false ≡ true → count_by is_some (slots_of (set flags t false) tiles) + 1 ≡ count_by is_some (slots_of flags tiles)
given_count flags tiles t e held =
    ap (λ n. n + 1) (slots_count (set flags t false) tiles (e ∙ sym (length-set flags t false)))
    ∙ count-set_false flags t held
    ∙ sym (slots_count flags tiles e)

-- a tile that changes is held as it was
pub put_held : (flags : List Bool) (tiles : List (List ℕ)) (t : ℕ) (tile : List ℕ) → length tiles ≡ length flags → (u : ℕ) → is_some (get_or (slots_of flags (set tiles t tile)) u None) ≡ is_some (get_or (slots_of flags tiles) u None)
put_held flags tiles t tile e u = slot_held flags (set tiles t tile) u (length-set tiles t tile ∙ e) ∙ sym (slot_held flags tiles u e)

pub put_count : (flags : List Bool) (tiles : List (List ℕ)) (t : ℕ) (tile : List ℕ) → length tiles ≡ length flags → count_by is_some (slots_of flags (set tiles t tile)) ≡ count_by is_some (slots_of flags tiles)
put_count flags tiles t tile e = slots_count flags (set tiles t tile) (length-set tiles t tile ∙ e) ∙ sym (slots_count flags tiles e)

-- no more are held than there is room for
pub count_most : (flags : List Bool) → count flags ≤ length flags
count_most flags = count_by-le-length (λ (held : Bool). held) flags

-- the pixels of tiles after one that is held has changed
module _ (flags : List Bool) (tiles : List (List ℕ)) (t : ℕ) (old new : List ℕ) (e : length tiles ≡ length flags) (held : get_or flags t false ≡ true) (is : old ≡ get_or tiles t old) where
  now : (u : ℕ) (q : Point) → shown (get_or (slots_of flags (set tiles t new)) u None) q ≡ shown (get_or (set (slots_of flags tiles) t (Some new)) u None) q
  now u q = ap (λ slots. shown (get_or slots u None) q) (slots_put flags tiles t new held e)

  slot : get_or (slots_of flags tiles) t None ≡ Some old
  slot = slot_is flags tiles t old e held is

  pub tile-put_row : (at : Point) (len : ℕ) (value : ℕ → ℕ) (map : Point → ℕ) → Lies at len → Put (place_of at) len value old new → Tells at len value map → (u : ℕ) (q : Point) → shown (get_or (slots_of flags (set tiles t new)) u None) q ≡ (if (u == t) && holds (strip at len) q then map q else shown (get_or (slots_of flags tiles) u None) q)
  tile-put_row at len value map lies put tells u q = now u q ∙ shown-put_row (slots_of flags tiles) t old new at len value map slot lies put tells u q

  pub tile-put_at : (is_there : Point → Bool) (value : Point → ℕ) → ((p : Point) → is_there p ≡ true → holds cell p ≡ true) → PutAt is_there value old new → (u : ℕ) (q : Point) → shown (get_or (slots_of flags (set tiles t new)) u None) q ≡ (if (u == t) && is_there q then value q else shown (get_or (slots_of flags tiles) u None) q)
  tile-put_at is_there value lies put u q = now u q ∙ shown-put_at (slots_of flags tiles) t old new is_there value slot lies put u q

  pub tile-put : (p : Point) (raw : ℕ) → new ≡ set old (place_of p) raw → length old ≡ 1024 → holds cell p ≡ true → (u : ℕ) (q : Point) → shown (get_or (slots_of flags (set tiles t new)) u None) q ≡ (if (u == t) && is_point q p then raw else shown (get_or (slots_of flags tiles) u None) q)
  tile-put p raw is_new long h u q =
      now u q
      ∙ ap (λ (tile : List ℕ). shown (get_or (set (slots_of flags tiles) t (Some tile)) u None) q) is_new
      ∙ shown-put (slots_of flags tiles) t old p raw slot long h u q

-- as many are held as were not given back
pub sound_held : (flags : List Bool) (tiles : List (List ℕ)) (given : List ℕ) (room : ℕ) → IsSound flags tiles given room → count_by is_some (slots_of flags tiles) + length given ≡ length tiles
sound_held flags tiles given room is = omega (arith, slots_count flags tiles is.same, is.count, is.same)

-- the flag of a tile that is held
pub held_flag : (flags : List Bool) (tiles : List (List ℕ)) (room t n : ℕ) (store : Tiles) → record { slots = slots_of flags tiles; room = room } ≡ store → t ≡ n → length tiles ≡ length flags → is_held store n ≡ true → get_or flags t false ≡ true
held_flag flags tiles room t n store view number e held = sym (slot_held flags tiles t e) ∙ (λ i. is_held (view i) (number i)) ∙ held
