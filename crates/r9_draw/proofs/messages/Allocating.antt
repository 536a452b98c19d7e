-- What `b` does once its tests have passed.
use Rattle.std.proofs.Common.{◌≡◌, ℕ, Bool, true, false, ◌≤◌, Option, Ok, Err, refl, sym, ap, ◌∙◌, arith}
use Rattle.std.specs.Prelude.{◌^◌, ◌+◌, ◌||◌, not, nat_lt, is_some}
use Rattle.std.specs.Option.{option_map_or}
use Rattle.std.proofs.lemmas.Bool.Decides.{nat_tests}
use Rattle.r9_geom.specs.declared.Rect.{Rect}
use Rattle.r9_geom.specs.Geometry.{is_empty}
use Rattle.model_pixel.specs.Channels.{is_descriptor}
use Rattle.model_draw.specs.imgfile.ImageFile.{rows_len}
use Rattle.model_text.specs.text.Outcome.{Outcome, ◌>>=◌, refuse_if}
use Rattle.model_draw_parts.specs.images.Book.{Book, add_id, image_id, is_image_id_taken}
use Rattle.model_draw.specs.draw.World.{World, client_of, next_image, with_client}
use Rattle.model_draw.specs.draw.Making.{allocate, clashes, farthest, fill_raw, is_near_rect, is_too_large, overhead, screen_named, with_made, with_new_image, with_size}
use Rattle.r9_draw.specs.declared.messages.plan.Making.{Making}
use Rattle.r9_draw.specs.messages.Plans.{after_make, book_with, screen_for}
use Rattle.r9_device.proofs.device.Adding.{add_id-fresh}

-- five tests that pass
passed : {A : Type 0} (a b c d e : Bool) (rest : Outcome A) → a ≡ false → b ≡ false → c ≡ false → d ≡ false → e ≡ false
    → (refuse_if a 6 >>= λ _. refuse_if b 23 >>= λ _. refuse_if c 8 >>= λ _. refuse_if d 9 >>= λ _. refuse_if e 10 >>= λ _. rest) ≡ rest
passed false false false false false rest p q r s t = refl
passed true b c d e rest p q r s t = absurd cc
passed false true c d e rest p q r s t = absurd cc
passed false false true d e rest p q r s t = absurd cc
passed false false false true e rest p q r s t = absurd cc
passed false false false false true rest p q r s t = absurd cc

-- what is left of `b` once it has its screen
abbrev made_on : (k : ℕ) → World → (id chan : ℕ) → Bool → Rect → Rect → ℕ → Option ℕ → Outcome World
made_on k world id chan repl r clipr color s =
    add_id world.book k id (next_image world) s >>= λ book.
    Ok (with_client (with_made world (with_new_image world s r chan (fill_raw chan color) repl clipr) book) k (with_size (client_of world k) id (rows_len chan r)))

-- what is left of `b` behind its five tests
abbrev rest_of : (k : ℕ) → World → (id screenid chan : ℕ) → Bool → Rect → Rect → ℕ → Outcome World
rest_of k world id screenid chan repl r clipr color =
    screen_named world k screenid >>= λ s.
    refuse_if (option_map_or (clashes world chan repl) s false) 11 >>= λ _.
    made_on k world id chan repl r clipr color s

-- the screen is looked up and tested first
tested : {A B : Type 0} (o : Outcome A) (test : A → Bool) (f : A → Outcome B) → (o >>= λ s. refuse_if (test s) 11 >>= λ _. f s) ≡ ((o >>= λ s. refuse_if (test s) 11 >>= λ _. Ok s) >>= f)
tested (Err n) test f = refl
tested {B = B} (Ok s) test f = by (test s)
  where
    by : (b : Bool) → (refuse_if b 11 >>= λ _. f s) ≡ ((refuse_if b 11 >>= λ _. Ok s) >>= f)
    by true = refl
    by false = refl

rest-tested : (k : ℕ) (world : World) (id screenid chan : ℕ) (repl : Bool) (r clipr : Rect) (color : ℕ) (o : Outcome (Option ℕ)) → screen_for k world screenid chan repl ≡ o
    → rest_of k world id screenid chan repl r clipr color ≡ (o >>= made_on k world id chan repl r clipr color)
unfolding screen_for
rest-tested k world id screenid chan repl r clipr color o e =
    tested (screen_named world k screenid) (λ s. option_map_or (clashes world chan repl) s false) (made_on k world id chan repl r clipr color)
    ∙ ap (λ (p : Outcome (Option ℕ)). p >>= made_on k world id chan repl r clipr color) e

pub record Passes (k : ℕ) (world : World) (id refresh chan : ℕ) (r : Rect) : Type 0 where
  pub fresh : is_image_id_taken world.book k id ≡ false
  pub refreshed : nat_lt 2 refresh ≡ false
  pub lawful : is_descriptor chan ≡ true
  pub shaped : (is_empty r || not (is_near_rect farthest r)) ≡ false
  pub small : is_too_large (client_of world k) (rows_len chan r) ≡ false

allocate-passed : (k : ℕ) (world : World) (id screenid refresh chan : ℕ) (repl : Bool) (r clipr : Rect) (color : ℕ) → Passes k world id refresh chan r
    → allocate k world id screenid refresh chan repl r clipr color ≡ rest_of k world id screenid chan repl r clipr color
unfolding allocate
allocate-passed k world id screenid refresh chan repl r clipr color p =
    passed _ _ _ _ _ (rest_of k world id screenid chan repl r clipr color) p.fresh p.refreshed (ap not p.lawful) p.shaped p.small

pub allocate-refused : (k : ℕ) (world : World) (id screenid refresh chan : ℕ) (repl : Bool) (r clipr : Rect) (color n : ℕ) → Passes k world id refresh chan r
    → screen_for k world screenid chan repl ≡ Err n → allocate k world id screenid refresh chan repl r clipr color ≡ Err n
allocate-refused k world id screenid refresh chan repl r clipr color n p e =
    allocate-passed k world id screenid refresh chan repl r clipr color p ∙ rest-tested k world id screenid chan repl r clipr color (Err n) e

pub allocate-made : (k : ℕ) (world : World) (m : Making) (screenid refresh chan color : ℕ) → Passes k world m.id refresh chan m.r
    → m.chan ≡ chan → m.raw ≡ fill_raw m.chan color → m.len ≡ rows_len m.chan m.r → screen_for k world screenid m.chan m.repl ≡ Ok m.screen
    → allocate k world m.id screenid refresh chan m.repl m.r m.clipr color ≡ Ok (after_make k world m)
unfolding after_make
allocate-made k world m screenid refresh chan color p same raw len e =
    allocate-passed k world m.id screenid refresh chan m.repl m.r m.clipr color p
    ∙ rest-tested k world m.id screenid chan m.repl m.r m.clipr color (Ok m.screen) (ap (λ c. screen_for k world screenid c m.repl) (sym same) ∙ e)
    ∙ ap (λ (o : Outcome Book). o >>= λ book. Ok (with_client (with_made world (with_new_image world m.screen m.r chan (fill_raw chan color) m.repl m.clipr) book) k (with_size (client_of world k) m.id (rows_len chan m.r))))
    (add_id-fresh world.book world.book k m.id (next_image world) m.screen p.fresh)
    ∙ λ i. Ok (with_client (with_made world (with_new_image world m.screen m.r (sym same i) ((ap (λ c. fill_raw c color) (sym same) ∙ sym raw) i) m.repl m.clipr) (book_with world k m)) k (with_size (client_of world k) m.id ((ap (λ c. rows_len c m.r) (sym same) ∙ sym len) i)))

pub fits-of : (sum len : ℕ) → (nat_lt (2 ^ 24) len || nat_lt (2 ^ 25) (sum + len + overhead)) ≡ false → sum + len + overhead ≤ 2 ^ 25
fits-of sum len h = grind (arith, nat_tests)

pub fresh-of : (book : Book) (k id : ℕ) → (id ≡ 0 → ⊥) → is_some (image_id book k id) ≡ false → is_image_id_taken book k id ≡ false
fresh-of book k id other none = grind (arith, nat_tests)

pub refreshed-of : (refresh : ℕ) → refresh ≤ 2 → nat_lt 2 refresh ≡ false
refreshed-of refresh h = grind (arith, nat_tests)

pub shaped-of : (a b : Bool) → a ≡ false → b ≡ true → (a || not b) ≡ false
shaped-of false true h k = refl
shaped-of true b h k = absurd cc
shaped-of false false h k = absurd cc

pub not-true : (b : Bool) → not b ≡ true → b ≡ false
not-true true h = absurd cc
not-true false h = refl

-- the fourth test refuses by 8
pub allocate-unlawful : (k : ℕ) (world : World) (id screenid refresh chan : ℕ) (repl : Bool) (r clipr : Rect) (color : ℕ) → is_image_id_taken world.book k id ≡ false
    → nat_lt 2 refresh ≡ false → is_descriptor chan ≡ false → allocate k world id screenid refresh chan repl r clipr color ≡ Err 8
unfolding allocate
allocate-unlawful k world id screenid refresh chan repl r clipr color p q s = by (is_image_id_taken world.book k id) (nat_lt 2 refresh) (is_descriptor chan) p q s
  where
    by : (a b c : Bool) → a ≡ false → b ≡ false → c ≡ false
        → (refuse_if a 6 >>= λ _. refuse_if b 23 >>= λ _. refuse_if (not c) 8 >>= λ _.
        refuse_if (is_empty r || not (is_near_rect farthest r)) 9 >>= λ _. refuse_if (is_too_large (client_of world k) (rows_len chan r)) 10 >>= λ _. rest_of k world id screenid chan repl r clipr color) ≡ Err 8
    by false false false p q s = refl
    by true b c p q s = absurd cc
    by false true c p q s = absurd cc
    by false false true p q s = absurd cc
