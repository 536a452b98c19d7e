-- The image of each tie stays that of the id that made it, call by call.
use Rattle.std.proofs.Common.{◌≡◌, ℕ, Bool, true, false, Option, Some, None, Result, Ok, Err, OnOk, OnErr, List, refl, sym, subst}
use Rattle.std.specs.Prelude.{◌==◌}
use Rattle.model_text.specs.text.Outcome.{Outcome, ◌>>=◌, value_or_refuse}
use Rattle.model_draw_parts.specs.declared.images.ImageId.{ImageId}
use Rattle.model_draw_parts.specs.images.Book.{Book, add_id, add_named, add_screen, empty_book, new_screen, tie, untie}
use Rattle.model_draw_parts.specs.images.Release.{Freed, free_id, own_image_id}
use Rattle.model_draw_parts.specs.images.Ties.{HasTies}
use Rattle.model_draw_parts.proofs.images.Ties.{HasTies-add_id, HasTies-add_named, HasTies-add_screen, HasTies-empty, HasTies-free_id, HasTies-new_screen, HasTies-tie, HasTies-untie}

-- a book that is as it was, or as it is after a call
either : {A E : Type 0} (o : Result A E) (book next : Book) (made : Outcome Book) → HasTies book → ((b : Book) → made ≡ Ok b → HasTies b) → OnOk o (made ≡ Ok next) → OnErr o (next ≡ book) → HasTies next
either (Ok x) book next made ties follows ok err = follows next ok
either (Err x) book next made ties follows ok err = subst HasTies (sym err) ties

pub ties-started : (first book : Book) (fill : ℕ) → add_id empty_book 0 0 0 None ≡ Ok first → new_screen first 0 0 false 0 fill ≡ Ok book → HasTies book
ties-started first book fill e f = HasTies-new_screen first book 0 0 false 0 fill (HasTies-add_id empty_book first 0 0 0 None HasTies-empty e) f

pub ties-made : {A E : Type 0} (o : Result A E) (book next : Book) (k id i : ℕ) (s : Option ℕ) → HasTies book → OnOk o (add_id book k id i s ≡ Ok next) → OnErr o (next ≡ book) → HasTies next
ties-made o book next k id i s ties ok err = either o book next (add_id book k id i s) ties (λ b e. HasTies-add_id book b k id i s ties e) ok err

pub ties-made_screen : {A E : Type 0} (o : Result A E) (book next : Book) (k id : ℕ) (open_to_all : Bool) (image fill : ℕ) → HasTies book → OnOk o (new_screen book k id open_to_all image fill ≡ Ok next) → OnErr o (next ≡ book) → HasTies next
ties-made_screen o book next k id open_to_all image fill ties ok err =
    either o book next (new_screen book k id open_to_all image fill) ties (λ b e. HasTies-new_screen book b k id open_to_all image fill ties e) ok err

pub ties-shared_screen : {A E : Type 0} (o : Result A E) (book next : Book) (k id s : ℕ) (open_to_all : Bool) → HasTies book → OnOk o (add_screen book k id s open_to_all ≡ Ok next) → OnErr o (next ≡ book) → HasTies next
ties-shared_screen o book next k id s open_to_all ties ok err = either o book next (add_screen book k id s open_to_all) ties (λ b e. HasTies-add_screen book b k id s open_to_all ties e) ok err

pub ties-tied : {A E : Type 0} (o : Result A E) (book next : Book) (k id : ℕ) (name : List ℕ) → HasTies book → OnOk o (tie book k id name ≡ Ok next) → OnErr o (next ≡ book) → HasTies next
ties-tied o book next k id name ties ok err = either o book next (tie book k id name) ties (λ b e. HasTies-tie book b k id name ties e) ok err

pub ties-untied : {A E : Type 0} (o : Result A E) (book next : Book) (k id : ℕ) (name : List ℕ) → HasTies book → OnOk o (untie book k id name ≡ Ok next) → OnErr o (next ≡ book) → HasTies next
ties-untied o book next k id name ties ok err = either o book next (untie book k id name) ties (λ b e. HasTies-untie book b k id name ties e) ok err

pub ties-named : {A E : Type 0} (o : Result A E) (book next : Book) (k id : ℕ) (name : List ℕ) → HasTies book → OnOk o (add_named book k id name ≡ Ok next) → OnErr o (next ≡ book) → HasTies next
ties-named o book next k id name ties ok err = either o book next (add_named book k id name) ties (λ b e. HasTies-add_named book b k id name ties e) ok err

-- ---- what goes

-- an id that a connection frees is not 0
freed-own : (book : Book) (k id : ℕ) (freed : Freed) → (k == 0) ≡ false → free_id book k id ≡ Ok freed → (id == 0) ≡ false
unfolding free_id
freed-own book k id freed own e = by (id == 0) refl
  where
    none : (next : ImageId → Outcome Freed) (o : Option ImageId) → o ≡ None → (value_or_refuse o 4 >>= next) ≡ Ok freed → ⊥
    none next None is h = cc
    none next (Some x) is h = cc

    by : (b : Bool) → (id == 0) ≡ b → b ≡ false
    by false at = refl
    by true at =
        let gone : own_image_id book k id ≡ None = rw at (rw own refl) in
        absurd (none _ (own_image_id book k id) gone e)

pub ties-freed : (book : Book) (k id : ℕ) (freed : Freed) → (k == 0) ≡ false → HasTies book → free_id book k id ≡ Ok freed → HasTies freed.book
ties-freed book k id freed own ties e = HasTies-free_id book k id freed (freed-own book k id freed own e) ties e
