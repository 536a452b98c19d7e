-- What becomes of one message, by what stands first in the bytes and what it does.
use Rattle.std.proofs.Common.{◌≡◌, ℕ, Bool, true, false, ◌+◌, ◌-◌, ◌<◌, ◌≤◌, List, [], ◌∷◌, ◌++◌, length, take, drop, Option, Some, None, Ok, Err, inl, inr, refl, sym, ap, ◌∙◌, arith}
use Rattle.std.specs.Prelude.{is_ok, IsSome}
use Rattle.std.specs.Option.{option_map_or}
use Rattle.std.proofs.lemmas.List.{append-nil, drop-drop, length-drop, take-append-le, take_all}
use Rattle.model_text.specs.text.Map.{lookup}
use Rattle.model_text.specs.text.Outcome.{Outcome}
use Rattle.model_draw_parts.specs.dmsg.Message.{Message, spelled_len, LowB, UpN, LowN, LowS, LowT, LowX, LowY}
use Rattle.model_draw_parts.specs.dmsg.Reading.{First, IsMessage, IsShort, IsUnknown, IsUnsupported, first_message}
use Rattle.r9_dmsg.specs.declared.listed.Listed.{Listed}
use Rattle.r9_dmsg.specs.declared.listed.Listed.TheVariants.{Name, Restack, UseName, Write}
use Rattle.r9_dmsg.specs.declared.writing.Background.{Background}
use Rattle.r9_dmsg.specs.Listed.{has_list, listed_len, listed_message, writing_in}
use Rattle.std.specs.Result.{result_unwrap_or}
use Rattle.model_draw.specs.draw.World.{World}
use Rattle.model_draw.specs.draw.Act.{act, behind, one_message, spelled}
use Rattle.model_draw.specs.draw.Memory.{takes_no_memory}
use Rattle.r9_draw.proofs.draw.Refusals.{act_not, not-of}
use Rattle.model_draw.specs.cost.Cost.{first_cost, message_cost, of_found}
use Rattle.model_draw.specs.looked.Rows.{rows_first, rows_of}
use Rattle.r9_draw.specs.declared.draw.message.Step.{Step}
use Rattle.r9_draw.specs.declared.draw.message.Step.TheVariants.{Done}
use Rattle.r9_draw.specs.draw.Steps.{HasRows, IsDone, IsRefused, IsShortOf, rows_by}

message-err : (k : ℕ) (w : World) (bytes rest : List ℕ) (m : Message) (n : ℕ) → first_message bytes ≡ IsMessage m rest → act k w m rest ≡ Err n → one_message k w None 0 bytes ≡ Err n
unfolding one_message
message-err k w bytes rest m n e a = rw e (rw a refl)

message-ok : (k : ℕ) (w next : World) (bytes rest : List ℕ) (m : Message) → first_message bytes ≡ IsMessage m rest → act k w m rest ≡ Ok next
    → one_message k w None 0 bytes ≡ Ok (next, behind k w m rest)
unfolding one_message
message-ok k w next bytes rest m e a = rw e (rw a refl)

refused-first : (k : ℕ) (w : World) (bytes : List ℕ) (first : First) (n : ℕ) → first_message bytes ≡ first → spelled first ≡ Err n → one_message k w None 0 bytes ≡ Err n
unfolding one_message
refused-first k w bytes first n e s = rw e (rw s refl)

pub refused-short : (k : ℕ) (w : World) (bytes : List ℕ) → first_message bytes ≡ IsShort → IsRefused k w bytes 1 w
refused-short k w bytes e = record { refused = refused-first k w bytes IsShort 1 e refl; other = λ f. omega (arith, f); kept = refl }

pub refused-unknown : (k : ℕ) (w : World) (bytes : List ℕ) → first_message bytes ≡ IsUnknown → IsRefused k w bytes 2 w
refused-unknown k w bytes e = record { refused = refused-first k w bytes IsUnknown 2 e refl; other = λ f. omega (arith, f); kept = refl }

pub refused-unsupported : (k : ℕ) (w : World) (bytes : List ℕ) → first_message bytes ≡ IsUnsupported → IsRefused k w bytes 3 w
refused-unsupported k w bytes e = record { refused = refused-first k w bytes IsUnsupported 3 e refl; other = λ f. omega (arith, f); kept = refl }

pub refused-act : (k : ℕ) (w : World) (bytes rest : List ℕ) (m : Message) (n : ℕ) → first_message bytes ≡ IsMessage m rest → act k w m rest ≡ Err n → IsRefused k w bytes n w
refused-act k w bytes rest m n e a = record { refused = message-err k w bytes rest m n e a; other = not-of _ n (act_not k w m rest) a; kept = refl }

ok-of : {A : Type 0} (o : Outcome A) (x : A) → o ≡ Ok x → is_ok o ≡ true
ok-of o x e = ap is_ok e

pub short-marked : (k : ℕ) (w next : World) (bytes rest : List ℕ) (m : Message) → first_message bytes ≡ IsMessage m rest → act k w m rest ≡ Ok next → IsShortOf k w bytes true w
short-marked k w next bytes rest m e a = record { accepted = ok-of _ _ (message-ok k w next bytes rest m e a); cause = inl refl; kept = refl }

pub short-memory : (k : ℕ) (w next after : World) (bytes rest : List ℕ) (m : Message) (marked : Bool) → first_message bytes ≡ IsMessage m rest → act k w m rest ≡ Ok next
    → takes_no_memory k w m ≡ false → after ≡ w → IsShortOf k w bytes marked after
short-memory k w next after bytes rest m marked e a wants kept = record {
  accepted = ok-of _ _ (message-ok k w next bytes rest m e a);
  cause = inr (record {
    at = w;
    rest = bytes;
    m = m;
    behind = rest;
    next = (next, behind k w m rest);
    reaches = refl;
    spells = ap spelled e;
    accepted = message-ok k w next bytes rest m e a;
    wants = wants;
  });
  kept = kept;
}

pub done-by : (k : ℕ) (w next after : World) (bytes rest : List ℕ) (m : Message) (len rows : ℕ) → first_message bytes ≡ IsMessage m rest → act k w m rest ≡ Ok next → after ≡ next
    → rest ≡ drop len bytes → behind k w m rest ≡ drop rows rest → 0 < len → len ≤ length bytes → rows ≤ length rest → IsSome (lookup after.clients k) → IsDone k w bytes false (len + rows) after
done-by k w next after bytes rest m len rows e a same is rows_are some within enough live =
    let left : behind k w m rest ≡ drop (len + rows) bytes = rows_are ∙ ap (drop rows) is ∙ drop-drop rows len bytes in
    record {
      done = message-ok k w next bytes rest m e a ∙ λ i. Ok (sym same i, left i);
      some = omega arith;
      within = (let size = ap length is in let cut = length-drop len bytes in omega (arith, size, cut));
      unmarked = refl;
      live = live;
    }

positive : (m : Message) → 0 < spelled_len m
positive (LowB id screenid refresh chan repl r clipr color) = omega arith
positive (UpN id tied name) = omega arith
positive (LowN id name) = omega arith
positive (LowS writing) = omega arith
positive (LowT top ids) = omega arith
positive (LowX writing bgid bgp) = omega arith
positive _ = omega arith

pub spelled-some : (m : Message) (len : ℕ) → len ≡ spelled_len m → 0 < len
spelled-some m len e = let h = positive m in omega (arith, h, e)

pub not-spare : (b : Bool) → (b ≡ true → ⊥) → b ≡ false
not-spare true h = absurd (h refl)
not-spare false h = refl

-- ---- a message with a list

pub act-listed : (k : ℕ) (w : World) (m : Message) (rest : List ℕ) → has_list m ≡ true → act k w m rest ≡ act k w m []
unfolding act
act-listed k w (UpN id tied name) rest h = refl
act-listed k w (LowN id name) rest h = refl
act-listed k w (LowS writing) rest h = refl
act-listed k w (LowT top ids) rest h = refl
act-listed k w (LowX writing bgid bgp) rest h = refl
act-listed k w _ rest h = absurd cc

pub behind-listed : (k : ℕ) (w : World) (m : Message) (rest : List ℕ) → has_list m ≡ true → behind k w m rest ≡ drop 0 rest
unfolding behind
behind-listed k w (UpN id tied name) rest h = refl
behind-listed k w (LowN id name) rest h = refl
behind-listed k w (LowS writing) rest h = refl
behind-listed k w (LowT top ids) rest h = refl
behind-listed k w (LowX writing bgid bgp) rest h = refl
behind-listed k w _ rest h = absurd cc

-- it takes memory
pub listed-wants : (k : ℕ) (w : World) (m : Message) → has_list m ≡ true → takes_no_memory k w m ≡ false
listed-wants k w (UpN id tied name) h = refl
listed-wants k w (LowN id name) h = refl
listed-wants k w (LowS writing) h = refl
listed-wants k w (LowT top ids) h = refl
listed-wants k w (LowX writing bgid bgp) h = refl
listed-wants k w _ h = absurd cc

pub list-of : (l : Listed) → has_list (listed_message l) ≡ true
list-of (Restack t) = refl
list-of (Name n) = refl
list-of (UseName n) = refl
list-of (Write a) = by a.background
  where
    by : (b : Option Background) → has_list (option_map_or (λ b. LowX (writing_in a) b.id b.p) b (LowS (writing_in a))) ≡ true
    by None = refl
    by (Some b) = refl

pub listed-some : (l : Listed) → 0 < listed_len l
listed-some (Restack t) = omega arith
listed-some (Name n) = omega arith
listed-some (UseName n) = omega arith
listed-some (Write a) = by a.background
  where
    by : (b : Option Background) → 0 < option_map_or (λ _. 59) b 47 + length a.indices.now
    by None = omega arith
    by (Some b) = omega arith

pub ok-is : {A : Type 0} (o : Outcome A) (d : A) → is_ok o ≡ true → o ≡ Ok (result_unwrap_or o d)
ok-is (Ok x) d h = refl
ok-is (Err n) d h = absurd cc

-- ---- the rows of a `y`

first-rows : (k : ℕ) (w : World) (bytes rest : List ℕ) (m : Message) → first_message bytes ≡ IsMessage m rest → rows_first k w bytes ≡ rows_of k w m rest
first-rows k w bytes rest m e = ap (λ (f : First). let l : List ℕ = elim (spelled f) [ Ok m ↦ rows_of k w m.0 m.1 | Err refusal ↦ [] ] in l) e

rows-of : (k : ℕ) (w : World) (m : Message) (rest : List ℕ) (len : ℕ) → behind k w m rest ≡ drop len rest → len ≤ length rest → rows_of k w m rest ≡ rows_by m len
rows-of k w (LowY id r) rest len e within =
    let size = ap length e ∙ length-drop len rest in
    let same : length rest - length (behind k w (LowY id r) rest) ≡ len = omega (arith, size, within) in
    ap (λ n. n ∷ []) same
rows-of k w _ rest len e within = refl

pub rows-first-are : (k : ℕ) (w : World) (bytes rest : List ℕ) (m : Message) (len : ℕ) → first_message bytes ≡ IsMessage m rest → behind k w m rest ≡ drop len rest → len ≤ length rest
    → rows_first k w bytes ≡ rows_by m len
rows-first-are k w bytes rest m len e rows within = first-rows k w bytes rest m e ∙ rows-of k w m rest len rows within

listed-none : (k : ℕ) (w : World) (m : Message) (rest : List ℕ) → has_list m ≡ true → rows_of k w m rest ≡ []
listed-none k w (UpN id tied name) rest h = refl
listed-none k w (LowN id name) rest h = refl
listed-none k w (LowS writing) rest h = refl
listed-none k w (LowT top ids) rest h = refl
listed-none k w (LowX writing bgid bgp) rest h = refl
listed-none k w _ rest h = absurd cc

-- a message with a list has none
pub listed-rows : (k : ℕ) (w : World) (bytes rest : List ℕ) (l : Listed) → first_message bytes ≡ IsMessage (listed_message l) rest → rows_first k w bytes ≡ []
listed-rows k w bytes rest l e = first-rows k w bytes rest (listed_message l) e ∙ listed-none k w (listed_message l) rest (list-of l)

pub same-rows : (k : ℕ) (w : World) (bytes rows : List ℕ) (s : Step) → rows_first k w bytes ≡ [] → HasRows k w bytes s rows rows
same-rows k w bytes rows (Done len) none = sym (append-nil rows) ∙ ap (λ l. rows ++ l) (sym none)
same-rows k w bytes rows _ none = refl

-- what was added goes
pub rows-truncated : (rows added all : List ℕ) (n : ℕ) → all ≡ rows ++ added → n ≡ length rows → take n all ≡ rows
rows-truncated rows added all n e is = rw (e, is, take-append-le (length rows) rows added (omega arith), take_all (length rows) rows (omega arith)) refl

-- ---- the cost

-- the message that stands first costs what it costs
pub first-costs : (k : ℕ) (w : World) (bytes rest : List ℕ) (m : Message) → first_message bytes ≡ IsMessage m rest → first_cost k w bytes ≡ message_cost k w m
first-costs k w bytes rest m e = ap (λ (f : First). of_found (λ m. message_cost k w m.0) (spelled f)) e
