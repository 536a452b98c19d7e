-- Reads that wait in a world of its own are answered one at a time.
use Rattle.std.proofs.Common.{◌≡◌, ◌+◌, ℕ, zero, suc, List, [], ◌∷◌, ◌++◌, length, Option, Some, None, Ok, Err, refl, sym, ap, subst, ◌∙◌, arith, length-append, append_assoc}
use Rattle.std.specs.Option.{option_map_or}
use Rattle.std.proofs.lemmas.List.{append-nil}
use Rattle.model_text.specs.text.Outcome.{Outcome}
use Rattle.model_files.specs.wire.Spelling.{spelling_of_r}
use Rattle.model_world.specs.Session.{Session, Wait}
use Rattle.model_world.specs.Outside.{Outside}
use Rattle.model_world.specs.Fids.{Left}
use Rattle.model_world.specs.Reading.{Given}
use Rattle.model_world.specs.Waiting.{answered_or, first_of, wait_answer}
use Rattle.r9_isol.specs.lone.Settling.{IsLate, left_in, next_of}
use Rattle.model_alone.specs.alone.Lone.{LoneDesktop, LoneWorld, all_settled, and_replies, left_by, lone_desktop, replied, settled_alone}

-- ---- each answer takes one read out of those that wait

abbrev LeavesOneLess : {S : Type 0} → ℕ → Option (Left S) → Type 0
LeavesOneLess n (Some after) = length after.session.waiting + 1 ≡ n
LeavesOneLess n None = Unit {0}

late_less : {S : Type 0} (session : Session) (rest : S) (tag : ℕ) (wait : Wait) (n : ℕ) (o : Option (Outcome (Given S))) (later : Option (Left S)) → length session.waiting + 1 ≡ n → LeavesOneLess n later
    → LeavesOneLess n (answered_or session rest tag wait o later)
late_less session rest tag wait n None later here less = less
late_less session rest tag wait n (Some (Err k)) later here less = here
late_less session rest tag wait n (Some (Ok got)) later here less = here

first_less : {S : Type 0} (outside : Outside S) (session : Session) (rest : S) (before after : List (ℕ × Wait)) (n : ℕ) → length before + length after ≡ n → LeavesOneLess n (first_of outside session rest before after)
unfolding first_of
first_less outside session rest before [] n whole = tt
first_less outside session rest before ((tag, wait) ∷ after) n whole =
    late_less (record session { waiting = before ++ after }) rest tag wait n (wait_answer outside session rest wait) (first_of outside session rest (before ++ (tag, wait) ∷ []) after)
    (omega (arith, whole, length-append before after))
    (first_less outside session rest (before ++ (tag, wait) ∷ []) after n (omega (arith, whole, length-append before ((tag, wait) ∷ []))))

left_less : (world : LoneWorld) (after : Left LoneDesktop) → next_of world ≡ Some after → length after.session.waiting + 1 ≡ length world.session.waiting
left_less world after is =
    let P : Option (Left LoneDesktop) → Type 0 = λ o. LeavesOneLess (length world.session.waiting) o in
    subst P is (first_less lone_desktop world.session world.desktop [] world.session.waiting (length world.session.waiting) (omega arith))

-- ---- settling, one answer at a time

abbrev settled_by : (most : ℕ) → LoneWorld → Option (Left LoneDesktop) → LoneWorld × List (List ℕ)
settled_by most world o = option_map_or (λ after. and_replies (replied after.reply) (settled_alone most (left_by after))) o (world, [])

settled_none : (world : LoneWorld) → next_of world ≡ None → all_settled world ≡ (world, [])
unfolding settled_alone
settled_none world none = by (length world.session.waiting)
  where
    by : (most : ℕ) → settled_alone most world ≡ (world, [])
    by zero = refl
    by (suc most) = ap (settled_by most world) none

settled_next : (world : LoneWorld) (after : Left LoneDesktop) → next_of world ≡ Some after → all_settled world ≡ and_replies (replied after.reply) (all_settled (left_by after))
unfolding settled_alone
settled_next world after is = by (length world.session.waiting) (omega (arith, left_less world after is))
  where
    by : (most : ℕ) → most ≡ suc (length after.session.waiting) → settled_alone most world ≡ and_replies (replied after.reply) (all_settled (left_by after))
    by zero more = absurd (omega (arith, more))
    by (suc most) more =
        let same : most ≡ length after.session.waiting = omega (arith, more) in
        ap (settled_by most world) is ∙ ap (λ (n : ℕ). and_replies (replied after.reply) (settled_alone n (left_by after))) same

-- ---- a turn of the loop

-- what is still to be answered of this world, behind these replies, makes what all makes of the first, behind the first replies
pub record GoesOn (first : LoneWorld) (before : List (List ℕ)) (world : LoneWorld) (replies : List (List ℕ)) : Type 0 where
  pub world_is : (all_settled world).0 ≡ (all_settled first).0
  pub replies_are : replies ++ (all_settled world).1 ≡ before ++ (all_settled first).1

pub goes_on : (first world next : LoneWorld) (before replies more : List (List ℕ)) (given : Option (List ℕ)) (bytes : List ℕ) → GoesOn first before world replies → IsLate world given next → given ≡ Some bytes → more ≡ replies ++ bytes ∷ []
    → GoesOn first before next more
goes_on first world next before replies more given bytes on late is pushed = by (subst (λ (o : Option (List ℕ)). IsLate world o next) is late)
  where
    by : IsLate world (Some bytes) next → GoesOn first before next more
    by (reply, at, spelled) =
        let step = settled_next world (left_in next reply) at in
        record {
          world_is = sym (ap (λ (r : LoneWorld × List (List ℕ)). r.0) step) ∙ on.world_is;
          replies_are =
              ap (λ (l : List (List ℕ)). l ++ (all_settled next).1) (pushed ∙ ap (λ (b : List ℕ). replies ++ b ∷ []) spelled)
              ∙ append_assoc replies (spelling_of_r reply ∷ []) (all_settled next).1
              ∙ ap (λ (r : LoneWorld × List (List ℕ)). replies ++ r.1) (sym step)
              ∙ on.replies_are;
        }

pub one_less : (world next : LoneWorld) (given : Option (List ℕ)) (bytes : List ℕ) → IsLate world given next → given ≡ Some bytes → length next.session.waiting + 1 ≡ length world.session.waiting
one_less world next given bytes late is = let some = subst (λ (o : Option (List ℕ)). IsLate world o next) is late in left_less world (left_in next some.0) some.1

-- nothing is answered any more
pub ends : (first world after : LoneWorld) (before replies : List (List ℕ)) (given : Option (List ℕ)) → GoesOn first before world replies → IsLate world given after → given ≡ None
    → (after ≡ (all_settled first).0) × (replies ≡ before ++ (all_settled first).1) × (after ≡ world)
ends first world after before replies given on late is =
    let none = subst (λ (o : Option (List ℕ)). IsLate world o after) is late in
    let step = settled_none world none.0 in (
      none.1 ∙ sym (ap (λ (r : LoneWorld × List (List ℕ)). r.0) step) ∙ on.world_is,
      sym (append-nil replies) ∙ ap (λ (r : LoneWorld × List (List ℕ)). replies ++ r.1) (sym step) ∙ on.replies_are,
      none.1,
    )
