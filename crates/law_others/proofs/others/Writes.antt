-- A whole write of a connection outside a part leaves the part as it is.
use Rattle.std.proofs.Common.{◌≡◌, ◌≤◌, ◌+◌, ℕ, zero, suc, Bool, true, false, List, [], ◌∷◌, length, Option, Some, Ok, Err, refl, ap, subst, ◌∙◌, arith}
use Rattle.std.specs.Prelude.{◌==◌, All, IfOk, if◌then◌else◌}
use Rattle.std.specs.Option.{option_map_or}
use Rattle.std.proofs.lemmas.List.Elements.{All-head, All-tail}
use Rattle.model_text.specs.text.Outcome.{Outcome}
use Rattle.model_draw_parts.specs.dmsg.Message.{Message}
use Rattle.model_draw_parts.specs.dmsg.Reading.{first_message}
use Rattle.model_draw.specs.draw.World.{World}
use Rattle.model_draw.specs.draw.Act.{Written, act, behind, is_marked, no_memory, one_message, spelled, written, written_within}
use Rattle.model_alone.specs.alone.Uses.{looked_at, messages_within, most_looked_at}
use Rattle.law_shown.specs.shown.Showing.{IsOrderly}
use Rattle.law_shown.proofs.shown.Tests.{refuse_ok, same_Ok, then_ok}
use Rattle.law_shown.proofs.shown.Following.{Follows, none}
use Rattle.law_shown.proofs.lasting.Messages.{act_still}
use Rattle.law_likeness.specs.likeness.Likeness.{AreNumbered}
use Rattle.law_others.specs.apart.Apart.{IsApart, IsOutside, LooksBeside, Part, Stays}
use Rattle.law_others.proofs.apart.Devices.{stays_apart, stays_itself, stays_then}
use Rattle.law_others.proofs.others.Messages.{act_stays}

-- one message that was done
record IsDone (k : ℕ) (w : World) (bytes : List ℕ) (next : World × List ℕ) : Type 0 where
  message : Message × List ℕ
  spells : spelled (first_message bytes) ≡ Ok message
  acted : act k w message.0 message.1 ≡ Ok next.0
  rest : behind k w message.0 message.1 ≡ next.1

one_done : (k : ℕ) (w : World) (mark : Option ℕ) (done : ℕ) (bytes : List ℕ) (next : World × List ℕ) → one_message k w mark done bytes ≡ Ok next → IsDone k w bytes next
unfolding one_message
one_done k w mark done bytes next e =
    let spell = then_ok (spelled (first_message bytes)) _ next e in
    let m = spell.0 in
    let acts = then_ok (act k w m.0 m.1) _ next spell.2 in
    let checked = refuse_ok (is_marked mark done) no_memory (λ _. Ok (acts.0, behind k w m.0 m.1)) next acts.2 in
    let is : ◌≡◌ {A = World × List ℕ} (acts.0, behind k w m.0 m.1) next = same_Ok (acts.0, behind k w m.0 m.1) next checked.1 in
    record { message = m; spells = spell.1; acted = acts.1 ∙ ap (λ (x : World × List ℕ). Ok x.0) is; rest = ap (λ (x : World × List ℕ). x.1) is }

-- and it is the first that is looked at
looked_first : (most k : ℕ) (w : World) (bytes : List ℕ) (next : World × List ℕ) (done : IsDone k w bytes next)
    → messages_within (suc most) k w bytes ≡ done.message.0 ∷ messages_within most k next.0 next.1
looked_first most k w bytes next done =
    ap (λ (o : Outcome (Message × List ℕ)).
    let ms : List Message = elim o [ Ok m ↦ m.0 ∷ elim (act k w m.0 m.1) [ Ok after ↦ messages_within most k after (behind k w m.0 m.1) | Err refusal ↦ [] ] | Err refusal ↦ [] ] in ms) done.spells
    ∙ ap (λ (o : Outcome World). let ms : List Message = done.message.0 ∷ elim o [ Ok after ↦ messages_within most k after (behind k w done.message.0 done.message.1) | Err refusal ↦ [] ] in ms) done.acted
    ∙ ap (λ (rest : List ℕ). done.message.0 ∷ messages_within most k next.0 rest) done.rest

-- messages are counted
within_done : (steps k : ℕ) (w : World) (mark : Option ℕ) (done : ℕ) (bytes : List ℕ) → done ≤ (written_within steps k w mark done bytes).done
within_done zero k w mark done bytes = omega arith
within_done (suc steps) k w mark done [] = omega arith
within_done (suc steps) k w mark done (byte ∷ bytes) = by (within_done steps k) (one_message k w mark done (byte ∷ bytes))
  where
    by : ((v : World) (mark : Option ℕ) (done : ℕ) (bytes : List ℕ) → done ≤ (written_within steps k v mark done bytes).done) → (o : Outcome (World × List ℕ))
        → (let after : Written = elim o [ Ok next ↦ written_within steps k next.0 mark (done + 1) next.1 | Err refusal ↦ record { world = w; done = done; refusal = Some refusal } ] in done ≤ after.done)
    by more (Ok next) = let rest = more next.0 mark (done + 1) next.1 in omega (arith, rest)
    by more (Err refusal) = omega arith

module _ (part : Part) (k : ℕ) (outside : IsOutside part k) where
  -- what is known of a device before a message
  record Ready (w : World) : Type 0 where
    apart : IsApart part w
    numbers : AreNumbered w.book
    orderly : IsOrderly w

  -- one message leaves that so
  act_ready : (w next : World) (m : Message) (rest : List ℕ) → Ready w → LooksBeside part m → act k w m rest ≡ Ok next → Stays part w next × Ready next
  act_ready w next m rest ready looks e =
      let stays = subst (λ (o : Outcome World). IfOk o (Stays part w)) e (act_stays part k outside w ready.apart ready.numbers ready.orderly m rest looks) in
      let follows = subst (λ (o : Outcome World). IfOk o (Follows none none w)) e (act_still k w m rest outside.counted ready.orderly) in
      (stays, record { apart = stays_apart part w next ready.apart stays; numbers = stays.numbers ready.numbers; orderly = follows.orderly })

  within_stays : (steps : ℕ) (w : World) (mark : Option ℕ) (done : ℕ) (bytes : List ℕ) (most : ℕ) → Ready w → (written_within steps k w mark done bytes).done ≤ done + most
      → All (LooksBeside part) (messages_within most k w bytes) → Stays part w (written_within steps k w mark done bytes).world
  within_stays zero w mark done bytes most ready within looks = stays_itself part w
  within_stays (suc steps) w mark done [] most ready within looks = stays_itself part w
  within_stays (suc steps) w mark done (byte ∷ bytes) most ready within looks = by (within_stays steps) (one_message k w mark done (byte ∷ bytes)) refl most within looks
    where
      by : ((v : World) (mark : Option ℕ) (done : ℕ) (bytes : List ℕ) (most : ℕ) → Ready v → (written_within steps k v mark done bytes).done ≤ done + most
          → All (LooksBeside part) (messages_within most k v bytes) → Stays part v (written_within steps k v mark done bytes).world)
          → (o : Outcome (World × List ℕ)) → one_message k w mark done (byte ∷ bytes) ≡ o → (most : ℕ)
          → (let after : Written = elim o [ Ok next ↦ written_within steps k next.0 mark (done + 1) next.1 | Err refusal ↦ record { world = w; done = done; refusal = Some refusal } ] in after.done ≤ done + most)
          → All (LooksBeside part) (messages_within most k w (byte ∷ bytes))
          → (let after : Written = elim o [ Ok next ↦ written_within steps k next.0 mark (done + 1) next.1 | Err refusal ↦ record { world = w; done = done; refusal = Some refusal } ] in Stays part w after.world)
      by more (Err refusal) e most within looks = stays_itself part w
      by more (Ok next) e zero within looks = absurd (let least = within_done steps k next.0 mark (done + 1) next.1 in omega (arith, least, within))
      by more (Ok next) e (suc most) within looks =
          let one = one_done k w mark done (byte ∷ bytes) next e in
          let all = subst (λ (ms : List Message). All (LooksBeside part) ms) (looked_first most k w (byte ∷ bytes) next one) looks in
          let first = act_ready w next.0 one.message.0 one.message.1 ready (All-head (LooksBeside part) one.message.0 (messages_within most k next.0 next.1) all) one.acted in
          stays_then part w next.0 _ first.0
          (more next.0 mark (done + 1) next.1 most first.1 (omega (arith, within)) (All-tail (LooksBeside part) one.message.0 (messages_within most k next.0 next.1) all))

  -- a write, none of whose messages that are looked at looks up a name of the part
  pub written_stays : (w : World) (bytes : List ℕ) (mark : Option ℕ) → IsApart part w → AreNumbered w.book → IsOrderly w → All (LooksBeside part) (looked_at k w bytes mark)
      → Stays part w (written k w bytes mark).world
  unfolding written looked_at
  written_stays w bytes mark apart numbers orderly looks =
      within_stays (length bytes) w mark 0 bytes (most_looked_at (written_within (length bytes) k w mark 0 bytes)) (record { apart = apart; numbers = numbers; orderly = orderly })
      (enough (written_within (length bytes) k w mark 0 bytes)) looks
    where
      enough : (after : Written) → after.done ≤ 0 + most_looked_at after
      enough after = by (option_map_or (λ n. n == no_memory) after.refusal false)
        where
          by : (b : Bool) → (let n : ℕ = if b then after.done else after.done + 1 in after.done ≤ 0 + n)
          by true = omega arith
          by false = omega arith
