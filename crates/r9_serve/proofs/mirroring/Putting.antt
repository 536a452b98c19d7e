-- Frames that are put one after the other.
use Rattle.std.proofs.Common.{◌≡◌, ◌∙◌, ℕ, ◌+◌, ◌<◌, ◌^◌, Bool, true, false, not, ◌&&◌, eqb, List, [], ◌∷◌, ◌++◌, length, Option, Some, None, Ok, ◌⊎◌, inl, inr, refl, ap, sym, subst, arith, append_assoc}
use Rattle.std.proofs.lemmas.Bool.{and_from, eq-eqb, false≢true, not_from_true}
use Rattle.std.proofs.lemmas.List.{append-nil, length-append}
use Rattle.r9_event.specs.declared.event.event.Event.{Event}
use Rattle.r9_event.specs.declared.event.event.Opening.{Opening}
use Rattle.r9_outside.specs.outside.Sink.{Appends, AppendsPart}
use Rattle.r9_serve.proofs.replay.Lines.{appends_then, part_so_far, second_part}
use Rattle.r9_serve.specs.replay.Replayed.{MayRun}
use Rattle.r9_serve.proofs.replay.Replaying.{first_next, first_whole}
use Rattle.model_history.specs.event.Legal.{AllowedFrom, IsLegal, Roll, no_sessions, roll_of}
use Rattle.model_history.proofs.event.Rolls.{AllowedFrom-push, roll_from-push}
use Rattle.model_draw.specs.draw.Orders.{is_side}
use Rattle.law_devices.specs.sides.Display.{HasDisplay, HasPaid}
use Rattle.model_client.specs.mirror.Picture.{Picture}
use Rattle.model_client.specs.mirror.Frames.{viewed, viewer}
use Rattle.model_mirror.specs.Frame.{IsEntry, IsFrame}
use Rattle.model_mirror.specs.Mirror.{AreFramesOf, Shows, begins, goes_on, is_resized}
use Rattle.model_mirror.specs.Pictures.{IsLawful, IsSameWhereUnsent}
use Rattle.model_mirror.specs.Shown.{mirrored}
use Rattle.model_world.specs.Links.{IsNext, begun_after}
use Rattle.model_world.specs.Replay.{replay, step}
use Rattle.model_world.specs.World.{World, opened}
use Rattle.model_world.proofs.Histories.{world_from-push}
use Rattle.model_world.proofs.Steps.{begun_rolled}
use Rattle.r9_hall.specs.hall.StateView.{IsWhole}
use Rattle.r9_hall.specs.hall.WorldView.{IsFirst, IsStepped, WorldValue, display_in, world_in}
use Rattle.r9_serve.specs.mirroring.Laws.{AreLaws}
use Rattle.r9_serve.specs.mirroring.Mirrored.{HasPutFront}
use Rattle.r9_serve.specs.mirroring.View.{HasPut, HasPutPart, IsPaid, IsSent, IsUnmarked}
use Rattle.r9_serve.proofs.mirroring.Entries.{all_sent}
use Rattle.r9_serve.proofs.mirroring.Pictures.{lawful}

-- The frames of the first events were put, and the events that are left may follow in this world.
pub record IsMirroring (opening : Opening) (all : List Event) (before : Option (List ℕ)) (w : WorldValue) (left : List Event) (number : ℕ) (after : Option (List ℕ)) : Type 0 where
  pub events : List Event
  pub frames : List ℕ
  pub are : AreFramesOf opening events frames
  pub shows : Shows opening events frames
  pub whole : events ++ left ≡ all
  pub legal : IsLegal events
  pub allowed : AllowedFrom (roll_of events) left
  pub begun : w.begun ≡ (roll_of events).begun
  pub going : w.broken ≡ false
  pub world : world_in w ≡ replay opening events
  pub counted : number ≡ length events
  pub appended : Appends before frames after
  pub unmarked : IsUnmarked (display_in w)

pub put_text : (IsSo : List ℕ → Type 0) (before after : Option (List ℕ)) (text shown : List ℕ) → IsSo text → shown ≡ text → Appends before shown after → HasPut IsSo before after
put_text IsSo before after text shown so is appended = record { text = text; is_so = so; appended = subst (λ (t : List ℕ). Appends before t after) is appended }

pub put_part : (IsSo : List ℕ → Type 0) (before after : Option (List ℕ)) (text shown : List ℕ) → IsSo text → shown ≡ text → AppendsPart before shown after → HasPutPart IsSo before after
put_part IsSo before after text shown so is part = record { text = text; is_so = so; appended = subst (λ (t : List ℕ). AppendsPart before t after) is part }

no_frames : (chan : ℕ) → viewer chan [] ≡ Ok None
unfolding viewed
no_frames chan = refl

pushed : (events left rest all : List Event) (event : Event) → left ≡ event ∷ rest → events ++ left ≡ all → (events ++ event ∷ []) ++ rest ≡ all
pushed events left rest all event here whole = append_assoc events (event ∷ []) rest ∙ ap (λ (es : List Event). events ++ es) (sym here) ∙ whole

all_of : (text : List ℕ) → text ++ [] ≡ text
all_of text = append-nil text

-- the frames so far were put, and no more
pub so_far_front : (opening : Opening) (all : List Event) (before : Option (List ℕ)) (w : WorldValue) (left : List Event) (number : ℕ) (after last : Option (List ℕ)) → IsMirroring opening all before w left number after → last ≡ after → HasPutFront opening all before last
so_far_front opening all before w left number after last is same = record {
  events = is.events;
  later = left;
  frames = is.frames;
  whole = is.whole;
  are = is.are;
  appended = subst (λ (o : Option (List ℕ)). AppendsPart before is.frames o) (sym same) (part_so_far before is.frames after [] is.frames is.appended (all_of is.frames));
}

-- ---- an entry of a history

same_sizes : (a b c d : ℕ) → b ≡ a → d ≡ c → not (eqb a b && eqb c d) ≡ false
same_sizes a b c d across down = not_from_true (eqb a b && eqb c d) (and_from _ _ (eq-eqb a b (sym across)) (eq-eqb c d (sym down)))

paid_then : (w v : World) (cost : ℕ) → HasPaid w.desktop.device v.desktop.device cost → IsPaid (mirrored w) (mirrored v) cost
paid_then w v cost (inl same) =
    let fixed = same_sizes (mirrored w).width (mirrored v).width (mirrored w).height (mirrored v).height (ap (λ (s : ℕ × ℕ). s.0) same) (ap (λ (s : ℕ × ℕ). s.1) same) in
    λ resized. absurd (false≢true (sym fixed ∙ resized))
paid_then w v cost (inr paid) = λ resized. paid

module _ (opening : Opening) (wide : is_side opening.width ≡ true) (high : is_side opening.height ≡ true) (laws : AreLaws) where
  lawful_then : (events : List Event) → IsLegal events → IsLawful (mirrored (replay opening events))
  lawful_then events legal = lawful opening.chan (replay opening events) (laws.display opening events wide high legal)

  pub first_display : (w : WorldValue) → IsFirst opening w → HasDisplay opening.chan (world_in w).desktop.device
  first_display w first = subst (λ (v : World). HasDisplay opening.chan v.desktop.device) (sym first.world) (laws.display opening [] wide high tt)

  shows_next : (number : ℕ) (before after : Picture) (b : Bool) (sent : (column row : ℕ) → Bool) (frames entry : List ℕ) → b ≡ is_resized before after → IsLawful after → 0 < number → number < 10 ^ 18
      → (is_resized before after ≡ true → sent ≡ (λ column row. true)) → (is_resized before after ≡ false → IsSameWhereUnsent sent before after)
      → viewer opening.chan frames ≡ Ok (Some before) → IsEntry opening.chan number b after sent entry → viewer opening.chan (frames ++ entry) ≡ Ok (Some after)
  shows_next number before after true sent frames entry is ok some few all same shows sends =
      laws.sized opening.chan number (Some before) after frames entry ok few shows
      (all_sent opening.chan number true after entry ok (subst (λ (s : (column row : ℕ) → Bool). IsEntry opening.chan number true after s entry) (all (sym is)) sends))
  shows_next number before after false sent frames entry is ok some few all same shows sends =
      laws.changed opening.chan number before after sent frames entry ok (same (sym is)) some few shows sends

  -- what an entry is in a history
  abbrev IsSentIn : (events : List Event) (event : Event) (entry : List ℕ) → Type 0
  IsSentIn events event entry =
      IsSent opening.chan (length events + 1) ((step (replay opening events) event).cost + 8) (mirrored (replay opening events)) (mirrored (replay opening (events ++ event ∷ []))) entry

  entry_shows : (events : List Event) (event : Event) (frames entry : List ℕ) → IsLegal (events ++ event ∷ []) → length events < 2 ^ 40 → Shows opening events frames → IsSentIn events event entry → Shows opening (events ++ event ∷ []) (frames ++ entry)
  entry_shows events event frames entry legal few shows is =
      shows_next (length events + 1) (mirrored (replay opening events)) (mirrored (replay opening (events ++ event ∷ []))) (is_resized (mirrored (replay opening events)) (mirrored (replay opening (events ++ event ∷ []))))
      is.sent frames entry refl (lawful_then (events ++ event ∷ []) legal) (omega arith) (omega (arith, few)) is.all is.same shows is.entry

  first_frames : (frame : List ℕ) → IsFrame opening.chan 0 true (mirrored (replay opening [])) (λ column row. true) frame → Shows opening [] frame
  first_frames frame is = laws.sized opening.chan 0 None (mirrored (replay opening [])) [] frame (lawful_then [] tt) (omega arith) (no_frames opening.chan) is

  -- ---- frame 0

  framed : (w : WorldValue) (frame : List ℕ) → IsFirst opening w → IsFrame opening.chan 0 true (mirrored (world_in w)) (λ column row. true) frame → IsFrame opening.chan 0 true (mirrored (replay opening [])) (λ column row. true) frame
  framed w frame first is = subst (λ (v : World). IsFrame opening.chan 0 true (mirrored v) (λ column row. true) frame) first.world is

  pub begins_mirroring : (all : List Event) (before : Option (List ℕ)) (w next : WorldValue) (after : Option (List ℕ)) → IsLegal all → IsFirst opening w → world_in next ≡ world_in w → next.begun ≡ w.begun → next.broken ≡ w.broken
      → IsUnmarked (display_in next) → HasPut (IsFrame opening.chan 0 true (mirrored (world_in w)) (λ column row. true)) before after → IsMirroring opening all before next all 0 after
  begins_mirroring all before w next after legal first same begun broken unmarked put =
      let frame = framed w put.text first put.is_so in
      let shows = first_frames put.text frame in
      record {
        events = [];
        frames = put.text;
        are = begins put.text frame shows;
        shows = shows;
        whole = refl;
        legal = tt;
        allowed = legal;
        begun = begun ∙ first.begun;
        going = broken ∙ first.going;
        world = same ∙ first.world;
        counted = refl;
        appended = put.appended;
        unmarked = unmarked;
      }

  pub first_front : (all : List Event) (before : Option (List ℕ)) (w : WorldValue) (after : Option (List ℕ)) → IsFirst opening w → HasPutPart (IsFrame opening.chan 0 true (mirrored (world_in w)) (λ column row. true)) before after → HasPutFront opening all before after
  first_front all before w after first put =
      let frame = framed w put.text first put.is_so in
      record { events = []; later = all; frames = put.text; whole = refl; are = begins put.text frame (first_frames put.text frame); appended = put.appended }

  pub first_part : (all : List Event) (before : Option (List ℕ)) (w : WorldValue) (after : Option (List ℕ)) → IsFirst opening w → (after ≡ before) ⊎ HasPutPart (IsFrame opening.chan 0 true (mirrored (world_in w)) (λ column row. true)) before after
      → (after ≡ before) ⊎ HasPutFront opening all before after
  first_part all before w after first (inl same) = inl same
  first_part all before w after first (inr put) = inr (first_front all before w after first put)

  -- ---- an entry more

  module _ (all : List Event) (before : Option (List ℕ)) (few : length all < 2 ^ 40) (w : WorldValue) (left : List Event) (number : ℕ) (after : Option (List ℕ)) (is : IsMirroring opening all before w left number after) (event : Event) (rest : List Event) (here : left ≡ event ∷ rest) where
    may : MayRun w left
    may = record { roll = roll_of is.events; legal = is.allowed; begun = is.begun; going = is.going }

    pub event_whole : IsWhole event
    event_whole = first_whole w left rest event here may

    pub event_next : IsNext w.begun event
    event_next = first_next w left rest event here may

    legal_here : AllowedFrom (roll_of is.events) (event ∷ rest)
    legal_here = subst (λ (es : List Event). AllowedFrom (roll_of is.events) es) here is.allowed

    legal_next : IsLegal (is.events ++ event ∷ [])
    legal_next = AllowedFrom-push no_sessions is.events event is.legal legal_here.0

    count_below : length is.events < 2 ^ 40
    count_below = omega (arith, few, ap length (pushed is.events left rest all event here is.whole), length-append (is.events ++ event ∷ []) rest, length-append is.events (event ∷ []))

    pub number_below : number < 2 ^ 40
    number_below = subst (λ (n : ℕ). n < 2 ^ 40) (sym is.counted) count_below

    pub display_before : HasDisplay opening.chan (world_in w).desktop.device
    display_before = subst (λ (v : World). HasDisplay opening.chan v.desktop.device) (sym is.world) (laws.display opening is.events wide high is.legal)

    replayed : replay opening (is.events ++ event ∷ []) ≡ (step (world_in w) event).world
    replayed = world_from-push (opened opening) is.events event ∙ ap (λ (v : World). (step v event).world) (sym is.world)

    pub display_after : HasDisplay opening.chan (step (world_in w) event).world.desktop.device
    display_after = subst (λ (v : World). HasDisplay opening.chan v.desktop.device) replayed (laws.display opening (is.events ++ event ∷ []) wide high legal_next)

    pub paid : IsPaid (mirrored (world_in w)) (mirrored (step (world_in w) event).world) (step (world_in w) event).cost
    paid = subst (λ (v : World). IsPaid (mirrored v) (mirrored (step v event).world) (step v event).cost) (sym is.world) (paid_then (replay opening is.events) (step (replay opening is.events) event).world _ (laws.paid opening is.events event is.legal))

    sent_in : (n : ℕ) (entry : List ℕ) → n ≡ number + 1 → IsSent opening.chan n ((step (world_in w) event).cost + 8) (mirrored (world_in w)) (mirrored (step (world_in w) event).world) entry → IsSentIn is.events event entry
    sent_in n entry next sends =
        let in_history : IsSent opening.chan n ((step (replay opening is.events) event).cost + 8) (mirrored (replay opening is.events)) (mirrored (step (replay opening is.events) event).world) entry =
        subst (λ (v : World). IsSent opening.chan n ((step v event).cost + 8) (mirrored v) (mirrored (step v event).world) entry) is.world sends in
        let numbered = subst (λ (m : ℕ). IsSent opening.chan m ((step (replay opening is.events) event).cost + 8) (mirrored (replay opening is.events)) (mirrored (step (replay opening is.events) event).world) entry)
        (next ∙ ap (λ (m : ℕ). m + 1) is.counted) in_history in
        subst (λ (v : World). IsSent opening.chan (length is.events + 1) ((step (replay opening is.events) event).cost + 8) (mirrored (replay opening is.events)) (mirrored v) entry)
        (sym (world_from-push (opened opening) is.events event)) numbered

    frames_grow : (entry : List ℕ) → IsSentIn is.events event entry → AreFramesOf opening (is.events ++ event ∷ []) (is.frames ++ entry) × Shows opening (is.events ++ event ∷ []) (is.frames ++ entry)
    frames_grow entry sends =
        let shows = entry_shows is.events event is.frames entry legal_next count_below is.shows sends in
        (goes_on is.events event is.frames entry sends.sent is.are sends.entry sends.few shows, shows)

    pub goes_on_mirroring : (n : ℕ) (next : WorldValue) (last : Option (List ℕ)) → n ≡ number + 1 → IsStepped w event next → IsUnmarked (display_in next)
        → HasPut (IsSent opening.chan n ((step (world_in w) event).cost + 8) (mirrored (world_in w)) (mirrored (step (world_in w) event).world)) after last → IsMirroring opening all before next rest n last
    goes_on_mirroring n next last is_next stepped unmarked put =
        let more = frames_grow put.text (sent_in n put.text is_next put.is_so) in
        let rolled = roll_from-push no_sessions is.events event in
        record {
          events = is.events ++ event ∷ [];
          frames = is.frames ++ put.text;
          are = more.0;
          shows = more.1;
          whole = pushed is.events left rest all event here is.whole;
          legal = legal_next;
          allowed = subst (λ (roll : Roll). AllowedFrom roll rest) (sym rolled) legal_here.1;
          begun = stepped.begun ∙ ap (λ (begun : ℕ). begun_after begun event) is.begun ∙ sym (begun_rolled (roll_of is.events) event) ∙ sym (ap (λ (roll : Roll). roll.begun) rolled);
          going = stepped.going;
          world = stepped.world ∙ sym replayed;
          counted = is_next ∙ omega (arith, is.counted, length-append is.events (event ∷ []));
          appended = appends_then before is.frames after put.text last is.appended put.appended;
          unmarked = unmarked;
        }

    -- a front of the entry was put
    pub entry_front : (n : ℕ) (last : Option (List ℕ)) → n ≡ number + 1
        → HasPutPart (IsSent opening.chan n ((step (world_in w) event).cost + 8) (mirrored (world_in w)) (mirrored (step (world_in w) event).world)) after last → HasPutFront opening all before last
    entry_front n last is_next put =
        let more = frames_grow put.text (sent_in n put.text is_next put.is_so) in
        record {
          events = is.events ++ event ∷ [];
          later = rest;
          frames = is.frames ++ put.text;
          whole = pushed is.events left rest all event here is.whole;
          are = more.0;
          appended = second_part before is.frames put.text after last is.appended put.appended;
        }

    pub entry_part : (n : ℕ) (last : Option (List ℕ)) → n ≡ number + 1
        → (last ≡ after) ⊎ HasPutPart (IsSent opening.chan n ((step (world_in w) event).cost + 8) (mirrored (world_in w)) (mirrored (step (world_in w) event).world)) after last → HasPutFront opening all before last
    entry_part n last is_next (inl same) = so_far_front opening all before w left number after last is same
    entry_part n last is_next (inr put) = entry_front n last is_next put

-- all frames were put
pub all_frames : (opening : Opening) (all : List Event) (before : Option (List ℕ)) (w : WorldValue) (left : List Event) (number : ℕ) (after last : Option (List ℕ)) → IsMirroring opening all before w left number after → left ≡ [] → last ≡ after
    → (frames : List ℕ) × AreFramesOf opening all frames × Appends before frames last
all_frames opening all before w left number after last is none same = (
  is.frames,
  subst (λ (es : List Event). AreFramesOf opening es is.frames) (sym (append-nil is.events) ∙ ap (λ (es : List Event). is.events ++ es) (sym none) ∙ is.whole) is.are,
  same ∙ is.appended,
)
