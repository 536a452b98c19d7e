-- What a text that was read tells of the input.
use Rattle.std.proofs.Common.{◌≡◌, inl, inr, ℕ, Bool, List, length, Option, Some, None, sym, ap, subst, ◌∙◌, arith}
use Rattle.std.proofs.lemmas.List.{length-take}
use Rattle.r9_event.specs.declared.event.event.Event.{Event}
use Rattle.r9_event.specs.declared.event.event.Opening.{Opening}
use Rattle.r9_event.specs.declared.event.event.Reply.{Reply}
use Rattle.model_world.specs.Replay.{replies}
use Rattle.model_world.specs.World.{World}
use Rattle.model_history.specs.records.Record.{text_limit, IsRecord, IsBadAt, IsLate}
use Rattle.r9_outside.specs.input.Taken.{HasRead}
use Rattle.r9_outside.proofs.input.Taking.{whole_text}
use Rattle.r9_serve.specs.replay.Replays.{HadRecord, AreReplyLines, WasBadAt, WasLate}
use Rattle.r9_serve.specs.replay.Replayed.{output, AreRepliesTo}

bad_whole : (left : Option (List ℕ)) (text : List ℕ) (after : Option (List ℕ)) (place : ℕ) → HasRead text_limit left text after → IsBadAt text place → WasBadAt left place
bad_whole None text after place read bad = tt
bad_whole (Some all) text after place read (inl bad) =
    inl (omega (arith, bad.0, ap length read.0, length-take text_limit all), bad.1)
bad_whole (Some all) text after place read (inr bad) =
    subst (λ (t : List ℕ). IsBadAt t place) (sym (whole_text text_limit (Some all) text after read bad.0)) (inr bad)

pub was_bad : (left : Option (List ℕ)) (text shown : List ℕ) (after : Option (List ℕ)) (found place : ℕ) → HasRead text_limit left text after → shown ≡ text → IsBadAt shown found → found ≡ place → WasBadAt left place
was_bad left text shown after found place read is bad at =
    subst (λ (p : ℕ). WasBadAt left p) at (bad_whole left text after found read (subst (λ (t : List ℕ). IsBadAt t found) is bad))

late_whole : (left : Option (List ℕ)) (text : List ℕ) (after : Option (List ℕ)) (n : ℕ) → HasRead text_limit left text after → IsLate text n → WasLate left n
late_whole None text after n read late = tt
late_whole (Some all) text after n read late =
    subst (λ (t : List ℕ). IsLate t n) (sym (whole_text text_limit (Some all) text after read late.short)) late

pub was_late : (left : Option (List ℕ)) (text shown : List ℕ) (after : Option (List ℕ)) (found n : ℕ) → HasRead text_limit left text after → shown ≡ text → IsLate shown found → found ≡ n → WasLate left n
was_late left text shown after found n read is late at =
    subst (λ (m : ℕ). WasLate left m) at (late_whole left text after found read (subst (λ (t : List ℕ). IsLate t found) is late))

pub had_record : (left : Option (List ℕ)) (text shown : List ℕ) (after : Option (List ℕ)) (events : List Event) → HasRead text_limit left text after → shown ≡ text → IsRecord shown events
    → ((others : List Event) → IsRecord shown others → events ≡ others) → HadRecord left events
had_record left text shown after events read is is_record one =
    let read_shown = subst (λ (t : List ℕ). HasRead text_limit left t after) (sym is) read in
    record { text = shown; told = whole_text text_limit left shown after read_shown is_record.short; is_record = is_record; one = one }

-- what is put out, of what the history leads to
pub are_reply_lines : (opening : Opening) (left : Option (List ℕ)) (text shown : List ℕ) (after : Option (List ℕ)) (given : List Reply) (world : World) → HasRead text_limit left text after → shown ≡ text
    → AreRepliesTo opening shown given world → (screen : Bool) → AreReplyLines opening screen left (output screen given world)
are_reply_lines opening left text shown after given world read is made = λ screen. record {
  events = made.events;
  had = had_record left text shown after made.events read is made.is_record made.one;
  are_lines = ap (λ (all : List Reply). output screen all world) made.are_replies ∙ ap (λ (w : World). output screen (replies opening made.events) w) made.led;
}
