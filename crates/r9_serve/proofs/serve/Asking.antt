-- Words ask for one command.
use Rattle.std.proofs.Common.{◌≡◌, ◌∙◌, ◌⊎◌, inl, inr, ℕ, sym, ap, List, ◌∷◌, Option, Bool, Bor, String, Global, arith}
use Rattle.r9_event.specs.declared.event.event.Opening.{Opening}
use Rattle.r9_opts.specs.declared.job.Job.{Job}
use Rattle.r9_opts.specs.declared.job.Job.TheVariants.{Replay, Mirror, Serve, Alone, Text, Desk, Gen}
use Rattle.r9_opts.specs.Asked.{AskFor, texts_of}
use Rattle.r9_serve.specs.serve.Run.{Ask, AskForAlone, AskForDesk, AskForRecord, AskForReplay, AskForText, AskToRead, AskToServe, WasAskedNotAlone, WasBadEvents, WasBadInput, WasRefused}

-- the letter with which words begin, and that of the command that does a job
abbrev first_letter : List (List ℕ) → ℕ
first_letter ((letter ∷ letters) ∷ words) = letter
first_letter words = 0

abbrev letter_of : Job → ℕ
letter_of (Replay opening screen) = 114
letter_of (Mirror opening) = 109
letter_of (Serve opening listen workers conns) = 115
letter_of (Alone opening session) = 97
letter_of (Text columns rows) = 116
letter_of Desk = 100
letter_of (Gen number) = 103

asked_letter : (words : List (List ℕ)) (job : Job) → AskFor words job → first_letter words ≡ letter_of job
asked_letter words (Replay opening screen) asked = ap first_letter asked.begins
asked_letter words (Mirror opening) asked = ap first_letter asked.begins
asked_letter words (Serve opening listen workers conns) asked = ap first_letter asked.begins
asked_letter words (Alone opening session) asked = ap first_letter asked.begins
asked_letter words (Text columns rows) asked = ap first_letter asked.begins
asked_letter words Desk asked = ap first_letter asked.begins
asked_letter words (Gen number) asked = ap first_letter asked.begins

-- a record is replayed by two commands
replay_letter : (words : List (Bor (List ℕ))) → AskForReplay words → (first_letter (texts_of words) ≡ 114) ⊎ (first_letter (texts_of words) ≡ 109)
replay_letter words (Replay opening screen, ask, is) = inl (asked_letter (texts_of words) (Replay opening screen) ask)
replay_letter words (Mirror opening, ask, is) = inr (asked_letter (texts_of words) (Mirror opening) ask)
replay_letter words (Serve opening listen workers conns, ask, is) = absurd is
replay_letter words (Alone opening session, ask, is) = absurd is
replay_letter words (Text columns rows, ask, is) = absurd is
replay_letter words (Desk, ask, is) = absurd is
replay_letter words (Gen number, ask, is) = absurd is

-- the input of three commands is a record
record_letter : (words : List (Bor (List ℕ))) → AskForRecord words → (first_letter (texts_of words) ≡ 114) ⊎ (first_letter (texts_of words) ≡ 109) ⊎ (first_letter (texts_of words) ≡ 97)
record_letter words (Replay opening screen, ask, is) = inl (asked_letter (texts_of words) (Replay opening screen) ask)
record_letter words (Mirror opening, ask, is) = inr (inl (asked_letter (texts_of words) (Mirror opening) ask))
record_letter words (Serve opening listen workers conns, ask, is) = absurd is
record_letter words (Alone opening session, ask, is) = inr (inr (asked_letter (texts_of words) (Alone opening session) ask))
record_letter words (Text columns rows, ask, is) = absurd is
record_letter words (Desk, ask, is) = absurd is
record_letter words (Gen number, ask, is) = absurd is

serve_letter : (words : List (Bor (List ℕ))) → AskToServe words → first_letter (texts_of words) ≡ 115
serve_letter words (Replay opening screen, ask, is) = absurd is
serve_letter words (Mirror opening, ask, is) = absurd is
serve_letter words (Serve opening listen workers conns, ask, is) = asked_letter (texts_of words) (Serve opening listen workers conns) ask
serve_letter words (Alone opening session, ask, is) = absurd is
serve_letter words (Text columns rows, ask, is) = absurd is
serve_letter words (Desk, ask, is) = absurd is
serve_letter words (Gen number, ask, is) = absurd is

text_letter : (words : List (Bor (List ℕ))) → AskForText words → first_letter (texts_of words) ≡ 116
text_letter words (Replay opening screen, ask, is) = absurd is
text_letter words (Mirror opening, ask, is) = absurd is
text_letter words (Serve opening listen workers conns, ask, is) = absurd is
text_letter words (Alone opening session, ask, is) = absurd is
text_letter words (Text columns rows, ask, is) = asked_letter (texts_of words) (Text columns rows) ask
text_letter words (Desk, ask, is) = absurd is
text_letter words (Gen number, ask, is) = absurd is

desk_letter : (words : List (Bor (List ℕ))) → AskForDesk words → first_letter (texts_of words) ≡ 100
desk_letter words (Replay opening screen, ask, is) = absurd is
desk_letter words (Mirror opening, ask, is) = absurd is
desk_letter words (Serve opening listen workers conns, ask, is) = absurd is
desk_letter words (Alone opening session, ask, is) = absurd is
desk_letter words (Text columns rows, ask, is) = absurd is
desk_letter words (Desk, ask, is) = asked_letter (texts_of words) Desk ask
desk_letter words (Gen number, ask, is) = absurd is

-- a command with another letter
other_letter : {A : Type 0} (words : List (Bor (List ℕ))) (letter : ℕ) → AskForRecord words → first_letter (texts_of words) ≡ letter → (114 ≡ letter → ⊥) → (109 ≡ letter → ⊥) → (97 ≡ letter → ⊥) → A
other_letter words letter records is no_replay no_mirror no_alone = absurd (by (record_letter words records))
  where
    by : (first_letter (texts_of words) ≡ 114) ⊎ (first_letter (texts_of words) ≡ 109) ⊎ (first_letter (texts_of words) ≡ 97) → ⊥
    by (inl replays) = no_replay (sym replays ∙ is)
    by (inr (inl mirrors)) = no_mirror (sym mirrors ∙ is)
    by (inr (inr alone)) = no_alone (sym alone ∙ is)

pub gen_not_record : {A : Type 0} (words : List (Bor (List ℕ))) (number : ℕ) → AskForRecord words → Ask words (Gen number) → A
gen_not_record words number records made = other_letter words 103 records (asked_letter (texts_of words) (Gen number) made) (λ e. omega (arith, e)) (λ e. omega (arith, e)) (λ e. omega (arith, e))

pub serve_not_record : {A : Type 0} (words : List (Bor (List ℕ))) → AskForRecord words → AskToServe words → A
serve_not_record words records serves = other_letter words 115 records (serve_letter words serves) (λ e. omega (arith, e)) (λ e. omega (arith, e)) (λ e. omega (arith, e))

pub serve_not_gen : {A : Type 0} (words : List (Bor (List ℕ))) (number : ℕ) → Ask words (Gen number) → AskToServe words → A
serve_not_gen words number made serves = absurd (omega (arith, asked_letter (texts_of words) (Gen number) made, serve_letter words serves))

pub text_not_record : {A : Type 0} (words : List (Bor (List ℕ))) → AskForText words → AskForRecord words → A
text_not_record words shows records = other_letter words 116 records (text_letter words shows) (λ e. omega (arith, e)) (λ e. omega (arith, e)) (λ e. omega (arith, e))

pub text_not_serve : {A : Type 0} (words : List (Bor (List ℕ))) → AskForText words → AskToServe words → A
text_not_serve words shows serves = absurd (omega (arith, text_letter words shows, serve_letter words serves))

pub text_not_gen : {A : Type 0} (words : List (Bor (List ℕ))) (number : ℕ) → AskForText words → Ask words (Gen number) → A
text_not_gen words number shows made = absurd (omega (arith, text_letter words shows, asked_letter (texts_of words) (Gen number) made))

pub desk_not_record : {A : Type 0} (words : List (Bor (List ℕ))) → AskForDesk words → AskForRecord words → A
desk_not_record words points records = other_letter words 100 records (desk_letter words points) (λ e. omega (arith, e)) (λ e. omega (arith, e)) (λ e. omega (arith, e))

pub desk_not_serve : {A : Type 0} (words : List (Bor (List ℕ))) → AskForDesk words → AskToServe words → A
desk_not_serve words points serves = absurd (omega (arith, desk_letter words points, serve_letter words serves))

pub desk_not_gen : {A : Type 0} (words : List (Bor (List ℕ))) (number : ℕ) → AskForDesk words → Ask words (Gen number) → A
desk_not_gen words number points made = absurd (omega (arith, desk_letter words points, asked_letter (texts_of words) (Gen number) made))

pub desk_not_text : {A : Type 0} (words : List (Bor (List ℕ))) → AskForDesk words → AskForText words → A
desk_not_text words points shows = absurd (omega (arith, desk_letter words points, text_letter words shows))

pub alone_not_replay : {A : Type 0} (words : List (Bor (List ℕ))) (opening : Opening) (session : ℕ) → Ask words (Alone opening session) → AskForReplay words → A
alone_not_replay words opening session asks replays = absurd (by (replay_letter words replays))
  where
    by : (first_letter (texts_of words) ≡ 114) ⊎ (first_letter (texts_of words) ≡ 109) → ⊥
    by (inl letter) = omega (arith, asked_letter (texts_of words) (Alone opening session) asks, letter)
    by (inr letter) = omega (arith, asked_letter (texts_of words) (Alone opening session) asks, letter)

-- what asks for a record
pub replay_of_record : (words : List (Bor (List ℕ))) → AskForReplay words → AskForRecord words
replay_of_record words (Replay opening screen, ask, is) = (Replay opening screen, ask, tt)
replay_of_record words (Mirror opening, ask, is) = (Mirror opening, ask, tt)
replay_of_record words (Serve opening listen workers conns, ask, is) = absurd is
replay_of_record words (Alone opening session, ask, is) = absurd is
replay_of_record words (Text columns rows, ask, is) = absurd is
replay_of_record words (Desk, ask, is) = absurd is
replay_of_record words (Gen number, ask, is) = absurd is

pub alone_of_record : (words : List (Bor (List ℕ))) (opening : Opening) (session : ℕ) → AskForAlone words opening session → AskForRecord words
alone_of_record words opening session asks = (Alone opening session, asks, tt)

pub lone_of_record : (words : List (Bor (List ℕ))) (left : Option (List ℕ)) (entry reason : ℕ) → WasAskedNotAlone words left entry reason → AskForRecord words
lone_of_record words left entry reason was = alone_of_record words was.opening was.session was.asks

pub replay_not_lone : {A : Type 0} (words : List (Bor (List ℕ))) (left : Option (List ℕ)) (entry reason : ℕ) → AskForReplay words → WasAskedNotAlone words left entry reason → A
replay_not_lone words left entry reason replays was = alone_not_replay words was.opening was.session was.asks replays

-- a record and a made record have no input that is refused so, and a text and a desk each its own
pub record_refuses_not : {A : Type 0} (words : List (Bor (List ℕ))) (left : Option (List ℕ)) (place : ℕ) → AskForRecord words → WasRefused words left place → A
record_refuses_not words left place records (inl bad) = text_not_record words bad.0 records
record_refuses_not words left place records (inr bad) = desk_not_record words bad.0 records

pub gen_refuses_not : {A : Type 0} (words : List (Bor (List ℕ))) (number : ℕ) (left : Option (List ℕ)) (place : ℕ) → Ask words (Gen number) → WasRefused words left place → A
gen_refuses_not words number left place made (inl bad) = text_not_gen words number bad.0 made
gen_refuses_not words number left place made (inr bad) = desk_not_gen words number bad.0 made

pub text_refuses : (words : List (Bor (List ℕ))) (left : Option (List ℕ)) (place : ℕ) → AskForText words → WasRefused words left place → WasBadInput left place
text_refuses words left place shows (inl bad) = bad.1
text_refuses words left place shows (inr bad) = desk_not_text words bad.0 shows

pub desk_refuses : (words : List (Bor (List ℕ))) (left : Option (List ℕ)) (place : ℕ) → AskForDesk words → WasRefused words left place → WasBadEvents left place
desk_refuses words left place points (inl bad) = desk_not_text words points bad.0
desk_refuses words left place points (inr bad) = bad.1

-- a made record reads no input
pub gen_reads_not : {A : Type 0} (words : List (Bor (List ℕ))) (number : ℕ) → AskToRead words → Ask words (Gen number) → A
gen_reads_not words number (inl records) made = gen_not_record words number records made
gen_reads_not words number (inr (inl shows)) made = text_not_gen words number shows made
gen_reads_not words number (inr (inr points)) made = desk_not_gen words number points made

-- words that ask for a job
pub asks_to_serve : (words : List (Bor (List ℕ))) (opening : Opening) (listen : String Global) (workers conns : ℕ) → AskFor (texts_of words) (Serve opening listen workers conns) → AskToServe words
asks_to_serve words opening listen workers conns asked = (Serve opening listen workers conns, asked, tt)

pub asks_for_text : (words : List (Bor (List ℕ))) (columns rows : ℕ) → AskFor (texts_of words) (Text columns rows) → AskForText words
asks_for_text words columns rows asked = (Text columns rows, asked, tt)

pub asks_for_desk : (words : List (Bor (List ℕ))) → AskFor (texts_of words) Desk → AskForDesk words
asks_for_desk words asked = (Desk, asked, tt)

pub asks_for_replay : (words : List (Bor (List ℕ))) (opening : Opening) (screen : Bool) → AskFor (texts_of words) (Replay opening screen) → AskForRecord words
asks_for_replay words opening screen asked = (Replay opening screen, asked, tt)

pub asks_for_mirror : (words : List (Bor (List ℕ))) (opening : Opening) → AskFor (texts_of words) (Mirror opening) → AskForRecord words
asks_for_mirror words opening asked = (Mirror opening, asked, tt)

pub asks_for_alone : (words : List (Bor (List ℕ))) (opening : Opening) (session : ℕ) → AskFor (texts_of words) (Alone opening session) → AskForRecord words
asks_for_alone words opening session asked = (Alone opening session, asked, tt)
