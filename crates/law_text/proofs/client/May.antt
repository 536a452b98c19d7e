-- What a client may say.
use Rattle.std.proofs.Common.{◌≡◌, ◌≤◌, ◌<◌, ◌^◌, ℕ, true, List, [], ◌∷◌, codes, length, refl, arith}
use Rattle.std.specs.Char.{encode_utf8}
use Rattle.std.specs.Str.{chars, is_utf8}
use Rattle.std.proofs.lemmas.List.Elements.{All-cons, All-nil}
use Rattle.std.proofs.lemmas.Str.{IsUtf8-from_is_utf8}
use Rattle.model_files.specs.wire.Message.{Tattach, Topen, Twalk, Twrite, no_fid}
use Rattle.model_files.specs.wire.Spelling.{IsString, message, sized}
use Rattle.model_world.specs.Session.{Session}
use Rattle.model_clients.specs.client.Files.{to_data, to_new}
use Rattle.law_text.specs.client.Saying.{MaySay}

-- the session takes messages of the greatest size
abbrev IsWide : Session → Type 0
IsWide session = session.msize ≡ 65560

text : (name : List ℕ) → is_utf8 name ≡ true → length name < 2 ^ 16 → IsString name
text name is few = (IsUtf8-from_is_utf8 name is, few)

pub may_attach_device : (session : Session) (fid : ℕ) → IsWide session → fid < 2 ^ 32 → MaySay session (Tattach 1 fid no_fid [] [])
unfolding is_utf8 chars encode_utf8 message sized
may_attach_device session fid wide few = record {
  spelled = record { sizes = (omega arith, few, omega arith); fits = (text [] refl (omega arith), text [] refl (omega arith)); spelled = refl };
  tagged = refl;
  short = omega (arith, wide);
}

module _ (session : Session) (fid newfid : ℕ) (wide : IsWide session) (few : fid < 2 ^ 32) (new_few : newfid < 2 ^ 32) where
  pub may_walk_new : MaySay session (Twalk 1 fid newfid to_new)
  unfolding is_utf8 chars encode_utf8 message sized
  may_walk_new = record {
    spelled = record {
      sizes = (omega arith, few, new_few);
      fits = (omega arith, All-cons IsString (codes "draw") (codes "new" ∷ []) (text (codes "draw") refl (omega arith)) (All-cons IsString (codes "new") [] (text (codes "new") refl (omega arith)) (All-nil IsString)));
      spelled = refl;
    };
    tagged = refl;
    short = omega (arith, wide);
  }

  pub may_walk_data : MaySay session (Twalk 1 fid newfid to_data)
  unfolding is_utf8 chars encode_utf8 message sized
  may_walk_data = record {
    spelled = record {
      sizes = (omega arith, few, new_few);
      fits = (
        omega arith,
        All-cons IsString (codes "draw") (codes "1" ∷ codes "data" ∷ []) (text (codes "draw") refl (omega arith))
            (All-cons IsString (codes "1") (codes "data" ∷ []) (text (codes "1") refl (omega arith)) (All-cons IsString (codes "data") [] (text (codes "data") refl (omega arith)) (All-nil IsString))),
      );
      spelled = refl;
    };
    tagged = refl;
    short = omega (arith, wide);
  }

  pub may_walk_mousein : MaySay session (Twalk 1 fid newfid (codes "mousein" ∷ []))
  unfolding is_utf8 chars encode_utf8 message sized
  may_walk_mousein = record {
    spelled = record { sizes = (omega arith, few, new_few); fits = (omega arith, All-cons IsString (codes "mousein") [] (text (codes "mousein") refl (omega arith)) (All-nil IsString)); spelled = refl };
    tagged = refl;
    short = omega (arith, wide);
  }

  pub may_walk_wctl : MaySay session (Twalk 1 fid newfid (codes "wctl" ∷ []))
  unfolding is_utf8 chars encode_utf8 message sized
  may_walk_wctl = record {
    spelled = record { sizes = (omega arith, few, new_few); fits = (omega arith, All-cons IsString (codes "wctl") [] (text (codes "wctl") refl (omega arith)) (All-nil IsString)); spelled = refl };
    tagged = refl;
    short = omega (arith, wide);
  }

pub may_open : (session : Session) (fid mode : ℕ) → IsWide session → fid < 2 ^ 32 → mode < 2 ^ 8 → MaySay session (Topen 1 fid mode)
unfolding message
may_open session fid mode wide few mode_few = record {
  spelled = record { sizes = (omega arith, few, mode_few); fits = tt; spelled = refl };
  tagged = refl;
  short = omega (arith, wide);
}

-- so many bytes are in a message
pub may_write : (session : Session) (fid : ℕ) (bytes : List ℕ) → IsWide session → fid < 2 ^ 32 → length bytes ≤ 65537 → MaySay session (Twrite 1 fid 0 bytes)
unfolding message
may_write session fid bytes wide few short = record {
  spelled = record { sizes = (omega arith, few, omega arith); fits = omega (arith, short); spelled = refl };
  tagged = refl;
  short = omega (arith, wide, short);
}
