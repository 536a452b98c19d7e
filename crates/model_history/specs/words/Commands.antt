-- The commands, and what their words ask for. The words are those behind the program's name.
use Rattle.std.specs.Prelude.{◌≡◌, ◌⊎◌, ◌≤◌, ℕ, Bool, List, [], ◌∷◌, codes, length, Some}
use Rattle.r9_event.specs.declared.event.event.Opening.{Opening}
use Rattle.model_history.specs.words.Options.{Syntax, Given, GivesOptions, value_of, has_flag, or, ending}
use Rattle.model_history.specs.words.Values.{IsOpening, counted}

-- the display that options ask for, 640x480 of x8r8g8b8 where they ask for no other
abbrev pub AsksForOpening : List Given → Opening → Type 0
AsksForOpening given opening =
    IsOpening (or (value_of (codes "size") given) (codes "640x480")) (or (value_of (codes "chan") given) (codes "x8r8g8b8")) opening

abbrev pub replay_syntax : Syntax
replay_syntax = record { flags = codes "screen" ∷ []; valued = codes "size" ∷ codes "chan" ∷ [] }

-- answers a record that stands in the input, on this display, and with the screen behind the replies or without
pub record AsksForReplay (words : List (List ℕ)) (opening : Opening) (screen : Bool) : Type 0 where
  pub given : List Given
  pub rest : List (List ℕ)
  pub begins : words ≡ codes "replay" ∷ rest
  pub gives : GivesOptions replay_syntax given rest
  pub opened : AsksForOpening given opening
  pub shown : screen ≡ has_flag (codes "screen") given

abbrev pub mirror_syntax : Syntax
mirror_syntax = record { flags = []; valued = codes "size" ∷ codes "chan" ∷ [] }

-- mirrors a record that stands in the input, on this display
pub record AsksForMirror (words : List (List ℕ)) (opening : Opening) : Type 0 where
  pub given : List Given
  pub rest : List (List ℕ)
  pub begins : words ≡ codes "mirror" ∷ rest
  pub gives : GivesOptions mirror_syntax given rest
  pub opened : AsksForOpening given opening

abbrev pub serve_syntax : Syntax
serve_syntax = record { flags = []; valued = codes "size" ∷ codes "chan" ∷ codes "listen" ∷ codes "workers" ∷ codes "conns" ∷ [] }

-- serves so many connections at an address, on this display, by so many workers, one where no number is given
pub record AsksToServe (words : List (List ℕ)) (opening : Opening) (listen : List ℕ) (workers conns : ℕ) : Type 0 where
  pub given : List Given
  pub rest : List (List ℕ)
  pub begins : words ≡ codes "serve" ∷ rest
  pub gives : GivesOptions serve_syntax given rest
  pub opened : AsksForOpening given opening
  pub address : value_of (codes "listen") given ≡ Some listen
  pub short : length listen ≤ 255
  pub shared : counted 16 (or (value_of (codes "workers") given) (codes "1")) ≡ Some workers
  pub count : List ℕ
  pub wanted : value_of (codes "conns") given ≡ Some count
  pub connections : counted 100000 count ≡ Some conns

abbrev pub alone_syntax : Syntax
alone_syntax = record { flags = []; valued = codes "size" ∷ codes "chan" ∷ codes "conn" ∷ [] }

-- answers what one session of a record sent, as where it is alone with its window, on this display
pub record AsksForAlone (words : List (List ℕ)) (opening : Opening) (session : ℕ) : Type 0 where
  pub given : List Given
  pub rest : List (List ℕ)
  pub begins : words ≡ codes "alone" ∷ rest
  pub gives : GivesOptions alone_syntax given rest
  pub opened : AsksForOpening given opening
  pub number : List ℕ
  pub chosen : value_of (codes "conn") given ≡ Some number
  pub counts : counted 4294967295 number ≡ Some session

-- a number that is given under a name, from a least to a most one
pub record GivesNumber (given : List Given) (name : List ℕ) (least most n : ℕ) : Type 0 where
  pub text : List ℕ
  pub valued : value_of name given ≡ Some text
  pub counts : counted most text ≡ Some n
  pub enough : least ≤ n

abbrev pub text_syntax : Syntax
text_syntax = record { flags = []; valued = codes "cols" ∷ codes "rows" ∷ [] }

-- shows a text in a window of so many columns and rows
pub record AsksForText (words : List (List ℕ)) (columns rows : ℕ) : Type 0 where
  pub given : List Given
  pub rest : List (List ℕ)
  pub begins : words ≡ codes "text" ∷ rest
  pub gives : GivesOptions text_syntax given rest
  pub wide : GivesNumber given (codes "cols") 4 200 columns
  pub high : GivesNumber given (codes "rows") 4 100 rows

abbrev pub desk_syntax : Syntax
desk_syntax = record { flags = []; valued = [] }

-- does what events of the mouse say, and takes no options
pub record AsksForDesk (words : List (List ℕ)) : Type 0 where
  pub given : List Given
  pub rest : List (List ℕ)
  pub begins : words ≡ codes "desk" ∷ rest
  pub gives : GivesOptions desk_syntax given rest

-- one word, with `--` before it, behind it, or nowhere
abbrev pub IsAlone : (word : List ℕ) → (words : List (List ℕ)) → Type 0
IsAlone word words = (words ≡ word ∷ []) ⊎ (words ≡ ending ∷ word ∷ []) ⊎ (words ≡ word ∷ ending ∷ [])

-- makes and answers a record of so many messages
pub record AsksToGenerate (words : List (List ℕ)) (n : ℕ) : Type 0 where
  pub word : List ℕ
  pub rest : List (List ℕ)
  pub begins : words ≡ codes "gen" ∷ rest
  pub one : IsAlone word rest
  pub counts : counted 100000 word ≡ Some n
