-- What was taken of an input.
use Rattle.std.specs.Prelude.{◌≡◌, ◌++◌, ℕ, List, take, drop, Option, Some, IfSome, IsSomeAnd}

-- What was left, where it is told, is this text and what is left now.
abbrev pub HasTaken : (before : Option (List ℕ)) (text : List ℕ) (after : Option (List ℕ)) → Type 0
HasTaken before text after = IfSome before (λ bytes. IsSomeAnd after (λ rest. bytes ≡ text ++ rest))

-- The text is all that was left, where it is told, or its front up to the limit, and the rest is left now.
abbrev pub HasRead : (limit : ℕ) (before : Option (List ℕ)) (text : List ℕ) (after : Option (List ℕ)) → Type 0
HasRead limit before text after = IfSome before (λ bytes. (text ≡ take limit bytes) × (after ≡ Some (drop limit bytes)))

-- What was left, where it is told, was read to its end, or to the limit.
abbrev pub WasReadTo : (limit : ℕ) (before after : Option (List ℕ)) → Type 0
WasReadTo limit before after = IfSome before (λ bytes. after ≡ Some (drop limit bytes))
