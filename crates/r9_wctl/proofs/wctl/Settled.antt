-- What is gathered from left to right makes the command of all settings.
use Rattle.std.proofs.Common.{◌≡◌, ℕ, Bool, true, false, cond, not, ◌&&◌, ◌||◌, ◌==◌, nat_le, List, [], ◌∷◌, ◌++◌, length, map, slice_get, Option, Some, None, refl, ap, sym, ◌∙◌, append_assoc, append-nil, arith}
use Rattle.std.specs.List.{filter_map, list_any, find}
use Rattle.std.specs.Str.{bytes_eq}
use Rattle.std.specs.Option.{option_map, unwrap_or, is_some}
use Rattle.std.proofs.lemmas.Bool.Decides.{nat_tests}
use Rattle.model_text.specs.text.Reading.{◌>>=◌}
use Rattle.model_files.specs.declared.wctl.Choice.{Choice}
use Rattle.model_files.specs.wctl.Command.{Command}
use Rattle.model_files.specs.wctl.Reading.{Setting, Choose, Hidden, Named, NoEffect, asked, choice_in, path_in, is_hidden, Row, commands, command_in, parts, allowed, must_name}
use Rattle.model_files.specs.wctl.Reading as model
use Rattle.model_files.specs.wctl.Words.{all_some}
use Rattle.r9_wctl.specs.declared.wctl.gathered.Gathered.{Gathered}
use Rattle.r9_wctl.specs.declared.wctl.verb.Verb.{Verb}
use Rattle.r9_wctl.specs.declared.wctl.verb.Verb.TheVariants as verb
use Rattle.r9_wctl.specs.wctl.Names.{verb_word, options_of}
use Rattle.r9_wctl.specs.wctl.Gather.{gather, nothing, gathered_from, finished}

-- `finished` and `command_with`, where `must` says whether a window must be named
abbrev pub finished_by : Bool → List ℕ → Gathered → Option Command
finished_by must name g = cond (must && not (is_some g.id)) None (Some (record { what = asked name g.options g.hide; id = unwrap_or g.id [] }))

abbrev pub paths_of : Option (List ℕ) → List (List ℕ)
paths_of None = []
paths_of (Some path) = path ∷ []

abbrev pub command_by : Bool → List ℕ → List Choice → Bool → List (List ℕ) → Option Command
command_by must name options hide paths =
    cond (nat_le (length paths) 1 && not (must && (length paths == 0))) (Some (record { what = asked name options hide; id = unwrap_or (slice_get paths 0) [] })) None

abbrev pub command_after : Bool → List ℕ → Gathered → List Setting → Option Command
command_after must name g settings = command_by must name (g.options ++ filter_map choice_in settings) (g.hide || list_any is_hidden settings) (paths_of g.id ++ filter_map path_in settings)

bind_map : {A B C : Type 0} (o : Option A) (h : A → B) (f : B → Option C) → (o >>= λ x. f (h x)) ≡ (option_map h o >>= f)
bind_map None h f = refl
bind_map (Some x) h f = refl

bind_same : {A B : Type 0} (o : Option A) (f g : A → Option B) → ((x : A) → f x ≡ g x) → (o >>= f) ≡ (o >>= g)
bind_same None f g e = refl
bind_same (Some x) f g e = e x

or_false : (b : Bool) → b ≡ (b || false)
or_false true = refl
or_false false = refl

or_true : (b : Bool) → true ≡ (b || true)
or_true true = refl
or_true false = refl

ended : (must : Bool) (name : List ℕ) (options : List Choice) (hide : Bool) (id : Option (List ℕ))
    → finished_by must name (record { options = options; hide = hide; id = id }) ≡ command_by must name options hide (paths_of id ++ [])
ended true name options hide None = refl
ended true name options hide (Some path) = refl
ended false name options hide None = refl
ended false name options hide (Some path) = refl

two_paths : (must : Bool) (name : List ℕ) (options : List Choice) (hide : Bool) (first second : List ℕ) (more : List (List ℕ)) → None ≡ command_by must name options hide (first ∷ second ∷ more)
two_paths must name options hide first second more =
    let long : nat_le (length (first ∷ second ∷ more)) 1 ≡ false = grind (arith, nat_tests) in
    ap (λ (b : Bool). cond (b && not (must && (length (first ∷ second ∷ more) == 0))) (Some (record { what = asked name options hide; id = first })) None) (sym long)

none_after : {A B : Type 0} (o : Option A) (f : A → Option B) → ((x : A) → None ≡ f x) → None ≡ (o >>= f)
none_after None f e = refl
none_after (Some x) f e = e x

-- one setting more in front
front : (must : Bool) (name : List ℕ) (g next : Gathered) (s : Setting) (os : List (Option Setting)) → ((ss : List Setting) → command_after must name next ss ≡ command_after must name g (s ∷ ss))
    → (gather next os >>= finished_by must name) ≡ (all_some os >>= command_after must name next) → (gather next os >>= finished_by must name) ≡ (all_some (Some s ∷ os) >>= command_after must name g)
front must name g next s os same so_far =
    so_far ∙ bind_same (all_some os) (command_after must name next) (λ ss. command_after must name g (s ∷ ss)) same ∙ bind_map (all_some os) (λ ss. s ∷ ss) (command_after must name g)

named : (must : Bool) (name : List ℕ) (options : List Choice) (hide : Bool) (id : Option (List ℕ)) (path : List ℕ) (os : List (Option Setting))
    → ((g : Gathered) → (gather g os >>= finished_by must name) ≡ (all_some os >>= command_after must name g))
    → (gather (record { options = options; hide = hide; id = id }) (Some (Named path) ∷ os) >>= finished_by must name) ≡ (all_some (Some (Named path) ∷ os) >>= command_after must name (record { options = options; hide = hide; id = id }))
named must name options hide None path os so_far =
    let next : Gathered = record { options = options; hide = hide; id = Some path } in
    front must name (record { options = options; hide = hide; id = None }) next (Named path) os (λ ss. refl) (so_far next)
named must name options hide (Some other) path os so_far =
    let g : Gathered = record { options = options; hide = hide; id = Some other } in
    none_after (all_some os) (λ ss. command_after must name g (Named path ∷ ss)) (λ ss. two_paths must name _ _ other path (filter_map path_in ss)) ∙ bind_map (all_some os) (λ ss. Named path ∷ ss) (command_after must name g)

pub tie : (must : Bool) (name : List ℕ) (os : List (Option Setting)) (g : Gathered) → (gather g os >>= finished_by must name) ≡ (all_some os >>= command_after must name g)
tie must name [] g =
    ended must name g.options g.hide g.id ∙ ap (λ xs. command_by must name xs g.hide (paths_of g.id ++ [])) (sym (append-nil g.options))
    ∙ ap (λ h. command_by must name (g.options ++ []) h (paths_of g.id ++ [])) (or_false g.hide)
tie must name (None ∷ os) g = refl
tie must name (Some (Choose choice) ∷ os) g =
    let next : Gathered = record { options = g.options ++ choice ∷ []; hide = g.hide; id = g.id } in
    front must name g next (Choose choice) os (λ ss. ap (λ xs. command_by must name xs (g.hide || list_any is_hidden ss) (paths_of g.id ++ filter_map path_in ss)) (append_assoc g.options (choice ∷ []) (filter_map choice_in ss))) (tie must name os next)
tie must name (Some Hidden ∷ os) g =
    let next : Gathered = record { options = g.options; hide = true; id = g.id } in
    front must name g next Hidden os (λ ss. ap (λ h. command_by must name (g.options ++ filter_map choice_in ss) h (paths_of g.id ++ filter_map path_in ss)) (or_true g.hide)) (tie must name os next)
tie must name (Some (Named path) ∷ os) g = named must name g.options g.hide g.id path os (tie must name os)
tie must name (Some NoEffect ∷ os) g = front must name g g NoEffect os (λ ss. refl) (tie must name os g)

-- the command that words spell, by its name's number
found_verb : (verb : Verb) → find (λ row. bytes_eq (verb_word verb) row.name) commands ≡ Some (record { name = verb_word verb; options = options_of verb })
found_verb verb.New = refl
found_verb verb.Resize = refl
found_verb verb.Move = refl
found_verb verb.Set = refl
found_verb verb.Top = refl
found_verb verb.Bottom = refl
found_verb verb.Hide = refl
found_verb verb.Unhide = refl
found_verb verb.Current = refl
found_verb verb.Delete = refl
found_verb verb.Scroll = refl
found_verb verb.Noscroll = refl
found_verb verb.Host = refl

pub command_tie : (verb : Verb) (with_id : Bool) (name : List ℕ) (words : List (List ℕ)) → name ≡ verb_word verb → (gathered_from verb with_id nothing words >>= finished verb with_id) ≡ command_in with_id (name ∷ words)
command_tie verb with_id name words e =
    tie (must_name with_id (verb_word verb)) (verb_word verb) (map (allowed with_id (options_of verb)) (parts 0 words)) nothing
    ∙ ap (λ (row : Option Row). row >>= λ row. model.command_by with_id row (parts 0 words)) (sym (found_verb verb)) ∙ ap (λ (n : List ℕ). command_in with_id (n ∷ words)) (sym e)
