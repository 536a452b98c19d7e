-- A connection stays where it does what a message asks for.
use Rattle.std.proofs.Common.{◌≡◌, ℕ, Bool, true, false, cond, eqb, List, [], ◌∷◌, Some, refl, sym, ap, subst}
use Rattle.std.specs.Prelude.{◌==◌, None, Ok, Err, IsSome, length, not, if◌then◌else◌}
use Rattle.model_text.specs.text.Outcome.{Outcome, ◌>>=◌, refuse_if}
use Rattle.model_draw_parts.specs.dmsg.Message.{Message, UpN, LowN, LowS, LowT, LowX}
use Rattle.model_draw_parts.specs.images.Book.{add_named, tie, untie}
use Rattle.model_draw.specs.draw.Making.{flag}
use Rattle.model_draw.specs.draw.Moving.{are_on_one_screen, look_windows, restack}
use Rattle.model_draw.specs.draw.Naming.{name_image, use_name}
use Rattle.model_draw.specs.draw.Writing.{string_drawings, write_string}
use Rattle.model_draw.specs.draw.Act.{act}
use Rattle.r9_dmsg.specs.Listed.{has_list}
use Rattle.model_text.specs.text.Map.{lookup, with}
use Rattle.model_draw_parts.specs.images.Release.{Freed}
use Rattle.model_draw.specs.draw.World.{Client, World, after_freed, look, with_book}
use Rattle.r9_draw.specs.declared.messages.plan.Plan.{Plan}
use Rattle.r9_draw.specs.declared.messages.plan.Plan.TheVariants.{Nothing, Make, SetClip, Draw, Free, FreeScreen, MakeFont, LoadCell, MakeScreen, ShareScreen, Move, SetOperator, Read, Write}
use Rattle.r9_draw.specs.messages.Fonts.{after_load_cell}
use Rattle.r9_draw.specs.messages.Plans.{after, after_free, after_free_screen, after_make, after_make_screen, after_read, after_share, after_task, freed_by, screen_freed_by}
use Rattle.r9_device.proofs.device.Worlds.{fold-things}

with-live : {A : Type 0} (es : List (ℕ × A)) (k : ℕ) (value : A) → IsSome (lookup es k) → IsSome (lookup (with es k value) k)
with-live [] k value h = h
with-live {A = A} (e ∷ es) k value h = by (with-live es k value) (eqb e.0 k) refl h
  where
    by : (IsSome (lookup es k) → IsSome (lookup (with es k value) k)) → (b : Bool) → eqb e.0 k ≡ b → IsSome (cond b (Some e.1) (lookup es k)) → IsSome (lookup (cond b ((e.0, value) ∷ es) (e ∷ with es k value)) k)
    by more true at h = let P : Bool → Type 0 = λ c. IsSome (cond c (Some value) (lookup es k)) in subst P (sym at) refl
    by more false at h = let P : Bool → Type 0 = λ c. IsSome (cond c (Some e.1) (lookup (with es k value) k)) in subst P (sym at) (more h)

freed-clients : (w : World) (f : Freed) → (after_freed w f).clients ≡ w.clients
freed-clients w f = ap (λ (x : World). x.clients) (fold-things f.gone (with_book w f.book))

pub after-live : (k : ℕ) (w : World) (p : Plan) (rest : List ℕ) → IsSome (lookup w.clients k) → IsSome (lookup (after k w p rest).clients k)
unfolding after_make after_load_cell after_task after_free after_free_screen after_make_screen after_share after_read
after-live k w Nothing rest h = h
after-live k w (Make m) rest h = with-live w.clients k _ h
after-live k w (SetClip image repl clipr) rest h = h
after-live k w (Draw t) rest h = with-live w.clients k _ h
after-live k w (Free id) rest h =
    let P : List (ℕ × Client) → Type 0 = λ es. IsSome (lookup es k) in
    with-live _ k _ (subst P (sym (freed-clients w (freed_by w k id))) h)
after-live k w (FreeScreen id) rest h =
    let P : List (ℕ × Client) → Type 0 = λ es. IsSome (lookup es k) in
    subst P (sym (freed-clients w (screen_freed_by w k id))) h
after-live k w (MakeFont id n ascent) rest h = with-live w.clients k _ h
after-live k w (LoadCell l) rest h = with-live w.clients k _ h
after-live k w (MakeScreen s) rest h = h
after-live k w (ShareScreen id screen) rest h = h
after-live k w (Move image rmin scr) rest h = h
after-live k w (SetOperator op) rest h = with-live w.clients k _ h
after-live k w (Read image r) rest h = with-live w.clients k _ h
after-live k w (Write image r len) rest h = h

-- ---- a message with a list

abbrev LivesIn : ℕ → Outcome World → Type 0
LivesIn k (Ok w) = IsSome (lookup w.clients k)
LivesIn k (Err n) = Unit {0}

seq : {A : Type 0} (k : ℕ) (o : Outcome A) (f : A → Outcome World) → ((x : A) → LivesIn k (f x)) → LivesIn k (o >>= f)
seq k (Ok x) f h = h x
seq k (Err n) f h = tt

act-lives : (k : ℕ) (w : World) (m : Message) → has_list m ≡ true → IsSome (lookup w.clients k) → LivesIn k (act k w m [])
unfolding act name_image use_name restack write_string
act-lives k w (UpN id tied name) list h = seq k (look w k id) _ (λ _. seq k (refuse_if (length name == 0) 23) _ (λ _. seq k (if flag tied then tie w.book k id name else untie w.book k id name) _ (λ _. h)))
act-lives k w (LowN id name) list h = seq k (add_named w.book k id name) _ (λ _. with-live w.clients k _ h)
act-lives k w (LowS writing) list h = seq k (string_drawings k w writing None) _ (λ _. with-live w.clients k _ h)
act-lives k w (LowT top ids) list h = seq k (look_windows w k ids) _ (λ group. seq k (refuse_if (not (are_on_one_screen w.book group)) 22) _ (λ _. h))
act-lives k w (LowX writing bgid bgp) list h = seq k (string_drawings k w writing (Some (bgid, bgp))) _ (λ _. with-live w.clients k _ h)
act-lives k w _ list h = absurd cc

pub listed-live : (k : ℕ) (w next : World) (m : Message) → has_list m ≡ true → act k w m [] ≡ Ok next → IsSome (lookup w.clients k) → IsSome (lookup next.clients k)
listed-live k w next m list is h = subst (LivesIn k) is (act-lives k w m list h)
