-- Places are known where reads wait.
use Rattle.std.proofs.Common.{◌≡◌, ◌∙◌, ◌++◌, ◌&&◌, ◌||◌, ℕ, zero, suc, Bool, true, false, not, cond, eqb, List, [], ◌∷◌, length, Option, Some, None, Result, Ok, Err, OnOk, OnErr, IfSome, inl, inr, ⊎_elim, refl, sym, ap, subst, arith}
use Rattle.std.specs.Prelude.{◌==◌, ◌⊎◌, filter}
use Rattle.std.specs.List.{list_any, remove}
use Rattle.std.specs.Map.{keys_of}
use Rattle.std.specs.Option.{option_map_or}
use Rattle.std.proofs.lemmas.Bool.{eqb-true, false≢true}
use Rattle.model_text.specs.text.Map.{and, lookup, with, without}
use Rattle.model_text.specs.map.Ascending.{Ascend}
use Rattle.model_text.proofs.map.Ascending.{without-here}
use Rattle.model_text.proofs.map.Keys.{eqb-same, not_key}
use Rattle.model_text.proofs.map.Maps.{and-here, and-others, with-here, with-others, without-others}
use Rattle.model_files.specs.declared.tree.Kind.{Kind}
use Rattle.model_files.specs.declared.tree.Kind.TheVariants as kinds
use Rattle.model_files.specs.tree.Node.{Node, row}
use Rattle.model_world.specs.Session.{Fid, Session, Wait}
use Rattle.model_world.specs.Fids.{is_kind}
use Rattle.model_world.specs.Links.{is_among}
use Rattle.model_world.specs.Sleeping.{gives_late, has_place, is_at, may_wake}
use Rattle.r9_session.specs.Places.{AreCovered, is_awaited}

-- places that are known still are
abbrev pub AreMore : (old new : List ℕ) → Type 0
AreMore old new = (n : ℕ) → is_among old n ≡ true → is_among new n ≡ true

pub same_places : (places : List ℕ) → AreMore places places
same_places places n among = among

apart_of : (n key : ℕ) → eqb n key ≡ false → n ≡ key → ⊥
apart_of n key other same = false≢true (sym other ∙ ap (λ (m : ℕ). eqb m key) same ∙ eqb-same key)

same_fid : (x y : Fid) → Some x ≡ Some y → x ≡ y
same_fid x y e = cc

-- ---- fids that change

changed : (fids after : List (ℕ × Fid)) (waiting : List (ℕ × Wait)) (old new : List ℕ) (key : ℕ)
    → ((other : ℕ) → (other ≡ key → ⊥) → lookup after other ≡ lookup fids other)
    → ((fid : Fid) → is_awaited waiting key ≡ true → lookup after key ≡ Some fid → has_place fid ≡ true → is_among new fid.node.serial ≡ true)
    → AreMore old new → AreCovered fids waiting old → AreCovered after waiting new
changed fids after waiting old new key others here more covered number fid awaited at placed = by (eqb number key) refl
  where
    by : (b : Bool) → eqb number key ≡ b → is_among new fid.node.serial ≡ true
    by true is =
        let same : number ≡ key = eqb-true number key is in
        here fid (ap (is_awaited waiting) (sym same) ∙ awaited) (ap (lookup after) (sym same) ∙ at) placed
    by false is = more fid.node.serial (covered number fid awaited (sym (others number (apart_of number key is)) ∙ at) placed)

-- another file of a fid that is bound
pub covered_with : (fids : List (ℕ × Fid)) (waiting : List (ℕ × Wait)) (old new : List ℕ) (key : ℕ) (found fid : Fid) → lookup fids key ≡ Some found
    → (is_awaited waiting key ≡ true → has_place fid ≡ true → is_among new fid.node.serial ≡ true)
    → AreMore old new → AreCovered fids waiting old → AreCovered (with fids key fid) waiting new
covered_with fids waiting old new key found fid bound here more covered =
    changed fids (with fids key fid) waiting old new key (λ other apart. with-others fids key other fid apart)
    (λ f awaited at placed.
    let same : fid ≡ f = same_fid fid f (sym (with-here fids key found fid bound) ∙ at) in
    ap (λ (x : Fid). is_among new x.node.serial) (sym same) ∙ here awaited (ap has_place same ∙ placed))
    more covered

-- the same file
pub covered_same : (fids : List (ℕ × Fid)) (waiting : List (ℕ × Wait)) (places : List ℕ) (key : ℕ) (found fid : Fid) → lookup fids key ≡ Some found → fid.node ≡ found.node
    → AreCovered fids waiting places → AreCovered (with fids key fid) waiting places
covered_same fids waiting places key found fid bound node covered =
    covered_with fids waiting places places key found fid bound
    (λ awaited placed.
    ap (λ (n : Node). is_among places n.serial) node ∙ covered key found awaited bound (ap (λ (n : Node). not (n.serial == 0) || gives_late n.kind) (sym node) ∙ placed))
    (same_places places) covered

-- a file at no window
pub covered_nowhere : (fids : List (ℕ × Fid)) (waiting : List (ℕ × Wait)) (places : List ℕ) (key : ℕ) (found fid : Fid) → lookup fids key ≡ Some found → has_place fid ≡ false
    → AreCovered fids waiting places → AreCovered (with fids key fid) waiting places
covered_nowhere fids waiting places key found fid bound nowhere covered =
    covered_with fids waiting places places key found fid bound (λ awaited placed. absurd (false≢true (sym nowhere ∙ placed))) (same_places places) covered

-- a fid more
pub covered_and : (fids : List (ℕ × Fid)) (waiting : List (ℕ × Wait)) (old new : List ℕ) (key : ℕ) (fid : Fid)
    → (is_awaited waiting key ≡ true → is_among new fid.node.serial ≡ true)
    → AreMore old new → AreCovered fids waiting old → AreCovered (and fids key fid) waiting new
covered_and fids waiting old new key fid here more covered =
    changed fids (and fids key fid) waiting old new key (λ other apart. and-others fids key other fid apart)
    (λ f awaited at placed. ap (λ (x : Fid). is_among new x.node.serial) (sym (same_fid fid f (sym (and-here fids key fid) ∙ at))) ∙ here awaited)
    more covered

-- a fid less
pub covered_without : (fids : List (ℕ × Fid)) (waiting : List (ℕ × Wait)) (places : List ℕ) (key : ℕ) → Ascend (keys_of fids)
    → AreCovered fids waiting places → AreCovered (without fids key) waiting places
covered_without fids waiting places key ascend covered =
    changed fids (without fids key) waiting places places key (λ other apart. without-others fids key other apart)
    (λ f awaited at placed. (let gone : None ≡ Some f = sym (without-here fids key ascend) ∙ at in absurd cc))
    (same_places places) covered

-- ---- reads that wait, or wait no more

pub covered_more : (fids : List (ℕ × Fid)) (waiting : List (ℕ × Wait)) (old new : List ℕ) → AreMore old new → AreCovered fids waiting old → AreCovered fids waiting new
covered_more fids waiting old new more covered number fid awaited at placed = more fid.node.serial (covered number fid awaited at placed)

covered_fewer : (fids : List (ℕ × Fid)) (before after : List (ℕ × Wait)) (places : List ℕ) → ((number : ℕ) → is_awaited after number ≡ true → is_awaited before number ≡ true)
    → AreCovered fids before places → AreCovered fids after places
covered_fewer fids before after places fewer covered number fid awaited at placed = covered number fid (fewer number awaited) at placed

or_more : (a b c : Bool) → (a || b) ≡ true → (b ≡ true → c ≡ true) → (a || c) ≡ true
or_more true b c some more = refl
or_more false b c some more = more some

or_right : (a b : Bool) → b ≡ true → (a || b) ≡ true
or_right true b is = refl
or_right false b is = is

filter_awaits : (p : ℕ × Wait → Bool) (waiting : List (ℕ × Wait)) (number : ℕ) → is_awaited (filter p waiting) number ≡ true → is_awaited waiting number ≡ true
filter_awaits p [] number awaited = awaited
filter_awaits p (w ∷ ws) number awaited = by (p w) awaited (filter_awaits p ws number)
  where
    by : (b : Bool) → is_awaited (cond b (w ∷ filter p ws) (filter p ws)) number ≡ true → (is_awaited (filter p ws) number ≡ true → is_awaited ws number ≡ true) → is_awaited (w ∷ ws) number ≡ true
    by true some more = or_more (w.1.fid == number) (is_awaited (filter p ws) number) (is_awaited ws number) some more
    by false some more = or_right (w.1.fid == number) (is_awaited ws number) (more some)

-- reads that are flushed
pub covered_filter : (p : ℕ × Wait → Bool) (fids : List (ℕ × Fid)) (waiting : List (ℕ × Wait)) (places : List ℕ) → AreCovered fids waiting places → AreCovered fids (filter p waiting) places
covered_filter p fids waiting places = covered_fewer fids waiting (filter p waiting) places (filter_awaits p waiting)

remove_awaits : (waiting : List (ℕ × Wait)) (place number : ℕ) → is_awaited (remove waiting place) number ≡ true → is_awaited waiting number ≡ true
remove_awaits [] zero number awaited = cc awaited
remove_awaits [] (suc place) number awaited = cc awaited
remove_awaits (w ∷ ws) zero number awaited = or_right (w.1.fid == number) (is_awaited ws number) awaited
remove_awaits (w ∷ ws) (suc place) number awaited = or_more (w.1.fid == number) (is_awaited (remove ws place) number) (is_awaited ws number) awaited (remove_awaits ws place number)

-- a read that is answered
pub covered_remove : (fids : List (ℕ × Fid)) (waiting : List (ℕ × Wait)) (places : List ℕ) (place : ℕ) → AreCovered fids waiting places → AreCovered fids (remove waiting place) places
covered_remove fids waiting places place = covered_fewer fids waiting (remove waiting place) places (remove_awaits waiting place)

some_waits : (waiting : List (ℕ × Wait)) (number : ℕ) → is_awaited waiting number ≡ true → (length waiting == 0) ≡ false
some_waits [] number awaited = cc awaited
some_waits (w ∷ ws) number awaited = not_key (length (w ∷ ws)) 0 (λ none. omega (arith, none))

-- all places may go where none waits
pub covered_again : (fids : List (ℕ × Fid)) (waiting : List (ℕ × Wait)) (old new : List ℕ) → ((length waiting == 0) ≡ false → AreMore old new) → AreCovered fids waiting old → AreCovered fids waiting new
covered_again fids waiting old new more covered number fid awaited at placed =
    more (some_waits waiting number awaited) fid.node.serial (covered number fid awaited at placed)

push_awaits : (waiting : List (ℕ × Wait)) (read : ℕ × Wait) (number : ℕ) → is_awaited (waiting ++ read ∷ []) number ≡ true → (is_awaited waiting number ≡ true) ⊎ (read.1.fid ≡ number)
push_awaits [] read number awaited = inr (eqb-true read.1.fid number (first (read.1.fid == number) awaited))
  where
    first : (b : Bool) → (b || false) ≡ true → b ≡ true
    first true e = refl
    first false e = e
push_awaits (w ∷ ws) read number awaited = by (w.1.fid == number) awaited (push_awaits ws read number)
  where
    by : (b : Bool) → (b || is_awaited (ws ++ read ∷ []) number) ≡ true → (is_awaited (ws ++ read ∷ []) number ≡ true → (is_awaited ws number ≡ true) ⊎ (read.1.fid ≡ number))
        → ((b || is_awaited ws number) ≡ true) ⊎ (read.1.fid ≡ number)
    by true some more = inl refl
    by false some more = more some

-- a read more
pub covered_park : (fids : List (ℕ × Fid)) (waiting : List (ℕ × Wait)) (old new : List ℕ) (read : ℕ × Wait) (node : Node)
    → IfSome (lookup fids read.1.fid) (λ found. found.node ≡ node)
    → ((fid : Fid) → fid.node ≡ node → has_place fid ≡ true → is_among new fid.node.serial ≡ true)
    → ((length waiting == 0) ≡ false → AreMore old new) → AreCovered fids waiting old → AreCovered fids (waiting ++ read ∷ []) new
covered_park fids waiting old new read node of here more covered number fid awaited at placed =
    ⊎_elim
    (λ before. covered_again fids waiting old new more covered number fid before at placed)
    (λ same. (
    let own : lookup fids read.1.fid ≡ Some fid = ap (lookup fids) same ∙ at in
    here fid (subst (λ (o : Option Fid). IfSome o (λ found. found.node ≡ node)) own of) placed
    ))
    (push_awaits waiting read number awaited)

-- ---- reads that sleep on

none_here : (windows : List ℕ) (o : Option Fid) → ((fid : Fid) → o ≡ Some fid → has_place fid ≡ true → is_among windows fid.node.serial ≡ false) → option_map_or (is_at windows) o false ≡ false
none_here windows None apart = refl
none_here windows (Some fid) apart = by (has_place fid) (apart fid refl)
  where
    by : (b : Bool) → (b ≡ true → is_among windows fid.node.serial ≡ false) → (b && is_among windows fid.node.serial) ≡ false
    by true other = other refl
    by false other = refl

or_left : (a b : Bool) → a ≡ true → (a || b) ≡ true
or_left true b is = refl
or_left false b is = cc is

none_of_any : (a b : Bool) → (a || b) ≡ false → (a ≡ false) × (b ≡ false)
none_of_any true b is = (cc is, cc is)
none_of_any false b is = (refl, is)

-- no place is among the windows
pub not_among : (windows places : List ℕ) (n : ℕ) → list_any (λ place. is_among windows place) places ≡ false → is_among places n ≡ true → is_among windows n ≡ false
not_among windows [] n none among = cc among
not_among windows (place ∷ places) n none among =
    let both = none_of_any (is_among windows place) (list_any (λ p. is_among windows p) places) none in
    by (place == n) refl both.0 among (not_among windows places n both.1)
  where
    by : (b : Bool) → (place == n) ≡ b → is_among windows place ≡ false → (b || is_among places n) ≡ true → (is_among places n ≡ true → is_among windows n ≡ false) → is_among windows n ≡ false
    by true is first some more = ap (is_among windows) (sym (eqb-true place n is)) ∙ first
    by false is first some more = more some

none_each : (session : Session) (windows : List ℕ) (reads : List (ℕ × Wait))
    → ((number : ℕ) → is_awaited reads number ≡ true → option_map_or (is_at windows) (lookup session.fids number) false ≡ false)
    → list_any (λ entry. option_map_or (is_at windows) (lookup session.fids entry.1.fid) false) reads ≡ false
none_each session windows [] each = refl
none_each session windows (read ∷ reads) each =
    (λ j. each read.1.fid (or_left (read.1.fid == read.1.fid) (is_awaited reads read.1.fid) (eqb-same read.1.fid)) j
    || none_each session windows reads (λ number awaited. each number (or_right (read.1.fid == number) (is_awaited reads number) awaited)) j)

-- where no place is among the windows, no read wakes
pub not_woken : (session : Session) (places windows : List ℕ) → AreCovered session.fids session.waiting places → list_any (λ place. is_among windows place) places ≡ false
    → may_wake session windows ≡ false
not_woken session places windows covered none =
    none_each session windows session.waiting
    (λ number awaited. none_here windows (lookup session.fids number) (λ fid at placed. not_among windows places fid.node.serial none (covered number fid awaited at placed)))

pub none_waits : (session : Session) (windows : List ℕ) → (length session.waiting == 0) ≡ true → may_wake session windows ≡ false
none_waits session windows none = by session.waiting none
  where
    by : (reads : List (ℕ × Wait)) → (length reads == 0) ≡ true → list_any (λ entry. option_map_or (is_at windows) (lookup session.fids entry.1.fid) false) reads ≡ false
    by [] is = refl
    by (read ∷ reads) is = absurd (false≢true (sym (not_key (length (read ∷ reads)) 0 (λ none. omega (arith, none))) ∙ is))

-- ---- files at no window

late_other : (kind : Kind) → gives_late kind ≡ true → is_kind kinds.Refresh kind ≡ false
unfolding row
late_other kinds.Refresh late = cc late
late_other _ late = refl

-- ---- a place more

push_keeps : (place : ℕ) (places : List ℕ) → AreMore places (places ++ place ∷ [])
push_keeps place [] n among = cc among
push_keeps place (first ∷ places) n among = or_more (first == n) (is_among places n) (is_among (places ++ place ∷ []) n) among (push_keeps place places n)

push_here : (place : ℕ) (places : List ℕ) → is_among (places ++ place ∷ []) place ≡ true
push_here place [] = or_left (place == place) false (eqb-same place)
push_here place (first ∷ places) = or_right (first == place) (is_among (places ++ place ∷ []) place) (push_here place places)

pub pushed_more : {E : Type 0} (result : Result (Unit {0}) E) (old new : List ℕ) (place : ℕ) → OnOk result (new ≡ old ++ place ∷ []) → OnErr result (new ≡ old) → AreMore old new
pushed_more (Ok done) old new place ok err n among = ap (λ (ns : List ℕ). is_among ns n) ok ∙ push_keeps place old n among
pushed_more (Err e) old new place ok err n among = ap (λ (ns : List ℕ). is_among ns n) err ∙ among

pub pushed_here : {E : Type 0} (result : Result (Unit {0}) E) (old new : List ℕ) (place : ℕ) → OnOk result (new ≡ old ++ place ∷ []) → OnOk result (is_among new place ≡ true)
pushed_here (Ok done) old new place ok = ap (λ (ns : List ℕ). is_among ns place) ok ∙ push_here place old
pushed_here (Err e) old new place ok = tt

-- a read that has a place but no serial is none of `refresh`
pub placed_late : (node : Node) → node.serial ≡ 0 → (not (node.serial == 0) || gives_late node.kind) ≡ true → is_kind kinds.Refresh node.kind ≡ false
placed_late node none placed = late_other node.kind (ap (λ (n : ℕ). not (n == 0) || gives_late node.kind) (sym none) ∙ placed)
