use Rattle.std.proofs.Common.{rules, ◌≡◌, ◌∙◌, ℕ, ◌<◌, false, length, List, Option, Some, sym, ap, subst, arith}
use Rattle.std.specs.Prelude.{option_and_then, option_map, slice_set}
use Rattle.r9_cells.specs.Cells.{all_rows}
use Rattle.r9_locate.specs.locate.Forms.{Form}
use Rattle.r9_pixels.specs.declared.own.Own.{Own}
use Rattle.r9_pixels.specs.declared.own.Own.TheVariants.{Whole}
use Rattle.r9_pixels.specs.Owns.{form_in, moment_in, own_at, AreFew, IsTabled, IsWithinBits}
use Rattle.r9_pixels.proofs.Owning.{hidden_set, no_window, own_is, own_there, set_each, tabled_set, whole_of, IsNoWindow}
use Rattle.r9_pixels.proofs.Telling.{kept_of, place_of}
use Rattle.r9_pixels.proofs.Few.{few_plane}
use Rattle.r9_pixels.proofs.keeping.KeptPixels.replace_whole.Goals as goal
use Rattle.r9_pixels.proofs.keeping.KeptPixels.replace_whole.Goals.{In-Some-Whole}

-- an image with a plane is one of the table, and no window
there : (owns : List (Option Own)) (i : ℕ) → option_map (λ (form : Form). form.is_window) (option_map form_in (own_at owns i)) ≡ Some false → i < length owns
there owns i whole = let found = whole_of (own_at owns i) whole in own_there owns i (Whole found.0) found.1

none : (owns : List (Option Own)) (i : ℕ) → option_map (λ (form : Form). form.is_window) (option_map form_in (own_at owns i)) ≡ Some false → IsNoWindow (own_at owns i)
none owns i whole = let found = whole_of (own_at owns i) whole in subst IsNoWindow (sym found.1) (no_window found.0)

pub invariant_of-self : goal.invariant_of-self
invariant_of-self c =
    let owns = c.args.self.now.owns.items in
    let new : Option Own = Some (Whole c.args.watched) in
    let below = there owns c.args.i c.requires.whole in
    let writes = c.args.self.now.writes.sum in
    record {
      tabled =
          subst (λ (slot : Option Own). IsTabled (slice_set owns c.args.i slot) (all_rows c.args.self.now.cells)) (sym c.replace.ensures.after)
          (tabled_set owns c.args.i new (all_rows c.args.self.now.cells) below (none owns c.args.i c.requires.whole) (no_window c.args.watched) c.args.self.now.tabled);
      bounded =
          subst (λ (slot : Option Own). IsWithinBits (slice_set owns c.args.i slot) c.args.self.now.cells) (sym c.replace.ensures.after)
          (λ j l q extent is. c.args.self.now.bounded j l q extent (hidden_set owns c.args.i j new extent below (no_window c.args.watched) is).1);
      few =
          subst (λ (slot : Option Own). AreFew writes (slice_set owns c.args.i slot)) (sym c.replace.ensures.after)
          (few_plane owns c.args.i c.args.watched writes writes below (omega arith) c.requires.few c.args.self.now.few);
    }

pub returns-clause-kept : goal.returns-clause-kept
returns-clause-kept c =
    let owns = c.args.self.now.owns.items in
    (λ j place. kept_of c.args.self.now.cells place.image place.at (own_at (slice_set owns c.args.i (c.replace.ensures.after j)) place.image))
    ∙ (λ j place. set_each owns c.args.i (Some (Whole c.args.watched)) (kept_of c.args.self.now.cells place.image place.at) (there owns c.args.i c.requires.whole) place.image j)

pub returns-clause-has : goal.returns-clause-has
returns-clause-has c =
    let owns = c.args.self.now.owns.items in
    (λ j place. place_of c.args.self.now.cells place.image place.at (own_at (slice_set owns c.args.i (c.replace.ensures.after j)) place.image))
    ∙ (λ j place. set_each owns c.args.i (Some (Whole c.args.watched)) (place_of c.args.self.now.cells place.image place.at) (there owns c.args.i c.requires.whole) place.image j)

pub returns-clause-forms : goal.returns-clause-forms
returns-clause-forms c =
    let owns = c.args.self.now.owns.items in
    (λ j n. option_map form_in (own_at (slice_set owns c.args.i (c.replace.ensures.after j)) n))
    ∙ (λ j n. set_each owns c.args.i (Some (Whole c.args.watched)) (option_map form_in) (there owns c.args.i c.requires.whole) n j)

pub returns-clause-moment : goal.returns-clause-moment
returns-clause-moment c =
    let owns = c.args.self.now.owns.items in
    (λ j n. option_and_then moment_in (own_at (slice_set owns c.args.i (c.replace.ensures.after j)) n))
    ∙ (λ j n. set_each owns c.args.i (Some (Whole c.args.watched)) (option_and_then moment_in) (there owns c.args.i c.requires.whole) n j)

-- the plane that it had
had : (c : In-Some-Whole) → c.args.i < length c.args.self.now.owns.items → own_at c.args.self.now.owns.items c.args.i ≡ Some (Whole c.in-Some-Whole.had)
had c below =
    let owns = c.args.self.now.owns.items in
    let kept : c.in-Some-Whole.field-0 ≡ Whole c.in-Some-Whole.had = search rules in
    own_is owns c.args.i c.index_mut.result.now below c.index_mut.ensures.value ∙ sym c.replace.ensures.value ∙ c.in-Some-Whole.is ∙ ap (λ (own : Own). Some own) kept

pub returns-clause-form : goal.returns-clause-form
returns-clause-form c =
    let at = (goal.at.returns-clause-form c).In-Some-Whole in
    ap (option_map form_in) (had at (there c.args.self.now.owns.items c.args.i c.requires.whole))

pub returns-clause-had_moment : goal.returns-clause-had_moment
returns-clause-had_moment c =
    let at = (goal.at.returns-clause-had_moment c).In-Some-Whole in
    ap (option_and_then moment_in) (had at (there c.args.self.now.owns.items c.args.i c.requires.whole))

pub returns-clause-had_few : goal.returns-clause-had_few
returns-clause-had_few c =
    let at = (goal.at.returns-clause-had_few c).In-Some-Whole in
    c.args.self.now.few c.args.i c.in-Some-Whole.had (had at (there c.args.self.now.owns.items c.args.i c.requires.whole))
