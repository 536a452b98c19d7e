use Rattle.std.proofs.Common.{◌≡◌, ◌∙◌, ℕ, replicate, set, Some, None, sym, ap}
use Rattle.std.specs.Prelude.{option_and_then, option_map}
use Rattle.r9_geom.specs.declared.Point.{Point}
use Rattle.r9_cells.specs.Cells.{all_rows, cell_pixel}
use Rattle.r9_cells.specs.Rows.{cell_at}
use Rattle.r9_pixels.specs.declared.own.Own.TheVariants.{Hidden}
use Rattle.r9_pixels.specs.Owns.{form_in, moment_in, own_at}
use Rattle.r9_pixels.proofs.Coming.{made_bounded, made_cells, made_tabled}
use Rattle.r9_pixels.proofs.Owning.{form_none, none_window, set_each, set_still}
use Rattle.r9_pixels.proofs.Telling.{hidden_kept, hidden_place, pixel_same}
use Rattle.r9_pixels.proofs.Few.{few_window}
use Rattle.r9_pixels.proofs.keeping.KeptPixels.insert_hidden.Goals as goal
use Rattle.r9_pixels.proofs.keeping.KeptPixels.insert_hidden.Goals.{After-index_mut}

free : (c : After-index_mut) → own_at c.args.self.now.owns.items c.args.i ≡ None
free c = form_none (own_at c.args.self.now.owns.items c.args.i) c.requires.free

rows : (c : After-index_mut) → all_rows c.make.new.self ≡ set (all_rows c.args.self.now.cells) c.args.i (replicate c.cell_count.result None)
rows c = c.in_ok-make.ensures.rows

cells : (c : After-index_mut) → (j l : ℕ) → cell_at (all_rows c.make.new.self) j l ≡ cell_at (all_rows c.args.self.now.cells) j l
cells c = made_cells c.args.self.now.owns.items c.args.i c.cell_count.result c.args.self.now.cells c.make.new.self c.requires.room (free c) (rows c) c.args.self.now.tabled

none : (c : After-index_mut) → (l : ℕ) → cell_at (all_rows c.make.new.self) c.args.i l ≡ None
none c l = cells c c.args.i l ∙ c.args.self.now.tabled.others c.args.i l (none_window (own_at c.args.self.now.owns.items c.args.i) (free c))

pixels : (c : After-index_mut) → (j l : ℕ) (q : Point) → cell_pixel c.make.new.self j l q ≡ cell_pixel c.args.self.now.cells j l q
pixels c = pixel_same c.args.self.now.cells c.make.new.self (cells c) c.make.ensures.store

pub invariant_of-self-2 : goal.invariant_of-self-2
invariant_of-self-2 c =
    let at = (goal.at.invariant_of-self-2 c).After-index_mut in
    record {
      tabled = made_tabled c.args.self.now.owns.items c.args.i c.cell_count.result c.args.extent c.args.self.now.cells c.make.new.self c.requires.room (free at) (rows at) c.requires.near c.requires.ordered c.cell_count.ensures.value c.args.self.now.tabled;
      bounded = made_bounded c.args.self.now.owns.items c.args.i c.args.extent c.args.self.now.cells c.make.new.self c.requires.room (none at) (pixels at) c.args.self.now.bounded;
      few = few_window c.args.self.now.owns.items c.args.i c.args.extent c.args.self.now.writes.sum c.requires.room c.args.self.now.few;
    }

pub returns-clause-kept : goal.returns-clause-kept
returns-clause-kept c =
    let at = (goal.at.returns-clause-kept c).After-index_mut in
    λ j place. hidden_kept c.args.self.now.owns.items c.args.i c.args.extent c.args.self.now.cells c.make.new.self c.requires.room (free at) (none at) (pixels at) place.image place.at j

pub returns-clause-has : goal.returns-clause-has
returns-clause-has c =
    let at = (goal.at.returns-clause-has c).After-index_mut in
    λ j place. hidden_place c.args.self.now.owns.items c.args.i c.args.extent c.args.self.now.cells c.make.new.self c.requires.room (free at) (none at) (cells at) place.image place.at j

pub returns-clause-forms : goal.returns-clause-forms
returns-clause-forms c = λ j n. set_each c.args.self.now.owns.items c.args.i (Some (Hidden c.args.extent)) (option_map form_in) c.requires.room n j

pub returns-clause-moment : goal.returns-clause-moment
returns-clause-moment c =
    let at = (goal.at.returns-clause-moment c).After-index_mut in
    λ j n. set_still c.args.self.now.owns.items c.args.i (Some (Hidden c.args.extent)) (option_and_then moment_in) c.requires.room (sym (ap (option_and_then moment_in) (free at))) n j
