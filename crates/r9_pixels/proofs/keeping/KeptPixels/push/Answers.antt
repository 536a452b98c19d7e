use Rattle.std.proofs.Common.{◌≡◌, ◌∙◌, ℕ, ◌++◌, [], ◌∷◌, None, refl, arith, sym, subst, ap, ◌<◌, ◌^◌}
use Rattle.std.specs.Prelude.{is_some, option_and_then, option_map}
use Rattle.r9_geom.specs.declared.Point.{Point}
use Rattle.model_pixel.specs.Channels.{depth}
use Rattle.r9_cells.specs.Cells.{all_rows, cell_pixel}
use Rattle.r9_cells.specs.Rows.{cell_at}
use Rattle.r9_pixels.specs.Owns.{form_in, moment_in, own_at, IsTabled}
use Rattle.r9_pixels.proofs.Coming.{cell_more, more_tabled, own_more}
use Rattle.r9_pixels.proofs.Telling.{kept_of, kept_same, pixel_same, place_of, place_same}
use Rattle.r9_pixels.proofs.Few.{few_same}
use Rattle.r9_pixels.proofs.keeping.KeptPixels.push.Goals as goal
use Rattle.r9_pixels.proofs.keeping.KeptPixels.push.Goals.{After-push_reserved}

owns : (c : After-push_reserved) → c.push_reserved.new.self.items ≡ c.args.self.now.owns.items ++ (None ∷ [])
owns c = c.push_reserved.ensures.items ∙ ap (λ items. items ++ (None ∷ [])) c.reserve.ensures.items

own_same : (c : After-push_reserved) (n : ℕ) → own_at c.push_reserved.new.self.items n ≡ own_at c.args.self.now.owns.items n
own_same c n = ap (λ items. own_at items n) (owns c) ∙ own_more c.args.self.now.owns.items n

cells : (c : After-push_reserved) (j l : ℕ) → cell_at (all_rows c.push.new.self) j l ≡ cell_at (all_rows c.args.self.now.cells) j l
cells c j l = ap (λ rows. cell_at rows j l) c.in_ok-push.ensures.rows ∙ cell_more (all_rows c.args.self.now.cells) j l

pixels : (c : After-push_reserved) (j l : ℕ) (q : Point) → cell_pixel c.push.new.self j l q ≡ cell_pixel c.args.self.now.cells j l q
pixels c = pixel_same c.args.self.now.cells c.push.new.self (cells c) c.push.ensures.store

pub invariant_of-self-2 : goal.invariant_of-self-2
invariant_of-self-2 c =
    let at = (goal.at.invariant_of-self-2 c).After-push_reserved in
    record {
      tabled =
          subst (λ items. IsTabled items (all_rows c.push.new.self)) (sym (owns at))
          (subst (IsTabled (c.args.self.now.owns.items ++ (None ∷ []))) (sym c.in_ok-push.ensures.rows) (more_tabled c.args.self.now.owns.items (all_rows c.args.self.now.cells) c.args.self.now.tabled));
      bounded = λ j l q extent is.
          subst (λ (raw : ℕ). raw < 2 ^ depth extent.chan) (sym (pixels at j l q)) (c.args.self.now.bounded j l q extent (sym (own_same at j) ∙ is));
      few = few_same c.args.self.now.owns.items c.push_reserved.new.self.items c.args.self.now.writes.sum c.args.self.now.writes.sum (omega arith) (λ j watched is. sym (own_same at j) ∙ is) c.args.self.now.few;
    }

pub returns-clause-kept : goal.returns-clause-kept
returns-clause-kept c =
    let at = (goal.at.returns-clause-kept c).After-push_reserved in
    let old = c.args.self.now.cells in
    let new = c.push.new.self in
    record {
      kept = λ j place. (ap (kept_of new place.image place.at) (own_same at place.image) ∙ kept_same old new place.image place.at (own_at c.args.self.now.owns.items place.image) (pixels at place.image)) j;
      has = λ j place. (ap (place_of new place.image place.at) (own_same at place.image) ∙ place_same old new place.image place.at (own_at c.args.self.now.owns.items place.image) (λ l. ap is_some (cells at place.image l))) j;
      forms = λ j n. ap (option_map form_in) (own_same at n) j;
      moment = λ j n. ap (option_and_then moment_in) (own_same at n) j;
      writes = refl;
    }
