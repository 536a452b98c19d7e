use Rattle.std.proofs.Common.{◌≡◌, ◌∙◌, ◌<◌, ◌≤◌, Bool, true, false, length, None, refl, sym, ap, arith, ⊎_elim}
use Rattle.std.specs.Prelude.{◌==◌, ◌&&◌, ◌||◌, not, nat_lt, is_some, if◌then◌else◌}
use Rattle.std.proofs.lemmas.Bool.{cases_lt, false≢true}
use Rattle.std.proofs.lemmas.Bool.Decides.{Decides-eqb, Decides-ltb}
use Rattle.std.proofs.lemmas.List.{get_or_past}
use Rattle.r9_cells.specs.Rows.{cell_at, row_at}
use Rattle.r9_cells.specs.Cells.{all_rows, cell_pixel}
use Rattle.r9_cells.proofs.Changed.{row_long}
use Rattle.r9_cells.proofs.Steps.{below_more, kept_twice}
use Rattle.r9_cells.proofs.table.Cells.give_all.Goals as goal

all_more : (here before same some : Bool) → (not ((here && same) && true) && (not (here && before) && some)) ≡ (not (here && (before || same)) && some)
all_more false before same some = refl
all_more true true true some = refl
all_more true true false some = refl
all_more true false true some = refl
all_more true false false some = refl

pub loop-k-preserved : goal.loop-k-preserved
loop-k-preserved c =
    let k = c.loop-k.k in
    record {
      pixels = λ j n p.
          let now = is_some (cell_at (all_rows c.give_unless.new.self) j n) in
          let mid = is_some (cell_at (all_rows c.loop-k.self) j n) in
          let x = cell_pixel c.args.self.now j n p in
          let given = c.give_unless.ensures.given j n in
          c.give_unless.ensures.pixels j n p
          ∙ ap (λ v. if now then v else 0) (c.loop-k.invariant.pixels j n p)
          ∙ ap (λ b. if b then (if mid then x else 0) else 0) given
          ∙ kept_twice (not (((j == c.args.i) && (n == k)) && true)) mid x
          ∙ sym (ap (λ b. if b then x else 0) given);
      given = λ j n.
          let was = is_some (cell_at (all_rows c.args.self.now) j n) in
          c.give_unless.ensures.given j n
          ∙ ap (λ b. not (((j == c.args.i) && (n == k)) && true) && b) (c.loop-k.invariant.given j n)
          ∙ all_more (j == c.args.i) (nat_lt n k) (n == k) was
          ∙ ap (λ b. not ((j == c.args.i) && b) && was) (sym (below_more n k));
      rows = c.give_unless.ensures.rows ∙ c.loop-k.invariant.rows;
      lengths = λ j. c.give_unless.ensures.lengths j ∙ c.loop-k.invariant.lengths j;
    }

-- past the end of the row there is no tile
past_end : (here below some : Bool) → (here ≡ true → below ≡ false → some ≡ false) → (not (here && below) && some) ≡ (not here && some)
past_end false below some e = refl
past_end true true some e = refl
past_end true false some e = e refl refl

pub returns-clause-given : goal.returns-clause-given
returns-clause-given c j n =
    let rows = all_rows c.args.self.now in
    let row = c.index.result.now in
    let long = row_long c.args.self.now.rows.items c.args.i row c.requires.image c.index.ensures in
    let end : length (row_at rows c.args.i) ≤ c.loop-k.k = omega (arith, long, c.len-cells.ensures, row.cells.ok.0, c.loop-k-test.false) in
    c.loop-k.invariant.given j n
    ∙ past_end (j == c.args.i) (nat_lt n c.loop-k.k) (is_some (cell_at rows j n))
    (λ here not_below.
    let same = (Decides-eqb j c.args.i).0 here in
    ⊎_elim
    (λ (below : n < c.loop-k.k). absurd (false≢true (sym not_below ∙ (Decides-ltb n c.loop-k.k).1 below)))
    (λ (past : c.loop-k.k ≤ n). ap (λ m. is_some (cell_at rows m n)) same ∙ ap is_some (get_or_past (row_at rows c.args.i) n None (omega (arith, end, past))))
    (cases_lt n c.loop-k.k))
