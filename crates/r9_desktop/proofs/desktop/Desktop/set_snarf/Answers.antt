use Rattle.std.proofs.Common.{rules, ◌≡◌, None, sym, ap, ◌∙◌}
use Rattle.model_text.specs.text.Map.{lookup}
use Rattle.std.specs.Prelude.{ℕ, List}
use Rattle.model_text.proofs.map.Keys.{with-written}
use Rattle.model_world.specs.Desktop as model
use Rattle.r9_desktop.specs.World.{desktop_of, parts_of}
use Rattle.r9_desktop.proofs.Maps.{with-absent}
use Rattle.r9_desktop.proofs.desktop.Desktop.set_snarf.Goals as goal

pub returns-in_default-clause-snarf : goal.returns-in_default-clause-snarf
unfolding desktop_of
returns-in_default-clause-snarf c =
    let before = c.args.self.now.snarfs.entries in
    let none : lookup before c.args.host ≡ None = search rules in
    let kept : c.get_mut.follows.lender-at-none.entries ≡ before = search rules in
    let desktop : model.Desktop = parts_of c.args.self.now in
    ap (λ (es : List (ℕ × List ℕ)). (let left : model.Desktop = record desktop { snarfs = es } in left)) (kept ∙ sym (with-absent before c.args.host c.args.contents none))

pub returns-in-Some-clause-snarf : goal.returns-in-Some-clause-snarf
unfolding desktop_of
returns-in-Some-clause-snarf c =
    let before = c.args.self.now.snarfs.entries in
    let desktop : model.Desktop = parts_of c.args.self.now in
    ap (λ (es : List (ℕ × List ℕ)). (let left : model.Desktop = record desktop { snarfs = es } in left))
    (with-written before _ c.args.host c.args.contents (c.get_mut.follows.holds _).0)
