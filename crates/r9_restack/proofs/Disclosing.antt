-- A window that moves from where it is not seen: what shows of it then comes from where it was kept with it.
use Rattle.std.proofs.Common.{◌≡◌, ◌≢◌, ◌∙◌, ℕ, Bool, true, false, List, Some, eq-eqb, refl, sym, ap}
use Rattle.std.proofs.lemmas.Bool.{true≢false}
use Rattle.r9_geom.specs.declared.Point.{Point}
use Rattle.r9_geom.specs.Geometry.{holds}
use Rattle.model_forest.specs.declared.Window.{Window}
use Rattle.model_forest.specs.World.{World, image_at}
use Rattle.model_forest.specs.View.{inward, top_window}
use Rattle.model_kept.specs.Keeping.{keeping, own, Place}
use Rattle.model_kept.specs.Restack.{with_list, with_own, IsRestacked}
use Rattle.r9_restack.specs.Changing.{IsChanged, IsDisclosing, IsGiven, StaysTop}
use Rattle.r9_restack.proofs.Changes.{changed-all, inside_w, stood_new, unseen-hidden, unseen-kept, IsChanging}
use Rattle.r9_restack.proofs.Concealing.{change_of, told_of}
use Rattle.r9_restack.proofs.Orders.{not_itself, top_is, unshown-own}
use Rattle.r9_restack.proofs.Placed.{own_under}

-- what is told of image p is told of that window, of which those pixels are given that are kept with it
pub disclosed : (world : World) (p : ℕ) (ws : List Window) (given fill : Point → ℕ) (before now : Place → ℕ) (done : Point → Bool) → IsChanging world p ws p → IsDisclosing world p ws → ((q : Point) → done q ≡ true → holds (image_at world p).r q ≡ true) → ((q : Point) → holds (image_at world p).r q ≡ true → done q ≡ false → StaysTop world p ws p q) → IsChanged world p ws p given fill before now done → IsRestacked world (with_list world p ws) p before now fill
disclosed world p ws given fill before now done s c inside same m =
    changed-all world p ws w pixels fill besides now before now done of_window c.above inside stays moved with_w
  where
    w : ℕ
    w = c.window

    pixels : Point → ℕ
    pixels x = before (own w x)

    besides : Place → ℕ
    besides = with_own w (λ x. now (own w x)) before

    of_window : IsChanging world p ws w
    of_window = change_of world p ws w s c.others

    kept_own : (x : Point) → holds (image_at world w).r x ≡ true → keeping world w x ≡ own w x
    kept_own x h = unshown-own world s.standing p w x c.above (c.unseen.before x h)

    not_top : (q : Point) (v : Window) → holds (image_at world p).r q ≡ true → StaysTop world p ws p q → top_window ws q ≡ Some v → v.image ≢ w
    not_top q v h st top is =
        true≢false (sym (top_is ws w q v top ∙ eq-eqb v.image w is) ∙ st.tops w ∙ unseen-hidden world p ws p s w c.unseen q h)

    stays : (q : Point) → holds (image_at world p).r q ≡ true → done q ≡ false → StaysTop world p ws w q
    stays q h none =
        let st = same q h none in record { tops = st.tops; apart = λ v top. not_top q v h st top; bare = st.bare }

    moved : IsChanged world p ws w pixels fill besides now done
    moved =
        told_of world p ws w given pixels fill before now done s c.above
        (λ q v d top is.
        m.covered q v d top (not_itself world s.standing p v.image (stood_new world p ws p s q v top))
        ∙ ap (λ n. before (keeping world n (inward world v q))) is
        ∙ ap before (kept_own (inward world v q) (inside_w world p ws w of_window.change q v top is)))
        m

    with_w : IsGiven world p ws w pixels besides now before now
    with_w = record {
      was_same = λ place apart. sym (own_under w (λ x. now (own w x)) before place apart);
      pixels = λ q v h top is. ap before (kept_own (inward world v q) (inside_w world p ws w of_window.change q v top is));
      now_same = λ place apart. refl;
      hidden = λ x h none. unseen-kept world p ws p given fill before now done s m w x (not_itself world s.standing p w c.above) c.above c.unseen h;
    }
