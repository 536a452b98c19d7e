-- What a covering source leaves of its destination.
use Rattle.std.proofs.Common.{◌≡◌, ℕ, ◌+◌, ◌-◌, min, true, ◌||◌, ◌&&◌, refl, sym, ◌∙◌, subst, arith, inl, inr}
use Rattle.std.specs.Prelude.{◌==◌}
use Rattle.std.proofs.lemmas.Bool.{eqb-true, or_cases, and_parts}
use Rattle.model_pixel.specs.Channels.{Colour}
use Rattle.model_pixel.specs.Composition.{mul, composed, comp}
use Rattle.r9_mem.specs.Covering.{covers}

nothing_left : (s d : ℕ) → min 255 (s + mul d (255 - 255)) ≡ min 255 s
nothing_left s d = omega arith

-- with the masked alpha of a full source through a full mask
composed_covers : (op s alpha m d da e ea : ℕ) → covers op alpha m ≡ true → composed op s (mul alpha m) d da ≡ composed op s (mul alpha m) e ea
unfolding composed
composed_covers op s alpha m d da e ea h =
    elim (or_cases (op == 0) ((op == 10) || ((op == 11) && ((alpha == 255) && (m == 255)))) h) [
      | inl clear ↦ subst (λ op. composed op s (mul alpha m) d da ≡ composed op s (mul alpha m) e ea) (sym (eqb-true op 0 clear)) refl
      | inr more ↦ elim (or_cases (op == 10) ((op == 11) && ((alpha == 255) && (m == 255))) more) [
        | inl source ↦ subst (λ op. composed op s (mul alpha m) d da ≡ composed op s (mul alpha m) e ea) (sym (eqb-true op 10 source)) refl
        | inr over ↦
            let parts = and_parts (op == 11) ((alpha == 255) && (m == 255)) over in
            let full = and_parts (alpha == 255) (m == 255) parts.1 in
            let opaque : composed 11 s (mul 255 255) d da ≡ composed 11 s (mul 255 255) e ea = nothing_left s d ∙ sym (nothing_left s e) in
            let masked : mul 255 255 ≡ mul alpha m = λ i. mul (sym (eqb-true alpha 255 full.0) i) (sym (eqb-true m 255 full.1) i) in
            subst (λ op. composed op s (mul alpha m) d da ≡ composed op s (mul alpha m) e ea) (sym (eqb-true op 11 parts.0))
            (subst (λ sa. composed 11 s sa d da ≡ composed 11 s sa e ea) masked opaque)
      ]
    ]

pub comp_covers : (op : ℕ) (s : Colour) (m : ℕ) (d e : Colour) → covers op s.a m ≡ true → comp op s m d ≡ comp op s m e
unfolding comp
comp_covers op s m d e h = λ i. record {
  r = composed_covers op (mul s.r m) s.a m d.r d.a e.r e.a h i;
  g = composed_covers op (mul s.g m) s.a m d.g d.a e.g e.a h i;
  b = composed_covers op (mul s.b m) s.a m d.b d.a e.b e.a h i;
  a = composed_covers op (mul s.a m) s.a m d.a d.a e.a e.a h i;
}
