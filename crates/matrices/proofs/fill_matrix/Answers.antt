use Prim.Native.Nat.{ℕ, zero, suc, ◌+◌, ◌*◌, ◌<◌}
use native.Mathlib.Omega.{arith}
use mathlib.Core.Path.{◌≡◌, refl, ◌∙◌}
use mathlib.Core.List.{List}
use lib.ListN.{length, get_or, set, length-set}
use lib.Seq.{get_or-set_same, get_or-set_other}
use Rattle.bitstream.specs.Bits.{number}
use Rattle.bitstream.specs.Lists.{tabulated}
use Rattle.bitstream.proofs.Lists.{tabulated_is}
use Rattle.bitstream.proofs.Numbers.{number_lt}
use Rattle.matrix_values.specs.Values.{interpolated, minimum, scaled}
use Rattle.matrix_values.specs.Weights.{weighed, Weighs}
use Rattle.matrices.specs.Matrix.{value_at}
use Rattle.quant_ranges.specs.declared.Range.{Range}
use Rattle.matrix_values.specs.declared.Weights.{Weights}
use Rattle.matrices.proofs.Values.{value_dc, value_ac}
use Rattle.matrices.proofs.fill_matrix.Goals as goal

-- the value at the coefficient c, by one scale and least value
abbrev by : List ℕ → (first second : ℕ) → Weights → (low scale c : ℕ) → ℕ
by p first second w low scale c = scaled low scale (weighed w (number p (first + c * 8) 8) (number p (second + c * 8) 8))

-- the value as it is to be
abbrev rule : List ℕ → (first second : ℕ) → Range → (qti qi dc ac c : ℕ) → ℕ
rule p first second r qti qi dc ac c = value_at qti dc ac r qi c (number p (first + c * 8) 8) (number p (second + c * 8) 8)

-- the first anew, by the scale of DC
finish : (p : List ℕ) (first second : ℕ) (r : Range) (qti qi dc ac : ℕ) (w : Weights) → Weighs r qi w → (low low-dc : ℕ) → low ≡ minimum qti 1 → low-dc ≡ minimum qti 0
    → (out : List ℕ) → length out ≡ 64 → ((j : ℕ) → j < 64 → get_or out j 0 ≡ by p first second w low ac j) → (x : ℕ) → x ≡ by p first second w low-dc dc 0
    → set out 0 x ≡ tabulated (rule p first second r qti qi dc ac) 0 64
finish p first second r qti qi dc ac w is low low-dc e f out len h x v = tabulated_is (rule p first second r qti qi dc ac) 64 (set out 0 x) (simp length-set len) at
  where
    same : (j : ℕ) → weighed w (number p (first + j * 8) 8) (number p (second + j * 8) 8) ≡ interpolated r qi (number p (first + j * 8) 8) (number p (second + j * 8) 8)
    same j = is _ _ (number_lt p (first + j * 8) 8) (number_lt p (second + j * 8) 8)

    at : (j : ℕ) → j < 64 → get_or (set out 0 x) j 0 ≡ rule p first second r qti qi dc ac j
    at zero l = get_or-set_same out 0 x 0 (omega (arith, len)) ∙ v ∙ value_dc qti dc ac r qi 0 _ _ low-dc _ (same 0) f refl
    at (suc j) l = get_or-set_other out 0 (suc j) x 0 (λ z. omega (arith, z)) ∙ h (suc j) l ∙ value_ac qti dc ac r qi (suc j) _ _ low _ (same (suc j)) e (λ z. omega (arith, z))

pub returns : goal.returns
returns c = finish c.args.packet.now c.args.first c.args.second c.args.range c.args.qti c.args.qi c.args.dc c.args.ac c.weigh-weights.result c.weigh-weights.ensures.1 c.least-low.result c.least-low_dc.result c.least-low.ensures.0 c.least-low_dc.ensures.0
    c.loop-c.out c.loop-c.invariant.1 (λ j h. c.loop-c.invariant.2 j (omega (arith, c.loop-c-test.false))) c.value_at-2.result c.value_at-2.ensures
