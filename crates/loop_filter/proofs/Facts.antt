-- Where block (x, y) of a plane lies, and the step at it. Assumes nothing.
use mathlib.Core.Path.{◌≡◌, refl, sym, ap, ◌∙◌}
use mathlib.Core.Bool.{Bool, true, false, not, cond}
use mathlib.Core.List.{List}
use Prim.Native.Nat.{ℕ, zero, suc, ◌+◌, ◌*◌, ◌≤◌, ◌<◌}
use native.Mathlib.Nat.{mul-le-mul_left, mul-le-mul_right}
use native.Mathlib.Omega.{arith}
use lib.Dec.{ltb}
use Rattle.geometry.specs.Sample.{sample_in}
use Rattle.ways.specs.Loops.{up_to}
use Rattle.ways.specs.Ways.{edges_at}
use Rattle.edge_filter.specs.Filter.{filtered}
use Rattle.block_edges.specs.Flags.{coded_at}
use Rattle.loop_filter.specs.Plane.{NoneCoded, block_step}

-- ---- block (x, y) of u rows of a blocks: what omega needs of the products y a and u a
pub record Room (a u y x : ℕ) : Type 0 where
  pub column : x < a
  pub rows : y * a + a ≤ u * a
  pub tall : y ≤ y * a
  pub lower : 0 < y → a ≤ y * a
  pub over : y + 1 < u → y * a + a + a ≤ u * a

pub room : (a u y x : ℕ) → x < a → y < u → Room a u y x
room a u y x hx hy = record {
  column = hx;
  rows = (let m : suc y * a ≤ u * a = mul-le-mul_right a hy in omega arith);
  tall = (let m : y * 1 ≤ y * a = mul-le-mul_left y (omega arith) in omega arith);
  lower = λ h. let m : 1 * a ≤ y * a = mul-le-mul_right a h in omega arith;
  over = λ h. let m : suc (y + 1) * a ≤ u * a = mul-le-mul_right a h in omega arith;
}

-- ---- the step at a block
module _ (records : List ℕ) (L first a u y x : ℕ) (s : List ℕ) where
  pub uncoded_step : coded_at records (first + (y * a + x)) ≡ false → s ≡ block_step records L first a u y x s
  unfolding block_step
  uncoded_step e = rw e

  pub coded_step : coded_at records (first + (y * a + x)) ≡ true → (right upper : Bool)
      → right ≡ cond (ltb (x + 1) a) (not (coded_at records (first + (y * a + x) + 1))) false
      → upper ≡ cond (ltb (y + 1) u) (not (coded_at records (first + (y * a + x) + a))) false
      → edges_at (filtered L) (64 * first + (8 * y * (8 * a) + 8 * x)) (8 * a) (ltb 0 x) (ltb 0 y) right upper s ≡ block_step records L first a u y x s
  unfolding block_step sample_in
  coded_step e right upper er eu =
      let c : 64 * first + (8 * y * (8 * a) + 8 * x) ≡ 64 * first + sample_in a x y 0 0 = omega arith in
      rw e (λ i. edges_at (filtered L) (c i) (8 * a) (ltb 0 x) (ltb 0 y) (er i) (eu i) s)

-- ---- blocks before the first coded one: nothing is done at them
pub none_steps : (records : List ℕ) (L first a u y : ℕ) (s : List ℕ) (m : ℕ) → NoneCoded records (first + y * a) m → s ≡ up_to m (block_step records L first a u y) s
unfolding up_to
none_steps records L first a u y s zero h = refl
none_steps records L first a u y s (suc m) h =
    let e : first + y * a + m ≡ first + (y * a + m) = omega arith in
    none_steps records L first a u y s m (λ k l. h k (omega arith))
    ∙ uncoded_step records L first a u y m (up_to m (block_step records L first a u y) s) (ap (coded_at records) (sym e) ∙ h m (omega arith))
