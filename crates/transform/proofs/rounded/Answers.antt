-- `transform::rounded` meets its contract. Assumes nothing.
use mathlib.Core.Path.{◌≡◌, ap, ◌∙◌}
use Prim.Native.Nat.{suc, ◌+◌, ◌-◌, ◌/◌}
use native.Mathlib.Omega.{arith}
use lib.IntN.{ℤ, pos, negsuc, sub_ℕ, ◌+ℤ◌}
use lib.Signed.{shr_z}
use mir.Syntax.{w16}
use Rattle.numeric.specs.Divide.{floor_shift}
use Rattle.numeric.proofs.Magnitude.{sub_cases}
use Rattle.numeric.proofs.Known.{Known, k_any, k_lit, k_add, k_shr}
use Rattle.transform.specs.Residual.{rounded}
use Rattle.transform.proofs.rounded.Goals as goal

-- 8 is added once 3 bits are shifted out
shifted-before : (x : ℤ) → floor_shift (floor_shift x 3 +ℤ pos 1) 1 ≡ floor_shift (x +ℤ pos 8) 4
shifted-before (pos a) = let e : (a / 8 + 1) / 2 ≡ (a + 8) / 16 = omega arith in ap pos e
shifted-before (negsuc a) =
    sub_cases (λ (z : ℤ). shr_z z 2 ≡ shr_z (sub_ℕ 8 (suc a)) 16) 1 (suc (a / 8))
    (λ h. sub_cases (λ (z : ℤ). negsuc ((suc (a / 8) - 2) / 2) ≡ shr_z z 16) 8 (suc a)
    (λ k. let e : (suc (a / 8) - 2) / 2 ≡ (suc a - 9) / 16 = omega arith in ap negsuc e)
    (λ k. absurd (omega arith)))
    (λ h. sub_cases (λ (z : ℤ). pos ((1 - suc (a / 8)) / 2) ≡ shr_z z 16) 8 (suc a)
    (λ k. absurd (omega arith))
    (λ k. let e : (1 - suc (a / 8)) / 2 ≡ (8 - suc a) / 16 = omega arith in ap pos e))

pub returns : goal.returns
unfolding rounded
returns c =
    let eighth : Known w16 (floor_shift c.args.x 3) 4096 =
    k_shr 3 4096 (k_any c.ranges.x) tt tt tt in
    let half : Known w16 (floor_shift (floor_shift c.args.x 3 +ℤ pos 1) 1) 2049 =
    k_shr 1 2049 (k_add eighth (k_lit 1 tt) tt) tt tt tt in
    (half).reads ∙ shifted-before c.args.x
