-- The ways that a packet opens, there and back. Assumes nothing.
use Prim.Native.Nat.{ℕ, zero, suc, ◌≤◌}
use native.Mathlib.Omega.{arith}
use mathlib.Core.Path.{◌≡◌, refl, sym, ap, ◌∙◌}
use mathlib.Core.Bool.{Bool, true, false}
use Rattle.packet_opening.specs.declared.Opening.{Opening}
use Rattle.packet_opening.specs.declared.Opening.TheVariants.{Header, Repeat, NoReferences}
use Rattle.packet_opening.specs.Opening.{opening_of}

pub with_header : (n : ℕ) (references : Bool) → (n ≡ 0 → ⊥) → Header ≡ opening_of n references
unfolding opening_of
with_header zero references h = absurd (h refl)
with_header (suc n) references h = refl

pub is_header_law : (n : ℕ) (references : Bool) → opening_of n references ≡ Header → 1 ≤ n
unfolding opening_of
is_header_law zero true e = let z : ◌≡◌ {A = ℕ} 0 1 = cc in absurd (omega arith)
is_header_law zero false e = let z : ◌≡◌ {A = ℕ} 0 1 = cc in absurd (omega arith)
is_header_law (suc n) references e = omega arith

pub is_repeat : (n : ℕ) (references : Bool) → opening_of n references ≡ Repeat → (n ≡ 0) × (references ≡ true)
unfolding opening_of
is_repeat zero true e = (refl, refl)
is_repeat zero false e = let z : ◌≡◌ {A = ℕ} 0 1 = cc in absurd (omega arith)
is_repeat (suc n) references e = let z : ◌≡◌ {A = ℕ} 0 1 = cc in absurd (omega arith)

pub is_refused : (n : ℕ) (references : Bool) → opening_of n references ≡ NoReferences → (n ≡ 0) × (references ≡ false)
unfolding opening_of
is_refused zero false e = (refl, refl)
is_refused zero true e = let z : ◌≡◌ {A = ℕ} 0 1 = cc in absurd (omega arith)
is_refused (suc n) references e = let z : ◌≡◌ {A = ℕ} 0 1 = cc in absurd (omega arith)
