-- Bits out of two bytes, and the seven bits at a node of a tree. Assumes nothing.
use Prim.Native.Nat.{ℕ, zero, suc, ◌+◌, ◌*◌, ◌/◌, ◌%◌, ◌≤◌, ◌<◌}
use native.Mathlib.Omega.{arith}
use mathlib.Core.Path.{◌≡◌, refl, ◌∙◌}
use mathlib.Core.List.{List, [], ◌∷◌}
use lib.ListN.{length, get_or}
use Rattle.bitstream.specs.Bits.{number}
use Rattle.bitstream.proofs.Numbers.{number_add, number_lt}

pub past_end : (l : List ℕ) (i : ℕ) → length l ≤ i → get_or l i 0 ≡ 0
past_end [] i h = refl
past_end (x ∷ l) zero h = absurd (omega arith)
past_end (x ∷ l) (suc i) h = past_end l i (omega arith)

-- ---- the seven bits s at a node: a leaf bit, a token and one bit more; or a leaf bit, that of the 0 branch, and its token
module _ (p : List ℕ) (at s : ℕ) (is : s ≡ number p at 7) where
  halves : s ≡ number p at 1 * 64 + number p (at + 1) 6
  halves = is ∙ number_add p at 1 6

  as_leaf : s ≡ number p at 1 * 64 + number p (at + 1) 5 * 2 + number p (at + 1 + 5) 1
  as_leaf = omega (arith, halves, number_add p (at + 1) 5 1)

  as_fork : s ≡ number p at 1 * 64 + number p (at + 1) 1 * 32 + number p (at + 1 + 1) 5
  as_fork = omega (arith, halves, number_add p (at + 1) 1 5)

  pub leaf_bit_law : 64 ≤ s → number p at 1 ≡ 1
  leaf_bit_law h = omega (arith, halves, number_lt p at 1, number_lt p (at + 1) 6)

  pub leaf_token_law : 64 ≤ s → s / 2 % 32 ≡ number p (at + 1) 5
  leaf_token_law h = omega (arith, as_leaf, number_lt p at 1, number_lt p (at + 1) 5, number_lt p (at + 1 + 5) 1)

  pub fork_bit : s < 64 → number p at 1 ≡ 1 → ⊥
  fork_bit h e = absurd (omega (arith, halves, e))

  pub left_bit : s < 64 → 32 ≤ s → number p (at + 1) 1 ≡ 1
  left_bit h l = omega (arith, as_fork, number_lt p (at + 1) 1, number_lt p (at + 1 + 1) 5)

  pub left_token : s < 64 → 32 ≤ s → s % 32 ≡ number p (at + 1 + 1) 5
  left_token h l = omega (arith, as_fork, number_lt p (at + 1) 1, number_lt p (at + 1 + 1) 5)
