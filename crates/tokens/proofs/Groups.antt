-- The lookups, which change where a group of positions begins. Assumes nothing.
use Prim.Native.Nat.{ℕ, zero, suc, ◌+◌, ◌-◌, ◌≤◌}
use native.Mathlib.Omega.{arith}
use mathlib.Core.Path.{◌≡◌, sym, ◌∙◌}
use mathlib.Core.List.{List}
use mathlib.Core.Bool.{true, false}
use lib.ListN.{length}
use borrow.Author.Tests.{eqb-true, not-false}
use Rattle.bitstream.specs.Reading.{got}
use Rattle.table_choices.specs.Choices.{group, Choices, choices}
use Rattle.table_choices.specs.Answer.{begins_group}
use Rattle.table_choices.proofs.Choices.{choices_kept, begins_later}
use Rattle.tokens.specs.Answer.{Ready, Current}

-- the groups before position 2 have one position each
inside : (k : ℕ) → begins_group k ≡ false → 2 ≤ k
unfolding begins_group group
inside zero h = let z : true ≡ false = h in absurd (let o : ◌≡◌ {A = ℕ} 0 1 = cc in omega arith)
inside (suc zero) h = let z : true ≡ false = h in absurd (let o : ◌≡◌ {A = ℕ} 0 1 = cc in omega arith)
inside (suc (suc k)) h = omega arith

same_group : (k : ℕ) → begins_group (k + 1) ≡ false → group (k + 1) ≡ group k
same_group k h =
    let e : k + 1 - 1 ≡ k = omega arith in
    rw e at (eqb-true (group (k + 1)) (group (k + 1 - 1)) (not-false _ (begins_later (k + 1) (λ z. omega (arith, z)) ∙ h)))

-- ---- a lookup before the first position, after the choices were read, and at the next position
module _ (nodes : List ℕ) where
  pub current_start : (choice n : ℕ) (lookup : List ℕ) → length lookup ≡ 256 → Current nodes 0 choice n lookup
  current_start choice n lookup h = (h, λ b _. absurd (omega (arith, inside 0 b)))

  pub current_chosen : (k : ℕ) (ch : Choices) (p : List ℕ) (i : ℕ) {ch' : Choices} {e : ℕ} → choices k ch p i ≡ got ch' e → (of : Choices → ℕ) (n : ℕ) (lookup : List ℕ) → Current nodes k (of ch) n lookup → Current nodes k (of ch') n lookup
  current_chosen k ch p i {ch'} {e} h of n lookup g = (g.0, λ b. let z : ch ≡ ch' = same (sym (choices_kept k ch p i (inside k b)) ∙ h) in rw (← z) (g.1 b))
    where
      same : got ch i ≡ got ch' e → ch ≡ ch'
      same z = cc

  -- the blocks become fewer
  pub current_on : (k choice n m : ℕ) (lookup : List ℕ) → m ≤ n → Ready nodes k choice n lookup → Current nodes (k + 1) choice m lookup
  current_on k choice n m lookup h g = (g.0, λ b l. rw (same_group k b) (g.1 (omega (arith, h, l))))
