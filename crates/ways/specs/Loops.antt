-- Loops as definitions: what a state has become after turns of a step.
use Rattle.std.specs.Prelude.{Bool, cond, List, [], ◌∷◌, ◌⊎◌, ◌≡◌, ℕ, zero, suc}

infix 20 ◌∈◌
-- b stands in the list
abbrev pub ◌∈◌ : {B : Type 0} → B → List B → Type 0
b ∈ [] = ⊥
b ∈ (x ∷ xs) = (b ≡ x) ⊎ (b ∈ xs)

-- the steps 0, 1, .. n - 1, one after the other
unfoldable pub up_to : {A : Type 0} → ℕ → (ℕ → A → A) → A → A
up_to zero step a = a
up_to (suc n) step a = step n (up_to n step a)

-- a step for each thing of a list, from its front
unfoldable pub over : {A B : Type 0} → List B → (B → A → A) → A → A
over [] step a = a
over (b ∷ bs) step a = over bs step (step b a)

-- the things of a list that pass a test, in their order
unfoldable pub passing : {B : Type 0} → (B → Bool) → List B → List B
passing test [] = []
passing test (b ∷ bs) = cond (test b) (b ∷ passing test bs) (passing test bs)

-- a step that is made only if the test holds
abbrev pub when : {A : Type 0} → Bool → (A → A) → A → A
when b step a = cond b (step a) a
