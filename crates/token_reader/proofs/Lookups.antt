-- The lookups that there are for a tree: one of zeros, and the tree's own. Assumes nothing.
use Prim.Native.Nat.{ℕ, zero, suc}
use mathlib.Core.Path.{◌≡◌, refl, ap, ◌∙◌}
use mathlib.Core.List.{List}
use mathlib.Core.Logic.{inl, inr}
use lib.ListN.{length, get_or, replicate, length-replicate}
use Rattle.code_lookup.specs.Lookup.{lookup_of}
use Rattle.code_lookup.proofs.Spreads.{lookup_length}
use Rattle.token.specs.Answer.{token_values, token_complete}
use Rattle.token_reader.specs.Answer.{Lookup}

pub none_set : (n j : ℕ) → ◌≡◌ {A = ℕ} (get_or (replicate n 0) j 0) 0
none_set zero j = refl
none_set (suc n) zero = refl
none_set (suc n) (suc j) = none_set n j

pub lookup_empty : (nodes l : List ℕ) → l ≡ replicate 256 0 → Lookup nodes l
lookup_empty nodes l e = record { size = ap length e ∙ length-replicate {A = ℕ} 256 0; each = λ i. inl (ap (λ (x : List ℕ). get_or x i 0) e ∙ none_set 256 i) }

pub lookup_filled : (nodes l : List ℕ) → l ≡ lookup_of nodes token_values token_complete → Lookup nodes l
lookup_filled nodes l e = record { size = ap length e ∙ lookup_length nodes token_values token_complete; each = λ i. inr (ap (λ (x : List ℕ). get_or x i 0) e) }
