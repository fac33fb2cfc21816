-- Unfinished blocks, and how many of them a run ends. Assumes nothing.
use Prim.Native.Nat.{ℕ, zero, suc, ◌+◌, ◌-◌, ◌≤◌, ◌<◌}
use native.Mathlib.Omega.{arith}
use native.Mathlib.Numerals.{add-one}
use mathlib.Core.Path.{◌≡◌, refl}
use mathlib.Core.List.{List, [], ◌∷◌}
use mathlib.Core.Bool.{Bool, true, false}
use lib.Dec.{eqb, ltb}
use lib.ListN.{length, get_or, drop, drop_of_length-le}
use lib.Seq.{drop-cons}
use borrow.Author.Tests.{lt-ltb, le-ltb, eq-eqb, ne_eqb, eqb-false}
use Rattle.bitstream.specs.Reading.{choose}
use Rattle.block_positions.specs.Positions.{unfinished, run_of}

-- ---- how many blocks a run ends
pub run_all : (ps : List ℕ) (n : ℕ) → n ≡ 0 → unfinished ps ≡ run_of ps n
unfolding run_of
run_all ps n h = rw (eq-eqb n 0 h)

pub run_some : (ps : List ℕ) (n : ℕ) → (n ≡ 0 → ⊥) → n ≡ run_of ps n
unfolding run_of
run_some ps n h = rw (ne_eqb n 0 h)

pub one_unfinished : (p : ℕ) → p < 64 → 1 ≡ unfinished (p ∷ [])
unfolding unfinished
one_unfinished p h = rw (lt-ltb p 64 h)

pub one_finished : (p : ℕ) → 64 ≤ p → 0 ≡ unfinished (p ∷ [])
unfolding unfinished
one_finished p h = rw (le-ltb p 64 h)

pub unfinished_next : (ps : List ℕ) (b : ℕ) → b < length ps → unfinished (drop b ps) ≡ unfinished (get_or ps b 0 ∷ []) + unfinished (drop (b + 1) ps)
unfolding unfinished
unfinished_next ps b h = rw (drop-cons ps b 0, add-one) (omega arith)

at_most_one : (b : Bool) → choose b 1 0 ≤ 1
at_most_one true = omega arith
at_most_one false = omega arith

pub unfinished_most : (ps : List ℕ) → unfinished ps ≤ length ps
unfolding unfinished
unfinished_most [] = omega arith
unfinished_most (p ∷ ps) = omega (arith, unfinished_most ps, at_most_one (ltb p 64))

pub unfinished_none : (ps : List ℕ) (b : ℕ) → length ps ≤ b → unfinished (drop b ps) ≡ 0
unfolding unfinished
unfinished_none ps b h = rw (drop_of_length-le ps h)

-- a block that stands at k < 64 is one of the unfinished
pub unfinished_some : (ps : List ℕ) (b : ℕ) → b < length ps → get_or ps b 0 < 64 → 0 < unfinished ps
unfolding unfinished
unfinished_some [] b h l = absurd (omega (arith, h))
unfinished_some (p ∷ ps) zero h l = rw (lt-ltb p 64 l) (omega arith)
unfinished_some (p ∷ ps) (suc b) h l = omega (arith, unfinished_some ps b (omega (arith, h)) l)

pub run_pos : (ps : List ℕ) (n : ℕ) → 0 < unfinished ps → 0 < run_of ps n
unfolding run_of
run_pos ps n h = go (eqb n 0) refl
  where
    go : (b : Bool) → eqb n 0 ≡ b → 0 < choose b (unfinished ps) n
    go true t = h
    go false t = let z = eqb-false n 0 t in omega arith
