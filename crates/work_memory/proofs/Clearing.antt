-- Clearing: work memory whole becomes zero. Assumes nothing.
use Prim.Native.Nat.{ℕ}
use mathlib.Core.Path.{◌≡◌}
use mathlib.Core.List.{List}
use mathlib.Core.Bool.{true}
use lib.Dec.{lit<}
use lib.IntN.{ℤ, pos}
use lib.ListN.{length, replicate}
use borrow.Author.Tests.{eqb-true}
use Rattle.headers.proofs.Fitting.{all_at}
use Rattle.work_memory.specs.declared.WorkLengths.{WorkLengths}
use Rattle.work_memory.specs.Memory.{Memory, memory}
use Rattle.work_memory.specs.Lengths.{lengths_fit, cleared}
pub use Rattle.memory_clearing.proofs.Clearing.{clear_whole, cleared_to, nothing_behind}

-- ---- work memory whose slices have the lengths l
module _ (l : WorkLengths) (m : Memory) (fit : lengths_fit l m ≡ true) where
  pub fit_bits : length m.work.bits ≡ l.bits
  unfolding lengths_fit
  fit_bits = eqb-true _ _ (all_at _ 6 fit (lit< tt))

  pub fit_active : length m.work.active ≡ l.active
  unfolding lengths_fit
  fit_active = eqb-true _ _ (all_at _ 9 fit (lit< tt))

  -- each of them zero, it is all zero
  pub fit_cleared : {records coded : List ℕ} {coefs dc : List ℤ} {lasts flags bits supers modes active : List ℕ}
      → records ≡ replicate (length m.work.records) 0 → coded ≡ replicate (length m.work.coded) 0 → coefs ≡ replicate (length m.work.coefs) (pos 0) → dc ≡ replicate (length m.dc) (pos 0)
      → lasts ≡ replicate (length m.work.lasts) 0 → flags ≡ replicate (length m.work.flags) 0 → bits ≡ replicate (length m.work.bits) 0
      → supers ≡ replicate (length m.work.supers) 0 → modes ≡ replicate (length m.work.modes) 0 → active ≡ replicate (length m.work.active) 0
      → memory records coded coefs dc lasts flags bits supers modes active ≡ cleared l
  unfolding lengths_fit
  fit_cleared e0 e1 e2 e3 e4 e5 e6 e7 e8 e9 =
      let records : length m.work.records ≡ l.records = eqb-true _ _ (all_at _ 0 fit (lit< tt)) in
      let coded : length m.work.coded ≡ l.coded = eqb-true _ _ (all_at _ 1 fit (lit< tt)) in
      let coefs : length m.work.coefs ≡ l.coefs = eqb-true _ _ (all_at _ 2 fit (lit< tt)) in
      let dc : length m.dc ≡ l.dc = eqb-true _ _ (all_at _ 3 fit (lit< tt)) in
      let lasts : length m.work.lasts ≡ l.lasts = eqb-true _ _ (all_at _ 4 fit (lit< tt)) in
      let flags : length m.work.flags ≡ l.flags = eqb-true _ _ (all_at _ 5 fit (lit< tt)) in
      let supers : length m.work.supers ≡ l.supers = eqb-true _ _ (all_at _ 7 fit (lit< tt)) in
      let modes : length m.work.modes ≡ l.modes = eqb-true _ _ (all_at _ 8 fit (lit< tt)) in
      λ i. memory (cleared_to 0 e0 records i) (cleared_to 0 e1 coded i) (cleared_to (pos 0) e2 coefs i) (cleared_to (pos 0) e3 dc i) (cleared_to 0 e4 lasts i)
      (cleared_to 0 e5 flags i) (cleared_to 0 e6 fit_bits i) (cleared_to 0 e7 supers i) (cleared_to 0 e8 modes i) (cleared_to 0 e9 fit_active i)
