-- The lengths of what a caller lends. Assumes nothing.
use Prim.Native.Nat.{ℕ, ◌*◌, ◌≤◌, ◌^◌}
use native.Mathlib.Omega.{arith}
use mathlib.Core.Path.{◌≡◌, sym, ap, ◌∙◌}
use mathlib.Core.Bool.{Bool, true, ◌&&◌}
use mathlib.Core.List.{List}
use lib.Dec.{lit<}
use lib.ListN.{length}
use borrow.Author.Tests.{eqb-true}
use Rattle.headers.specs.declared.Session.{Session}
use Rattle.headers.specs.Fits.{session_fits}
use Rattle.bitstream.proofs.ListLaws.{and_both}
use Rattle.headers.proofs.Fitting.{all_at}
use Rattle.setup.specs.Table.{table_bytes}
use Rattle.work_memory.specs.declared.WorkLengths.{WorkLengths}
use Rattle.work_memory.specs.Memory.{Memory}
use Rattle.work_memory.specs.Lengths.{blocks, lengths_of, lengths_fit}
use Rattle.work_memory.proofs.Lengths.{session_small}
use Rattle.work_memory.proofs.Clearing.{fit_bits, fit_active}
use Rattle.calls.specs.Lengths.{buffers_fit}

-- "Table memory has one fixed length, at most 1,048,576 bytes"
pub table_bytes_few : table_bytes ≤ 1048576
table_bytes_few = omega arith

-- the blocks of a session that fits are few enough for the test of its buffers
pub blocks_few : (s : Session) → session_fits s ≡ true → {l : WorkLengths} → l ≡ lengths_of s → l.records ≤ 2 ^ 36
blocks_few s fits e = omega (arith, ap (λ (l : WorkLengths). l.records) e, (session_small s fits).blocks)

module _ (s : Session) (golden previous new table : List ℕ) (m : Memory) where
  abbrev hold : Bool
  hold = buffers_fit (blocks s) golden previous new table && lengths_fit (lengths_of s) m

  -- the two tests, as a program comes to them
  pub tests_are : {l : WorkLengths} {b t : Bool} → l ≡ lengths_of s → b ≡ buffers_fit l.records golden previous new table → t ≡ lengths_fit l m → hold ≡ (b && t)
  tests_are e f g = ap (λ (l : WorkLengths). buffers_fit l.records golden previous new table && lengths_fit l m) (sym e) ∙ sym (λ i. f i && g i)

  module _ (h : hold ≡ true) where
    pub lent_lengths : (length golden ≡ 64 * blocks s) × (length previous ≡ 64 * blocks s) × (length new ≡ 64 * blocks s) × (length table ≡ table_bytes)
    unfolding buffers_fit
    lent_lengths =
        let f = (and_both (buffers_fit (blocks s) golden previous new table) (lengths_fit (lengths_of s) m) h).0 in
        (eqb-true _ _ (all_at _ 0 f (lit< tt)), eqb-true _ _ (all_at _ 1 f (lit< tt)), eqb-true _ _ (all_at _ 2 f (lit< tt)), eqb-true _ _ (all_at _ 3 f (lit< tt)))

    pub memory_fits : lengths_fit (lengths_of s) m ≡ true
    memory_fits = (and_both (buffers_fit (blocks s) golden previous new table) (lengths_fit (lengths_of s) m) h).1

    pub ranks_fit : length m.work.active ≡ length m.work.bits
    ranks_fit = fit_active (lengths_of s) m memory_fits ∙ sym (fit_bits (lengths_of s) m memory_fits)
