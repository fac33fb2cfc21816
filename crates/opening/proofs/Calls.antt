-- The tests of a shot call, one law for each way that they go. Assumes nothing.
use Prim.Native.Nat.{ℕ, ◌*◌, ◌≤◌}
use native.Mathlib.Omega.{arith}
use mathlib.Core.Path.{◌≡◌, refl}
use mathlib.Core.Bool.{Bool, true, false, ◌&&◌}
use mathlib.Core.List.{List}
use lib.Dec.{eqb}
use lib.ListN.{length}
use borrow.Author.Tests.{eqb-true, eqb-false, eq-eqb, ne_eqb}
use Rattle.bitstream.specs.Reading.{choose}
use Rattle.headers.specs.declared.Session.{Session}
use Rattle.headers.specs.Fits.{session_fits}
use Rattle.bitstream.proofs.ListLaws.{and_both}
use Rattle.setup.specs.Table.{table_bytes, is_table}
use Rattle.work_memory.specs.Memory.{Memory}
use Rattle.work_memory.specs.Lengths.{blocks, lengths_of, lengths_fit}
use Rattle.calls.specs.Lengths.{buffers_fit}
use Rattle.calls.proofs.Lengths as theora
use Rattle.packet_list.specs.Packets.{answer_size}
use Rattle.buffer_names.specs.declared.Names.{Names}
use Rattle.buffer_names.specs.Names.{names_fit}
use Rattle.opening.specs.Call.{ShotCall, shot_call, shot_lengths_fit, reaches, lent_number, shot_number}

-- ---- the tests of what is lent
module _ (c : ShotCall) where
  -- what passes all three
  pub passes : lent_number c ≡ 0 → (session_fits c.session ≡ true) × (shot_lengths_fit c ≡ true) × (names_fit c.session c.names ≡ true)
  unfolding lent_number
  passes h = go (session_fits c.session) (shot_lengths_fit c) (names_fit c.session c.names) h
    where
      go : (x y z : Bool) → ◌≡◌ {A = ℕ} (choose x (choose y (choose z 0 8) 1) 8) 0 → (x ≡ true) × (y ≡ true) × (z ≡ true)
      go true true true h = (refl, refl, refl)
      go true true false h = absurd (omega arith)
      go true false z h = absurd (omega arith)
      go false y z h = absurd (omega arith)

  -- the numbers of these tests
  pub lent_few : lent_number c ≤ 8
  unfolding lent_number
  lent_few = go (session_fits c.session) (shot_lengths_fit c) (names_fit c.session c.names)
    where
      go : (x y z : Bool) → choose x (choose y (choose z 0 8) 1) 8 ≤ 8
      go true true true = omega arith
      go true true false = omega arith
      go true false z = omega arith
      go false y z = omega arith

-- ---- the number of a call
module _ (c : ShotCall) where
  pub number_lent : (lent_number c ≡ 0 → ⊥) → shot_number c ≡ lent_number c
  unfolding shot_number
  number_lent h = rw (ne_eqb (lent_number c) 0 h)

  module _ (passed : lent_number c ≡ 0) where
    pub number_table : is_table c.table ≡ false → shot_number c ≡ 8
    unfolding shot_number
    number_table h = rw (eq-eqb (lent_number c) 0 passed, h)

    module _ (held : is_table c.table ≡ true) where
      pub number_16 : reaches c ≡ false → shot_number c ≡ 16
      unfolding shot_number
      number_16 h = rw (eq-eqb (lent_number c) 0 passed, held, h)

      pub number_0 : reaches c ≡ true → shot_number c ≡ 0
      unfolding shot_number
      number_0 h = rw (eq-eqb (lent_number c) 0 passed, held, h)

  -- what a call that is not refused passed
  pub accepted : shot_number c ≡ 0 → (lent_number c ≡ 0) × (is_table c.table ≡ true) × (reaches c ≡ true)
  unfolding shot_number
  accepted h = go (eqb (lent_number c) 0) (is_table c.table) (reaches c) refl h
    where
      go : (x y z : Bool) → eqb (lent_number c) 0 ≡ x → ◌≡◌ {A = ℕ} (choose x (choose y (choose z 0 16) 8) (lent_number c)) 0 → (lent_number c ≡ 0) × (y ≡ true) × (z ≡ true)
      go true true true e h = (eqb-true (lent_number c) 0 e, refl, refl)
      go true true false e h = absurd (omega arith)
      go true false z e h = absurd (omega arith)
      go false y z e h = absurd (eqb-false (lent_number c) 0 e h)

-- ---- lengths that fit
module _ (s : Session) (n : Names) (lengths joined table : List ℕ) (m : Memory) (x y z answers : List ℕ) where
  abbrev c : ShotCall
  c = shot_call s n lengths joined table m x y z answers

  module _ (passed : lent_number c ≡ 0) where
    both_fit : ((buffers_fit (blocks s) x y z table && lengths_fit (lengths_of s) m) ≡ true) × (eqb (length answers) (answer_size * length lengths) ≡ true)
    unfolding shot_lengths_fit
    both_fit = and_both (buffers_fit (blocks s) x y z table && lengths_fit (lengths_of s) m) (eqb (length answers) (answer_size * length lengths)) (passes c passed).1

    pub answers_long : length answers ≡ answer_size * length lengths
    answers_long = eqb-true _ _ both_fit.1

    pub memory_fits : lengths_fit (lengths_of s) m ≡ true
    memory_fits = theora.memory_fits s x y z table m both_fit.0

    pub ranks_fit : length m.work.active ≡ length m.work.bits
    ranks_fit = theora.ranks_fit s x y z table m both_fit.0

    pub planes_long : (length x ≡ 64 * blocks s) × (length y ≡ 64 * blocks s) × (length z ≡ 64 * blocks s) × (length table ≡ table_bytes)
    planes_long = theora.lent_lengths s x y z table m both_fit.0
