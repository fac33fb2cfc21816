-- Runs and strings keep the reading algebra's laws. Assumes nothing.
use Prim.Native.Nat.{ℕ, zero, suc, ◌+◌, ◌*◌, ◌≤◌, ◌<◌}
use native.Mathlib.Omega.{arith}
use mathlib.Core.Path.{◌≡◌, refl, sym, ap, ◌∙◌}
use mathlib.Core.List.{List}
use mathlib.Core.Bool.{true}
use lib.Dec.{eqb, leb}
use lib.ListN.{length}
use Rattle.bitstream.specs.Lists.{among}
use Rattle.bitstream.specs.Reading.{pure, unary}
use Rattle.bitstream.proofs.Laws.{Lawful, lawful, pure_lawful, here_lawful, guard_lawful, pick_lawful, bind_lawful, field_lawful, until_lawful, whole_lawful}
use Rattle.bitstream.proofs.Inside.{Inside, inside, pure_inside, field_inside, pick_inside, bind_inside, whole_inside, until_inside, Refuses, refuses, pure_refuses, field_refuses, pick_refuses, bind_refuses, here_refuses, guard_refuses, whole_refuses, until_refuses}
use Rattle.bitstream.proofs.Spends.{Spends, spends_more, pure_spends, field_spends, bind_spends, bind_spends_got, here_then, guard_then, pick_spends, until_spends, whole_spends}
use Rattle.runs.specs.declared.RunCode.{RunCode}
use Rattle.runs.specs.Runs.{most, extra, run_length, run, Sent, next_bit, one_run, complete, sent, bit_string}
use Rattle.runs.proofs.Facts.{most_small, extra_small}
use Rattle.bitstream.proofs.Unary.{unary_most, unary_lawful, unary_inside, unary_refuses, unary_spends}

pub run_lawful : (code : RunCode) → Lawful (run code)
unfolding run run_length
run_lawful code = whole_lawful (search (lawful, unary_lawful) depth 10)

next_bit_lawful : (anew value : ℕ) → Lawful (next_bit anew value)
unfolding next_bit
next_bit_lawful anew value = pick_lawful (eqb anew 1) (field_lawful 1) (pure_lawful value)

one_run_lawful : (code : RunCode) (n : ℕ) (s : Sent) → Lawful (one_run code n s)
unfolding one_run
one_run_lawful code n s =
    bind_lawful (next_bit_lawful s.anew s.value) (λ b. bind_lawful here_lawful (λ at. bind_lawful (run_lawful code) (λ r.
    bind_lawful (guard_lawful (leb (length s.done + r) n) 12 at) (λ _. pure_lawful _))))

pub bit_string_lawful : (code : RunCode) (n : ℕ) → Lawful (bit_string code n)
unfolding bit_string sent
bit_string_lawful code n = bind_lawful (until_lawful (complete n) (one_run code n) 12 n _ (one_run_lawful code n)) (λ s. pure_lawful _)

-- ---- what is refused lies in the packet
run_inside : {d : ℕ} (code : RunCode) → Inside d (run code)
unfolding run run_length
run_inside code = whole_inside (search (inside, unary_inside) depth 10)

next_bit_inside : {d : ℕ} (anew value : ℕ) → Inside d (next_bit anew value)
unfolding next_bit
next_bit_inside anew value = pick_inside (eqb anew 1) (field_inside 1) (pure_inside value)

one_run_inside : {d : ℕ} (code : RunCode) (n : ℕ) (s : Sent) → Inside d (one_run code n s)
unfolding one_run
one_run_inside code n s = search (inside, next_bit_inside, run_inside) depth 12

pub bit_string_inside : {d : ℕ} (code : RunCode) (n : ℕ) → Inside d (bit_string code n)
unfolding bit_string sent
bit_string_inside code n = bind_inside (until_inside (complete n) (one_run code n) 12 n _ (one_run_inside code n)) (λ s. pure_inside _)

-- ---- and is refused by 4 or 12
module _ {ks : List ℕ} (four : among ks 4 ≡ true) where
  run_refuses : (code : RunCode) → Refuses ks (run code)
  unfolding run run_length
  run_refuses code = whole_refuses (search (refuses, unary_refuses, four) depth 10)

  next_bit_refuses : (anew value : ℕ) → Refuses ks (next_bit anew value)
  unfolding next_bit
  next_bit_refuses anew value = pick_refuses (eqb anew 1) (field_refuses 1 four) (pure_refuses value)

  module _ (twelve : among ks 12 ≡ true) where
    one_run_refuses : (code : RunCode) (n : ℕ) (s : Sent) → Refuses ks (one_run code n s)
    unfolding one_run
    one_run_refuses code n s =
        bind_refuses (next_bit_refuses s.anew s.value) (λ b. bind_refuses here_refuses (λ at. bind_refuses (run_refuses code) (λ r.
        bind_refuses (guard_refuses (leb (length s.done + r) n) 12 at twelve) (λ _. pure_refuses _))))

    pub bit_string_refuses : (code : RunCode) (n : ℕ) → Refuses ks (bit_string code n)
    unfolding bit_string sent
    bit_string_refuses code n = bind_refuses (until_refuses (complete n) (one_run code n) 12 n _ twelve (one_run_refuses code n)) (λ s. pure_refuses _)

-- ---- bits that are spent: a run of at most 18, and n runs with a bit each for a string of n bits
run_spends : (code : RunCode) → Spends 18 (run code)
unfolding run run_length
run_spends code =
    whole_spends (spends_more (omega (arith, most_small code)) (bind_spends_got {b = 12} (unary_spends (most code) 0) (λ r p i e h.
    spends_more (omega (arith, extra_small code r (omega (arith, unary_most (most code) 0 p i r e h, most_small code)))) (bind_spends (field_spends (extra code r)) (λ x. pure_spends _)))))

next_bit_spends : (anew value : ℕ) → Spends 1 (next_bit anew value)
unfolding next_bit
next_bit_spends anew value = pick_spends (eqb anew 1) (λ _. field_spends 1) (λ _. spends_more (omega arith) (pure_spends value))

one_run_spends : (code : RunCode) (n : ℕ) (s : Sent) → Spends 19 (one_run code n s)
unfolding one_run
one_run_spends code n s =
    bind_spends {b = 18} (next_bit_spends s.anew s.value) (λ b. here_then (λ at. bind_spends {b = 0} (run_spends code) (λ r.
    guard_then (leb (length s.done + r) n) 12 at (λ z. absurd (omega arith)) (λ _ _. pure_spends _))))

pub bit_string_spends : (code : RunCode) (n : ℕ) → Spends (n * 19) (bit_string code n)
unfolding bit_string sent
bit_string_spends code n = spends_more (omega arith) (bind_spends {b = 0} (until_spends (complete n) (one_run code n) 12 n _ (λ z. absurd (omega arith)) (one_run_spends code n)) (λ s. pure_spends _))
