-- Strings of bits that are sent as runs.
use Rattle.std.specs.Prelude.{ℕ, ◌+◌, ◌-◌, List, [], ◌∷◌, ◌++◌, Bool, eqb, leb, length, get_or, replicate}
use Rattle.bitstream.specs.Reading.{Parse, pure, bind, here, guard, pick, choose, field, unary, whole, until, ◌>>=◌, ◌>>◌}
use Rattle.bitstream.specs.Numbers.{long_run}
use Rattle.runs.specs.declared.RunCode.{RunCode}
use Rattle.runs.specs.declared.RunCode.TheVariants.{Long, Short}

-- "Long runs: codes 0, 10, 110, 1110, 11110, 111110, 111111"; "Short runs: 0, 10, 110, 1110, 11110, 11111"
unfoldable pub most : RunCode → ℕ
most Long = 6
most Short = 5

-- "starts 1, 2, 4, 6, 10, 18, 34"; "starts 1, 3, 5, 7, 11, 15"
unfoldable pub start : RunCode → ℕ → ℕ
start Long r = get_or (1 ∷ 2 ∷ 4 ∷ 6 ∷ 10 ∷ 18 ∷ 34 ∷ []) r 0
start Short r = get_or (1 ∷ 3 ∷ 5 ∷ 7 ∷ 11 ∷ 15 ∷ 0 ∷ []) r 0

-- "extra bits 0, 1, 1, 2, 3, 4, 12"; "extra 1, 1, 1, 2, 2, 4"
unfoldable pub extra : RunCode → ℕ → ℕ
extra Long r = get_or (0 ∷ 1 ∷ 1 ∷ 2 ∷ 3 ∷ 4 ∷ 12 ∷ []) r 0
extra Short r = get_or (1 ∷ 1 ∷ 1 ∷ 2 ∷ 2 ∷ 4 ∷ 0 ∷ []) r 0

-- a run's length: its prefix, "that many 1s and a 0", and the extra bits that the prefix asks for
unfoldable pub run_length : RunCode → Parse ℕ
run_length code = do
  r ← unary (most code) 0
  x ← field (extra code r)
  pure (start code r + x)

-- a run at fault is reported at its prefix
unfoldable pub run : RunCode → Parse ℕ
run code = whole (run_length code)

-- the bits so far, the bit of the next run, and whether that bit is read (1) or known (0)
pub record Sent : Type 0 where
  pub done : List ℕ
  pub value : ℕ
  pub anew : ℕ

-- "First bit explicit, then it flips"
unfoldable pub next_bit : ℕ → ℕ → Parse ℕ
next_bit anew value = pick (eqb anew 1) (field 1) (pure value)

-- "but after a run of 4129 a new bit is read"
abbrev pub fresh : ℕ → ℕ
fresh r = choose (eqb r 4129) 1 0

-- one run more of a string of n bits: 12, "a run exceeds the bits still wanted", after all its bits
unfoldable pub one_run : RunCode → ℕ → Sent → Parse Sent
one_run code n s = do
  b ← next_bit s.anew s.value
  at ← here
  r ← run code
  guard (leb (length s.done + r) n) long_run at
  pure (record { done = s.done ++ replicate r b; value = 1 - b; anew = fresh r })

abbrev pub complete : ℕ → Sent → Bool
complete n s = leb n (length s.done)

-- a string of n bits. "No bits wanted: nothing read." A run has a bit at least, so n runs are enough: no packet reaches the 12 that stands here for more of them (law `runs-enough` of proofs/Strings)
unfoldable pub sent : RunCode → ℕ → Parse Sent
sent code n = until (complete n) (one_run code n) long_run n (record { done = []; value = 0; anew = 1 })

unfoldable pub bit_string : RunCode → ℕ → Parse (List ℕ)
bit_string code n = do
  s ← sent code n
  pure s.done
