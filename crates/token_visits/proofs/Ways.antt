-- The ways that a pass can go. Assumes nothing.
use Prim.Native.Nat.{ℕ, ◌+◌, ◌≤◌, ◌<◌}
use native.Mathlib.Numerals.{add-one}
use mathlib.Core.Path.{◌≡◌}
use mathlib.Core.List.{List}
use lib.ListN.{length, get_or, drop, drop_of_length-le}
use lib.Seq.{drop-cons}
use Rattle.bitstream.specs.Reading.{got, refused}
use Rattle.huffman.specs.Tree.{Tree}
use Rattle.block_visits.specs.Visits.{TokenState, visit}
use Rattle.token_visits.specs.Visits.{pass}

-- ---- a turn of a pass over the blocks bs, at the index j
module _ (tree : Tree) (k : ℕ) (bs : List ℕ) (j : ℕ) (s : TokenState) (p : List ℕ) (i : ℕ) where
  pub pass_none : length bs ≤ j → pass tree k (drop j bs) s p i ≡ got s i
  unfolding pass
  pass_none h = rw (drop_of_length-le bs h)

  pub pass_got : j < length bs → {s' : TokenState} {e : ℕ} → visit tree k (get_or bs j 0) s p i ≡ got s' e → pass tree k (drop j bs) s p i ≡ pass tree k (drop (j + 1) bs) s' p e
  unfolding pass
  pass_got l h = rw (drop-cons bs j 0, add-one, h)

  pub pass_refused : j < length bs → {n e : ℕ} → visit tree k (get_or bs j 0) s p i ≡ refused n e → pass tree k (drop j bs) s p i ≡ refused n e
  unfolding pass
  pass_refused l h = rw (drop-cons bs j 0, h)
