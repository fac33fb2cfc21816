-- The quantization parameters of the setup header, as 002 lists them ("Quantization Parameters Decode").
use Rattle.std.specs.Prelude.{ℕ, zero, suc, ◌+◌, ◌-◌, List, [], ◌∷◌, ◌++◌, eqb, leb, length, get_or}
use Rattle.bitstream.specs.Reading.{Parse, pure, ◌>>=◌, here, pick, field, judged, many, until}
use Rattle.bitstream.specs.Numbers.{bad_setup}
use Rattle.set_fields.specs.Fields.{index, range_size, origin}

-- a set of quant ranges: their sizes, QRSIZES, and the base matrix indices at their ends, QRBMIS, of which there is one more
pub record Ranges : Type 0 where
  pub sizes : List ℕ
  pub indices : List ℕ

-- the parameters: ACSCALE, DCSCALE, the base matrices with the place of the first of them in the packet, and the sets of the quantization types 0 and 1 and the planes 0 to 2, in this order
pub record Quantization : Type 0 where
  pub ac_scale : List ℕ
  pub dc_scale : List ℕ
  pub matrices_at : ℕ
  pub matrices : List (List ℕ)
  pub sets : List Ranges

-- 64 scale values, whose width less one a field of 4 bits says
unfoldable pub scales : Parse (List ℕ)
scales = do
  w ← field 4
  many 64 (field (w + 1))

-- NBMS, one more than its field says. "NBMS above 384" is 7 at the field
unfoldable pub matrix_count : Parse ℕ
matrix_count = do
  v ← judged 9 (λ v. leb (v + 1) 384) bad_setup
  pure (v + 1)

-- one base matrix: 64 numbers of 8 bits
unfoldable pub base_matrix : Parse (List ℕ)
base_matrix = many 64 (field 8)

-- a set that is being read: the qi that its last range ends at, its sizes and its indices so far
pub record Begun : Type 0 where
  pub reached : ℕ
  pub sizes : List ℕ
  pub indices : List ℕ

-- one range more, of size v + 1, that ends at base matrix b
abbrev pub with_range : Begun → ℕ → ℕ → Begun
with_range s v b = record { reached = s.reached + (v + 1); sizes = s.sizes ++ (v + 1) ∷ []; indices = s.indices ++ b ∷ [] }

-- one range more: its size, and the index at its end
unfoldable pub range : ℕ → Begun → Parse Begun
range n s = do
  v ← range_size s.reached
  b ← index n
  pure (with_range s v b)

-- a set that is new: an index, and ranges until 63 is reached, which takes at most 63 of them: no packet reaches the 7 that stands here for more (law `ranges-enough` of proofs/Soundness)
unfoldable pub new_set : ℕ → Parse Ranges
new_set n = do
  b ← index n
  s ← until (λ s. leb 63 s.reached) (range n) bad_setup 63 (record { reached = 0; sizes = []; indices = b ∷ [] })
  pure (record { sizes = s.sizes; indices = s.indices })

-- no ranges
abbrev pub none : Ranges
none = record { sizes = []; indices = [] }

-- the set after those that are done: new, or a copy of the one that stands so many before it
unfoldable pub set_from : ℕ → List Ranges → ℕ → Parse Ranges
set_from n done back = pick (eqb back 0) (new_set n) (pure (get_or done (length done - back) none))

-- the sets that are done, and k more, each by its origin
unfoldable pub more_sets : ℕ → ℕ → List Ranges → Parse (List Ranges)
more_sets zero n done = pure done
more_sets (suc k) n done = do
  back ← origin (length done)
  r ← set_from n done back
  more_sets k n (done ++ r ∷ [])

-- the parameters in the order of the header: AC scales, DC scales, NBMS, the base matrices, the six sets
unfoldable pub quantization : Parse Quantization
quantization = do
  ac ← scales
  dc ← scales
  n ← matrix_count
  at ← here
  ms ← many n base_matrix
  sets ← more_sets 6 n []
  pure (record { ac_scale = ac; dc_scale = dc; matrices_at = at; matrices = ms; sets = sets })
