-- "Vectors (inter)": how a vector is sent.
use Rattle.std.specs.Prelude.{ℕ, ◌+◌, ◌-◌, [], ◌∷◌, eqb, ltb, ℤ, pos, get_or}
use Rattle.numeric.specs.Sign.{with_sign}
use Rattle.bitstream.specs.Reading.{Outcome, got, refused, Parse, pure, pick, choose, field, whole, ◌>>=◌}
use Rattle.block_record.specs.declared.Vector.{Vector}
use Rattle.motion_reader.specs.declared.ComponentRead.{ComponentRead}
use Rattle.motion_reader.specs.declared.ComponentRead.TheVariants as component-read
use Rattle.motion_reader.specs.declared.VectorRead.{VectorRead}
use Rattle.motion_reader.specs.declared.VectorRead.TheVariants as vector-read

-- "bits added to .. and a sign bit": n bits, added to a
unfoldable pub added : ℕ → ℕ → Parse ℤ
added n a = do
  v ← field n
  s ← field 1
  pure (with_sign s (a + v))

-- "000 is 0, 001/010 ±1"
unfoldable pub shortest : ℕ → ℤ
shortest t = choose (eqb t 0) (pos 0) (with_sign (t - 1) 1)

-- "0110/0111 ±2, 1000/1001 ±3, then 101, 110, 111 with 2, 3, 4 bits added to 4, 8, 16 and a sign bit": by the first three bits, from 011 on
unfoldable pub width : ℕ → ℕ
width t = get_or (0 ∷ 0 ∷ 2 ∷ 3 ∷ 4 ∷ []) (t - 3) 0

unfoldable pub least : ℕ → ℕ
least t = get_or (2 ∷ 3 ∷ 4 ∷ 8 ∷ 16 ∷ []) (t - 3) 0

-- the variable code, by its first three bits
unfoldable pub variable : Parse ℤ
variable = do
  t ← field 3
  pick (ltb t 3) (pure (shortest t)) (added (width t) (least t))

-- "0 variable code, 1 five bits and a sign"
unfoldable pub by_code : ℕ → Parse ℤ
by_code code = pick (eqb code 0) variable (added 5 0)

-- a component that is cut is reported at its first bit
unfoldable pub component : ℕ → Parse ℤ
component code = whole (by_code code)

-- "x then y"
unfoldable pub vector : ℕ → Parse Vector
vector code = do
  x ← component code
  y ← component code
  pure (record { x = x; y = y })

-- ---- what the code answers
abbrev pub as_component : Outcome ℤ → ComponentRead
as_component (got v e) = component-read.Got v e
as_component (refused k e) = component-read.Refused k e

abbrev pub as_vector : Outcome Vector → VectorRead
as_vector (got v e) = vector-read.Got v e
as_vector (refused k e) = vector-read.Refused k e
