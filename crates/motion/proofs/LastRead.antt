-- What FOUR keeps is the last vector that was read. Assumes nothing.
use mathlib.Core.Path.{◌≡◌, refl}
use mathlib.Core.List.{List, [], ◌∷◌, ◌++◌}
use mathlib.Core.Bool.{Bool, true, false, ◌||◌, false≢true}
use Rattle.bitstream.specs.Reading.{choose}
use Rattle.block_record.specs.declared.Vector.{Vector}
use Rattle.motion.specs.declared.Row.{Row}
use Rattle.motion.specs.Kept.{zero_vector, last_read}

-- the vector of one block more is read, if the block is coded
abbrev pub read_also : Bool → Vector → List Vector → List Vector
read_also coded v vs = choose coded (vs ++ v ∷ []) vs

-- the vectors that were read, in the order A, B, C, D
abbrev pub vectors_read : (a b c d : Bool) → Row → Row → List Vector
vectors_read a b c d l u = read_also d u.right (read_also c u.left (read_also b l.right (read_also a l.left [])))

-- the last of some vectors
unfoldable pub last_of : Vector → List Vector → Vector
last_of v [] = v
last_of v (w ∷ ws) = last_of w ws

last_joined : (z v : Vector) (vs : List Vector) → last_of z (vs ++ v ∷ []) ≡ v
unfolding last_of
last_joined z v [] = refl
last_joined z v (w ∷ ws) = last_joined w v ws

-- where one of the four is coded (law `four_coded` of `modes`: there always is one)
pub last_read_law : (a b c d : Bool) (l u : Row) → (a || (b || (c || d))) ≡ true → last_of zero_vector (vectors_read a b c d l u) ≡ last_read b c d l u
unfolding last_read last_of
last_read_law a b c true l u h = last_joined zero_vector u.right (read_also c u.left (read_also b l.right (read_also a l.left [])))
last_read_law a b true false l u h = last_joined zero_vector u.left (read_also b l.right (read_also a l.left []))
last_read_law a true false false l u h = last_joined zero_vector l.right (read_also a l.left [])
last_read_law true false false false l u h = refl
last_read_law false false false false l u h = absurd (false≢true h)
