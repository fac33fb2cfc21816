-- What an accepted packet leaves in a memory of n bytes, and which memories are such, for any parser of a packet.
use Rattle.std.specs.Prelude.{ℕ, ◌<◌, ◌≡◌, List, Bool, false, ◌&&◌, eqb, length, get_or}
use Rattle.bitstream.specs.Reading.{Outcome, got, refused, Parse}
use Rattle.table_memory.specs.Kept.{kept, clear_from}

-- every element is a byte
abbrev pub Bytes : List ℕ → Type 0
Bytes t = (k : ℕ) → k < length t → get_or t k 0 < 256

-- accepted, with nothing but zeros behind
abbrev pub ends_clear : {A : Type 0} → List ℕ → Outcome A → Bool
ends_clear t (got a e) = clear_from t e
ends_clear t (refused k e) = false

module _ {A : Type 0} (m : Parse A) (n : ℕ) where
  -- the packet p is accepted, and t is what it leaves
  abbrev pub Leaves : List ℕ → List ℕ → Type 0
  Leaves p t = (a : A) × (e : ℕ) × (m p 0 ≡ got a e) × (t ≡ kept p e n)

  -- the test: the length, and the memory read as a packet
  unfoldable pub genuine : List ℕ → Bool
  genuine t = eqb (length t) n && ends_clear t (m t 0)
