-- What the code answers and leaves.
use Rattle.std.specs.Prelude.{ℕ, ◌≡◌, List, length, take, drop}
use Rattle.bitstream.specs.Reading.{Outcome, got, refused}
use Rattle.bitstream.specs.Answer.{IfGot}
use Rattle.coded_flags.specs.declared.SuperRead.{SuperRead}
use Rattle.coded_flags.specs.declared.SuperRead.TheVariants.{At, Refused}
use Rattle.coded_flags.specs.Flags.{SuperFlags}

-- how many of the super blocks are not partly coded, and the place behind both strings
abbrev pub as_supers : Outcome SuperFlags → SuperRead
as_supers (got s e) = At (length s.full) e
as_supers (refused k e) = Refused k e

-- the first string stands in the slice's first half, the second one begins its second half; after a refusal the slice is open
abbrev pub StoredSupers : List ℕ → ℕ → Outcome SuperFlags → Type 0
StoredSupers out n o = IfGot (λ s. (take n out ≡ s.partly) × (take (length s.full) (drop n out) ≡ s.full)) o
