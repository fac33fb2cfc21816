-- What a visit answers and leaves, as outcomes of the reading algebra.
use Rattle.std.specs.Prelude.{ℕ, ◌*◌, ◌^◌, ◌≤◌, ◌≡◌, List, [], length, ℤ}
use Rattle.bitstream.specs.Reading.{Outcome, got, refused, after}
use Rattle.bitstream.specs.Answer.{IfGot}
use Rattle.token.specs.Token.{Meaning, end_of_block, zero_run, coefficient}
use Rattle.token.specs.declared.Token.{Token}
use Rattle.token.specs.declared.Token.TheVariants as t
use Rattle.block_visits.specs.Visits.{TokenState, act}
use Rattle.block_visits.specs.declared.Visit.{Visit}
use Rattle.block_visits.specs.declared.Visit.TheVariants as visit

abbrev pub as_visit : Outcome TokenState → Visit
as_visit (got s e) = visit.Done e s.run s.tokens
as_visit (refused k e) = visit.Refused k e

-- what stands in the slices after an outcome; after a refusal that is open
abbrev pub Kept : List ℕ → List ℕ → List ℤ → Outcome TokenState → Type 0
Kept ps ls cs o = IfGot (λ s. (ps ≡ s.positions) × (ls ≡ s.lasts) × (cs ≡ s.coefs)) o

-- the answer and the slices together
abbrev pub Visited : Visit → List ℕ → List ℕ → List ℤ → Outcome TokenState → Type 0
Visited r ps ls cs o = (r ≡ as_visit o) × Kept ps ls cs o

-- what a reader's answer says
abbrev pub outcome_of : Token → Outcome Meaning
outcome_of (t.EndOfBlock n e) = got (end_of_block n) e
outcome_of (t.ZeroRun n e) = got (zero_run n) e
outcome_of (t.Coefficient n v e) = got (coefficient n v) e
outcome_of (t.Refused k e) = refused k e

-- what a token that was read does; `act` looks at no packet
abbrev pub acted : ℕ → ℕ → ℕ → TokenState → Outcome Meaning → Outcome TokenState
acted k b at s o = after o (λ m e. act k b at m s [] e)

-- one element, or 64, for each of at most 2^36 blocks
pub record Shape (ps ls : List ℕ) (cs : List ℤ) : Type 0 where
  pub lasts : length ls ≡ length ps
  pub coefs : length cs ≡ 64 * length ps
  pub few : length ps ≤ 2 ^ 36
