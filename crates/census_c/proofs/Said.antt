-- The face returns what the call answers. Assumes nothing.
use Prim.Native.Nat.{ℕ}
use mathlib.Core.Path.{◌≡◌, ap, ◌∙◌}
use Rattle.census.specs.Call.{CensusCall, CensusDone, by_census}
use Rattle.census_c.specs.Face.{census_gives, done_returned, census_face}
use Rattle.report.specs.Answer.{number_of}

pub said : (c : CensusCall) (d : CensusDone) → d ≡ by_census c → (k : ℕ) → k ≡ number_of d.answer → census_gives k d.report d.lent ≡ census_face c
unfolding census_face
said c d h k e = (λ i. census_gives (e i) d.report d.lent) ∙ ap done_returned h
