-- Reports that recordings are added to.
use Rattle.std.specs.Prelude.{ℕ, ◌≤◌, ◌≡◌, List, get_or}
use Rattle.census_packets.specs.Recording.{Lent}
use Rattle.census.specs.Call.{count_number, count_report}

-- no number falls
abbrev pub NothingFalls : Type 0
NothingFalls = (l : Lent) (packets : List (List ℕ)) (report : List ℕ) (i : ℕ) → get_or report i 0 ≤ get_or (count_report l packets report) i 0

-- the report after two recordings
abbrev pub both : Lent → (first second : List (List ℕ)) → List ℕ → List ℕ
both l first second report = count_report l second (count_report l first report)

-- two recordings that are both counted give the same report in either order
abbrev pub EitherOrder : Type 0
EitherOrder = (l : Lent) (first second : List (List ℕ)) (report : List ℕ) → count_number l first report ≡ 0 → count_number l second (count_report l first report) ≡ 0
    → (count_number l second report ≡ 0) × (count_number l first (count_report l second report) ≡ 0) × (both l first second report ≡ both l second first report)
