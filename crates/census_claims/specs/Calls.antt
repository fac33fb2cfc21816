-- A recording's frame packets as frame calls, in demand 3's sense.
use Rattle.std.specs.Prelude.{ℕ, ◌≡◌, List, [], ◌∷◌}
use Rattle.asked_frame.specs.Answer.{State, Way, state}
use Rattle.calls.specs.Call.{Call, call, lengths_hold, outcome_of, by_rules}
use Rattle.calls.specs.Demand.{Turn, turns}
use Rattle.report.specs.Report.{plus, nothing}
use Rattle.census_packets.specs.Recording.{Lent, outcome_lent, packet_adds, packets_add}

-- what the calls of a list add: each by its session and its outcome
unfoldable pub turns_add : List Turn → List ℕ
turns_add [] = nothing
turns_add (t ∷ ts) = plus (packet_adds t.before.session (outcome_of t.before t.call)) (turns_add ts)

-- calls of these packets with this table memory, lent planes and work memory of which the test of lengths says the same
unfoldable pub Alike : Lent → (table : List ℕ) → List Turn → List (List ℕ) → Type 0
Alike l table [] [] = Unit {0}
Alike l table [] (p ∷ ps) = ⊥
Alike l table (t ∷ ts) [] = ⊥
Alike l table (t ∷ ts) (p ∷ ps) =
    (t.call.packet ≡ p) × (t.call.table ≡ table)
    × (lengths_hold t.before t.call ≡ lengths_hold (state t.before.session l.golden l.previous) (call p table l.memory l.new))
    × Alike l table ts ps

-- a recording adds what frame calls of its packets add that are handed on from call to call, whatever planes and work memory hold
abbrev pub AsCalls : Type 0
AsCalls = (l : Lent) (table : List ℕ) (way : Way) (st : State) (calls : List Call) (packets : List (List ℕ)) → Alike l table (turns (by_rules way) st calls) packets
    → turns_add (turns (by_rules way) st calls) ≡ packets_add (outcome_lent l table) st.session packets
