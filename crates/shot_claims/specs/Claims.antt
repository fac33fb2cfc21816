-- What is promised of shots beside the call itself: a shot is a list of frame calls; when it is refused by 16; what does not matter.
use Rattle.std.specs.Prelude.{ℕ, ◌<◌, ◌≡◌, true, false, List, [], ◌∷◌, ◌++◌, map, length, drop}
use Rattle.bitstream.specs.Numbers.{past_packets}
use Rattle.headers.specs.declared.Session.{Session}
use Rattle.setup.specs.Table.{is_table}
use Rattle.ways.specs.Ways.{first_way, second_way}
use Rattle.reading.specs.declared.FrameAnswer.{FrameAnswer}
use Rattle.asked_frame.specs.Answer.{State, Done, Way, state}
use Rattle.calls.specs.Call.{Call, by_rules}
use Rattle.calls.specs.Demand.{Turn, turns, Demand3}
use Rattle.padding.specs.Padding.{SettledCall}
use Rattle.packet_list.specs.Packets.{packets_in, total}
use Rattle.shot_packets.specs.Play.{Shot, state_of, call_of, after, one_more, played}
use Rattle.opening.specs.Call.{ShotCall, lent_number, shot_number}
use Rattle.shot.specs.Call.{start_of, ended, by_shot}

-- ---- a shot as a list of calls, in demand 3's sense
-- the calls that a shot makes, and the shot after each of them
unfoldable pub calls_of : (State → Call → Done) → (table : List ℕ) → Shot → List (List ℕ) → List Call
calls_of does table h [] = []
calls_of does table h (p ∷ ps) = call_of table h p ∷ calls_of does table (one_more does table h p) ps

unfoldable pub shots_of : (State → Call → Done) → (table : List ℕ) → Shot → List (List ℕ) → List Shot
shots_of does table h [] = []
shots_of does table h (p ∷ ps) = let n = one_more does table h p in n ∷ shots_of does table n ps

abbrev pub answer_of : Turn → FrameAnswer
answer_of t = t.done.answer

abbrev pub after_of : Turn → State
after_of t = t.after

pub record InTurns (way : Way) (table : List ℕ) (h : Shot) (ps : List (List ℕ)) : Type 0 where
  -- "answers equal those of one call per packet"
  pub answers : (played (by_rules way) table h ps).answers ≡ h.answers ++ map answer_of (turns (by_rules way) (state_of h) (calls_of (by_rules way) table h ps))
  -- "planes, session": after each call they are what the call hands on, in the buffers that are named
  pub states : map state_of (shots_of (by_rules way) table h ps) ≡ map after_of (turns (by_rules way) (state_of h) (calls_of (by_rules way) table h ps))

-- of every call that is not refused; so demand 3 holds of its packets, and both ways to make frames give the same shot
pub record ShotTurns (c : ShotCall) : Type 0 where
  pub in_turns : shot_number c ≡ 0 → length c.planes ≡ 3 → (way : Way) → InTurns way c.table (start_of c) (packets_in c.lengths c.joined)
  pub demand3 : Demand3 (state_of (start_of c)) (calls_of (by_rules first_way) c.table (start_of c) (packets_in c.lengths c.joined))
  pub ways_agree : by_shot first_way c ≡ by_shot second_way c

-- ---- cutting: two shots one after the other are one, the second beginning where the first ends; one packet is the frame call
pub record Cuts (does : State → Call → Done) (table : List ℕ) (h : Shot) : Type 0 where
  pub anywhere : (first second joined : List ℕ)
      → played does table h (packets_in (first ++ second) joined) ≡ played does table (played does table h (packets_in first joined)) (packets_in second (drop (total first) joined))
  pub one : (p : List ℕ) → played does table h (p ∷ []) ≡ after h (does (state_of h) (call_of table h p))
  pub none : played does table h [] ≡ h

-- ---- 16 exactly where everything else passes, and the lengths reach past the packets' end
abbrev pub SixteenExactly : Type 0
SixteenExactly = (c : ShotCall)
    → ((lent_number c ≡ 0) × (is_table c.table ≡ true) × (length c.joined < total c.lengths) → shot_number c ≡ past_packets)
    × (shot_number c ≡ past_packets → (lent_number c ≡ 0) × (is_table c.table ≡ true) × (length c.joined < total c.lengths))

-- ---- without references what is lent as golden and previous, and is as long, does not matter
abbrev pub Alone : Type 0
Alone = (s : Session) (golden previous golden' previous' : List ℕ) (c : Call) → s.references ≡ false → length golden ≡ length golden' → length previous ≡ length previous'
    → by_rules first_way (state s golden previous) c ≡ by_rules first_way (state s golden' previous') c

-- ---- "Padding from the old recorder", of shots
-- the packets of a shot, each with bytes of its own behind it, or with none
unfoldable pub padded_by : List (List ℕ) → List (List ℕ) → List (List ℕ)
padded_by [] ps = ps
padded_by (more ∷ rest) [] = []
padded_by (more ∷ rest) (p ∷ ps) = (p ++ more) ∷ padded_by rest ps

-- no packet of a shot is empty or refused by 4
unfoldable pub AllSettled : Way → (table : List ℕ) → Shot → List (List ℕ) → Type 0
AllSettled way table h [] = Unit {0}
AllSettled way table h (p ∷ ps) = SettledCall (state_of h) (call_of table h p) × AllSettled way table (one_more (by_rules way) table h p) ps

abbrev pub ShotsPadded : Type 0
ShotsPadded = (way : Way) (table : List ℕ) (h : Shot) (ps mores : List (List ℕ)) → AllSettled way table h ps → played (by_rules way) table h (padded_by mores ps) ≡ played (by_rules way) table h ps
