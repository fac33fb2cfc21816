-- The calls of a shot are a list of calls in demand 3's sense. Assumes nothing.
use Prim.Native.Nat.{ℕ}
use native.Mathlib.Omega.{arith}
use mathlib.Core.Path.{◌≡◌, refl, sym, ap, ap₂, ◌∙◌, fun_ext}
use mathlib.Core.List.{List, [], ◌∷◌, ◌++◌, map, append-nil, append_assoc}
use lib.Dec.{eqb}
use lib.ListN.{length}
use Rattle.bitstream.specs.Reading.{choose}
use Rattle.ways.specs.Ways.{first_way}
use Rattle.reading.specs.declared.FrameAnswer.{FrameAnswer}
use Rattle.asked_frame.specs.Answer.{State, Done, Way}
use Rattle.calls.specs.Call.{Call, by_rules}
use Rattle.calls.specs.Demand.{turns}
use Rattle.calls.proofs.Demand.{call_agrees, demand3}
use Rattle.packet_list.specs.Packets.{packets_in}
use Rattle.buffer_names.specs.Names.{Sound}
use Rattle.buffer_names.proofs.First.{sound_first}
use Rattle.shot_packets.specs.Play.{Shot, state_of, call_of, after, one_more, played}
use Rattle.shot_packets.proofs.Rules.{state_handed, three_after, sound_after}
use Rattle.opening.specs.Call.{ShotCall, shot_number}
use Rattle.shot.specs.Call.{ShotDone, start_of, ended, unchanged, by_shot}
use Rattle.shot_claims.specs.Claims.{calls_of, shots_of, answer_of, after_of, InTurns, ShotTurns}
use Rattle.opening.proofs.Calls.{passes, accepted}

module _ (way : Way) (table : List ℕ) where
  states : (h : Shot) → length h.planes ≡ 3 → Sound h.session h.names → (ps : List (List ℕ))
      → map state_of (shots_of (by_rules way) table h ps) ≡ map after_of (turns (by_rules way) (state_of h) (calls_of (by_rules way) table h ps))
  unfolding turns calls_of shots_of one_more
  states h three sound [] = refl
  states h three sound (p ∷ ps) =
      let c = call_of table h p in
      let d = by_rules way (state_of h) c in
      let e = state_handed h three sound d in
      ap₂ {C = List State} (λ x xs. x ∷ xs) e
      (states (after h d) (three_after h three sound d) (sound_after h three sound way c) ps
      ∙ ap (λ (st : State). map after_of (turns (by_rules way) st (calls_of (by_rules way) table (after h d) ps))) e)

  answers : (h : Shot) → length h.planes ≡ 3 → Sound h.session h.names → (ps : List (List ℕ))
      → (played (by_rules way) table h ps).answers ≡ h.answers ++ map answer_of (turns (by_rules way) (state_of h) (calls_of (by_rules way) table h ps))
  unfolding turns calls_of played one_more
  answers h three sound [] = sym (append-nil h.answers)
  answers h three sound (p ∷ ps) =
      let c = call_of table h p in
      let d = by_rules way (state_of h) c in
      let e = state_handed h three sound d in
      answers (after h d) (three_after h three sound d) (sound_after h three sound way c) ps
      ∙ append_assoc h.answers (d.answer ∷ []) _
      ∙ ap (λ (st : State). h.answers ++ (d.answer ∷ map answer_of (turns (by_rules way) st (calls_of (by_rules way) table (after h d) ps)))) e

pub shot_turns : (c : ShotCall) → ShotTurns c
unfolding by_shot
shot_turns c = record {
  in_turns = λ h three way.
      let sound = sound_first c.session c.names (passes c (accepted c h).0).2 in
      let ps = packets_in c.lengths c.joined in
      record { answers = answers way c.table (start_of c) three sound ps; states = states way c.table (start_of c) three sound ps };
  demand3 = demand3 (state_of (start_of c)) (calls_of (by_rules first_way) c.table (start_of c) (packets_in c.lengths c.joined));
  ways_agree =
      ap (λ (f : State → Call → Done). choose (eqb (shot_number c) 0) (ended (played f c.table (start_of c) (packets_in c.lengths c.joined))) (unchanged (shot_number c) c))
      (fun_ext (λ st. fun_ext (λ call. call_agrees st call)));
}
