-- A shot that is cut in two, and the numbers of its answers. Assumes nothing.
use Prim.Native.Nat.{ℕ}
use mathlib.Core.Path.{◌≡◌, refl, sym, ap, ◌∙◌}
use mathlib.Core.List.{List, [], ◌∷◌, ◌++◌, append-nil, append_assoc}
use lib.ListN.{length, take}
use lib.Seq.{take-append_seam}
use Rattle.frame_header.specs.declared.Header.{Header}
use Rattle.reading.specs.declared.FrameAnswer.{FrameAnswer}
use Rattle.reading.specs.declared.Verdict.{Verdict}
use Rattle.reading.specs.declared.Verdict.TheVariants.{Accepted, Refused}
use Rattle.reading.specs.Answer.{answer_numbers}
use Rattle.asked_frame.specs.Answer.{State, Done}
use Rattle.calls.specs.Call.{Call}
use Rattle.packet_list.specs.Packets.{answer_size}
use Rattle.shot_packets.specs.Play.{Shot, state_of, call_of, after, one_more, played, numbers_of, all_numbers}

module _ (does : State → Call → Done) (table : List ℕ) where
  -- "An empty list changes nothing"
  pub shot_none : (h : Shot) → played does table h [] ≡ h
  unfolding played
  shot_none h = refl

  -- one packet is the frame call
  pub shot_one : (h : Shot) (p : List ℕ) → played does table h (p ∷ []) ≡ after h (does (state_of h) (call_of table h p))
  unfolding played one_more
  shot_one h p = refl

  -- a shot may be cut anywhere
  pub shot_cut : (h : Shot) (ps qs : List (List ℕ)) → played does table h (ps ++ qs) ≡ played does table (played does table h ps) qs
  unfolding played
  shot_cut h [] qs = refl
  shot_cut h (p ∷ ps) qs = shot_cut (one_more does table h p) ps qs

-- the answers of a list and one more
pub numbers_more : (list : List FrameAnswer) (a : FrameAnswer) → all_numbers (list ++ (a ∷ [])) ≡ all_numbers list ++ numbers_of a
unfolding all_numbers
numbers_more [] a = append-nil (numbers_of a)
numbers_more (b ∷ list) a = ap (λ (l : List ℕ). numbers_of b ++ l) (numbers_more list a) ∙ sym (append_assoc (numbers_of b) (all_numbers list) (numbers_of a))

-- each has 8
numbers_long : (v : Verdict) (h : Header) → length (answer_numbers v h) ≡ answer_size
unfolding answer_numbers
numbers_long (Accepted t) h = refl
numbers_long (Refused k e) h = refl

pub numbers_first : (a : FrameAnswer) (behind : List ℕ) → take answer_size (numbers_of a ++ behind) ≡ numbers_of a
numbers_first a behind = ap (λ (k : ℕ). take k (numbers_of a ++ behind)) (sym (numbers_long a.verdict a.header)) ∙ take-append_seam (numbers_of a) behind
