-- "How much work can a packet cause?": the number of tokens that an accepted frame answers, and its bound.
use Rattle.std.specs.Prelude.{ℕ, ◌*◌, ◌≤◌, ◌≡◌, false, [], ◌∷◌, length, replicate}
use Rattle.bitstream.specs.Reading.{got}
use Rattle.geometry.specs.declared.PixelFormat.TheVariants.{Chroma420}
use Rattle.huffman.specs.Tree.{leaf}
use Rattle.frame_packet.specs.Frame.{Frame, frame_packet}
use Rattle.work_memory.specs.Lengths.{blocks}
use Rattle.reading.specs.declared.Verdict.TheVariants.{Accepted}
use Rattle.reading.specs.Answer.{Asked}
use Rattle.asked_frame.specs.Answer.{Way, State}
use Rattle.calls.specs.Call.{Call, outcome_of, by_rules}

-- what is said of an accepted call, of which a is what its packet says
pub record TokensOf (st : State) (c : Call) (a : Asked) : Type 0 where
  -- "It must be the count that the reading rules themselves give"
  pub answered : (way : Way) → (by_rules way st c).answer.verdict ≡ Accepted a.frame.body.tokens.tokens
  -- "never above 64 times the number of coded blocks", which are at most all blocks of the frame
  pub bounded : a.frame.body.tokens.tokens ≤ 64 * length a.frame.body.coded
  pub coded : length a.frame.body.coded ≤ blocks st.session
  -- "0 for an empty packet"
  pub none : c.packet ≡ [] → a.frame.body.tokens.tokens ≡ 0

abbrev pub TokensCounted : Type 0
TokensCounted = (st : State) (c : Call) (a : Asked) (e : ℕ) → outcome_of st c ≡ got a e → TokensOf st c a

-- the bound is reached: four bytes, with trees that are lone leaves of the token 9 (the value 1), and 64 tokens for each of the 6 blocks. So work is bounded by the frame and not by the packet
abbrev pub TokensReached : Type 0
TokensReached =
    (fr : Frame) × (e : ℕ) × (frame_packet Chroma420 1 1 (replicate 80 (leaf 9)) false (0x10 ∷ 0x00 ∷ 0x00 ∷ 0x00 ∷ []) ≡ got fr e)
    × (length fr.body.coded ≡ 6) × (fr.body.tokens.tokens ≡ 64 * 6)
