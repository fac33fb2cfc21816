-- "Say where it broke": where the place of a refusal lies, and which refusals have one.
use Rattle.std.specs.Prelude.{ℕ, ◌≤◌, ◌≡◌, true, false, List, [], ◌∷◌}
use Rattle.bitstream.specs.Bits.{bits}
use Rattle.bitstream.specs.Lists.{among}
use Rattle.bitstream.specs.Reading.{refused}
use Rattle.headers.specs.Identification.{identification}
use Rattle.setup.specs.Table.{setup_outcome}
use Rattle.asked_frame.specs.Answer.{State}
use Rattle.calls.specs.Call.{Call, outcome_of}

-- "each refusal found inside a packet (2 to 7 and 9 to 13)"
abbrev pub inside_numbers : List ℕ
inside_numbers = 2 ∷ 3 ∷ 4 ∷ 5 ∷ 6 ∷ 7 ∷ 9 ∷ 10 ∷ 11 ∷ 12 ∷ 13 ∷ []

-- what is said of a refusal by a number and a place in a packet: the place is one of the packet's bits, or the place behind the last;
-- "1, 8 and later numbers keep place 0"; and no other number comes
pub record Placed (packet : List ℕ) (others : List ℕ) (k e : ℕ) : Type 0 where
  pub inside : e ≤ bits packet
  pub none : among inside_numbers k ≡ false → e ≡ 0
  pub known : among inside_numbers k ≡ false → among others k ≡ true

pub record Places : Type 0 where
  pub of_identification : (p : List ℕ) (k e : ℕ) → identification p 0 ≡ refused k e → Placed p [] k e
  pub of_setup : (room : ℕ) (p : List ℕ) (k e : ℕ) → setup_outcome room p ≡ refused k e → Placed p (1 ∷ []) k e
  pub of_frame : (st : State) (c : Call) (k e : ℕ) → outcome_of st c ≡ refused k e → Placed c.packet (1 ∷ 8 ∷ 17 ∷ []) k e
