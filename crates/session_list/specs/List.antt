-- A session as 19 numbers, and the calls of the faces for C that are lent one.
use Rattle.std.specs.Prelude.{ℕ, not, List, eqb, length, get_or}
use Rattle.bitstream.specs.Reading.{choose}
use Rattle.bitstream.specs.Numbers.{wrong_length, not_genuine}
use Rattle.headers.specs.declared.Session.{Session}
use Rattle.headers.specs.Fits.{session_fits}

-- VREV to PF; "references: 0 is no, any other number is yes"; the accepted key frames, and the other packets since the last
unfoldable pub session_of : List ℕ → Session
session_of l = record {
  fields = record {
    vrev = get_or l 0 0;
    fmbw = get_or l 1 0;
    fmbh = get_or l 2 0;
    picw = get_or l 3 0;
    pich = get_or l 4 0;
    picx = get_or l 5 0;
    picy = get_or l 6 0;
    frn = get_or l 7 0;
    frd = get_or l 8 0;
    parn = get_or l 9 0;
    pard = get_or l 10 0;
    cs = get_or l 11 0;
    nombr = get_or l 12 0;
    qual = get_or l 13 0;
    kfgshift = get_or l 14 0;
    pf = get_or l 15 0;
  };
  references = not (eqb (get_or l 16 0) 0);
  key_frames = get_or l 17 0;
  others = get_or l 18 0;
}

-- by what the lists of a call on a session are refused before it is made, 0 if by nothing. A session's list of another length than 19 is 1: there is no
-- session to judge. A list for the answer that has not the n numbers wanted is 1 behind "that" (the identification part of 8); where it has them, the call itself says 8
unfoldable pub lists_number : (n : ℕ) → (session : List ℕ) → (room : ℕ) → ℕ
lists_number n session room = choose (eqb (length session) 19) (choose (eqb room n) 0 (choose (session_fits (session_of session)) wrong_length not_genuine)) wrong_length

-- what a call returns, and what the list lent for its answer holds afterwards
pub record Returned : Type 0 where
  pub number : ℕ
  pub left : List ℕ

-- 0 and the answer's numbers; or the number of a refusal, and the list as it was
abbrev pub gives : ℕ → List ℕ → Returned
gives k l = record { number = k; left = l }

-- what a call returns, and what the two lists hold afterwards that are lent to it to be written: what it is about (a session, table memory) and the numbers of its answer
pub record Answered : Type 0 where
  pub number : ℕ
  pub lent : List ℕ
  pub left : List ℕ

abbrev pub answers : ℕ → (lent left : List ℕ) → Answered
answers k lent left = record { number = k; lent = lent; left = left }

-- the calls on a session, whose answer has n numbers
unfoldable pub on_list : ℕ → List ℕ → List ℕ → (Session → Returned) → Returned
on_list n session old call =
    let k = lists_number n session (length old) in
    choose (eqb k 0) (call (session_of session)) (gives k old)
