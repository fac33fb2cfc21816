-- A frame call, one law for each way that it goes. Assumes nothing.
use Prim.Native.Nat.{ℕ}
use native.Mathlib.Omega.{arith}
use mathlib.Core.Path.{◌≡◌, refl, sym, ap, ◌∙◌}
use mathlib.Core.List.{List}
use mathlib.Core.Bool.{Bool, true, false, ◌&&◌}
use Rattle.bitstream.specs.Reading.{refused, choose}
use Rattle.bitstream.specs.Answer.{readable}
use Rattle.headers.specs.declared.Session.{Session}
use Rattle.headers.specs.Fits.{session_fits}
use Rattle.ways.specs.Ways.{first_way}
use Rattle.reading.specs.declared.FrameAnswer.{FrameAnswer}
use Rattle.work_memory.specs.Memory.{Memory}
use Rattle.work_memory.specs.Lengths.{lengths_of, cleared}
use Rattle.reading.specs.Answer.{read, answer_for}
use Rattle.asked_frame.specs.Answer.{State, Done, state, done, new_by, decoded}
use Rattle.reading.proofs.Readable.{read_readable}
use Rattle.calls.specs.Call.{Call, call, lengths_hold, lent_number, outcome_of, memory_after, by_rules}

module _ (s : Session) (golden previous packet table new : List ℕ) (m : Memory) where
  abbrev st : State
  st = state s golden previous

  abbrev c : Call
  c = call packet table m new

  -- ---- the tests of what is lent
  -- what passes both
  pub passes : lent_number st c ≡ 0 → (session_fits s ≡ true) × (lengths_hold st c ≡ true)
  unfolding lent_number
  passes h = go (session_fits s) (lengths_hold st c) h
    where
      go : (x y : Bool) → ◌≡◌ {A = ℕ} (choose x (choose y 0 1) 8) 0 → (x ≡ true) × (y ≡ true)
      go true true h = (refl, refl)
      go true false h = absurd (omega arith)
      go false y h = absurd (omega arith)

  -- what does not, of a session that fits
  pub fails : session_fits s ≡ true → (lent_number st c ≡ 0 → ⊥) → lengths_hold st c ≡ false
  unfolding lent_number
  fails f h = go (session_fits s) (lengths_hold st c) f h
    where
      go : (x y : Bool) → x ≡ true → (◌≡◌ {A = ℕ} (choose x (choose y 0 1) 8) 0 → ⊥) → y ≡ false
      go true true f h = absurd (h refl)
      go true false f h = refl
      go false true f h = sym f
      go false false f h = refl

  -- ---- the ways of a call
  pub call_refused : (k : ℕ) → k ≡ lent_number st c → (k ≡ 0 → ⊥) → (a : FrameAnswer) → a ≡ answer_for s (refused k 0) → done a new m ≡ by_rules first_way st c
  unfolding by_rules outcome_of memory_after lent_number
  call_refused k h n a e = ap (λ (a : FrameAnswer). done a new m) e ∙ go (session_fits s) (lengths_hold st c) k h n
    where
      go : (x y : Bool) (k : ℕ) → k ≡ choose x (choose y 0 1) 8 → (k ≡ 0 → ⊥)
          → done (answer_for s (refused k 0)) new m
          ≡ done (answer_for s (choose x (choose y (read s table packet) (refused 1 0)) (refused 8 0))) (new_by first_way st new (choose x (choose y (read s table packet) (refused 1 0)) (refused 8 0))) (choose (x && y) (cleared (lengths_of s)) m)
      go true true k h n = absurd (n h)
      go true false k h n = ap (λ (k : ℕ). done (answer_for s (refused k 0)) new m) h
      go false y k h n = ap (λ (k : ℕ). done (answer_for s (refused k 0)) new m) h

  pub call_decoded : session_fits s ≡ true → lengths_hold st c ≡ true → (d : Done) → d ≡ decoded first_way st new (read s table (readable packet)) → d ≡ by_rules first_way st c
  unfolding by_rules outcome_of memory_after
  call_decoded h l d e = rw (h, l) (e ∙ ap (decoded first_way st new) (read_readable s h table packet))
