-- What a packet that was read answers, and what is left to do with it. Assumes nothing.
use Prim.Native.Nat.{ℕ}
use native.Mathlib.Omega.{arith}
use mathlib.Core.Path.{◌≡◌, refl, sym, ap, ◌∙◌}
use mathlib.Core.Bool.{Bool, true, false}
use lib.ListN.{length}
use Rattle.bitstream.specs.Reading.{Outcome, got, refused, after, choose}
use Rattle.headers.specs.declared.Session.{Session}
use Rattle.setup.specs.Header.{Setup}
use Rattle.frame_header.specs.declared.Header.{Header}
use Rattle.frame_header.specs.Answer.{as_header}
use Rattle.frame_packet.specs.Frame.{Frame}
use Rattle.frame_packet.specs.Work.{as_frame}
use Rattle.frame_packet.specs.declared.FrameRead.{FrameRead}
use Rattle.packet_body.specs.declared.Read.{Read}
use Rattle.packet_body.specs.declared.Read.TheVariants.{Whole, Refused}
use Rattle.frame_packet.proofs.Held.{read_refused, read_whole}
use Rattle.reading.specs.declared.FrameAnswer.{FrameAnswer}
use Rattle.reading.specs.declared.Verdict.TheVariants.{Accepted}
use Rattle.reading.specs.Answer.{stays_counted, counted, session_after, answer_for}
use Rattle.asked_frame.specs.Next.{next_by}
use Rattle.asked_frame.specs.declared.Next.TheVariants.{Nothing, Clear, Make}

-- ---- a packet that was read
module _ (s : Session) {r : FrameRead} (setup : Setup) (o : Outcome Frame) (is : r ≡ as_frame o) where
  -- was refused
  pub answer_refused : {k e : ℕ} → r.read ≡ Refused k e → (a : FrameAnswer) → a ≡ answer_for s (refused k e) → a ≡ answer_for s (after o (counted s setup))
  answer_refused h a ea = ea ∙ ap (λ (o : Outcome Frame). answer_for s (after o (counted s setup))) (sym (read_refused o is h))

  -- or is judged by the test of the session's numbers
  module _ {n t e : ℕ} (h : r.read ≡ Whole n t e) where
    abbrev there : (fr : Frame) × (o ≡ got fr e) × (n ≡ length fr.body.coded) × (r.header ≡ as_header fr.header) × (t ≡ fr.body.tokens.tokens)
    there = read_whole o is h

    pub passes : (b : Bool) → stays_counted r.header.kind s ≡ b → after o (counted s setup) ≡ choose b (got (record { setup = setup; frame = there.0 }) e) (refused 17 0)
    passes b sc =
        ap (λ (o : Outcome Frame). after o (counted s setup)) there.1
        ∙ ap (λ (t : Bool). choose t (got (record { setup = setup; frame = there.0 }) e) (refused 17 0)) (ap (λ (x : Header). stays_counted x.kind s) (sym there.3) ∙ sc)

    pub answer_17 : stays_counted r.header.kind s ≡ false → (a : FrameAnswer) → a ≡ answer_for s (refused 17 0) → a ≡ answer_for s (after o (counted s setup))
    answer_17 sc a ea = ea ∙ ap (answer_for s) (sym (passes false sc))

    pub answer_accepted : stays_counted r.header.kind s ≡ true → (next : Session) → next ≡ session_after r.header.kind s
        → record { verdict = Accepted t; header = r.header; session = next } ≡ answer_for s (after o (counted s setup))
    answer_accepted sc next es =
        let es' = es ∙ ap (λ (x : Header). session_after x.kind s) there.3 in
        (λ i. record { verdict = Accepted (there.4 i); header = there.3 i; session = es' i }) ∙ ap (answer_for s) (sym (passes true sc))

-- ---- what is left to do tells what was read
pub left_nothing : (b : Bool) (x : Read) → next_by b x ≡ Nothing → (k : ℕ) × (e : ℕ) × (x ≡ Refused k e)
left_nothing b (Refused k e) h = (k, e, refl)
left_nothing true (Whole n t e) h = let z : ◌≡◌ {A = ℕ} 0 1 = cc in absurd (omega arith)
left_nothing false (Whole n t e) h = let z : ◌≡◌ {A = ℕ} 0 1 = cc in absurd (omega arith)

pub left_clear : (b : Bool) (x : Read) → next_by b x ≡ Clear → (n : ℕ) × (t : ℕ) × (e : ℕ) × (x ≡ Whole n t e) × (b ≡ false)
left_clear b (Refused k e) h = let z : ◌≡◌ {A = ℕ} 0 1 = cc in absurd (omega arith)
left_clear true (Whole n t e) h = let z : ◌≡◌ {A = ℕ} 0 1 = cc in absurd (omega arith)
left_clear false (Whole n t e) h = (n, t, e, refl, refl)

pub left_make : (b : Bool) (x : Read) {n : ℕ} → next_by b x ≡ Make n → (t : ℕ) × (e : ℕ) × (x ≡ Whole n t e) × (b ≡ true)
left_make b (Refused k e) h = let z : ◌≡◌ {A = ℕ} 0 1 = cc in absurd (omega arith)
left_make true (Whole m t e) {n} h = let z : m ≡ n = cc in (t, e, ap (λ (k : ℕ). Whole k t e) z, refl)
left_make false (Whole n t e) h = let z : ◌≡◌ {A = ℕ} 0 1 = cc in absurd (omega arith)

pub next_is : {b d : Bool} {x y : Read} → b ≡ d → x ≡ y → next_by b x ≡ next_by d y
next_is e f = λ i. next_by (e i) (f i)
