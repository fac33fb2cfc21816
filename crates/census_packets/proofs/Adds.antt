-- What a packet adds to a report that is being added to. Assumes nothing.
use Prim.Native.Nat.{ℕ}
use native.Mathlib.Omega.{arith}
use mathlib.Core.Path.{◌≡◌, refl, sym, ap, ◌∙◌, subst}
use mathlib.Core.List.{List, [], ◌∷◌, ◌++◌}
use lib.ListN.{length, get_or, replicate}
use Rattle.frame_header.specs.declared.Kind.{Kind}
use Rattle.reading.specs.declared.FrameAnswer.{FrameAnswer}
use Rattle.reading.specs.declared.Verdict.{Verdict}
use Rattle.reading.specs.declared.Verdict.TheVariants.{Accepted, Refused}
use Rattle.reading.specs.Answer.{kind_number}
use Rattle.counting.specs.declared.Counts.{Counts}
use Rattle.report.specs.declared.Running.{Running}
use Rattle.report.specs.Report.{plus, only, Numbered, refusal_adds}
use Rattle.report.specs.Running.{Runs}
use Rattle.report.proofs.Sums.{plus_assoc}
use Rattle.census_packets.specs.Recording.{counts_add, verdict_adds, answer_adds}
use Rattle.census_packets.specs.Inner.{AllNumbered}

three : (l : List ℕ) → length l ≡ 3 → get_or l 0 0 ∷ get_or l 1 0 ∷ get_or l 2 0 ∷ [] ≡ l
three [] h = absurd (omega arith)
three (a ∷ []) h = absurd (omega arith)
three (a ∷ b ∷ []) h = absurd (omega arith)
three (a ∷ b ∷ c ∷ []) h = refl
three (a ∷ b ∷ c ∷ d ∷ l) h = absurd (omega arith)

eight : (l : List ℕ) → length l ≡ 8
    → get_or l 0 0 ∷ get_or l 1 0 ∷ get_or l 2 0 ∷ get_or l 3 0 ∷ get_or l 4 0 ∷ get_or l 5 0 ∷ get_or l 6 0 ∷ get_or l 7 0 ∷ [] ≡ l
eight [] h = absurd (omega arith)
eight (a ∷ []) h = absurd (omega arith)
eight (a ∷ b ∷ []) h = absurd (omega arith)
eight (a ∷ b ∷ c ∷ []) h = absurd (omega arith)
eight (a ∷ b ∷ c ∷ d ∷ []) h = absurd (omega arith)
eight (a ∷ b ∷ c ∷ d ∷ e ∷ l) h =
    ap (λ (k : List ℕ). a ∷ b ∷ c ∷ d ∷ e ∷ k) (three l (omega arith))

-- the numbers of a frame, in the report's order
module _ (c : Counts) (hc : length c.coded ≡ 3) (hu : length c.uncoded ≡ 3) (hm : length c.modes ≡ 8) where
  abbrev listed : List ℕ
  listed =
      replicate 20 0
      ++ (get_or c.coded 0 0 ∷ get_or c.coded 1 0 ∷ get_or c.coded 2 0 ∷ get_or c.uncoded 0 0 ∷ get_or c.uncoded 1 0 ∷ get_or c.uncoded 2 0
      ∷ get_or c.modes 0 0 ∷ get_or c.modes 1 0 ∷ get_or c.modes 2 0 ∷ get_or c.modes 3 0 ∷ get_or c.modes 4 0 ∷ get_or c.modes 5 0 ∷ get_or c.modes 6 0 ∷ get_or c.modes 7 0 ∷ [])

  listed_is : listed ≡ replicate 20 0 ++ (c.coded ++ (c.uncoded ++ c.modes))
  listed_is = λ i. replicate 20 0 ++ (three c.coded hc i ++ (three c.uncoded hu i ++ eight c.modes hm i))

  pub frame_runs : (r : Running) (l : List ℕ) (kind : ℕ) → Runs r (plus (plus l (only kind 1)) listed) → Runs r (plus l (counts_add kind c))
  frame_runs r l kind h = subst (Runs r) (plus_assoc l (only kind 1) listed ∙ ap (λ (k : List ℕ). plus l (plus (only kind 1) k)) listed_is) h

-- ---- a packet, by its verdict
module _ (a : FrameAnswer) (c : Counts) (r : Running) (l : List ℕ) where
  pub runs_refused : {k e : ℕ} → a.verdict ≡ Refused k e → Runs r (plus l (refusal_adds k 1)) → Runs r (plus l (answer_adds a c))
  runs_refused v h = subst (λ (w : Verdict). Runs r (plus l (verdict_adds w (kind_number a.header.kind) c))) (sym v) h

  pub runs_accepted : {t : ℕ} → a.verdict ≡ Accepted t → (kind : Kind) → a.header.kind ≡ kind → Runs r (plus l (counts_add (kind_number kind) c)) → Runs r (plus l (answer_adds a c))
  runs_accepted v kind k h =
      subst (λ (w : Verdict). Runs r (plus l (verdict_adds w (kind_number a.header.kind) c))) (sym v)
      (subst (λ (n : Kind). Runs r (plus l (counts_add (kind_number n) c))) (sym k) h)

pub numbered_refused : (v : Verdict) {k e : ℕ} → v ≡ Refused k e → AllNumbered v → Numbered k
numbered_refused v h a = subst AllNumbered h a
