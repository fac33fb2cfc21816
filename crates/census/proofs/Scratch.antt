-- Scratch that becomes zero, and what the whole call leaves. Assumes nothing.
use Prim.Native.Nat.{ℕ}
use mathlib.Core.Path.{◌≡◌, sym, ap, ◌∙◌}
use mathlib.Core.Bool.{true, false}
use mathlib.Core.List.{List, ◌++◌, append-nil}
use lib.IntN.{ℤ, pos}
use lib.ListN.{length, drop, replicate}
use lib.Seq.{drop-length}
use borrow.Author.Tests.{eq-eqb, ne_eqb}
use Rattle.work_memory.specs.Memory.{Memory, memory}
use Rattle.packet_list.specs.Packets.{packets_in}
use Rattle.census_packets.specs.Recording.{lent}
use Rattle.report.specs.declared.CensusAnswer.{CensusAnswer}
use Rattle.census.specs.Call.{count_number, count_report, zeroed, all_zero, CensusCall, census_done, answer_by, reaches, by_census}

-- a slice that is cleared whole
pub all_clear : {A : Type 0} (z : A) (l now : List A) → now ≡ replicate (length l) z ++ drop (length l) l → now ≡ replicate (length l) z
all_clear z l now e = e ∙ ap (λ (x : List _). replicate (length l) z ++ x) (drop-length l) ∙ append-nil (replicate (length l) z)

module _ (m : Memory) (records coded : List ℕ) (coefs dc : List ℤ) (lasts flags bits supers modes active : List ℕ) where
  pub zeroed_is : records ≡ replicate (length m.work.records) 0 → coded ≡ replicate (length m.work.coded) 0 → coefs ≡ replicate (length m.work.coefs) (pos 0) → dc ≡ replicate (length m.dc) (pos 0)
      → lasts ≡ replicate (length m.work.lasts) 0 → flags ≡ replicate (length m.work.flags) 0 → bits ≡ replicate (length m.work.bits) 0 → supers ≡ replicate (length m.work.supers) 0
      → modes ≡ replicate (length m.work.modes) 0 → active ≡ replicate (length m.work.active) 0 → memory records coded coefs dc lasts flags bits supers modes active ≡ zeroed m
  unfolding zeroed
  zeroed_is a b c d e f g h j k = λ i. memory (a i) (b i) (c i) (d i) (e i) (f i) (g i) (h i) (j i) (k i)

-- zeros depend on lengths alone
pub zeroed_same : (m n : Memory) → length m.work.records ≡ length n.work.records → length m.work.coded ≡ length n.work.coded → length m.work.coefs ≡ length n.work.coefs → length m.dc ≡ length n.dc
    → length m.work.lasts ≡ length n.work.lasts → length m.work.flags ≡ length n.work.flags → length m.work.bits ≡ length n.work.bits → length m.work.supers ≡ length n.work.supers
    → length m.work.modes ≡ length n.work.modes → length m.work.active ≡ length n.work.active → zeroed m ≡ zeroed n
unfolding zeroed
zeroed_same m n a b c d e f g h j k = λ i.
    memory (replicate (a i) 0) (replicate (b i) 0) (replicate (c i) (pos 0)) (replicate (d i) (pos 0)) (replicate (e i) 0) (replicate (f i) 0) (replicate (g i) 0) (replicate (h i) 0) (replicate (j i) 0) (replicate (k i) 0)

pub replicated : {k n : ℕ} {now : List ℕ} → k ≡ n → now ≡ replicate k 0 → now ≡ replicate n 0
replicated e h = h ∙ ap (λ (k : ℕ). replicate k 0) e

-- ---- the call
module _ (c : CensusCall) where
  pub past : reaches c ≡ false → census_done (CensusAnswer.Refused 16 0) c.report c.lent ≡ by_census c
  unfolding by_census
  past h = rw h

  pub within : reaches c ≡ true → (k : ℕ) (report : List ℕ) → (k ≡ count_number c.lent (packets_in c.lengths c.joined) c.report) × (report ≡ count_report c.lent (packets_in c.lengths c.joined) c.report)
      → (a : CensusAnswer) → a ≡ answer_by k → (m : Memory) → m ≡ zeroed c.lent.memory → (table golden previous new : List ℕ) → table ≡ replicate (length c.lent.table) 0 → golden ≡ replicate (length c.lent.golden) 0
      → previous ≡ replicate (length c.lent.previous) 0 → new ≡ replicate (length c.lent.new) 0 → census_done a report (lent table m golden previous new) ≡ by_census c
  unfolding by_census all_zero
  within h k report q a ea m em table golden previous new et eg ep en =
      (λ i. census_done ((ea ∙ ap answer_by q.0) i) (q.1 i) (lent (et i) (em i) (eg i) (ep i) (en i))) ∙ sym (done h)
    where
      done : reaches c ≡ true → by_census c ≡ census_done (answer_by (count_number c.lent (packets_in c.lengths c.joined) c.report)) (count_report c.lent (packets_in c.lengths c.joined) c.report) (all_zero c.lent)
      done h = rw h

pub answered : (k : ℕ) → k ≡ 0 → CensusAnswer.Counted ≡ answer_by k
answered k e = rw (eq-eqb k 0 e)

pub answered_by : (k : ℕ) → (k ≡ 0 → ⊥) → CensusAnswer.Refused k 0 ≡ answer_by k
answered_by k e = rw (ne_eqb k 0 e)
