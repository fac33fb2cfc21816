-- The laws of the identification header and of its groups. Assumes nothing.
use Prim.Native.Nat.{ℕ, ◌*◌, ◌-◌, ◌<◌}
use native.Mathlib.Omega.{arith}
use mathlib.Core.Path.{◌≡◌}
use mathlib.Core.List.{List, [], ◌∷◌}
use lib.ListN.{length}
use Rattle.bitstream.specs.Lists.{among}
use Rattle.bitstream.specs.Reading.{Outcome, got, refused}
use Rattle.bitstream.proofs.Laws.{Lawful, lawful}
use Rattle.bitstream.proofs.Inside.{Inside, inside, Refuses, refuses}
use Rattle.bitstream.proofs.Spends.{Spends, pure_spends, bind_spends, field_spends, judged_spends}
use Rattle.header_fields.specs.declared.FrameSize.{FrameSize}
use Rattle.header_fields.specs.declared.FrameSizeAnswer.{FrameSizeAnswer}
use Rattle.header_groups.specs.declared.Rates.{Rates}
use Rattle.header_groups.specs.declared.RatesAnswer.{RatesAnswer}
use Rattle.header_groups.specs.declared.Coding.{Coding}
use Rattle.header_groups.specs.declared.CodingAnswer.{CodingAnswer}
use Rattle.header_fields.specs.Tests.{is_exactly, is_positive, is_at_most, is_format}
use Rattle.header_groups.specs.Groups.{rates, coding, as_rates, as_coding}
use Rattle.headers.specs.Identification.{identification}
use Rattle.header_fields.specs.Frame.{version, frame_size, as_frame_size}
use Rattle.header_groups.proofs.Judged.{common_header_lawful, common_header_inside, common_header_refuses, common_header_spends}

-- ---- what an answer says of the outcome o, by its arm
pub frame_size_is : (o : Outcome FrameSize) {r : FrameSizeAnswer} {f : FrameSize} {e : ℕ} → r ≡ as_frame_size o → r ≡ FrameSizeAnswer.Is f e → o ≡ got f e
frame_size_is (got f d) s g = cc
frame_size_is (refused k d) s g = let z : ◌≡◌ {A = ℕ} 0 1 = cc in absurd (omega arith)

pub frame_size_refused : (o : Outcome FrameSize) {r : FrameSizeAnswer} {k e : ℕ} → r ≡ as_frame_size o → r ≡ FrameSizeAnswer.Refused k e → o ≡ refused k e
frame_size_refused (got f d) s g = let z : ◌≡◌ {A = ℕ} 0 1 = cc in absurd (omega arith)
frame_size_refused (refused k d) s g = cc

pub rates_is : (o : Outcome Rates) {r : RatesAnswer} {f : Rates} {e : ℕ} → r ≡ as_rates o → r ≡ RatesAnswer.Is f e → o ≡ got f e
rates_is (got f d) s g = cc
rates_is (refused k d) s g = let z : ◌≡◌ {A = ℕ} 0 1 = cc in absurd (omega arith)

pub rates_refused : (o : Outcome Rates) {r : RatesAnswer} {k e : ℕ} → r ≡ as_rates o → r ≡ RatesAnswer.Refused k e → o ≡ refused k e
rates_refused (got f d) s g = let z : ◌≡◌ {A = ℕ} 0 1 = cc in absurd (omega arith)
rates_refused (refused k d) s g = cc

pub coding_is : (o : Outcome Coding) {r : CodingAnswer} {f : Coding} {e : ℕ} → r ≡ as_coding o → r ≡ CodingAnswer.Is f e → o ≡ got f e
coding_is (got f d) s g = cc
coding_is (refused k d) s g = let z : ◌≡◌ {A = ℕ} 0 1 = cc in absurd (omega arith)

pub coding_refused : (o : Outcome Coding) {r : CodingAnswer} {k e : ℕ} → r ≡ as_coding o → r ≡ CodingAnswer.Refused k e → o ≡ refused k e
coding_refused (got f d) s g = let z : ◌≡◌ {A = ℕ} 0 1 = cc in absurd (omega arith)
coding_refused (refused k d) s g = cc

-- ---- Local and Firm
pub version_lawful : Lawful version
unfolding version
version_lawful = search lawful depth 12

pub frame_size_lawful : Lawful frame_size
unfolding frame_size
frame_size_lawful = search lawful depth 20

pub rates_lawful : Lawful rates
unfolding rates
rates_lawful = search lawful depth 20

pub coding_lawful : Lawful coding
unfolding coding
coding_lawful = search lawful depth 20

pub identification_lawful : Lawful identification
unfolding identification
identification_lawful = search (lawful, common_header_lawful, version_lawful, frame_size_lawful, rates_lawful, coding_lawful) depth 16

-- ---- Inside: every place lies in the packet
version_inside : {d : ℕ} → Inside d version
unfolding version
version_inside = search inside depth 12

frame_size_inside : {d : ℕ} → Inside d frame_size
unfolding frame_size
frame_size_inside = search inside depth 20

rates_inside : {d : ℕ} → Inside d rates
unfolding rates
rates_inside = search inside depth 20

coding_inside : {d : ℕ} → Inside d coding
unfolding coding
coding_inside = search inside depth 20

pub identification_inside : Inside 0 identification
unfolding identification
identification_inside = search (inside, common_header_inside, version_inside, frame_size_inside, rates_inside, coding_inside) depth 16

-- ---- Refuses: by the numbers 2 to 6
abbrev numbers : List ℕ
numbers = 2 ∷ 3 ∷ 4 ∷ 5 ∷ 6 ∷ []

version_refuses : Refuses numbers version
unfolding version among
version_refuses = search refuses depth 12

frame_size_refuses : Refuses numbers frame_size
unfolding frame_size among
frame_size_refuses = search refuses depth 20

rates_refuses : Refuses numbers rates
unfolding rates among
rates_refuses = search refuses depth 20

coding_refuses : Refuses numbers coding
unfolding coding among
coding_refuses = search refuses depth 20

pub identification_refuses : Refuses (2 ∷ 3 ∷ 4 ∷ 5 ∷ 6 ∷ []) identification
unfolding identification among
identification_refuses = search (refuses, common_header_refuses, version_refuses, frame_size_refuses, rates_refuses, coding_refuses) depth 16

-- ---- Spends: the bits of each group, and "42 bytes" in all
pub version_spends : Spends 24 version
unfolding version
version_spends =
    bind_spends (judged_spends 8 (is_exactly 3) 3 (λ e. omega arith)) (λ vmaj.
    bind_spends (judged_spends 8 (is_exactly 2) 3 (λ e. omega arith)) (λ vmin.
    field_spends 8))

pub frame_size_spends : Spends 96 frame_size
unfolding frame_size
frame_size_spends =
    bind_spends (judged_spends 16 is_positive 5 (λ e. omega arith)) (λ fmbw.
    bind_spends (judged_spends 16 is_positive 5 (λ e. omega arith)) (λ fmbh.
    bind_spends (judged_spends 24 (is_at_most (16 * fmbw)) 5 (λ e. omega arith)) (λ picw.
    bind_spends (judged_spends 24 (is_at_most (16 * fmbh)) 5 (λ e. omega arith)) (λ pich.
    bind_spends (judged_spends 8 (is_at_most (16 * fmbw - picw)) 5 (λ e. omega arith)) (λ picx.
    bind_spends (judged_spends 8 (is_at_most (16 * fmbh - pich)) 5 (λ e. omega arith)) (λ picy.
    pure_spends _))))))

pub rates_spends : Spends 120 rates
unfolding rates
rates_spends =
    bind_spends (judged_spends 32 is_positive 5 (λ e. omega arith)) (λ frn.
    bind_spends (judged_spends 32 is_positive 5 (λ e. omega arith)) (λ frd.
    bind_spends (field_spends 24) (λ parn.
    bind_spends (field_spends 24) (λ pard.
    bind_spends (field_spends 8) (λ cs.
    pure_spends _)))))

pub coding_spends : Spends 40 coding
unfolding coding
coding_spends =
    bind_spends (field_spends 24) (λ nombr.
    bind_spends (field_spends 6) (λ qual.
    bind_spends (field_spends 5) (λ kfgshift.
    bind_spends (judged_spends 2 is_format 6 (λ e. omega arith)) (λ pf.
    bind_spends (judged_spends 3 (is_exactly 0) 6 (λ e. omega arith)) (λ zero_bits.
    pure_spends _)))))

pub identification_spends : Spends 336 identification
unfolding identification
identification_spends =
    bind_spends (common_header_spends 0x80) (λ _.
    bind_spends version_spends (λ v.
    bind_spends frame_size_spends (λ f.
    bind_spends rates_spends (λ r.
    bind_spends coding_spends (λ c.
    pure_spends _)))))

-- "42 bytes": number 4 is given only to shorter packets
pub identification_bytes : (p : List ℕ) (e : ℕ) → identification p 0 ≡ refused 4 e → length p < 42
identification_bytes p e h = omega (arith, identification_spends.short p 0 e h)
