-- What one packet adds. Assumes nothing.
use Prim.Native.Nat.{ℕ, zero, suc, ◌+◌, ◌*◌, ◌≤◌, ◌<◌}
use native.Mathlib.Omega.{arith}
use native.Mathlib.Nat.{mul-add, mul-zero, mul-one}
use mathlib.Core.Path.{◌≡◌, refl, sym, ap, ◌∙◌}
use mathlib.Core.Bool.{true}
use mathlib.Core.List.{List, [], ◌∷◌, ◌++◌}
use mathlib.Core.Logic.{inl, inr}
use lib.ListN.{length, get_or, replicate}
use lib.Seq.{get_or-set_other}
use Rattle.bitstream.specs.Lists.{among}
use Rattle.geometry.specs.Sizes.{plane_blocks}
use Rattle.headers.specs.declared.Session.{Session}
use Rattle.headers.specs.Sizes.{format}
use Rattle.frame_header.specs.declared.Kind.{Kind}
use Rattle.frame_header.specs.declared.Kind.TheVariants.{Intra, Inter, Repeat}
use Rattle.work_memory.specs.Lengths as lengths
use Rattle.reading.specs.Answer.{kind_number}
use Rattle.counting.specs.declared.Counts.{Counts}
use Rattle.counting.specs.Counts.{sum}
use Rattle.tally.specs.Sums.{AddsUp}
use Rattle.report.specs.Report.{plus, only, refusal_adds}
use Rattle.report.proofs.Sums.{plus_at}
use Rattle.census_packets.specs.Recording.{counts_add}
use Rattle.census_packets.proofs.Numbers.{Every, every}
use Rattle.census_claims.specs.Sums.{part, accepted, inters, coding, refusals, Balanced}
use Rattle.census_claims.proofs.Parts.{part_plus, Listed, listed}

-- the numbers by which a frame call of a recording may be refused
abbrev pub frame_numbers : List ℕ
frame_numbers = 1 ∷ 4 ∷ 9 ∷ 10 ∷ 11 ∷ 12 ∷ 13 ∷ 17 ∷ []

-- ---- a refused packet: one at its number, nothing else
pub record Quiet (l : List ℕ) : Type 0 where
  pub inters : part 1 1 l ≡ 0
  pub coding : part 0 2 l ≡ 0
  pub blocks : part 20 6 l ≡ 0
  pub modes : part 26 8 l ≡ 0
  pub first : get_or l 20 0 + get_or l 23 0 ≡ 0
  pub second : get_or l 21 0 + get_or l 24 0 ≡ 0
  pub third : get_or l 22 0 + get_or l 25 0 ≡ 0
  pub packets : part 0 3 l + part 3 17 l ≡ 1
  pub eight : get_or l 10 0 ≡ 0
  pub fourteen : get_or l 16 0 ≡ 0
  pub fifteen : get_or l 17 0 ≡ 0
  pub sixteen : get_or l 18 0 ≡ 0

quiet_numbers : Every (λ k. Quiet (refusal_adds k 1)) frame_numbers
unfolding Every sum
quiet_numbers =
    (record { inters = refl; coding = refl; blocks = refl; modes = refl; first = refl; second = refl; third = refl; packets = refl; eight = refl; fourteen = refl; fifteen = refl; sixteen = refl }, (record { inters = refl; coding = refl; blocks = refl; modes = refl; first = refl; second = refl; third = refl; packets = refl; eight = refl; fourteen = refl; fifteen = refl; sixteen = refl }, (record { inters = refl; coding = refl; blocks = refl; modes = refl; first = refl; second = refl; third = refl; packets = refl; eight = refl; fourteen = refl; fifteen = refl; sixteen = refl }, (record { inters = refl; coding = refl; blocks = refl; modes = refl; first = refl; second = refl; third = refl; packets = refl; eight = refl; fourteen = refl; fifteen = refl; sixteen = refl }, (record { inters = refl; coding = refl; blocks = refl; modes = refl; first = refl; second = refl; third = refl; packets = refl; eight = refl; fourteen = refl; fifteen = refl; sixteen = refl }, (record { inters = refl; coding = refl; blocks = refl; modes = refl; first = refl; second = refl; third = refl; packets = refl; eight = refl; fourteen = refl; fifteen = refl; sixteen = refl }, (record { inters = refl; coding = refl; blocks = refl; modes = refl; first = refl; second = refl; third = refl; packets = refl; eight = refl; fourteen = refl; fifteen = refl; sixteen = refl }, (record { inters = refl; coding = refl; blocks = refl; modes = refl; first = refl; second = refl; third = refl; packets = refl; eight = refl; fourteen = refl; fifteen = refl; sixteen = refl }, tt))))))))

none : (n : ℕ) {a b : ℕ} → a ≡ 0 → b ≡ 0 → a ≡ n * b
none n e f = e ∙ sym (ap (λ (k : ℕ). n * k) f ∙ mul-zero n)

quiet_balanced : (s : Session) (l : List ℕ) → Quiet l → Balanced s 1 l
quiet_balanced s l q = record {
  modes = none _ q.modes q.inters;
  blocks = none _ q.blocks q.coding;
  planes = planes;
  packets = q.packets;
  eight = q.eight;
  fourteen = q.fourteen;
  fifteen = q.fifteen;
  sixteen = q.sixteen;
}
  where
    planes : (p : ℕ) → p < 3 → get_or l (20 + p) 0 + get_or l (23 + p) 0 ≡ plane_blocks (format s) s.fields.fmbw s.fields.fmbh p * part 0 2 l
    planes zero k = none _ q.first q.coding
    planes (suc zero) k = none _ q.second q.coding
    planes (suc (suc zero)) k = none _ q.third q.coding
    planes (suc (suc (suc p))) k = absurd (omega arith)

pub refused_balanced : (s : Session) (k : ℕ) → among frame_numbers k ≡ true → Balanced s 1 (refusal_adds k 1)
refused_balanced s k h = quiet_balanced s (refusal_adds k 1) (every (λ k. Quiet (refusal_adds k 1)) frame_numbers quiet_numbers k h)

-- ---- packets add up
pub balanced_plus : (s : Session) (n m : ℕ) (l k : List ℕ) → length l ≡ length k → Balanced s n l → Balanced s m k → Balanced s (n + m) (plus l k)
balanced_plus s n m l k h x y = record {
  modes = both _ 26 8 1 1 x.modes y.modes;
  blocks = both _ 20 6 0 2 x.blocks y.blocks;
  planes = λ p q.
      let e = plus_at l k h (20 + p) in
      let f = plus_at l k h (23 + p) in
      let a = x.planes p q in
      let b = y.planes p q in
      let g = plane_blocks (format s) s.fields.fmbw s.fields.fmbh p in
      let z = ap (λ (t : ℕ). g * t) (part_plus 0 2 l k h) ∙ mul-add g (coding l) (coding k) in
      omega (arith, e, f, a, b, z);
  packets = omega (arith, part_plus 0 3 l k h, part_plus 3 17 l k h, x.packets, y.packets);
  eight = plus_at l k h 10 ∙ omega (arith, x.eight, y.eight);
  fourteen = plus_at l k h 16 ∙ omega (arith, x.fourteen, y.fourteen);
  fifteen = plus_at l k h 17 ∙ omega (arith, x.fifteen, y.fifteen);
  sixteen = plus_at l k h 18 ∙ omega (arith, x.sixteen, y.sixteen);
}
  where
    both : (g from n from' n' : ℕ) → part from n l ≡ g * part from' n' l → part from n k ≡ g * part from' n' k → part from n (plus l k) ≡ g * part from' n' (plus l k)
    both g from n from' n' a b =
        part_plus from n l k h ∙ (λ i. a i + b i) ∙ sym (mul-add g (part from' n' l) (part from' n' k)) ∙ sym (ap (λ (t : ℕ). g * t) (part_plus from' n' l k h))

-- ---- an accepted packet
zeros : (n k : ℕ) → ◌≡◌ {A = ℕ} (get_or (replicate n 0) k 0) 0
zeros zero k = refl
zeros (suc n) zero = refl
zeros (suc n) (suc k) = zeros n k

behind : (kind : ℕ) → kind < 3 → (k : ℕ) → 3 ≤ k → get_or (only kind 1) k 0 ≡ 0
behind kind l k h = get_or-set_other (replicate 34 0) kind k 1 0 (λ e. omega arith) ∙ zeros 34 k

three_zeros : (p : ℕ) → p < 3 → ◌≡◌ {A = ℕ} (get_or (replicate 3 0) p 0 + get_or (replicate 3 0) p 0) 0
three_zeros zero k = refl
three_zeros (suc zero) k = refl
three_zeros (suc (suc zero)) k = refl
three_zeros (suc (suc (suc p))) k = absurd (omega arith)

module _ (s : Session) (c : Counts) (hc : length c.coded ≡ 3) (hu : length c.uncoded ≡ 3) (hm : length c.modes ≡ 8) where
  abbrev more : List ℕ
  more = replicate 20 0 ++ (c.coded ++ (c.uncoded ++ c.modes))

  abbrev t : Listed c.coded c.uncoded c.modes more
  t = listed c.coded c.uncoded c.modes hc hu hm

  abbrev g : ℕ → ℕ
  g p = plane_blocks (format s) s.fields.fmbw s.fields.fmbh p

  -- with so many inter frames, and intra and inter frames, at the place of its kind
  module _ (kind i d : ℕ) (long : length (only kind 1) ≡ 34) (ei : part 1 1 (only kind 1) ≡ i) (ed : part 0 2 (only kind 1) ≡ d) (ea : part 0 3 (only kind 1) ≡ 1) (er : part 3 17 (only kind 1) ≡ 0) (eb : part 20 6 (only kind 1) ≡ 0) (em : part 26 8 (only kind 1) ≡ 0)
      (zero_at : (k : ℕ) → 3 ≤ k → get_or (only kind 1) k 0 ≡ 0) where
    abbrev l : List ℕ
    l = only kind 1

    h : length l ≡ length more
    h = long ∙ sym t.long

    inters_are : inters (plus l more) ≡ i
    inters_are = omega (arith, part_plus 1 1 l more h, ei, t.inters)

    coding_are : coding (plus l more) ≡ d
    coding_are = omega (arith, part_plus 0 2 l more h, ed, t.coding)

    pub frame_balanced : sum c.modes ≡ lengths.macro_blocks s * i → sum c.coded + sum c.uncoded ≡ lengths.blocks s * d
        → ((p : ℕ) → p < 3 → get_or c.coded p 0 + get_or c.uncoded p 0 ≡ g p * d) → Balanced s 1 (counts_add kind c)
    frame_balanced modes blocks planes = record {
      modes = (let e = part_plus 26 8 l more h in omega (arith, e, em, t.modes)) ∙ modes ∙ sym (ap (λ (k : ℕ). lengths.macro_blocks s * k) inters_are);
      blocks = (let e = part_plus 20 6 l more h in omega (arith, e, eb, t.blocks)) ∙ blocks ∙ sym (ap (λ (k : ℕ). lengths.blocks s * k) coding_are);
      planes = λ p q.
          let e = plus_at l more h (20 + p) in
          let f = plus_at l more h (23 + p) in
          let z = t.planes p q in
          let a = zero_at (20 + p) (omega arith) in
          let b = zero_at (23 + p) (omega arith) in
          (omega (arith, e, f, a, b, z.0, z.1)) ∙ planes p q ∙ sym (ap (λ (k : ℕ). g p * k) coding_are);
      packets = omega (arith, part_plus 0 3 l more h, part_plus 3 17 l more h, ea, er, t.accepted, t.refusals);
      eight = plus_at l more h 10 ∙ omega (arith, zero_at 10 (omega arith), t.low 10 (omega arith));
      fourteen = plus_at l more h 16 ∙ omega (arith, zero_at 16 (omega arith), t.low 16 (omega arith));
      fifteen = plus_at l more h 17 ∙ omega (arith, zero_at 17 (omega arith), t.low 17 (omega arith));
      sixteen = plus_at l more h 18 ∙ omega (arith, zero_at 18 (omega arith), t.low 18 (omega arith));
    }

  pub kind_balanced : (kind : Kind) → AddsUp s kind c → Balanced s 1 (counts_add (kind_number kind) c)
  unfolding sum
  kind_balanced Intra a =
      frame_balanced 0 0 1 refl refl refl refl refl refl refl (behind 0 (omega arith)) (ap sum (a.no_modes refl) ∙ sym (mul-zero (lengths.macro_blocks s))) (a.all_planes (inl refl) ∙ sym (mul-one (lengths.blocks s)))
      (λ p q. a.planes (inl refl) p q ∙ sym (mul-one (g p)))
  kind_balanced Inter a =
      frame_balanced 1 1 1 refl refl refl refl refl refl refl (behind 1 (omega arith)) (a.modes refl ∙ sym (mul-one (lengths.macro_blocks s))) (a.all_planes (inr refl) ∙ sym (mul-one (lengths.blocks s)))
      (λ p q. a.planes (inr refl) p q ∙ sym (mul-one (g p)))
  kind_balanced Repeat a =
      let e = a.repeats refl in
      frame_balanced 2 0 0 refl refl refl refl refl refl refl (behind 2 (omega arith)) (ap (λ (c : Counts). sum c.modes) e ∙ sym (mul-zero (lengths.macro_blocks s))) (ap (λ (c : Counts). sum c.coded + sum c.uncoded) e ∙ sym (mul-zero (lengths.blocks s)))
      (λ p q. ap (λ (c : Counts). get_or c.coded p 0 + get_or c.uncoded p 0) e ∙ three_zeros p q ∙ sym (mul-zero (g p)))
