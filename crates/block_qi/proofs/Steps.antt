-- The steps, block by block. Assumes nothing.
use Prim.Native.Nat.{ℕ, suc, ◌+◌, ◌-◌, ◌≤◌, ◌<◌}
use native.Mathlib.Omega.{arith}
use native.Mathlib.Nat.{add-zero}
use mathlib.Core.Path.{◌≡◌, refl, sym, ap, ◌∙◌}
use mathlib.Core.List.{List, map}
use mathlib.Core.Bool.{Bool, true, false}
use lib.Dec.{eqb}
use lib.ListN.{length, get_or, drop, set, drop_of_length-le}
use lib.Seq.{get_or-set_other, get_or-drop, drop-drop}
use borrow.Author.Tests.{eq-eqb, eqb-true}
use Rattle.bitstream.specs.Reading.{Outcome, got, refused, choose}
use Rattle.bitstream.specs.Lists.{Once, Other, AllBelow, one, none, All}
use Rattle.runs.specs.Runs.{bit_string}
use Rattle.bitstream.specs.Answer.{StoredAs, as_end}
use Rattle.runs.specs.declared.RunCode.TheVariants.{Long}
use Rattle.bitstream.specs.declared.End.{End}
use Rattle.bitstream.specs.declared.End.TheVariants.{Refused, At}
use Rattle.bitstream.proofs.ListLaws.{once_next, all_at, drop_next}
use Rattle.block_record.specs.declared.BlockRecord.{BlockRecord}
use Rattle.block_record.specs.Record.{InRange, uncoded, with_qi_index}
use Rattle.block_record.specs.Packed.{packed, unpacked}
use Rattle.block_record.specs.Memory.{AllPacked, records_of}
use Rattle.block_record.proofs.Laws.{unpacked_packed}
use Rattle.block_record.proofs.MemoryLaws.{is_packed, packed_at, packed_set, packed_records, record_at, records_set}
use Rattle.block_qi.specs.BlockQi.{index_at, at_step, raised, one_step, qi_steps, block_qi}
use Rattle.block_qi.specs.Answer.{KeptRecords}

-- ---- how many are at the step
-- the index in a packed record
abbrev pub packed_index : List ℕ → ℕ → ℕ
packed_index l b = (unpacked (get_or l b 0)).qi_index

index_at_law : (l : List ℕ) (b : ℕ) → index_at (records_of l) b ≡ packed_index l b
index_at_law l b = ap (λ (r : BlockRecord). r.qi_index) (record_at l b)

module _ (q : ℕ) (coded l : List ℕ) (i : ℕ) where
  pub at_step_law : i < length coded → at_step q (drop i coded) (records_of l) ≡ choose (eqb (packed_index l (get_or coded i 0)) q) 1 0 + at_step q (drop (i + 1) coded) (records_of l)
  unfolding at_step
  at_step_law h = rw (drop_next coded i h, index_at_law l (get_or coded i 0))

  pub at_end : length coded ≤ i → at_step q (drop i coded) (records_of l) ≡ 0
  unfolding at_step
  at_end h = rw (drop_of_length-le coded h)

-- another block's record does not count
at_other : (q b : ℕ) (r : BlockRecord) {coded : List ℕ} (rs : List BlockRecord) → All (Other b) coded → at_step q coded (set rs b r) ≡ at_step q coded rs
unfolding at_step
at_other q b r rs none = refl
at_other q b r rs (one {x} h a) =
    let e = get_or-set_other rs b x r uncoded (λ z. h (sym z)) in
    λ i. choose (eqb (e i).qi_index q) 1 0 + at_other q b r rs a i

-- ---- the records, from coded block i on, after j bits
module _ (q : ℕ) (coded bits l : List ℕ) (i j : ℕ) (h : i < length coded) where
  abbrev b : ℕ
  b = get_or coded i 0

  abbrev new : BlockRecord
  new = with_qi_index (q + get_or bits j 0) (unpacked (get_or l b 0))

  raised_step : raised q (drop i coded) (drop j bits) (records_of l)
      ≡ choose (eqb (packed_index l b) q) (raised q (drop (i + 1) coded) (drop (j + 1) bits) (set (records_of l) b new)) (raised q (drop (i + 1) coded) (drop j bits) (records_of l))
  unfolding raised
  raised_step =
      let z : j + 0 ≡ j = add-zero j in
      rw (drop_next coded i h, index_at_law l b, drop-drop 1 j bits, get_or-drop j bits 0 0, z, record_at l b)

raised_end : (q : ℕ) (coded bits : List ℕ) (rs : List BlockRecord) (i : ℕ) → length coded ≤ i → raised q (drop i coded) bits rs ≡ rs
unfolding raised
raised_end q coded bits rs i h = rw (drop_of_length-le coded h)

-- what the loop over the coded blocks keeps
pub record Raising (q : ℕ) (coded bits l₀ l : List ℕ) (i j : ℕ) : Type 0 where
  pub reaches : i ≤ length coded
  pub held : AllPacked l
  pub goes : raised q coded bits (records_of l₀) ≡ raised q (drop i coded) (drop j bits) (records_of l)
  pub enough : j + at_step q (drop i coded) (records_of l) ≡ length bits

pub raising_start : (q : ℕ) (coded bits l : List ℕ) → AllPacked l → length bits ≡ at_step q coded (records_of l) → Raising q coded bits l l 0 0
raising_start q coded bits l a e = record { reaches = omega arith; held = a; goes = refl; enough = omega arith }

module _ (q : ℕ) (coded bits l₀ l : List ℕ) (i j : ℕ) (r : Raising q coded bits l₀ l i j) where
  pub raising_done : length coded ≤ i → (records_of l ≡ raised q coded bits (records_of l₀)) × AllPacked l
  raising_done h = (sym (r.goes ∙ raised_end q coded (drop j bits) (records_of l) i h), r.held)

  module _ (h : i < length coded) where
    -- there is a bit for a block at the step
    pub raising_needs : packed_index l (get_or coded i 0) ≡ q → j < length bits
    raising_needs e =
        let s = at_step_law q coded l i h in
        let x : ◌≡◌ {A = ℕ} (choose (eqb (packed_index l (get_or coded i 0)) q) 1 0) 1 = rw (eq-eqb _ q e) in
        omega (arith, r.enough)

    pub raising_on : Once coded → AllBelow 2 bits → q ≤ 1 → (l' : List ℕ) (j' : ℕ) → let t = eqb (packed_index l (get_or coded i 0)) q in
        j' ≡ choose t (j + 1) j → l' ≡ choose t (set l (get_or coded i 0) (packed (with_qi_index (q + get_or bits j 0) (unpacked (get_or l (get_or coded i 0) 0))))) l → Raising q coded bits l₀ l' (i + 1) j'
    raising_on o small hq l' j' ej el =
        rw (ej, el) (go (eqb (packed_index l (get_or coded i 0)) q) refl (raised_step q coded bits l i j h) (at_step_law q coded l i h))
      where
        go : (t : Bool) → eqb (packed_index l (get_or coded i 0)) q ≡ t → let b = get_or coded i 0 in let n = with_qi_index (q + get_or bits j 0) (unpacked (get_or l b 0)) in let more = drop (i + 1) coded in
            raised q (drop i coded) (drop j bits) (records_of l) ≡ choose t (raised q more (drop (j + 1) bits) (set (records_of l) b n)) (raised q more (drop j bits) (records_of l))
            → at_step q (drop i coded) (records_of l) ≡ choose t 1 0 + at_step q more (records_of l)
            → Raising q coded bits l₀ (choose t (set l b (packed n)) l) (i + 1) (choose t (j + 1) j)
        go true x s k =
            let b = get_or coded i 0 in
            let n = with_qi_index (q + get_or bits j 0) (unpacked (get_or l b 0)) in
            let c : get_or bits j 0 < 2 = all_at j small (raising_needs (eqb-true _ q x)) in
            let fits : InRange n = record { qi_index = omega arith; prediction = (packed_at l b r.held).in_range.prediction } in
            let e : records_of (set l b (packed n)) ≡ set (records_of l) b n = records_set l b (packed n) ∙ ap (set (records_of l) b) (unpacked_packed n fits) in
            let m : at_step q (drop (i + 1) coded) (records_of (set l b (packed n))) ≡ at_step q (drop (i + 1) coded) (records_of l) =
            ap (at_step q (drop (i + 1) coded)) e ∙ at_other q b n (records_of l) (once_next coded i o h) in
            record {
              reaches = omega arith;
              held = packed_set l b (packed n) r.held (is_packed n fits);
              goes = r.goes ∙ s ∙ ap (raised q (drop (i + 1) coded) (drop (j + 1) bits)) (sym e);
              enough = omega (arith, r.enough);
            }
        go false x s k = record { reaches = omega arith; held = r.held; goes = r.goes ∙ s; enough = omega (arith, r.enough) }

-- ---- a step, and all of them
module _ (q : ℕ) (coded : List ℕ) (rs : List BlockRecord) (p : List ℕ) (i : ℕ) where
  pub step_refused : {k e : ℕ} → bit_string Long (at_step q coded rs) p i ≡ refused k e → one_step q coded rs p i ≡ refused k e
  unfolding one_step
  step_refused f = rw f

  pub step_got : {bits : List ℕ} {e : ℕ} → bit_string Long (at_step q coded rs) p i ≡ got bits e → one_step q coded rs p i ≡ got (raised q coded bits rs) e
  unfolding one_step
  step_got f = rw f

  module _ (n : ℕ) where
    steps_suc_refused : {k e : ℕ} → one_step q coded rs p i ≡ refused k e → qi_steps (suc n) q coded rs p i ≡ refused k e
    unfolding qi_steps
    steps_suc_refused f = rw f

    steps_suc_got : {rs' : List BlockRecord} {e : ℕ} → one_step q coded rs p i ≡ got rs' e → qi_steps (suc n) q coded rs p i ≡ qi_steps n (q + 1) coded rs' p e
    unfolding qi_steps
    steps_suc_got f = rw f

  module _ (qis : ℕ) where
    pub steps_refused : q + 1 < qis → {k e : ℕ} → one_step q coded rs p i ≡ refused k e → qi_steps (qis - (q + 1)) q coded rs p i ≡ refused k e
    steps_refused l f = let z : qis - (q + 1) ≡ suc (qis - (q + 1 + 1)) = omega arith in ap (λ (n : ℕ). qi_steps n q coded rs p i) z ∙ steps_suc_refused (qis - (q + 1 + 1)) f

    pub steps_on : q + 1 < qis → {rs' : List BlockRecord} {e : ℕ} → one_step q coded rs p i ≡ got rs' e → qi_steps (qis - (q + 1)) q coded rs p i ≡ qi_steps (qis - (q + 1 + 1)) (q + 1) coded rs' p e
    steps_on l f = let z : qis - (q + 1) ≡ suc (qis - (q + 1 + 1)) = omega arith in ap (λ (n : ℕ). qi_steps n q coded rs p i) z ∙ steps_suc_got (qis - (q + 1 + 1)) f

    pub steps_done : qis ≤ q + 1 → qi_steps (qis - (q + 1)) q coded rs p i ≡ got rs i
    unfolding qi_steps
    steps_done l = let z : qis - (q + 1) ≡ 0 = omega arith in rw z

pub steps_start : (qis : ℕ) (coded : List ℕ) (rs : List BlockRecord) (p : List ℕ) (i : ℕ) → block_qi qis coded rs p i ≡ qi_steps (qis - (0 + 1)) 0 coded rs p i
unfolding block_qi
steps_start qis coded rs p i = refl

-- ---- what a return has to show, and what an answer says
module _ (out : List ℕ) (o : Outcome (List BlockRecord)) where
  pub on_refused : {k e : ℕ} → o ≡ refused k e → (Refused k e ≡ as_end o) × KeptRecords out o
  on_refused h = rw h (refl, tt)

  pub on_records : {rs : List BlockRecord} {e : ℕ} → o ≡ got rs e → (records_of out ≡ rs) × AllPacked out → (At e ≡ as_end o) × KeptRecords out o
  on_records h a = rw h (refl, a)

  pub on_all : {e : ℕ} → o ≡ got (records_of out) e → AllPacked out → (At e ≡ as_end o) × StoredAs (map packed) out o
  on_all h a = rw h (refl, packed_records out a)

pub records_at : (o : Outcome (List BlockRecord)) (out : List ℕ) {r : End} {e : ℕ} → r ≡ as_end o → KeptRecords out o → r ≡ At e → (o ≡ got (records_of out) e) × AllPacked out
records_at (got rs d) out {r} {e} s a g = let z : At d ≡ At e = sym s ∙ g in (ap (λ (x : List BlockRecord). got x d) (sym a.0) ∙ ap (got (records_of out)) (cc), a.1)
records_at (refused k d) out s a g = let z : ◌≡◌ {A = ℕ} 0 1 = cc in absurd (omega arith)
