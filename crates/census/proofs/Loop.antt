-- The frame packets of a recording, one after the other. Assumes nothing.
use Prim.Native.Nat.{ℕ, ◌+◌, ◌-◌, ◌≤◌, ◌<◌}
use native.Mathlib.Omega.{arith}
use mathlib.Core.Path.{◌≡◌, refl, sym, ap, ◌∙◌, subst}
use mathlib.Core.Bool.{true}
use mathlib.Core.List.{List}
use lib.ListN.{length, get_or, take, drop, replicate}
use Rattle.bitstream.specs.Reading.{Outcome, after}
use Rattle.bitstream.specs.Answer.{readable}
use Rattle.headers.specs.declared.Session.{Session}
use Rattle.headers.specs.Fits.{session_fits}
use Rattle.setup.specs.Header.{Setup}
use Rattle.setup.specs.declared.LoadedSetup.{LoadedSetup}
use Rattle.setup.specs.Loaded.{Holds}
use Rattle.setup.proofs.Held.{held_reads}
use Rattle.work_memory.specs.Memory.{Memory, Work}
use Rattle.work_memory.specs.Lengths.{lengths_of, cleared}
use Rattle.tokens.specs.Answer.{Tables, trees_of}
use Rattle.reading.specs.Answer.{Asked, read, read_by, answer_for}
use Rattle.reading.proofs.Readable.{read_readable}
use Rattle.reading.proofs.Held.{tables_held, trees_held}
use Rattle.packet_list.specs.Packets.{packets_in, total}
use Rattle.packet_list.proofs.Walk.{total_drop, packets_left, packets_none}
use Rattle.tally.specs.declared.Counted.{Counted}
use Rattle.tally.specs.Counted.{counted_by}
use Rattle.report.specs.declared.Running.{Running}
use Rattle.report.specs.Report.{plus}
use Rattle.report.specs.Running.{Runs}
use Rattle.report.proofs.Sums.{plus_assoc, plus_none}
use Rattle.census_packets.specs.Recording.{answer_adds, packet_adds, packets_add}
use Rattle.census_packets.specs.Inner.{AllNumbered}
use Rattle.census_packets.proofs.Numbers.{answer_numbered}
use Rattle.census_packets.proofs.Rules.{read_kept}
use Rattle.census.specs.Call.{Loaded}

-- what the packets from number i on add, which begin at a place
abbrev pub left : (table lengths packets : List ℕ) → Session → (at i : ℕ) → List ℕ
left table lengths packets s at i = packets_add (λ s p. read s table p) s (packets_in (drop i lengths) (drop at packets))

-- ---- packets that are being counted: what was added and what is left come to the whole
pub record Going (table lengths packets : List ℕ) (start : ℕ) (s₀ : Session) (first : Running) (s : Session) (sums : Running) (w : Work) (at i : ℕ) : Type 0 where
  pub few : i ≤ length lengths
  pub room : at + total (drop i lengths) ≤ length packets
  pub fits : session_fits s ≡ true
  pub work : w ≡ (cleared (lengths_of s)).work
  pub same_work : (cleared (lengths_of s)).work ≡ (cleared (lengths_of s₀)).work
  pub rest : (l : List ℕ) → Runs first l → (m : List ℕ) × Runs sums m × (plus m (left table lengths packets s at i) ≡ plus l (left table lengths packets s₀ start 3))

module _ (table lengths packets : List ℕ) (start : ℕ) (s₀ : Session) (first : Running) where
  pub going_first : (w : Work) → 3 ≤ length lengths → start + total (drop 3 lengths) ≤ length packets → session_fits s₀ ≡ true → w ≡ (cleared (lengths_of s₀)).work
      → Going table lengths packets start s₀ first s₀ first w start 3
  going_first w h r f e = record { few = h; room = r; fits = f; work = e; same_work = refl; rest = λ l q. (l, q, refl) }

  module _ (s : Session) (sums : Running) (w : Work) (at i : ℕ) (g : Going table lengths packets start s₀ first s sums w at i) where
    pub end_few : i < length lengths → at + get_or lengths i 0 ≤ length packets
    end_few l = omega (arith, total_drop lengths i l, g.room)

    pub work_same : {w₀ : Work} → w₀ ≡ (cleared (lengths_of s₀)).work → w ≡ w₀
    work_same e = g.work ∙ g.same_work ∙ sym e

    pub going_last : length lengths ≤ i → (l : List ℕ) → Runs first l → Runs sums (plus l (left table lengths packets s₀ start 3))
    unfolding packets_add
    going_last k l h =
        let q = g.rest l h in
        let e : left table lengths packets s at i ≡ replicate 34 0 = ap (packets_add (λ s p. read s table p) s) (packets_none lengths packets i at k g.few) in
        let n : plus q.0 (replicate 34 0) ≡ q.0 = ap (λ (k : ℕ). plus q.0 (replicate k 0)) (sym q.1.long) ∙ plus_none q.0 in
        subst (Runs sums) (sym n ∙ sym (ap (plus q.0) e) ∙ q.2) q.1

    -- one packet more
    module _ (l : i < length lengths) (end : ℕ) (ends : end ≡ at + get_or lengths i 0) where
      abbrev part : List ℕ
      part = take (end - at) (drop at packets)

      abbrev o : Outcome Asked
      o = read s table part

      abbrev s' : Session
      s' = (answer_for s o).session

      left_step : left table lengths packets s at i ≡ plus (packet_adds s o) (left table lengths packets s' end (i + 1))
      unfolding packets_add
      left_step = ap (packets_add (λ s p. read s table p) s) (packets_left lengths packets i at end l ends)

      on : (sums' : Running) (w' : Work) → ((m : List ℕ) → Runs sums m → Runs sums' (plus m (packet_adds s o))) → w' ≡ (cleared (lengths_of s)).work
          → Going table lengths packets start s₀ first s' sums' w' end (i + 1)
      on sums' w' h ew =
          let k = read_kept s g.fits table part in
          let kw : (cleared (lengths_of s')).work ≡ (cleared (lengths_of s)).work = ap (λ (m : Memory). m.work) k.1 in
          record {
            few = omega arith;
            room = omega (arith, total_drop lengths i l, g.room, ends);
            fits = k.0;
            work = ew ∙ sym kw;
            same_work = kw ∙ g.same_work;
            rest = λ y q.
                let z = g.rest y q in
                (plus z.0 (packet_adds s o), h z.0 z.1, plus_assoc z.0 (packet_adds s o) (left table lengths packets s' end (i + 1)) ∙ ap (plus z.0) (sym left_step) ∙ z.2);
          }

      pub going_on : (c : Counted) → c ≡ counted_by s o → (sums' : Running) (w' : Work) → ((m : List ℕ) → Runs sums m → Runs sums' (plus m (answer_adds c.answer c.counts))) → w' ≡ (cleared (lengths_of s)).work
          → Going table lengths packets start s₀ first c.answer.session sums' w' end (i + 1)
      going_on c e sums' w' h ew =
          subst (λ (x : Counted). Going table lengths packets start s₀ first x.answer.session sums' w' end (i + 1)) (sym e)
          (on sums' w' (λ m q. subst (λ (x : Counted). Runs sums' (plus m (answer_adds x.answer x.counts))) e (h m q)) ew)

-- ---- a packet, by the setup that was loaded
module _ (table : List ℕ) {loaded : LoadedSetup} (h : Loaded table loaded) where
  holds : Holds table loaded h.0
  holds = record { end = h.1; reads = held_reads table h.2; is = h.3 }

  pub nodes_whole : Tables loaded.nodes
  nodes_whole = tables_held table loaded holds

  by_held : (s : Session) (p : List ℕ) → read s table p ≡ read_by s h.0 p
  unfolding read
  by_held s p = ap (λ (o : Outcome Setup). after o (λ setup _. read_by s setup p)) h.2

  pub counted_is : (s : Session) → session_fits s ≡ true → (part packet : List ℕ) → packet ≡ readable part → (c : Counted)
      → ((setup : Setup) → trees_of loaded.nodes ≡ setup.trees → c ≡ counted_by s (read_by s setup packet)) → c ≡ counted_by s (read s table part)
  counted_is s fits part packet e c q =
      q h.0 (trees_held table loaded holds)
      ∙ ap (counted_by s) (ap (read_by s h.0) e ∙ sym (by_held s (readable part)) ∙ read_readable s fits table part)

  pub counted_numbered : (s : Session) (part : List ℕ) (c : Counted) → c ≡ counted_by s (read s table part) → AllNumbered c.answer.verdict
  counted_numbered s part c e = subst (λ (x : Counted). AllNumbered x.answer.verdict) (sym e) (answer_numbered s table part (read s table part) refl)
