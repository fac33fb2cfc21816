-- What all packets of a recording add. Assumes nothing.
use Prim.Native.Nat.{ℕ, zero, suc, ◌+◌, ◌-◌, ◌<◌}
use native.Mathlib.Omega.{arith}
use native.Mathlib.Nat.{mul-zero}
use mathlib.Core.Path.{◌≡◌, refl, sym, ap, ◌∙◌, subst}
use mathlib.Core.Bool.{Bool, true, false}
use mathlib.Core.List.{List, [], ◌∷◌}
use lib.ListN.{length, get_or, drop, length-set, length-drop}
use Rattle.bitstream.specs.Reading.{Outcome, got, refused, after, choose}
use Rattle.bitstream.specs.Lists.{among, tabulated}
use Rattle.bitstream.proofs.Fields.{no_mix}
use Rattle.geometry.specs.declared.PixelFormat.{PixelFormat}
use Rattle.geometry.specs.Sizes.{plane_blocks}
use Rattle.headers.specs.declared.Session.{Session}
use Rattle.headers.specs.Fits.{session_fits}
use Rattle.headers.specs.Sizes.{format}
use Rattle.setup.specs.Header.{Setup}
use Rattle.setup.specs.Table.{held_setup, table_after}
use Rattle.frame_header.specs.declared.Kind.{Kind}
use Rattle.frame_header.specs.declared.Kind.TheVariants.{Intra, Inter, Repeat}
use Rattle.frame_packet.specs.Frame.{Frame, frame_packet}
use Rattle.frame_packet.proofs.Laws.{packet_numbers, packet_refuses}
use Rattle.work_memory.specs.Lengths as lengths
use Rattle.reading.specs.Answer.{Asked, stays_counted, counted, read, read_by, session_after, answer_for, kind_number}
use Rattle.asked_frame.specs.Answer.{state}
use Rattle.calls.specs.Call.{call, lengths_hold, outcome_of}
use Rattle.calls.proofs.Tokens.{outcome_got}
use Rattle.counting.specs.Counts.{sum, frame_counts}
use Rattle.tally.specs.Counted.{counts_of}
use Rattle.tally.proofs.Sums.{adds_up}
use Rattle.report.specs.Report.{plus, nothing, only}
use Rattle.report.proofs.Sums.{plus_long}
use Rattle.census_packets.specs.Recording.{Lent, outcome_lent, packet_adds, packets_add, headers_of, adds_by, recording_adds}
use Rattle.census_packets.proofs.Numbers.{Every, every, headers_number, headers_sound, setup_held}
use Rattle.census_packets.proofs.Rules.{session_kept}
use Rattle.census_claims.specs.Sums.{Balanced, RecordingsBalanced}
use Rattle.census_claims.proofs.Parts.{listed}
use Rattle.census_claims.proofs.Packet.{frame_numbers, refused_balanced, balanced_plus, kind_balanced}

-- ---- lengths
frame_long : (f : PixelFormat) (w h : ℕ) (kind : Kind) (coded modes : List ℕ)
    → let c = frame_counts f w h kind coded modes in (length c.coded ≡ 3) × (length c.uncoded ≡ 3) × (length c.modes ≡ 8)
unfolding frame_counts tabulated
frame_long f w h Intra coded modes = (refl, refl, refl)
frame_long f w h Inter coded modes = (refl, refl, refl)
frame_long f w h Repeat coded modes = (refl, refl, refl)

counts_long : (s : Session) (a : Asked) (e : ℕ) → let c = counts_of s (got a e) in (length c.coded ≡ 3) × (length c.uncoded ≡ 3) × (length c.modes ≡ 8)
counts_long s a e = frame_long (format s) s.fields.fmbw s.fields.fmbh a.frame.header.kind a.frame.body.coded a.frame.body.modes

only_long : (at n : ℕ) → length (only at n) ≡ 34
only_long at n = length-set nothing at n

packet_long : (s : Session) (o : Outcome Asked) → length (packet_adds s o) ≡ 34
packet_long s (refused k e) = only_long (2 + k) 1
packet_long s (got a e) =
    let c = counts_of s (got a e) in
    let n = counts_long s a e in
    let h = only_long (kind_number a.frame.header.kind) 1 in
    plus_long (only (kind_number a.frame.header.kind) 1) _ (h ∙ sym (listed c.coded c.uncoded c.modes n.0 n.1 n.2).long) ∙ h

packets_long : (says : Session → List ℕ → Outcome Asked) (ps : List (List ℕ)) (s : Session) → length (packets_add says s ps) ≡ 34
unfolding packets_add
packets_long says [] s = refl
packets_long says (p ∷ ps) s =
    let h = packet_long s (says s p) in
    plus_long (packet_adds s (says s p)) _ (h ∙ sym (packets_long says ps (answer_for s (says s p)).session)) ∙ h

pub adds_long : (l : Lent) (packets : List (List ℕ)) → length (recording_adds l packets) ≡ 34
unfolding recording_adds
adds_long l packets = go (headers_of (length l.table) packets)
  where
    go : (o : Outcome Session) → length (adds_by l packets o) ≡ 34
    go (refused k e) = only_long (2 + k) 1
    go (got s e) = packets_long (outcome_lent l (table_after l.table (get_or packets 2 []))) (drop 3 packets) s

-- ---- nothing, and sizes that do not change
nothing_balanced : (s : Session) → Balanced s 0 nothing
unfolding sum
nothing_balanced s = record {
  modes = sym (mul-zero (lengths.macro_blocks s));
  blocks = sym (mul-zero (lengths.blocks s));
  planes = λ p q. zeros p q ∙ sym (mul-zero (plane_blocks (format s) s.fields.fmbw s.fields.fmbh p));
  packets = refl;
  eight = refl;
  fourteen = refl;
  fifteen = refl;
  sixteen = refl;
}
  where
    zeros : (p : ℕ) → p < 3 → get_or nothing (20 + p) 0 + get_or nothing (23 + p) 0 ≡ 0
    zeros zero q = refl
    zeros (suc zero) q = refl
    zeros (suc (suc zero)) q = refl
    zeros (suc (suc (suc p))) q = absurd (omega arith)

module _ (s : Session) (n : ℕ) (l : List ℕ) where
  after_balanced : (kind : Kind) → Balanced (session_after kind s) n l → Balanced s n l
  unfolding session_after
  after_balanced Intra b = record { modes = b.modes; blocks = b.blocks; planes = b.planes; packets = b.packets; eight = b.eight; fourteen = b.fourteen; fifteen = b.fifteen; sixteen = b.sixteen }
  after_balanced Inter b = record { modes = b.modes; blocks = b.blocks; planes = b.planes; packets = b.packets; eight = b.eight; fourteen = b.fourteen; fifteen = b.fifteen; sixteen = b.sixteen }
  after_balanced Repeat b = record { modes = b.modes; blocks = b.blocks; planes = b.planes; packets = b.packets; eight = b.eight; fourteen = b.fourteen; fifteen = b.fifteen; sixteen = b.sixteen }

  answer_balanced : (o : Outcome Asked) → Balanced (answer_for s o).session n l → Balanced s n l
  answer_balanced (refused k e) b = b
  answer_balanced (got a e) b = after_balanced a.frame.header.kind b

-- ---- the numbers of frame packets, by a table memory that holds a setup
module _ (table : List ℕ) {setup : Setup} {place : ℕ} (held : held_setup table ≡ got setup place) (s : Session) (p : List ℕ) where
  by_held : read s table p ≡ read_by s setup p
  unfolding read
  by_held = ap (λ (o : Outcome Setup). after o (λ setup _. read_by s setup p)) held

  abbrev said_frame : Outcome Frame
  said_frame = frame_packet (format s) s.fields.fmbw s.fields.fmbh setup.trees s.references p

  read_number : {k e : ℕ} → read_by s setup p ≡ refused k e → among frame_numbers k ≡ true
  unfolding Every among
  read_number {k} {e} r = go said_frame refl r
    where
      pass : (b : Bool) (a : Asked) (d : ℕ) → choose b (got a d) (refused 17 0) ≡ refused k e → among frame_numbers k ≡ true
      pass true a d r = no_mix r
      pass false a d r = let z : 17 ≡ k = cc in subst (λ (j : ℕ). among frame_numbers j ≡ true) z refl

      go : (o : Outcome Frame) → said_frame ≡ o → after o (counted s setup) ≡ refused k e → among frame_numbers k ≡ true
      go (got fr d) q r = pass (stays_counted fr.header.kind s) (record { setup = setup; frame = fr }) d r
      go (refused j d) q r =
          let z : j ≡ k = cc in
          subst (λ (j : ℕ). among frame_numbers j ≡ true) z
          (every (λ j. among frame_numbers j ≡ true) packet_numbers (refl, (refl, (refl, (refl, (refl, (refl, tt)))))) j
          (packet_refuses (format s) s.fields.fmbw s.fields.fmbh setup.trees s.references p j d q))

module _ (l : Lent) (table : List ℕ) {setup : Setup} {place : ℕ} (held : held_setup table ≡ got setup place) where
  said_is : (s : Session) → session_fits s ≡ true → (p : List ℕ) (b : Bool) → lengths_hold (state s l.golden l.previous) (call p table l.memory l.new) ≡ b
      → outcome_lent l table s p ≡ choose b (read_by s setup p) (refused 1 0)
  unfolding outcome_of
  said_is s fits p b h = rw (fits, h) (ap (λ (o : Outcome Asked). choose b o (refused 1 0)) (by_held table held s p))

  -- one packet
  said_balanced : (s : Session) → session_fits s ≡ true → (p : List ℕ) → Balanced s 1 (packet_adds s (outcome_lent l table s p))
  unfolding outcome_of among
  said_balanced s fits p = by_hold (lengths_hold (state s l.golden l.previous) (call p table l.memory l.new)) refl
    where
      by_read : (o : Outcome Asked) → read_by s setup p ≡ o → Balanced s 1 (packet_adds s o)
      by_read (refused k e) r = refused_balanced s k (read_number table held s p r)
      by_read (got a e) r = let n = counts_long s a e in kind_balanced s (counts_of s (got a e)) n.0 n.1 n.2 a.frame.header.kind (adds_up s setup p r)

      by_hold : (b : Bool) → lengths_hold (state s l.golden l.previous) (call p table l.memory l.new) ≡ b → Balanced s 1 (packet_adds s (outcome_lent l table s p))
      by_hold true h = subst (λ (o : Outcome Asked). Balanced s 1 (packet_adds s o)) (sym (said_is s fits p true h)) (by_read (read_by s setup p) refl)
      by_hold false h = subst (λ (o : Outcome Asked). Balanced s 1 (packet_adds s o)) (sym (said_is s fits p false h)) (refused_balanced s 1 refl)

  -- all of them
  packets_balanced : (ps : List (List ℕ)) (s : Session) → session_fits s ≡ true → Balanced s (length ps) (packets_add (outcome_lent l table) s ps)
  unfolding packets_add
  packets_balanced [] s fits = nothing_balanced s
  packets_balanced (p ∷ ps) s fits =
      let o = outcome_lent l table s p in
      let t = (answer_for s o).session in
      let f = (session_kept s fits o (λ a e r. (outcome_got (state s l.golden l.previous) (call p table l.memory l.new) r).1)).0 in
      let e : 1 + length ps ≡ suc (length ps) = omega arith in
      subst (λ (k : ℕ). Balanced s k (plus (packet_adds s o) (packets_add (outcome_lent l table) t ps))) e
      (balanced_plus s 1 (length ps) (packet_adds s o) (packets_add (outcome_lent l table) t ps) (packet_long s o ∙ sym (packets_long (outcome_lent l table) ps t)) (said_balanced s fits p)
      (answer_balanced s (length ps) (packets_add (outcome_lent l table) t ps) o (packets_balanced ps t f)))

pub recordings_balanced : RecordingsBalanced
unfolding recording_adds
recordings_balanced l packets = record {
  sound = λ s e r.
      let h = headers_sound (length l.table) packets r in
      let t = table_after l.table (get_or packets 2 []) in
      let b = packets_balanced l t (setup_held l.table (get_or packets 2 []) h.accepted) (drop 3 packets) s h.fits in
      let n : length (drop 3 packets) ≡ length packets - 3 = length-drop 3 packets in
      subst (λ (o : Outcome Session). Balanced s (length packets - 3) (adds_by l packets o)) (sym r) (subst (λ (k : ℕ). Balanced s k (packets_add (outcome_lent l t) s (drop 3 packets))) n b);
  not_sound = λ k e r. (ap (adds_by l packets) r, headers_number (length l.table) packets r);
}
