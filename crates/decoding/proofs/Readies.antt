-- A packet that was read is ready: refused, or its frame can be made. Assumes nothing.
use Prim.Native.Nat.{ℕ, ◌≤◌}
use native.Mathlib.Omega.{arith}
use mathlib.Core.Path.{◌≡◌, sym, ◌∙◌, transport}
use mathlib.Core.Bool.{true, false, true≢false}
use mathlib.Core.List.{List}
use lib.IntN.{ℤ, pos}
use lib.ListN.{length, get_or, replicate}
use Rattle.bitstream.specs.Reading.{Outcome, after}
use Rattle.geometry.specs.declared.PixelFormat.{PixelFormat}
use Rattle.headers.specs.declared.Session.{Session}
use Rattle.headers.specs.Sizes.{format}
use Rattle.setup.specs.Header.{Setup}
use Rattle.setup.specs.Loaded.{Holds}
use Rattle.setup.specs.declared.LoadedSetup.{LoadedSetup}
use Rattle.setup.proofs.Held.{held_few}
use Rattle.tokens.specs.Answer.{trees_of}
use Rattle.frame_packet.specs.Frame.{Frame, frame_packet}
use Rattle.frame_packet.specs.Work.{work_after, as_frame}
use Rattle.packet_body.specs.declared.Read.TheVariants.{Whole, Refused}
use Rattle.frame_packet.specs.declared.FrameRead.{FrameRead}
use Rattle.ways.specs.Ways.{first_way}
use Rattle.reconstruct.specs.Picture.{picture_of}
use Rattle.reconstruct.specs.Lent.{blocks_in, matrix_in, Lent, ZerosBehind}
use Rattle.reading.specs.declared.FrameAnswer.{FrameAnswer}
use Rattle.reading.specs.Answer.{stays_counted, counted, answer_for}
use Rattle.work_memory.specs.Memory.{Work, work}
use Rattle.kept_matrices.specs.Kept.{Serves}
use Rattle.asked_frame.proofs.Decoded.{on_refused, on_17, lent, header_few, on_accepted}
use Rattle.decoding.specs.declared.Prepared.{Prepared}
use Rattle.decoding.specs.Ready.{Ready}
use Rattle.decoding.proofs.Made.{frame_is}

module _ (s : Session) (setup : Setup) (packet nodes : List ℕ) (et : trees_of nodes ≡ setup.trees) {f : PixelFormat} (ef : f ≡ format s) {r : FrameRead} {m : Work}
    (er : r ≡ as_frame (frame_packet f s.fields.fmbw s.fields.fmbh (trees_of nodes) s.references packet))
    (em : m ≡ work_after f s.fields.fmbw s.fields.fmbh (frame_packet f s.fields.fmbw s.fields.fmbh (trees_of nodes) s.references packet))
    (a : FrameAnswer) (judged : (setup : Setup) (o : Outcome Frame) → r ≡ as_frame o → a ≡ answer_for s (after o (counted s setup))) (p : Prepared) (ea : p.answer ≡ a) where
  answers : (setup : Setup) (o : Outcome Frame) → r ≡ as_frame o → p.answer ≡ answer_for s (after o (counted s setup))
  answers setup o is = ea ∙ judged setup o is

  pub ready_refused : {k e : ℕ} → r.read ≡ Refused k e → p.accepted ≡ false → Ready s setup packet p m
  ready_refused h never = record {
    refused = λ z golden previous new dc ed. on_refused s setup packet nodes et ef er em golden previous new h p.answer answers dc ed;
    accepted = λ y. absurd (true≢false (sym y ∙ never));
  }

  module _ {count t e : ℕ} (h : r.read ≡ Whole count t e) where
    pub ready_17 : (records coded : List ℕ) (coefs : List ℤ) (lasts : List ℕ)
        → (records ≡ replicate (length m.records) 0) × (coded ≡ replicate (length m.coded) 0) × (coefs ≡ replicate (length m.coefs) (pos 0)) × (lasts ≡ replicate (length m.lasts) 0)
        → stays_counted r.header.kind s ≡ false → p.accepted ≡ false → Ready s setup packet p (work records coded coefs lasts m.flags m.bits m.supers m.modes m.active)
    ready_17 records coded coefs lasts zeros sc never = record {
      refused = λ z golden previous new dc ed. on_17 s setup packet nodes et ef er em h golden previous new records coded coefs dc lasts ed zeros sc p.answer answers;
      accepted = λ y. absurd (true≢false (sym y ∙ never));
    }

    pub ready_accepted : (table : List ℕ) (l : LoadedSetup) → Holds table l setup → stays_counted r.header.kind s ≡ true → p.accepted ≡ true → p.count ≡ count
        → p.limit ≡ get_or l.limits (get_or r.header.qis 0 0) 0 → p.format ≡ f → Serves table l.parameters r.header.qis r.header.count p.kept → Ready s setup packet p m
    ready_accepted table l hs sc done-so ec el ep sv =
        let w = s.fields.fmbw in
        let k = s.fields.fmbh in
        let b = lent s setup packet nodes et ef er em h in
        let q = header_few s setup packet nodes et ef er em h in
        record {
          refused = λ never. absurd (true≢false (sym done-so ∙ never));
          accepted = λ y. record {
            same_format = ep ∙ ef;
            lent = transport (λ i. Lent (sym ep i) w k m.records m.coded (sym ec i) m.coefs m.lasts p.kept.values) (b.lent p.kept.values sv.keeps.long);
            behind = transport (λ i. ZerosBehind m.coded (sym ec i) m.coefs m.lasts) b.behind;
            few = omega (arith, el, held_few table l hs (get_or r.header.qis 0 0) (q.1 0 (omega arith)));
            made = λ golden previous new new₀ en records coded coefs dc dc₀ lasts ed z.
                on_accepted s setup packet nodes et ef er em h golden previous new
                (frame_is f w k m.records m.coded count m.coefs m.lasts r.header.count b table l r.header.qis p.kept.values p.limit golden previous new sv.asked el
                (en ∙ (λ i. first_way (ep i) w k (picture_of (ep i) w k (blocks_in m.records m.coded (ec i) m.coefs m.lasts) (matrix_in p.kept.values) p.limit golden previous) previous)) setup hs)
                records coded coefs dc dc₀ lasts ed (z.records_zero, z.coded_zero, z.coefs_zero, z.dc_zero, z.lasts_zero) new₀ sc p.answer answers;
          };
        }
