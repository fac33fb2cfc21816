-- What the counts of a packet add up to. Assumes nothing.
use Prim.Native.Nat.{ℕ}
use mathlib.Core.Path.{◌≡◌, refl, sym, ◌∙◌, subst}
use mathlib.Core.Bool.{Bool, true, false}
use mathlib.Core.List.{List}
use Rattle.bitstream.specs.Reading.{Outcome, got, refused, after, choose}
use Rattle.bitstream.proofs.Fields.{no_mix}
use Rattle.headers.specs.declared.Session.{Session}
use Rattle.headers.specs.Sizes.{format}
use Rattle.setup.specs.Header.{Setup}
use Rattle.frame_packet.specs.Frame.{Frame, frame_packet}
use Rattle.frame_packet.proofs.Fits.{Fits, packet_fits}
use Rattle.reading.specs.Answer.{Asked, stays_counted, counted, read_by}
use Rattle.counting.proofs.Sums as sums
use Rattle.tally.specs.Counted.{counts_of}
use Rattle.tally.specs.Sums.{AddsUp}

-- what was accepted is what the packet says
module _ (s : Session) (setup : Setup) (packet : List ℕ) {a : Asked} {e : ℕ} (g : read_by s setup packet ≡ got a e) where
  abbrev f : Outcome Frame
  f = frame_packet (format s) s.fields.fmbw s.fields.fmbh setup.trees s.references packet

  fits : Fits (format s) s.fields.fmbw s.fields.fmbh a.frame
  fits = go f (λ fr d r. packet_fits (format s) s.fields.fmbw s.fields.fmbh setup.trees s.references packet r) g
    where
      pass : (b : Bool) (fr : Frame) (d : ℕ) → Fits (format s) s.fields.fmbw s.fields.fmbh fr → choose b (got (record { setup = setup; frame = fr }) d) (refused 17 0) ≡ got a e → Fits (format s) s.fields.fmbw s.fields.fmbh a.frame
      pass true fr d h r = let z : record { setup = setup; frame = fr } ≡ a = cc in subst (λ (a : Asked). Fits (format s) s.fields.fmbw s.fields.fmbh a.frame) z h
      pass false fr d h r = no_mix (sym r)

      go : (o : Outcome Frame) → ((fr : Frame) (d : ℕ) → o ≡ got fr d → Fits (format s) s.fields.fmbw s.fields.fmbh fr) → after o (counted s setup) ≡ got a e
          → Fits (format s) s.fields.fmbw s.fields.fmbh a.frame
      go (refused k d) h r = no_mix (sym r)
      go (got fr d) h r = pass (stays_counted fr.header.kind s) fr d (h fr d refl) r

  -- "the eight mode counts grow by NMBS times its accepted inter frames, and coded plus uncoded by NBS times its accepted intra and inter frames": what one of them adds
  pub adds_up : AddsUp s a.frame.header.kind (counts_of s (got a e))
  adds_up =
      let w = s.fields.fmbw in
      let h = s.fields.fmbh in
      let b = a.frame.body in
      let kind = a.frame.header.kind in
      record {
        planes = λ k p l. sums.plane_sum (format s) w h b.coded b.modes kind k fits.body.once p l;
        all_planes = λ k. sums.blocks_sum (format s) w h b.coded b.modes kind k fits.body.once;
        modes = λ k. sums.modes_sum (format s) w h b.coded b.modes kind k fits.body.modes.below ∙ fits.body.modes.all_there k;
        no_modes = λ k. sums.modes_none (format s) w h b.coded b.modes kind k;
        repeats = λ k. sums.repeat_none (format s) w h b.coded b.modes kind k;
      }
