-- What a packet asks for is the same, whatever its length. Assumes nothing.
use Prim.Native.Nat.{ℕ}
use mathlib.Core.Path.{◌≡◌, refl, ap}
use mathlib.Core.List.{List}
use mathlib.Core.Bool.{true}
use Rattle.bitstream.specs.Reading.{Outcome, got, refused, after}
use Rattle.bitstream.specs.Answer.{readable}
use Rattle.headers.specs.declared.Session.{Session}
use Rattle.headers.specs.Fits.{session_fits}
use Rattle.headers.specs.Sizes.{format}
use Rattle.headers.proofs.Fitting.{fits_macro_blocks}
use Rattle.setup.specs.Header.{Setup}
use Rattle.setup.specs.Table.{held_setup}
use Rattle.setup.proofs.Held.{held_reads, trees_whole}
use Rattle.frame_packet.specs.Frame.{Frame}
use Rattle.frame_packet.proofs.Laws.{packet_readable}
use Rattle.reading.specs.Answer.{counted, read_by, read}
use Rattle.reading.proofs.Held.{trees_proper}

module _ (s : Session) (fits : session_fits s ≡ true) where
  by_readable : (setup : Setup) (table packet : List ℕ) {e : ℕ} → held_setup table ≡ got setup e → read_by s setup (readable packet) ≡ read_by s setup packet
  by_readable setup table packet h =
      let k = fits_macro_blocks s fits in
      let t = trees_whole table (held_reads table h) in
      ap (λ (o : Outcome Frame). after o (counted s setup))
      (packet_readable (format s) s.fields.fmbw s.fields.fmbh setup.trees (trees_proper setup.trees t.0 t.1) k.1 k.3 s.references packet)

  pub read_readable : (table packet : List ℕ) → read s table (readable packet) ≡ read s table packet
  unfolding read
  read_readable table packet = go (held_setup table) refl
    where
      go : (o : Outcome Setup) → held_setup table ≡ o → after o (λ setup _. read_by s setup (readable packet)) ≡ after o (λ setup _. read_by s setup packet)
      go (got setup e) h = by_readable setup table packet h
      go (refused k e) h = refl
