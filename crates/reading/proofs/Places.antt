-- How a packet comes to be refused, and where; and what an accepted one says. Assumes nothing.
use Prim.Native.Nat.{ℕ}
use mathlib.Core.Path.{◌≡◌, refl, sym, ap, ◌∙◌}
use mathlib.Core.Bool.{Bool, true, false}
use mathlib.Core.List.{List}
use Rattle.bitstream.specs.Reading.{Outcome, got, refused, after, choose}
use Rattle.bitstream.proofs.Fields.{no_mix}
use Rattle.headers.specs.declared.Session.{Session}
use Rattle.headers.specs.Sizes.{format}
use Rattle.setup.specs.Header.{Setup}
use Rattle.setup.specs.Table.{held_setup}
use Rattle.setup.proofs.Held.{held_refused}
use Rattle.frame_packet.specs.Frame.{Frame, frame_packet}
use Rattle.reading.specs.Answer.{Asked, stays_counted, counted, read_by, read}
use Rattle.reading.specs.Counted.{Uncounted}

-- what a packet asks for by a setup
abbrev asks : Setup → Frame → ℕ → Outcome Asked
asks setup fr d = got (record { setup = setup; frame = fr }) d

module _ (s : Session) (packet : List ℕ) where
  abbrev pub outcome_by : Setup → Outcome Frame
  outcome_by setup = frame_packet (format s) s.fields.fmbw s.fields.fmbh setup.trees s.references packet

  -- a refusal, by the way it comes about: 8 for table memory, 17 for the session's numbers, both without a place; or inside the packet
  module _ {X : Type 0} (table : List ℕ) {k e : ℕ} (on-8 : 8 ≡ k → 0 ≡ e → X) (on_17 : 17 ≡ k → 0 ≡ e → Uncounted s table packet → X) (inside : (setup : Setup) → outcome_by setup ≡ refused k e → X) where
    by_numbers : (setup : Setup) (place : ℕ) → held_setup table ≡ got setup place → (fr : Frame) (d : ℕ) → outcome_by setup ≡ got fr d
        → (b : Bool) → stays_counted fr.header.kind s ≡ b → choose b (asks setup fr d) (refused 17 0) ≡ refused k e → X
    by_numbers setup place h fr d q true t r = no_mix r
    by_numbers setup place h fr d q false t r = let x : 17 ≡ k = cc in let y : 0 ≡ e = cc in on_17 x y (record { setup = setup; place = place; held = h; frame = fr; end = d; reads = q; passed = t })

    by_packet : (setup : Setup) (place : ℕ) → held_setup table ≡ got setup place → (o : Outcome Frame) → outcome_by setup ≡ o → after o (counted s setup) ≡ refused k e → X
    by_packet setup place h (got fr d) q r = by_numbers setup place h fr d q (stays_counted fr.header.kind s) refl r
    by_packet setup place h (refused j d) q r = inside setup (q ∙ cc)

    pub read_refused : read s table packet ≡ refused k e → X
    unfolding read
    read_refused h = go (held_setup table) refl h
      where
        go : (o : Outcome Setup) → held_setup table ≡ o → after o (λ setup _. read_by s setup packet) ≡ refused k e → X
        go (got setup d) q r = by_packet setup d q (outcome_by setup) refl r
        go (refused j d) q r = let z = held_refused table q in let x : 8 ≡ k = cc in let y : 0 ≡ e = cc in on-8 x y

  -- what is accepted is what the packet says, and the numbers stay
  abbrev Says : Asked → ℕ → Type 0
  Says a e = (outcome_by a.setup ≡ got a.frame e) × (stays_counted a.frame.header.kind s ≡ true)

  module _ {a : Asked} {e : ℕ} where
    got_numbers : (setup : Setup) (fr : Frame) (d : ℕ) → outcome_by setup ≡ got fr d
        → (b : Bool) → stays_counted fr.header.kind s ≡ b → choose b (asks setup fr d) (refused 17 0) ≡ got a e → Says a e
    got_numbers setup fr d q true t r =
        let x : ◌≡◌ {A = Asked} (record { setup = setup; frame = fr }) a = cc in
        let y : d ≡ e = cc in
        (ap (λ (z : Asked). outcome_by z.setup) (sym x) ∙ q ∙ (λ i. got (x i).frame (y i)), ap (λ (z : Asked). stays_counted z.frame.header.kind s) (sym x) ∙ t)
    got_numbers setup fr d q false t r = no_mix (sym r)

    got_packet : (setup : Setup) (o : Outcome Frame) → outcome_by setup ≡ o → after o (counted s setup) ≡ got a e → Says a e
    got_packet setup (got fr d) q r = got_numbers setup fr d q (stays_counted fr.header.kind s) refl r
    got_packet setup (refused j d) q r = no_mix (sym r)

    pub read_got : (table : List ℕ) → read s table packet ≡ got a e → Says a e
    unfolding read
    read_got table h = go (held_setup table) h
      where
        go : (o : Outcome Setup) → after o (λ setup _. read_by s setup packet) ≡ got a e → Says a e
        go (got setup d) r = got_packet setup (outcome_by setup) refl r
        go (refused j d) r = no_mix (sym r)
