-- Which blocks are coded in a frame that is accepted without references, and in a repeat.
use Rattle.std.specs.Prelude.{ℕ, ◌≡◌, true, false, []}
use Rattle.bitstream.specs.Reading.{got}
use Rattle.geometry.specs.declared.Block.{Block}
use Rattle.geometry.specs.Frame.{InFrame}
use Rattle.headers.specs.Sizes.{format}
use Rattle.frame_header.specs.declared.Kind.TheVariants.{Intra}
use Rattle.reading.specs.Answer.{Asked}
use Rattle.asked_frame.specs.Answer.{State, picture}
use Rattle.calls.specs.Call.{Call, outcome_of}

-- "9: an inter or empty packet and no references"; "Intra: all coded": what is accepted without references is intra and codes every block
abbrev pub FirstCodesAll : Type 0
FirstCodesAll = (st : State) (c : Call) (a : Asked) (e : ℕ) → let s = st.session in
    s.references ≡ false → outcome_of st c ≡ got a e
    → (a.frame.header.kind ≡ Intra) × ((b : Block) → InFrame (format s) s.fields.fmbw s.fields.fmbh b → (picture s a st.golden st.previous).coded b ≡ true)

-- "An empty packet codes no block"
abbrev pub EmptyCodesNone : Type 0
EmptyCodesNone = (st : State) (c : Call) (a : Asked) (e : ℕ) → c.packet ≡ [] → outcome_of st c ≡ got a e → (b : Block) → (picture st.session a st.golden st.previous).coded b ≡ false
