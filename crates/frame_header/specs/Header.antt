-- The header of a frame packet. An empty packet has none: it is a repeat.
use Rattle.std.specs.Prelude.{ℕ, zero, suc, List, [], ◌∷◌, ◌++◌, Bool, eqb}
use Rattle.bitstream.specs.Reading.{Parse, pure, bind, pick, choose, field, ◌>>=◌, ◌>>◌}
use Rattle.frame_header.specs.declared.Kind.{Kind}
use Rattle.frame_header.specs.declared.Kind.TheVariants.{Intra, Inter}
unfoldable pub use Rattle.frame_type.specs.Judged.{frame_type, reserved}

-- the qi so far, and "up to two more each announced by a 1 bit, the third qi needing no closing bit"
unfoldable pub more_qis : ℕ → List ℕ → Parse (List ℕ)
more_qis zero qis = pure qis
more_qis (suc n) qis = do
  more ← field 1
  pick (eqb more 0) (pure qis) (bind (field 6) (λ q. more_qis n (qis ++ q ∷ [])))

-- "qi 6 bits"
unfoldable pub qi_list : Parse (List ℕ)
qi_list = do
  q ← field 6
  more_qis 2 (q ∷ [])

-- "type (0 intra)": 1 is inter
unfoldable pub kind_of : ℕ → Kind
kind_of t = choose (eqb t 0) Intra Inter

-- a frame's kind and its list of qi
pub record FrameHeader : Type 0 where
  pub kind : Kind
  pub qis : List ℕ

-- "Else bit 0; type (0 intra); qi 6 bits, up to two more ..; intra: 3 zero bits"
unfoldable pub frame_header : Bool → Parse FrameHeader
frame_header references = do
  t ← frame_type references
  qis ← qi_list
  reserved t
  pure (record { kind = kind_of t; qis = qis })
