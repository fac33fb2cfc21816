-- The frame that a packet asks for, and what a call leaves.
use Rattle.std.specs.Prelude.{ℕ, List, get_or}
use Rattle.bitstream.specs.Reading.{Outcome, got, refused}
use Rattle.geometry.specs.declared.PixelFormat.{PixelFormat}
use Rattle.headers.specs.declared.Session.{Session}
use Rattle.matrices.specs.Matrix.{matrix_of}
use Rattle.setup.specs.Loaded.{limit_of}
use Rattle.ways.specs.Ways.{Picture}
use Rattle.reconstruct.specs.Picture.{Blocks, Matrices, picture_of}
use Rattle.reading.specs.declared.FrameAnswer.{FrameAnswer}
use Rattle.reading.specs.Answer.{Asked, answer_for}
use Rattle.headers.specs.Sizes.{format}
use Rattle.work_memory.specs.Memory.{Memory}
use Rattle.work_memory.specs.Lengths.{lengths_of, cleared}

-- what is kept from call to call
pub record State : Type 0 where
  pub session : Session
  pub golden : List ℕ
  pub previous : List ℕ

abbrev pub state : Session → (golden previous : List ℕ) → State
state s golden previous = record { session = s; golden = golden; previous = previous }

-- what a call leaves: its answer, in which the session stands, new, and work memory
pub record Done : Type 0 where
  pub answer : FrameAnswer
  pub new : List ℕ
  pub memory : Memory

abbrev pub done : FrameAnswer → (new : List ℕ) → Memory → Done
done answer new memory = record { answer = answer; new = new; memory = memory }

-- ---- what an accepted packet asks for
-- the frame's qi of a number, counted from 0
abbrev pub qi_at : Asked → ℕ → ℕ
qi_at a index = get_or a.frame.header.qis index 0

-- what the packet says of the blocks, as the picture takes it
abbrev pub blocks_asked : Asked → Blocks
blocks_asked a =
    let b = a.frame.body in
    record { records = b.records; coded = b.coded; coefs = b.tokens.coefs; lasts = b.tokens.lasts }

-- the matrix of a type, a plane and the number of a qi of the frame
abbrev pub matrices_asked : Asked → Matrices
matrices_asked a type plane index = matrix_of a.setup.parameters type plane (qi_at a index)

-- "L is the limit of the first qi"
unfoldable pub picture : Session → Asked → (golden previous : List ℕ) → Picture
picture s a = picture_of (format s) s.fields.fmbw s.fields.fmbh (blocks_asked a) (matrices_asked a) (limit_of a.setup (qi_at a 0))

-- ---- what a call leaves
-- a way to make a frame of w by h macro blocks: of a picture and previous
abbrev pub Way : Type 0
Way = PixelFormat → ℕ → ℕ → Picture → List ℕ → List ℕ

-- "A refused one changes none of these, nor new; an accepted one makes new"
abbrev pub new_by : Way → State → List ℕ → Outcome Asked → List ℕ
new_by way st new (refused k e) = new
new_by way st new (got a e) =
    let s = st.session in
    way (format s) s.fields.fmbw s.fields.fmbh (picture s a st.golden st.previous) st.previous

-- what a call past its length check leaves
abbrev pub decoded : Way → State → (new : List ℕ) → Outcome Asked → Done
decoded way st new o = done (answer_for st.session o) (new_by way st new o) (cleared (lengths_of st.session))
