-- `y4m::frames::put_frame` meets its contract. Assumes nothing.
use mathlib.Core.Path.{refl}
use Rattle.y4m.proofs.FrameLaws.{frame_written}
use Rattle.bitstream.proofs.Clauses.{two}
use Rattle.y4m.proofs.frames.put_frame.Goals as goal

pub returns : goal.returns
returns c = two (λ a b. record { value = a; out_after = b }) (frame_written c.args.n c.args.planes.now c.args.out.now c.put-begin.new.out c.turn_frame.new.dst c.args.at c.put-begin.result _ c.requires.1 c.requires.2 c.put-begin.ensures.value c.put-begin.ensures.out_after refl c.turn_frame.ensures)
