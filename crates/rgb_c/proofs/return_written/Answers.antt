-- `rgb_c::return_written` meets its contract. Assumes nothing.
use mathlib.Core.Path.{sym, ap, ◌∙◌}
use mathlib.Core.List.{List}
use Prim.Native.Nat.{ℕ}
use Rattle.session_list.specs.List.{gives}
use Rattle.session_list.proofs.Lists.{only}
use Rattle.rgb_c.specs.Face.{written_returned}
use Rattle.rgb_c.proofs.return_written.Goals as goal

pub returns-in-Bytes : goal.returns-in-Bytes
returns-in-Bytes c = ap (λ (l : List ℕ). gives 0 l) (only c.args.list.now _ c.requires) ∙ sym (ap (written_returned c.args.list.now) c.in-Bytes.is)
