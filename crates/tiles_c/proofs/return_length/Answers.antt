-- `tiles_c::return_length` meets its contract. Assumes nothing.
use Prim.Native.Nat.{ℕ}
use native.Mathlib.Omega.{arith}
use mathlib.Core.Path.{sym, ap, ◌∙◌}
use mathlib.Core.List.{List}
use Rattle.session_list.specs.List.{gives}
use Rattle.session_list.proofs.Lists.{only}
use Rattle.tiles_c.specs.Face.{length_returned}
use borrow.Author.Rules.{rules}
use Rattle.tiles_c.proofs.return_length.Goals as goal

pub returns-in-Is : goal.returns-in-Is
returns-in-Is c = ap (λ (l : List ℕ). gives 0 l) (only c.args.list.now _ c.requires) ∙ sym (ap (length_returned c.args.list.now) c.in-Is.is)
