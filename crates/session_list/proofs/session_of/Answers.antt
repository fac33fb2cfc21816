-- `session_list::session_of` meets its contract. Assumes nothing.
use mathlib.Core.Path.{refl}
use Rattle.session_list.specs.List.{session_of}
use Rattle.session_list.proofs.session_of.Goals as goal

pub returns : goal.returns
unfolding session_of
returns c = refl
