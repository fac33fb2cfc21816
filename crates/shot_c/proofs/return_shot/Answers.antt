-- `shot_c::return_shot` meets its contract. Assumes nothing.
use borrow.Author.Rules.{rules}
use native.Mathlib.Omega.{arith}
use lib.ListN.{length-set}
use Rattle.shot_c.proofs.Calls.{lists_played, lists_refused}
use Rattle.shot_c.proofs.return_shot.Goals as goal

pub returns-in-Played : goal.returns-in-Played
returns-in-Played c = lists_played c.args.session.now c.args.names.now c.args.answer c.requires.1 c.in-Played.is c.reference_number.ensures
