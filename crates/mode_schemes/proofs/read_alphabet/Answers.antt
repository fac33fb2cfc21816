-- `mode_schemes::read_alphabet` meets its contract. Assumes nothing.
use Prim.Native.Nat.{ℕ}
use mathlib.Core.Path.{sym, ap, ◌∙◌}
use mathlib.Core.List.{List}
use Rattle.bitstream.specs.Reading.{got}
use Rattle.bitstream.proofs.Ends.{on_list}
use Rattle.mode_schemes.specs.Schemes.{ranks_from}
use Rattle.mode_schemes.proofs.Facts.{alphabet_sent, alphabet_none}
use Rattle.bitstream.proofs.Clauses.{two}
use Rattle.mode_schemes.proofs.read_alphabet.Goals as goal

pub returns-then-scheme-eq0 : goal.returns-then-scheme-eq0
returns-then-scheme-eq0 c = let e = ap (λ (l : List ℕ). ranks_from 8 0 l c.args.packet.now c.args.at) c.requires.1 ∙ sym (alphabet_sent c.args.scheme c.args.packet.now c.args.at c.if-scheme-eq0.true) in record { value = rw e at c.read_ranks.ensures.value; stored = rw e at c.read_ranks.ensures.stored }

pub returns : goal.returns
returns c = two (λ a b. record { value = a; stored = b }) (on_list _ _ (alphabet_none c.args.scheme c.args.packet.now c.args.at c.if-scheme-eq0.false ∙ sym (ap (λ (l : List ℕ). got l c.args.at) c.requires.1)))
