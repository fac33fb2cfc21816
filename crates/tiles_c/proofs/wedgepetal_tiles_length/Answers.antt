-- `tiles_c::wedgepetal_tiles_length` meets its contract. Assumes nothing.
use mathlib.Core.Path.{◌≡◌, sym, ◌∙◌}
use lib.ListN.{length}
use Rattle.tiles_c.proofs.Calls.{tiles_lengths, length_made, length_unmade}
use borrow.Author.Rules.{rules}
use Rattle.tiles_c.proofs.wedgepetal_tiles_length.Goals as goal

pub settings_of-set-requires : goal.settings_of-set-requires
settings_of-set-requires c = (tiles_lengths 1 c.args.settings.now c.args.session.now (length c.args.length.now) (sym c.lists_refusal-k.ensures ∙ c.if-k-eq0.true)).0

pub session_of-s-requires : goal.session_of-s-requires
session_of-s-requires c = (tiles_lengths 1 c.args.settings.now c.args.session.now (length c.args.length.now) (sym c.lists_refusal-k.ensures ∙ c.if-k-eq0.true)).1

pub return_length-requires : goal.return_length-requires
return_length-requires c = (tiles_lengths 1 c.args.settings.now c.args.session.now (length c.args.length.now) (sym c.lists_refusal-k.ensures ∙ c.if-k-eq0.true)).2

pub returns-then-k-eq0 : goal.returns-then-k-eq0
returns-then-k-eq0 c = length_made c.args.settings.now c.args.session.now c.args.length.now c.lists_refusal-k.ensures c.if-k-eq0.true c.settings_of-set.ensures c.session_of-s.ensures c.map_length.ensures c.return_length.ensures

pub returns : goal.returns
returns c = length_unmade c.args.settings.now c.args.session.now c.args.length.now c.lists_refusal-k.ensures c.if-k-eq0.false
