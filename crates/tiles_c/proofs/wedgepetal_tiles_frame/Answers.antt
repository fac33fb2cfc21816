-- `tiles_c::wedgepetal_tiles_frame` meets its contract. Assumes nothing.
use mathlib.Core.Path.{◌≡◌, sym, ◌∙◌}
use lib.ListN.{length}
use Rattle.tiles_c.proofs.Calls.{tiles_lengths, tiles_made, tiles_unmade}
use borrow.Author.Rules.{rules}
use Rattle.tiles_c.proofs.wedgepetal_tiles_frame.Goals as goal

pub settings_of-set-requires : goal.settings_of-set-requires
settings_of-set-requires c = (tiles_lengths 8 c.args.settings.now c.args.session.now (length c.args.answer.now) (sym c.lists_refusal-k.ensures ∙ c.if-k-eq0.true)).0

pub session_of-s-requires : goal.session_of-s-requires
session_of-s-requires c = (tiles_lengths 8 c.args.settings.now c.args.session.now (length c.args.answer.now) (sym c.lists_refusal-k.ensures ∙ c.if-k-eq0.true)).1

pub return_frame-requires : goal.return_frame-requires
return_frame-requires c = let l = tiles_lengths 8 c.args.settings.now c.args.session.now (length c.args.answer.now) (sym c.lists_refusal-k.ensures ∙ c.if-k-eq0.true) in (l.1, l.2)

pub returns-then-k-eq0 : goal.returns-then-k-eq0
returns-then-k-eq0 c = tiles_made c.args.settings.now c.args.session.now c.args.answer.now c.args.golden.now c.args.previous.now _ c.args.map.now c.lists_refusal-k.ensures c.if-k-eq0.true c.settings_of-set.ensures c.session_of-s.ensures c.frame-done.ensures c.return_frame.ensures

pub returns : goal.returns
returns c = tiles_unmade c.args.settings.now c.args.session.now c.args.answer.now c.args.golden.now c.args.previous.now _ c.args.map.now c.lists_refusal-k.ensures c.if-k-eq0.false
