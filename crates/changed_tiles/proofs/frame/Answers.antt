-- `changed_tiles::frame` meets its contract. Assumes nothing.
use Prim.Native.Nat.{ℕ}
use mathlib.Core.Path.{◌≡◌, refl, sym, ap, ◌∙◌}
use mathlib.Core.List.{List}
use lib.ListN.{length}
use borrow.Author.Tests.{not-true, not-false}
use Rattle.work_memory.specs.Memory.{memory}
use Rattle.asked_frame.specs.Answer.{done}
use Rattle.tile_calls.proofs.Calls.{call_20, call_1, call_made, call_lent}
use borrow.Author.Rules.{rules}
use Rattle.changed_tiles.proofs.frame.Goals as goal

pub returns-then-not-settings_fit : goal.returns-then-not-settings_fit
returns-then-not-settings_fit c = call_20 c.args.set c.args.s c.args.golden.now c.args.previous.now c.args.packet.now c.args.table.now c.args.new.now _ c.args.map.now (sym c.settings_fit.ensures ∙ c.if-not-settings_fit.true) c.refusal.result c.refusal.ensures

pub returns-then-not-map_fits : goal.returns-then-not-map_fits
returns-then-not-map_fits c = call_1 c.args.set c.args.s c.args.golden.now c.args.previous.now c.args.packet.now c.args.table.now c.args.new.now _ c.args.map.now (sym c.settings_fit.ensures ∙ c.if-not-settings_fit.false) (sym c.map_fits.ensures ∙ c.if-not-map_fits.true) c.refusal-then-not-map_fits.result c.refusal-then-not-map_fits.ensures

pub update_map-requires : goal.update_map-requires
update_map-requires c = let fit = sym c.settings_fit.ensures ∙ c.if-not-settings_fit.false in
    (fit, call_lent c.args.set c.args.s c.args.golden.now c.args.previous.now c.args.packet.now c.args.table.now c.args.new.now _ c.args.map.now fit (sym c.map_fits.ensures ∙ c.if-not-map_fits.false) _ c.frame-answer.ensures c.new-1.given)

pub returns : goal.returns
returns c = call_made c.args.set c.args.s c.args.golden.now c.args.previous.now c.args.packet.now c.args.table.now c.args.new.now _ c.args.map.now (sym c.settings_fit.ensures ∙ c.if-not-settings_fit.false) (sym c.map_fits.ensures ∙ c.if-not-map_fits.false) _ c.frame-answer.ensures _ c.update_map.ensures
