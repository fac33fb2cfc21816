-- `tokens::read_tokens` meets its contract. The fronts of the slices are lent, and come back. Assumes nothing.
use Prim.Native.Nat.{◌-◌, ◌*◌}
use mathlib.Core.Path.{◌≡◌, ◌∙◌}
use lib.ListN.{length, take}
use Rattle.bitstream.specs.Reading.{Outcome}
use Rattle.block_visits.specs.Visits.{TokenState, state_of}
use Rattle.table_choices.specs.Choices.{choices_of}
use Rattle.tokens.specs.Tokens.{positions_from, ranks, start}
use Rattle.tokens.specs.Answer.{trees_of}
use Rattle.tokens.proofs.Fronts.{front_start, untouched, on_refused_tokens, on_tokens, tokens_got, tokens_refused}
use Rattle.block_visits.proofs.Ways.{visit_done, visit_refused}
use Rattle.tokens.proofs.read_tokens.Goals as goal

pub returns-in-Refused : goal.returns-in-Refused
returns-in-Refused c =
    let o : Outcome TokenState =
    positions_from (trees_of c.args.nodes.now) (ranks 0 c.args.luma) (ranks c.args.luma (length (take c.args.count c.args.positions.now) - c.args.luma)) 64 0 (choices_of 0 0)
    (state_of (take c.args.count c.args.positions.now) (take c.args.count c.args.lasts.now) (take (64 * c.args.count) c.args.coefs.now) 0 0) c.args.packet.now c.args.at in
    let from_start : positions_from (trees_of c.args.nodes.now) (ranks 0 c.args.luma) (ranks c.args.luma (c.args.count - c.args.luma)) 64 0 (choices_of 0 0) (start c.args.count) c.args.packet.now c.args.at ≡ o =
    front_start c.args.count c.args.positions.now c.args.lasts.now c.args.coefs.now c.args.active.now c.requires.cleared (trees_of c.args.nodes.now) c.args.luma c.args.packet.now c.args.at in
    let g = visit_refused (o) c.read_positions-visit.ensures.0 c.in-Refused.is in
    let r = on_refused_tokens c.args.count c.args.positions.now c.args.lasts.now c.args.coefs.now c.args.active.now c.requires.cleared c.read_positions-visit.new.positions c.read_positions-visit.new.lasts c.read_positions-visit.new.coefs c.write_ranks.new.blocks c.read_positions-visit.new.active c.read_positions-visit.auto.positions c.read_positions-visit.auto.lasts c.read_positions-visit.auto.coefs c.write_ranks.auto.blocks c.read_positions-visit.auto.active _
    (tokens_refused (trees_of c.args.nodes.now) c.args.luma c.args.count c.args.packet.now c.args.at (from_start ∙ g)) in record { value = r.0; stored = r.1; untouched = untouched c.args.count c.args.positions.now c.args.lasts.now c.args.coefs.now c.args.active.now c.requires.cleared c.read_positions-visit.new.positions c.read_positions-visit.new.lasts c.read_positions-visit.new.coefs c.write_ranks.new.blocks c.read_positions-visit.new.active c.read_positions-visit.auto.positions c.read_positions-visit.auto.lasts c.read_positions-visit.auto.coefs c.write_ranks.auto.blocks c.read_positions-visit.auto.active }

pub returns-in-Done : goal.returns-in-Done
returns-in-Done c =
    let o : Outcome TokenState =
    positions_from (trees_of c.args.nodes.now) (ranks 0 c.args.luma) (ranks c.args.luma (length (take c.args.count c.args.positions.now) - c.args.luma)) 64 0 (choices_of 0 0)
    (state_of (take c.args.count c.args.positions.now) (take c.args.count c.args.lasts.now) (take (64 * c.args.count) c.args.coefs.now) 0 0) c.args.packet.now c.args.at in
    let from_start : positions_from (trees_of c.args.nodes.now) (ranks 0 c.args.luma) (ranks c.args.luma (c.args.count - c.args.luma)) 64 0 (choices_of 0 0) (start c.args.count) c.args.packet.now c.args.at ≡ o =
    front_start c.args.count c.args.positions.now c.args.lasts.now c.args.coefs.now c.args.active.now c.requires.cleared (trees_of c.args.nodes.now) c.args.luma c.args.packet.now c.args.at in
    let g = visit_done (o) c.read_positions-visit.ensures.0 c.read_positions-visit.new.positions c.read_positions-visit.new.lasts c.read_positions-visit.new.coefs c.read_positions-visit.ensures.1 c.in-Done.is in
    let r = on_tokens c.args.count c.args.positions.now c.args.lasts.now c.args.coefs.now c.args.active.now c.requires.cleared c.read_positions-visit.new.positions c.read_positions-visit.new.lasts c.read_positions-visit.new.coefs c.write_ranks.new.blocks c.read_positions-visit.new.active c.read_positions-visit.auto.positions c.read_positions-visit.auto.lasts c.read_positions-visit.auto.coefs c.write_ranks.auto.blocks c.read_positions-visit.auto.active _ c.in-Done.field-1
    (tokens_got (trees_of c.args.nodes.now) c.args.luma c.args.count c.args.packet.now c.args.at (from_start ∙ g)) in record { value = r.0; stored = r.1; untouched = untouched c.args.count c.args.positions.now c.args.lasts.now c.args.coefs.now c.args.active.now c.requires.cleared c.read_positions-visit.new.positions c.read_positions-visit.new.lasts c.read_positions-visit.new.coefs c.write_ranks.new.blocks c.read_positions-visit.new.active c.read_positions-visit.auto.positions c.read_positions-visit.auto.lasts c.read_positions-visit.auto.coefs c.write_ranks.auto.blocks c.read_positions-visit.auto.active }
