-- `setup::read_limits` meets its contract. Assumes nothing.
use native.Mathlib.Omega.{arith}
use mathlib.Core.Path.{◌≡◌}
use lib.ListN.{length}
use Rattle.bitstream.specs.Reading.{got, field}
use Rattle.bitstream.proofs.Fields.{read_got, read_refused, field_lt}
use Rattle.quantization.proofs.Loops.{all_refused}
use Rattle.setup.proofs.Steps.{limits_end, limits_filled}
use Rattle.bitstream.proofs.Clauses.{two}
use Rattle.setup.proofs.read_limits.Goals as goal

pub read_fields-requires : goal.read_fields-requires
read_fields-requires c =
    let first-got : field 3 c.args.packet.now c.args.at ≡ got c.in-Got.value c.in-Got.next =
    read_got (field 3 c.args.packet.now c.args.at) c.read-first.ensures c.in-Got.is in
    (c.requires.0, omega (arith, field_lt 3 _ _ (first-got)))

pub returns-in-Refused : goal.returns-in-Refused
returns-in-Refused c = two (λ a b. record { value = a; filled = b }) (all_refused _ _ (limits_end c.args.packet.now c.args.at (read_refused (field 3 c.args.packet.now c.args.at) c.read-first.ensures c.in-Refused.is)))

pub returns-in-Got : goal.returns-in-Got
returns-in-Got c =
    let first-got : field 3 c.args.packet.now c.args.at ≡ got c.in-Got.value c.in-Got.next =
    read_got (field 3 c.args.packet.now c.args.at) c.read-first.ensures c.in-Got.is in two (λ a b. record { value = a; filled = b }) (limits_filled c.args.packet.now c.args.at (first-got) (length c.args.limits.now) c.requires.1 _ _ c.read_fields.ensures.value c.read_fields.ensures.filled)
