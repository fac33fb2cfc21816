-- `motion_reader::read_moving_four` meets its contract. Assumes nothing.
use mathlib.Core.Path.{◌≡◌, sym, ap, ◌∙◌}
use Rattle.bitstream.specs.Reading.{got}
use Rattle.block_record.specs.declared.Vector.{Vector}
use Rattle.motion.specs.declared.Motion.TheVariants.{Four}
use Rattle.motion_reader.specs.Motion.{row, as_moved}
use Rattle.motion.specs.Kept.{behind}
use Rattle.motion_reader.proofs.Motions.{row_got, row_refused, four_end, four_cut, four_sent}
use Rattle.motion_reader.proofs.read_moving_four.Goals as goal

pub returns-in-Refused : goal.returns-in-Refused
returns-in-Refused c = sym (ap as_moved (four_end c.args.code c.args.a c.args.b c.args.c c.args.d c.args.last c.args.packet.now c.args.at (row_refused (row c.args.code c.args.a c.args.b c.args.packet.now c.args.at) c.read_row-first.ensures c.in-Refused.is)))

pub returns-in-Refused-second : goal.returns-in-Refused-second
returns-in-Refused-second c =
    let lower-got : row c.args.code c.args.a c.args.b c.args.packet.now c.args.at ≡ got c.in-Got.lower c.in-Got.next =
    row_got (row c.args.code c.args.a c.args.b c.args.packet.now c.args.at) c.read_row-first.ensures c.in-Got.is in
    sym (ap as_moved (four_cut c.args.code c.args.a c.args.b c.args.c c.args.d c.args.last c.args.packet.now c.args.at (lower-got) (row_refused (row c.args.code c.args.c c.args.d c.args.packet.now c.in-Got.next) c.read_row-second.ensures c.in-Refused-second.is)))

pub returns-in-Got-second : goal.returns-in-Got-second
returns-in-Got-second c =
    let lower-got : row c.args.code c.args.a c.args.b c.args.packet.now c.args.at ≡ got c.in-Got.lower c.in-Got.next =
    row_got (row c.args.code c.args.a c.args.b c.args.packet.now c.args.at) c.read_row-first.ensures c.in-Got.is in
    ap (λ (v : Vector). as_moved (got (behind (Four c.in-Got.lower c.in-Got-second.upper) v c.args.last) c.in-Got-second.end)) c.last_read-newest.ensures
    ∙ sym (ap as_moved (four_sent c.args.code c.args.a c.args.b c.args.c c.args.d c.args.last c.args.packet.now c.args.at (lower-got) (row_got (row c.args.code c.args.c c.args.d c.args.packet.now c.in-Got.next) c.read_row-second.ensures c.in-Got-second.is)))
