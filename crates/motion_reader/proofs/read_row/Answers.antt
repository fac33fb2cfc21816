-- `motion_reader::read_row` meets its contract. Assumes nothing.
use mathlib.Core.Path.{◌≡◌, sym, ap}
use Rattle.bitstream.specs.Reading.{got}
use Rattle.motion_reader.specs.Motion.{if_coded, as_row}
use Rattle.motion_reader.proofs.Components.{vector_got, vector_refused}
use Rattle.motion_reader.proofs.Motions.{row_end, row_cut, row_sent}
use Rattle.motion_reader.proofs.read_row.Goals as goal

pub returns-in-Refused : goal.returns-in-Refused
returns-in-Refused c = sym (ap as_row (row_end c.args.code c.args.left c.args.right c.args.packet.now c.args.at (vector_refused (if_coded c.args.code c.args.left c.args.packet.now c.args.at) c.read_if_coded-first.ensures c.in-Refused.is)))

pub returns-in-Refused-second : goal.returns-in-Refused-second
returns-in-Refused-second c =
    let left-got : if_coded c.args.code c.args.left c.args.packet.now c.args.at ≡ got c.in-Got.v c.in-Got.next =
    vector_got (if_coded c.args.code c.args.left c.args.packet.now c.args.at) c.read_if_coded-first.ensures c.in-Got.is in
    sym (ap as_row (row_cut c.args.code c.args.left c.args.right c.args.packet.now c.args.at (left-got) (vector_refused (if_coded c.args.code c.args.right c.args.packet.now c.in-Got.next) c.read_if_coded-second.ensures c.in-Refused-second.is)))

pub returns-in-Got-second : goal.returns-in-Got-second
returns-in-Got-second c =
    let left-got : if_coded c.args.code c.args.left c.args.packet.now c.args.at ≡ got c.in-Got.v c.in-Got.next =
    vector_got (if_coded c.args.code c.args.left c.args.packet.now c.args.at) c.read_if_coded-first.ensures c.in-Got.is in
    sym (ap as_row (row_sent c.args.code c.args.left c.args.right c.args.packet.now c.args.at (left-got) (vector_got (if_coded c.args.code c.args.right c.args.packet.now c.in-Got.next) c.read_if_coded-second.ensures c.in-Got-second.is)))
