-- `modes::read_modes` meets its contract. Assumes nothing.
use native.Mathlib.Omega.{arith}
use mathlib.Core.Path.{◌≡◌}
use lib.ListN.{length}
use Rattle.bitstream.specs.Reading.{got, field}
use Rattle.bitstream.proofs.Fields.{read_got, read_refused, field_lt}
use Rattle.bitstream.proofs.Ends.{on_refusal, stored_at, end_refused}
use Rattle.mode_schemes.specs.Schemes.{sent_alphabet}
use Rattle.modes.proofs.Facts.{all_end, all_sent_end, all_each}
use Rattle.bitstream.proofs.Clauses.{two}
use Rattle.modes.proofs.read_modes.Goals as goal

pub read_each-requires : goal.read_each-requires
read_each-requires c =
    let scheme-got : field 3 c.args.packet.now c.args.at ≡ got c.in-Got.scheme c.in-Got.next =
    read_got (field 3 c.args.packet.now c.args.at) c.read-first.ensures c.in-Got.is in
    (c.requires.0, omega (arith, field_lt 3 _ _ (scheme-got)), c.requires.1)

pub returns-in-Refused : goal.returns-in-Refused
returns-in-Refused c = two (λ a b. record { value = a; stored = b }) (on_refusal _ _ (all_end c.args.flags.now (length c.args.modes.now) c.args.packet.now c.args.at (read_refused (field 3 c.args.packet.now c.args.at) c.read-first.ensures c.in-Refused.is)))

pub returns-in-Refused-sent : goal.returns-in-Refused-sent
returns-in-Refused-sent c =
    let scheme-got : field 3 c.args.packet.now c.args.at ≡ got c.in-Got.scheme c.in-Got.next =
    read_got (field 3 c.args.packet.now c.args.at) c.read-first.ensures c.in-Got.is in two (λ a b. record { value = a; stored = b }) (on_refusal _ _ (all_sent_end c.args.flags.now (length c.args.modes.now) c.args.packet.now c.args.at (scheme-got) (end_refused (sent_alphabet c.in-Got.scheme c.args.packet.now c.in-Got.next) c.read_alphabet-sent.ensures.value c.in-Refused-sent.is)))

pub returns-in-At : goal.returns-in-At
returns-in-At c =
    let scheme-got : field 3 c.args.packet.now c.args.at ≡ got c.in-Got.scheme c.in-Got.next =
    read_got (field 3 c.args.packet.now c.args.at) c.read-first.ensures c.in-Got.is in
    let sent-got : sent_alphabet c.in-Got.scheme c.args.packet.now c.in-Got.next ≡ got c.read_alphabet-sent.new.alphabet c.in-At.start =
    stored_at (sent_alphabet c.in-Got.scheme c.args.packet.now c.in-Got.next) c.read_alphabet-sent.new.alphabet c.read_alphabet-sent.ensures.value c.read_alphabet-sent.ensures.stored c.in-At.is in
    let e = all_each c.args.flags.now (length c.args.modes.now) c.args.packet.now c.args.at (scheme-got) (sent-got) in record { value = rw e c.read_each.ensures.value; stored = rw e c.read_each.ensures.stored }
