-- `modes::read_mode` meets its contract. Assumes nothing.
use Prim.Native.Nat.{ℕ}
use native.Mathlib.Omega.{arith}
use mathlib.Core.Path.{◌≡◌, sym, ap, ◌∙◌}
use Rattle.bitstream.specs.Reading.{got, field, unary}
use Rattle.bitstream.proofs.Fields.{read_got, read_refused, field_lt}
use Rattle.bitstream.proofs.Unary.{unary_most}
use Rattle.modes.specs.Modes.{as_mode}
use Rattle.modes.proofs.Facts.{mode_raw, mode_cut, mode_ranked}
use Rattle.modes.specs.declared.Mode.TheVariants.{Is}
use Rattle.modes.proofs.read_mode.Goals as goal

pub returns-in-Refused : goal.returns-in-Refused
returns-in-Refused c = sym (ap as_mode (mode_raw c.args.scheme c.args.alphabet.now c.args.packet.now c.args.at c.if-scheme-eq7.true ∙ read_refused (field 3 c.args.packet.now c.args.at) c.read-raw.ensures c.in-Refused.is))

pub overflow_cast-result : goal.overflow_cast-result
overflow_cast-result c =
    let raw-got : field 3 c.args.packet.now c.args.at ≡ got c.in-Got.v c.in-Got.next =
    read_got (field 3 c.args.packet.now c.args.at) c.read-raw.ensures c.in-Got.is in
    omega (arith, field_lt 3 _ _ (raw-got))

pub returns-in-Got : goal.returns-in-Got
returns-in-Got c =
    let raw-got : field 3 c.args.packet.now c.args.at ≡ got c.in-Got.v c.in-Got.next =
    read_got (field 3 c.args.packet.now c.args.at) c.read-raw.ensures c.in-Got.is in
    sym (ap as_mode (mode_raw c.args.scheme c.args.alphabet.now c.args.packet.now c.args.at c.if-scheme-eq7.true ∙ raw-got))

pub mode_of_rank-requires : goal.mode_of_rank-requires
mode_of_rank-requires c =
    let rank-got : unary 7 0 c.args.packet.now c.args.at ≡ got c.in-Got-code.r c.in-Got-code.next =
    read_got (unary 7 0 c.args.packet.now c.args.at) c.read_unary-code.ensures c.in-Got-code.is in
    (omega (arith, c.requires.1, c.if-scheme-eq7.false), unary_most 7 0 _ _ _ _ (rank-got))

pub returns-in-Refused-code : goal.returns-in-Refused-code
returns-in-Refused-code c = sym (ap as_mode (mode_cut c.args.scheme c.args.alphabet.now c.args.packet.now c.args.at c.if-scheme-eq7.false (read_refused (unary 7 0 c.args.packet.now c.args.at) c.read_unary-code.ensures c.in-Refused-code.is)))

pub returns-in-Got-code : goal.returns-in-Got-code
returns-in-Got-code c =
    let rank-got : unary 7 0 c.args.packet.now c.args.at ≡ got c.in-Got-code.r c.in-Got-code.next =
    read_got (unary 7 0 c.args.packet.now c.args.at) c.read_unary-code.ensures c.in-Got-code.is in
    ap (λ (m : ℕ). Is m c.in-Got-code.next) c.mode_of_rank.ensures ∙ sym (ap as_mode (mode_ranked c.args.scheme c.args.alphabet.now c.args.packet.now c.args.at c.if-scheme-eq7.false (rank-got)))
