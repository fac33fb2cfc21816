-- `runs::read_run` meets its contract. Assumes nothing.
use Prim.Native.Nat.{ℕ, ◌+◌, ◌≤◌, ◌<◌, ◌^◌}
use native.Mathlib.Omega.{arith}
use mathlib.Core.Path.{◌≡◌, sym, ap, ◌∙◌}
use lib.Pow.{pow_mono}
use Rattle.bitstream.specs.Reading.{got, field, unary}
use Rattle.bitstream.specs.Answer.{as_field}
use Rattle.bitstream.specs.declared.Field.{Field}
use Rattle.bitstream.proofs.Fields.{read_got, read_refused, field_lt}
use Rattle.runs.specs.Runs.{most}
use Rattle.runs.proofs.Facts.{run_end, run_cut, run_got}
use Rattle.bitstream.proofs.Unary.{unary_most}
use borrow.Author.Rules.{rules}
use Rattle.runs.proofs.read_run.Goals as goal

pub run_start-least-requires : goal.run_start-least-requires
run_start-least-requires c =
    let prefix-got : unary (most c.args.code) 0 c.args.packet.now c.args.at ≡ got c.in-Got.r c.in-Got.next =
    ap (λ (n : ℕ). unary n 0 c.args.packet.now c.args.at) (sym c.most_ones-ones.ensures.0) ∙ read_got (unary c.most_ones-ones.result 0 c.args.packet.now c.args.at) c.read_unary-prefix.ensures c.in-Got.is in
    let short : c.in-Got.r < 7 =
    omega (arith, unary_most (most c.args.code) 0 c.args.packet.now c.args.at _ _ prefix-got, c.most_ones-ones.ensures.0, c.most_ones-ones.ensures.1) in
    short

pub run_extra-width-requires : goal.run_extra-width-requires
run_extra-width-requires c =
    let prefix-got : unary (most c.args.code) 0 c.args.packet.now c.args.at ≡ got c.in-Got.r c.in-Got.next =
    ap (λ (n : ℕ). unary n 0 c.args.packet.now c.args.at) (sym c.most_ones-ones.ensures.0) ∙ read_got (unary c.most_ones-ones.result 0 c.args.packet.now c.args.at) c.read_unary-prefix.ensures c.in-Got.is in
    let short : c.in-Got.r < 7 =
    omega (arith, unary_most (most c.args.code) 0 c.args.packet.now c.args.at _ _ prefix-got, c.most_ones-ones.ensures.0, c.most_ones-ones.ensures.1) in
    short

pub overflow_add-result : goal.overflow_add-result
overflow_add-result c =
    let added_got : field c.run_extra-width.result c.args.packet.now c.in-Got.next ≡ got c.in-Got-added.x c.in-Got-added.end =
    read_got (field c.run_extra-width.result c.args.packet.now c.in-Got.next) c.read-added.ensures c.in-Got-added.is in
    omega (arith, field_lt _ _ _ (added_got), pow_mono c.run_extra-width.ensures.1, c.run_start-least.ensures.1)

pub returns-in-Refused : goal.returns-in-Refused
returns-in-Refused c = sym (ap as_field (run_end c.args.code c.args.packet.now c.args.at (ap (λ (n : ℕ). unary n 0 c.args.packet.now c.args.at) (sym c.most_ones-ones.ensures.0) ∙ read_refused (unary c.most_ones-ones.result 0 c.args.packet.now c.args.at) c.read_unary-prefix.ensures c.in-Refused.is)))

pub returns-in-Refused-added : goal.returns-in-Refused-added
returns-in-Refused-added c =
    let prefix-got : unary (most c.args.code) 0 c.args.packet.now c.args.at ≡ got c.in-Got.r c.in-Got.next =
    ap (λ (n : ℕ). unary n 0 c.args.packet.now c.args.at) (sym c.most_ones-ones.ensures.0) ∙ read_got (unary c.most_ones-ones.result 0 c.args.packet.now c.args.at) c.read_unary-prefix.ensures c.in-Got.is in
    sym (ap as_field (run_cut c.args.code c.args.packet.now c.args.at (prefix-got) (ap (λ (w : ℕ). field w c.args.packet.now c.in-Got.next) (sym c.run_extra-width.ensures.0) ∙ read_refused (field c.run_extra-width.result c.args.packet.now c.in-Got.next) c.read-added.ensures c.in-Refused-added.is)))

pub returns-in-Got-added : goal.returns-in-Got-added
returns-in-Got-added c =
    let prefix-got : unary (most c.args.code) 0 c.args.packet.now c.args.at ≡ got c.in-Got.r c.in-Got.next =
    ap (λ (n : ℕ). unary n 0 c.args.packet.now c.args.at) (sym c.most_ones-ones.ensures.0) ∙ read_got (unary c.most_ones-ones.result 0 c.args.packet.now c.args.at) c.read_unary-prefix.ensures c.in-Got.is in
    let added_got : field c.run_extra-width.result c.args.packet.now c.in-Got.next ≡ got c.in-Got-added.x c.in-Got-added.end =
    read_got (field c.run_extra-width.result c.args.packet.now c.in-Got.next) c.read-added.ensures c.in-Got-added.is in
    ap (λ (s : ℕ). Field.Got (s + c.in-Got-added.x) c.in-Got-added.end) c.run_start-least.ensures.0 ∙ sym (ap as_field (run_got c.args.code c.args.packet.now c.args.at (prefix-got) (ap (λ (w : ℕ). field w c.args.packet.now c.in-Got.next) (sym c.run_extra-width.ensures.0) ∙ added_got)))
