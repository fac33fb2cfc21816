-- `token_reader::token_by` meets its contract. Assumes nothing.
use Prim.Native.Nat.{ℕ, ◌+◌, ◌-◌, ◌/◌, ◌%◌, ◌^◌, ◌≤◌}
use native.Mathlib.Omega.{arith}
use mathlib.Core.Path.{◌≡◌, ap, ◌∙◌}
use Rattle.bitstream.specs.Reading.{got}
use Rattle.bitstream.proofs.Bytes.{lowest_fit}
use Rattle.token.specs.Answer.{as_token, extra_bits}
use Rattle.token.proofs.Rows.{bits_of_row, bits_most}
use Rattle.token_reader.specs.Answer.{row_says}
use Rattle.token_reader.proofs.Entries.{low_bits, few_bits}
use Rattle.token_reader.proofs.token_by.Goals as goal

pub overflow_cast-x : goal.overflow_cast-x
overflow_cast-x c =
    let width_is : c.extra_bits-width.result ≡ extra_bits (c.args.entry / 2 ^ 28 % 32) =
    c.extra_bits-width.ensures ∙ bits_of_row (c.args.entry / 2 ^ 28 % 32) (c.args.entry % 2 ^ 28) c.requires.0 in
    let width-most : c.extra_bits-width.result ≤ 12 =
    omega (arith, width_is, bits_most (c.args.entry / 2 ^ 28 % 32)) in
    record { fits = lowest_fit _ c.extra_bits-width.result (omega (arith, width-most)) }

pub meaning_by-requires : goal.meaning_by-requires
meaning_by-requires c =
    let width_is : c.extra_bits-width.result ≡ extra_bits (c.args.entry / 2 ^ 28 % 32) =
    c.extra_bits-width.ensures ∙ bits_of_row (c.args.entry / 2 ^ 28 % 32) (c.args.entry % 2 ^ 28) c.requires.0 in
    let width-most : c.extra_bits-width.result ≤ 12 =
    omega (arith, width_is, bits_most (c.args.entry / 2 ^ 28 % 32)) in
    (c.requires.0, few_bits _ c.extra_bits-width.result (width-most))

pub returns : goal.returns
returns c =
    let width_is : c.extra_bits-width.result ≡ extra_bits (c.args.entry / 2 ^ 28 % 32) =
    c.extra_bits-width.ensures ∙ bits_of_row (c.args.entry / 2 ^ 28 % 32) (c.args.entry % 2 ^ 28) c.requires.0 in
    let width-most : c.extra_bits-width.result ≤ 12 =
    omega (arith, width_is, bits_most (c.args.entry / 2 ^ 28 % 32)) in
    let h = c.args.window / 2 / 2 ^ (63 - c.args.at % 8 - c.args.entry / 2 ^ 36) in
    let x = low_bits h c.extra_bits-width.result (width-most) ∙ ap (λ (w : ℕ). h % 2 ^ w) (width_is) in
    c.meaning_by.ensures ∙ ap (λ (y : ℕ). as_token (got (row_says (c.args.entry / 2 ^ 28 % 32) y) (c.args.at + c.args.entry / 2 ^ 36))) x
