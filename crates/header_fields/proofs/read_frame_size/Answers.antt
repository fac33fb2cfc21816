-- `header_fields::read_frame_size` meets its contract. Assumes nothing.
use Prim.Native.Nat.{◌*◌, ◌-◌}
use native.Mathlib.Omega.{arith}
use borrow.Author.Tests.{leb-true}
use mathlib.Core.Path.{◌≡◌, sym}
use Rattle.bitstream.specs.Reading.{got}
use Rattle.bitstream.proofs.Fields.{read_got, read_refused}
use Rattle.header_fields.specs.Tests.{is_positive, is_at_most, positive, at_most}
use Rattle.header_fields.proofs.Answers.{judged_got}
use Rattle.header_fields.specs.Frame.{frame_size}
use Rattle.header_fields.proofs.read_frame_size.Goals as goal

pub returns-in-Refused : goal.returns-in-Refused
unfolding frame_size
returns-in-Refused c = sym (rw (read_refused (positive 16 c.args.packet.now c.args.at) c.read_positive.ensures c.in-Refused.is))

pub returns-in-Refused-read_positive : goal.returns-in-Refused-read_positive
unfolding frame_size
returns-in-Refused-read_positive c =
    let got-1 : positive 16 c.args.packet.now c.args.at ≡ got c.in-Got.is' c.in-Got.next =
    read_got _ c.read_positive.ensures c.in-Got.is in
    sym (rw (got-1, read_refused (positive 16 c.args.packet.now c.in-Got.next) c.read_positive-2.ensures c.in-Refused-read_positive.is))

pub overflow_mul-across : goal.overflow_mul-across
overflow_mul-across c =
    let got-1 : positive 16 c.args.packet.now c.args.at ≡ got c.in-Got.is' c.in-Got.next =
    read_got _ c.read_positive.ensures c.in-Got.is in
    omega (arith, (judged_got 16 is_positive 5 _ _ (got-1)).1)

pub overflow_mul-up : goal.overflow_mul-up
overflow_mul-up c =
    let got-2 : positive 16 c.args.packet.now c.in-Got.next ≡ got c.in-Got-read_positive.is' c.in-Got-read_positive.next =
    read_got _ c.read_positive-2.ensures c.in-Got-read_positive.is in
    omega (arith, (judged_got 16 is_positive 5 _ _ (got-2)).1)

pub returns-in-Refused-read_at_most : goal.returns-in-Refused-read_at_most
unfolding frame_size
returns-in-Refused-read_at_most c =
    let got-1 : positive 16 c.args.packet.now c.args.at ≡ got c.in-Got.is' c.in-Got.next =
    read_got _ c.read_positive.ensures c.in-Got.is in
    let got-2 : positive 16 c.args.packet.now c.in-Got.next ≡ got c.in-Got-read_positive.is' c.in-Got-read_positive.next =
    read_got _ c.read_positive-2.ensures c.in-Got-read_positive.is in
    sym (rw (got-1, got-2, read_refused (at_most 24 (16 * c.in-Got.is') c.args.packet.now c.in-Got-read_positive.next) c.read_at_most.ensures c.in-Refused-read_at_most.is))

pub returns-in-Refused-read_at_most-2 : goal.returns-in-Refused-read_at_most-2
unfolding frame_size
returns-in-Refused-read_at_most-2 c =
    let got-1 : positive 16 c.args.packet.now c.args.at ≡ got c.in-Got.is' c.in-Got.next =
    read_got _ c.read_positive.ensures c.in-Got.is in
    let got-2 : positive 16 c.args.packet.now c.in-Got.next ≡ got c.in-Got-read_positive.is' c.in-Got-read_positive.next =
    read_got _ c.read_positive-2.ensures c.in-Got-read_positive.is in
    let got-3 : at_most 24 (16 * c.in-Got.is') c.args.packet.now c.in-Got-read_positive.next ≡ got c.in-Got-read_at_most.is' c.in-Got-read_at_most.next =
    read_got _ c.read_at_most.ensures c.in-Got-read_at_most.is in
    sym (rw (got-1, got-2, got-3, read_refused (at_most 24 (16 * c.in-Got-read_positive.is') c.args.packet.now c.in-Got-read_at_most.next) c.read_at_most-2.ensures c.in-Refused-read_at_most-2.is))

pub overflow_sub-across : goal.overflow_sub-across
overflow_sub-across c =
    let got-3 : at_most 24 (16 * c.in-Got.is') c.args.packet.now c.in-Got-read_positive.next ≡ got c.in-Got-read_at_most.is' c.in-Got-read_at_most.next =
    read_got _ c.read_at_most.ensures c.in-Got-read_at_most.is in
    leb-true _ _ (judged_got 24 (is_at_most (16 * c.in-Got.is')) 5 _ _ (got-3)).0

pub returns-in-Refused-read_at_most-3 : goal.returns-in-Refused-read_at_most-3
unfolding frame_size
returns-in-Refused-read_at_most-3 c =
    let got-1 : positive 16 c.args.packet.now c.args.at ≡ got c.in-Got.is' c.in-Got.next =
    read_got _ c.read_positive.ensures c.in-Got.is in
    let got-2 : positive 16 c.args.packet.now c.in-Got.next ≡ got c.in-Got-read_positive.is' c.in-Got-read_positive.next =
    read_got _ c.read_positive-2.ensures c.in-Got-read_positive.is in
    let got-3 : at_most 24 (16 * c.in-Got.is') c.args.packet.now c.in-Got-read_positive.next ≡ got c.in-Got-read_at_most.is' c.in-Got-read_at_most.next =
    read_got _ c.read_at_most.ensures c.in-Got-read_at_most.is in
    let got-4 : at_most 24 (16 * c.in-Got-read_positive.is') c.args.packet.now c.in-Got-read_at_most.next ≡ got c.in-Got-read_at_most-2.is' c.in-Got-read_at_most-2.next =
    read_got _ c.read_at_most-2.ensures c.in-Got-read_at_most-2.is in
    sym (rw (got-1, got-2, got-3, got-4, read_refused (at_most 8 (16 * c.in-Got.is' - c.in-Got-read_at_most.is') c.args.packet.now c.in-Got-read_at_most-2.next) c.read_at_most-3.ensures c.in-Refused-read_at_most-3.is))

pub overflow_sub-up : goal.overflow_sub-up
overflow_sub-up c =
    let got-4 : at_most 24 (16 * c.in-Got-read_positive.is') c.args.packet.now c.in-Got-read_at_most.next ≡ got c.in-Got-read_at_most-2.is' c.in-Got-read_at_most-2.next =
    read_got _ c.read_at_most-2.ensures c.in-Got-read_at_most-2.is in
    leb-true _ _ (judged_got 24 (is_at_most (16 * c.in-Got-read_positive.is')) 5 _ _ (got-4)).0

pub returns-in-Refused-read_at_most-4 : goal.returns-in-Refused-read_at_most-4
unfolding frame_size
returns-in-Refused-read_at_most-4 c =
    let got-1 : positive 16 c.args.packet.now c.args.at ≡ got c.in-Got.is' c.in-Got.next =
    read_got _ c.read_positive.ensures c.in-Got.is in
    let got-2 : positive 16 c.args.packet.now c.in-Got.next ≡ got c.in-Got-read_positive.is' c.in-Got-read_positive.next =
    read_got _ c.read_positive-2.ensures c.in-Got-read_positive.is in
    let got-3 : at_most 24 (16 * c.in-Got.is') c.args.packet.now c.in-Got-read_positive.next ≡ got c.in-Got-read_at_most.is' c.in-Got-read_at_most.next =
    read_got _ c.read_at_most.ensures c.in-Got-read_at_most.is in
    let got-4 : at_most 24 (16 * c.in-Got-read_positive.is') c.args.packet.now c.in-Got-read_at_most.next ≡ got c.in-Got-read_at_most-2.is' c.in-Got-read_at_most-2.next =
    read_got _ c.read_at_most-2.ensures c.in-Got-read_at_most-2.is in
    let got-5 : at_most 8 (16 * c.in-Got.is' - c.in-Got-read_at_most.is') c.args.packet.now c.in-Got-read_at_most-2.next ≡ got c.in-Got-read_at_most-3.is' c.in-Got-read_at_most-3.next =
    read_got _ c.read_at_most-3.ensures c.in-Got-read_at_most-3.is in
    sym (rw (got-1, got-2, got-3, got-4, got-5, read_refused (at_most 8 (16 * c.in-Got-read_positive.is' - c.in-Got-read_at_most-2.is') c.args.packet.now c.in-Got-read_at_most-3.next) c.read_at_most-4.ensures c.in-Refused-read_at_most-4.is))

pub returns : goal.returns
unfolding frame_size
returns c =
    let got-1 : positive 16 c.args.packet.now c.args.at ≡ got c.in-Got.is' c.in-Got.next =
    read_got _ c.read_positive.ensures c.in-Got.is in
    let got-2 : positive 16 c.args.packet.now c.in-Got.next ≡ got c.in-Got-read_positive.is' c.in-Got-read_positive.next =
    read_got _ c.read_positive-2.ensures c.in-Got-read_positive.is in
    let got-3 : at_most 24 (16 * c.in-Got.is') c.args.packet.now c.in-Got-read_positive.next ≡ got c.in-Got-read_at_most.is' c.in-Got-read_at_most.next =
    read_got _ c.read_at_most.ensures c.in-Got-read_at_most.is in
    let got-4 : at_most 24 (16 * c.in-Got-read_positive.is') c.args.packet.now c.in-Got-read_at_most.next ≡ got c.in-Got-read_at_most-2.is' c.in-Got-read_at_most-2.next =
    read_got _ c.read_at_most-2.ensures c.in-Got-read_at_most-2.is in
    let got-5 : at_most 8 (16 * c.in-Got.is' - c.in-Got-read_at_most.is') c.args.packet.now c.in-Got-read_at_most-2.next ≡ got c.in-Got-read_at_most-3.is' c.in-Got-read_at_most-3.next =
    read_got _ c.read_at_most-3.ensures c.in-Got-read_at_most-3.is in
    let got-6 : at_most 8 (16 * c.in-Got-read_positive.is' - c.in-Got-read_at_most-2.is') c.args.packet.now c.in-Got-read_at_most-3.next ≡ got c.in-Got-read_at_most-4.is' c.in-Got-read_at_most-4.next =
    read_got _ c.read_at_most-4.ensures c.in-Got-read_at_most-4.is in
    sym (rw (got-1, got-2, got-3, got-4, got-5, got-6))
