use Prim.Native.Nat.{◌+◌, ◌≤◌, ◌<◌}
use native.Mathlib.Omega.{arith}
use mathlib.Core.Path.{◌≡◌, refl, ap, ◌∙◌}
use lib.ListN.{length}
use Rattle.bitstream.specs.Reading.{got}
use Rattle.bitstream.proofs.Fields.{read_got, read_refused}
use Rattle.set_fields.specs.Fields.{index, range_size}
use Rattle.quantization.specs.Answer.{end_of}
use Rattle.set_fields.proofs.Fields.{index_lt, size_le}
use Rattle.quantization.proofs.Sets.{new_bad, reading_start, reading_done, reading_size, reading_index, reading_more, set_refused}
use Rattle.bitstream.proofs.Clauses.{two}
use Rattle.quantization.proofs.read_new.Goals as goal

pub returns-in_default : goal.returns-in_default
returns-in_default c = let f = read_refused (index c.args.count c.args.packet.now c.args.at) c.read_index-first.ensures c.in_default.is in two (λ a b. record { value = a; set_filled = b }) (set_refused _ _ _ _ _ (c.end_of.ensures ∙ ap end_of c.in_default.is) (new_bad c.args.count c.args.packet.now c.args.at c.args.sizes.now c.args.indices.now f))

pub overflow_cast-indices : goal.overflow_cast-indices
overflow_cast-indices c =
    let first-got : index c.args.count c.args.packet.now c.args.at ≡ got c.in-Got.begin c.in-Got.behind =
    read_got (index c.args.count c.args.packet.now c.args.at) c.read_index-first.ensures c.in-Got.is in
    omega (arith, index_lt _ _ _ (first-got), c.requires.2)

pub loop-reached-init : goal.loop-reached-init
loop-reached-init c =
    let first-got : index c.args.count c.args.packet.now c.args.at ≡ got c.in-Got.begin c.in-Got.behind =
    read_got (index c.args.count c.args.packet.now c.args.at) c.read_index-first.ensures c.in-Got.is in
    reading_start c.args.count c.args.packet.now c.args.at c.args.sizes.now c.args.indices.now (first-got) c.requires.3 c.requires.4

pub returns-in_default-size : goal.returns-in_default-size
returns-in_default-size c = let f = read_refused (range_size c.loop-reached.reached c.args.packet.now c.loop-reached.place) c.read_size-size.ensures c.in_default-size.is in two (λ a b. record { value = a; set_filled = b }) (set_refused _ _ _ _ _ (c.end_of-in_default-size.ensures ∙ ap end_of c.in_default-size.is) (reading_size c.args.count c.args.packet.now c.args.at _ _ c.loop-reached.place c.loop-reached.reached c.loop-reached.k c.loop-reached.sizes c.loop-reached.indices c.loop-reached.invariant c.loop-reached-test.true f))

pub returns-in_default-end : goal.returns-in_default-end
returns-in_default-end c =
    let size_got : range_size c.loop-reached.reached c.args.packet.now c.loop-reached.place ≡ got c.in-Got-size.less c.in-Got-size.next =
    read_got (range_size c.loop-reached.reached c.args.packet.now c.loop-reached.place) c.read_size-size.ensures c.in-Got-size.is in
    let f = read_refused (index c.args.count c.args.packet.now c.in-Got-size.next) c.read_index-end.ensures c.in_default-end.is in two (λ a b. record { value = a; set_filled = b }) (set_refused _ _ _ _ _ (c.end_of-in_default-end.ensures ∙ ap end_of c.in_default-end.is) (reading_index c.args.count c.args.packet.now c.args.at _ _ c.loop-reached.place c.loop-reached.reached c.loop-reached.k c.loop-reached.sizes c.loop-reached.indices c.loop-reached.invariant c.loop-reached-test.true (size_got) f))

pub overflow_cast-sizes : goal.overflow_cast-sizes
overflow_cast-sizes c =
    let size_got : range_size c.loop-reached.reached c.args.packet.now c.loop-reached.place ≡ got c.in-Got-size.less c.in-Got-size.next =
    read_got (range_size c.loop-reached.reached c.args.packet.now c.loop-reached.place) c.read_size-size.ensures c.in-Got-size.is in
    let end-got : index c.args.count c.args.packet.now c.in-Got-size.next ≡ got c.in-Got-end.index c.in-Got-end.after =
    read_got (index c.args.count c.args.packet.now c.in-Got-size.next) c.read_index-end.ensures c.in-Got-end.is in
    let turn : (c.loop-reached.reached + (c.in-Got-size.less + 1) ≤ 63) × (c.loop-reached.k ≤ c.loop-reached.reached) × (length c.loop-reached.sizes ≡ 64) × (length c.loop-reached.indices ≡ 64) × (c.in-Got-end.index < 384) =
    (size_le c.loop-reached.reached _ c.loop-reached.place (size_got), c.loop-reached.invariant.few, c.loop-reached.invariant.long.0, c.loop-reached.invariant.long.1, omega (arith, index_lt c.args.count _ _ (end-got), c.requires.2)) in
    omega (arith, turn)

pub overflow_cast-indices-in-loop-reached : goal.overflow_cast-indices-in-loop-reached
overflow_cast-indices-in-loop-reached c =
    let size_got : range_size c.loop-reached.reached c.args.packet.now c.loop-reached.place ≡ got c.in-Got-size.less c.in-Got-size.next =
    read_got (range_size c.loop-reached.reached c.args.packet.now c.loop-reached.place) c.read_size-size.ensures c.in-Got-size.is in
    let end-got : index c.args.count c.args.packet.now c.in-Got-size.next ≡ got c.in-Got-end.index c.in-Got-end.after =
    read_got (index c.args.count c.args.packet.now c.in-Got-size.next) c.read_index-end.ensures c.in-Got-end.is in
    let turn : (c.loop-reached.reached + (c.in-Got-size.less + 1) ≤ 63) × (c.loop-reached.k ≤ c.loop-reached.reached) × (length c.loop-reached.sizes ≡ 64) × (length c.loop-reached.indices ≡ 64) × (c.in-Got-end.index < 384) =
    (size_le c.loop-reached.reached _ c.loop-reached.place (size_got), c.loop-reached.invariant.few, c.loop-reached.invariant.long.0, c.loop-reached.invariant.long.1, omega (arith, index_lt c.args.count _ _ (end-got), c.requires.2)) in
    omega (arith, turn)

pub loop-reached-preserved : goal.loop-reached-preserved
loop-reached-preserved c =
    let size_got : range_size c.loop-reached.reached c.args.packet.now c.loop-reached.place ≡ got c.in-Got-size.less c.in-Got-size.next =
    read_got (range_size c.loop-reached.reached c.args.packet.now c.loop-reached.place) c.read_size-size.ensures c.in-Got-size.is in
    let end-got : index c.args.count c.args.packet.now c.in-Got-size.next ≡ got c.in-Got-end.index c.in-Got-end.after =
    read_got (index c.args.count c.args.packet.now c.in-Got-size.next) c.read_index-end.ensures c.in-Got-end.is in
    reading_more c.args.count c.args.packet.now c.args.at _ _ c.loop-reached.place c.loop-reached.reached c.loop-reached.k c.loop-reached.sizes c.loop-reached.indices c.loop-reached.invariant c.loop-reached-test.true (size_got) (end-got)

pub returns : goal.returns
returns c = two (λ a b. record { value = a; set_filled = b }) (reading_done c.args.count c.args.packet.now c.args.at _ _ c.loop-reached.place c.loop-reached.reached c.loop-reached.k c.loop-reached.sizes c.loop-reached.indices c.loop-reached.invariant c.loop-reached-test.false c.args.indices.now c.in-Got.begin refl)
