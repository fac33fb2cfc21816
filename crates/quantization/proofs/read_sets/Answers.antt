use native.Mathlib.Omega.{arith}
use mathlib.Core.Path.{◌≡◌, ap, ◌∙◌}
use Rattle.bitstream.specs.Reading.{got}
use Rattle.bitstream.proofs.Fields.{read_got, read_refused}
use Rattle.set_fields.specs.Fields.{origin}
use Rattle.quantization.specs.Answer.{end_of}
use Rattle.quantization.proofs.Sets.{origin_is, sets_start, sets_done, sets_origin, sets_refused, sets_more, sets_bad, sets_long}
use borrow.Author.Rules.{rules}
use Rattle.bitstream.proofs.Clauses.{two}
use Rattle.quantization.proofs.read_sets.Goals as goal

pub loop-k-init : goal.loop-k-init
loop-k-init c = (search rules, sets_start c.args.count c.args.packet.now c.args.at c.args.sizes.now c.args.indices.now c.requires.3 c.requires.4)

pub returns-in_default : goal.returns-in_default
returns-in_default c = let f = read_refused (origin c.loop-k.k c.args.packet.now c.loop-k.place) c.read_origin-from.ensures c.in_default.is in two (λ a b. record { value = a; sets_held = b }) (sets_bad _ _ _ (c.end_of.ensures ∙ ap end_of c.in_default.is) (sets_origin c.args.count c.args.packet.now c.args.at c.loop-k.place c.loop-k.k c.loop-k.sizes c.loop-k.indices c.loop-k.invariant.1 c.loop-k-test.true f))

pub read_set-set-requires : goal.read_set-set-requires
read_set-set-requires c =
    let from-got : origin c.loop-k.k c.args.packet.now c.loop-k.place ≡ got c.in-Got.back c.in-Got.next =
    read_got (origin c.loop-k.k c.args.packet.now c.loop-k.place) c.read_origin-from.ensures c.in-Got.is in
    let g = sets_long _ _ _ _ _ _ _ c.loop-k.invariant.1 c.loop-k.invariant.0 in
    (c.requires.0, c.requires.1, c.requires.2, c.loop-k-test.true, (origin_is c.loop-k.k _ _ (from-got)).there, g.0, g.1)

pub returns-in_default-set : goal.returns-in_default-set
returns-in_default-set c =
    let from-got : origin c.loop-k.k c.args.packet.now c.loop-k.place ≡ got c.in-Got.back c.in-Got.next =
    read_got (origin c.loop-k.k c.args.packet.now c.loop-k.place) c.read_origin-from.ensures c.in-Got.is in two (λ a b. record { value = a; sets_held = b }) (sets_bad _ _ _ c.in_default-set.is
    (sets_refused c.args.count c.args.packet.now c.args.at c.loop-k.place c.loop-k.k c.loop-k.sizes c.loop-k.indices c.loop-k.invariant.1 c.loop-k-test.true (from-got) _ _ c.read_set-set.ensures c.in_default-set.is))

pub loop-k-preserved : goal.loop-k-preserved
loop-k-preserved c =
    let from-got : origin c.loop-k.k c.args.packet.now c.loop-k.place ≡ got c.in-Got.back c.in-Got.next =
    read_got (origin c.loop-k.k c.args.packet.now c.loop-k.place) c.read_origin-from.ensures c.in-Got.is in
    (omega arith, sets_more c.args.count c.args.packet.now c.args.at c.loop-k.place c.loop-k.k c.loop-k.sizes c.loop-k.indices c.loop-k.invariant.1 c.loop-k-test.true (from-got) _ _ c.read_set-set.ensures c.in-At.is)

pub returns : goal.returns
returns c = two (λ a b. record { value = a; sets_held = b }) (sets_done c.args.count c.args.packet.now c.args.at c.loop-k.place c.loop-k.k c.loop-k.sizes c.loop-k.indices c.loop-k.invariant.1 c.loop-k-test.false c.loop-k.invariant.0)
