-- `census_packets::read_headers` meets its contract. Assumes nothing.
use native.Mathlib.Omega.{arith}
use mathlib.Core.Path.{refl, sym}
use lib.ListN.{get_or}
use lib.Seq.{length-take-le}
use Rattle.census_packets.proofs.Headers.{some, total_first, headers_missing, headers_refused, headers_then}
use borrow.Author.Rules.{rules}
use Rattle.bitstream.proofs.Clauses.{two}
use Rattle.census_packets.proofs.read_headers.Goals as goal

pub returns-then-lengths-eq0 : goal.returns-then-lengths-eq0
returns-then-lengths-eq0 c = two (λ a b. record { value = a; if_sound = b }) (headers_missing c.args.lengths.now c.args.packets.now c.args.table.now c.if-lengths-eq0.true)

pub slice_bounds-identification-end : goal.slice_bounds-identification-end
slice_bounds-identification-end c = let z = total_first c.args.lengths.now (some _ c.if-lengths-eq0.false) in sym (length-take-le (get_or c.args.lengths.now 0 0) c.args.packets.now (omega (arith, z, c.requires)))

pub returns-in-Accepted : goal.returns-in-Accepted
returns-in-Accepted c = two (λ a b. record { value = a; if_sound = b }) (headers_then c.args.lengths.now c.args.packets.now c.args.table.now c.if-lengths-eq0.false _ refl c.identification.ensures c.in-Accepted.is _ _ (c.read_setup.ensures.value, c.read_setup.ensures.if_sound))

pub returns-in-Refused : goal.returns-in-Refused
returns-in-Refused c = two (λ a b. record { value = a; if_sound = b }) (headers_refused c.args.lengths.now c.args.packets.now c.args.table.now c.if-lengths-eq0.false _ refl c.identification.ensures c.in-Refused.is)
