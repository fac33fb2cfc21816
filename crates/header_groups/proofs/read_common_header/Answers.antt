use native.Mathlib.Omega.{arith}
use mathlib.Core.Path.{◌≡◌, refl, sym, ap, ◌∙◌}
use mathlib.Core.List.{◌∷◌}
use lib.ListN.{get_or}
use lib.Dec.{lit≤}
use Rattle.bitstream.proofs.Fields.{read_got, read_refused}
use Rattle.header_groups.specs.Judgement.{spelled, theora, common_header}
use Rattle.header_fields.specs.Tests.{exactly}
use Rattle.bitstream.specs.Answer.{as_end}
use Rattle.header_groups.proofs.Judged.{spelled_next, spelled_refused}
use Rattle.header_groups.proofs.read_common_header.Goals as goal

pub loop-i-init : goal.loop-i-init
unfolding common_header
loop-i-init c = (lit≤ tt, refl)

pub returns-in-Refused : goal.returns-in-Refused
returns-in-Refused c = let e = read_refused (exactly 8 (get_or (c.args.mark ∷ theora) c.loop-i.i 0) 2 c.args.packet.now c.loop-i.place) c.read_exactly.ensures c.in-Refused.is in
    sym (ap as_end (c.loop-i.invariant.1 ∙ spelled_refused (c.args.mark ∷ theora) c.loop-i.i c.args.packet.now c.loop-i.place (omega arith) e))

pub loop-i-preserved : goal.loop-i-preserved
loop-i-preserved c = let e = read_got (exactly 8 (get_or (c.args.mark ∷ theora) c.loop-i.i 0) 2 c.args.packet.now c.loop-i.place) c.read_exactly.ensures c.in-Got.is in
    (omega arith, c.loop-i.invariant.1 ∙ spelled_next (c.args.mark ∷ theora) c.loop-i.i c.args.packet.now c.loop-i.place (omega arith) e)

pub returns : goal.returns
unfolding spelled
returns c = let e : c.loop-i.i ≡ 7 = omega arith in
    sym (ap as_end (rw e at c.loop-i.invariant.1))
