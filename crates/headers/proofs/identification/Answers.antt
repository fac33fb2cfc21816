-- `headers::identification` meets its contract: the part that is handed on is read as the whole packet. Assumes nothing.
use Prim.Native.Nat.{ℕ, ◌^◌, ◌≤◌}
use mathlib.Core.Path.{ap, ◌∙◌, subst⁻¹}
use mathlib.Core.List.{List}
use lib.ListN.{length}
use lib.Dec.{lit≤}
use Rattle.bitstream.proofs.Spends.{readable_same, readable_short}
use Rattle.headers.specs.Identification.{identification, as_identification}
use Rattle.headers.proofs.Groups.{identification_lawful, identification_spends}
use Rattle.headers.proofs.identification.Goals as goal

pub read_session-requires : goal.read_session-requires
read_session-requires c = subst⁻¹ (λ (l : List ℕ). length l ≤ 2 ^ 58) c.readable.ensures (readable_short c.args.packet.now)

pub returns : goal.returns
returns c = c.read_session.ensures ∙ ap as_identification (ap (λ (l : List ℕ). identification l 0) c.readable.ensures ∙ readable_same identification_lawful identification_spends (lit≤ tt) c.args.packet.now)
