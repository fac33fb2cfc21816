-- `packet_body::read_flags` meets its contract. Assumes nothing.
use lib.ListN.{length}
use Rattle.packet_body.proofs.Steps.{not_intra, flags_intra, flags_inter}
use Rattle.bitstream.proofs.Clauses.{two}
use Rattle.packet_body.proofs.read_flags.Goals as goal

pub returns-in-Intra : goal.returns-in-Intra
returns-in-Intra c = two (λ a b. record { value = a; stored = b }) (flags_intra c.args.format c.args.w c.args.h c.args.kind c.args.packet.now c.args.at _ (length c.args.flags.now) c.in-Intra.is c.flag_all.ensures c.requires.5)

pub returns-in_default : goal.returns-in_default
returns-in_default c = two (λ a b. record { value = a; stored = b }) (flags_inter c.args.format c.args.w c.args.h c.args.kind c.args.packet.now c.args.at _ (not_intra c.args.kind c.in_default.not-Intra) c.read_flags.ensures.value c.read_flags.ensures.stored)
