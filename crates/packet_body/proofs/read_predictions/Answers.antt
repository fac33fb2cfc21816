-- `packet_body::read_predictions` meets its contract. Assumes nothing.
use native.Mathlib.Omega.{arith}
use mathlib.Core.Path.{◌≡◌, sym, ap, ◌∙◌}
use mathlib.Core.List.{map}
use Prim.Native.Nat.{ℕ}
use lib.ListN.{length, length-replicate}
use Rattle.block_record.specs.Packed.{packed}
use Rattle.block_record.specs.Memory.{records_of}
use Rattle.bitstream.proofs.Ends.{on_refused, stored_at, end_refused}
use Rattle.modes.specs.Modes.{macro_modes}
use Rattle.block_qi.proofs.Steps.{on_all}
use Rattle.geometry.specs.Sizes.{macro_blocks_of}
use Rattle.packet_body.specs.Work.{predictions}
use Rattle.packet_body.proofs.Steps.{not_intra, same_stored, macro_blocks_fit, predictions_none, predictions_modes, predictions_vectors, modes_none, modes_refused, modes_stored}
use Rattle.packet_body.proofs.read_predictions.Goals as goal

pub read_modes-read-requires : goal.read_modes-read-requires
read_modes-read-requires c =
    let long : length c.args.modes.now ≡ macro_blocks_of c.args.w c.args.h =
    ap length c.requires.4 ∙ length-replicate (macro_blocks_of c.args.w c.args.h) 0 in
    (c.requires.0, omega (arith, c.requires.3, long, macro_blocks_fit c.args.format c.args.w c.args.h))

pub returns-in-Intra : goal.returns-in-Intra
returns-in-Intra c = let z = on_all _ (predictions c.args.format c.args.w c.args.h c.args.kind c.args.flags.now (records_of c.args.records.now) c.args.packet.now c.args.at)
    (predictions_none c.args.format c.args.w c.args.h c.args.kind c.args.flags.now (records_of c.args.records.now) c.args.packet.now c.args.at c.in-Intra.is) c.requires.6 in record { value = z.0; stored_as = z.1; stored_modes = modes_none c.args.format c.args.w c.args.h c.args.kind c.args.flags.now (records_of c.args.records.now) c.args.packet.now c.args.at _ c.in-Intra.is c.requires.4 }

pub returns-in-Refused : goal.returns-in-Refused
returns-in-Refused c =
    let long : length c.args.modes.now ≡ macro_blocks_of c.args.w c.args.h =
    ap length c.requires.4 ∙ length-replicate (macro_blocks_of c.args.w c.args.h) 0 in
    let g = ap (λ (n : ℕ). macro_modes c.args.flags.now n c.args.packet.now c.args.at) (sym (long)) ∙ end_refused (macro_modes c.args.flags.now (length c.args.modes.now) c.args.packet.now c.args.at) c.read_modes-read.ensures.value c.in-Refused.is in
    let e = not_intra c.args.kind c.in_default.not-Intra in
    let z = on_refused (λ rs. c.args.records.now ≡ map packed rs) (predictions c.args.format c.args.w c.args.h c.args.kind c.args.flags.now (records_of c.args.records.now) c.args.packet.now c.args.at)
    (predictions_modes c.args.format c.args.w c.args.h c.args.kind c.args.flags.now (records_of c.args.records.now) c.args.packet.now c.args.at e g) in record { value = z.0; stored_as = z.1; stored_modes = modes_refused c.args.format c.args.w c.args.h c.args.kind c.args.flags.now (records_of c.args.records.now) c.args.packet.now c.args.at _ e g }

pub returns-in-At : goal.returns-in-At
returns-in-At c =
    let long : length c.args.modes.now ≡ macro_blocks_of c.args.w c.args.h =
    ap length c.requires.4 ∙ length-replicate (macro_blocks_of c.args.w c.args.h) 0 in
    let g = ap (λ (n : ℕ). macro_modes c.args.flags.now n c.args.packet.now c.args.at) (sym (long)) ∙ stored_at (macro_modes c.args.flags.now (length c.args.modes.now) c.args.packet.now c.args.at) _ c.read_modes-read.ensures.value c.read_modes-read.ensures.stored c.in-At.is in
    let e = not_intra c.args.kind c.in_default.not-Intra in
    let z = same_stored (map packed) _ (predictions_vectors c.args.format c.args.w c.args.h c.args.kind c.args.flags.now (records_of c.args.records.now) c.args.packet.now c.args.at e g) c.read_vectors.ensures.value c.read_vectors.ensures.stored_as in record { value = z.0; stored_as = z.1; stored_modes = modes_stored c.args.format c.args.w c.args.h c.args.kind c.args.flags.now (records_of c.args.records.now) c.args.packet.now c.args.at _ e g }
