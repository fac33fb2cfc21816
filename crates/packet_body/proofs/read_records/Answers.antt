-- `packet_body::read_records` meets its contract. The predictions leave records in their range, of which packing loses nothing. Assumes nothing.
use Prim.Native.Nat.{ℕ}
use mathlib.Core.Path.{◌≡◌, sym, ◌∙◌, subst}
use mathlib.Core.List.{List, map}
use Rattle.bitstream.specs.Reading.{Outcome, got}
use Rattle.bitstream.specs.Lists.{AllBelow}
use Rattle.bitstream.proofs.Ends.{stored_as_at}
use Rattle.block_record.specs.declared.BlockRecord.{BlockRecord}
use Rattle.block_record.specs.Packed.{packed}
use Rattle.block_record.specs.Memory.{records_of}
use Rattle.block_record.proofs.MemoryLaws.{AllInRange, records_in_range}
use Rattle.packet_body.specs.Work.{predictions}
use Rattle.packet_body.proofs.Steps.{same_stored, predicted_packed, predicted_then}
use Rattle.packet_body.proofs.read_records.Goals as goal

pub read_block_qi-requires : goal.read_block_qi-requires
read_block_qi-requires c =
    let outcome : Outcome (List BlockRecord) =
    predictions c.args.format c.args.w c.args.h c.args.kind c.args.flags.now (records_of c.args.records.now) c.args.packet.now c.args.at in
    let small : AllInRange (records_of c.args.records.now) =
    records_in_range c.args.records.now c.requires.packet_len_bound.6 in
    let predicted : (rs : List BlockRecord) × (outcome ≡ got rs c.in-At.next) × (c.read_predictions-done.new.records ≡ map packed rs) =
    stored_as_at (map packed) (outcome) _ c.read_predictions-done.ensures.value c.read_predictions-done.ensures.stored_as c.in-At.is in
    let u = predicted in (
      c.requires.packet_len_bound.0,
      c.requires.qis_bound.0,
      c.requires.qis_bound.1,
      subst (λ (n : ℕ). AllBelow n c.args.coded.now) (sym (c.read_predictions-done.auto.records ∙ c.requires.packet_len_bound.5)) c.requires.qis_bound.2,
      c.requires.qis_bound.3,
      predicted_packed c.args.format c.args.w c.args.h c.args.kind c.args.flags.now (records_of c.args.records.now) c.args.packet.now c.args.at _ (small) u.1 u.2,
    )

pub returns-in-At : goal.returns-in-At
returns-in-At c =
    let outcome : Outcome (List BlockRecord) =
    predictions c.args.format c.args.w c.args.h c.args.kind c.args.flags.now (records_of c.args.records.now) c.args.packet.now c.args.at in
    let small : AllInRange (records_of c.args.records.now) =
    records_in_range c.args.records.now c.requires.packet_len_bound.6 in
    let predicted : (rs : List BlockRecord) × (outcome ≡ got rs c.in-At.next) × (c.read_predictions-done.new.records ≡ map packed rs) =
    stored_as_at (map packed) (outcome) _ c.read_predictions-done.ensures.value c.read_predictions-done.ensures.stored_as c.in-At.is in
    let u = predicted in
    let z = same_stored (map packed) _
    (predicted_then c.args.format c.args.w c.args.h c.args.kind c.args.flags.now (records_of c.args.records.now) c.args.packet.now c.args.at _ (small) u.1 u.2 c.args.qis c.args.coded.now)
    c.read_block_qi.ensures.value c.read_block_qi.ensures.stored_as in record { value = z.0; stored_as = z.1; stored_modes = c.read_predictions-done.ensures.stored_modes }
