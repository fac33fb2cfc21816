-- `vectors::read_vectors` meets its contract. Assumes nothing.
use mathlib.Core.Path.{◌≡◌, ◌∙◌}
use mathlib.Core.List.{map}
use Rattle.bitstream.proofs.Ends.{on_refused}
use Rattle.bitstream.specs.Reading.{got, field}
use Rattle.bitstream.proofs.Fields.{read_got, read_refused}
use Rattle.block_record.specs.Packed.{packed}
use Rattle.block_record.specs.Memory.{records_of}
use Rattle.vectors.specs.Vectors.{vectors}
use Rattle.vectors.proofs.Records.{all_end, all_refused, all_got, on_vectors}
use Rattle.vectors.proofs.Start.{begins, hidden}
use Rattle.bitstream.proofs.Clauses.{two}
use Rattle.vectors.proofs.read_vectors.Goals as goal

pub read_each-requires : goal.read_each-requires
read_each-requires c = let b = begins c.args.format c.args.w c.args.h c.args.records.now c.start_records.new.records c.requires.5 c.start_records.ensures in (c.requires.0, c.requires.1, c.requires.2, c.requires.3, c.start_records.auto.records ∙ c.requires.4, b.0, b.1)

pub returns-in-Refused : goal.returns-in-Refused
returns-in-Refused c = two (λ a b. record { value = a; stored_as = b }) (on_refused (λ rs. c.args.records.now ≡ map packed rs) (vectors c.args.format c.args.w c.args.h c.args.modes.now (records_of c.args.records.now) c.args.packet.now c.args.at) (all_end c.args.format c.args.w c.args.h c.args.modes.now (records_of c.args.records.now) c.args.packet.now c.args.at (read_refused (field 1 c.args.packet.now c.args.at) c.read-bit.ensures c.in-Refused.is)))

pub returns-in-Got : goal.returns-in-Got
returns-in-Got c =
    let bit-got : field 1 c.args.packet.now c.args.at ≡ got c.in-Got.code c.in-Got.next =
    read_got (field 1 c.args.packet.now c.args.at) c.read-bit.ensures c.in-Got.is in
    let g = bit-got in let e = hidden c.args.format c.args.w c.args.h c.args.records.now c.start_records.new.records c.requires.5 c.start_records.ensures c.in-Got.code c.args.modes.now c.args.packet.now c.requires.3 c.requires.4 c.in-Got.next in two (λ a b. record { value = a; stored_as = b }) (on_vectors _ _ _ (λ k d r. all_refused c.args.format c.args.w c.args.h c.args.modes.now (records_of c.args.records.now) c.args.packet.now c.args.at g (e ∙ r)) (λ s d r. all_got c.args.format c.args.w c.args.h c.args.modes.now (records_of c.args.records.now) c.args.packet.now c.args.at g (e ∙ r)) c.read_each.ensures.value c.read_each.ensures.stored_state)
