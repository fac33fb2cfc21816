-- `packet_body::read_body` meets its contract. The flags are read, then the records, then the tokens; each gets what the part before it left. Assumes nothing.
use Prim.Native.Nat.{ℕ, ◌*◌}
use mathlib.Core.Path.{◌≡◌, sym, ap, ◌∙◌}
use mathlib.Core.List.{List, map}
use lib.IntN.{pos}
use lib.ListN.{length, replicate}
use Rattle.bitstream.specs.Reading.{Outcome, got}
use Rattle.geometry.specs.Sizes.{blocks_of}
use Rattle.bitstream.proofs.Ends.{stored_as_at, end_refused}
use Rattle.block_record.specs.declared.BlockRecord.{BlockRecord}
use Rattle.block_record.specs.Packed.{packed}
use Rattle.tokens.specs.Tokens.{read_tokens}
use Rattle.tokens.specs.Answer.{trees_of}
use Rattle.packet_body.specs.Frame.{flags_of, body}
use Rattle.work_memory.specs.Memory.{Work, work}
use Rattle.packet_body.proofs.Steps.{Sized, sized, Listing, coded_refused, coded_listed, body_flags, listed_room, listed_part, listed_once, listed_below, listed_packed, listed_luma, indexed, body_index, body_tokens, body_whole, left_by, blocks_few, counted_refused, counted_done, on_no_body, on_body}
use Rattle.bitstream.proofs.Clauses.{two}
use Rattle.packet_body.proofs.read_body.Goals as goal

pub read_records-done-requires : goal.read_records-done-requires
read_records-done-requires c =
    let flagged : Outcome (List ℕ) =
    flags_of c.args.format c.args.w c.args.h c.args.kind c.args.packet.now c.args.at in
    let long : Sized c.args.format c.args.w c.args.h (work c.args.records.now c.args.coded.now c.args.coefs.now c.args.lasts.now c.args.flags.now c.args.bits.now c.args.supers.now c.args.modes.now c.args.active.now) =
    sized c.args.format c.args.w c.args.h _ c.requires.5 in
    let count : ℕ =
    c.in-Listed.count in
    let luma : ℕ =
    c.in-Listed.luma in
    let place : ℕ =
    c.in-Listed.place in
    let flags : List ℕ =
    c.read_coded-first.new.flags in
    let records : List ℕ =
    c.read_coded-first.new.records in
    let coded : List ℕ =
    c.read_coded-first.new.coded in
    let listed : Listing c.args.format c.args.w c.args.h flagged flags records coded count luma place =
    coded_listed c.args.format c.args.w c.args.h flagged flags records coded c.read_coded-first.ensures.value c.read_coded-first.ensures.stored_coded c.in-Listed.is in record {
      packet_len_bound = (
        c.requires.0,
        c.requires.1,
        c.requires.2,
        c.read_coded-first.auto.flags ∙ long.flags,
        ap (λ (m : Work). m.modes) c.requires.5,
        c.read_coded-first.auto.records ∙ long.records,
        listed_packed c.args.format c.args.w c.args.h (trees_of c.args.nodes.now) c.args.kind c.args.qis c.args.packet.now c.args.at _ _ _ _ _ _ listed,
      );
      qis_bound = (
        c.requires.3,
        listed_once c.args.format c.args.w c.args.h (trees_of c.args.nodes.now) c.args.kind c.args.qis c.args.packet.now c.args.at _ _ _ _ _ _ listed,
        listed_below c.args.format c.args.w c.args.h (trees_of c.args.nodes.now) c.args.kind c.args.qis c.args.packet.now c.args.at _ _ _ _ _ _ listed,
        listed_part c.args.format c.args.w c.args.h (trees_of c.args.nodes.now) c.args.kind c.args.qis c.args.packet.now c.args.at _ _ _ _ _ _ listed _ (c.read_coded-first.auto.coded ∙ long.coded) (c.read_coded-first.auto.bits ∙ long.bits),
      );
    }

pub read_coefs-given-requires : goal.read_coefs-given-requires
read_coefs-given-requires c =
    let flagged : Outcome (List ℕ) =
    flags_of c.args.format c.args.w c.args.h c.args.kind c.args.packet.now c.args.at in
    let all : ℕ =
    blocks_of c.args.format c.args.w c.args.h in
    let long : Sized c.args.format c.args.w c.args.h (work c.args.records.now c.args.coded.now c.args.coefs.now c.args.lasts.now c.args.flags.now c.args.bits.now c.args.supers.now c.args.modes.now c.args.active.now) =
    sized c.args.format c.args.w c.args.h _ c.requires.5 in
    let count : ℕ =
    c.in-Listed.count in
    let luma : ℕ =
    c.in-Listed.luma in
    let place : ℕ =
    c.in-Listed.place in
    let flags : List ℕ =
    c.read_coded-first.new.flags in
    let records : List ℕ =
    c.read_coded-first.new.records in
    let coded : List ℕ =
    c.read_coded-first.new.coded in
    let listed : Listing c.args.format c.args.w c.args.h flagged flags records coded count luma place =
    coded_listed c.args.format c.args.w c.args.h flagged flags records coded c.read_coded-first.ensures.value c.read_coded-first.ensures.stored_coded c.in-Listed.is in
    let bits-then : length c.read_records-done.new.bits ≡ all =
    c.read_records-done.auto.bits ∙ c.read_coded-first.auto.bits ∙ long.bits in
    record {
      packet_len_bound = (
        c.requires.0,
        c.requires.4,
        listed_luma c.args.format c.args.w c.args.h (trees_of c.args.nodes.now) c.args.kind c.args.qis c.args.packet.now c.args.at flags records coded count luma place listed (c.read_coded-first.auto.flags ∙ long.flags),
        listed_room c.args.format c.args.w c.args.h (trees_of c.args.nodes.now) c.args.kind c.args.qis c.args.packet.now c.args.at flags records coded count luma place listed _ (c.read_coded-first.auto.coded ∙ long.coded) bits-then,
        blocks_few c.args.format c.args.w c.args.h _ c.requires.1 c.requires.2 bits-then,
      );
      coefs_value = (
        ap (λ (m : Work). m.coefs) c.requires.5 ∙ ap (λ (n : ℕ). replicate (64 * n) (pos 0)) (sym bits-then),
        ap (λ (m : Work). m.lasts) c.requires.5 ∙ ap (λ (n : ℕ). replicate n 0) (sym bits-then),
        ap (λ (m : Work). m.active) c.requires.5 ∙ ap (λ (n : ℕ). replicate n 0) (sym bits-then),
      );
    }

pub returns-in-Refused : goal.returns-in-Refused
returns-in-Refused c =
    let flagged : Outcome (List ℕ) =
    flags_of c.args.format c.args.w c.args.h c.args.kind c.args.packet.now c.args.at in two (λ a b. record { value = a; left = b }) (on_no_body c.args.format c.args.w c.args.h _ (body c.args.format c.args.w c.args.h (trees_of c.args.nodes.now) c.args.kind c.args.qis c.args.packet.now c.args.at)
    (body_flags c.args.format c.args.w c.args.h (trees_of c.args.nodes.now) c.args.kind c.args.qis c.args.packet.now c.args.at (coded_refused c.args.format c.args.w c.args.h flagged c.read_coded-first.ensures.value c.in-Refused.is)))

pub returns-in-Refused-done : goal.returns-in-Refused-done
returns-in-Refused-done c =
    let flagged : Outcome (List ℕ) =
    flags_of c.args.format c.args.w c.args.h c.args.kind c.args.packet.now c.args.at in
    let count : ℕ =
    c.in-Listed.count in
    let luma : ℕ =
    c.in-Listed.luma in
    let place : ℕ =
    c.in-Listed.place in
    let flags : List ℕ =
    c.read_coded-first.new.flags in
    let records : List ℕ =
    c.read_coded-first.new.records in
    let coded : List ℕ =
    c.read_coded-first.new.coded in
    let listed : Listing c.args.format c.args.w c.args.h flagged flags records coded count luma place =
    coded_listed c.args.format c.args.w c.args.h flagged flags records coded c.read_coded-first.ensures.value c.read_coded-first.ensures.stored_coded c.in-Listed.is in two (λ a b. record { value = a; left = b }) (on_no_body c.args.format c.args.w c.args.h _ (body c.args.format c.args.w c.args.h (trees_of c.args.nodes.now) c.args.kind c.args.qis c.args.packet.now c.args.at)
    (body_index c.args.format c.args.w c.args.h (trees_of c.args.nodes.now) c.args.kind c.args.qis c.args.packet.now c.args.at flags records coded count luma place listed (end_refused (indexed c.args.format c.args.w c.args.h (trees_of c.args.nodes.now) c.args.kind c.args.qis c.args.packet.now c.args.at flags records coded count luma place listed) c.read_records-done.ensures.value c.in-Refused-done.is)))

pub returns-in-Refused-given : goal.returns-in-Refused-given
returns-in-Refused-given c =
    let flagged : Outcome (List ℕ) =
    flags_of c.args.format c.args.w c.args.h c.args.kind c.args.packet.now c.args.at in
    let count : ℕ =
    c.in-Listed.count in
    let luma : ℕ =
    c.in-Listed.luma in
    let place : ℕ =
    c.in-Listed.place in
    let flags : List ℕ =
    c.read_coded-first.new.flags in
    let records : List ℕ =
    c.read_coded-first.new.records in
    let coded : List ℕ =
    c.read_coded-first.new.coded in
    let listed : Listing c.args.format c.args.w c.args.h flagged flags records coded count luma place =
    coded_listed c.args.format c.args.w c.args.h flagged flags records coded c.read_coded-first.ensures.value c.read_coded-first.ensures.stored_coded c.in-Listed.is in
    let index : let a = c.args in (rs : List BlockRecord)
    × (indexed a.format a.w a.h (trees_of a.nodes.now) a.kind a.qis a.packet.now a.at flags records coded count luma place listed ≡ got rs c.in-At.next)
    × (c.read_records-done.new.records ≡ map packed rs) =
    let a = c.args in
    stored_as_at (map packed) (indexed a.format a.w a.h (trees_of a.nodes.now) a.kind a.qis a.packet.now a.at flags records coded count luma place listed) _ c.read_records-done.ensures.value c.read_records-done.ensures.stored_as c.in-At.is in
    let u = index in two (λ a b. record { value = a; left = b }) (on_no_body c.args.format c.args.w c.args.h _ (body c.args.format c.args.w c.args.h (trees_of c.args.nodes.now) c.args.kind c.args.qis c.args.packet.now c.args.at)
    (body_tokens c.args.format c.args.w c.args.h (trees_of c.args.nodes.now) c.args.kind c.args.qis c.args.packet.now c.args.at flags records coded count luma place listed u.1 (counted_refused (read_tokens (trees_of c.args.nodes.now) luma count c.args.packet.now c.in-At.next) c.read_coefs-given.ensures.value c.in-Refused-given.is)))

pub returns-in-Done : goal.returns-in-Done
returns-in-Done c =
    let flagged : Outcome (List ℕ) =
    flags_of c.args.format c.args.w c.args.h c.args.kind c.args.packet.now c.args.at in
    let all : ℕ =
    blocks_of c.args.format c.args.w c.args.h in
    let long : Sized c.args.format c.args.w c.args.h (work c.args.records.now c.args.coded.now c.args.coefs.now c.args.lasts.now c.args.flags.now c.args.bits.now c.args.supers.now c.args.modes.now c.args.active.now) =
    sized c.args.format c.args.w c.args.h _ c.requires.5 in
    let count : ℕ =
    c.in-Listed.count in
    let luma : ℕ =
    c.in-Listed.luma in
    let place : ℕ =
    c.in-Listed.place in
    let flags : List ℕ =
    c.read_coded-first.new.flags in
    let records : List ℕ =
    c.read_coded-first.new.records in
    let coded : List ℕ =
    c.read_coded-first.new.coded in
    let listed : Listing c.args.format c.args.w c.args.h flagged flags records coded count luma place =
    coded_listed c.args.format c.args.w c.args.h flagged flags records coded c.read_coded-first.ensures.value c.read_coded-first.ensures.stored_coded c.in-Listed.is in
    let index : let a = c.args in (rs : List BlockRecord)
    × (indexed a.format a.w a.h (trees_of a.nodes.now) a.kind a.qis a.packet.now a.at flags records coded count luma place listed ≡ got rs c.in-At.next)
    × (c.read_records-done.new.records ≡ map packed rs) =
    let a = c.args in
    stored_as_at (map packed) (indexed a.format a.w a.h (trees_of a.nodes.now) a.kind a.qis a.packet.now a.at flags records coded count luma place listed) _ c.read_records-done.ensures.value c.read_records-done.ensures.stored_as c.in-At.is in
    let bits-then : length c.read_records-done.new.bits ≡ all =
    c.read_records-done.auto.bits ∙ c.read_coded-first.auto.bits ∙ long.bits in
    let u = index in
    let t = counted_done (read_tokens (trees_of c.args.nodes.now) luma count c.args.packet.now c.in-At.next) _ count _ _ _ _ c.read_coefs-given.ensures.value c.read_coefs-given.ensures.stored_tokens c.in-Done.is in two (λ a b. record { value = a; left = b }) (on_body c.args.format c.args.w c.args.h _ (body c.args.format c.args.w c.args.h (trees_of c.args.nodes.now) c.args.kind c.args.qis c.args.packet.now c.args.at)
    (body_whole c.args.format c.args.w c.args.h (trees_of c.args.nodes.now) c.args.kind c.args.qis c.args.packet.now c.args.at flags records coded count luma place listed u.1 t.1) listed.counted t.2
    (left_by c.args.format c.args.w c.args.h (trees_of c.args.nodes.now) c.args.kind c.args.qis c.args.packet.now c.args.at flags records coded count luma place listed _ u.0 t.0 c.in-Done.end _ _ _ _ _ _ _ _ (bits-then) u.2 u.1 c.read_records-done.ensures.stored_modes t.3))
