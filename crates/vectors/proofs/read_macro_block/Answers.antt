-- `vectors::read_macro_block` meets its contract. Assumes nothing.
use mathlib.Core.Path.{◌≡◌, sym, ◌∙◌}
use Rattle.bitstream.specs.Reading.{got}
use Rattle.motion_reader.specs.Motion.{motion}
use Rattle.motion.specs.Kept.{MovedInRange}
use Rattle.vectors.specs.Memory.{state_of}
use Rattle.motion_reader.proofs.Motions.{moved_got, moved_refused, motion_small}
use Rattle.vectors.proofs.Records.{moves, macro_end, macro_moved, on_step, on_step_refused}
use Rattle.bitstream.proofs.Clauses.{two}
use Rattle.vectors.proofs.read_macro_block.Goals as goal

pub predict_blocks-requires : goal.predict_blocks-requires
predict_blocks-requires c =
    let flags : motion c.args.code c.args.mode c.is_coded_in-a.result c.is_coded_in-b.result c.is_coded_in-c.result c.is_coded_in-d.result c.args.last c.args.last2 c.args.packet.now c.args.at ≡ moves c.args.format c.args.w c.args.h c.args.code c.args.mode c.args.q (state_of c.args.records.now c.args.last c.args.last2) c.args.packet.now c.args.at =
    λ i. motion c.args.code c.args.mode (c.is_coded_in-a.ensures i) (c.is_coded_in-b.ensures i) (c.is_coded_in-c.ensures i) (c.is_coded_in-d.ensures i) c.args.last c.args.last2 c.args.packet.now c.args.at in
    let moved : moves c.args.format c.args.w c.args.h c.args.code c.args.mode c.args.q (state_of c.args.records.now c.args.last c.args.last2) c.args.packet.now c.args.at ≡ got c.in-Got.m c.in-Got.next =
    sym (flags) ∙ moved_got _ c.read_motion-moved.ensures c.in-Got.is in
    let in_range : MovedInRange c.in-Got.m =
    motion_small c.args.code c.args.mode _ _ _ _ c.args.last c.args.last2 c.args.packet.now c.args.at c.requires.6 c.requires.7 _ _ (moved) in
    (c.requires.1, c.requires.2, c.requires.3, c.requires.4, c.requires.5, (in_range).motion, c.requires.8)

pub returns-in-Refused : goal.returns-in-Refused
returns-in-Refused c =
    let flags : motion c.args.code c.args.mode c.is_coded_in-a.result c.is_coded_in-b.result c.is_coded_in-c.result c.is_coded_in-d.result c.args.last c.args.last2 c.args.packet.now c.args.at ≡ moves c.args.format c.args.w c.args.h c.args.code c.args.mode c.args.q (state_of c.args.records.now c.args.last c.args.last2) c.args.packet.now c.args.at =
    λ i. motion c.args.code c.args.mode (c.is_coded_in-a.ensures i) (c.is_coded_in-b.ensures i) (c.is_coded_in-c.ensures i) (c.is_coded_in-d.ensures i) c.args.last c.args.last2 c.args.packet.now c.args.at in two (λ a b. record { value = a; stored_state = b }) (on_step_refused c.args.records.now _ (macro_end c.args.format c.args.w c.args.h c.args.code c.args.mode c.args.q (state_of c.args.records.now c.args.last c.args.last2) c.args.packet.now c.args.at (sym (flags) ∙ moved_refused _ c.read_motion-moved.ensures c.in-Refused.is)))

pub returns-in-Got : goal.returns-in-Got
returns-in-Got c =
    let flags : motion c.args.code c.args.mode c.is_coded_in-a.result c.is_coded_in-b.result c.is_coded_in-c.result c.is_coded_in-d.result c.args.last c.args.last2 c.args.packet.now c.args.at ≡ moves c.args.format c.args.w c.args.h c.args.code c.args.mode c.args.q (state_of c.args.records.now c.args.last c.args.last2) c.args.packet.now c.args.at =
    λ i. motion c.args.code c.args.mode (c.is_coded_in-a.ensures i) (c.is_coded_in-b.ensures i) (c.is_coded_in-c.ensures i) (c.is_coded_in-d.ensures i) c.args.last c.args.last2 c.args.packet.now c.args.at in
    let moved : moves c.args.format c.args.w c.args.h c.args.code c.args.mode c.args.q (state_of c.args.records.now c.args.last c.args.last2) c.args.packet.now c.args.at ≡ got c.in-Got.m c.in-Got.next =
    sym (flags) ∙ moved_got _ c.read_motion-moved.ensures c.in-Got.is in two (λ a b. record { value = a; stored_state = b }) (on_step _ _ (macro_moved c.args.format c.args.w c.args.h c.args.code c.args.mode c.args.q (state_of c.args.records.now c.args.last c.args.last2) c.args.packet.now c.args.at (moved)) c.predict_blocks.ensures.0 c.predict_blocks.ensures.1)
