-- `decoding::read_packet` meets its contract. Assumes nothing.
use native.Mathlib.Omega.{arith}
use mathlib.Core.Path.{◌≡◌, sym, ap, ◌∙◌, subst}
use lib.ListN.{get_or}
use Rattle.geometry.specs.declared.PixelFormat.{PixelFormat}
use Rattle.headers.proofs.Fitting.{fits_macro_blocks}
use Rattle.work_memory.specs.Lengths.{published, cleared}
use Rattle.kept_matrices.specs.Kept.{Keeps}
use Rattle.setup.proofs.Held.{held_few, held_parameters}
use Rattle.reading.specs.Answer.{stays_counted}
use Rattle.reading.proofs.Held.{tables_held, trees_held}
use Rattle.asked_frame.proofs.Answered.{left_nothing, left_clear, left_make}
use Rattle.asked_frame.proofs.Decoded.{header_few}
use Rattle.decoding.proofs.Readies.{ready_refused, ready_17, ready_accepted}
use borrow.Author.Rules.{rules}
use Rattle.decoding.proofs.read_packet.Goals as goal

pub read_frame-got-requires : goal.read_frame-got-requires
read_frame-got-requires c = let k = fits_macro_blocks c.args.s c.requires.s_value.0 in
    (c.requires.s_value.1, k.1, k.3, tables_held c.args.table.now c.args.loaded c.requires.s_value.3.1, c.requires.active_value ∙ ap (λ (f : PixelFormat). (cleared (published f c.args.s.fields.fmbw c.args.s.fields.fmbh)).work) (sym c.pixel_format-format.ensures))

pub accept-requires : goal.accept-requires
accept-requires c = let l = left_make (stays_counted c.read_frame-got.result.header.kind c.args.s) c.read_frame-got.result.read (sym c.judge-judged.ensures.next_value ∙ c.in-Make.is) in
    let few = header_few c.args.s c.requires.s_value.3.0 c.args.packet.now c.args.loaded.nodes (trees_held c.args.table.now c.args.loaded c.requires.s_value.3.1) c.pixel_format-format.ensures c.read_frame-got.ensures.value c.read_frame-got.ensures.active_after l.2 in
    (c.requires.s_value.2, (_, held_parameters c.args.table.now c.args.loaded c.requires.s_value.3.1), c.requires.s_value.4, few.0, few.1, held_few c.args.table.now c.args.loaded c.requires.s_value.3.1 (get_or c.read_frame-got.result.header.qis 0 0) (few.1 0 (omega arith)))

pub returns-in-Nothing : goal.returns-in-Nothing
returns-in-Nothing c = let l = left_nothing (stays_counted c.read_frame-got.result.header.kind c.args.s) c.read_frame-got.result.read (sym c.judge-judged.ensures.next_value ∙ c.in-Nothing.is) in record { ready = (λ setup h. ready_refused c.args.s setup c.args.packet.now c.args.loaded.nodes (trees_held c.args.table.now c.args.loaded h) c.pixel_format-format.ensures c.read_frame-got.ensures.value c.read_frame-got.ensures.active_after c.judge-judged.result.answer c.judge-judged.ensures.answer_value c.refuse.result c.refuse.ensures.1 l.2 c.refuse.ensures.0); keeps = subst (Keeps c.args.table.now c.args.loaded.parameters) (sym c.refuse.ensures.2) c.requires.s_value.4 }

pub returns-in-Clear : goal.returns-in-Clear
returns-in-Clear c = let l = left_clear (stays_counted c.read_frame-got.result.header.kind c.args.s) c.read_frame-got.result.read (sym c.judge-judged.ensures.next_value ∙ c.in-Clear.is) in record { ready = (λ setup h. ready_17 c.args.s setup c.args.packet.now c.args.loaded.nodes (trees_held c.args.table.now c.args.loaded h) c.pixel_format-format.ensures c.read_frame-got.ensures.value c.read_frame-got.ensures.active_after c.judge-judged.result.answer c.judge-judged.ensures.answer_value c.refuse-in-Clear.result c.refuse-in-Clear.ensures.1 l.3 _ _ _ _ c.clear_read.ensures l.4 c.refuse-in-Clear.ensures.0); keeps = subst (Keeps c.args.table.now c.args.loaded.parameters) (sym c.refuse-in-Clear.ensures.2) c.requires.s_value.4 }

pub returns-in-Make : goal.returns-in-Make
returns-in-Make c = let l = left_make (stays_counted c.read_frame-got.result.header.kind c.args.s) c.read_frame-got.result.read (sym c.judge-judged.ensures.next_value ∙ c.in-Make.is) in record { ready = (λ setup h. ready_accepted c.args.s setup c.args.packet.now c.args.loaded.nodes (trees_held c.args.table.now c.args.loaded h) c.pixel_format-format.ensures c.read_frame-got.ensures.value c.read_frame-got.ensures.active_after c.judge-judged.result.answer c.judge-judged.ensures.answer_value c.accept.result c.accept.ensures.1 l.2 c.args.table.now c.args.loaded h l.3 c.accept.ensures.0 c.accept.ensures.2 c.accept.ensures.3 c.accept.ensures.4 c.accept.ensures.5); keeps = c.accept.ensures.5.keeps }
