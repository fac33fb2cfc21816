-- `tally::count_packet` meets its contract. Assumes nothing.
use mathlib.Core.Path.{◌≡◌, sym, ap, ◌∙◌}
use lib.Seq.{length-take-le}
use Rattle.geometry.specs.declared.PixelFormat.{PixelFormat}
use Rattle.headers.proofs.Fitting.{fits_macro_blocks}
use Rattle.tokens.specs.Answer.{trees_of}
use Rattle.work_memory.specs.Lengths.{published, cleared}
use Rattle.tally.proofs.Kept.{none_kept, coded_front, coefs_front, lasts_front, coded_once, coded_below, modes_small, all_cleared, on_refused, on_whole}
use borrow.Author.Rules.{rules}
use Rattle.tally.proofs.count_packet.Goals as goal

pub read_kept-got-requires : goal.read_kept-got-requires
read_kept-got-requires c = let k = fits_macro_blocks c.args.s c.requires.0 in
    (c.requires.1, k.1, k.3, c.requires.2, c.requires.3 ∙ ap (λ (f : PixelFormat). (cleared (published f c.args.s.fields.fmbw c.args.s.fields.fmbh)).work) (sym c.pixel_format-format.ensures))

pub count_frame-counts-requires : goal.count_frame-counts-requires
count_frame-counts-requires c = let k = fits_macro_blocks c.args.s c.requires.0 in
    (k.1, k.3, coded_once c.pixel_format-format.result c.args.s.fields.fmbw c.args.s.fields.fmbh (trees_of c.args.nodes.now) c.args.s.references c.args.packet.now c.read_kept-got.ensures.value c.read_kept-got.ensures.active_after c.in-Whole.is, coded_below c.pixel_format-format.result c.args.s.fields.fmbw c.args.s.fields.fmbh (trees_of c.args.nodes.now) c.args.s.references c.args.packet.now c.read_kept-got.ensures.value c.read_kept-got.ensures.active_after c.in-Whole.is, modes_small c.pixel_format-format.result c.args.s.fields.fmbw c.args.s.fields.fmbh (trees_of c.args.nodes.now) c.args.s.references c.args.packet.now c.read_kept-got.ensures.value c.read_kept-got.ensures.active_after c.in-Whole.is)

pub clear_kept-requires : goal.clear_kept-requires
clear_kept-requires c = let x = coded_front c.pixel_format-format.result c.args.s.fields.fmbw c.args.s.fields.fmbh (trees_of c.args.nodes.now) c.args.s.references c.args.packet.now c.read_kept-got.ensures.value c.read_kept-got.ensures.active_after c.in-Whole.is in
    let y = coefs_front c.pixel_format-format.result c.args.s.fields.fmbw c.args.s.fields.fmbh (trees_of c.args.nodes.now) c.args.s.references c.args.packet.now c.read_kept-got.ensures.value c.read_kept-got.ensures.active_after c.in-Whole.is in
    let l = lasts_front c.pixel_format-format.result c.args.s.fields.fmbw c.args.s.fields.fmbh (trees_of c.args.nodes.now) c.args.s.references c.args.packet.now c.read_kept-got.ensures.value c.read_kept-got.ensures.active_after c.in-Whole.is in
    (x.fits, x.behind, y.fits, y.behind, l.fits, l.behind)

pub returns-in-Whole : goal.returns-in-Whole
returns-in-Whole c = record { value = λ setup h. on_whole c.args.s setup (trees_of c.args.nodes.now) h c.pixel_format-format.result c.pixel_format-format.ensures c.args.packet.now c.read_kept-got.ensures.value c.read_kept-got.ensures.active_after c.in-Whole.is c.count_frame-counts.result c.count_frame-counts.ensures c.answer.result c.answer.ensures; active_after = all_cleared c.pixel_format-format.result c.args.s.fields.fmbw c.args.s.fields.fmbh (trees_of c.args.nodes.now) c.args.s.references c.args.packet.now c.read_kept-got.ensures.value c.read_kept-got.ensures.active_after c.in-Whole.is c.clear_kept.ensures ∙ ap (λ (f : PixelFormat). (cleared (published f c.args.s.fields.fmbw c.args.s.fields.fmbh)).work) c.pixel_format-format.ensures }
