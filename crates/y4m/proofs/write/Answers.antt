-- `y4m::write` meets its contract. Assumes nothing.
use mathlib.Core.Path.{refl, sym, ap, ◌∙◌}
use lib.ListN.{length}
use Rattle.output.proofs.Splices.{answered}
use Rattle.y4m.specs.Film.{numbers_fit}
use Rattle.y4m.proofs.Sessions.{numbers_fit_law}
use Rattle.y4m.proofs.Calls.{stream_8, stream_1, stream_is}
use Rattle.bitstream.proofs.Clauses.{two}
use Rattle.y4m.proofs.write.Goals as goal

pub returns-then-not-session_fits : goal.returns-then-not-session_fits
returns-then-not-session_fits c = two (λ a b. record { value = a; out_after = b }) (answered _ _ _ _ _ (stream_8 c.args.s c.args.frames.now (length c.args.out.now) (sym c.session_fits.ensures ∙ c.if-not-session_fits.true)) refl refl)

pub frame_bytes-size-requires : goal.frame_bytes-size-requires
frame_bytes-size-requires c = ap numbers_fit c.numbers_of-n.ensures ∙ numbers_fit_law c.args.s (sym c.session_fits.ensures ∙ c.if-not-session_fits.false)

pub returns-then-frames-size-ne0 : goal.returns-then-frames-size-ne0
returns-then-frames-size-ne0 c = two (λ a b. record { value = a; out_after = b }) (answered _ _ _ _ _ (stream_1 c.args.s (sym c.session_fits.ensures ∙ c.if-not-session_fits.false) c.numbers_of-n.result c.numbers_of-n.ensures c.frame_bytes-size.result c.frame_bytes-size.ensures.0 c.args.frames.now (length c.args.out.now) c.if-frames-size-ne0.true) refl refl)

pub write_stream-requires : goal.write_stream-requires
write_stream-requires c = (ap numbers_fit c.numbers_of-n.ensures ∙ numbers_fit_law c.args.s (sym c.session_fits.ensures ∙ c.if-not-session_fits.false), c.frame_bytes-size.ensures.0)

pub returns : goal.returns
returns c = two (λ a b. record { value = a; out_after = b }) (answered _ _ _ _ _ (stream_is c.args.s (sym c.session_fits.ensures ∙ c.if-not-session_fits.false) c.numbers_of-n.result c.numbers_of-n.ensures c.frame_bytes-size.result c.frame_bytes-size.ensures.0 c.args.frames.now (length c.args.out.now) c.if-frames-size-ne0.false) c.write_stream.ensures.value c.write_stream.ensures.out_after)
