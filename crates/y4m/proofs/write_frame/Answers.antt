-- `y4m::write_frame` meets its contract. Assumes nothing.
use native.Mathlib.Omega.{arith}
use mathlib.Core.Path.{refl, sym, ap, ◌∙◌}
use lib.ListN.{length}
use Rattle.y4m.specs.Film.{numbers_fit}
use Rattle.y4m.proofs.Sessions.{numbers_fit_law}
use Rattle.output.proofs.Splices.{answered, written_nothing, written_whole}
use Rattle.y4m.specs.Stream.{frame_text}
use Rattle.y4m.proofs.FrameLaws.{text_length}
use Rattle.y4m.proofs.Calls.{frame_8, frame_1, frame_is}
use Rattle.bitstream.proofs.Clauses.{two}
use Rattle.y4m.proofs.write_frame.Goals as goal

pub returns-then-not-session_fits : goal.returns-then-not-session_fits
returns-then-not-session_fits c = two (λ a b. record { value = a; out_after = b }) (answered _ _ _ _ _ (frame_8 c.args.s c.args.planes.now (length c.args.out.now) (sym c.session_fits.ensures ∙ c.if-not-session_fits.true)) refl refl)

pub frame_bytes-size-requires : goal.frame_bytes-size-requires
frame_bytes-size-requires c = ap numbers_fit c.numbers_of-n.ensures ∙ numbers_fit_law c.args.s (sym c.session_fits.ensures ∙ c.if-not-session_fits.false)

pub returns-then-planes-size : goal.returns-then-planes-size
returns-then-planes-size c = two (λ a b. record { value = a; out_after = b }) (answered _ _ _ _ _ (frame_1 c.args.s (sym c.session_fits.ensures ∙ c.if-not-session_fits.false) c.numbers_of-n.result c.numbers_of-n.ensures c.frame_bytes-size.result c.frame_bytes-size.ensures.0 c.args.planes.now (length c.args.out.now) c.if-planes-size.true) refl refl)

pub returns-then-out-size : goal.returns-then-out-size
returns-then-out-size c = let t = text_length c.numbers_of-n.result c.args.planes.now (c.if-planes-size.false ∙ c.frame_bytes-size.ensures.0) in
    let w = written_nothing (frame_text c.numbers_of-n.result c.args.planes.now) c.args.out.now (omega (arith, t, c.if-out-size.true, c.frame_bytes-size.ensures.0)) in two (λ a b. record { value = a; out_after = b }) (answered _ _ _ _ _ (frame_is c.args.s (sym c.session_fits.ensures ∙ c.if-not-session_fits.false) c.numbers_of-n.result c.numbers_of-n.ensures c.frame_bytes-size.result c.frame_bytes-size.ensures.0 c.args.planes.now (length c.args.out.now) c.if-planes-size.false) w.0 w.1)

pub put_frame-end-requires : goal.put_frame-end-requires
put_frame-end-requires c = (ap numbers_fit c.numbers_of-n.ensures ∙ numbers_fit_law c.args.s (sym c.session_fits.ensures ∙ c.if-not-session_fits.false), c.if-planes-size.false ∙ c.frame_bytes-size.ensures.0, omega (arith, c.if-out-size.false, c.frame_bytes-size.ensures.0))

pub returns : goal.returns
returns c = let t = text_length c.numbers_of-n.result c.args.planes.now (c.if-planes-size.false ∙ c.frame_bytes-size.ensures.0) in
    let w = written_whole (frame_text c.numbers_of-n.result c.args.planes.now) c.args.out.now c.put_frame-end.new.out c.put_frame-end.result
    (omega (arith, t, c.if-out-size.false, c.frame_bytes-size.ensures.0)) (omega (arith, t, c.put_frame-end.ensures.value)) c.put_frame-end.ensures.out_after in two (λ a b. record { value = a; out_after = b }) (answered _ _ _ _ _ (frame_is c.args.s (sym c.session_fits.ensures ∙ c.if-not-session_fits.false) c.numbers_of-n.result c.numbers_of-n.ensures c.frame_bytes-size.result c.frame_bytes-size.ensures.0 c.args.planes.now (length c.args.out.now) c.if-planes-size.false) w.0 w.1)
