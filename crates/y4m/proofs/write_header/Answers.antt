-- `y4m::write_header` meets its contract. Assumes nothing.
use Prim.Native.Nat.{ℕ}
use native.Mathlib.Omega.{arith}
use mathlib.Core.Path.{◌≡◌, refl, sym, ap, ◌∙◌}
use mathlib.Core.List.{List}
use lib.ListN.{length}
use Rattle.y4m.specs.Film.{numbers_fit}
use Rattle.y4m.proofs.Sessions.{numbers_fit_law}
use Rattle.output.specs.Output.{spliced}
use Rattle.output.proofs.Splices.{answered, written_nothing, written_whole}
use Rattle.y4m.specs.Stream.{header_text}
use Rattle.y4m.proofs.HeaderLaws.{line_room, line_taken}
use Rattle.y4m.proofs.Calls.{header_8, header_is}
use Rattle.bitstream.proofs.Clauses.{two}
use Rattle.y4m.proofs.write_header.Goals as goal

pub returns-then-not-session_fits : goal.returns-then-not-session_fits
returns-then-not-session_fits c = two (λ a b. record { value = a; out_after = b }) (answered _ _ _ _ _ (header_8 c.args.s (length c.args.out.now) (sym c.session_fits.ensures ∙ c.if-not-session_fits.true)) refl refl)

pub put_header-head-requires : goal.put_header-head-requires
put_header-head-requires c = (ap numbers_fit c.numbers_of-n.ensures ∙ numbers_fit_law c.args.s (sym c.session_fits.ensures ∙ c.if-not-session_fits.false), omega arith)

pub returns-then-out-head : goal.returns-then-out-head
returns-then-out-head c = let w = written_nothing (header_text c.numbers_of-n.result) c.args.out.now (omega (arith, c.put_header-head.ensures.value, c.if-out-head.true)) in two (λ a b. record { value = a; out_after = b }) (answered _ _ _ _ _ (header_is c.args.s (sym c.session_fits.ensures ∙ c.if-not-session_fits.false) c.numbers_of-n.result c.numbers_of-n.ensures (length c.args.out.now)) w.0 w.1)

pub slice_bounds-line-end : goal.slice_bounds-line-end
slice_bounds-line-end c = (line_room c.numbers_of-n.result c.args.out.now c.put_header-head.new.out c.put_header-head.result c.put_header-head.ensures.value _ c.put_header-head.ensures.out_after refl).0

pub slice_bounds-put-end : goal.slice_bounds-put-end
slice_bounds-put-end c = (line_room c.numbers_of-n.result c.args.out.now c.put_header-head.new.out c.put_header-head.result c.put_header-head.ensures.value _ c.put_header-head.ensures.out_after refl).1

pub returns : goal.returns
returns c = let e = line_taken c.numbers_of-n.result c.args.out.now c.put_header-head.new.out c.put_header-head.result c.put_header-head.ensures.value _ c.put_header-head.ensures.out_after in
    let k : c.put-end.result ≡ length (header_text c.numbers_of-n.result) = omega (arith, c.put-end.ensures.value, ap (λ (x : List ℕ). length x) e) in
    let w = written_whole (header_text c.numbers_of-n.result) c.args.out.now c.put-end.new.out c.put-end.result (omega (arith, c.put_header-head.ensures.value, c.if-out-head.false)) k
    (c.put-end.ensures.out_after ∙ ap (λ (x : List ℕ). spliced 0 x c.args.out.now) e) in two (λ a b. record { value = a; out_after = b }) (answered _ _ _ _ _ (header_is c.args.s (sym c.session_fits.ensures ∙ c.if-not-session_fits.false) c.numbers_of-n.result c.numbers_of-n.ensures (length c.args.out.now)) w.0 w.1)
