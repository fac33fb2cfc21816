-- `settings::write` meets its contract. Assumes nothing.
use Prim.Native.Nat.{ℕ}
use native.Mathlib.Omega.{arith}
use mathlib.Core.Path.{◌≡◌, refl, sym, ap, ◌∙◌}
use mathlib.Core.Bool.{◌&&◌}
use mathlib.Core.List.{List}
use lib.ListN.{length}
use Rattle.output.specs.Output.{spliced}
use Rattle.output.proofs.Splices.{answered, written_nothing, written_whole}
use Rattle.text.proofs.Texts.{and_left, and_right}
use Rattle.settings.specs.Settings.{settings_fit, holds, text_of}
use Rattle.settings.proofs.Lines.{held_small, line_room, line_taken, text_20, text_is}
use Rattle.bitstream.proofs.Clauses.{two}
use Rattle.settings.proofs.write.Goals as goal

pub returns-then-not-fit-held : goal.returns-then-not-fit-held
returns-then-not-fit-held c = two (λ a b. record { value = a; out_after = b }) (answered _ _ _ _ _ (text_20 c.args.version c.args.s (length c.args.out.now) (sym (λ i. c.settings_fit-fit.ensures i && c.version_holds-held.ensures i) ∙ c.if-not-fit-held.true)) refl refl)

pub put_text-end-requires : goal.put_text-end-requires
put_text-end-requires c = let h = sym (λ i. c.settings_fit-fit.ensures i && c.version_holds-held.ensures i) ∙ c.if-not-fit-held.false in
    (held_small c.args.version c.args.s (and_right (settings_fit c.args.s) (holds c.args.version c.args.s) h), and_left (settings_fit c.args.s) (holds c.args.version c.args.s) h, omega arith)

pub returns-then-out-end : goal.returns-then-out-end
returns-then-out-end c = let w = written_nothing (text_of c.args.version c.args.s) c.args.out.now (omega (arith, c.put_text-end.ensures.value, c.if-out-end.true)) in two (λ a b. record { value = a; out_after = b }) (answered _ _ _ _ _ (text_is c.args.version c.args.s (length c.args.out.now) (sym (λ i. c.settings_fit-fit.ensures i && c.version_holds-held.ensures i) ∙ c.if-not-fit-held.false)) w.0 w.1)

pub slice_bounds-line-end : goal.slice_bounds-line-end
slice_bounds-line-end c = (line_room c.args.version c.args.s c.put_text-end.new.out _ c.put_text-end.result c.put_text-end.ensures.value c.put_text-end.ensures.out_after refl).0

pub slice_bounds-put-end : goal.slice_bounds-put-end
slice_bounds-put-end c = (line_room c.args.version c.args.s c.put_text-end.new.out _ c.put_text-end.result c.put_text-end.ensures.value c.put_text-end.ensures.out_after refl).1

pub returns : goal.returns
returns c = let e = line_taken c.args.version c.args.s c.put_text-end.new.out _ c.put_text-end.result c.put_text-end.ensures.value c.put_text-end.ensures.out_after in
    let k : c.put-written.result ≡ length (text_of c.args.version c.args.s) = omega (arith, c.put-written.ensures.value, ap (λ (x : List ℕ). length x) e) in
    let w = written_whole (text_of c.args.version c.args.s) c.args.out.now c.put-written.new.out c.put-written.result (omega (arith, c.put_text-end.ensures.value, c.if-out-end.false)) k
    (c.put-written.ensures.out_after ∙ ap (λ (x : List ℕ). spliced 0 x c.args.out.now) e) in two (λ a b. record { value = a; out_after = b }) (answered _ _ _ _ _ (text_is c.args.version c.args.s (length c.args.out.now) (sym (λ i. c.settings_fit-fit.ensures i && c.version_holds-held.ensures i) ∙ c.if-not-fit-held.false)) w.0 w.1)
