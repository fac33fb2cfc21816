-- `session_steps::stays_counted` meets its contract. Assumes nothing.
use native.Mathlib.Omega.{arith}
use mathlib.Core.Path.{sym, ap, ◌∙◌}
use Rattle.frame_header.specs.declared.Kind.{Kind}
use Rattle.headers.proofs.Fitting.{fits_others}
use Rattle.session_steps.specs.Steps.{stays_counted}
use Rattle.session_steps.proofs.Counted.{others_few, keys_test}
use Rattle.session_steps.proofs.stays_counted.Goals as goal

pub overflow_add-s : goal.overflow_add-s
overflow_add-s c = omega (arith, others_few c.args.s c.requires)

pub within_shift-requires : goal.within_shift-requires
within_shift-requires c = (fits_others c.args.s c.requires).0

pub overflow_add-s-in-Repeat : goal.overflow_add-s-in-Repeat
overflow_add-s-in-Repeat c = omega (arith, others_few c.args.s c.requires)

pub within_shift-requires-in-Repeat : goal.within_shift-requires-in-Repeat
within_shift-requires-in-Repeat c = (fits_others c.args.s c.requires).0

pub returns-in-Intra : goal.returns-in-Intra
returns-in-Intra c = keys_test c.args.s ∙ sym (ap (λ (k : Kind). stays_counted k c.args.s) c.in-Intra.is)

pub returns-in-Inter : goal.returns-in-Inter
unfolding stays_counted
returns-in-Inter c = c.within_shift.ensures ∙ sym (ap (λ (k : Kind). stays_counted k c.args.s) c.in-Inter.is)

pub returns-in-Repeat : goal.returns-in-Repeat
unfolding stays_counted
returns-in-Repeat c = c.within_shift-in-Repeat.ensures ∙ sym (ap (λ (k : Kind). stays_counted k c.args.s) c.in-Repeat.is)
