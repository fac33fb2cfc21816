-- `opening::lent_number` meets its contract. Assumes nothing.
use mathlib.Core.Path.{refl, sym, ◌∙◌}
use Rattle.opening.proofs.Tests.{lent_first, lent_then}
use Rattle.opening.proofs.lent_number.Goals as goal

pub returns-then-k-ne0 : goal.returns-then-k-ne0
returns-then-k-ne0 c = lent_first c.args.s c.args.names c.args.packets c.args.table c.args.room c.args.answers c.lent_number-k.ensures c.if-k-ne0.true

pub returns-then-names_fit : goal.returns-then-names_fit
returns-then-names_fit c = lent_then c.args.s c.args.names c.args.packets c.args.table c.args.room c.args.answers c.lent_number-k.ensures c.if-k-ne0.false c.answers_fit.ensures c.if-answers_fit.true (sym c.names_fit.ensures ∙ c.if-names_fit.true)

pub returns-then-answers_fit : goal.returns-then-answers_fit
returns-then-answers_fit c = lent_then c.args.s c.args.names c.args.packets c.args.table c.args.room c.args.answers c.lent_number-k.ensures c.if-k-ne0.false c.answers_fit.ensures c.if-answers_fit.true (sym c.names_fit.ensures ∙ c.if-names_fit.false)

pub returns : goal.returns
returns c = lent_then c.args.s c.args.names c.args.packets c.args.table c.args.room c.args.answers c.lent_number-k.ensures c.if-k-ne0.false c.answers_fit.ensures c.if-answers_fit.false refl
