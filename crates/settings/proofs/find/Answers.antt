-- `settings::find` meets its contract. Assumes nothing.
use Rattle.settings.proofs.Lines.{read_19, read_by_1, read_old, read_new, read_third}
use Rattle.settings.proofs.find.Goals as goal

pub returns-then-stands_at : goal.returns-then-stands_at
returns-then-stands_at c = read_19 c.args.version c.args.text.now c.if-version-eq1.true _ c.stands_at.ensures c.if-stands_at.true

pub returns-then-version-eq1 : goal.returns-then-version-eq1
returns-then-version-eq1 c = read_by_1 c.args.version c.args.text.now c.if-version-eq1.true _ c.stands_at.ensures c.if-stands_at.false _ c.find_text.ensures

pub returns-in_default : goal.returns-in_default
returns-in_default c = read_old c.args.version c.args.text.now c.if-version-eq1.false c.if-version-eq2.true _ c.find_text-first.ensures _ c.in_default.is

pub returns-then-version-eq2 : goal.returns-then-version-eq2
returns-then-version-eq2 c = read_new c.args.version c.args.text.now c.if-version-eq1.false c.if-version-eq2.true _ _ c.find_text-first.ensures c.in-Not.is _ c.find_text-then-version-eq2.ensures

pub returns : goal.returns
returns c = read_third c.args.version c.args.text.now c.if-version-eq1.false c.if-version-eq2.false
