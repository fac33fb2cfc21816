-- `stream_check::compare` meets its contract. Assumes nothing.
use Prim.Native.Nat.{ℕ, ◌+◌, ◌-◌, ◌≤◌}
use native.Mathlib.Omega.{arith}
use mathlib.Core.Path.{◌≡◌, sym, ap, ◌∙◌, subst}
use lib.Dec.{ltb}
use lib.ListN.{length, take, drop, length-take, length-drop}
use lib.Seq.{take_all}
use Rattle.stream_check.specs.declared.Compared.{Compared}
use Rattle.stream_check.specs.Compared.{difference, onward}
use Rattle.stream_check.proofs.Differences.{within_file}
use Rattle.stream_check.proofs.Onward.{onward_found, onward_on, onward_inside}
use Rattle.stream_check.proofs.compare.Goals as goal

pub returns-then-c : goal.returns-then-c
returns-then-c c = (sym (onward_found c.args.c c.args.want.now c.args.file.now c.if-c.true), c.requires)

pub overflow_add-next : goal.overflow_add-next
overflow_add-next c = record { fits = omega (arith, c.difference-n.ensures, within_file c.args.want.now (take (length c.args.file.now - c.args.c.place) (drop c.args.c.place c.args.file.now)), length-take (length c.args.file.now - c.args.c.place) (drop c.args.c.place c.args.file.now), length-drop c.args.c.place c.args.file.now, c.well_formed, c.requires) }

pub returns : goal.returns
returns c = let z : take (length c.args.file.now - c.args.c.place) (drop c.args.c.place c.args.file.now) ≡ drop c.args.c.place c.args.file.now =
    take_all (length c.args.file.now - c.args.c.place) (drop c.args.c.place c.args.file.now) (omega (arith, length-drop c.args.c.place c.args.file.now)) in
    let d = c.difference-n.ensures ∙ ap (difference c.args.want.now) z in
    let e : record { place = c.args.c.place + c.difference-n.result; differs = ltb c.difference-n.result (length c.args.want.now) } ≡ onward c.args.c c.args.want.now c.args.file.now =
    ap (λ (n : ℕ). record { place = c.args.c.place + n; differs = ltb n (length c.args.want.now) }) d ∙ sym (onward_on c.args.c c.args.want.now c.args.file.now c.if-c.false) in
    (e, subst (λ (r : Compared). r.place ≤ length c.args.file.now) (sym e) (onward_inside c.args.c c.args.want.now c.args.file.now c.requires))
