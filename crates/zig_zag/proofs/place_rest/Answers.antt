-- `zig_zag::place_rest` meets its contract. Assumes nothing.
use mathlib.Core.Path.{refl, ◌∙◌}
use native.Mathlib.Omega.{arith}
use Rattle.zig_zag.specs.Values.{zig_zag}
use Rattle.zig_zag.proofs.Placed.{all_turned}
use Rattle.zig_zag.proofs.place_rest.Goals as goal

pub place_eight-requires : goal.place_eight-requires
unfolding zig_zag
place_eight-requires c = (c.requires.0, c.requires.1, c.requires.2, omega arith, ((omega arith, refl), (omega arith, refl), (omega arith, refl), (omega arith, refl)), ((omega arith, refl), (omega arith, refl), (omega arith, refl), (omega arith, refl)))

pub returns-then-n-le16 : goal.returns-then-n-le16
returns-then-n-le16 c dc q z e = all_turned c.args.coefs.now c.args.at dc q c.args.matrix.now _ 16 c.args.n (omega arith) (omega arith) z
    (c.place_eight.ensures dc q 16 refl e)

pub place_eight-requires-2 : goal.place_eight-requires-2
unfolding zig_zag
place_eight-requires-2 c = (c.requires.0, c.requires.1, c.place_eight.auto.out ∙ c.requires.2, omega arith, ((omega arith, refl), (omega arith, refl), (omega arith, refl), (omega arith, refl)), ((omega arith, refl), (omega arith, refl), (omega arith, refl), (omega arith, refl)))

pub returns-then-n-le24 : goal.returns-then-n-le24
returns-then-n-le24 c dc q z e = all_turned c.args.coefs.now c.args.at dc q c.args.matrix.now _ 24 c.args.n (omega arith) (omega arith) z
    (c.place_eight-2.ensures dc q 24 refl (c.place_eight.ensures dc q 16 refl e))

pub place_eight-requires-3 : goal.place_eight-requires-3
unfolding zig_zag
place_eight-requires-3 c = (c.requires.0, c.requires.1, c.place_eight-2.auto.out ∙ c.place_eight.auto.out ∙ c.requires.2, omega arith, ((omega arith, refl), (omega arith, refl), (omega arith, refl), (omega arith, refl)), ((omega arith, refl), (omega arith, refl), (omega arith, refl), (omega arith, refl)))

pub returns-then-n-le32 : goal.returns-then-n-le32
returns-then-n-le32 c dc q z e = all_turned c.args.coefs.now c.args.at dc q c.args.matrix.now _ 32 c.args.n (omega arith) (omega arith) z
    (c.place_eight-3.ensures dc q 32 refl (c.place_eight-2.ensures dc q 24 refl (c.place_eight.ensures dc q 16 refl e)))

pub place_eight-requires-4 : goal.place_eight-requires-4
unfolding zig_zag
place_eight-requires-4 c = (c.requires.0, c.requires.1, c.place_eight-3.auto.out ∙ c.place_eight-2.auto.out ∙ c.place_eight.auto.out ∙ c.requires.2, omega arith, ((omega arith, refl), (omega arith, refl), (omega arith, refl), (omega arith, refl)), ((omega arith, refl), (omega arith, refl), (omega arith, refl), (omega arith, refl)))

pub returns-then-n-le40 : goal.returns-then-n-le40
returns-then-n-le40 c dc q z e = all_turned c.args.coefs.now c.args.at dc q c.args.matrix.now _ 40 c.args.n (omega arith) (omega arith) z
    (c.place_eight-4.ensures dc q 40 refl (c.place_eight-3.ensures dc q 32 refl (c.place_eight-2.ensures dc q 24 refl (c.place_eight.ensures dc q 16 refl e))))

pub place_eight-requires-5 : goal.place_eight-requires-5
unfolding zig_zag
place_eight-requires-5 c = (c.requires.0, c.requires.1, c.place_eight-4.auto.out ∙ c.place_eight-3.auto.out ∙ c.place_eight-2.auto.out ∙ c.place_eight.auto.out ∙ c.requires.2, omega arith, ((omega arith, refl), (omega arith, refl), (omega arith, refl), (omega arith, refl)), ((omega arith, refl), (omega arith, refl), (omega arith, refl), (omega arith, refl)))

pub returns-then-n-le48 : goal.returns-then-n-le48
returns-then-n-le48 c dc q z e = all_turned c.args.coefs.now c.args.at dc q c.args.matrix.now _ 48 c.args.n (omega arith) (omega arith) z
    (c.place_eight-5.ensures dc q 48 refl (c.place_eight-4.ensures dc q 40 refl (c.place_eight-3.ensures dc q 32 refl (c.place_eight-2.ensures dc q 24 refl (c.place_eight.ensures dc q 16 refl e)))))

pub place_eight-requires-6 : goal.place_eight-requires-6
unfolding zig_zag
place_eight-requires-6 c = (c.requires.0, c.requires.1, c.place_eight-5.auto.out ∙ c.place_eight-4.auto.out ∙ c.place_eight-3.auto.out ∙ c.place_eight-2.auto.out ∙ c.place_eight.auto.out ∙ c.requires.2, omega arith, ((omega arith, refl), (omega arith, refl), (omega arith, refl), (omega arith, refl)), ((omega arith, refl), (omega arith, refl), (omega arith, refl), (omega arith, refl)))

pub returns-then-n-le56 : goal.returns-then-n-le56
returns-then-n-le56 c dc q z e = all_turned c.args.coefs.now c.args.at dc q c.args.matrix.now _ 56 c.args.n (omega arith) (omega arith) z
    (c.place_eight-6.ensures dc q 56 refl (c.place_eight-5.ensures dc q 48 refl (c.place_eight-4.ensures dc q 40 refl (c.place_eight-3.ensures dc q 32 refl (c.place_eight-2.ensures dc q 24 refl (c.place_eight.ensures dc q 16 refl e))))))

pub place_eight-requires-7 : goal.place_eight-requires-7
unfolding zig_zag
place_eight-requires-7 c = (c.requires.0, c.requires.1, c.place_eight-6.auto.out ∙ c.place_eight-5.auto.out ∙ c.place_eight-4.auto.out ∙ c.place_eight-3.auto.out ∙ c.place_eight-2.auto.out ∙ c.place_eight.auto.out ∙ c.requires.2, omega arith, ((omega arith, refl), (omega arith, refl), (omega arith, refl), (omega arith, refl)), ((omega arith, refl), (omega arith, refl), (omega arith, refl), (omega arith, refl)))

pub returns : goal.returns
returns c dc q z e = all_turned c.args.coefs.now c.args.at dc q c.args.matrix.now _ 64 64 (omega arith) (omega arith) (λ k l h. absurd (omega arith))
    (c.place_eight-7.ensures dc q 64 refl (c.place_eight-6.ensures dc q 56 refl (c.place_eight-5.ensures dc q 48 refl (c.place_eight-4.ensures dc q 40 refl (c.place_eight-3.ensures dc q 32 refl (c.place_eight-2.ensures dc q 24 refl (c.place_eight.ensures dc q 16 refl e)))))))
