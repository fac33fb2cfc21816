-- The fields of a set of quant ranges: where the set comes from, and the index and the size of a range.
use Rattle.std.specs.Prelude.{ℕ, zero, suc, ◌+◌, ◌-◌, ◌/◌, eqb, ltb, leb}
use Rattle.bitstream.specs.Reading.{Parse, pure, bind, pick, choose, field, judged}
use Rattle.bitstream.specs.Numbers.{bad_setup}

-- how many binary digits n has, of at most k
unfoldable pub digits : ℕ → ℕ → ℕ
digits zero n = 0
digits (suc k) n = choose (eqb n 0) 0 (1 + digits k (n / 2))

-- ilog of 002: how many binary digits n has
unfoldable pub ilog : ℕ → ℕ
ilog n = digits n n

-- "ALL matrix indices checked": one that is not below NBMS is 7 at its field
unfoldable pub index : ℕ → Parse ℕ
index n = judged (ilog (n - 1)) (λ v. ltb v n) bad_setup

-- the size less one of the range that begins at qi. "a qi sum above 63" is 7 at the size's field
unfoldable pub range_size : ℕ → Parse ℕ
range_size qi = judged (ilog (62 - qi)) (λ v. leb (qi + (v + 1)) 63) bad_setup

-- where set k = 3 * type + plane comes from: 0 if it is new (NEWQR), 1 if it is the one before it, and 3 if it is that of the same plane for the type before (RPQR)
unfoldable pub origin : ℕ → Parse ℕ
origin k =
    pick (eqb k 0) (pure 0) (bind (field 1) (λ newqr.
    pick (eqb newqr 1) (pure 0)
    (pick (ltb k 3) (pure 1) (bind (field 1) (λ rpqr. pure (choose (eqb rpqr 1) 3 1))))))
