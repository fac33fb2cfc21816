-- `making::make_frame` meets its contract.
-- Assumes nothing.
use mathlib.Core.Path.{◌≡◌, sym, ap, ◌∙◌}
use mathlib.Core.List.{List}
use Prim.Native.Nat.{ℕ, ◌*◌, ◌-◌}
use native.Mathlib.Omega.{arith}
use lib.IntN.{pos}
use lib.ListN.{length, take, drop, replicate, length-map, length-replicate}
use Rattle.buffer.proofs.Laws.{cleared, cleared_all, cleared_front}
use Rattle.geometry.specs.Sizes.{blocks_of}
use Rattle.block_record.specs.Packed.{unpacked}
use Rattle.reconstruct.specs.Lent.{blocks_in, matrix_in}
use Rattle.reconstruct.proofs.Whole.{unchanged}
use Rattle.making.proofs.make_frame.Goals as goal

-- a list of zeros, by its length
all-zero : {A : Type 0} (z : A) (n : ℕ) (l : List A) → l ≡ replicate n z → l ≡ replicate (length l) z
all-zero z n l e = e ∙ ap (λ (k : ℕ). replicate k z) (sym (ap length e ∙ length-replicate n z))

-- a list with nothing in front of its zeros
all-behind : {A : Type 0} (z : A) (n : ℕ) (l : List A) → n ≡ 0 → drop n l ≡ replicate (length l - n) z → l ≡ replicate (length l) z
all-behind {A} z n l e b = ap (λ (k : ℕ). cleared z k l) (sym e) ∙ cleared_front z n l (omega arith) b

pub returns-then-count-eq0 : goal.returns-then-count-eq0
returns-then-count-eq0 c = let e : c.args.count ≡ 0 = omega arith in
    let bs = blocks_in c.args.records.now c.args.coded.now c.args.count c.args.coefs.now c.args.lasts.now in record {
      after = c.copy.ensures
          ∙ sym (unchanged c.args.format c.args.w c.args.h bs (matrix_in c.args.matrices.now) c.args.limit c.args.golden.now c.args.previous.now c.requires.2.blocks (ap (λ (n : ℕ). take n c.args.coded.now) e) (length-map c.args.records.now unpacked ∙ c.requires.2.records_long) c.requires.8);
      records_after = (
        c.clear_words.ensures ∙ cleared_all 0 c.args.records.now,
        all-behind 0 c.args.count c.args.coded.now e c.requires.3.coded_behind,
        all-behind (pos 0) (c.args.count * 64) c.args.coefs.now (omega arith) c.requires.3.coefs_behind,
        all-zero (pos 0) (blocks_of c.args.format c.args.w c.args.h) c.args.dc.now c.requires.4,
        all-behind 0 c.args.count c.args.lasts.now e c.requires.3.lasts_behind,
      );
    }
