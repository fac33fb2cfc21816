-- `vectors::predict_block` meets its contract. Assumes nothing.
use Prim.Native.Nat.{ℕ}
use mathlib.Core.Path.{◌≡◌, sym, ◌∙◌, subst}
use lib.ListN.{set}
use Rattle.block_record.specs.Memory.{AllPacked, records_of}
use Rattle.vectors.specs.Vectors.{predicted_at}
use Rattle.vectors.proofs.Records.{predicted_is, predicted_all, predicted_not}
use Rattle.vectors.proofs.predict_block.Goals as goal

pub returns-then-is_coded : goal.returns-then-is_coded
returns-then-is_coded c = let t = sym c.is_coded.ensures ∙ c.if-is_coded.true in subst (λ (n : ℕ). (records_of (set c.args.records.now c.args.i n) ≡ predicted_at c.args.i c.args.p (records_of c.args.records.now)) × AllPacked (set c.args.records.now c.args.i n)) (sym c.with_prediction.ensures) (predicted_is c.args.records.now c.args.i c.args.p c.requires.2 c.requires.1 t, predicted_all c.args.records.now c.args.i c.args.p c.requires.2 c.requires.1)

pub returns : goal.returns
returns c = (predicted_not c.args.records.now c.args.i c.args.p c.requires.2 (sym c.is_coded.ensures ∙ c.if-is_coded.false), c.requires.2)
