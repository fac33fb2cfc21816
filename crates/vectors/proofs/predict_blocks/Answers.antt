use Prim.Native.Nat.{ℕ, ◌+◌, ◌-◌}
use native.Mathlib.Omega.{arith}
use mathlib.Core.Path.{sym, ap, ap₂, ◌∙◌, subst}
use Rattle.block_record.specs.declared.Prediction.{Prediction}
use Rattle.block_record.specs.Record.{PredictionInRange}
use Rattle.block_record.specs.Memory.{records_of}
use Rattle.vectors.specs.Vectors.{predicted_at, predicted_from}
use Rattle.motion_reader.proofs.Motions.{prediction_small}
use Rattle.vectors.proofs.Records.{blocks_done, blocks_on}
use Rattle.vectors.proofs.predict_blocks.Goals as goal

pub predict_block-requires : goal.predict_block-requires
predict_block-requires c = (omega (arith, c.number_in-i.ensures.1, c.loop-k.invariant.0, c.requires.4), subst PredictionInRange (sym c.prediction_of-p.ensures) (prediction_small c.args.format c.args.m c.loop-k.k c.requires.5), c.loop-k.invariant.2)

pub loop-k-preserved : goal.loop-k-preserved
loop-k-preserved c = (c.predict_block.auto.records ∙ c.loop-k.invariant.0, omega (arith, c.loop-k-test.true), c.predict_block.ensures.1, c.loop-k.invariant.3 ∙ blocks_on c.args.format c.args.w c.args.h c.args.q c.args.m c.blocks_each-n.result c.loop-k.k (records_of c.loop-k.records) c.loop-k-test.true ∙ ap (predicted_from c.args.format c.args.w c.args.h c.args.q c.args.m (c.blocks_each-n.result - (c.loop-k.k + 1)) (c.loop-k.k + 1)) (sym (c.predict_block.ensures.0 ∙ ap₂ (λ (i : ℕ) (p : Prediction). predicted_at i p (records_of c.loop-k.records)) c.number_in-i.ensures.0 c.prediction_of-p.ensures)))

pub returns : goal.returns
returns c = (sym (ap (λ (j : ℕ). predicted_from c.args.format c.args.w c.args.h c.args.q c.args.m j 0 (records_of c.args.records.now)) (sym c.blocks_each-n.ensures) ∙ c.loop-k.invariant.3 ∙ blocks_done c.args.format c.args.w c.args.h c.args.q c.args.m c.blocks_each-n.result c.loop-k.k (records_of c.loop-k.records) c.loop-k-test.false), c.loop-k.invariant.2)
