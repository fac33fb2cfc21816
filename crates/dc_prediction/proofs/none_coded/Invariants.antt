-- `dc_prediction::none_coded` meets its contract. The loop's invariant: if so, none of the first is coded. Assumes nothing.
use Rattle.std.proofs.Common.{◌≡◌, true}
use Rattle.dc_prediction.specs.Planes.{NoneCoded}
use Rattle.dc_prediction.proofs.none_coded.Given as goal

abbrev pub invariant-loop-record : goal.invariant-loop-record
invariant-loop-record l = l.none ≡ true → NoneCoded l.records l.start l.record-index
