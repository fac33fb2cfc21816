-- What a reader of a list answers and leaves, by the outcome. Assumes nothing.
use Prim.Native.Nat.{ℕ}
use mathlib.Core.Path.{◌≡◌, refl}
use mathlib.Core.List.{List}
use Rattle.bitstream.specs.Reading.{Outcome, got, refused}
use Rattle.bitstream.specs.Answer.{as_end}
use Rattle.bitstream.specs.declared.End.TheVariants.{At, Refused}
use Rattle.bitstream.proofs.Ends.{if_got, on_refused, on_got}
use Rattle.quantization.specs.Answer.{Filled}

-- a slice that a callee has filled
pub filled_is : (o : Outcome (List ℕ)) {l : List ℕ} {e : ℕ} (new : List ℕ) → Filled o new → o ≡ got l e → new ≡ l
filled_is o new f h = if_got (λ (l : List ℕ). new ≡ l) o f h

pub all_refused : (o : Outcome (List ℕ)) (new : List ℕ) {k e : ℕ} → o ≡ refused k e → (Refused k e ≡ as_end o) × Filled o new
all_refused o new h = on_refused (λ (l : List ℕ). new ≡ l) o h

pub all_got : (o : Outcome (List ℕ)) (new : List ℕ) {e : ℕ} → o ≡ got new e → (At e ≡ as_end o) × Filled o new
all_got o new h = on_got (λ (l : List ℕ). new ≡ l) o h refl
