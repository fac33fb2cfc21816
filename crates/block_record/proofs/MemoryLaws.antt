-- Packed numbers and the records that they are the numbers of, list by list. Assumes nothing.
use Prim.Native.Nat.{ℕ, zero, suc}
use native.Mathlib.Omega.{arith}
use mathlib.Core.Path.{◌≡◌, refl, sym, ap, ◌∙◌, subst}
use mathlib.Core.List.{List, [], ◌∷◌, map}
use lib.ListN.{get_or, set, replicate, get_or-map}
use Rattle.block_record.specs.declared.BlockRecord.{BlockRecord}
use Rattle.block_record.specs.Record.{InRange, uncoded}
use Rattle.block_record.specs.Packed.{packed, unpacked, prediction_at}
use Rattle.block_record.specs.Memory.{IsPacked, AllPacked, records_of}
use Rattle.block_record.proofs.Laws.{unpacked_packed, packed_uncoded}

unpacked_zero : unpacked 0 ≡ uncoded
unfolding unpacked prediction_at
unpacked_zero = refl

-- the number of a record in its range
pub is_packed : (r : BlockRecord) → InRange r → IsPacked (packed r)
is_packed r h = let e = unpacked_packed r h in record { in_range = subst InRange (sym e) h; same = ap packed e }

zero_packed : IsPacked 0
zero_packed = subst IsPacked packed_uncoded (is_packed uncoded (record { qi_index = omega arith; prediction = tt }))

pub packed_at : (l : List ℕ) (i : ℕ) → AllPacked l → IsPacked (get_or l i 0)
unfolding AllPacked
packed_at [] i a = zero_packed
packed_at (n ∷ ns) zero a = a.0
packed_at (n ∷ ns) (suc i) a = packed_at ns i a.1

pub packed_set : (l : List ℕ) (i n : ℕ) → AllPacked l → IsPacked n → AllPacked (set l i n)
unfolding AllPacked
packed_set [] i n a h = a
packed_set (m ∷ ms) zero n a h = (h, a.1)
packed_set (m ∷ ms) (suc i) n a h = (a.0, packed_set ms i n a.1 h)

-- nothing is lost
pub packed_records : (l : List ℕ) → AllPacked l → l ≡ map packed (records_of l)
unfolding AllPacked
packed_records [] a = refl
packed_records (n ∷ ns) a = let e = sym a.0.same in let f = packed_records ns a.1 in λ i. e i ∷ f i

-- records in their range, and back
abbrev pub AllInRange : List BlockRecord → Type 0
AllInRange [] = Unit {0}
AllInRange (r ∷ rs) = InRange r × AllInRange rs

pub in_range_at : (rs : List BlockRecord) (b : ℕ) → AllInRange rs → InRange (get_or rs b uncoded)
in_range_at [] b a = record { qi_index = omega arith; prediction = tt }
in_range_at (r ∷ rs) zero a = a.0
in_range_at (r ∷ rs) (suc b) a = in_range_at rs b a.1

pub in_range_set : (rs : List BlockRecord) (b : ℕ) (r : BlockRecord) → AllInRange rs → InRange r → AllInRange (set rs b r)
in_range_set [] b r a h = a
in_range_set (x ∷ rs) zero r a h = (h, a.1)
in_range_set (x ∷ rs) (suc b) r a h = (a.0, in_range_set rs b r a.1 h)

pub in_range_replicate : (n : ℕ) (r : BlockRecord) → InRange r → AllInRange (replicate n r)
in_range_replicate zero r h = tt
in_range_replicate (suc n) r h = (h, in_range_replicate n r h)

pub all_packed : (rs : List BlockRecord) → AllInRange rs → AllPacked (map packed rs)
unfolding AllPacked
all_packed [] a = tt
all_packed (r ∷ rs) a = (is_packed r a.0, all_packed rs a.1)

pub records_packed : (rs : List BlockRecord) → AllInRange rs → records_of (map packed rs) ≡ rs
records_packed [] a = refl
records_packed (r ∷ rs) a = let e = unpacked_packed r a.0 in let f = records_packed rs a.1 in λ i. e i ∷ f i

pub records_in_range : (l : List ℕ) → AllPacked l → AllInRange (records_of l)
unfolding AllPacked
records_in_range [] a = tt
records_in_range (n ∷ ns) a = (a.0.in_range, records_in_range ns a.1)

-- the record of a number, and one more record
pub record_at : (l : List ℕ) (i : ℕ) → get_or (records_of l) i uncoded ≡ unpacked (get_or l i 0)
record_at l i = ap (get_or (records_of l) i) (sym unpacked_zero) ∙ get_or-map unpacked l i 0

pub records_set : (l : List ℕ) (i n : ℕ) → records_of (set l i n) ≡ set (records_of l) i (unpacked n)
records_set [] i n = refl
records_set (m ∷ ms) zero n = refl
records_set (m ∷ ms) (suc i) n = ap (λ (rs : List BlockRecord). unpacked m ∷ rs) (records_set ms i n)
