-- Reports that recordings are added to: no number falls, and the order does not matter. Assumes nothing.
use Prim.Native.Nat.{ℕ, ◌≤◌}
use native.Mathlib.Omega.{arith}
use mathlib.Core.Path.{◌≡◌, refl, sym, ap, ◌∙◌, subst}
use mathlib.Core.Bool.{Bool, true, false}
use mathlib.Core.List.{List}
use lib.Dec.{eqb}
use lib.ListN.{length, get_or}
use borrow.Author.Tests.{eq-eqb, eqb-true}
use Rattle.bitstream.specs.Reading.{choose}
use Rattle.report.specs.Report.{report_size, plus, fits}
use Rattle.report.specs.Running.{sum_number, report_after}
use Rattle.report.proofs.Sums.{plus_at, plus_long, plus_swap, past_stays}
use Rattle.census_packets.specs.Recording.{Lent, recording_adds}
use Rattle.census.specs.Call.{count_number, count_report}
use Rattle.census_claims.specs.Reports.{NothingFalls, both, EitherOrder}
use Rattle.census_claims.proofs.Recording.{adds_long}

pub nothing_falls : NothingFalls
unfolding count_report
nothing_falls l packets report i = go (eqb (length report) report_size) refl
  where
    sum : length report ≡ report_size → (b : Bool) → get_or report i 0 ≤ get_or (choose b (plus report (recording_adds l packets)) report) i 0
    sum h true = let e = plus_at report (recording_adds l packets) (h ∙ sym (adds_long l packets)) i in omega (arith, e)
    sum h false = omega arith

    go : (b : Bool) → eqb (length report) report_size ≡ b → get_or report i 0 ≤ get_or (choose b (report_after (plus report (recording_adds l packets)) report) report) i 0
    go true t = sum (eqb-true _ _ t) (fits (plus report (recording_adds l packets)))
    go false t = omega arith

-- a recording that is counted: the report has 34 numbers, the sums have 64 bits and are the report
module _ (l : Lent) (packets : List (List ℕ)) (report : List ℕ) where
  abbrev sums : List ℕ
  sums = plus report (recording_adds l packets)

  abbrev Counted : Type 0
  Counted = (length report ≡ 34) × (fits sums ≡ true)

  counted : count_number l packets report ≡ 0 → Counted
  unfolding count_number
  counted h = go (eqb (length report) report_size) refl h
    where
      fit : length report ≡ 34 → (b : Bool) → fits sums ≡ b → ◌≡◌ {A = ℕ} (choose b 0 15) 0 → Counted
      fit e true t r = (e, t)
      fit e false t r = absurd (omega arith)

      go : (b : Bool) → eqb (length report) report_size ≡ b → choose b (sum_number sums) 1 ≡ 0 → Counted
      go true t r = fit (eqb-true _ _ t) (fits sums) refl r
      go false t r = absurd (omega arith)

  counted_is : Counted → (count_number l packets report ≡ 0) × (count_report l packets report ≡ sums)
  unfolding count_number count_report
  counted_is h = rw (eq-eqb _ _ h.0, h.1) (refl, refl)

module _ (l : Lent) (first second : List (List ℕ)) (report : List ℕ) where
  abbrev a : List ℕ
  a = recording_adds l first

  abbrev b : List ℕ
  b = recording_adds l second

  -- what fits with more added fits
  fits_less : (x y : List ℕ) → length x ≡ length y → fits (plus x y) ≡ true → fits x ≡ true
  fits_less x y e h = go (fits x) refl
    where
      go : (t : Bool) → fits x ≡ t → fits x ≡ true
      go true q = q
      go false q = let z = sym (past_stays x y e q) ∙ h in let y : ◌≡◌ {A = ℕ} 0 1 = cc in absurd (omega arith)

  pub in_either_order : count_number l first report ≡ 0 → count_number l second (count_report l first report) ≡ 0
      → (count_number l second report ≡ 0) × (count_number l first (count_report l second report) ≡ 0) × (both l first second report ≡ both l second first report)
  in_either_order h k =
      let u = counted l first report h in
      let e = (counted_is l first report u).1 in
      let v = counted l second (plus report a) (subst (λ (r : List ℕ). count_number l second r ≡ 0) e k) in
      let la = adds_long l first in
      let lb = adds_long l second in
      let swap = plus_swap report a b in
      let lr : length (plus report b) ≡ 34 = plus_long report b (u.0 ∙ sym lb) ∙ u.0 in
      let f : fits (plus report b) ≡ true = fits_less (plus report b) a (lr ∙ sym la) (ap fits (sym swap) ∙ v.1) in
      let y = counted_is l second report (u.0, f) in
      let z = counted_is l first (plus report b) (lr, ap fits (sym swap) ∙ v.1) in
      (y.0, ap (count_number l first) y.1 ∙ z.0, ap (count_report l second) e ∙ (counted_is l second (plus report a) v).1 ∙ swap ∙ sym (ap (count_report l first) y.1 ∙ z.1))

pub either_order : EitherOrder
either_order l first second report h k = in_either_order l first second report h k
