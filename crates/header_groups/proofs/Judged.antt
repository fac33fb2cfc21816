-- What the answer of a judged field says, and of bytes that must stand there. Assumes nothing.
use Prim.Native.Nat.{ℕ, ◌+◌, ◌*◌, ◌<◌}
use native.Mathlib.Omega.{arith}
use native.Mathlib.Nat.{suc-mul}
use native.Mathlib.Numerals.{add-one}
use mathlib.Core.Path.{◌≡◌}
use mathlib.Core.List.{List, [], ◌∷◌}
use mathlib.Core.Bool.{true}
use lib.ListN.{length, drop, get_or}
use lib.Seq.{drop-cons}
use Rattle.bitstream.specs.Lists.{among}
use Rattle.bitstream.specs.Reading.{got, refused}
use Rattle.bitstream.proofs.Laws.{Lawful, pure_lawful, bind_lawful, judged_lawful}
use Rattle.bitstream.proofs.Inside.{Inside, pure_inside, bind_inside, judged_inside, Refuses, pure_refuses, bind_refuses, judged_refuses}
use Rattle.bitstream.proofs.Spends.{Spends, spends_more, pure_spends, bind_spends, judged_spends}
use Rattle.header_groups.specs.Judgement.{spelled, theora, common_header}
use Rattle.header_fields.specs.Tests.{is_exactly, exactly}

-- bytes that must stand there: the next one, and the end
module _ (bs : List ℕ) (j : ℕ) (p : List ℕ) (i : ℕ) where
  pub spelled_next : {v e : ℕ} → j < length bs → exactly 8 (get_or bs j 0) 2 p i ≡ got v e → spelled (drop j bs) p i ≡ spelled (drop (j + 1) bs) p e
  unfolding spelled
  spelled_next h f = rw (drop-cons bs j 0 h, f, add-one)

  pub spelled_refused : {k e : ℕ} → j < length bs → exactly 8 (get_or bs j 0) 2 p i ≡ refused k e → spelled (drop j bs) p i ≡ refused k e
  unfolding spelled
  spelled_refused h f = rw (drop-cons bs j 0 h, f)

pub spelled_lawful : (bs : List ℕ) → Lawful (spelled bs)
unfolding spelled
spelled_lawful [] = pure_lawful tt
spelled_lawful (b ∷ bs) = bind_lawful (judged_lawful 8 (is_exactly b) 2) (λ _. spelled_lawful bs)

pub common_header_lawful : (mark : ℕ) → Lawful (common_header mark)
unfolding common_header
common_header_lawful mark = spelled_lawful (mark ∷ theora)

pub spelled_inside : {d : ℕ} (bs : List ℕ) → Inside d (spelled bs)
unfolding spelled
spelled_inside [] = pure_inside tt
spelled_inside (b ∷ bs) = bind_inside (judged_inside 8 (is_exactly b) 2) (λ _. spelled_inside bs)

pub common_header_inside : {d : ℕ} (mark : ℕ) → Inside d (common_header mark)
unfolding common_header
common_header_inside mark = spelled_inside (mark ∷ theora)

module _ {ks : List ℕ} (two : among ks 2 ≡ true) (four : among ks 4 ≡ true) where
  pub spelled_refuses : (bs : List ℕ) → Refuses ks (spelled bs)
  unfolding spelled
  spelled_refuses [] = pure_refuses tt
  spelled_refuses (b ∷ bs) = bind_refuses (judged_refuses 8 (is_exactly b) 2 four two) (λ _. spelled_refuses bs)

  pub common_header_refuses : (mark : ℕ) → Refuses ks (common_header mark)
  unfolding common_header
  common_header_refuses mark = spelled_refuses (mark ∷ theora)

pub spelled_spends : (bs : List ℕ) → Spends (length bs * 8) (spelled bs)
unfolding spelled
spelled_spends [] = pure_spends tt
spelled_spends (b ∷ bs) = spends_more (rw suc-mul (omega arith)) (bind_spends (judged_spends 8 (is_exactly b) 2 (λ e. omega arith)) (λ _. spelled_spends bs))

pub common_header_spends : (mark : ℕ) → Spends 56 (common_header mark)
unfolding common_header
common_header_spends mark = spelled_spends (mark ∷ theora)
