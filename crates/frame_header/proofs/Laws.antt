-- A frame header keeps the reading algebra's laws, and what it can say. Assumes nothing.
use Prim.Native.Nat.{ℕ, zero, suc, ◌+◌, ◌*◌, ◌≤◌}
use native.Mathlib.Omega.{arith}
use mathlib.Core.Path.{◌≡◌, refl, sym, ap, ◌∙◌, subst}
use mathlib.Core.List.{List, [], ◌∷◌, ◌++◌}
use mathlib.Core.Bool.{Bool, true, false}
use mathlib.Core.Logic.{◌⊎◌, inl, inr}
use lib.Dec.{eqb}
use lib.ListN.{length, length-append}
use Rattle.bitstream.specs.Lists.{among, AllBelow, one, none}
use Rattle.bitstream.specs.Reading.{got, bind, pure, pick, choose, guard, field, judged}
use Rattle.bitstream.proofs.Laws.{Lawful, pure_lawful, field_lawful, judged_lawful, pick_lawful, bind_lawful, bind_got}
use Rattle.bitstream.proofs.Inside.{Inside, pure_inside, field_inside, judged_inside, pick_inside, bind_inside, Refuses, pure_refuses, field_refuses, judged_refuses, pick_refuses, bind_refuses}
use Rattle.bitstream.proofs.Spends.{Spends, spends_more, pure_spends, field_spends, judged_spends, pick_spends, bind_spends}
use Rattle.bitstream.proofs.Fields.{no_mix, field_lt}
use Rattle.bitstream.proofs.ListLaws.{all_append}
use Rattle.frame_header.specs.declared.Kind.TheVariants.{Intra, Inter}
use Rattle.frame_type.specs.Judged.{is_zero, allowed, frame_type, reserved}
use Rattle.frame_header.specs.Header.{more_qis, qi_list, kind_of, FrameHeader, frame_header}

type_lawful : (references : Bool) → Lawful (frame_type references)
unfolding frame_type
type_lawful references = bind_lawful (judged_lawful 1 is_zero 10) (λ _. judged_lawful 1 (allowed references) 9)

more_lawful : (n : ℕ) (qis : List ℕ) → Lawful (more_qis n qis)
unfolding more_qis
more_lawful zero qis = pure_lawful qis
more_lawful (suc n) qis = bind_lawful (field_lawful 1) (λ b. pick_lawful (eqb b 0) (pure_lawful qis) (bind_lawful (field_lawful 6) (λ q. more_lawful n (qis ++ q ∷ []))))

list_lawful : Lawful qi_list
unfolding qi_list
list_lawful = bind_lawful (field_lawful 6) (λ q. more_lawful 2 (q ∷ []))

reserved_lawful : (t : ℕ) → Lawful (reserved t)
unfolding reserved
reserved_lawful t = pick_lawful (eqb t 0) (judged_lawful 3 is_zero 11) (pure_lawful 0)

pub header_lawful : (references : Bool) → Lawful (frame_header references)
unfolding frame_header
header_lawful references = bind_lawful (type_lawful references) (λ t. bind_lawful list_lawful (λ qis. bind_lawful (reserved_lawful t) (λ _. pure_lawful _)))

-- ---- what is refused lies in the packet
type_inside : {d : ℕ} (references : Bool) → Inside d (frame_type references)
unfolding frame_type
type_inside references = bind_inside (judged_inside 1 is_zero 10) (λ _. judged_inside 1 (allowed references) 9)

more_inside : {d : ℕ} (n : ℕ) (qis : List ℕ) → Inside d (more_qis n qis)
unfolding more_qis
more_inside zero qis = pure_inside qis
more_inside (suc n) qis = bind_inside (field_inside 1) (λ b. pick_inside (eqb b 0) (pure_inside qis) (bind_inside (field_inside 6) (λ q. more_inside n (qis ++ q ∷ []))))

list_inside : {d : ℕ} → Inside d qi_list
unfolding qi_list
list_inside = bind_inside (field_inside 6) (λ q. more_inside 2 (q ∷ []))

reserved_inside : {d : ℕ} (t : ℕ) → Inside d (reserved t)
unfolding reserved
reserved_inside t = pick_inside (eqb t 0) (judged_inside 3 is_zero 11) (pure_inside 0)

pub header_inside : {d : ℕ} (references : Bool) → Inside d (frame_header references)
unfolding frame_header
header_inside references = bind_inside (type_inside references) (λ t. bind_inside list_inside (λ qis. bind_inside (reserved_inside t) (λ _. pure_inside _)))

-- ---- and is refused by 4, 9, 10 or 11
module _ {ks : List ℕ} (four : among ks 4 ≡ true) where
  type_refuses : among ks 9 ≡ true → among ks 10 ≡ true → (references : Bool) → Refuses ks (frame_type references)
  unfolding frame_type
  type_refuses nine ten references = bind_refuses (judged_refuses 1 is_zero 10 four ten) (λ _. judged_refuses 1 (allowed references) 9 four nine)

  more_refuses : (n : ℕ) (qis : List ℕ) → Refuses ks (more_qis n qis)
  unfolding more_qis
  more_refuses zero qis = pure_refuses qis
  more_refuses (suc n) qis =
      bind_refuses (field_refuses 1 four) (λ b. pick_refuses (eqb b 0) (pure_refuses qis) (bind_refuses (field_refuses 6 four) (λ q. more_refuses n (qis ++ q ∷ []))))

  list_refuses : Refuses ks qi_list
  unfolding qi_list
  list_refuses = bind_refuses (field_refuses 6 four) (λ q. more_refuses 2 (q ∷ []))

  reserved_refuses : among ks 11 ≡ true → (t : ℕ) → Refuses ks (reserved t)
  unfolding reserved
  reserved_refuses eleven t = pick_refuses (eqb t 0) (judged_refuses 3 is_zero 11 four eleven) (pure_refuses 0)

  pub header_refuses : among ks 9 ≡ true → among ks 10 ≡ true → among ks 11 ≡ true → (references : Bool) → Refuses ks (frame_header references)
  unfolding frame_header
  header_refuses nine ten eleven references =
      bind_refuses (type_refuses nine ten references) (λ t. bind_refuses list_refuses (λ qis. bind_refuses (reserved_refuses eleven t) (λ _. pure_refuses _)))

-- ---- bits that are spent: 2, and 6 for a qi with 7 for each of two more, and 3
type_spends : (references : Bool) → Spends 2 (frame_type references)
unfolding frame_type
type_spends references = bind_spends {b = 1} (judged_spends 1 is_zero 10 (λ z. omega arith)) (λ _. judged_spends 1 (allowed references) 9 (λ z. omega arith))

more_spends : (n : ℕ) (qis : List ℕ) → Spends (7 * n) (more_qis n qis)
unfolding more_qis
more_spends zero qis = spends_more (omega arith) (pure_spends qis)
more_spends (suc n) qis =
    spends_more (omega arith) (bind_spends {b = 6 + 7 * n} (field_spends 1) (λ b. pick_spends (eqb b 0) (λ _. spends_more (omega arith) (pure_spends qis))
    (λ _. bind_spends {b = 7 * n} (field_spends 6) (λ q. more_spends n (qis ++ q ∷ [])))))

list_spends : Spends 20 qi_list
unfolding qi_list
list_spends = bind_spends {b = 14} (field_spends 6) (λ q. more_spends 2 (q ∷ []))

reserved_spends : (t : ℕ) → Spends 3 (reserved t)
unfolding reserved
reserved_spends t = pick_spends (eqb t 0) (λ _. judged_spends 3 is_zero 11 (λ z. omega arith)) (λ _. spends_more (omega arith) (pure_spends 0))

pub header_spends : (references : Bool) → Spends 25 (frame_header references)
unfolding frame_header
header_spends references = bind_spends {b = 23} (type_spends references) (λ t. bind_spends {b = 3} list_spends (λ qis. bind_spends {b = 0} (reserved_spends t) (λ _. pure_spends _)))

-- a judged value that was got passed its test
judged_test : (n : ℕ) (test : ℕ → Bool) (k : ℕ) (p : List ℕ) (i v e : ℕ) → judged n test k p i ≡ got v e → test v ≡ true
unfolding judged
judged_test n test k p i v e g =
    let u = bind_got (field n) (λ v. bind (guard (test v) k i) (λ _. pure v)) p i g in
    go (test u.0) u.0 u.1 refl u.3
  where
    go : (t : Bool) (x d : ℕ) → test x ≡ t → bind (guard t k i) (λ _. pure x) p d ≡ got v e → test v ≡ true
    go true x d s r = ap test (cc) ∙ s
    go false x d s r = no_mix (sym r)

-- ---- what a header can say: one to three qi, each below 64; a kind that is no repeat, and without references intra
pub record QisFit (qis : List ℕ) : Type 0 where
  pub some : 1 ≤ length qis
  pub most : length qis ≤ 3
  pub small : AllBelow 64 qis

more_fit : (n : ℕ) (qis : List ℕ) (p : List ℕ) (i : ℕ) (l : List ℕ) (e : ℕ) → 1 ≤ length qis → length qis + n ≤ 3 → AllBelow 64 qis → more_qis n qis p i ≡ got l e → QisFit l
unfolding more_qis
more_fit zero qis p i l e h m a g = subst QisFit (cc) (record { some = h; most = omega arith; small = a })
more_fit (suc n) qis p i l e h m a g =
    let u = bind_got (field 1) (λ b. pick (eqb b 0) (pure qis) (bind (field 6) (λ q. more_qis n (qis ++ q ∷ [])))) p i g in
    go (eqb u.0 0) u.1 u.3 (λ q j. more_fit n (qis ++ q ∷ []) p j l e (omega (arith, length-append qis (q ∷ []))) (omega (arith, length-append qis (q ∷ []))))
  where
    go : (t : Bool) (j : ℕ) → pick t (pure qis) (bind (field 6) (λ q. more_qis n (qis ++ q ∷ []))) p j ≡ got l e
        → ((q j : ℕ) → AllBelow 64 (qis ++ q ∷ []) → more_qis n (qis ++ q ∷ []) p j ≡ got l e → QisFit l) → QisFit l
    go true j g f = subst QisFit (cc) (record { some = h; most = omega arith; small = a })
    go false j g f =
        let u = bind_got (field 6) (λ q. more_qis n (qis ++ q ∷ [])) p j g in
        f u.0 u.1 (all_append a (one (field_lt 6 p j u.2) none)) u.3

pub list_fit : (p : List ℕ) (i : ℕ) (l : List ℕ) (e : ℕ) → qi_list p i ≡ got l e → QisFit l
unfolding qi_list
list_fit p i l e g =
    let u = bind_got (field 6) (λ q. more_qis 2 (q ∷ [])) p i g in
    more_fit 2 (u.0 ∷ []) p u.1 l e (omega arith) (omega arith) (one (field_lt 6 p i u.2) none) u.3

pub header_fits : (references : Bool) (p : List ℕ) (i : ℕ) (h : FrameHeader) (e : ℕ) → frame_header references p i ≡ got h e → QisFit h.qis
unfolding frame_header
header_fits references p i h e g =
    let u = bind_got (frame_type references) (λ t. bind qi_list (λ qis. bind (reserved t) (λ _. pure (record { kind = kind_of t; qis = qis })))) p i g in
    let v = bind_got qi_list (λ qis. bind (reserved u.0) (λ _. pure (record { kind = kind_of u.0; qis = qis }))) p u.1 u.3 in
    let w = bind_got (reserved u.0) (λ _. pure (record { kind = kind_of u.0; qis = v.0 })) p v.1 v.3 in
    let z : ◌≡◌ {A = FrameHeader} (record { kind = kind_of u.0; qis = v.0 }) h = cc in
    rw (ap (λ (x : FrameHeader). x.qis) z) at (list_fit p u.1 v.0 v.1 v.2)

-- a kind that was read is intra or inter, and inter only where there are references
pub header_kind : (references : Bool) (p : List ℕ) (i : ℕ) (h : FrameHeader) (e : ℕ) → frame_header references p i ≡ got h e → (h.kind ≡ Intra) ⊎ ((h.kind ≡ Inter) × (references ≡ true))
unfolding frame_header frame_type kind_of
header_kind references p i h e g =
    let u = bind_got (frame_type references) (λ t. bind qi_list (λ qis. bind (reserved t) (λ _. pure (record { kind = kind_of t; qis = qis })))) p i g in
    let v = bind_got qi_list (λ qis. bind (reserved u.0) (λ _. pure (record { kind = kind_of u.0; qis = qis }))) p u.1 u.3 in
    let w = bind_got (reserved u.0) (λ _. pure (record { kind = kind_of u.0; qis = v.0 })) p v.1 v.3 in
    let z : ◌≡◌ {A = FrameHeader} (record { kind = kind_of u.0; qis = v.0 }) h = cc in
    let y = bind_got (judged 1 is_zero 10) (λ _. judged 1 (allowed references) 9) p i u.2 in
    go (eqb u.0 0) (sym (ap (λ (x : FrameHeader). x.kind) z)) (judged_test 1 (allowed references) 9 p y.1 u.0 u.1 y.3)
  where
    go : (t : Bool) → h.kind ≡ choose t Intra Inter → choose t true references ≡ true → (h.kind ≡ Intra) ⊎ ((h.kind ≡ Inter) × (references ≡ true))
    go true k a = inl k
    go false k a = inr (k, a)
