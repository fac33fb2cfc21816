-- The header, step by step. Assumes nothing.
use Prim.Native.Nat.{ℕ, suc, ◌+◌, ◌-◌, ◌≤◌, ◌<◌}
use native.Mathlib.Omega.{arith}
use mathlib.Core.Path.{◌≡◌, refl, sym, ap, ◌∙◌}
use mathlib.Core.List.{List, [], ◌∷◌, ◌++◌, append_assoc}
use mathlib.Core.Bool.{Bool}
use lib.ListN.{length, set, replicate, length-append}
use lib.Seq.{set_at}
use borrow.Author.Tests.{eq-eqb, ne_eqb}
use Rattle.bitstream.specs.Reading.{Outcome, got, refused, field}
use Rattle.bitstream.specs.declared.End.TheVariants.{Refused, At}
use Rattle.frame_header.specs.declared.Kind.{Kind}
use Rattle.frame_header.specs.declared.Kind.TheVariants.{Intra, Inter}
use Rattle.frame_header.specs.declared.HeaderRead.{HeaderRead}
use Rattle.frame_header.specs.declared.QisRead.{QisRead}
use Rattle.frame_type.specs.Judged.{frame_type, reserved}
use Rattle.frame_header.specs.Header.{more_qis, qi_list, kind_of, FrameHeader, frame_header}
use Rattle.frame_header.specs.Answer.{three, as_qis, as_read}

-- ---- the list of qi: those so far, and n that may follow
module _ (p : List ℕ) (i n : ℕ) (qis : List ℕ) where
  pub more_full : n ≡ 0 → more_qis n qis p i ≡ got qis i
  unfolding more_qis
  more_full z = rw z

  pub more_end : 0 < n → {k e : ℕ} → field 1 p i ≡ refused k e → more_qis n qis p i ≡ refused k e
  unfolding more_qis
  more_end l f = let z : n ≡ suc (n - 1) = omega arith in rw (z, f)

  pub more_none : 0 < n → {b e : ℕ} → field 1 p i ≡ got b e → b ≡ 0 → more_qis n qis p i ≡ got qis e
  unfolding more_qis
  more_none l f h = let z : n ≡ suc (n - 1) = omega arith in rw (z, f, eq-eqb _ _ h)

  pub more_cut : 0 < n → {b e k d : ℕ} → field 1 p i ≡ got b e → (b ≡ 0 → ⊥) → field 6 p e ≡ refused k d → more_qis n qis p i ≡ refused k d
  unfolding more_qis
  more_cut l f h g = let z : n ≡ suc (n - 1) = omega arith in rw (z, f, ne_eqb _ _ h, g)

  more_suc : (m : ℕ) {b e q d : ℕ} → field 1 p i ≡ got b e → (b ≡ 0 → ⊥) → field 6 p e ≡ got q d → more_qis (suc m) qis p i ≡ more_qis m (qis ++ q ∷ []) p d
  unfolding more_qis
  more_suc m f h g = rw (f, ne_eqb _ _ h, g)

  pub more_on : 0 < n → {b e q d : ℕ} → field 1 p i ≡ got b e → (b ≡ 0 → ⊥) → field 6 p e ≡ got q d → more_qis n qis p i ≡ more_qis (n - 1) (qis ++ q ∷ []) p d
  more_on l f h g = let z : n ≡ suc (n - 1) = omega arith in ap (λ (m : ℕ). more_qis m qis p i) z ∙ more_suc (n - 1) f h g

-- the array of three, with one qi more
pub three_more : (qis : List ℕ) (count q : ℕ) → length qis ≡ count → count < 3 → set (three qis) count q ≡ three (qis ++ q ∷ [])
three_more qis count q e l =
    let z : 3 - length qis ≡ suc (3 - (count + 1)) = omega arith in
    let d : 3 - length (qis ++ q ∷ []) ≡ 3 - (count + 1) = omega (arith, length-append qis (q ∷ [])) in
    rw (z, d) (set_at qis 0 _ q count e ∙ sym (append_assoc qis (q ∷ []) (replicate (3 - (count + 1)) 0)))

-- what the loop keeps
pub record Listed (p : List ℕ) (at first : ℕ) (array : List ℕ) (count place : ℕ) : Type 0 where
  pub qis : List ℕ
  pub so_many : length qis ≡ count
  pub some : 1 ≤ count
  pub most : count ≤ 3
  pub stored : array ≡ three qis
  pub goes : more_qis 2 (first ∷ []) p at ≡ more_qis (3 - count) qis p place

pub listed_start : (p : List ℕ) (at first : ℕ) → Listed p at first (first ∷ 0 ∷ 0 ∷ []) 1 at
listed_start p at first = record { qis = first ∷ []; so_many = refl; some = omega arith; most = omega arith; stored = refl; goes = refl }

module _ (p : List ℕ) (at first : ℕ) (array : List ℕ) (count place : ℕ) (l : Listed p at first array count place) where
  abbrev answer : ℕ → QisRead
  answer e = record { done = At e; qis = array; count = count }

  answers : {e : ℕ} → more_qis 2 (first ∷ []) p at ≡ got l.qis e → answer e ≡ as_qis (more_qis 2 (first ∷ []) p at)
  answers {e} h = rw h (λ i. record { done = At e; qis = l.stored i; count = sym l.so_many i })

  pub listed_done : 3 ≤ count → answer place ≡ as_qis (more_qis 2 (first ∷ []) p at)
  listed_done h = answers (l.goes ∙ more_full p place (3 - count) l.qis (omega (arith, l.most)))

  module _ (h : count < 3) where
    pub listed_end : {k e : ℕ} → field 1 p place ≡ refused k e → more_qis 2 (first ∷ []) p at ≡ refused k e
    listed_end f = l.goes ∙ more_end p place (3 - count) l.qis (omega arith) f

    pub listed_none : {b e : ℕ} → field 1 p place ≡ got b e → b ≡ 0 → answer e ≡ as_qis (more_qis 2 (first ∷ []) p at)
    listed_none f z = answers (l.goes ∙ more_none p place (3 - count) l.qis (omega arith) f z)

    pub listed_cut : {b e k d : ℕ} → field 1 p place ≡ got b e → (b ≡ 0 → ⊥) → field 6 p e ≡ refused k d → more_qis 2 (first ∷ []) p at ≡ refused k d
    listed_cut f z g = l.goes ∙ more_cut p place (3 - count) l.qis (omega arith) f z g

    pub listed_on : {b e q d : ℕ} → field 1 p place ≡ got b e → (b ≡ 0 → ⊥) → field 6 p e ≡ got q d → Listed p at first (set array count q) (count + 1) d
    listed_on {b} {e} {q} {d} f z g =
        let n : 3 - count - 1 ≡ 3 - (count + 1) = omega arith in
        record {
          qis = l.qis ++ q ∷ [];
          so_many = omega (arith, length-append l.qis (q ∷ []), l.so_many);
          some = omega arith;
          most = omega arith;
          stored = ap (λ (a : List ℕ). set a count q) l.stored ∙ three_more l.qis count q l.so_many h;
          goes = l.goes ∙ more_on p place (3 - count) l.qis (omega arith) f z g ∙ ap (λ (m : ℕ). more_qis m (l.qis ++ q ∷ []) p d) n;
        }

-- the whole list: its first qi
module _ (p : List ℕ) (i : ℕ) where
  pub list_end : {k e : ℕ} → field 6 p i ≡ refused k e → qi_list p i ≡ refused k e
  unfolding qi_list
  list_end f = rw f

  pub list_got : {q e : ℕ} → field 6 p i ≡ got q e → qi_list p i ≡ more_qis 2 (q ∷ []) p e
  unfolding qi_list
  list_got f = rw f

-- ---- the kind
pub kind_intra : (t : ℕ) → t ≡ 0 → Intra ≡ kind_of t
unfolding kind_of
kind_intra t h = rw (eq-eqb t 0 h)

pub kind_inter : (t : ℕ) → (t ≡ 0 → ⊥) → Inter ≡ kind_of t
unfolding kind_of
kind_inter t h = rw (ne_eqb t 0 h)

-- ---- the header
module _ (references : Bool) (p : List ℕ) (i : ℕ) where
  pub header_type : {k e : ℕ} → frame_type references p i ≡ refused k e → frame_header references p i ≡ refused k e
  unfolding frame_header
  header_type f = rw f

  module _ {t e : ℕ} (f : frame_type references p i ≡ got t e) where
    pub header_qis : {k d : ℕ} → qi_list p e ≡ refused k d → frame_header references p i ≡ refused k d
    unfolding frame_header
    header_qis g = rw (f, g)

    module _ {qis : List ℕ} {d : ℕ} (g : qi_list p e ≡ got qis d) where
      pub header_reserved : {k c : ℕ} → reserved t p d ≡ refused k c → frame_header references p i ≡ refused k c
      unfolding frame_header
      header_reserved h = rw (f, g, h)

      pub header_got : {v c : ℕ} → reserved t p d ≡ got v c → frame_header references p i ≡ got (record { kind = kind_of t; qis = qis }) c
      unfolding frame_header
      header_got h = rw (f, g, h)

-- what the answer of `read_qis` says of the outcome o, by its arm
pub qis_refused : (o : Outcome (List ℕ)) {r : QisRead} {k e : ℕ} → r ≡ as_qis o → r.done ≡ Refused k e → o ≡ refused k e
qis_refused (got l d) s g = let z : ◌≡◌ {A = ℕ} 0 1 = cc in absurd (omega arith)
qis_refused (refused j d) s g = let t = ap (λ (x : QisRead). x.done) s in cc

pub qis_got : (o : Outcome (List ℕ)) {r : QisRead} {e : ℕ} → r ≡ as_qis o → r.done ≡ At e → (qis : List ℕ) × (o ≡ got qis e) × (r.qis ≡ three qis) × (r.count ≡ length qis)
qis_got (got l d) {r} {e} s g = let t : At d ≡ At e = sym (ap (λ (x : QisRead). x.done) s) ∙ g in (l, cc, ap (λ (x : QisRead). x.qis) s, ap (λ (x : QisRead). x.count) s)
qis_got (refused j d) s g = let z : ◌≡◌ {A = ℕ} 0 1 = cc in absurd (omega arith)

-- the answer for a header that was got
pub header_answer : (o : Outcome FrameHeader) {k : Kind} {qis : List ℕ} {e : ℕ} {k' : Kind} {array : List ℕ} {n : ℕ} → o ≡ got (record { kind = k; qis = qis }) e → k' ≡ k → array ≡ three qis
    → n ≡ length qis → ◌≡◌ {A = HeaderRead} (record { done = At e; header = record { kind = k'; qis = array; count = n } }) (as_read o)
header_answer o {k} {qis} {e} h a b d = rw h (λ i. record { done = At e; header = record { kind = a i; qis = b i; count = d i } })
