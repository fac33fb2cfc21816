-- What the calls answer and leave. Assumes nothing.
use Prim.Native.Nat.{ℕ, ◌≤◌}
use native.Mathlib.Omega.{arith}
use mathlib.Core.Path.{◌≡◌, refl, sym, ap, ◌∙◌}
use mathlib.Core.List.{List}
use mathlib.Core.Bool.{Bool, true, false}
use lib.ListN.{length, replicate}
use borrow.Author.Tests.{eq-eqb, ne_eqb}
use Rattle.bitstream.specs.Bits.{bits}
use Rattle.bitstream.specs.Reading.{Outcome, got, refused}
use Rattle.bitstream.specs.Answer.{readable, as_end}
use Rattle.bitstream.proofs.Spends.{readable_same}
use Rattle.bitstream.proofs.Fields.{no_mix}
use Rattle.setup_trees.specs.Answer.{told}
use Rattle.bitstream.specs.declared.End.{End}
use Rattle.bitstream.specs.declared.End.TheVariants as end
use Rattle.bitstream.proofs.Ends.{end_refused, end_at}
use Rattle.table_memory.specs.Kept.{kept, clear_from}
use Rattle.table_memory.specs.Genuine.{Bytes, genuine}
use Rattle.setup.specs.Header.{Setup, setup_header}
use Rattle.setup.specs.Loaded.{Loaded, as_setup_read}
use Rattle.setup.specs.declared.LoadedSetup.{LoadedSetup}
use Rattle.setup.specs.declared.SetupRead.{SetupRead}
use Rattle.setup.specs.Table.{table_bytes, setup_outcome, as_setup_answer, table_after, is_table, LeftBySome, held_setup}
use Rattle.setup.specs.declared.SetupAnswer.TheVariants.{Accepted, Refused}
use Rattle.setup.proofs.Laws.{setup_lawful, setup_spends, exactly_so}

-- ---- a packet of any length is read as its readable part
module _ (p : List ℕ) {r : End} (a : r ≡ as_end (setup_header (readable p) 0)) where
  same : setup_header (readable p) 0 ≡ setup_header p 0
  same = readable_same setup_lawful setup_spends (omega arith) p

  pub whole_read : {e : ℕ} → r ≡ end.At e → (s : Setup) × (setup_header p 0 ≡ got s e)
  whole_read q = let g = end_at (setup_header (readable p) 0) a q in (g.0, sym same ∙ g.1)

  pub whole_refused : {k e : ℕ} → r ≡ end.Refused k e → setup_header p 0 ≡ refused k e
  whole_refused q = sym same ∙ end_refused (setup_header (readable p) 0) a q

pub header_end : (p : List ℕ) {s : Setup} {e : ℕ} → setup_header p 0 ≡ got s e → e ≤ bits p
header_end p h = (setup_lawful.moves p 0 _ _ (omega arith) h).1

-- ---- the setup call, by the length of what is lent and by the packet
module _ (old p : List ℕ) where
  pub call_length : (length old ≡ table_bytes → ⊥) → (Refused 1 0 ≡ as_setup_answer (setup_outcome (length old) p)) × (old ≡ table_after old p)
  unfolding setup_outcome table_after
  call_length h = rw (ne_eqb _ _ h) (refl, refl)

  pub call_refused : length old ≡ table_bytes → {k e : ℕ} (new : List ℕ) → setup_header p 0 ≡ refused k e → new ≡ replicate (length old) 0
      → (Refused k e ≡ as_setup_answer (setup_outcome (length old) p)) × (new ≡ table_after old p)
  unfolding setup_outcome table_after
  call_refused h new f s = rw (eq-eqb _ _ h, f) (refl, s ∙ ap (λ (n : ℕ). replicate n 0) h)

  pub call_accepted : length old ≡ table_bytes → {a : Setup} {e : ℕ} (new : List ℕ) → setup_header p 0 ≡ got a e → new ≡ kept p e (length old)
      → (Accepted ≡ as_setup_answer (setup_outcome (length old) p)) × (new ≡ table_after old p)
  unfolding setup_outcome table_after
  call_accepted h {a} {e} new f s = rw (eq-eqb _ _ h, f) (refl, s ∙ ap (kept p e) h)

-- ---- the test of a memory
module _ (t : List ℕ) where
  pub not_length : (length t ≡ table_bytes → ⊥) → false ≡ is_table t
  unfolding genuine
  not_length h = rw (ne_eqb _ _ h)

  pub not_read : length t ≡ table_bytes → {k e : ℕ} → setup_header t 0 ≡ refused k e → false ≡ is_table t
  unfolding genuine
  not_read h f = rw (eq-eqb _ _ h, f)

  pub is_read : length t ≡ table_bytes → {s : Setup} {e : ℕ} → setup_header t 0 ≡ got s e → clear_from t e ≡ is_table t
  unfolding genuine
  is_read h f = rw (eq-eqb _ _ h, f)

  -- ---- and what it holds
  pub held_not : false ≡ is_table t → {r : SetupRead} → r ≡ as_setup_read (refused 8 0) → r ≡ as_setup_read (held_setup t)
  unfolding held_setup
  held_not h a = rw (sym h) a

  pub held_is : true ≡ is_table t → {r : SetupRead} → r ≡ as_setup_read (setup_header t 0) → r ≡ as_setup_read (held_setup t)
  unfolding held_setup
  held_is h a = rw (sym h) a

-- a setup that was filled in place, and where its header ends
pub filled_read : (o : Outcome Setup) {s : Setup} {d : ℕ} → o ≡ got s d → {e : End} (l : LoadedSetup) → e ≡ as_end (told false o) → Loaded o l
    → record { place = e; setup = l } ≡ as_setup_read o
filled_read (got x c) h l a b = λ i. record { place = a i; setup = b i }
filled_read (refused k c) h l a b = no_mix (sym h)

-- the test's answer, and what it says of packets
pub both : (t : List ℕ) → Bytes t → (r : Bool) → r ≡ is_table t → (r ≡ is_table t) × LeftBySome r t
both t b r h = (h, exactly_so t b r h)
