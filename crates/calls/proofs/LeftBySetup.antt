-- A frame call is refused by 8 for its table memory exactly if no setup call, accepted, leaves that memory. Assumes nothing.
use Prim.Native.Nat.{ℕ}
use mathlib.Core.Path.{◌≡◌, refl, sym, ap, ◌∙◌}
use mathlib.Core.Bool.{Bool, true, false}
use mathlib.Core.List.{List}
use lib.Dec.{eqb}
use lib.ListN.{length, replicate, length-replicate}
use borrow.Author.Tests.{eq-eqb, eqb-true}
use Rattle.bitstream.specs.Reading.{Outcome, got, refused, choose, after}
use Rattle.bitstream.proofs.Fields.{no_mix}
use Rattle.table_memory.specs.Kept.{kept}
use Rattle.table_memory.specs.Genuine.{Bytes}
use Rattle.setup.specs.Header.{Setup, setup_header}
use Rattle.setup.specs.Table.{table_bytes, setup_outcome, table_after, is_table, held_setup}
use Rattle.setup.proofs.Laws.{exact, accepted_table, accepted_reads}
use Rattle.reading.specs.Answer.{read, read_by}
use Rattle.calls.specs.Call.{outcome_of}
use Rattle.calls.specs.LeftBySetup.{SetupLeaves, LeftBySetup, TablesJudged}

-- a setup call that is accepted
leaving : (packet old t : List ℕ) {s : Setup} {e : ℕ} → length old ≡ table_bytes → setup_header packet 0 ≡ got s e → t ≡ kept packet e table_bytes → SetupLeaves packet old s t
unfolding setup_outcome table_after
leaving packet old t {s} {e} l h k = record { place = e; accepted = rw (eq-eqb _ _ l) h; leaves = rw (eq-eqb _ _ l, h) (sym k) }

-- a memory that passes the test is left by a setup call that was lent zeros
left : (t : List ℕ) → Bytes t → is_table t ≡ true → LeftBySetup t
left t b h =
    let z = (exact t).0 (b, h) in
    (z.0, replicate table_bytes 0, z.1.0, leaving z.0 (replicate table_bytes 0) t (length-replicate {A = ℕ} table_bytes 0) z.1.2 z.1.3)

-- an accepted setup call was lent a memory of the published length
module _ (old packet : List ℕ) {s : Setup} {e : ℕ} (h : setup_outcome (length old) packet ≡ got s e) where
  both : (length old ≡ table_bytes) × (setup_header packet 0 ≡ got s e)
  unfolding setup_outcome
  both = go (eqb (length old) table_bytes) refl h
    where
      go : (b : Bool) → eqb (length old) table_bytes ≡ b → choose b (setup_header packet 0) (refused 1 0) ≡ got s e → (length old ≡ table_bytes) × (setup_header packet 0 ≡ got s e)
      go true t r = (eqb-true _ _ t, r)
      go false t r = no_mix (sym r)

  held : held_setup (table_after old packet) ≡ got s e
  unfolding held_setup
  held = rw (accepted_table old packet both.0 both.1) (accepted_reads old packet both.0 both.1)

pub tables_judged : TablesJudged
unfolding outcome_of read held_setup
tables_judged st c fits lengths bytes = record {
  none_left = λ none. rw (fits, lengths) (go none (is_table c.table) refl);
  some_left = λ packet old s l.
      rw (fits, lengths)
      (ap (λ (o : Outcome Setup). after o (λ setup _. read_by st.session setup c.packet)) (ap held_setup (sym l.leaves) ∙ held old packet l.accepted));
}
  where
    go : (LeftBySetup c.table → ⊥) → (b : Bool) → is_table c.table ≡ b
        → after (held_setup c.table) (λ setup _. read_by st.session setup c.packet) ≡ refused 8 0
    go none true t = absurd (none (left c.table bytes t))
    go none false t = rw t
