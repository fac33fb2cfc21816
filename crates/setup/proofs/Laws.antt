-- The setup header has the laws of the reading algebra; so table memory is exact. Assumes nothing.
use Prim.Native.Nat.{ℕ, ◌*◌}
use native.Mathlib.Omega.{arith}
use mathlib.Core.Path.{◌≡◌, refl, sym, ◌∙◌}
use mathlib.Core.List.{List, [], ◌∷◌}
use mathlib.Core.Bool.{Bool, true, false}
use lib.Dec.{eqb}
use lib.ListN.{length, replicate}
use borrow.Author.Tests.{eqb-true, eq-eqb}
use Rattle.bitstream.specs.Bits.{number}
use Rattle.bitstream.specs.Lists.{among}
use Rattle.bitstream.specs.Reading.{got, pure, bind, guard, field, judged, many}
use Rattle.bitstream.proofs.Fields.{no_mix, field_value}
use Rattle.bitstream.proofs.Laws.{Lawful, lawful, bind_got}
use Rattle.bitstream.proofs.Inside.{Inside, inside, Refuses, refuses}
use Rattle.bitstream.proofs.Spends.{Spends, spends_more, pure_spends, field_then, field_spends, bind_spends, many_spends}
use Rattle.headers.specs.Judgement.{exactly, spelled, theora, common_header}
use Rattle.headers.proofs.Judged.{common_header_lawful, common_header_inside, common_header_refuses, common_header_spends}
use Rattle.huffman.specs.Tree.{huffman_tree}
use Rattle.huffman.proofs.Trees.{huffman_lawful, huffman_inside, huffman_refuses, huffman_spends}
use Rattle.quantization.specs.Parameters.{quantization}
use Rattle.quantization.proofs.Laws.{quantization_lawful, quantization_inside, quantization_refuses, quantization_spends}
use Rattle.table_memory.specs.Genuine.{Bytes, Leaves}
use Rattle.table_memory.proofs.GenuineLaws.{genuine_iff, zeros_not, kept_read}
use Rattle.setup.specs.Header.{Setup, loop_limits, setup_header}
use Rattle.setup.specs.Table.{table_bytes, table_after, is_table, LeftBySome}

pub limits_lawful : Lawful loop_limits
unfolding loop_limits
limits_lawful = search lawful depth 10

pub setup_lawful : Lawful setup_header
unfolding setup_header
setup_lawful = search (lawful, common_header_lawful, limits_lawful, quantization_lawful, huffman_lawful) depth 14

-- what is refused lies in the packet, and is refused by 2, 4 or 7
limits_inside : {d : ℕ} → Inside d loop_limits
unfolding loop_limits
limits_inside = search inside depth 10

pub setup_inside : Inside 0 setup_header
unfolding setup_header
setup_inside = search (inside, common_header_inside, limits_inside, quantization_inside, huffman_inside) depth 14

limits_refuses : Refuses (2 ∷ 4 ∷ 7 ∷ []) loop_limits
unfolding loop_limits among
limits_refuses = search refuses depth 10

pub setup_refuses : Refuses (2 ∷ 4 ∷ 7 ∷ []) setup_header
unfolding setup_header among
setup_refuses = search (refuses, common_header_refuses, limits_refuses, quantization_refuses, huffman_refuses) depth 14

pub limits_spends : Spends 451 loop_limits
unfolding loop_limits
limits_spends = field_then 3 (λ w h. many_spends 64 {a = 7} (spends_more (omega arith) (field_spends w)))

-- no setup header needs more than 225,470 bits
pub setup_spends : Spends 225470 setup_header
unfolding setup_header
setup_spends =
    bind_spends (common_header_spends 0x82) (λ _. bind_spends limits_spends (λ l. bind_spends quantization_spends (λ q. bind_spends (many_spends 80 {a = 257} huffman_spends)
    (λ ts. pure_spends (record { limits = l; parameters = q; trees = ts })))))

-- and so 28,184 bytes are enough
pub table_spends : Spends (table_bytes * 8) setup_header
table_spends = spends_more (omega arith) setup_spends

-- ---- the exact number 8: a memory is what an accepted setup packet leaves if and only if it passes the test; the memory itself is such a packet
pub exact : (t : List ℕ) → ((Bytes t × (is_table t ≡ true)) → (p : List ℕ) × Leaves setup_header table_bytes p t) × (((p : List ℕ) × Leaves setup_header table_bytes p t) → Bytes t × (is_table t ≡ true))
exact = genuine_iff setup_header table_bytes setup_lawful table_spends

-- the test's answer for a memory of bytes
pub exactly_so : (t : List ℕ) → Bytes t → (r : Bool) → r ≡ is_table t → LeftBySome r t
exactly_so t b true e = (exact t).0 (b, sym e)
exactly_so t b false e = λ l. let h = ((exact t).1 l).1 in let z : ◌≡◌ {A = ℕ} 0 1 = cc in absurd (omega arith)

-- ---- zeros are no table memory: what a refused call leaves is never taken for an accepted one
exactly_value : (v k : ℕ) (p : List ℕ) (i : ℕ) {x e : ℕ} → exactly 8 v k p i ≡ got x e → number p i 8 ≡ v
unfolding judged
exactly_value v k p i {x} {e} h =
    let u = bind_got (field 8) (λ a. bind (guard (eqb a v) k i) (λ _. pure a)) p i h in
    sym (field_value 8 p i u.2).0 ∙ go u.0 u.1 (eqb u.0 v) refl u.3
  where
    go : (a d : ℕ) (t : Bool) → eqb a v ≡ t → bind (guard t k i) (λ _. pure a) p d ≡ got x e → a ≡ v
    go a d true t r = eqb-true _ _ t
    go a d false t r = no_mix (sym r)

first_byte : (p : List ℕ) (s : Setup) (e : ℕ) → setup_header p 0 ≡ got s e → number p 0 8 ≡ 0 → ⊥
unfolding setup_header common_header spelled
first_byte p s e h z =
    let u = bind_got (spelled (0x82 ∷ theora)) (λ _. bind loop_limits (λ l. bind quantization (λ q. bind (many 80 huffman_tree) (λ ts. pure (record { limits = l; parameters = q; trees = ts }))))) p 0 h in
    let w = bind_got (exactly 8 0x82 2) (λ _. spelled theora) p 0 u.2 in
    omega (arith, exactly_value 0x82 2 p 0 w.2)

pub zeros_no_table : is_table (replicate table_bytes 0) ≡ false
zeros_no_table = zeros_not setup_header table_bytes first_byte

-- ---- a call that is accepted leaves a table memory, which says what the packet said
module _ (old p : List ℕ) (h : length old ≡ table_bytes) {s : Setup} {e : ℕ} (f : setup_header p 0 ≡ got s e) where
  pub accepted_table : is_table (table_after old p) ≡ true
  unfolding table_after
  accepted_table = ((exact (table_after old p)).1 (p, (s, e, f, rw (eq-eqb _ _ h, f)))).1

  pub accepted_reads : setup_header (table_after old p) 0 ≡ got s e
  unfolding table_after
  accepted_reads = rw (eq-eqb _ _ h, f) (kept_read setup_header table_bytes setup_lawful table_spends p s e f)
