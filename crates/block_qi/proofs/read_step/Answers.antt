-- `block_qi::read_step` meets its contract. Assumes nothing.
use Prim.Native.Nat.{ℕ}
use native.Mathlib.Omega.{arith}
use mathlib.Core.Path.{◌≡◌, sym, ap, ◌∙◌, subst}
use mathlib.Core.List.{List, ◌++◌}
use lib.ListN.{length, take, drop}
use lib.Seq.{take_at, length-take-le}
use Rattle.bitstream.specs.Reading.{got}
use Rattle.runs.specs.Runs.{bit_string}
use Rattle.bitstream.specs.Lists.{AllBelow}
use Rattle.runs.specs.declared.RunCode.TheVariants.{Long}
use Rattle.runs.proofs.Strings.{string_bits}
use Rattle.bitstream.proofs.Ends.{stored_at, end_refused}
use Rattle.block_record.specs.Memory.{records_of}
use Rattle.block_qi.specs.BlockQi.{at_step, raised, one_step}
use Rattle.block_qi.proofs.Steps.{step_refused, step_got, on_refused, on_records}
use Rattle.bitstream.proofs.Clauses.{two}
use Rattle.block_qi.proofs.read_step.Goals as goal

pub raise_blocks-requires : goal.raise_blocks-requires
raise_blocks-requires c =
    let wanted : ℕ =
    at_step c.args.q c.args.coded.now (records_of c.args.records.now) in
    let count : c.count_at-n.result ≡ wanted =
    c.count_at-n.ensures.0 in
    let long : length (take c.count_at-n.result c.args.bits.now) ≡ c.count_at-n.result =
    length-take-le c.count_at-n.result c.args.bits.now (omega (arith, c.count_at-n.ensures.1, c.requires.4)) in
    let string : List ℕ =
    c.read_string-string.new.out in
    let behind : List ℕ =
    drop c.count_at-n.result c.args.bits.now in
    let string-long : length string ≡ c.count_at-n.result =
    c.read_string-string.auto.out ∙ long in
    let front : take c.count_at-n.result (string ++ behind) ≡ string =
    take_at string behind c.count_at-n.result string-long in
    let string-got : bit_string Long (wanted) c.args.packet.now c.args.at ≡ got string c.in-At.place =
    ap (λ (k : ℕ). bit_string Long k c.args.packet.now c.args.at) (sym (long ∙ count))
    ∙ stored_at (bit_string Long (length (take c.count_at-n.result c.args.bits.now)) c.args.packet.now c.args.at) string c.read_string-string.ensures.value c.read_string-string.ensures.stored c.in-At.is in (
      c.requires.1,
      c.requires.2,
      c.requires.3,
      subst (AllBelow 2) (sym (front))
          (string_bits Long (wanted) c.args.packet.now c.args.at (string-got)),
      c.requires.5,
      ap length (front) ∙ string-long ∙ count,
    )

pub returns-in-Refused : goal.returns-in-Refused
returns-in-Refused c =
    let wanted : ℕ =
    at_step c.args.q c.args.coded.now (records_of c.args.records.now) in
    let count : c.count_at-n.result ≡ wanted =
    c.count_at-n.ensures.0 in
    let long : length (take c.count_at-n.result c.args.bits.now) ≡ c.count_at-n.result =
    length-take-le c.count_at-n.result c.args.bits.now (omega (arith, c.count_at-n.ensures.1, c.requires.4)) in two (λ a b. record { value = a; kept_records = b }) (on_refused c.args.records.now (one_step c.args.q c.args.coded.now (records_of c.args.records.now) c.args.packet.now c.args.at)
    (step_refused c.args.q c.args.coded.now (records_of c.args.records.now) c.args.packet.now c.args.at (ap (λ (k : ℕ). bit_string Long k c.args.packet.now c.args.at) (sym (long ∙ count)) ∙ end_refused (bit_string Long (length (take c.count_at-n.result c.args.bits.now)) c.args.packet.now c.args.at) c.read_string-string.ensures.value c.in-Refused.is)))

pub returns-in-At : goal.returns-in-At
returns-in-At c =
    let wanted : ℕ =
    at_step c.args.q c.args.coded.now (records_of c.args.records.now) in
    let count : c.count_at-n.result ≡ wanted =
    c.count_at-n.ensures.0 in
    let long : length (take c.count_at-n.result c.args.bits.now) ≡ c.count_at-n.result =
    length-take-le c.count_at-n.result c.args.bits.now (omega (arith, c.count_at-n.ensures.1, c.requires.4)) in
    let string : List ℕ =
    c.read_string-string.new.out in
    let behind : List ℕ =
    drop c.count_at-n.result c.args.bits.now in
    let string-long : length string ≡ c.count_at-n.result =
    c.read_string-string.auto.out ∙ long in
    let front : take c.count_at-n.result (string ++ behind) ≡ string =
    take_at string behind c.count_at-n.result string-long in
    let string-got : bit_string Long (wanted) c.args.packet.now c.args.at ≡ got string c.in-At.place =
    ap (λ (k : ℕ). bit_string Long k c.args.packet.now c.args.at) (sym (long ∙ count))
    ∙ stored_at (bit_string Long (length (take c.count_at-n.result c.args.bits.now)) c.args.packet.now c.args.at) string c.read_string-string.ensures.value c.read_string-string.ensures.stored c.in-At.is in two (λ a b. record { value = a; kept_records = b }) (on_records _ (one_step c.args.q c.args.coded.now (records_of c.args.records.now) c.args.packet.now c.args.at)
    (step_got c.args.q c.args.coded.now (records_of c.args.records.now) c.args.packet.now c.args.at (string-got))
    (c.raise_blocks.ensures.0 ∙ ap (λ (x : List ℕ). raised c.args.q c.args.coded.now x (records_of c.args.records.now)) (front), c.raise_blocks.ensures.1))
