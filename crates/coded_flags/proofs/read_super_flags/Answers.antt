-- `coded_flags::read_super_flags` meets its contract. Assumes nothing.
use Prim.Native.Nat.{ℕ, ◌+◌, ◌-◌, ◌/◌, ◌≤◌}
use native.Mathlib.Omega.{arith}
use mathlib.Core.Path.{◌≡◌, sym, ap, ◌∙◌}
use mathlib.Core.List.{List, ◌++◌}
use lib.ListN.{length, take, drop, length-append, length-drop}
use lib.Seq.{take_at}
use Rattle.bitstream.specs.Reading.{got}
use Rattle.runs.specs.Runs.{bit_string}
use Rattle.runs.specs.declared.RunCode.TheVariants.{Long}
use Rattle.bitstream.proofs.Ends.{stored_at, end_refused}
use Rattle.coded_flags.specs.Flags.{ones, rest, super_flags}
use Rattle.coded_flags.proofs.Answers.{supers_first, supers_second, supers_got, half_first, half_second, on_refused, on_supers, half_length, middle_length}
use Rattle.bitstream.proofs.Clauses.{two}
use Rattle.coded_flags.proofs.read_super_flags.Goals as goal

pub returns-in-Refused : goal.returns-in-Refused
returns-in-Refused c = let k = length c.args.supers.now / 2 in two (λ a b. record { value = a; stored_supers = b }) (on_refused _ k (super_flags k c.args.packet.now c.args.at)
    (supers_first k c.args.packet.now c.args.at (ap (λ (m : ℕ). bit_string Long m c.args.packet.now c.args.at) (sym (half_length c.args.supers.now)) ∙ end_refused (bit_string Long (length (take k c.args.supers.now)) c.args.packet.now c.args.at) c.read_string-partly.ensures.value c.in-Refused.is)))

pub returns-in-Refused-full : goal.returns-in-Refused-full
returns-in-Refused-full c =
    let n : ℕ =
    length c.args.supers.now / 2 in
    let string : List ℕ =
    c.read_string-partly.new.out in
    let behind : List ℕ =
    drop n c.args.supers.now in
    let place : ℕ =
    c.in-At.next in
    let long : length string ≡ n =
    c.read_string-partly.auto.out ∙ half_length c.args.supers.now in
    let partly-got : bit_string Long n c.args.packet.now c.args.at ≡ got string place =
    ap (λ (m : ℕ). bit_string Long m c.args.packet.now c.args.at) (sym (half_length c.args.supers.now))
    ∙ stored_at (bit_string Long (length (take n c.args.supers.now)) c.args.packet.now c.args.at) string c.read_string-partly.ensures.value c.read_string-partly.ensures.stored c.in-At.is in
    let left : ℕ =
    n - c.count_ones.result in
    let middle : List ℕ =
    take (n + left - n) (drop (n) (string ++ behind)) in
    let left-rest : left ≡ rest (string) =
    let e : c.count_ones.result ≡ ones (string) = c.count_ones.ensures.0 ∙ ap ones (take_at (string) (behind) (n) (long)) in
    omega (arith, e, long) in
    let middle-long : length middle ≡ left =
    middle_length (n) left (string ++ behind) (omega (arith, length-append (string) (behind), long, length-drop (n) c.args.supers.now)) in
    let left-long : length middle ≡ rest (string) =
    middle-long ∙ left-rest in
    let k = n in two (λ a b. record { value = a; stored_supers = b }) (on_refused _ k (super_flags k c.args.packet.now c.args.at)
    (supers_second k c.args.packet.now c.args.at (partly-got) (ap (λ (m : ℕ). bit_string Long m c.args.packet.now (place)) (sym (left-long)) ∙ end_refused (bit_string Long (length (middle)) c.args.packet.now (place)) c.read_string-full.ensures.value c.in-Refused-full.is)))

pub returns-in-At-full : goal.returns-in-At-full
returns-in-At-full c =
    let n : ℕ =
    length c.args.supers.now / 2 in
    let string : List ℕ =
    c.read_string-partly.new.out in
    let behind : List ℕ =
    drop n c.args.supers.now in
    let place : ℕ =
    c.in-At.next in
    let long : length string ≡ n =
    c.read_string-partly.auto.out ∙ half_length c.args.supers.now in
    let room : n ≤ length (string ++ behind) =
    omega (arith, length-append string behind, long) in
    let partly-got : bit_string Long n c.args.packet.now c.args.at ≡ got string place =
    ap (λ (m : ℕ). bit_string Long m c.args.packet.now c.args.at) (sym (half_length c.args.supers.now))
    ∙ stored_at (bit_string Long (length (take n c.args.supers.now)) c.args.packet.now c.args.at) string c.read_string-partly.ensures.value c.read_string-partly.ensures.stored c.in-At.is in
    let left : ℕ =
    n - c.count_ones.result in
    let middle : List ℕ =
    take (n + left - n) (drop (n) (string ++ behind)) in
    let left-rest : left ≡ rest (string) =
    let e : c.count_ones.result ≡ ones (string) = c.count_ones.ensures.0 ∙ ap ones (take_at (string) (behind) (n) (long)) in
    omega (arith, e, long) in
    let middle-long : length middle ≡ left =
    middle_length (n) left (string ++ behind) (omega (arith, length-append (string) (behind), long, length-drop (n) c.args.supers.now)) in
    let left-long : length middle ≡ rest (string) =
    middle-long ∙ left-rest in
    let k = n in
    let e : length c.read_string-full.new.out ≡ left =
    c.read_string-full.auto.out ∙ middle-long in two (λ a b. record { value = a; stored_supers = b }) (on_supers _ k (super_flags k c.args.packet.now c.args.at)
    (supers_got k c.args.packet.now c.args.at (partly-got) (ap (λ (m : ℕ). bit_string Long m c.args.packet.now (place)) (sym (left-long)) ∙ stored_at (bit_string Long (length (middle)) c.args.packet.now (place)) c.read_string-full.new.out c.read_string-full.ensures.value c.read_string-full.ensures.stored c.in-At-full.is))
    (sym e)
    (half_first k (left) (string ++ behind) c.read_string-full.new.out _ (room) e ∙ take_at (string) (behind) k (long))
    (half_second k (left) (string ++ behind) c.read_string-full.new.out _ (room) e))
