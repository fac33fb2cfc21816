-- `coded_flags::read_flags` meets its contract. Assumes nothing.
use Prim.Native.Nat.{ℕ, ◌*◌, ◌/◌, ◌≤◌}
use native.Mathlib.Omega.{arith}
use mathlib.Core.Path.{◌≡◌, sym, ap, ◌∙◌, subst}
use mathlib.Core.List.{List}
use lib.ListN.{length, take, drop, length-append}
use lib.Seq.{take_at, length-take-le}
use Rattle.bitstream.specs.Reading.{got}
use Rattle.runs.specs.Runs.{bit_string}
use Rattle.runs.specs.declared.RunCode.TheVariants.{Short}
use Rattle.bitstream.proofs.Ends.{stored_at, end_refused, on_list, on_refusal}
use Rattle.geometry.specs.Sizes.{super_blocks_of}
use Rattle.coded_flags.specs.Flags.{rest, super_sizes, super_flags, partly_blocks, spread, inter_flags}
use Rattle.coded_flags.proofs.Spread.{blocks_most}
use Rattle.bitstream.proofs.ListLaws.{front_length}
use Rattle.coded_flags.proofs.Answers.{supers_refused, supers_at, supers_length, inter_supers, inter_blocks, inter_got}
use Rattle.bitstream.proofs.Clauses.{two}
use Rattle.coded_flags.proofs.read_flags.Goals as goal

pub slice_bounds-read_string-end : goal.slice_bounds-read_string-end
slice_bounds-read_string-end c =
    let S : ℕ =
    super_blocks_of c.args.format c.args.w c.args.h in
    let n : ℕ =
    length c.args.supers.now / 2 in
    let supers : List ℕ =
    c.read_super_flags-read.new.supers in
    let half : n ≡ S =
    omega (arith, c.requires.3) in
    let m : ℕ =
    c.partly_blocks-m.result in
    let m-blocks : m ≡ partly_blocks (super_sizes c.args.format c.args.w c.args.h) (take (S) (supers)) =
    c.partly_blocks-m.ensures ∙ ap (λ (k : ℕ). partly_blocks (super_sizes c.args.format c.args.w c.args.h) (take k (supers))) (half) in
    let m-fits : m ≤ length c.args.bits.now =
    omega (arith, m-blocks, blocks_most c.args.format c.args.w c.args.h (take (S) (supers)), c.requires.4) in
    m-fits

pub slice_bounds-read_string-end-in-At : goal.slice_bounds-read_string-end-in-At
slice_bounds-read_string-end-in-At c =
    let S : ℕ =
    super_blocks_of c.args.format c.args.w c.args.h in
    let n : ℕ =
    length c.args.supers.now / 2 in
    let supers : List ℕ =
    c.read_super_flags-read.new.supers in
    let half : n ≡ S =
    omega (arith, c.requires.3) in
    let m : ℕ =
    c.partly_blocks-m.result in
    let m-blocks : m ≡ partly_blocks (super_sizes c.args.format c.args.w c.args.h) (take (S) (supers)) =
    c.partly_blocks-m.ensures ∙ ap (λ (k : ℕ). partly_blocks (super_sizes c.args.format c.args.w c.args.h) (take k (supers))) (half) in
    let m-fits : m ≤ length c.args.bits.now =
    omega (arith, m-blocks, blocks_most c.args.format c.args.w c.args.h (take (S) (supers)), c.requires.4) in
    let m-long : length (take m c.args.bits.now) ≡ m =
    length-take-le m c.args.bits.now m-fits in
    sym (m-long)

pub slice_bounds-spread_strings-end : goal.slice_bounds-spread_strings-end
slice_bounds-spread_strings-end c =
    let S : ℕ =
    super_blocks_of c.args.format c.args.w c.args.h in
    let n : ℕ =
    length c.args.supers.now / 2 in
    let supers : List ℕ =
    c.read_super_flags-read.new.supers in
    let half : n ≡ S =
    omega (arith, c.requires.3) in
    let m : ℕ =
    c.partly_blocks-m.result in
    let behind : List ℕ =
    drop m c.args.bits.now in
    let m-blocks : m ≡ partly_blocks (super_sizes c.args.format c.args.w c.args.h) (take (S) (supers)) =
    c.partly_blocks-m.ensures ∙ ap (λ (k : ℕ). partly_blocks (super_sizes c.args.format c.args.w c.args.h) (take k (supers))) (half) in
    let m-fits : m ≤ length c.args.bits.now =
    omega (arith, m-blocks, blocks_most c.args.format c.args.w c.args.h (take (S) (supers)), c.requires.4) in
    let m-long : length (take m c.args.bits.now) ≡ m =
    length-take-le m c.args.bits.now m-fits in
    let e = c.read_string-string.auto.out ∙ m-long in
    omega (arith, length-append c.read_string-string.new.out (behind), e)

pub slice_bounds-spread_strings-end-in-At-string : goal.slice_bounds-spread_strings-end-in-At-string
slice_bounds-spread_strings-end-in-At-string c =
    let S : ℕ =
    super_blocks_of c.args.format c.args.w c.args.h in
    let n : ℕ =
    length c.args.supers.now / 2 in
    let supers : List ℕ =
    c.read_super_flags-read.new.supers in
    let half : n ≡ S =
    omega (arith, c.requires.3) in
    let m : ℕ =
    c.partly_blocks-m.result in
    let behind : List ℕ =
    drop m c.args.bits.now in
    let m-blocks : m ≡ partly_blocks (super_sizes c.args.format c.args.w c.args.h) (take (S) (supers)) =
    c.partly_blocks-m.ensures ∙ ap (λ (k : ℕ). partly_blocks (super_sizes c.args.format c.args.w c.args.h) (take k (supers))) (half) in
    let m-fits : m ≤ length c.args.bits.now =
    omega (arith, m-blocks, blocks_most c.args.format c.args.w c.args.h (take (S) (supers)), c.requires.4) in
    let m-long : length (take m c.args.bits.now) ≡ m =
    length-take-le m c.args.bits.now m-fits in
    let e = c.read_string-string.auto.out ∙ m-long in
    front_length c.read_string-string.new.out behind m e

pub spread_strings-requires : goal.spread_strings-requires
spread_strings-requires c =
    let S : ℕ =
    super_blocks_of c.args.format c.args.w c.args.h in
    let n : ℕ =
    length c.args.supers.now / 2 in
    let supers : List ℕ =
    c.read_super_flags-read.new.supers in
    let left : ℕ =
    c.in-At.left in
    let place : ℕ =
    c.in-At.next in
    let half : n ≡ S =
    omega (arith, c.requires.3) in
    let long : length supers ≡ 2 * S =
    c.read_super_flags-read.auto.supers ∙ c.requires.3 in
    let both : (left ≡ length (take left (drop S supers))) × (super_flags S c.args.packet.now c.args.at ≡ got (record { partly = take S supers; full = take left (drop S supers) }) place) =
    subst (λ (k : ℕ). (left ≡ length (take left (drop k supers))) × (super_flags k c.args.packet.now c.args.at ≡ got (record { partly = take k supers; full = take left (drop k supers) }) place)) half
    (supers_at (super_flags n c.args.packet.now c.args.at) supers n c.read_super_flags-read.ensures.value c.read_super_flags-read.ensures.stored_supers c.in-At.is) in
    let supers-are : super_flags S c.args.packet.now c.args.at ≡ got (record { partly = take S supers; full = take left (drop S supers) }) place =
    both.1 in
    let left-rest : left ≡ rest (take S supers) =
    both.0 ∙ (supers_length S c.args.packet.now c.args.at supers-are).1 in
    let m : ℕ =
    c.partly_blocks-m.result in
    let behind : List ℕ =
    drop m c.args.bits.now in
    let m-blocks : m ≡ partly_blocks (super_sizes c.args.format c.args.w c.args.h) (take (S) (supers)) =
    c.partly_blocks-m.ensures ∙ ap (λ (k : ℕ). partly_blocks (super_sizes c.args.format c.args.w c.args.h) (take k (supers))) (half) in
    let m-fits : m ≤ length c.args.bits.now =
    omega (arith, m-blocks, blocks_most c.args.format c.args.w c.args.h (take (S) (supers)), c.requires.4) in
    let m-long : length (take m c.args.bits.now) ≡ m =
    length-take-le m c.args.bits.now m-fits in
    let p =
    c.requires in (
      p.1,
      p.2,
      long,
      left-rest,
      sym (front_length c.read_string-string.new.out (behind) (m) (c.read_string-string.auto.out ∙ m-long))
          ∙ m-blocks,
      p.5,
    )

pub returns-in-Refused : goal.returns-in-Refused
returns-in-Refused c = let z : length c.args.supers.now / 2 ≡ super_blocks_of c.args.format c.args.w c.args.h =
    omega (arith, c.requires.3) in two (λ a b. record { value = a; stored = b }) (on_refusal _ (inter_flags c.args.format c.args.w c.args.h c.args.packet.now c.args.at)
    (inter_supers c.args.format c.args.w c.args.h c.args.packet.now c.args.at (ap (λ (k : ℕ). super_flags k c.args.packet.now c.args.at) (sym z) ∙ supers_refused (super_flags (length c.args.supers.now / 2) c.args.packet.now c.args.at) c.read_super_flags-read.ensures.value c.in-Refused.is)))

pub returns-in-Refused-string : goal.returns-in-Refused-string
returns-in-Refused-string c =
    let S : ℕ =
    super_blocks_of c.args.format c.args.w c.args.h in
    let n : ℕ =
    length c.args.supers.now / 2 in
    let supers : List ℕ =
    c.read_super_flags-read.new.supers in
    let left : ℕ =
    c.in-At.left in
    let place : ℕ =
    c.in-At.next in
    let half : n ≡ S =
    omega (arith, c.requires.3) in
    let both : (left ≡ length (take left (drop S supers))) × (super_flags S c.args.packet.now c.args.at ≡ got (record { partly = take S supers; full = take left (drop S supers) }) place) =
    subst (λ (k : ℕ). (left ≡ length (take left (drop k supers))) × (super_flags k c.args.packet.now c.args.at ≡ got (record { partly = take k supers; full = take left (drop k supers) }) place)) half
    (supers_at (super_flags n c.args.packet.now c.args.at) supers n c.read_super_flags-read.ensures.value c.read_super_flags-read.ensures.stored_supers c.in-At.is) in
    let supers-are : super_flags S c.args.packet.now c.args.at ≡ got (record { partly = take S supers; full = take left (drop S supers) }) place =
    both.1 in
    let m : ℕ =
    c.partly_blocks-m.result in
    let m-blocks : m ≡ partly_blocks (super_sizes c.args.format c.args.w c.args.h) (take (S) (supers)) =
    c.partly_blocks-m.ensures ∙ ap (λ (k : ℕ). partly_blocks (super_sizes c.args.format c.args.w c.args.h) (take k (supers))) (half) in
    let m-fits : m ≤ length c.args.bits.now =
    omega (arith, m-blocks, blocks_most c.args.format c.args.w c.args.h (take (S) (supers)), c.requires.4) in
    let m-long : length (take m c.args.bits.now) ≡ m =
    length-take-le m c.args.bits.now m-fits in
    let a =
    c.args in two (λ a b. record { value = a; stored = b }) (on_refusal _ (inter_flags a.format a.w a.h a.packet.now a.at)
    (inter_blocks a.format a.w a.h a.packet.now a.at (supers-are) (ap (λ (k : ℕ). bit_string Short k a.packet.now (place)) (sym (m-long ∙ m-blocks)) ∙ end_refused (bit_string Short (length (take (m) a.bits.now)) a.packet.now (place)) c.read_string-string.ensures.value c.in-Refused-string.is)))

pub returns-in-At-string : goal.returns-in-At-string
returns-in-At-string c =
    let S : ℕ =
    super_blocks_of c.args.format c.args.w c.args.h in
    let n : ℕ =
    length c.args.supers.now / 2 in
    let supers : List ℕ =
    c.read_super_flags-read.new.supers in
    let left : ℕ =
    c.in-At.left in
    let place : ℕ =
    c.in-At.next in
    let half : n ≡ S =
    omega (arith, c.requires.3) in
    let both : (left ≡ length (take left (drop S supers))) × (super_flags S c.args.packet.now c.args.at ≡ got (record { partly = take S supers; full = take left (drop S supers) }) place) =
    subst (λ (k : ℕ). (left ≡ length (take left (drop k supers))) × (super_flags k c.args.packet.now c.args.at ≡ got (record { partly = take k supers; full = take left (drop k supers) }) place)) half
    (supers_at (super_flags n c.args.packet.now c.args.at) supers n c.read_super_flags-read.ensures.value c.read_super_flags-read.ensures.stored_supers c.in-At.is) in
    let supers-are : super_flags S c.args.packet.now c.args.at ≡ got (record { partly = take S supers; full = take left (drop S supers) }) place =
    both.1 in
    let m : ℕ =
    c.partly_blocks-m.result in
    let behind : List ℕ =
    drop m c.args.bits.now in
    let m-blocks : m ≡ partly_blocks (super_sizes c.args.format c.args.w c.args.h) (take (S) (supers)) =
    c.partly_blocks-m.ensures ∙ ap (λ (k : ℕ). partly_blocks (super_sizes c.args.format c.args.w c.args.h) (take k (supers))) (half) in
    let m-fits : m ≤ length c.args.bits.now =
    omega (arith, m-blocks, blocks_most c.args.format c.args.w c.args.h (take (S) (supers)), c.requires.4) in
    let m-long : length (take m c.args.bits.now) ≡ m =
    length-take-le m c.args.bits.now m-fits in
    let a =
    c.args in two (λ a b. record { value = a; stored = b }) (on_list _ (inter_flags a.format a.w a.h a.packet.now a.at)
    (inter_got a.format a.w a.h a.packet.now a.at (supers-are) (ap (λ (k : ℕ). bit_string Short k a.packet.now (place)) (sym (m-long ∙ m-blocks)) ∙ stored_at (bit_string Short (length (take (m) a.bits.now)) a.packet.now (place)) c.read_string-string.new.out c.read_string-string.ensures.value c.read_string-string.ensures.stored c.in-At-string.is) ∙ ap (λ (x : List ℕ). got x c.in-At-string.place) (sym (c.spread_strings.ensures ∙ ap (spread (super_sizes a.format a.w a.h) (take (S) (supers)) (take (left) (drop (S) (supers)))) (take_at c.read_string-string.new.out (behind) (m) (c.read_string-string.auto.out ∙ m-long))))))
