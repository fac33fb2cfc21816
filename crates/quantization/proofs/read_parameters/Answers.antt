-- `quantization::read_parameters` meets its contract. Assumes nothing.
use Prim.Native.Nat.{ℕ}
use mathlib.Core.Path.{◌≡◌}
use mathlib.Core.List.{List, []}
use Rattle.bitstream.specs.Reading.{got, many}
use Rattle.bitstream.proofs.Fields.{read_got, read_refused}
use Rattle.quantization.specs.Parameters.{scales, matrix_count, base_matrix, more_sets, quantization}
use Rattle.quantization.proofs.Loops.{filled_is}
use Rattle.bitstream.proofs.Ends.{end_refused, end_at}
use Rattle.quantization.proofs.Steps.{count_range}
use Rattle.quantization.proofs.Whole.{count_ends, quant_ac, quant_dc, quant_count, quant_matrices, quant_sets, quant_got, quant_refused, quant_stored}
use Rattle.bitstream.proofs.Clauses.{two}
use Rattle.quantization.proofs.read_parameters.Goals as goal

pub returns-in-Refused : goal.returns-in-Refused
returns-in-Refused c = two (λ a b. record { value = a; loaded = b }) (quant_refused _ _ _ _ _ (quant_ac c.args.packet.now c.args.at (end_refused (scales c.args.packet.now c.args.at) c.read_scales-first.ensures.value c.in-Refused.is)))

pub returns-in-Refused-second : goal.returns-in-Refused-second
returns-in-Refused-second c =
    let ac-got : (x : List ℕ) × (scales c.args.packet.now c.args.at ≡ got x c.in-At.place) =
    end_at (scales c.args.packet.now c.args.at) c.read_scales-first.ensures.value c.in-At.is in two (λ a b. record { value = a; loaded = b }) (quant_refused _ _ _ _ _ (quant_dc c.args.packet.now c.args.at (ac-got).1 (end_refused (scales c.args.packet.now c.in-At.place) c.read_scales-second.ensures.value c.in-Refused-second.is)))

pub matrices_end-matrices-requires : goal.matrices_end-matrices-requires
matrices_end-matrices-requires c =
    let count_is : matrix_count c.args.packet.now c.in-At-second.place ≡ got c.in-Got.count c.in-Got.c =
    read_got (matrix_count c.args.packet.now c.in-At-second.place) c.read_count-number.ensures c.in-Got.is in
    let r = count_range _ _ (count_is) in
    (c.requires.0, count_ends _ _ (count_is), r.1)

pub returns-in-Refused-matrices : goal.returns-in-Refused-matrices
returns-in-Refused-matrices c =
    let ac-got : (x : List ℕ) × (scales c.args.packet.now c.args.at ≡ got x c.in-At.place) =
    end_at (scales c.args.packet.now c.args.at) c.read_scales-first.ensures.value c.in-At.is in
    let dc-got : (x : List ℕ) × (scales c.args.packet.now c.in-At.place ≡ got x c.in-At-second.place) =
    end_at (scales c.args.packet.now c.in-At.place) c.read_scales-second.ensures.value c.in-At-second.is in
    let count_is : matrix_count c.args.packet.now c.in-At-second.place ≡ got c.in-Got.count c.in-Got.c =
    read_got (matrix_count c.args.packet.now c.in-At-second.place) c.read_count-number.ensures c.in-Got.is in two (λ a b. record { value = a; loaded = b }) (quant_refused _ _ _ _ _ (quant_matrices c.args.packet.now c.args.at (ac-got).1 (dc-got).1 (count_is) (end_refused (many c.in-Got.count base_matrix c.args.packet.now c.in-Got.c) c.matrices_end-matrices.ensures c.in-Refused-matrices.is)))

pub read_sets-sets-requires : goal.read_sets-sets-requires
read_sets-sets-requires c =
    let count_is : matrix_count c.args.packet.now c.in-At-second.place ≡ got c.in-Got.count c.in-Got.c =
    read_got (matrix_count c.args.packet.now c.in-At-second.place) c.read_count-number.ensures c.in-Got.is in
    let r = count_range _ _ (count_is) in
    (c.requires.0, r.0, r.1, c.requires.3, c.requires.4)

pub returns-in-Refused-number : goal.returns-in-Refused-number
returns-in-Refused-number c =
    let ac-got : (x : List ℕ) × (scales c.args.packet.now c.args.at ≡ got x c.in-At.place) =
    end_at (scales c.args.packet.now c.args.at) c.read_scales-first.ensures.value c.in-At.is in
    let dc-got : (x : List ℕ) × (scales c.args.packet.now c.in-At.place ≡ got x c.in-At-second.place) =
    end_at (scales c.args.packet.now c.in-At.place) c.read_scales-second.ensures.value c.in-At-second.is in two (λ a b. record { value = a; loaded = b }) (quant_refused _ _ _ _ _ (quant_count c.args.packet.now c.args.at (ac-got).1 (dc-got).1 (read_refused (matrix_count c.args.packet.now c.in-At-second.place) c.read_count-number.ensures c.in-Refused-number.is)))

pub returns-in-Refused-sets : goal.returns-in-Refused-sets
returns-in-Refused-sets c =
    let ac-got : (x : List ℕ) × (scales c.args.packet.now c.args.at ≡ got x c.in-At.place) =
    end_at (scales c.args.packet.now c.args.at) c.read_scales-first.ensures.value c.in-At.is in
    let dc-got : (x : List ℕ) × (scales c.args.packet.now c.in-At.place ≡ got x c.in-At-second.place) =
    end_at (scales c.args.packet.now c.in-At.place) c.read_scales-second.ensures.value c.in-At-second.is in
    let count_is : matrix_count c.args.packet.now c.in-At-second.place ≡ got c.in-Got.count c.in-Got.c =
    read_got (matrix_count c.args.packet.now c.in-At-second.place) c.read_count-number.ensures c.in-Got.is in
    let matrices-got : (x : List (List ℕ)) × (many c.in-Got.count base_matrix c.args.packet.now c.in-Got.c ≡ got x c.in-At-matrices.place) =
    end_at (many c.in-Got.count base_matrix c.args.packet.now c.in-Got.c) c.matrices_end-matrices.ensures c.in-At-matrices.is in
    let s = end_refused (more_sets 6 c.in-Got.count [] c.args.packet.now c.in-At-matrices.place) c.read_sets-sets.ensures.value c.in-Refused-sets.is in two (λ a b. record { value = a; loaded = b }) (quant_refused _ _ _ _ _ (quant_sets c.args.packet.now c.args.at (ac-got).1 (dc-got).1 (count_is) (matrices-got).1 s))

pub returns-in-At-sets : goal.returns-in-At-sets
returns-in-At-sets c =
    let ac-got : (x : List ℕ) × (scales c.args.packet.now c.args.at ≡ got x c.in-At.place) =
    end_at (scales c.args.packet.now c.args.at) c.read_scales-first.ensures.value c.in-At.is in
    let dc-got : (x : List ℕ) × (scales c.args.packet.now c.in-At.place ≡ got x c.in-At-second.place) =
    end_at (scales c.args.packet.now c.in-At.place) c.read_scales-second.ensures.value c.in-At-second.is in
    let count_is : matrix_count c.args.packet.now c.in-At-second.place ≡ got c.in-Got.count c.in-Got.c =
    read_got (matrix_count c.args.packet.now c.in-At-second.place) c.read_count-number.ensures c.in-Got.is in
    let matrices-got : (x : List (List ℕ)) × (many c.in-Got.count base_matrix c.args.packet.now c.in-Got.c ≡ got x c.in-At-matrices.place) =
    end_at (many c.in-Got.count base_matrix c.args.packet.now c.in-Got.c) c.matrices_end-matrices.ensures c.in-At-matrices.is in
    let s = end_at (more_sets 6 c.in-Got.count [] c.args.packet.now c.in-At-matrices.place) c.read_sets-sets.ensures.value c.in-At-sets.is in two (λ a b. record { value = a; loaded = b }) (quant_stored (quantization c.args.packet.now c.args.at) (more_sets 6 c.in-Got.count [] c.args.packet.now c.in-At-matrices.place) _ _ _ _
    (quant_got c.args.packet.now c.args.at (ac-got).1 (dc-got).1 (count_is) (matrices-got).1 s.1)
    (filled_is (scales c.args.packet.now c.args.at) _ c.read_scales-first.ensures.filled (ac-got).1)
    (filled_is (scales c.args.packet.now c.in-At.place) _ c.read_scales-second.ensures.filled (dc-got).1)
    c.read_sets-sets.ensures.sets_held s.1)
