-- `setup::load` meets its contract. Assumes nothing.
use Prim.Native.Nat.{ℕ}
use mathlib.Core.Path.{◌≡◌, sym, ap, ◌∙◌}
use mathlib.Core.List.{List}
use Rattle.bitstream.specs.Reading.{Outcome, got, refused}
use Rattle.bitstream.specs.Answer.{as_end}
use Rattle.headers.specs.Judgement.{common_header}
use Rattle.quantization.specs.Parameters.{Quantization, quantization}
use Rattle.quantization.proofs.Loops.{filled_is}
use Rattle.bitstream.proofs.Ends.{end_refused, end_at}
use Rattle.setup.specs.Header.{Setup, loop_limits, setup_header}
use Rattle.setup.specs.Loaded.{empty_setup}
use Rattle.setup.specs.declared.LoadedSetup.{LoadedSetup}
use Rattle.setup_trees.specs.Answer.{told}
use Rattle.setup.proofs.Steps.{parameters_read, parameters_refused, header_common, header_limits, header_parameters, header_inside, header_end, header_loaded, refused_loaded}
use borrow.Author.Rules.{rules}
use Rattle.setup.proofs.load.Goals as goal

pub read_parameters-second-requires : goal.read_parameters-second-requires
unfolding empty_setup
read_parameters-second-requires c = (c.requires.0, search rules, search rules, ap (λ (l : LoadedSetup). l.parameters.sizes) c.requires.1, ap (λ (l : LoadedSetup). l.parameters.indices) c.requires.1)

pub trees-requires : goal.trees-requires
unfolding empty_setup
trees-requires c =
    let head-got : (u : Unit {0}) × (common_header 0x82 c.args.packet.now 0 ≡ got u c.in-At.place) =
    end_at (common_header 0x82 c.args.packet.now 0) c.read_common_header-head.ensures c.in-At.is in
    let limits-got : (l : List ℕ) × (loop_limits c.args.packet.now c.in-At.place ≡ got l c.in-At-first.place) =
    end_at (loop_limits c.args.packet.now c.in-At.place) c.read_limits-first.ensures.value c.in-At-first.is in
    let parameters-got : (q : Quantization) × (quantization c.args.packet.now c.in-At-first.place ≡ got q c.in-Read.c) × (q.matrices_at ≡ c.in-Read.place) =
    parameters_read (quantization c.args.packet.now c.in-At-first.place) c.read_parameters-second.ensures.value c.in-Read.is in
    (c.requires.0, header_inside c.args.packet.now (head-got).1 (limits-got).1 (parameters-got).1, ap (λ (l : LoadedSetup). l.nodes) c.requires.1)

pub returns-in-Refused : goal.returns-in-Refused
returns-in-Refused c =
    let header : setup_header c.args.packet.now 0 ≡ refused c.in-Refused.number c.in-Refused.fault =
    header_common c.args.packet.now (end_refused (common_header 0x82 c.args.packet.now 0) c.read_common_header-head.ensures c.in-Refused.is) in
    record { place = c.refuse.ensures ∙ ap (λ (o : Outcome Setup). as_end (told c.args.placed o)) (sym header); loaded = refused_loaded _ header }

pub returns-in-Refused-first : goal.returns-in-Refused-first
returns-in-Refused-first c =
    let head-got : (u : Unit {0}) × (common_header 0x82 c.args.packet.now 0 ≡ got u c.in-At.place) =
    end_at (common_header 0x82 c.args.packet.now 0) c.read_common_header-head.ensures c.in-At.is in
    let header : setup_header c.args.packet.now 0 ≡ refused c.in-Refused-first.number c.in-Refused-first.fault =
    header_limits c.args.packet.now (head-got).1 (end_refused (loop_limits c.args.packet.now c.in-At.place) c.read_limits-first.ensures.value c.in-Refused-first.is) in
    record { place = c.refuse-in-Refused-first.ensures ∙ ap (λ (o : Outcome Setup). as_end (told c.args.placed o)) (sym header); loaded = refused_loaded _ header }

pub returns-in-Refused-second : goal.returns-in-Refused-second
returns-in-Refused-second c =
    let head-got : (u : Unit {0}) × (common_header 0x82 c.args.packet.now 0 ≡ got u c.in-At.place) =
    end_at (common_header 0x82 c.args.packet.now 0) c.read_common_header-head.ensures c.in-At.is in
    let limits-got : (l : List ℕ) × (loop_limits c.args.packet.now c.in-At.place ≡ got l c.in-At-first.place) =
    end_at (loop_limits c.args.packet.now c.in-At.place) c.read_limits-first.ensures.value c.in-At-first.is in
    let header : setup_header c.args.packet.now 0 ≡ refused c.in-Refused-second.number c.in-Refused-second.fault =
    header_parameters c.args.packet.now (head-got).1 (limits-got).1
    (parameters_refused (quantization c.args.packet.now c.in-At-first.place) c.read_parameters-second.ensures.value c.in-Refused-second.is) in
    record { place = c.refuse-in-Refused-second.ensures ∙ ap (λ (o : Outcome Setup). as_end (told c.args.placed o)) (sym header); loaded = refused_loaded _ header }

pub returns-in-Read : goal.returns-in-Read
returns-in-Read c =
    let head-got : (u : Unit {0}) × (common_header 0x82 c.args.packet.now 0 ≡ got u c.in-At.place) =
    end_at (common_header 0x82 c.args.packet.now 0) c.read_common_header-head.ensures c.in-At.is in
    let limits-got : (l : List ℕ) × (loop_limits c.args.packet.now c.in-At.place ≡ got l c.in-At-first.place) =
    end_at (loop_limits c.args.packet.now c.in-At.place) c.read_limits-first.ensures.value c.in-At-first.is in
    let parameters-got : (q : Quantization) × (quantization c.args.packet.now c.in-At-first.place ≡ got q c.in-Read.c) × (q.matrices_at ≡ c.in-Read.place) =
    parameters_read (quantization c.args.packet.now c.in-At-first.place) c.read_parameters-second.ensures.value c.in-Read.is in
    record {
      place = c.trees.ensures.value ∙ header_end c.args.packet.now (head-got).1 (limits-got).1 (parameters-got).1 c.args.placed;
      loaded = header_loaded c.args.packet.now (head-got).1 (limits-got).1 (parameters-got).1 _ _ _ _ _ _
          (filled_is (loop_limits c.args.packet.now c.in-At.place) _ c.read_limits-first.ensures.filled (limits-got).1)
          c.read_parameters-second.ensures.loaded (parameters-got).2 c.trees.ensures.trees_filled;
    }
