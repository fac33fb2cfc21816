use Prim.Native.Nat.{ℕ, ◌-◌, ◌<◌}
use native.Mathlib.Omega.{arith}
use native.Mathlib.Nat.{le_trans}
use mathlib.Core.Path.{◌≡◌, refl, sym, ◌∙◌}
use mathlib.Core.List.{List}
use lib.ListN.{length, take, drop}
use Rattle.bitstream.specs.Reading.{Outcome, got}
use Rattle.huffman.specs.Tree.{Tree}
use Rattle.block_visits.specs.Visits.{TokenState, state_of}
use Rattle.table_choices.specs.Choices.{Choices, choices_of, choices}
use Rattle.tokens.specs.Tokens.{at_position, ranks}
use Rattle.tokens.specs.Answer.{trees_of}
use Rattle.token_visits.proofs.Goes.{room_most}
use Rattle.table_choices.proofs.Choices.{chosen_tables, chosen_refused, choices_small}
use Rattle.tokens.proofs.Positions.{position_goes, positions_none, positions_choices, positions_refused, positions_got, ranks_below}
use Rattle.tokens.proofs.Groups.{current_start, current_chosen, current_on}
use Rattle.tokens.proofs.Lists.{lists_start, luma_below, chroma_below, lists_on, lists_position}
use Rattle.block_visits.proofs.Ways.{on_state, on_refusal, on_refused, visit_done, visit_refused}
use Rattle.tokens.proofs.read_positions.Goals as goal

pub loop-k-init : goal.loop-k-init
loop-k-init c = (
  omega arith,
  refl,
  refl,
  refl,
  refl,
  omega arith,
  omega arith,
  omega arith,
  lists_start (length c.args.positions.now) c.args.positions.now c.args.active.now c.args.luma c.requires.packet_len_bound.2 c.requires.shape.1 c.requires.shape.2,
  refl,
  current_start _ _ _ _ refl,
  current_start _ _ _ _ refl,
)

pub returns-in-Refused : goal.returns-in-Refused
returns-in-Refused c =
    let s : TokenState =
    state_of c.loop-k.positions c.loop-k.lasts c.loop-k.coefs c.loop-k.left c.loop-k.count in
    let ch : Choices =
    choices_of c.loop-k.y c.loop-k.c in
    let chosen : Outcome Choices =
    choices c.loop-k.k ch c.args.packet.now c.loop-k.place in
    let trees : List Tree =
    trees_of c.args.nodes.now in
    let lumas : List ℕ =
    ranks 0 c.args.luma in
    let chromas : List ℕ =
    ranks c.args.luma (length c.args.positions.now - c.args.luma) in
    let g = chosen_refused (chosen) c.read_choices-choice.ensures c.in-Refused.is in
    on_refusal _ _ _ _ (c.loop-k.invariant.9 ∙ positions_choices (trees) (lumas) (chromas) c.loop-k.k (ch) (s) c.args.packet.now c.loop-k.place c.loop-k-test.true g)

pub renew_lookup-requires : goal.renew_lookup-requires
renew_lookup-requires c =
    let ch : Choices =
    choices_of c.loop-k.y c.loop-k.c in
    let chosen : Outcome Choices =
    choices c.loop-k.k ch c.args.packet.now c.loop-k.place in
    let ch₂ : Choices =
    choices_of c.in-Tables.a c.in-Tables.b in
    let next : ℕ =
    c.in-Tables.next in
    let are : chosen ≡ got ch₂ next =
    chosen_tables (chosen) c.read_choices-choice.ensures c.in-Tables.is in
    let small : (ch₂.luma < 16) × (ch₂.chroma < 16) =
    choices_small c.loop-k.k (ch) c.args.packet.now c.loop-k.place c.loop-k.invariant.5 c.loop-k.invariant.6 are in
    (c.requires.packet_len_bound.1, (small).0, current_chosen c.args.nodes.now c.loop-k.k (ch) c.args.packet.now c.loop-k.place (are) (λ x. x.luma) c.loop-k.lumas c.loop-k.luma_lookup c.loop-k.invariant.10)

pub renew_lookup-requires-in-Tables : goal.renew_lookup-requires-in-Tables
renew_lookup-requires-in-Tables c =
    let ch : Choices =
    choices_of c.loop-k.y c.loop-k.c in
    let chosen : Outcome Choices =
    choices c.loop-k.k ch c.args.packet.now c.loop-k.place in
    let ch₂ : Choices =
    choices_of c.in-Tables.a c.in-Tables.b in
    let next : ℕ =
    c.in-Tables.next in
    let are : chosen ≡ got ch₂ next =
    chosen_tables (chosen) c.read_choices-choice.ensures c.in-Tables.is in
    let small : (ch₂.luma < 16) × (ch₂.chroma < 16) =
    choices_small c.loop-k.k (ch) c.args.packet.now c.loop-k.place c.loop-k.invariant.5 c.loop-k.invariant.6 are in
    (c.requires.packet_len_bound.1, (small).1, current_chosen c.args.nodes.now c.loop-k.k (ch) c.args.packet.now c.loop-k.place (are) (λ x. x.chroma) (c.loop-k.end - c.args.luma) c.loop-k.chroma_lookup c.loop-k.invariant.11)

pub read_position-one-requires : goal.read_position-one-requires
read_position-one-requires c =
    let ch : Choices =
    choices_of c.loop-k.y c.loop-k.c in
    let chosen : Outcome Choices =
    choices c.loop-k.k ch c.args.packet.now c.loop-k.place in
    let ch₂ : Choices =
    choices_of c.in-Tables.a c.in-Tables.b in
    let next : ℕ =
    c.in-Tables.next in
    let are : chosen ≡ got ch₂ next =
    chosen_tables (chosen) c.read_choices-choice.ensures c.in-Tables.is in
    let small : (ch₂.luma < 16) × (ch₂.chroma < 16) =
    choices_small c.loop-k.k (ch) c.args.packet.now c.loop-k.place c.loop-k.invariant.5 c.loop-k.invariant.6 are in
    let n = length c.args.positions.now in record {
      packet_len_bound = (c.requires.packet_len_bound.0, c.requires.packet_len_bound.1, small.0, small.1, c.loop-k-test.true, c.renew_lookup.ensures, c.renew_lookup-in-Tables.ensures);
      lumas_le_luma = (
        c.loop-k.invariant.8.within,
        c.loop-k.invariant.8.from,
        c.loop-k.invariant.8.to,
        rw c.loop-k.invariant.1 (luma_below n c.loop-k.positions c.loop-k.active c.args.luma c.loop-k.lumas c.loop-k.end c.requires.packet_len_bound.2 c.loop-k.invariant.8),
        rw c.loop-k.invariant.1 (chroma_below n c.loop-k.positions c.loop-k.active c.args.luma c.loop-k.lumas c.loop-k.end c.requires.packet_len_bound.2 c.loop-k.invariant.8),
      );
      shape = (
        record { lasts = c.loop-k.invariant.2 ∙ c.requires.shape.0.lasts ∙ sym c.loop-k.invariant.1; coefs = omega (arith, c.loop-k.invariant.1, c.loop-k.invariant.3, c.requires.shape.0.coefs); few = omega (arith, c.loop-k.invariant.1, c.requires.shape.0.few) },
        omega (arith, c.loop-k.invariant.7, room_most c.args.positions.now, c.requires.shape.0.few),
      );
    }

pub keep_active-unfinished-requires-clause-below : goal.keep_active-unfinished-requires-clause-below
keep_active-unfinished-requires-clause-below c =
    let n = length c.args.positions.now in
    let e = c.read_position-one.auto.positions ∙ c.loop-k.invariant.1 in (
      rw e (luma_below n c.loop-k.positions c.loop-k.active c.args.luma c.loop-k.lumas c.loop-k.end c.requires.packet_len_bound.2 c.loop-k.invariant.8),
      rw e (chroma_below n c.loop-k.positions c.loop-k.active c.args.luma c.loop-k.lumas c.loop-k.end c.requires.packet_len_bound.2 c.loop-k.invariant.8),
    )

pub returns-in_default : goal.returns-in_default
returns-in_default c =
    let s : TokenState =
    state_of c.loop-k.positions c.loop-k.lasts c.loop-k.coefs c.loop-k.left c.loop-k.count in
    let ch : Choices =
    choices_of c.loop-k.y c.loop-k.c in
    let chosen : Outcome Choices =
    choices c.loop-k.k ch c.args.packet.now c.loop-k.place in
    let trees : List Tree =
    trees_of c.args.nodes.now in
    let lumas : List ℕ =
    ranks 0 c.args.luma in
    let chromas : List ℕ =
    ranks c.args.luma (length c.args.positions.now - c.args.luma) in
    let ch₂ : Choices =
    choices_of c.in-Tables.a c.in-Tables.b in
    let next : ℕ =
    c.in-Tables.next in
    let are : chosen ≡ got ch₂ next =
    chosen_tables (chosen) c.read_choices-choice.ensures c.in-Tables.is in
    let o : Outcome TokenState =
    at_position (trees) (take c.loop-k.lumas c.loop-k.active) (take (c.loop-k.end - c.args.luma) (drop c.args.luma c.loop-k.active)) c.loop-k.k (ch₂) (s) c.args.packet.now (next) in
    let by-lists : at_position (trees) (lumas) (chromas) c.loop-k.k (ch₂) (s) c.args.packet.now (next) ≡ o =
    lists_position (trees) (length c.args.positions.now) (s) c.loop-k.active c.args.luma c.loop-k.lumas c.loop-k.end c.loop-k.k (ch₂) c.args.packet.now (next) c.requires.packet_len_bound.2 c.loop-k.invariant.1 c.loop-k-test.true c.loop-k.invariant.8 in
    let g = visit_refused (o) c.read_position-one.ensures.0 c.in_default.is in
    on_refused _ _ _ _ c.in_default.is
    (c.loop-k.invariant.9 ∙ positions_refused (trees) (lumas) (chromas) c.loop-k.k (ch) (s) c.args.packet.now c.loop-k.place c.loop-k-test.true (are) (by-lists ∙ g))

pub loop-k-preserved : goal.loop-k-preserved
loop-k-preserved c =
    let s : TokenState =
    state_of c.loop-k.positions c.loop-k.lasts c.loop-k.coefs c.loop-k.left c.loop-k.count in
    let ch : Choices =
    choices_of c.loop-k.y c.loop-k.c in
    let chosen : Outcome Choices =
    choices c.loop-k.k ch c.args.packet.now c.loop-k.place in
    let trees : List Tree =
    trees_of c.args.nodes.now in
    let lumas : List ℕ =
    ranks 0 c.args.luma in
    let chromas : List ℕ =
    ranks c.args.luma (length c.args.positions.now - c.args.luma) in
    let ch₂ : Choices =
    choices_of c.in-Tables.a c.in-Tables.b in
    let next : ℕ =
    c.in-Tables.next in
    let are : chosen ≡ got ch₂ next =
    chosen_tables (chosen) c.read_choices-choice.ensures c.in-Tables.is in
    let small : (ch₂.luma < 16) × (ch₂.chroma < 16) =
    choices_small c.loop-k.k (ch) c.args.packet.now c.loop-k.place c.loop-k.invariant.5 c.loop-k.invariant.6 are in
    let o : Outcome TokenState =
    at_position (trees) (take c.loop-k.lumas c.loop-k.active) (take (c.loop-k.end - c.args.luma) (drop c.args.luma c.loop-k.active)) c.loop-k.k (ch₂) (s) c.args.packet.now (next) in
    let by-lists : at_position (trees) (lumas) (chromas) c.loop-k.k (ch₂) (s) c.args.packet.now (next) ≡ o =
    lists_position (trees) (length c.args.positions.now) (s) c.loop-k.active c.args.luma c.loop-k.lumas c.loop-k.end c.loop-k.k (ch₂) c.args.packet.now (next) c.requires.packet_len_bound.2 c.loop-k.invariant.1 c.loop-k-test.true c.loop-k.invariant.8 in
    let n = length c.args.positions.now in
    let g = by-lists ∙ visit_done (o) c.read_position-one.ensures.0 c.read_position-one.new.positions c.read_position-one.new.lasts c.read_position-one.new.coefs c.read_position-one.ensures.1 c.in-Done.is in
    let r = position_goes (trees) (lumas) (chromas) c.loop-k.k (ch₂) (s) c.args.packet.now (next) c.loop-k-test.true (ranks_below 0 c.args.luma (length c.loop-k.positions) (omega (arith, c.loop-k.invariant.1, c.requires.packet_len_bound.2)))
    (ranks_below c.args.luma (n - c.args.luma) (length c.loop-k.positions) (omega (arith, c.loop-k.invariant.1, c.requires.packet_len_bound.2))) g in (
      omega (arith, c.loop-k-test.true),
      c.read_position-one.auto.positions ∙ c.loop-k.invariant.1,
      c.read_position-one.auto.lasts ∙ c.loop-k.invariant.2,
      c.read_position-one.auto.coefs ∙ c.loop-k.invariant.3,
      c.keep_active-unfinished.auto.active ∙ c.loop-k.invariant.4,
      (small).0,
      (small).1,
      le_trans r.tokens c.loop-k.invariant.7,
      lists_on n c.loop-k.positions c.loop-k.active c.args.luma c.loop-k.lumas c.loop-k.end c.requires.packet_len_bound.2 c.loop-k.invariant.8 c.read_position-one.new.positions c.keep_active-unfinished.new.active c.keep_active-unfinished.result.0 c.keep_active-unfinished.result.1 r.later c.keep_active-unfinished.auto.active c.keep_active-unfinished.ensures,
      c.loop-k.invariant.9 ∙ positions_got (trees) (lumas) (chromas) c.loop-k.k (ch) (s) c.args.packet.now c.loop-k.place c.loop-k-test.true (are) g,
      current_on c.args.nodes.now c.loop-k.k (ch₂).luma c.loop-k.lumas c.keep_active-unfinished.result.0 _ c.keep_active-unfinished.ensures.fewer c.renew_lookup.ensures,
      current_on c.args.nodes.now c.loop-k.k (ch₂).chroma (c.loop-k.end - c.args.luma) (c.keep_active-unfinished.result.1 - c.args.luma) _ (omega (arith, c.keep_active-unfinished.ensures.to)) c.renew_lookup-in-Tables.ensures,
    )

pub returns : goal.returns
returns c = on_state _ _ _ _
    (c.loop-k.invariant.9 ∙ positions_none (trees_of c.args.nodes.now) (ranks 0 c.args.luma) (ranks c.args.luma (length c.args.positions.now - c.args.luma)) c.loop-k.k (choices_of c.loop-k.y c.loop-k.c) (state_of c.loop-k.positions c.loop-k.lasts c.loop-k.coefs c.loop-k.left c.loop-k.count) c.args.packet.now c.loop-k.place c.loop-k-test.false)
