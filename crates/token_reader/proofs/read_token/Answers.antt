-- `token_reader::read_token` meets its contract: by the entry, where the token ends in the packet, and else it is cut. Assumes nothing.
use borrow.Author.Tests.{ltb-true, ltb-false}
use native.Mathlib.Omega.{arith}
use mathlib.Core.Path.{sym, ap, ◌∙◌}
use Prim.Native.Nat.{ℕ, ◌+◌, ◌/◌, ◌%◌, ◌^◌, ◌≤◌}
use lib.ListN.{length}
use Rattle.token.specs.Answer.{as_token}
use Rattle.token_reader.proofs.Entries.{entry_row, entry_bits, entry_got, entry_cut}
use Rattle.token_reader.proofs.read_token.Goals as goal

-- the byte behind the bits of an entry
abbrev behind : ℕ → ℕ → ℕ
behind at entry = at / 8 + (at % 8 + entry / 2 ^ 36 + 7) / 8

pub is_cut-requires : goal.is_cut-requires
is_cut-requires c =
    let few : c.entry_in-entry.result / 2 ^ 36 ≤ 43 =
    entry_bits c.args.nodes.now c.args.lookup.now c.args.packet.now c.args.at c.window-window.result c.entry_in-entry.result c.requires.1 c.requires.2 c.window-window.ensures c.entry_in-entry.ensures in
    few

pub returns-then-is_cut : goal.returns-then-is_cut
returns-then-is_cut c = let ends = ltb-true (length c.args.packet.now) (behind c.args.at c.entry_in-entry.result) (sym c.is_cut.ensures ∙ c.if-is_cut.true) in
    sym (ap as_token (entry_cut c.args.nodes.now c.args.lookup.now c.args.packet.now c.args.at c.window-window.result c.entry_in-entry.result c.requires.1 c.requires.2 c.window-window.ensures c.entry_in-entry.ensures (omega (arith, ends))))

pub token_of-requires : goal.token_of-requires
token_of-requires c =
    let few : c.entry_in-entry.result / 2 ^ 36 ≤ 43 =
    entry_bits c.args.nodes.now c.args.lookup.now c.args.packet.now c.args.at c.window-window.result c.entry_in-entry.result c.requires.1 c.requires.2 c.window-window.ensures c.entry_in-entry.ensures in
    let whole = ltb-false (length c.args.packet.now) (behind c.args.at c.entry_in-entry.result) (sym c.is_cut.ensures ∙ c.if-is_cut.false) in (
      entry_row c.args.nodes.now c.args.lookup.now c.args.packet.now c.args.at c.window-window.result c.entry_in-entry.result c.requires.1 c.requires.2 c.window-window.ensures c.entry_in-entry.ensures,
      few,
      omega (arith, whole, c.requires.0),
    )

pub returns : goal.returns
returns c = let whole = ltb-false (length c.args.packet.now) (behind c.args.at c.entry_in-entry.result) (sym c.is_cut.ensures ∙ c.if-is_cut.false) in
    c.token_of.ensures ∙ sym (ap as_token (entry_got c.args.nodes.now c.args.lookup.now c.args.packet.now c.args.at c.window-window.result c.entry_in-entry.result c.requires.1 c.requires.2 c.window-window.ensures c.entry_in-entry.ensures (omega (arith, whole))))
