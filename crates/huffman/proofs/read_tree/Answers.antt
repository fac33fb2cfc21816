-- `huffman::read_tree` meets its contract: the nodes go to scratch memory, and to the table once the tree is whole. Assumes nothing.
use Rattle.bitstream.proofs.Clauses.{two}
use Rattle.huffman.proofs.Grows.{tree_past, tree_4, tree_7, tree_stored}
use Rattle.huffman.proofs.read_tree.Goals as goal

pub returns-then-packet-at : goal.returns-then-packet-at
returns-then-packet-at c = two (λ x y. record { value = x; nodes_after = y }) (tree_past c.args.packet.now c.args.at c.args.nodes.now c.if-packet-at.true)

pub returns-then-grown-eq1 : goal.returns-then-grown-eq1
returns-then-grown-eq1 c = two (λ x y. record { value = x; nodes_after = y }) (tree_4 c.args.packet.now c.args.at c.args.nodes.now _ c.grow-grown.ensures.told c.if-grown-eq1.true)

pub returns-then-grown-eq2 : goal.returns-then-grown-eq2
returns-then-grown-eq2 c = two (λ x y. record { value = x; nodes_after = y }) (tree_7 c.args.packet.now c.args.at c.args.nodes.now _ c.grow-grown.ensures.told c.if-grown-eq2.true)

pub returns : goal.returns
returns c =
    let g = c.grow-grown.ensures in
    two (λ x y. record { value = x; nodes_after = y })
    (tree_stored c.args.packet.now c.args.at c.args.nodes.now _ _ _ c.requires.1 g.told c.if-grown-eq1.false c.if-grown-eq2.false g.stored c.fill_from.ensures)
