-- `vectors::read_number` meets its contract. Assumes nothing.
use Prim.Native.Nat.{◌<◌}
use mathlib.Core.Path.{refl, sym, subst}
use Rattle.geometry.specs.declared.Place.{Place}
use Rattle.geometry.proofs.PlaneOrders.{macro_order}
use Rattle.vectors.specs.Memory.{state_of}
use Rattle.vectors.proofs.Records.{on_step}
use Rattle.vectors.proofs.Start.{passed_over}
use Rattle.bitstream.proofs.Clauses.{two}
use Rattle.vectors.proofs.read_number.Goals as goal

pub returns-then-mode-eq0 : goal.returns-then-mode-eq0
returns-then-mode-eq0 c = two (λ a b. record { value = a; stored_state = b }) (on_step c.args.records.now _ (passed_over c.args.format c.args.w c.args.h c.args.code c.args.mode c.args.m (state_of c.args.records.now c.args.last c.args.last2) c.args.packet.now c.args.at c.if-mode-eq0.true c.requires.3 c.requires.8) refl c.requires.7)

pub read_macro_block-requires : goal.read_macro_block-requires
read_macro_block-requires c = let o = (macro_order c.args.w c.args.h).back c.args.m c.requires.3 in
    let b = subst (λ (q : Place). (q.x < c.args.w) × (q.y < c.args.h)) (sym c.macro_block_at-q.ensures) (o.0, o.1) in
    (c.requires.0, c.requires.1, c.requires.2, b.0, b.1, c.requires.4, c.requires.5, c.requires.6, c.requires.7)
