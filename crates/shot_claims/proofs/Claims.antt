-- Cutting, 16, and padding. Assumes nothing.
use Prim.Native.Nat.{ℕ, ◌≤◌, ◌<◌}
use native.Mathlib.Omega.{arith}
use mathlib.Core.Path.{◌≡◌, refl, sym, ap, ◌∙◌}
use mathlib.Core.Bool.{Bool, true, false}
use mathlib.Core.List.{List, [], ◌∷◌, ◌++◌}
use lib.Dec.{eqb, leb}
use lib.ListN.{length, drop}
use borrow.Author.Tests.{eqb-true, eqb-false, leb-false, lt-leb}
use Rattle.setup.specs.Table.{is_table}
use Rattle.asked_frame.specs.Answer.{State, Done}
use Rattle.calls.specs.Call.{Call, by_rules}
use Rattle.padding.proofs.Padding.{padding_holds}
use Rattle.packet_list.specs.Packets.{packets_in, total}
use Rattle.packet_list.proofs.Cut.{packets_cut}
use Rattle.shot_packets.specs.Play.{Shot, state_of, call_of, after, one_more, played}
use Rattle.shot_packets.proofs.Cut.{shot_none, shot_one, shot_cut}
use Rattle.opening.specs.Call.{ShotCall, reaches, lent_number, shot_number}
use Rattle.shot_claims.specs.Claims.{Cuts, SixteenExactly, padded_by, AllSettled, ShotsPadded}
use Rattle.opening.proofs.Calls.{lent_few, number_lent, number_table, number_16, number_0}

pub cuts : (does : State → Call → Done) (table : List ℕ) (h : Shot) → Cuts does table h
cuts does table h = record {
  anywhere = λ first second joined. ap (played does table h) (packets_cut first second joined) ∙ shot_cut does table h (packets_in first joined) (packets_in second (drop (total first) joined));
  one = shot_one does table h;
  none = shot_none does table h;
}

pub sixteen_exactly : SixteenExactly
sixteen_exactly c = (λ h. number_16 c h.0 h.1 (lt-leb (total c.lengths) (length c.joined) h.2), λ h. by_lent h (eqb (lent_number c) 0) refl)
  where
    by_reach : shot_number c ≡ 16 → lent_number c ≡ 0 → is_table c.table ≡ true → (b : Bool) → reaches c ≡ b → (lent_number c ≡ 0) × (is_table c.table ≡ true) × (length c.joined < total c.lengths)
    by_reach h l t true e = absurd (omega (arith, h, number_0 c l t e))
    by_reach h l t false e = (l, t, leb-false (total c.lengths) (length c.joined) e)

    by_table : shot_number c ≡ 16 → lent_number c ≡ 0 → (b : Bool) → is_table c.table ≡ b → (lent_number c ≡ 0) × (is_table c.table ≡ true) × (length c.joined < total c.lengths)
    by_table h l true e = by_reach h l e (reaches c) refl
    by_table h l false e = absurd (omega (arith, h, number_table c l e))

    by_lent : shot_number c ≡ 16 → (b : Bool) → eqb (lent_number c) 0 ≡ b → (lent_number c ≡ 0) × (is_table c.table ≡ true) × (length c.joined < total c.lengths)
    by_lent h true e = by_table h (eqb-true (lent_number c) 0 e) (is_table c.table) refl
    by_lent h false e = absurd (omega (arith, h, number_lent c (eqb-false (lent_number c) 0 e), lent_few c))

pub shots_padded : ShotsPadded
unfolding played padded_by AllSettled one_more
shots_padded way table h ps [] s = refl
shots_padded way table h [] (more ∷ rest) s = refl
shots_padded way table h (p ∷ ps) (more ∷ rest) (settled, s) =
    ap (λ (d : Done). played (by_rules way) table (after h d) (padded_by rest ps)) ((padding_holds.0 more).of_frame way (state_of h) (call_of table h p) settled)
    ∙ shots_padded way table (after h (by_rules way (state_of h) (call_of table h p))) ps rest s
