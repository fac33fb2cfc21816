-- `block_visits::act_on` meets its contract. Each arm of the token is a way of `act`. Assumes nothing.
use borrow.Author.Rules.{rules}
use Prim.Native.Nat.{ℕ, ◌+◌, ◌-◌, ◌*◌}
use native.Mathlib.Omega.{arith}
use mathlib.Core.Path.{◌≡◌, sym, ap, ◌∙◌}
use mathlib.Core.List.{[]}
use lib.ListN.{set}
use lib.IntN.{ℤ}
use mir.Syntax.{w16}
use Rattle.numeric.proofs.Known.{back}
use Rattle.bitstream.specs.Reading.{Outcome, got}
use Rattle.token.specs.Token.{Meaning}
use Rattle.token.specs.declared.Token.{Token}
use Rattle.block_visits.specs.Visits.{TokenState, state_of}
use Rattle.block_visits.specs.Answer.{outcome_of, acted}
use Rattle.block_positions.proofs.Unfinished.{run_pos, unfinished_some}
use Rattle.block_visits.proofs.Ways.{said, is_end, is_zeros, is_value, act_end, act_zeros, zeros_past, act_value, value_past, on_refusal, on_state}
use Rattle.block_visits.proofs.act_on.Goals as goal

acts : (k b at : ℕ) (s : TokenState) (r : Token) (o : Outcome Meaning) → outcome_of r ≡ o → acted k b at s (outcome_of r) ≡ acted k b at s o
acts k b at s r o h = ap (λ (o : Outcome Meaning). acted k b at s o) h

pub overflow_sub-left : goal.overflow_sub-left
overflow_sub-left c =
    let some = unfinished_some c.args.positions.now c.args.b c.requires.2 (omega (arith, c.requires.1, c.requires.3)) in
    omega (arith, run_pos c.args.positions.now c.in-EndOfBlock.n some, c.run_of-left.ensures)

pub returns-then-to-gt64 : goal.returns-then-to-gt64
returns-then-to-gt64 c =
    let a = c.args in
    let s = state_of a.positions.now a.lasts.now a.coefs.now a.run a.tokens in
    let h = is_zeros (outcome_of a.token) (said a.token) c.in-ZeroRun.is in
    on_refusal _ _ _ (acted a.k a.b a.at s (outcome_of a.token)) (acts a.k a.b a.at s a.token _ h ∙ zeros_past a.k a.b s [] a.at _ _ c.if-to-gt64.true)

pub returns-then-to-gt64-2 : goal.returns-then-to-gt64-2
returns-then-to-gt64-2 c =
    let a = c.args in
    let s = state_of a.positions.now a.lasts.now a.coefs.now a.run a.tokens in
    let h = is_value (outcome_of a.token) (said a.token) c.in-Coefficient.is in
    on_refusal _ _ _ (acted a.k a.b a.at s (outcome_of a.token)) (acts a.k a.b a.at s a.token _ h ∙ value_past a.k a.b s [] a.at _ _ _ c.if-to-gt64-2.true)

pub returns-in-EndOfBlock : goal.returns-in-EndOfBlock
returns-in-EndOfBlock c =
    let a = c.args in
    let s = state_of a.positions.now a.lasts.now a.coefs.now a.run a.tokens in
    let h = is_end (outcome_of a.token) (said a.token) c.in-EndOfBlock.is in
    on_state _ _ _ (acted a.k a.b a.at s (outcome_of a.token))
    (acts a.k a.b a.at s a.token _ h ∙ act_end a.k a.b s [] a.at _ _
    ∙ ap (λ (r : ℕ). got (state_of (set a.positions.now a.b 64) (set a.lasts.now a.b a.k) a.coefs.now (r - 1) (a.tokens + 1)) c.in-EndOfBlock.next) (sym c.run_of-left.ensures))

pub returns-else-to-gt64 : goal.returns-else-to-gt64
returns-else-to-gt64 c =
    let a = c.args in
    let s = state_of a.positions.now a.lasts.now a.coefs.now a.run a.tokens in
    let h = is_zeros (outcome_of a.token) (said a.token) c.in-ZeroRun.is in
    on_state _ _ _ (acted a.k a.b a.at s (outcome_of a.token)) (acts a.k a.b a.at s a.token _ h ∙ act_zeros a.k a.b s [] a.at _ _ c.if-to-gt64.false)

pub returns-else-to-gt64-2 : goal.returns-else-to-gt64-2
returns-else-to-gt64-2 c =
    let a = c.args in
    let s = state_of a.positions.now a.lasts.now a.coefs.now a.run a.tokens in
    let h = is_value (outcome_of a.token) (said a.token) c.in-Coefficient.is in
    let n = c.in-Coefficient.n in
    let z = back w16 c.in-Coefficient.v (search rules) in
    on_state _ _ _ (acted a.k a.b a.at s (outcome_of a.token))
    (acts a.k a.b a.at s a.token _ h ∙ act_value a.k a.b s [] a.at _ _ _ c.if-to-gt64-2.false
    ∙ ap (λ (x : ℤ). got (state_of (set a.positions.now a.b (a.k + n + 1)) (set a.lasts.now a.b a.k) (set a.coefs.now (64 * a.b + (a.k + n)) x) a.run (a.tokens + 1)) c.in-Coefficient.next) (sym z))
