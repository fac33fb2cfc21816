-- Demand 3, proved whole: of every list of frame calls, from every fresh session.
-- Assumes nothing.
use mathlib.Core.Path.{◌≡◌, refl, sym, ap, ap₂, ◌∙◌, fun_ext}
use mathlib.Core.Bool.{Bool, true, false}
use mathlib.Core.List.{List, [], ◌∷◌}
use mathlib.Core.Logic.{inl, inr}
use Prim.Native.Nat.{ℕ, ◌*◌}
use native.Mathlib.Omega.{arith}
use lib.ListN.{length, get_or}
use Rattle.bitstream.specs.Reading.{Outcome, got, refused, choose}
use Rattle.geometry.specs.Sample.{sample_at}
use Rattle.headers.specs.Fits.{session_fits}
use Rattle.ways.specs.Loops.{◌∈◌}
use Rattle.ways.specs.Ways.{first_way, second_way}
use Rattle.ways.proofs.Agree.{ways_agree}
use Rattle.ways.proofs.Kept.{differs_along}
use Rattle.headers.specs.Sizes.{format}
use Rattle.work_memory.specs.Lengths.{blocks}
use Rattle.reading.specs.Answer.{Asked, read, answer_for}
use Rattle.asked_frame.specs.Answer.{State, Done, done, picture, new_by, state}
use Rattle.calls.specs.Call.{Call, lengths_hold, outcome_of, memory_after, by_rules, FramePromise}
use Rattle.calls.proofs.Lengths.{lent_lengths}
use Rattle.calls.specs.Demand.{Turn, turn, turns, Ran, UncodedKept, Demand3, Demand3Holds}

-- an accepted call passed both tests
passed : (a b : Bool) (o : Outcome Asked) {x : Asked} {e : ℕ} → choose a (choose b o (refused 1 0)) (refused 8 0) ≡ got x e → b ≡ true
passed true true o h = refl
passed true false o h = let z : ◌≡◌ {A = ℕ} 0 1 = cc in absurd (omega arith)
passed false b o h = let z : ◌≡◌ {A = ℕ} 0 1 = cc in absurd (omega arith)

-- previous has the length of a frame where a call is accepted
outcome_sized : (st : State) (c : Call) {a : Asked} {e : ℕ} → outcome_of st c ≡ got a e → length st.previous ≡ 64 * blocks st.session
unfolding outcome_of
outcome_sized st c h =
    let s = st.session in
    (lent_lengths s st.golden st.previous c.new c.table c.memory (passed (session_fits s) (lengths_hold st c) (read s c.table c.packet) h)).1

-- one call: the two ways leave the same
new_agrees : (st : State) (c : Call) (o : Outcome Asked) → outcome_of st c ≡ o → new_by first_way st c.new o ≡ new_by second_way st c.new o
new_agrees st c (refused k e) h = refl
new_agrees st c (got a e) h =
    let s = st.session in
    ways_agree (format s) s.fields.fmbw s.fields.fmbh (picture s a st.golden st.previous) st.previous (outcome_sized st c h)

pub call_agrees : (st : State) (c : Call) → by_rules first_way st c ≡ by_rules second_way st c
unfolding by_rules
call_agrees st c =
    let same = new_agrees st c (outcome_of st c) refl in
    λ i. done (answer_for st.session (outcome_of st c)) (same i) (memory_after st c)

-- all calls
all_agree : by_rules first_way ≡ by_rules second_way
all_agree = fun_ext (λ st. fun_ext (λ c. call_agrees st c))

-- turns that keep a promise which settles what is left are the turns of that
ran_is : (does : State → Call → Done) (st : State) (cs : List Call) (ts : List Turn) → Ran (λ st c d. d ≡ does st c) st cs ts → ts ≡ turns does st cs
unfolding Ran turns
ran_is does st [] [] h = refl
ran_is does st [] (t ∷ ts) h = absurd h
ran_is does st (c ∷ cs) [] h = absurd h
ran_is does st (c ∷ cs) (t ∷ ts) h =
    let e : t ≡ turn st c (does st c) = h.0 ∙ ap (turn st c) h.1 in
    ap₂ {C = List Turn} (λ x xs. x ∷ xs) e (ran_is does t.after cs ts h.2 ∙ ap (λ (x : Turn). turns does x.after cs) e)

-- each turn is a call, done as said
each_turn : (does : State → Call → Done) (st : State) (cs : List Call) (t : Turn) → t ∈ turns does st cs → t.done ≡ does t.before t.call
unfolding turns
each_turn does st [] t m = absurd m
each_turn does st (c ∷ cs) t (inl e) = ap (λ (x : Turn). x.done) e ∙ sym (ap (λ (x : Turn). does x.before x.call) e)
each_turn does st (c ∷ cs) t (inr m) = each_turn does (turn st c (does st c)).after cs t m

kept : (t : Turn) → t.done ≡ by_rules first_way t.before t.call → UncodedKept t
unfolding UncodedKept by_rules
kept t done a e outcome-so b c r inside hc hr uncoded differs =
    let st = t.before in
    let s = st.session in
    let pic = picture s a st.golden st.previous in
    let len = outcome_sized st t.call outcome-so in
    let new : t.done.new ≡ second_way (format s) s.fields.fmbw s.fields.fmbh pic st.previous
    = ap (λ (d : Done). d.new) done ∙ ap (λ (o : Outcome Asked). new_by first_way st t.call.new o) outcome-so ∙ ways_agree (format s) s.fields.fmbw s.fields.fmbh pic st.previous len in
    differs_along (format s) s.fields.fmbw s.fields.fmbh pic st.previous len b c r inside hc hr uncoded
    (λ same. differs (ap (λ (l : List ℕ). get_or l (sample_at (format s) s.fields.fmbw s.fields.fmbh b c r) 0) new ∙ same))

-- there is such a run: that of the definition
pub runs : (start : State) (cs : List Call) → Ran FramePromise start cs (turns (by_rules first_way) start cs)
unfolding Ran turns
runs start [] = tt
runs start (c ∷ cs) = (refl, refl, runs (turn start c (by_rules first_way start c)).after cs)

-- for every list of calls, from whatever session, golden and previous
pub demand3 : (start : State) (cs : List Call) → Demand3 start cs
demand3 start cs = record {
  frame_agrees = ran_is (by_rules first_way) start cs;
  ways_agree = ap (λ (f : State → Call → Done). turns f start cs) all_agree;
  uncoded_kept = λ t m. kept t (each_turn (by_rules first_way) start cs t m);
}

pub demand3_holds : Demand3Holds
demand3_holds header s e accepted golden previous cs = demand3 (state s golden previous) cs
