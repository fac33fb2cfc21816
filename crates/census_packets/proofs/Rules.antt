-- The frame packets of a recording, by the lengths that are lent. Assumes nothing.
use Prim.Native.Nat.{ℕ, suc, ◌+◌}
use native.Mathlib.Omega.{arith}
use mathlib.Core.Path.{◌≡◌, refl, ap, ◌∙◌}
use mathlib.Core.Bool.{Bool, true, false, ◌&&◌}
use mathlib.Core.List.{List, [], ◌∷◌}
use lib.ListN.{length}
use Rattle.bitstream.specs.Reading.{Outcome, got, refused}
use Rattle.headers.specs.declared.Session.{Session}
use Rattle.headers.specs.Fits.{session_fits}
use Rattle.frame_header.specs.declared.Kind.{Kind}
use Rattle.frame_header.specs.declared.Kind.TheVariants.{Intra, Inter, Repeat}
use Rattle.work_memory.specs.Lengths.{blocks, lengths_of, lengths_fit, cleared}
use Rattle.reading.specs.Answer.{Asked, stays_counted, read, session_after, answer_for}
use Rattle.reading.proofs.Counted.{fits_after}
use Rattle.reading.proofs.Places.{read_got}
use Rattle.calls.specs.Lengths.{buffers_fit}
use Rattle.calls.specs.Call.{outcome_of}
use Rattle.report.specs.Report.{plus, only, refusal_adds}
use Rattle.census_packets.specs.Recording.{Lent, outcome_lent, packet_adds, packets_add}

-- ---- what stays from packet to packet
cleared_after : (kind : Kind) (s : Session) → cleared (lengths_of (session_after kind s)) ≡ cleared (lengths_of s)
unfolding session_after
cleared_after Intra s = refl
cleared_after Inter s = refl
cleared_after Repeat s = refl

pub session_kept : (s : Session) → session_fits s ≡ true → (o : Outcome Asked) → ((a : Asked) (e : ℕ) → o ≡ got a e → stays_counted a.frame.header.kind s ≡ true)
    → let s' = (answer_for s o).session in (session_fits s' ≡ true) × (cleared (lengths_of s') ≡ cleared (lengths_of s))
session_kept s fits (refused k e) stays = (fits, refl)
session_kept s fits (got a e) stays = let kind = a.frame.header.kind in (fits_after kind s fits (stays a e refl), cleared_after kind s)

pub read_kept : (s : Session) → session_fits s ≡ true → (table packet : List ℕ)
    → let s' = (answer_for s (read s table packet)).session in (session_fits s' ≡ true) × (cleared (lengths_of s') ≡ cleared (lengths_of s))
read_kept s fits table packet = session_kept s fits (read s table packet) (λ a e r. (read_got s packet table r).1)

module _ (l : Lent) (table : List ℕ) where
  -- every lent length is the published one
  abbrev pub hold : Session → Bool
  hold s = buffers_fit (blocks s) l.golden l.previous l.new table && lengths_fit (lengths_of s) l.memory

  hold_after : (kind : Kind) (s : Session) → hold (session_after kind s) ≡ hold s
  unfolding session_after
  hold_after Intra s = refl
  hold_after Inter s = refl
  hold_after Repeat s = refl

  hold_kept : (s : Session) (o : Outcome Asked) → hold (answer_for s o).session ≡ hold s
  hold_kept s (refused k e) = refl
  hold_kept s (got a e) = hold_after a.frame.header.kind s

  outcome_read : (s : Session) → session_fits s ≡ true → hold s ≡ true → (p : List ℕ) → outcome_lent l table s p ≡ read s table p
  unfolding outcome_of
  outcome_read s fits h p = rw (fits, h)

  outcome_wrong : (s : Session) → session_fits s ≡ true → hold s ≡ false → (p : List ℕ) → outcome_lent l table s p ≡ refused 1 0
  unfolding outcome_of
  outcome_wrong s fits h p = rw (fits, h)

  -- with lengths that fit, the packets are read by the table memory
  pub adds_read : (ps : List (List ℕ)) (s : Session) → session_fits s ≡ true → hold s ≡ true → packets_add (outcome_lent l table) s ps ≡ packets_add (λ s p. read s table p) s ps
  unfolding packets_add
  adds_read [] s fits h = refl
  adds_read (p ∷ ps) s fits h =
      let e = outcome_read s fits h p in
      let o = read s table p in
      (λ i. plus (packet_adds s (e i)) (packets_add (outcome_lent l table) (answer_for s (e i)).session ps))
      ∙ ap (plus (packet_adds s o)) (adds_read ps (answer_for s o).session (read_kept s fits table p).0 (hold_kept s o ∙ h))

  one_more : (n : ℕ) → plus (only 3 1) (only 3 n) ≡ only 3 (suc n)
  unfolding plus
  one_more n = let e : 1 + n ≡ suc n = omega arith in ap (λ (k : ℕ). only 3 k) e

  -- with others, each is refused by 1
  pub adds_wrong : (ps : List (List ℕ)) (s : Session) → session_fits s ≡ true → hold s ≡ false → packets_add (outcome_lent l table) s ps ≡ refusal_adds 1 (length ps)
  unfolding packets_add
  adds_wrong [] s fits h = refl
  adds_wrong (p ∷ ps) s fits h =
      let e = outcome_wrong s fits h p in
      (λ i. plus (packet_adds s (e i)) (packets_add (outcome_lent l table) (answer_for s (e i)).session ps)) ∙ ap (plus (refusal_adds 1 1)) (adds_wrong ps s fits h) ∙ one_more (length ps)
