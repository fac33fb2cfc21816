-- The tests of a shot call, as the program comes to them. Assumes nothing.
use Prim.Native.Nat.{ℕ, ◌*◌, ◌/◌, ◌%◌}
use native.Mathlib.Omega.{arith}
use mathlib.Core.Path.{◌≡◌, refl, sym, ap, ◌∙◌}
use mathlib.Core.Bool.{Bool, true, false, ◌&&◌}
use mathlib.Core.List.{List}
use lib.Dec.{eqb}
use lib.ListN.{length}
use borrow.Author.Tests.{eqb-true, eqb-false, eq-eqb, ne_eqb}
use Rattle.bitstream.specs.Reading.{Outcome, got, refused, choose}
use Rattle.bitstream.specs.Answer.{as_end}
use Rattle.bitstream.specs.declared.End.{End}
use Rattle.headers.specs.declared.Session.{Session}
use Rattle.headers.specs.Fits.{session_fits}
use Rattle.setup.specs.Header.{Setup, setup_header}
use Rattle.setup.specs.Loaded.{as_setup_read}
use Rattle.setup.specs.declared.SetupRead.{SetupRead}
use Rattle.setup.specs.Table.{table_bytes, is_table, held_setup}
use Rattle.table_memory.specs.Kept.{clear_from}
use Rattle.table_memory.specs.Genuine.{ends_clear, genuine}
use Rattle.work_memory.specs.Memory.{Memory}
use Rattle.work_memory.specs.Lengths.{lengths_fit}
use Rattle.calls.specs.Lengths.{buffers_fit}
use Rattle.packet_list.specs.Packets.{answer_size}
use Rattle.buffer_names.specs.declared.Names.{Names}
use Rattle.buffer_names.specs.Names.{names_fit}
use Rattle.calls.specs.declared.Room.{Room}
use Rattle.calls.specs.Room.{room_of, room_for_frames, room_for_work, room_fits, lent_by}
use Rattle.opening.specs.Call.{ShotCall, shot_call, shot_lengths_fit, reaches, lent_number, shot_number}
use Rattle.opening.specs.Tests.{shot_lent_by, late_number}

-- ---- the tests of what is lent
module _ (s : Session) (n : Names) (packets table : ℕ) (r : Room) (answers : ℕ) where
  pub lent_first : {k : ℕ} → k ≡ lent_by s table r → (k ≡ 0 → ⊥) → k ≡ shot_lent_by s n packets table r answers
  unfolding shot_lent_by
  lent_first e h = e ∙ sym (rw (ne_eqb (lent_by s table r) 0 (λ z. h (e ∙ z))))

  module _ {k : ℕ} (e : k ≡ lent_by s table r) (passed : k ≡ 0) {v : Bool} (a : v ≡ eqb answers (answer_size * packets)) where
    pub lent_then : {w : Bool} → v ≡ w → {x : Bool} → names_fit s n ≡ x → choose w (choose x 0 8) 1 ≡ shot_lent_by s n packets table r answers
    unfolding shot_lent_by
    lent_then h f = sym (rw (eq-eqb (lent_by s table r) 0 (sym e ∙ passed), sym a ∙ h, f))

-- the same by what is lent
pub shot_lent : (s : Session) (n : Names) (lengths joined table : List ℕ) (m : Memory) (x y z answers : List ℕ) {r : Room} → r ≡ room_of m x y z → {a : ℕ} → a ≡ length answers
    → {k : ℕ} → k ≡ shot_lent_by s n (length lengths) (length table) r a → k ≡ lent_number (shot_call s n lengths joined table m x y z answers)
unfolding shot_lent_by lent_by lent_number shot_lengths_fit buffers_fit lengths_fit room_for_frames room_for_work
shot_lent s n lengths joined table m x y z answers e ea h =
    h ∙ (λ i. shot_lent_by s n (length lengths) (length table) (e i) (ea i))
    ∙ go (session_fits s) (room_fits s (length table) (room_of m x y z)) (eqb (length answers) (answer_size * length lengths))
  where
    go : (f g b : Bool) → ◌≡◌ {A = ℕ} (choose (eqb (choose f (choose g 0 1) 8) 0) (choose b (choose (names_fit s n) 0 8) 1) (choose f (choose g 0 1) 8)) (choose f (choose (g && b) (choose (names_fit s n) 0 8) 1) 8)
    go true true true = refl
    go true true false = refl
    go true false b = refl
    go false g b = refl

-- so many numbers for so many packets
pub answers_few : (a l : ℕ) → (eqb (a % 8) 0 && eqb (a / 8) l) ≡ eqb a (answer_size * l)
answers_few a l = go (eqb (a % 8) 0) (eqb (a / 8) l) refl refl
  where
    go : (p q : Bool) → eqb (a % 8) 0 ≡ p → eqb (a / 8) l ≡ q → (p && q) ≡ eqb a (answer_size * l)
    go true true hp hq = let u = eqb-true (a % 8) 0 hp in let v = eqb-true (a / 8) l hq in sym (eq-eqb a (answer_size * l) (omega arith))
    go true false hp hq = sym (ne_eqb a (answer_size * l) (λ e. eqb-false (a / 8) l hq (omega arith)))
    go false q hp hq = sym (ne_eqb a (answer_size * l) (λ e. eqb-false (a % 8) 0 hp (omega arith)))

-- ---- the number, as a program comes to it
module _ (lent : ℕ) (place : End) (reach : Bool) where
  pub of_lent : (lent ≡ 0 → ⊥) → lent ≡ choose (eqb lent 0) (late_number place reach) lent
  of_lent h = sym (ap (λ (b : Bool). choose b (late_number place reach) lent) (ne_eqb lent 0 h))

  pub of_late : lent ≡ 0 → {k : ℕ} → late_number place reach ≡ k → k ≡ choose (eqb lent 0) (late_number place reach) lent
  of_late h e = sym e ∙ sym (ap (λ (b : Bool). choose b (late_number place reach) lent) (eq-eqb lent 0 h))

late_is : (t : List ℕ) (v : Bool) → late_number (as_end (held_setup t)) v ≡ choose (is_table t) (choose v 0 16) 8
unfolding held_setup genuine
late_is t v = go (eqb (length t) table_bytes) (setup_header t 0)
  where
    ends : (b : Bool) (s : Setup) (d : ℕ) → late_number (as_end (choose b (got s d) (refused 8 0))) v ≡ choose b (choose v 0 16) 8
    ends true s d = refl
    ends false s d = refl

    go : (b : Bool) (o : Outcome Setup) → late_number (as_end (choose (b && ends_clear t o) o (refused 8 0))) v ≡ choose (b && ends_clear t o) (choose v 0 16) 8
    go false o = refl
    go true (got s d) = ends (clear_from t d) s d
    go true (refused j d) = refl

pub number_is : (c : ShotCall) {lent : ℕ} → lent ≡ lent_number c → {r : SetupRead} → r ≡ as_setup_read (held_setup c.table) → {v : Bool} → v ≡ reaches c
    → {k : ℕ} → k ≡ choose (eqb lent 0) (late_number r.place v) lent → k ≡ shot_number c
unfolding shot_number
number_is c el {r} er {v} ev ek =
    ek ∙ (λ i. choose (eqb (el i) 0) (late_number (er i).place (ev i)) (el i)) ∙ ap (λ (j : ℕ). choose (eqb (lent_number c) 0) j (lent_number c)) (late_is c.table (reaches c))
