-- The face's call, one law for each way that it goes. Assumes nothing.
use Prim.Native.Nat.{ℕ}
use mathlib.Core.Path.{◌≡◌, sym, ap, ◌∙◌}
use mathlib.Core.List.{List}
use borrow.Author.Tests.{ne_eqb}
use lib.ListN.{length}
use Rattle.headers.specs.declared.Session.{Session}
use Rattle.settings.specs.declared.Settings.{Settings}
use Rattle.settings_list.specs.List.{settings_of}
use Rattle.session_list.specs.List.{session_of}
use Rattle.work_memory.specs.Memory.{Memory}
use Rattle.buffer_names.specs.declared.Names.{Names}
use Rattle.opening.specs.Call.{shot_call}
use Rattle.shot_c.specs.Face.{names_in, Lists, lists, lists_after, shot_gives, done_returned}
use Rattle.tiles_shot.specs.Call.{TilesShotDone, tiles_shot}
use Rattle.tiles_shot_c.specs.Face.{TilesShotReturned, tiles_shot_gives, tiles_shot_face}
use Rattle.settings_list.specs.ShotLists.{tiles_shot_number}

-- ---- the call
module _ (settings session names lengths joined table : List ℕ) (m : Memory) (x y z answers maps : List ℕ) {k : ℕ} (e : k ≡ tiles_shot_number settings (length session) (length names)) where
  pub face_made : k ≡ 0 → {set : Settings} → set ≡ settings_of settings → {s : Session} → s ≡ session_of session → {n : Names} → n ≡ names_in names
      → (t : TilesShotDone) → t ≡ tiles_shot set (shot_call s n lengths joined table m x y z answers) maps → {l : Lists} → l ≡ lists_after session names t.shot.answer
      → ◌≡◌ {A = TilesShotReturned} (tiles_shot_gives (record { lists = l; planes = t.shot.planes; memory = t.shot.memory; answers = t.shot.answers }) t.maps)
      (tiles_shot_face settings session names lengths joined table m x y z answers maps)
  unfolding tiles_shot_face
  face_made h f g n t et el =
      (λ i. tiles_shot_gives (record { lists = el i; planes = t.shot.planes; memory = t.shot.memory; answers = t.shot.answers }) t.maps)
      ∙ ap (λ (t : TilesShotDone). tiles_shot_gives (done_returned session names t.shot) t.maps) (et ∙ (λ i. tiles_shot (f i) (shot_call (g i) (n i) lengths joined table m x y z answers) maps))
      ∙ sym (rw (sym e ∙ h))

  pub face_unmade : (k ≡ 0 → ⊥) → tiles_shot_gives (shot_gives (lists k session names) x y z m answers) maps ≡ tiles_shot_face settings session names lengths joined table m x y z answers maps
  unfolding tiles_shot_face
  face_unmade h = rw (ne_eqb _ 0 (λ w. h (e ∙ w))) (ap (λ (j : ℕ). tiles_shot_gives (shot_gives (lists j session names) x y z m answers) maps) e)
