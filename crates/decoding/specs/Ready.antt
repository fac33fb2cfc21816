-- What the reading of a packet leaves for the making of its frame.
use Rattle.std.specs.Prelude.{ℕ, ◌≤◌, ◌≡◌, true, false, List, ℤ, pos, length, replicate}
use Rattle.headers.specs.declared.Session.{Session}
use Rattle.headers.specs.Sizes.{format}
use Rattle.setup.specs.Header.{Setup}
use Rattle.ways.specs.Ways.{first_way}
use Rattle.reconstruct.specs.Picture.{picture_of}
use Rattle.reconstruct.specs.Lent.{blocks_in, matrix_in, Lent, ZerosBehind}
use Rattle.reading.specs.Answer.{read_by}
use Rattle.work_memory.specs.Memory.{Work, memory}
use Rattle.work_memory.specs.Lengths.{blocks}
use Rattle.decoding.specs.declared.Prepared.{Prepared}
use Rattle.asked_frame.specs.Answer.{state, done, decoded}

-- what is left of work memory once the frame is made: the five lists of the blocks are all zero
pub record Emptied (w : Work) (records coded : List ℕ) (coefs dc dc₀ : List ℤ) (lasts : List ℕ) : Type 0 where
  pub records_zero : records ≡ replicate (length w.records) 0
  pub coded_zero : coded ≡ replicate (length w.coded) 0
  pub coefs_zero : coefs ≡ replicate (length w.coefs) (pos 0)
  pub dc_zero : dc ≡ replicate (length dc₀) (pos 0)
  pub lasts_zero : lasts ≡ replicate (length w.lasts) 0

-- the blocks of an accepted packet lie in work memory, and the frame that is made of them is the packet's
pub record Asks (s : Session) (setup : Setup) (packet : List ℕ) (r : Prepared) (w : Work) : Type 0 where
  pub same_format : r.format ≡ format s
  pub lent : Lent r.format s.fields.fmbw s.fields.fmbh w.records w.coded r.count w.coefs w.lasts r.kept.values
  pub behind : ZerosBehind w.coded r.count w.coefs w.lasts
  pub few : r.limit ≤ 127
  pub made : (golden previous new new₀ : List ℕ)
      → new ≡ first_way r.format s.fields.fmbw s.fields.fmbh
      (picture_of r.format s.fields.fmbw s.fields.fmbh (blocks_in w.records w.coded r.count w.coefs w.lasts) (matrix_in r.kept.values) r.limit golden previous) previous
      → (records coded : List ℕ) (coefs dc dc₀ : List ℤ) (lasts : List ℕ) → dc₀ ≡ replicate (blocks s) (pos 0) → Emptied w records coded coefs dc dc₀ lasts
      → done r.answer new (memory records coded coefs dc lasts w.flags w.bits w.supers w.modes w.active) ≡ decoded first_way (state s golden previous) new₀ (read_by s setup packet)

-- a packet that was read: a refused one leaves new and work memory as they are to be, an accepted one asks for its frame
pub record Ready (s : Session) (setup : Setup) (packet : List ℕ) (r : Prepared) (w : Work) : Type 0 where
  pub refused : r.accepted ≡ false → (golden previous new : List ℕ) (dc : List ℤ) → dc ≡ replicate (blocks s) (pos 0)
      → done r.answer new (record { work = w; dc = dc }) ≡ decoded first_way (state s golden previous) new (read_by s setup packet)
  pub accepted : r.accepted ≡ true → Asks s setup packet r w
