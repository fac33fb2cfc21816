-- What the counts of a recording add up to.
use Rattle.std.specs.Prelude.{ℕ, ◌+◌, ◌-◌, ◌*◌, ◌<◌, ◌≡◌, List, length, get_or, take, drop}
use Rattle.bitstream.specs.Reading.{got, refused}
use Rattle.geometry.specs.Sizes.{plane_blocks}
use Rattle.headers.specs.declared.Session.{Session}
use Rattle.headers.specs.Sizes.{format}
use Rattle.work_memory.specs.Lengths as lengths
use Rattle.counting.specs.Counts.{sum}
use Rattle.report.specs.Report.{coded_at, uncoded_at, refusal_at, Numbered, refusal_adds}
use Rattle.census_packets.specs.Recording.{Lent, headers_of, recording_adds}

-- the sum of n numbers of a report, from a place on
abbrev pub part : (from n : ℕ) → List ℕ → ℕ
part from n l = sum (take n (drop from l))

-- accepted packets; of these inter frames, and intra and inter frames; refused packets; blocks; macro blocks
abbrev pub accepted : List ℕ → ℕ
accepted l = part 0 3 l

abbrev pub inters : List ℕ → ℕ
inters l = part 1 1 l

abbrev pub coding : List ℕ → ℕ
coding l = part 0 2 l

abbrev pub refusals : List ℕ → ℕ
refusals l = part 3 17 l

abbrev pub all_blocks : List ℕ → ℕ
all_blocks l = part 20 6 l

abbrev pub all_modes : List ℕ → ℕ
all_modes l = part 26 8 l

-- what n frame packets of a session add
pub record Balanced (s : Session) (n : ℕ) (l : List ℕ) : Type 0 where
  -- "the eight mode counts grow by NMBS times its accepted inter frames"
  pub modes : all_modes l ≡ lengths.macro_blocks s * inters l
  -- "coded plus uncoded by NBS times its accepted intra and inter frames"; and in each plane by its blocks
  pub blocks : all_blocks l ≡ lengths.blocks s * coding l
  pub planes : (p : ℕ) → p < 3 → get_or l (coded_at p) 0 + get_or l (uncoded_at p) 0 ≡ plane_blocks (format s) s.fields.fmbw s.fields.fmbh p * coding l
  -- "Nothing is sampled": each packet is accepted or refused
  pub packets : accepted l + refusals l ≡ n
  -- 8, 14, 15 and 16 are never counted
  pub eight : get_or l (refusal_at 8) 0 ≡ 0
  pub fourteen : get_or l (refusal_at 14) 0 ≡ 0
  pub fifteen : get_or l (refusal_at 15) 0 ≡ 0
  pub sixteen : get_or l (refusal_at 16) 0 ≡ 0

-- of every recording: its frame packets are counted where its headers are sound; else the first refused header is, and nothing else
pub record RecordingBalanced (l : Lent) (packets : List (List ℕ)) : Type 0 where
  pub sound : (s : Session) (e : ℕ) → headers_of (length l.table) packets ≡ got s e → Balanced s (length packets - 3) (recording_adds l packets)
  pub not_sound : (k e : ℕ) → headers_of (length l.table) packets ≡ refused k e → (recording_adds l packets ≡ refusal_adds k 1) × Numbered k

abbrev pub RecordingsBalanced : Type 0
RecordingsBalanced = (l : Lent) (packets : List (List ℕ)) → RecordingBalanced l packets
