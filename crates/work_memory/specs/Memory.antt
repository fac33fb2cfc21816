-- Work memory: the slices that a caller lends beside a packet and frames.
use Rattle.std.specs.Prelude.{ℕ, List, ℤ}

-- the slices that the reader of a frame packet is lent
pub record Work : Type 0 where
  pub records : List ℕ  -- each block's packed record, by raster number
  pub coded : List ℕ  -- the raster numbers of the coded blocks, in coded order
  pub coefs : List ℤ  -- 64 coefficients for each coded block, by rank, in zig-zag order
  pub lasts : List ℕ  -- the position of each coded block's last visit, by rank
  pub flags : List ℕ  -- a coded flag for each block, in coded order
  pub bits : List ℕ  -- scratch: a bit string; the position that comes next of each coded block
  pub supers : List ℕ  -- scratch: two bit strings of super blocks
  pub modes : List ℕ  -- the mode of each macro block, in coded order
  pub active : List ℕ  -- scratch: the ranks of the unfinished blocks

abbrev pub work : (records coded : List ℕ) (coefs : List ℤ) (lasts flags bits supers modes active : List ℕ) → Work
work records coded coefs lasts flags bits supers modes active = record {
  records = records;
  coded = coded;
  coefs = coefs;
  lasts = lasts;
  flags = flags;
  bits = bits;
  supers = supers;
  modes = modes;
  active = active;
}

-- work memory, all ten slices
pub record Memory : Type 0 where
  pub work : Work
  pub dc : List ℤ  -- the DC of each block after prediction, by raster number

abbrev pub memory : (records coded : List ℕ) (coefs dc : List ℤ) (lasts flags bits supers modes active : List ℕ) → Memory
memory records coded coefs dc lasts flags bits supers modes active = record { work = work records coded coefs lasts flags bits supers modes active; dc = dc }
