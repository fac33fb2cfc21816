-- What the functions answer and how what was read lies in work memory before the scratch is cleared; after a refusal the slices are open.
use Rattle.std.specs.Prelude.{ℕ, ◌-◌, ◌*◌, ◌≡◌, List, ◌++◌, map, ℤ, pos, length, drop, replicate}
use Rattle.bitstream.specs.Answer.{IfGot}
use Rattle.bitstream.specs.Reading.{Outcome, got, refused, Parse, bind}
use Rattle.geometry.specs.declared.PixelFormat.{PixelFormat}
use Rattle.geometry.specs.Sizes.{blocks_of, macro_blocks_of}
use Rattle.block_record.specs.Packed.{packed}
use Rattle.coded_flags.specs.Coded.{coded_blocks, coded_luma, coded_records}
use Rattle.tokens.specs.Tokens.{Tokens}
use Rattle.work_memory.specs.Memory.{Work}
use Rattle.block_record.specs.declared.BlockRecord.{BlockRecord}
use Rattle.frame_header.specs.declared.Kind.{Kind}
use Rattle.packet_body.specs.Frame.{Body, modes_of, vectors_of}
use Rattle.packet_body.specs.declared.Read.{Read}
use Rattle.packet_body.specs.declared.Read.TheVariants.{Whole, Refused}
use Rattle.packet_body.specs.declared.CodedRead.{CodedRead}
use Rattle.packet_body.specs.declared.CodedRead.TheVariants as coded

-- l, and zeros behind it, n in all
abbrev pub padded : {A : Type 0} → A → ℕ → List A → List A
padded zero n l = l ++ replicate (n - length l) zero

-- the numbers of coded blocks and of tokens, and the place behind the packet
abbrev pub as_read : Outcome Body → Read
as_read (got b e) = Whole (length b.coded) b.tokens.tokens e
as_read (refused k e) = Refused k e

-- behind the tokens, where there are n blocks, of which `count` are coded: what was read stands in front, and zeros behind it and behind the first `count` of bits and active
abbrev pub StoredTokens : (n count : ℕ) (coefs : List ℤ) (lasts bits active : List ℕ) → Outcome Tokens → Type 0
StoredTokens n count coefs lasts bits active o =
    IfGot (λ t. (coefs ≡ padded (pos 0) (64 * n) t.coefs) × (lasts ≡ padded 0 n t.lasts) × (drop count bits ≡ replicate (n - count) 0) × (drop count active ≡ replicate (n - count) 0)) o

module _ (f : PixelFormat) (w h : ℕ) where
  -- behind the flags: the numbers of coded blocks and of coded luma blocks; the flags, the records and the list of the coded blocks stand in the slices
  abbrev pub as_coded : Outcome (List ℕ) → CodedRead
  as_coded (got flags e) = coded.Listed (length (coded_blocks f w h flags)) (coded_luma f w h flags) e
  as_coded (refused k e) = coded.Refused k e

  abbrev pub StoredCoded : (flags records coded : List ℕ) → Outcome (List ℕ) → Type 0
  StoredCoded flags records coded o = IfGot (λ l. (flags ≡ l) × (records ≡ map packed (coded_records f w h l)) × (coded ≡ padded 0 (blocks_of f w h) (coded_blocks f w h l))) o

  -- the modes, and then the predictions by them
  unfoldable pub predictions : Kind → List ℕ → List BlockRecord → Parse (List BlockRecord)
  predictions kind flags rs = bind (modes_of f w h kind flags) (λ modes. vectors_of f w h kind modes rs)

  -- behind the predictions: the modes stand in front
  abbrev pub StoredModes : (modes : List ℕ) → Outcome (List ℕ) → Type 0
  StoredModes modes o = IfGot (λ l. modes ≡ padded 0 (macro_blocks_of w h) l) o

  -- behind the body, before the scratch is cleared: what was read, with zeros behind it, and zeros behind the elements of the coded blocks in bits and active
  pub record LeftBy (b : Body) (m : Work) : Type 0 where
    pub records : m.records ≡ map packed b.records
    pub coded : m.coded ≡ padded 0 (blocks_of f w h) b.coded
    pub coefs : m.coefs ≡ padded (pos 0) (64 * blocks_of f w h) b.tokens.coefs
    pub lasts : m.lasts ≡ padded 0 (blocks_of f w h) b.tokens.lasts
    pub modes : m.modes ≡ padded 0 (macro_blocks_of w h) b.modes
    pub bits : drop (length b.coded) m.bits ≡ replicate (blocks_of f w h - length b.coded) 0
    pub active : drop (length b.coded) m.active ≡ replicate (blocks_of f w h - length b.coded) 0

  abbrev pub Left : Work → Outcome Body → Type 0
  Left m o = IfGot (λ b. LeftBy b m) o
