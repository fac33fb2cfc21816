-- What the reader's answer says, and what work memory holds after a frame was read, in the words of those who use it. Assumes nothing.
use Prim.Native.Nat.{ℕ, ◌-◌, ◌*◌, ◌≤◌}
use native.Mathlib.Omega.{arith}
use mathlib.Core.Path.{◌≡◌, sym, ap, ◌∙◌}
use mathlib.Core.List.{List}
use lib.IntN.{pos}
use lib.ListN.{length, take, drop, replicate, length-append, length-replicate, length-map}
use lib.Seq.{take_at, drop_at}
use Rattle.geometry.specs.declared.PixelFormat.{PixelFormat}
use Rattle.geometry.specs.Sizes.{blocks_of}
use Rattle.block_record.specs.Packed.{packed}
use Rattle.block_record.specs.Memory.{records_of}
use Rattle.block_record.proofs.MemoryLaws.{records_packed}
use Rattle.frame_header.specs.declared.Kind.{Kind}
use Rattle.frame_header.specs.Answer.{as_header}
use Rattle.bitstream.specs.Reading.{Outcome, got, refused}
use Rattle.packet_body.specs.Frame.{Body, Frame}
use Rattle.packet_body.specs.declared.Read.TheVariants.{Whole, Refused}
use Rattle.frame_packet.specs.declared.FrameRead.{FrameRead}
use Rattle.packet_body.specs.Work.{padded}
use Rattle.frame_packet.specs.Work.{holding, as_frame}
use Rattle.packet_body.proofs.Fits.{BodyFits}

-- ---- what the reader's answer says
pub read_refused : (o : Outcome Frame) {r : FrameRead} {k e : ℕ} → r ≡ as_frame o → r.read ≡ Refused k e → o ≡ refused k e
read_refused (got fr d) {r} {k} {e} a h =
    let t : Whole (length fr.body.coded) fr.body.tokens.tokens d ≡ Refused k e = sym (ap (λ (x : FrameRead). x.read) a) ∙ h in
    let z : ◌≡◌ {A = ℕ} 0 1 = cc in
    absurd (omega arith)
read_refused (refused j d) {r} {k} {e} a h = let t : Refused j d ≡ Refused k e = sym (ap (λ (x : FrameRead). x.read) a) ∙ h in cc

pub read_whole : (o : Outcome Frame) {r : FrameRead} {n t e : ℕ} → r ≡ as_frame o → r.read ≡ Whole n t e
    → (fr : Frame) × (o ≡ got fr e) × (n ≡ length fr.body.coded) × (r.header ≡ as_header fr.header) × (t ≡ fr.body.tokens.tokens)
read_whole (got fr d) {r} {n} {t} {e} a h =
    let z : Whole (length fr.body.coded) fr.body.tokens.tokens d ≡ Whole n t e = sym (ap (λ (x : FrameRead). x.read) a) ∙ h in
    (fr, cc, cc, ap (λ (x : FrameRead). x.header) a, cc)
read_whole (refused j d) {r} {n} {t} {e} a h =
    let t : Refused j d ≡ Whole n t e = sym (ap (λ (x : FrameRead). x.read) a) ∙ h in
    let z : ◌≡◌ {A = ℕ} 0 1 = cc in
    absurd (omega arith)

-- ---- work memory
-- a list of k with zeros behind it, n in all: its length, its front, and what is behind
pub record Front {A : Type 0} (zero : A) (n k : ℕ) (l out : List A) : Type 0 where
  pub long : length out ≡ n
  pub fits : k ≤ length out
  pub front : take k out ≡ l
  pub behind : drop k out ≡ replicate (length out - k) zero

pub padded_front : {A : Type 0} (zero : A) (n k : ℕ) (l : List A) → length l ≡ k → k ≤ n → Front zero n k l (padded zero n l)
padded_front zero n k l e h =
    let m : length (padded zero n l) ≡ n = length-append l (replicate (n - length l) zero) ∙ omega (arith, length-replicate (n - length l) zero) in
    let d : n - length l ≡ length (padded zero n l) - k = omega arith in
    record {
      long = m;
      fits = omega arith;
      front = take_at l (replicate (n - length l) zero) k e;
      behind = drop_at l (replicate (n - length l) zero) k e ∙ ap (λ (j : ℕ). replicate j zero) d;
    }

module _ (f : PixelFormat) (w h : ℕ) (kind : Kind) (qis : ℕ) (b : Body) (x : BodyFits f w h kind qis b) where
  -- the records, of which packing loses nothing
  pub held_records : records_of (holding f w h b).records ≡ b.records
  held_records = records_packed b.records x.in_range

  pub held_long : length (holding f w h b).records ≡ blocks_of f w h
  held_long = length-map b.records packed ∙ x.records

  -- the coded blocks, their coefficients and their last visits
  pub held_coded : Front 0 (blocks_of f w h) (length b.coded) b.coded (holding f w h b).coded
  held_coded = padded_front 0 (blocks_of f w h) (length b.coded) b.coded (λ i. length b.coded) x.most

  pub held_coefs : Front (pos 0) (64 * blocks_of f w h) (64 * length b.coded) b.tokens.coefs (holding f w h b).coefs
  held_coefs = padded_front (pos 0) (64 * blocks_of f w h) (64 * length b.coded) b.tokens.coefs x.tokens.coefs (omega (arith, x.most))

  pub held_lasts : Front 0 (blocks_of f w h) (length b.coded) b.tokens.lasts (holding f w h b).lasts
  held_lasts = padded_front 0 (blocks_of f w h) (length b.coded) b.tokens.lasts x.tokens.lasts x.most
