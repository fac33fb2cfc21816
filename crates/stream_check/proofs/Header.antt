-- The header's line, as it was written into an array. Assumes nothing.
use Prim.Native.Nat.{ℕ, ◌≤◌}
use native.Mathlib.Omega.{arith}
use mathlib.Core.Path.{◌≡◌, sym, ap, ◌∙◌}
use mathlib.Core.Bool.{true}
use mathlib.Core.List.{List, ◌++◌}
use lib.ListN.{length, take, drop, length-append}
use lib.Seq.{take-append_seam}
use Rattle.headers.specs.declared.Session.{Session}
use Rattle.headers.specs.Fits.{session_fits}
use Rattle.output.specs.declared.Written.{Written}
use Rattle.output.specs.declared.Written.TheVariants.{Bytes, Refused}
use Rattle.output.specs.Output.{Output, gives, left_by, as_written}
use Rattle.output.proofs.Splices.{within_fits}
use Rattle.stream_numbers.specs.Numbers.{numbers_of}
use Rattle.y4m.specs.Stream.{header_text, header_for}
use Rattle.y4m.proofs.HeaderLaws.{header_short}

bytes_of : Written → ℕ
bytes_of (Bytes n) = n
bytes_of (Refused k e) = 0

pub record Line (s : Session) (line : List ℕ) (n : ℕ) : Type 0 where
  pub end : n ≡ length (header_text (numbers_of s))
  pub room : n ≤ length line
  pub whole : n ≡ length (take n line)
  pub is : take n line ≡ header_text (numbers_of s)

module _ (s : Session) (fits : session_fits s ≡ true) (before : List ℕ) (long : length before ≡ 110) (r : Written) (er : r ≡ as_written (header_for s (length before))) where
  abbrev t : List ℕ
  t = header_text (numbers_of s)

  written : header_for s (length before) ≡ gives t
  unfolding header_for
  written = rw fits (within_fits (length before) t (omega (arith, (header_short (numbers_of s)).1, long)))

  pub header_line : (line : List ℕ) → line ≡ left_by (header_for s (length before)) before → (n : ℕ) → r ≡ Bytes n → Line s line n
  unfolding bytes_of
  header_line line el n en =
      let l : line ≡ t ++ drop (length t) before = el ∙ ap (λ (o : Output). left_by o before) written in
      let k : n ≡ length t = ap bytes_of (sym en ∙ er ∙ ap as_written written) in
      let is : take n line ≡ t = (λ i. take (k i) (l i)) ∙ take-append_seam t (drop (length t) before) in
      record {
        end = k;
        room = omega (arith, ap (λ (x : List ℕ). length x) l, length-append t (drop (length t) before), k);
        whole = k ∙ sym (ap (λ (x : List ℕ). length x) is);
        is = is;
      }

  pub header_written : {k e : ℕ} → r ≡ Refused k e → ⊥
  unfolding bytes_of
  header_written en = let z : 0 ≡ length t = ap bytes_of (sym en ∙ er ∙ ap as_written written) in absurd (omega (arith, z, (header_short (numbers_of s)).0))
