-- The two lists of unfinished blocks over all positions. Assumes nothing.
use Prim.Native.Nat.{ℕ, ◌-◌, ◌≤◌, ◌<◌}
use native.Mathlib.Omega.{arith}
use mathlib.Core.Path.{◌≡◌, sym, ap, ◌∙◌}
use mathlib.Core.List.{List}
use lib.ListN.{length, take, drop, length-drop}
use lib.Seq.{take_all}
use Rattle.huffman.specs.Tree.{Tree}
use Rattle.block_visits.specs.Visits.{TokenState}
use Rattle.table_choices.specs.Choices.{Choices}
use Rattle.tokens.specs.Tokens.{at_position, ranks}
use Rattle.block_positions.specs.Answer.{Below}
use Rattle.tokens.specs.Answer.{unfinished_of, AllOpen, KeptActive}
use Rattle.token_visits.proofs.Goes.{Later, below_each}
use Rattle.tokens.proofs.Unfinished.{unfinished_all, unfinished_twice, below_unfinished, position_unfinished}
use Rattle.tokens.proofs.Positions.{ranks_length, ranks_below, ranks_front, ranks_back}

-- of `count` blocks at the positions ps, luma's unfinished ones are the first `lumas` of the slice, and chroma's those from luma to `end`
pub record Lists (count : ℕ) (ps bs : List ℕ) (luma lumas end : ℕ) : Type 0 where
  pub within : lumas ≤ luma
  pub from : luma ≤ end
  pub to : end ≤ length bs
  pub luma_blocks : take lumas bs ≡ unfinished_of ps (ranks 0 luma)
  pub chroma_blocks : take (end - luma) (drop luma bs) ≡ unfinished_of ps (ranks luma (count - luma))

-- at the start all blocks are unfinished
pub lists_start : (count : ℕ) (ps bs : List ℕ) (luma : ℕ) → luma ≤ count → AllOpen ps → bs ≡ ranks 0 count → Lists count ps bs luma luma (length bs)
lists_start count ps bs luma h o e =
    let n : length bs ≡ count = ap length e ∙ ranks_length 0 count in
    record {
      within = omega arith;
      from = omega (arith, n);
      to = omega arith;
      luma_blocks = ap (take luma) e ∙ (ranks_front luma count h ∙ sym (unfinished_all ps (ranks 0 luma) o.each));
      chroma_blocks =
          take_all (length bs - luma) (drop luma bs) (omega (arith, length-drop luma bs))
          ∙ (ap (drop luma) e ∙ (ranks_back luma count h ∙ sym (unfinished_all ps (ranks luma (count - luma)) o.each)));
    }

module _ (count : ℕ) (ps bs : List ℕ) (luma lumas end : ℕ) (h : luma ≤ count) (l : Lists count ps bs luma lumas end) where
  pub luma_below : Below count (take lumas bs)
  luma_below = rw l.luma_blocks (below_each count _ (below_unfinished count ps (ranks 0 luma) (ranks_below 0 luma count (omega arith))))

  pub chroma_below : Below count (take (end - luma) (drop luma bs))
  chroma_below = rw l.chroma_blocks (below_each count _ (below_unfinished count ps (ranks luma (count - luma)) (ranks_below luma (count - luma) count (omega arith))))

  -- after a position, with the finished blocks left out
  pub lists_on : (qs bs' : List ℕ) (lumas' end' : ℕ) → Later ps qs → length bs' ≡ length bs → KeptActive qs bs luma lumas end bs' lumas' end' → Lists count qs bs' luma lumas' end'
  lists_on qs bs' lumas' end' m n k =
      record {
        within = omega (arith, k.fewer, l.within);
        from = k.from;
        to = omega (arith, k.to, l.to, n);
        luma_blocks = k.luma_blocks ∙ (ap (unfinished_of qs) l.luma_blocks ∙ unfinished_twice ps qs (ranks 0 luma) m);
        chroma_blocks = k.chroma_blocks ∙ (ap (unfinished_of qs) l.chroma_blocks ∙ unfinished_twice ps qs (ranks luma (count - luma)) m);
      }

-- so a position may look at the two lists alone
pub lists_position : (trees : List Tree) (count : ℕ) (s : TokenState) (bs : List ℕ) (luma lumas end k : ℕ) (ch : Choices) (p : List ℕ) (i : ℕ) → luma ≤ count → length s.positions ≡ count → k < 64
    → Lists count s.positions bs luma lumas end
    → at_position trees (ranks 0 luma) (ranks luma (count - luma)) k ch s p i ≡ at_position trees (take lumas bs) (take (end - luma) (drop luma bs)) k ch s p i
lists_position trees count s bs luma lumas end k ch p i h n l w =
    sym
    ((λ j. at_position trees (w.luma_blocks j) (w.chroma_blocks j) k ch s p i)
    ∙ position_unfinished trees (ranks 0 luma) (ranks luma (count - luma)) k ch s p i l (ranks_below 0 luma (length s.positions) (omega (arith, n))) (ranks_below luma (count - luma) (length s.positions) (omega (arith, n))))
