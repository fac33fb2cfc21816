-- `colour_tables::part_of` meets its contract. Assumes nothing.
use Prim.Native.Nat.{ℕ, ◌+◌, ◌-◌, ◌≤◌, ◌<◌}
use native.Mathlib.Omega.{arith}
use mathlib.Core.Path.{◌≡◌, refl, sym, ap, ◌∙◌}
use mathlib.Core.List.{List}
use lib.IntN.{ℤ, pos}
use lib.ListN.{length, get_or}
use mir.Syntax.{w32}
use Rattle.numeric.proofs.Magnitude.{size}
use Rattle.numeric.proofs.Known.{Known, k_made, k_lit, k_add, ask_add}
use Rattle.colour_tables.specs.Rule.{red_cr, green_cr, entry, contributions}
use Rattle.colour_tables.proofs.Tables.{tables_length, Stands, red_at, green_cb_at, green_cr_at, blue_at}
use Rattle.colour_tables.proofs.Parts.{part_cb, part_cr}
use Rattle.colour_tables.proofs.part_of.Goals as goal

room : (ts : List ℤ) → ts ≡ contributions → length ts ≡ 1280
room ts e = ap length e ∙ tables_length

-- the entry at a place of the tables
abbrev is : (ts : List ℤ) → ts ≡ contributions → (i k : ℕ) {z : ℤ} → i ≡ k → Stands k z → Known w32 z 33554432
is ts q i k e t = k_made ((λ j. get_or (q j) (e j) (pos 0)) ∙ t.there) (size t.small) tt

-- a sample of Cr
module _ (ts : List ℤ) (q : ts ≡ contributions) (i : ℕ) (low : 256 ≤ i) (high : i < 512) where
  abbrev v : ℕ
  v = i - 256

  inside : v < 256
  inside = omega arith

  abbrev red : Known w32 (entry red_cr v) 33554432
  red = is ts q i (256 + v) (omega arith) (red_at v inside)

  abbrev green : Known w32 (entry green_cr v) 33554432
  green = is ts q (512 + i) (768 + v) (omega arith) (green_cr_at v inside)

pub bounds-tables-i : goal.bounds-tables-i
bounds-tables-i c = omega (arith, room c.args.tables.now c.requires.0, c.requires.1)

pub bounds-tables-i-then-i-lt256 : goal.bounds-tables-i-then-i-lt256
bounds-tables-i-then-i-lt256 c = omega (arith, room c.args.tables.now c.requires.0, c.if-i-lt256.true)

pub returns-then-i-lt256 : goal.returns-then-i-lt256
returns-then-i-lt256 c =
    let g = is c.args.tables.now c.requires.0 (512 + c.args.i) (512 + c.args.i) refl (green_cb_at c.args.i c.if-i-lt256.true) in
    let b = is c.args.tables.now c.requires.0 (1024 + c.args.i) (1024 + c.args.i) refl (blue_at c.args.i c.if-i-lt256.true) in
    (λ i. record { red = pos 0; green = g.reads i; blue = b.reads i }) ∙ sym (part_cb c.args.i (omega (arith, c.if-i-lt256.true)))

pub bounds-tables-i-2 : goal.bounds-tables-i-2
bounds-tables-i-2 c = omega (arith, room c.args.tables.now c.requires.0, c.requires.1)

pub overflow_add-red : goal.overflow_add-red
overflow_add-red c = ask_add (red c.args.tables.now c.requires.0 c.args.i c.if-i-lt256.false c.requires.1) (k_lit 32768 tt) tt

pub overflow_add-green : goal.overflow_add-green
overflow_add-green c = ask_add (green c.args.tables.now c.requires.0 c.args.i c.if-i-lt256.false c.requires.1) (k_lit 32768 tt) tt

pub returns : goal.returns
returns c =
    let r = k_add (red c.args.tables.now c.requires.0 c.args.i c.if-i-lt256.false c.requires.1) (k_lit 32768 tt) tt in
    let g = k_add (green c.args.tables.now c.requires.0 c.args.i c.if-i-lt256.false c.requires.1) (k_lit 32768 tt) tt in
    (λ i. record { red = r.reads i; green = g.reads i; blue = pos 32768 }) ∙ sym (part_cr c.args.i (omega (arith, c.if-i-lt256.false)))
