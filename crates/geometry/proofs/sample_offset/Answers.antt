-- `geometry::sample_offset` meets its contract. Assumes nothing.
use Prim.Native.Nat.{◌+◌, ◌*◌, ◌≤◌, ◌<◌}
use native.Mathlib.Omega.{arith}
use mathlib.Core.Path.{◌≡◌}
use Rattle.geometry.specs.Sizes.{blocks_of}
use Rattle.geometry.specs.Sample.{sample_at}
use Rattle.geometry.proofs.SizeLaws.{plane_of_small, sizes_small}
use Rattle.geometry.proofs.FrameLaws.{number_fits}
use Rattle.geometry.proofs.SampleLaws.{offset_by}
use borrow.Author.Rules.{rules}
use Rattle.geometry.proofs.sample_offset.Goals as goal

pub overflow_add-result-4 : goal.overflow_add-result-4
overflow_add-result-4 c =
    let found : let o = c.plane_of-q.result.offset + ((8 * c.args.b.y + c.args.r) * (8 * c.plane_of-q.result.across) + (8 * c.args.b.x + c.args.c)) in
    (o ≡ sample_at c.args.format c.args.w c.args.h c.args.b c.args.c c.args.r) × (o < 64 * blocks_of c.args.format c.args.w c.args.h) =
    offset_by c.args.format c.args.w c.args.h c.args.b c.args.c c.args.r c.requires.2 c.requires.3 c.requires.4 c.plane_of-q.result c.plane_of-q.ensures in
    let small : (c.args.b.x < 131070) × (c.args.b.y < 131070) × (c.plane_of-q.result.across ≤ 131070) × (c.plane_of-q.result.offset + ((8 * c.args.b.y + c.args.r) * (8 * c.plane_of-q.result.across) + (8 * c.args.b.x + c.args.c)) < 3298434220800) =
    let n = plane_of_small c.args.format c.args.w c.args.h c.requires.0 c.requires.1 c.plane_of-q.result c.args.b.plane c.requires.2.of_three c.plane_of-q.ensures in
    let k = number_fits c.args.format c.args.w c.args.h c.args.b c.plane_of-q.result c.requires.2 c.plane_of-q.ensures in
    (omega (arith, k.0, n.across), omega (arith, k.1, n.up), n.across, omega (arith, found.1, (sizes_small c.args.format c.args.w c.args.h c.requires.0 c.requires.1).buffer)) in
    let n = small in search rules

pub returns : goal.returns
returns c =
    let found : let o = c.plane_of-q.result.offset + ((8 * c.args.b.y + c.args.r) * (8 * c.plane_of-q.result.across) + (8 * c.args.b.x + c.args.c)) in
    (o ≡ sample_at c.args.format c.args.w c.args.h c.args.b c.args.c c.args.r) × (o < 64 * blocks_of c.args.format c.args.w c.args.h) =
    offset_by c.args.format c.args.w c.args.h c.args.b c.args.c c.args.r c.requires.2 c.requires.3 c.requires.4 c.plane_of-q.result c.plane_of-q.ensures in
    found
