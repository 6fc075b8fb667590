-- `look` meets its contract: each turn of its loop looks at one triangle more.
use mathlib.Core.Path.{◌≡◌, refl}
use mathlib.Core.Bool.{not}
use Prim.Native.Nat.{◌/◌}
use native.Mathlib.Omega.{arith}
use lib.Dec.{ltb}
use lib.Ieee.{binary64}
use lib.ListN.{length}
use Rattle.float.specs.Lists.{every, each, map_threes}
use Rattle.del_geo_core.specs.Tri2.{turns_right}
use Rattle.corners.specs.Plane.{point_finite}
use Rattle.places.specs.Plane.{point_at, corners_at, triangles, named_finite}
use Rattle.mitc_tri3.specs.Masses.{none_turned}
use Rattle.mesh.specs.Blocks.{name_of}
use Rattle.mesh_masses.specs.Blocks.{xy_in}
use Rattle.mesh_masses.proofs.Lists.{every_more, test_more, names_rows, vertices}
use Rattle.mesh_masses.proofs.look.Goals as goal

pub loop-t-init : goal.loop-t-init
unfolding each every map_threes triangles named_finite none_turned
loop-t-init c = record { named = refl; finite = refl; unturned = refl }

pub loop-t-preserved : goal.loop-t-preserved
unfolding corners_at triangles named_finite none_turned
loop-t-preserved c =
    let xy = xy_in c.args.points.now in
    let f = name_of c.args.cells.now in
    let t = c.loop-t.t in
    record {
      named = rw (every_more f t (λ name. ltb name (length c.args.points.now / 24)), ← c.loop-t.invariant.named, c.names.ensures);
      finite = rw (every_more f t (λ i. point_finite (point_at xy i)), ← c.loop-t.invariant.finite, c.is_finite-finite.ensures, c.corners_at-p.ensures, c.names.ensures);
      unturned = rw (test_more f t (corners_at xy) (λ p. not (turns_right binary64 p)), ← c.loop-t.invariant.unturned, c.turns_right.ensures, c.corners_at-p.ensures, c.names.ensures);
    }

pub returns : goal.returns
returns c =
    let e : c.loop-t.t ≡ length c.args.cells.now / 16 = omega arith in
    rw (c.loop-t.invariant.named, c.loop-t.invariant.finite, c.loop-t.invariant.unturned, vertices c.args.points.now, names_rows c.args.cells.now, e)
