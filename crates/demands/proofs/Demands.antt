-- The three demands hold: each field is the theorem of its own crate.
use mathlib.Core.Path.{◌∙◌}
use lib.Ieee.{binary64}
use lib.ListN.{length}
use Rattle.strain.specs.Strain.{rest_of, rest_of_green_lagrange}
use Rattle.refusal.proofs.EnergyAnswer.{taken_never_3}
use Rattle.root.proofs.RootOf.{nan_word_lem}
use Rattle.root.proofs.Unique as root
use Rattle.quadratic_bending.proofs.BendingAnswer as bending
use Rattle.stvk_tri3.proofs.StrainAnswer as strain
use Rattle.stvk_tri3.proofs.EnergyAnswer as stvk
use Rattle.mitc_tri3.proofs.PlateAnswer as plate
use Rattle.mitc_tri3.proofs.MassesAnswer as masses
use Rattle.skin.proofs.SkinAnswer as skin
use Rattle.skin.proofs.Stiffness as stiffness
use Rattle.skin.proofs.Young as young
use Rattle.skin.specs.Skin.{answer_of}
use Rattle.mesh.proofs.Accepted as mesh
use Rattle.mass_bounds.proofs.Bounds as bounds
use Rattle.examples.proofs.Examples.{examples_hold}
use Rattle.demands.specs.Demands.{Demand1, Demand2, Materials, Turns, Demands}

refusals : Demand1
refusals = record {
  bending = λ p_ini p_def. record {
    exactly = bending.numbers_exactly binary64 p_ini p_def;
    zero_values = λ is h. let v = bending.refused_values binary64 p_ini p_def is h in rw (v.0, v.1);
  };
  strain = λ p_ini p_def. record {
    exactly = strain.numbers_exactly binary64 (rest_of binary64) p_ini p_def;
    zero_values = λ is h. let v = strain.refused_values binary64 (rest_of binary64) p_ini p_def is h in rw (v.0, v.1);
  };
  green_lagrange = λ p_ini p_def. record {
    exactly = strain.numbers_exactly binary64 (rest_of_green_lagrange binary64) p_ini p_def;
    zero_values = λ is h. let v = strain.refused_values binary64 (rest_of_green_lagrange binary64) p_ini p_def is h in rw (v.0, v.1);
  };
  stvk = λ p0 p1 m. record {
    exactly = stvk.numbers_exactly binary64 p0 p1 m;
    zero_values = λ is h. let v = stvk.refused_values binary64 p0 p1 m is h in rw (v.0, v.1, v.2);
  };
  plate = λ p u m. record {
    exactly = plate.numbers_exactly binary64 p u m;
    zero_values = λ is h. let v = plate.refused_values binary64 p u m is h in rw (v.0, v.1, v.2);
  };
  masses = λ tri2vtx vtx2xy m before is. let on = masses.numbers_exactly binary64 tri2vtx vtx2xy m before is in
      (on, masses.refused_cleared binary64 tri2vtx vtx2xy m before is, masses.refused_unchanged binary64 tri2vtx vtx2xy m before is);
  skin = λ vtx2ini vtx2def tri2vtx m before is. let a = answer_of binary64 vtx2ini vtx2def m.stiffness in (
    skin.numbers_exactly binary64 a (length vtx2ini) (length vtx2def) tri2vtx before is,
    skin.refused_energy binary64 a (length vtx2ini) (length vtx2def) tri2vtx before is,
    skin.refused_cleared binary64 a (length vtx2ini) (length vtx2def) tri2vtx before is,
    skin.refused_unchanged binary64 a (length vtx2ini) (length vtx2def) tri2vtx before is,
    stiffness.seven_first binary64 vtx2ini vtx2def tri2vtx m before is,
  );
  mesh_accepts = mesh.accepted_exactly;
  mesh_refuses = mesh.refused_8_exactly;
}

numbers : Demand2
numbers = record {
  root = λ x is. is.rule;
  one_root = root.unique binary64;
  root_word = λ w is. is.rule;
  nan_word = λ w is a. is.same ∙ nan_word_lem binary64 w a;
  bending = λ p_ini p_def. record { bits = bending.accepted_values binary64 p_ini p_def; only = bending.unique binary64 p_ini p_def };
  strain = λ p_ini p_def. record {
    bits = λ is h. let v = strain.accepted_values binary64 (rest_of binary64) p_ini p_def is h in rw (v.0, v.1);
    only = strain.unique binary64 (rest_of binary64) p_ini p_def;
  };
  green_lagrange = λ p_ini p_def. record {
    bits = λ is h. let v = strain.accepted_values binary64 (rest_of_green_lagrange binary64) p_ini p_def is h in rw (v.0, v.1);
    only = strain.unique binary64 (rest_of_green_lagrange binary64) p_ini p_def;
  };
  stvk = λ p0 p1 m. record {
    bits = λ is h. let v = stvk.accepted_values binary64 p0 p1 m is h in rw (v.0, v.1, v.2);
    only = stvk.unique binary64 p0 p1 m;
  };
  plate = λ p u m. record {
    bits = λ is h. let v = plate.accepted_values binary64 p u m is h in rw (v.0, v.1, v.2);
    only = plate.unique binary64 p u m;
  };
  masses = λ tri2vtx vtx2xy m before is. masses.accepted_masses binary64 tri2vtx vtx2xy m before is;
  unturned_plate = λ p u m is. plate.accepted_unturned binary64 p u m is;
  unturned_panel = λ tri2vtx vtx2xy m before is. masses.accepted_unturned binary64 tri2vtx vtx2xy m before is;
  one_panel = masses.unique binary64;
  skin = λ vtx2ini vtx2def tri2vtx m before is. skin.accepted_sums binary64 _ _ _ tri2vtx before is;
  one_skin = skin.unique binary64;
  examples = examples_hold;
}

materials : Materials
materials = record {
  stvk_uses = stvk.looked_at binary64;
  plate_uses = plate.looked_at binary64;
  masses_use = masses.looked_at binary64;
  skin_uses = stiffness.looked_at binary64;
  stvk_young = λ p0 p1 density thickness e v r is. stvk.young_is_lame binary64 p0 p1 density thickness e v is;
  plate_young = λ p u density thickness e v r is. plate.young_is_lame binary64 p u density thickness e v is;
  skin_young = λ vtx2ini vtx2def tri2vtx before density thickness e v r is h. young.young_is_lame binary64 vtx2ini vtx2def e v h density thickness tri2vtx before is;
  stvk_taken = λ p0 p1 density thickness e v is c h b. let t = stvk.young_taken binary64 p0 p1 density thickness e v is c h b in (t, rw t (taken_never_3 binary64 _ _ _));
  plate_taken = λ p u density thickness e v is c h b. let t = plate.young_taken binary64 p u density thickness e v is c h b in (t, rw t (taken_never_3 binary64 _ _ _));
}

turns : Turns
turns = record {
  plate = λ p u m is. plate.refused_6_exactly binary64 p u m is;
  masses = λ tri2vtx vtx2xy m before is. masses.refused_6_exactly binary64 tri2vtx vtx2xy m before is;
  whole_corners = bounds.turned_exactly;
}

pub demands : Demands
demands = record { demand_1 = refusals; demand_2 = numbers; demand_3 = record { masses = bounds.demand_3 }; materials = materials; turns = turns }
