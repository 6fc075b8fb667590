-- `dstrain` meets its contract: each row is made place by place, and nine places of it are the definition.
use Rattle.std.proofs.Common.{rules}
use Rattle.std.specs.Float.{binary64, nan}
use Rattle.float.specs.Lists.{◌!◌, each, table}
use Rattle.float.specs.Ops.{ops}
use Rattle.plate_shear.specs.Shear.{dstrain_of}
use Rattle.plate_shear.proofs.Made.{made}
use Rattle.plate_shear.proofs.dstrain.Goals as goal
open ops binary64 use {◌⊕◌, ◌⊖◌, ◌⊗◌}

infixl 75 ◌⊕◌ ◌⊖◌
infixl 80 ◌⊗◌
pub returns : goal.returns
unfolding dstrain_of each table
returns c = rw (
  made _ (λ i. c.de_rt_01-de_rt_01.result ! i ⊕ c.dcoeff_e_rt-dcoeff_e_rt.result ! i ⊗ c.args.s) _ 9 (λ i y q l k. search rules) _ nan c.from_fn.ensures.items,
  made _ (λ i. c.de_st_20-de_st_20.result ! i ⊖ c.dcoeff_e_rt-dcoeff_e_rt.result ! i ⊗ c.args.r) _ 9 (λ i y q l k. search rules) _ nan c.from_fn-2.ensures.items,
  c.de_rt_01-de_rt_01.ensures,
  c.de_st_20-de_st_20.ensures,
  c.dcoeff_e_rt-dcoeff_e_rt.ensures,
)
