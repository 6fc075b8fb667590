-- What a material comes to (01-scope 5.11): lambda and myu, and what is tested of its stiffness; its makers, its words and the stock sheet.
use Rattle.std.specs.Prelude.{◌≡◌, Bool, true, false, cond, not, ◌&&◌, ◌⊎◌, ℕ, eqb, Float}
use Rattle.std.specs.Float.{Format}
use Rattle.std.specs.Float.Ieee.{lt, neg}
use Rattle.std.specs.Float.Ieee.Scale.{finite}
use Rattle.float.specs.Ops.{ops, literal}
use Rattle.refusal.specs.declared.Tests.{Tests}
use Rattle.material.specs.declared.LamePair.{LamePair}
use Rattle.material.specs.declared.Material.{Material}
use Rattle.material.specs.declared.Stiffness.{Stiffness}
use Rattle.material.specs.declared.Stiffness.TheVariants.{Lame, Young}

-- the words for the two
abbrev pub lame_word : ℕ
lame_word = 2

abbrev pub young_word : ℕ
young_word = 3

-- both numbers as they are given
unfoldable pub is_finite_of : Stiffness → Bool
is_finite_of (Lame lambda myu) = finite lambda && finite myu
is_finite_of (Young e v) = finite e && finite v

abbrev pub lame_material : (density thickness lambda myu : Float) → Material
lame_material density thickness lambda myu = record { density = density; thickness = thickness; stiffness = Lame lambda myu }

abbrev pub young_material : (density thickness e v : Float) → Material
young_material density thickness e v = record { density = density; thickness = thickness; stiffness = Young e v }

module _ (f : Format) where
  open ops f use {◌⊕◌, ◌⊖◌, ◌⊗◌, ◌⊘◌, zero, quarter, half, one, two}

  infixl 75 ◌⊕◌ ◌⊖◌
  infixl 80 ◌⊗◌ ◌⊘◌
  -- lambda and myu, of Young's modulus E and Poisson's ratio v in the request's order
  unfoldable pub lame_of : Stiffness → LamePair
  lame_of (Lame lambda myu) = record { lambda = lambda; myu = myu }
  lame_of (Young e v) = record { lambda = e ⊗ v ⊘ ((one ⊕ v) ⊗ (one ⊖ two ⊗ v)); myu = e ⊘ (two ⊗ (one ⊕ v)) }

  -- the pair that is computed of E and v, as a stiffness of its own
  abbrev pub computed : (e v : Float) → Stiffness
  computed e v = let pair = lame_of (Young e v) in Lame pair.lambda pair.myu

  -- none that a sheet can have (01-scope 2.1: 7)
  unfoldable pub is_bad_of : Stiffness → Bool
  is_bad_of (Lame lambda myu) = false
  is_bad_of (Young e v) = not (lt zero e && lt (neg one) v && lt v half)

  -- what a kernel with this stiffness tests, the other numbers that it reads being finite or not
  unfoldable pub tested_of : Stiffness → (others_finite turned zero_divisor bad_answer : Bool) → Tests
  tested_of stiffness others_finite turned zero_divisor bad_answer = record {
    bad_input = not (others_finite && is_finite_of stiffness);
    bad_stiffness = is_bad_of stiffness;
    turned = turned;
    zero_divisor = zero_divisor;
    bad_answer = bad_answer;
  }

  -- by its word; any other word's is refused: its modulus is a zero where a is finite, and a NaN where it is not
  unfoldable pub of_word : (s : ℕ) (a b : Float) → Stiffness
  of_word s a b = cond (eqb s lame_word) (Lame a b) (cond (eqb s young_word) (Young a b) (Young (zero ⊗ a) b))

  -- a material as it crosses to C
  abbrev pub material_of : (s : ℕ) (density thickness a b : Float) → Material
  material_of s density thickness a b = record { density = density; thickness = thickness; stiffness = of_word s a b }

  -- a word for which 7 is given once its numbers are finite (proofs/Words.antt): it is no stiffness's, or it is Young's and that one is bad
  abbrev pub BadWord : (s : ℕ) (a b : Float) → Type 0
  BadWord s a b = ((s ≡ lame_word → ⊥) × (s ≡ young_word → ⊥)) ⊎ ((s ≡ young_word) × (is_bad_of (Young a b) ≡ true))

  -- density 1,400, thickness 2^-9, E 2^31, v 0.25
  abbrev pub stock_sheet : Material
  stock_sheet = young_material (literal f 0x44af_0000 0x4095_e000_0000_0000) (literal f 0x3b00_0000 0x3f60_0000_0000_0000) (literal f 0x4f00_0000 0x41e0_0000_0000_0000) quarter
