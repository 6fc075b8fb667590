-- Texts that are written one after the other are written together, up to the end of the buffer: what there was no room for leaves no room for the rest.
use mathlib.Core.Path.{◌≡◌, refl, sym, ◌∙◌, ap}
use mathlib.Core.List.{List, [], ◌∷◌, ◌++◌}
use Prim.Native.Nat.{ℕ, zero, suc, ◌+◌, ◌-◌, ◌≤◌, ◌<◌, min}
use native.Mathlib.Nat.{zero-min, min-zero, suc-min-suc, zero-add, suc-add, sub-zero, suc-sub-suc}
use native.Mathlib.Omega.{arith}
use lib.ListN.{length, set, take, drop, length-append}
use Rattle.lines.specs.Filled.{over_at, Writes}

pub over_length : (at : ℕ) (w b : List ℕ) → length (over_at at w b) ≡ length b
unfolding over_at
over_length at w [] = refl
over_length (suc at) w (x ∷ b) = ap suc (over_length at w b)
over_length zero [] (x ∷ b) = refl
over_length zero (c ∷ w) (x ∷ b) = ap suc (over_length zero w b)

over_none : (at : ℕ) (b : List ℕ) → over_at at [] b ≡ b
unfolding over_at
over_none at [] = refl
over_none (suc at) (x ∷ b) = ap (λ (l : List ℕ). x ∷ l) (over_none at b)
over_none zero (x ∷ b) = refl

over_end : (at : ℕ) (w b : List ℕ) → length b ≤ at → over_at at w b ≡ b
unfolding over_at
over_end at w [] h = refl
over_end (suc at) w (x ∷ b) h = ap (λ (l : List ℕ). x ∷ l) (over_end at w b (omega arith))
over_end zero w (x ∷ b) h = absurd (omega arith)

over_set : (at x : ℕ) (b : List ℕ) → at < length b → set b at x ≡ over_at at (x ∷ []) b
unfolding over_at
over_set at x [] h = absurd (omega arith)
over_set (suc at) x (y ∷ b) h = ap (λ (l : List ℕ). y ∷ l) (over_set at x b (omega arith))
over_set zero x (y ∷ b) h = ap (λ (l : List ℕ). x ∷ l) (sym (over_none zero b))

over_append : (at : ℕ) (w v b : List ℕ) → over_at (min (at + length w) (length b)) v (over_at at w b) ≡ over_at at (w ++ v) b
unfolding over_at
over_append at w v [] = refl
over_append (suc at) w v (x ∷ b) = rw (suc-add at (length w), suc-min-suc (at + length w) (length b)) (ap (λ (l : List ℕ). x ∷ l) (over_append at w v b))
over_append zero [] v (x ∷ b) = rw (zero-add 0, zero-min (suc (length b))) refl
over_append zero (c ∷ w) v (x ∷ b) =
    let e : zero + suc (length w) ≡ suc (zero + length w) = omega arith in
    rw (e, suc-min-suc (zero + length w) (length b)) (ap (λ (l : List ℕ). c ∷ l) (over_append zero w v b))

over_front : (w b : List ℕ) → let n = min (length w) (length b) in take n w ++ drop n b ≡ over_at 0 w b
unfolding over_at
over_front w [] = rw (min-zero (length w)) refl
over_front [] (x ∷ b) = rw (zero-min (suc (length b))) refl
over_front (c ∷ w) (x ∷ b) = rw (suc-min-suc (length w) (length b)) (ap (λ (l : List ℕ). c ∷ l) (over_front w b))

over_mid : (at : ℕ) (w b : List ℕ) → at ≤ length b → let n = min (length w) (length b - at) in take at b ++ (take n w ++ drop n (drop at b)) ≡ over_at at w b
unfolding over_at
over_mid zero w b h = rw (sub-zero (length b)) (over_front w b)
over_mid (suc at) w [] h = absurd (omega arith)
over_mid (suc at) w (x ∷ b) h = rw (suc-sub-suc (length b) at) (ap (λ (l : List ℕ). x ∷ l) (over_mid at w b (omega arith)))

module _ {at : ℕ} {b : List ℕ} where
  pub writes_none : at ≤ length b → Writes [] at b at b
  writes_none h = record { place = omega arith; made = sym (over_none at b) }

  pub writes_end : (w : List ℕ) → length b ≡ at → Writes w at b at b
  writes_end w e = record { place = omega arith; made = sym (over_end at w b (omega arith)) }

  pub writes_byte : (x : ℕ) → at < length b → Writes (x ∷ []) at b (at + 1) (set b at x)
  writes_byte x h = record { place = omega arith; made = over_set at x b h }

  pub writes_part : (w : List ℕ) (n : ℕ) → at ≤ length b → n ≡ min (length w) (length b - at) → Writes w at b (at + n) (take at b ++ (take n w ++ drop n (drop at b)))
  writes_part w n h e = record { place = omega arith; made = rw e (over_mid at w b h) }

  pub writes_append : {w v : List ℕ} {r q : ℕ} {c d : List ℕ} → Writes w at b r c → Writes v r c q d → Writes (w ++ v) at b q d
  writes_append {w} {v} f g =
      record { place = simp length-append (omega (arith, f.place, g.place, ap length f.made, over_length at w b)); made = g.made ∙ rw (f.place, f.made) (over_append at w v b) }

  pub same_length : {w : List ℕ} {r : ℕ} {c : List ℕ} → Writes w at b r c → length c ≡ length b
  same_length {w} f = ap length f.made ∙ over_length at w b

  pub within : {w : List ℕ} {r : ℕ} {c : List ℕ} → Writes w at b r c → r ≤ length c
  within f = omega (arith, f.place, same_length f)
