-- `meaning` meets its contract: the loop runs over every place.
use mathlib.Core.Path.{◌≡◌, refl, ◌∙◌, ap}
use mathlib.Core.List.{List}
use Prim.Native.Nat.{ℕ}
use native.Mathlib.Omega.{arith}
use lib.ListN.{length, get_or}
use Rattle.float.specs.Lists.{table}
use Rattle.float.proofs.Fill.{run, run_more, run_all}
use Rattle.words.proofs.meaning.Goals as goal

pub loop-i-init : goal.loop-i-init
unfolding run
loop-i-init c = refl

pub loop-i-preserved : goal.loop-i-preserved
loop-i-preserved c = run_more (λ i. i) _ _ c.loop-i.i refl c.byte.ensures c.loop-i.invariant

pub returns : goal.returns
returns c =
    let is = c.as_bytes-text.ensures.value ∙ c.text.ensures in
    let e : c.loop-i.i ≡ length c.args.words.now = omega (arith, c.told-words) in
    let all : c.loop-i.words ≡ table (length c.args.words.now) (λ i. get_or c.as_bytes-text.result.now i 0) = rw e at c.loop-i.invariant ∙ run_all _ c.args.words.now in
    (ap length is, rw c.told-words at all ∙ ap (λ (t : List ℕ). table 64 (λ i. get_or t i 0)) is)
