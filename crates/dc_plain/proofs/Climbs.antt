-- A climb from a directory towards the root, with this many steps left.
use Rattle.std.proofs.Common.{◌≡◌, ◌≢◌, ◌<◌, ◌-◌, ℕ, zero, suc, ◌==◌, true, false, Some, None, refl, arith}
use Rattle.dc_plain.specs.Trees.{Tree, holder_of}
use Rattle.dc_plain.specs.Operations.{is_beneath}
use Rattle.dc_plain.proofs.Holders.{same_test, other_test}

pub climb-here : (left : ℕ) (t : Tree) (d n : ℕ) → d ≡ n → is_beneath left t d n ≡ true
climb-here zero t d n here = refl
climb-here (suc left) t d n here = let met : (d == n) ≡ true = rw here (same_test n) in rw met refl

pub climb-top : (left : ℕ) (t : Tree) (d n : ℕ) → 0 < left → d ≢ n → d ≡ 1 → is_beneath left t d n ≡ false
climb-top zero t d n some other top = absurd (omega arith)
climb-top (suc left) t d n some other top =
    let passed = other_test d n other in
    let root : (d == 1) ≡ true = rw top refl in
    rw (passed, root) refl

pub climb-none : (left : ℕ) (t : Tree) (d n : ℕ) → 0 < left → d ≢ n → d ≢ 1 → holder_of t d ≡ None → is_beneath left t d n ≡ false
climb-none zero t d n some other below none = absurd (omega arith)
climb-none (suc left) t d n some other below none =
    let passed = other_test d n other in
    let root = other_test d 1 below in
    rw (passed, root, none) refl

pub climb-up : (left : ℕ) (t : Tree) (d n up : ℕ) → 0 < left → d ≢ n → d ≢ 1 → holder_of t d ≡ Some up → is_beneath (left - 1) t up n ≡ is_beneath left t d n
climb-up zero t d n up some other below held = absurd (omega arith)
climb-up (suc left) t d n up some other below held =
    let passed = other_test d n other in
    let root = other_test d 1 below in
    let less : suc left - 1 ≡ left = omega arith in
    rw (passed, root, held, less) refl

pub climb-out : (left : ℕ) (t : Tree) (d n : ℕ) → left ≡ 0 → is_beneath left t d n ≡ true
climb-out left t d n none = rw none refl

pub ruleset climbs = (climb-here, climb-top, climb-none, climb-up, climb-out)
