-- Short texts that are paths without a fault.
use Rattle.std.proofs.Common.{◌≡◌, ◌≢◌, ℕ, suc, ◌<◌, ◌≤◌, ◌==◌, ◌∷◌, [], List, length, get_or, Bool, true, false, cond, Some, None, refl, arith, nat_lt}
use Rattle.std.specs.List.{list_any}
use Rattle.std.proofs.lemmas.Bool.{ne_eqb, eq-eqb}
use Rattle.std.proofs.lemmas.Bool.Decides.{nat_tests}
use Rattle.std.proofs.lemmas.List.Folds.{list_any_at}
use Rattle.dc_names.specs.Bytes.{is_empty}
use Rattle.dc_names.specs.Laws.{NoPieceIsLonger}
use Rattle.dc_names.specs.Paths.{is_long}
use Rattle.dc_names.specs.declared.limits.TheConstants.{NAME_MAX, PATH_MAX}
use Rattle.dc_names.specs.declared.fault.TextFault.TheVariants.{Empty, Long, Zero}
use Rattle.dc_row.specs.Spelling.{is_path}

-- no byte of the text is zero
abbrev pub HasNoZero : List ℕ → Type 0
HasNoZero text = (i : ℕ) → i < length text → get_or text i 0 ≢ 0

none_zero : (text : List ℕ) → HasNoZero text → list_any (λ b. b == 0) text ≡ false
none_zero [] all = refl
none_zero (b ∷ bs) all =
    let first : (b == 0) ≡ false = ne_eqb b 0 (all 0 (omega arith)) in
    rw first (none_zero bs (λ i h. all (suc i) (omega arith)))

-- a path, as it is tested for one fault after the other
abbrev no_fault : Bool → Bool → Bool → Bool
no_fault empty long nil = elim (cond empty (Some Empty) (cond long (Some Long) (cond nil (Some Zero) None))) [ None ↦ true | Some fault ↦ false ]

faultless : (a b c : Bool) → no_fault a b c ≡ true → (a ≡ false) × (c ≡ false)
faultless true b c e = absurd (cc)
faultless false true c e = absurd (cc)
faultless false false true e = absurd (cc)
faultless false false false e = (refl, refl)

pub path_parts : (text : List ℕ) → is_path text ≡ true → (0 < length text) × HasNoZero text
path_parts text ok =
    let tested = faultless (is_empty text) (is_long text) (list_any (λ b. b == 0) text) ok in
    (grind (arith, nat_tests, tested.0), λ i h e. let yes = list_any_at (λ b. b == 0) text i 0 h (eq-eqb (get_or text i 0) 0 e) in absurd (cc (tested.1)))

pub path_from : NoPieceIsLonger → (text : List ℕ) → 0 < length text → length text ≤ NAME_MAX → HasNoZero text → is_path text ≡ true
path_from law text some few all =
    let empty : is_empty text ≡ false = grind (arith, nat_tests) in
    let long : is_long text ≡ false = let test : nat_lt PATH_MAX (length text) ≡ false = grind (arith, nat_tests) in rw test (law NAME_MAX text few) in
    λ i. no_fault (empty i) (long i) (none_zero text all i)
