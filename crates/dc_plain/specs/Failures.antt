-- What a step of the slow machine answers, against the definition of that step.
use Rattle.std.specs.Prelude.{◌≡◌, Result, Ok, Err, MatchResult}
use Rattle.dc_names.specs.declared.refusal.Refusal.{Refusal}
use Rattle.dc_plain.specs.declared.failure.Failure as rust_failure
use Rattle.dc_plain.specs.declared.failure.Failure.TheVariants.{Refused}

-- it finds what is wanted, or is refused as is wanted, or memory is refused
abbrev pub Finds : {A B : Type 0} → Result A rust_failure.Failure → (A → B) → Result B Refusal → Type 0
Finds found shown wanted = MatchResult found (λ a. wanted ≡ Ok (shown a)) (λ failure. (refusal : Refusal) → failure ≡ Refused refusal → wanted ≡ Err refusal)
