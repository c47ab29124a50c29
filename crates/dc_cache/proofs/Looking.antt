-- What a look-up answers, by where its walk ends.
use Rattle.std.proofs.Common.{◌≡◌, ℕ, List, Bool, true, false, Option, Some, None, Result, Ok, refl, ap, ◌∙◌}
use Rattle.dc_names.specs.Paths.{Path, fault_of, path_in}
use Rattle.dc_names.specs.declared.refusal.Refusal.{Refusal}
use Rattle.dc_plain.specs.declared.call.Follow.{Follow}
use Rattle.dc_plain.specs.FactLaws.{outcome_answer}
use Rattle.dc_plain.specs.LivingLaws.{AltersDecides}
use Rattle.dc_plain.specs.Operations.{left_alone, operation, settled}
use Rattle.dc_plain.specs.Places.{walk}
use Rattle.dc_plain.specs.Refusals.{◌>>=◌, ended, path_or_fault}
use Rattle.dc_plain.specs.Requests.{Answer, Request}
use Rattle.dc_plain.specs.Requests.Answer.{Found}
use Rattle.dc_plain.specs.Requests.Request.{Look}
use Rattle.dc_plain.specs.Resolution.{Outcome, settled_walk}
use Rattle.dc_plain.specs.Resolution.Outcome.{Found as Ends, Refused as Fails}
use Rattle.dc_plain.specs.Runs.{alters, tree_after}
use Rattle.dc_plain.specs.Trees.{Tree, told_of}
use Rattle.dc_ops.specs.Plans.{Declines}

good_path : (text : List ℕ) → fault_of text ≡ None → path_or_fault text ≡ Ok (path_in text)
good_path text good = rw (good, path_or_fault) refl

settled_end : (t : Tree) (outcome : Outcome) → settled t (left_alone t (ended outcome >>= λ place. Ok (Found place.0 place.1))) ≡ (outcome_answer outcome, t)
settled_end t (Ends place) = refl
settled_end t (Fails refusal) = refl

look_is : (limit : ℕ) (t : Tree) (base : ℕ) (text : List ℕ) (how : Follow) (outcome : Outcome) → fault_of text ≡ None → walk (told_of t) base (path_in text) how ≡ Some outcome
    → operation limit t (Look base text how) ≡ (outcome_answer outcome, t)
look_is limit t base text how outcome good came =
    ap (λ (path : Result Path Refusal). settled t (left_alone t ((path >>= λ path. ended (settled_walk (walk (told_of t) base path how))) >>= λ place. Ok (Found place.0 place.1)))) (good_path text good)
    ∙ ap (λ (found : Option Outcome). settled t (left_alone t (ended (settled_walk found) >>= λ place. Ok (Found place.0 place.1)))) came
    ∙ settled_end t outcome

alters_not : AltersDecides → (limit : ℕ) (t : Tree) (request : Request) → tree_after limit t request ≡ t → alters limit t request ≡ false
alters_not decides limit t request same = by_test (alters limit t request) refl
  where
    by_test : (b : Bool) → alters limit t request ≡ b → alters limit t request ≡ false
    by_test true e = let is = decides limit t request in absurd (is.0 e same)
    by_test false e = e

pub look_declines : AltersDecides → (limit : ℕ) (t : Tree) (base : ℕ) (text : List ℕ) (how : Follow) (outcome : Outcome) → fault_of text ≡ None → walk (told_of t) base (path_in text) how ≡ Some outcome
    → Declines limit t (Look base text how) (outcome_answer outcome)
look_declines decides limit t base text how outcome good came =
    let is = look_is limit t base text how outcome good came in
    record { operation = is; alters = alters_not decides limit t (Look base text how) (ap (λ (p : Answer × Tree). p.1) is) }
