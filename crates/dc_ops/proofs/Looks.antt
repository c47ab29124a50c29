-- What a look-up of a path answers, by where its walk ends.
use Rattle.std.proofs.Common.{◌≡◌, ℕ, List, Option, Some, None, Result, Ok, refl, ap, ◌∙◌}
use Rattle.dc_names.specs.Paths.{Path, fault_of, path_in}
use Rattle.dc_plain.specs.declared.call.Follow.{Follow}
use Rattle.dc_plain.specs.Places.{walk}
use Rattle.dc_plain.specs.Reads.{look}
use Rattle.dc_plain.specs.Refusals.{◌>>=◌, ended, path_or_fault}
use Rattle.dc_plain.specs.Requests.{Answer}
use Rattle.dc_plain.specs.Requests.Answer.{Found}
use Rattle.dc_names.specs.declared.refusal.Refusal.{Refusal}
use Rattle.dc_plain.specs.Resolution.{Outcome, settled_walk}
use Rattle.dc_plain.specs.Trees.{Tree, told_of}
use Rattle.dc_ops.specs.Reads.{answered}

good_path : (text : List ℕ) → fault_of text ≡ None → path_or_fault text ≡ Ok (path_in text)
good_path text good = rw (good, path_or_fault) refl

-- what a walk that ended so answers
abbrev pub shown_end : Outcome → Answer
shown_end outcome = answered (ended outcome >>= λ place. Ok (Found place.0 place.1))

pub looks : (t : Tree) (base : ℕ) (text : List ℕ) (how : Follow) (outcome : Outcome) → fault_of text ≡ None → walk (told_of t) base (path_in text) how ≡ Some outcome
    → answered (look t base text how) ≡ shown_end outcome
looks t base text how outcome good came =
    ap (λ (path : Result Path Refusal). answered ((path >>= λ path. ended (settled_walk (walk (told_of t) base path how))) >>= λ place. Ok (Found place.0 place.1))) (good_path text good)
    ∙ ap (λ (found : Option Outcome). shown_end (settled_walk found)) came
