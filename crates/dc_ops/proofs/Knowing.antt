-- What a known directory tells of a place.
use Rattle.std.proofs.Common.{◌≡◌, ℕ, List, Option, Some, None, Result, Ok, Err, refl, sym, ap, ◌∙◌}
use Rattle.dc_names.specs.Paths.{Path, fault_of, path_in}
use Rattle.dc_names.specs.Refusals.{refusal_of}
use Rattle.dc_names.specs.declared.fault.TextFault.{TextFault}
use Rattle.dc_names.specs.declared.refusal.Refusal.{Refusal}
use Rattle.dc_names.specs.declared.kind.Kind.TheVariants.{Dir}
use Rattle.dc_plain.specs.declared.call.Follow.TheVariants as follow
use Rattle.dc_plain.specs.Places.{Where, walk}
use Rattle.dc_plain.specs.Refusals.{◌>>=◌, ended, path_or_fault, place_on, where_of}
use Rattle.dc_plain.specs.Resolution.{Outcome, settled_walk}
use Rattle.dc_plain.specs.Resolution.Outcome.{Found, Refused}
use Rattle.dc_plain.specs.Trees.{Tree, told_of}
use Rattle.dc_resolve.specs.Fronts.{IsPlaceIn, LeadsToFront}
use Rattle.dc_ops.specs.Knowing.{IsKnownOn}
use Rattle.dc_ops.specs.declared.known.Known.{Known}

settled_so : (outcome : Option Outcome) (dir : ℕ) → ended (settled_walk outcome) ≡ Ok (dir, Dir) → outcome ≡ Some (Found (dir, Dir))
settled_so None dir e = absurd cc
settled_so (Some (Found at)) dir e = cc
settled_so (Some (Refused refusal)) dir e = absurd cc

-- the path of a text, or the refusal of this fault
abbrev path_by : List ℕ → Option TextFault → Result Path Refusal
path_by text None = Ok (path_in text)
path_by text (Some fault) = Err (refusal_of fault)

is_path_by : (text : List ℕ) (fault : Option TextFault) → fault_of text ≡ fault → path_or_fault text ≡ path_by text fault
is_path_by text None is = rw (is, path_or_fault) refl
is_path_by text (Some fault) is = rw (is, path_or_fault) refl

led : (t : Tree) (base dir : ℕ) (text : List ℕ) (fault : Option TextFault) → (path_by text fault >>= λ path. ended (settled_walk (walk (told_of t) base path follow.Dir))) ≡ Ok (dir, Dir) → walk (told_of t) base (path_in text) follow.Dir ≡ Some (Found (dir, Dir))
led t base dir text None e = settled_so _ dir e
led t base dir text (Some fault) e = absurd cc

pub known_place : (t : Tree) (known : Known) (text : List ℕ) {base : ℕ} {at : Where} → IsKnownOn t known → base ≡ known.base → LeadsToFront known.front.now text → IsPlaceIn known.dir text at → place_on t base (path_in text) ≡ Ok at
known_place t known text {base = base} {at = at} is same front there =
    let path = is_path_by known.front.now (fault_of known.front.now) refl in
    let walked = led t known.base known.dir known.front.now (fault_of known.front.now) (ap (λ p. p >>= λ path. ended (settled_walk (walk (told_of t) known.base path follow.Dir))) (sym path) ∙ is) in
    let leads = sym (front (told_of t) known.base) ∙ walked in
    ap (λ b. place_on t b (path_in text)) same ∙ ap where_of (there (told_of t) known.base Dir leads)
