-- What the steps of a call say when they come to their end.
use Rattle.std.proofs.Common.{◌≡◌, ℕ, List, Bool, true, false, Option, Some, None, Result, Ok, Err, refl, subst}
use Rattle.dc_names.specs.declared.refusal.Refusal.{Refusal}
use Rattle.dc_plain.specs.Facts.{Target}
use Rattle.dc_plain.specs.Trees.{Tree}
use Rattle.dc_plain.specs.Requests.{Answer}
use Rattle.dc_names.specs.Lasts.{Last, name_or, name_or_each}
use Rattle.dc_names.specs.Lasts.Last.{Root, Dot, DotDot, Name}
use Rattle.dc_plain.specs.Refusals.{◌>>=◌, refuse, present}

-- if a step and what follows it come to an answer, the step was no refusal
pub after : {A B : Type 0} {P : Type 0} (r : Result A Refusal) (next : A → Result B Refusal) (b : B) → (r >>= next) ≡ Ok b → ((a : A) → r ≡ Ok a → next a ≡ Ok b → P) → P
after (Ok a) next b e so = so a refl e
after (Err refusal) next b e so = absurd cc

pub after_test : {B : Type 0} {P : Type 0} (test : Bool) (refusal : Refusal) (next : Bool → Result B Refusal) (b : B) → (refuse test refusal >>= next) ≡ Ok b → (test ≡ false → next true ≡ Ok b → P) → P
after_test true refusal next b e so = absurd cc
after_test false refusal next b e so = so refl e

pub named : (refusal : Refusal) (last : Last) (name : List ℕ) → name_or refusal last ≡ Ok name → last ≡ Name name
named refusal Root name e = absurd cc
named refusal Dot name e = absurd cc
named refusal DotDot name e = absurd cc
named refusal (Name other) name e = cc

pub named_each : (a b c : Refusal) (last : Last) (name : List ℕ) → name_or_each a b c last ≡ Ok name → last ≡ Name name
named_each a b c Root name e = absurd cc
named_each a b c Dot name e = absurd cc
named_each a b c DotDot name e = absurd cc
named_each a b c (Name other) name e = cc

pub is_there : (refusal : Refusal) (found : Option Target) (place : Target) → present refusal found ≡ Ok place → found ≡ Some place
is_there refusal None place e = absurd cc
is_there refusal (Some other) place e = cc

-- what holds of the tree that is left
pub left_with : (P : Tree → Type 0) (answer : Answer) (t : Tree) (done : Answer × Tree) → ◌≡◌ {A = Result (Answer × Tree) Refusal} (Ok (answer, t)) (Ok done) → P t → P done.1
left_with P answer t done e holds = let same : t ≡ done.1 = cc in subst P same holds
