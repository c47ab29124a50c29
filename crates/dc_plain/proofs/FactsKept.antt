-- Facts whose keys aren't touched.
use Rattle.std.proofs.Common.{◌≡◌, inl, inr, ℕ, List, Option, ap, ◌∙◌}
use Rattle.dc_names.specs.Laws.{PartsAreNamesOrDots}
use Rattle.dc_plain.specs.Facts.{Fact, Target, key_of}
use Rattle.dc_plain.specs.Facts.Label.{Entry, Parent, Text}
use Rattle.dc_plain.specs.Facts.Fact.{Leads, Reads}
use Rattle.dc_plain.specs.Trees.{Tree, Holds, fact_at}
use Rattle.dc_plain.specs.Runs.{tree_after}
use Rattle.dc_plain.proofs.KeysListed.{calls-exact}
use Rattle.dc_plain.specs.FactLaws.{UntouchedStay}

-- a fact is so wherever its key has the same fact
pub holds-too : (t u : Tree) (fact : Fact) → fact_at u (key_of fact) ≡ fact_at t (key_of fact) → Holds t fact → Holds u fact
holds-too t u (Leads d (Entry name) target) same h = ap (λ (f : Option Target × Option (List ℕ)). f.0) same ∙ h
holds-too t u (Leads d Parent target) same h = ap (λ (f : Option Target × Option (List ℕ)). f.0) same ∙ h
holds-too t u (Leads d Text target) same h = h
holds-too t u (Reads n text) same h = ap (λ (f : Option Target × Option (List ℕ)). f.1) same ∙ h

pub untouched-stay : PartsAreNamesOrDots → UntouchedStay
untouched-stay parts limit t request fact well h apart = elim ((calls-exact parts limit t request well).0 (key_of fact)) [
  | inl is ↦ absurd (apart ((calls-exact parts limit t request well).1 (key_of fact) is))
  | inr same ↦ holds-too t (tree_after limit t request) fact same h
]
