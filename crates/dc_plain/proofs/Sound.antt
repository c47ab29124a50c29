-- What calls make of the machine is sound.
use Rattle.std.proofs.Common.{◌≡◌, ◌≤◌, subst, sym}
use Rattle.dc_names.specs.Laws.{PartsAreNamesOrDots}
use Rattle.dc_names.specs.declared.limits.TheConstants.{MOST_INODES}
use Rattle.dc_plain.specs.Trees.{Tree}
use Rattle.dc_plain.specs.Requests.{Answer}
use Rattle.dc_plain.specs.IsWellFormed.{IsWellFormed, IsWithin}
use Rattle.dc_plain.specs.Machines.{Machine}
use Rattle.dc_plain.specs.Plans.{IsMade}
use Rattle.dc_plain.specs.Plain.{IsSound, tree_of, machine_of}
use Rattle.dc_plain.specs.declared.plain.PlainTree.TheInside.{Inside}
use Rattle.dc_plain.specs.Operations.{settled}
use Rattle.dc_plain.specs.Runs.{tree_after}
use Rattle.dc_plain.proofs.KeptTrees.{well_formed-kept, within-kept}

-- the fields after a change stand for the tree that it makes
pub sound_after : PartsAreNamesOrDots → (old new : Inside) (m : Machine) (done : Answer × Tree) → IsSound old → machine_of old ≡ m → IsMade m.limit m.tree done → tree_of new ≡ done.1 → new.limit ≡ old.limit → IsSound new
sound_after parts old new m done sound view is_made tree limit =
    let made : IsMade old.limit (tree_of old) done = subst (λ (k : Machine). IsMade k.limit k.tree done) (sym view) is_made in
    let after = λ (P : Tree → Type 0) (h : P (tree_after old.limit (tree_of old) made.request)). subst P (sym tree) (subst (λ change. P (settled (tree_of old) change).1) made.found h) in
    record {
      well = after IsWellFormed (well_formed-kept parts old.limit (tree_of old) made.request sound.well);
      within = subst (λ l. IsWithin l (tree_of new)) (sym limit) (after (IsWithin old.limit) (within-kept parts old.limit (tree_of old) made.request sound.well sound.within));
      some_live = subst (λ l. 1 ≤ l) (sym limit) sound.some_live;
      at_most = subst (λ l. l ≤ MOST_INODES) (sym limit) sound.at_most;
    }
