-- The keys of a rename.
use Rattle.std.proofs.lemmas.Bool.{eq-eqb, ne_eqb}
use Rattle.std.proofs.Common.{◌≡◌, ◌≢◌, subst, true, IfSome, IsTrue, Ok, Err, ℕ, ◌==◌, ◌&&◌, not, List, [], ◌∷◌, ◌++◌, Bool, false, Option, Some, None, Result, length, refl, ap, sym, ◌∙◌, option_map, if◌then◌else◌}
use Rattle.dc_plain.specs.Facts.{Target, Key}
use Rattle.dc_names.specs.Bytes.{is_empty}
use Rattle.dc_names.specs.declared.refusal.Refusal.{Refusal}
use Rattle.dc_names.specs.declared.refusal.Refusal.TheVariants.{NotDirectory, IsDirectory, NotEmpty}
use Rattle.dc_plain.specs.Refusals.{refuse}
use Rattle.dc_plain.specs.Conditions.{CanStandAt, is_full_directory}
use Rattle.dc_plain.specs.Operations.{Change, is_beneath, same_inode, replaceable}
use Rattle.dc_plain.specs.Resolution.{is_directory}
use Rattle.dc_plain.specs.TouchedKeys.{entry_key, keys_gone, keys_moved, keys_renamed, keys_swapped, keys_taken, parent_key, lead_to_one, with_number}
use Rattle.dc_plain.specs.Trees.{Tree, Inode, entry_number, names_in, target_at, inode_of, is_live_directory, is_directory_inode}
use Rattle.dc_plain.specs.Trees.Inode.{Directory, Regular, Symbolic}
use Rattle.dc_plain.specs.Spots.{spot_at}
use Rattle.dc_plain.specs.KeysShown.{keys_in}
use Rattle.dc_plain.specs.declared.key.Key as rust_key
use Rattle.dc_ops.specs.Keys.{keys_reparented}
use Rattle.dc_ops.specs.Plans.{Settles, SettlesIf}
use Rattle.dc_ops.specs.declared.plans.Plan.{Plan}
use Rattle.dc_ops.proofs.Goes.{by_inode}

same_by : (moved : Target) (there : Option Target) → lead_to_one (Some moved.0) (option_map (λ place. place.0) there) ≡ same_inode moved there
same_by moved None = refl
same_by moved (Some place) = refl

pub live_by : (t : Tree) (place : Target) → target_at t place.0 ≡ Some place → is_directory place ≡ is_live_directory t place.0
live_by t place lives = by_inode (λ p o. is_directory p ≡ is_directory_inode o) place.0 (inode_of t place.0) place lives by_kind
  where
    by_kind : (i : Inode) → is_directory (place.0, Rattle.dc_plain.specs.Trees.kind_of i) ≡ is_directory_inode (Some i)
    by_kind Directory = refl
    by_kind Regular = refl
    by_kind (Symbolic text) = refl

pub renamed_keys : (t : Tree) (from : ℕ) (old : List ℕ) (to : ℕ) (new : List ℕ) (moved : Target) (there : Option Target) (turns : Bool) (freed : Option rust_key.Key)
    → entry_number t (spot_at from old) ≡ Some moved.0 → target_at t moved.0 ≡ Some moved → option_map (λ place. place.0) there ≡ entry_number t (spot_at to new)
    → same_inode moved there ≡ false → turns ≡ (is_directory moved && not (from == to)) → keys_in freed ≡ with_number (option_map (λ place. place.0) there) (keys_gone t)
    → entry_key from old ∷ entry_key to new ∷ (keys_reparented moved.0 turns ++ keys_in freed) ≡ keys_renamed t from old to new
renamed_keys t from old to new moved there turns freed source lives target apart turned gone =
    let other : lead_to_one (entry_number t (spot_at from old)) (entry_number t (spot_at to new)) ≡ false = rw (source, ← target) (same_by moved there ∙ apart) in
    let moves : with_number (entry_number t (spot_at from old)) (keys_moved t from to) ≡ keys_reparented moved.0 turns =
    ap (λ o. with_number o (keys_moved t from to)) source ∙ ap (λ b. if b && not (from == to) then parent_key moved.0 ∷ [] else []) (sym (live_by t moved lives)) ∙ ap (keys_reparented moved.0) (sym turned) in
    let takes : keys_taken t to new ≡ keys_in freed = ap (λ o. with_number o (keys_gone t)) (sym target) ∙ sym gone in
    let both : List Key = entry_key from old ∷ entry_key to new ∷ (with_number (entry_number t (spot_at from old)) (keys_moved t from to) ++ keys_taken t to new) in
    let whole : keys_renamed t from old to new ≡ both = ap (λ b. if b then [] else both) other in
    sym (whole ∙ ap (λ keys. entry_key from old ∷ entry_key to new ∷ (keys ++ keys_taken t to new)) moves
    ∙ ap (λ keys. entry_key from old ∷ entry_key to new ∷ (keys_reparented moved.0 turns ++ keys)) takes)

-- another inode stands at the new name
pub other_there : (moved : Target) (there : Option Target) (number : Option ℕ) → same_inode moved there ≡ false → option_map (λ place. place.0) there ≡ number → number ≢ Some moved.0
other_there moved None number apart is same = cc
other_there moved (Some place) number apart is same = let one : moved.0 ≡ place.0 = cc in let equal : (moved.0 == place.0) ≡ true = eq-eqb moved.0 place.0 one in cc

-- what may be replaced is no directory in which entries stand
may_go : (a b c : Bool) → (if a then (if not b then Err NotDirectory else refuse (not c) NotEmpty) else refuse b IsDirectory) ≡ Ok true → not (b && not c) ≡ true
may_go true true true e = refl
may_go true true false e = cc
may_go true false c e = refl
may_go false true c e = cc
may_go false false c e = refl

pub gives_way : (t : Tree) (moved : Target) (there : Option Target) (number : Option ℕ) → option_map (λ place. place.0) there ≡ number → IfSome there (λ place. target_at t place.0 ≡ Some place)
    → replaceable t moved there ≡ Ok true → IfSome number (λ m. IsTrue (not (is_full_directory t m)))
gives_way t moved None number is lives may = subst (λ o. IfSome o (λ m. IsTrue (not (is_full_directory t m)))) is tt
gives_way t moved (Some place) number is lives may =
    let goes : not (is_directory place && not (is_empty (names_in t place.0))) ≡ true = may_go (is_directory moved) (is_directory place) (is_empty (names_in t place.0)) may in
    subst (λ o. IfSome o (λ m. IsTrue (not (is_full_directory t m)))) is (ap (λ b. not (b && not (is_empty (names_in t place.0)))) (sym (live_by t place lives)) ∙ goes)

-- the dot-dot of a directory that gets another parent
reparented : (t : Tree) (from to : ℕ) (place : Target) (number : Option ℕ) (turns : Bool) → number ≡ Some place.0 → target_at t place.0 ≡ Some place → turns ≡ (is_directory place && not (from == to))
    → with_number number (keys_moved t from to) ≡ keys_reparented place.0 turns
reparented t from to place number turns source lives turned =
    ap (λ o. with_number o (keys_moved t from to)) source ∙ ap (λ b. if b && not (from == to) then parent_key place.0 ∷ [] else []) (sym (live_by t place lives)) ∙ ap (keys_reparented place.0) (sym turned)

pub swapped_keys : (t : Tree) (from : ℕ) (old : List ℕ) (to : ℕ) (new : List ℕ) (moved there : Target) (first second : Bool)
    → entry_number t (spot_at from old) ≡ Some moved.0 → target_at t moved.0 ≡ Some moved → entry_number t (spot_at to new) ≡ Some there.0 → target_at t there.0 ≡ Some there → moved.0 ≢ there.0
    → first ≡ (is_directory moved && not (from == to)) → second ≡ (is_directory there && not (to == from))
    → entry_key from old ∷ entry_key to new ∷ (keys_reparented moved.0 first ++ keys_reparented there.0 second) ≡ keys_swapped t from old to new
swapped_keys t from old to new moved there first second source lives target stands apart first_turns second_turns =
    let a = entry_number t (spot_at from old) in
    let b = entry_number t (spot_at to new) in
    let other : lead_to_one a b ≡ false = (λ i. lead_to_one (source i) (target i)) ∙ ne_eqb moved.0 there.0 apart in
    let both : List Key = entry_key from old ∷ entry_key to new ∷ (with_number a (keys_moved t from to) ++ with_number b (keys_moved t to from)) in
    let whole : keys_swapped t from old to new ≡ both = ap (λ b. if b then [] else both) other in
    let going = reparented t from to moved a first source lives first_turns in
    let coming = reparented t to from there b second target stands second_turns in
    sym (whole ∙ (λ i. entry_key from old ∷ entry_key to new ∷ (going i ++ coming i)))

-- by the tests that a move passes
pub may_stand : (t : Tree) (to : ℕ) (new : List ℕ) (moved : Target) (there : Option Target) {inside : Bool} → IsTrue (is_live_directory t to) → target_at t moved.0 ≡ Some moved
    → inside ≡ (is_directory moved && is_beneath (length t.inodes) t to moved.0) → inside ≡ false → same_inode moved there ≡ false → option_map (λ place. place.0) there ≡ entry_number t (spot_at to new)
    → IfSome there (λ place. target_at t place.0 ≡ Some place) → replaceable t moved there ≡ Ok true → CanStandAt t to new moved.0
may_stand t to new moved there held lives tested passed apart target live_there may = record {
  directory = held;
  apart = ap (λ b. b && is_beneath (length t.inodes) t to moved.0) (sym (live_by t moved lives)) ∙ sym tested ∙ passed;
  other = other_there moved there _ apart target;
  gives_way = gives_way t moved there _ target live_there may;
}

-- another change and other keys that are these
pub settles_so : (t : Tree) (change other : Change) (keys others : List Key) (found : Result (Option Plan) Refusal) → SettlesIf t other others found → change ≡ other → keys ≡ others → SettlesIf t change keys found
settles_so t change other keys others found settled is same = subst (λ c. SettlesIf t c keys found) (sym is) (subst (λ ks. SettlesIf t other ks found) (sym same) settled)

-- and of what never comes to nothing
pub settles_by : (t : Tree) (change other : Change) (keys others : List Key) (found : Result Plan Refusal) → Settles t other others found → change ≡ other → keys ≡ others → Settles t change keys found
settles_by t change other keys others found settled is same = subst (λ c. Settles t c keys found) (sym is) (subst (λ ks. Settles t other ks found) (sym same) settled)
