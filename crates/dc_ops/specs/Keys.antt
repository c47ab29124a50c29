-- The keys whose facts a plan alters.
use Rattle.std.specs.Prelude.{◌≡◌, ℕ, List, [], ◌∷◌, ◌++◌, Bool, Some, map, slice_get, if◌then◌else◌}
use Rattle.dc_names.specs.declared.kind.Kind.TheVariants.{Dir, File, Link}
use Rattle.dc_plain.specs.Facts.{Key}
use Rattle.dc_plain.specs.KeysShown.{key_shown, keys_in}
use Rattle.dc_plain.specs.declared.key.Key as rust_key
use Rattle.dc_plain.specs.declared.spot.Spot as rust_spot
use Rattle.dc_plain.specs.Spots.{spot_shown}
use Rattle.dc_plain.specs.TouchedKeys.{entry_key, own_keys, parent_key, spot_key}
use Rattle.dc_store.specs.declared.store.New as rust_new
use Rattle.dc_store.specs.declared.store.New.TheVariants as news
use Rattle.dc_ops.specs.declared.plans.Plan as rust_plan
use Rattle.dc_ops.specs.declared.plans.Plan.TheVariants as plans

-- keys without where their bytes lie
abbrev pub keys_shown : List rust_key.Key → List Key
keys_shown keys = map key_shown keys

-- the keys of two names
abbrev pub keys_at : rust_spot.Spot → rust_spot.Spot → List Key
keys_at from to = spot_key (spot_shown from) ∷ spot_key (spot_shown to) ∷ []

-- the key of its own that what is added has, if that is new
abbrev pub keys_made : ℕ → rust_new.New → List Key
keys_made n news.Dir = own_keys n Dir
keys_made n news.File = own_keys n File
keys_made n (news.Link text) = own_keys n Link
keys_made n (news.Same m) = []

-- the dot-dot of a directory that gets another parent
abbrev pub keys_reparented : ℕ → Bool → List Key
keys_reparented n reparents = if reparents then parent_key n ∷ [] else []

abbrev pub keys_of : rust_plan.Plan → List Key
keys_of (plans.Add dir name new number) = entry_key dir name.bytes.now ∷ keys_made number new
keys_of (plans.Drop dir name number kind lost) = entry_key dir name.bytes.now ∷ keys_in lost
keys_of (plans.Move from to number reparents over lost) =
    spot_key (spot_shown from) ∷ spot_key (spot_shown to) ∷ keys_reparented number reparents ++ keys_in lost
keys_of (plans.Swap from to first second) =
    spot_key (spot_shown from) ∷ spot_key (spot_shown to) ∷ keys_reparented first.number first.reparents ++ keys_reparented second.number second.reparents

-- no key stands at two places
abbrev pub AreDistinct : List Key → Type 0
AreDistinct keys = (i j : ℕ) (key : Key) → slice_get keys i ≡ Some key → slice_get keys j ≡ Some key → i ≡ j
