-- Entries that are there, and lead elsewhere.
use Rattle.std.proofs.Common.{◌≡◌, ℕ, ◌<◌, ◌^◌, List, map, is_some, IsSome, ap, ◌∙◌}
use Rattle.std.specs.BTreeMap.{is_at}
use Rattle.std.specs.Cmp.Lexicographic.{slice_cmp}
use Rattle.std.specs.FinMap.Entries.{put}
use Rattle.std.specs.FinMap.Entries.{find as lookup_entry}
use Rattle.std.specs.Global.{Vec}
use Rattle.std.specs.Map.{lookup, set_value}
use Rattle.std.specs.Ordering.{nat_cmp}
use Rattle.dc_plain.specs.Trees.{Spot, spot_cmp}
use Rattle.dc_store.specs.Keys.{key_of, entry_shown, AreKept}
use Rattle.dc_store.proofs.Keyed.{found_at, set_to}

module _ {entries : List (Vec ℕ × ℕ)} {es : List (Spot × ℕ)} (kept : AreKept entries) (view : map entry_shown entries ≡ es) (spot : Spot) (fits : spot.dir < 2 ^ 64)
    {key : List ℕ} (is : key ≡ key_of spot) (there : IsSome (lookup_entry spot_cmp spot es)) where
  stands : IsSome (lookup_entry spot_cmp spot (map entry_shown entries))
  stands = ap (λ entries. is_some (lookup_entry spot_cmp spot entries)) view ∙ there

  -- an entry is found under its key
  pub entry_found : IsSome (lookup (is_at (λ (k : Vec ℕ). slice_cmp nat_cmp key k.items)) entries)
  entry_found = ap is_some (found_at kept spot fits is) ∙ stands

  pub entry_redirected : (n : ℕ) {after : List (Vec ℕ × ℕ)} → after ≡ set_value (is_at (λ (k : Vec ℕ). slice_cmp nat_cmp key k.items)) entries n → AreKept after × (map entry_shown after ≡ put spot_cmp spot n es)
  entry_redirected n done = let both = set_to kept spot fits n is stands done in (both.0, both.1 ∙ ap (put spot_cmp spot n) view)
