-- At most four keys are listed for a call.
use Rattle.std.proofs.Common.{ℕ, ◌≤◌, ◌==◌, ◌&&◌, not, List, [], ◌∷◌, ◌++◌, true, false, Option, Some, None, Result, Ok, Err, arith, length, if◌then◌else◌}
use Rattle.std.proofs.lemmas.List.{length-append}
use Rattle.dc_names.specs.declared.refusal.Refusal.{Refusal}
use Rattle.dc_plain.specs.declared.call.Flags.{Flags}
use Rattle.dc_plain.specs.Facts.{Key}
use Rattle.dc_plain.specs.Trees.{Tree, Inode, inode_of, entry_number, kind_of, names_of, is_live_directory}
use Rattle.dc_plain.specs.Trees.Inode.{Directory, Regular, Symbolic}
use Rattle.dc_plain.specs.Requests.{Request}
use Rattle.dc_plain.specs.Requests.Request.{Look, Readlink, Stat, List_names, Mkdir, Create, Hard_link, Symlink, Unlink, Rmdir, Rename}
use Rattle.dc_names.specs.Lasts.{Last}
use Rattle.dc_plain.specs.Places.{Where}
use Rattle.dc_names.specs.Lasts.Last.{Root, Dot, DotDot, Name}
use Rattle.dc_plain.specs.Refusals.{where_on}
use Rattle.dc_plain.specs.Operations.{Change, change_of}
use Rattle.dc_plain.specs.TouchedKeys.{entry_key, parent_key, own_keys, keys_at, keys_gone, with_number, keys_taken, keys_by, keys_moved, keys_renamed, keys_swapped, lead_to_one, by_last, by_place, listed, unless_refused}
use Rattle.dc_plain.specs.Laws.{TouchesFew}

one_own : (n : ℕ) (inode : Inode) → length (own_keys n (kind_of inode)) ≤ 1
one_own n Directory = omega arith
one_own n Regular = omega arith
one_own n (Symbolic text) = omega arith

one_at : (n : ℕ) (o : Option Inode) → length (keys_at n o) ≤ 1
one_at n None = omega arith
one_at n (Some inode) = one_own n inode

one_gone : (t : Tree) (n : ℕ) → length (keys_gone t n) ≤ 1
one_gone t n = elim (names_of t n == 1) as (λ b. length (if b then keys_at n (inode_of t n) else []) ≤ 1) [ true ↦ one_at n (inode_of t n) | false ↦ omega arith ]

one_by : (o : Option ℕ) (keys : ℕ → List Key) → ((n : ℕ) → length (keys n) ≤ 1) → length (with_number o keys) ≤ 1
one_by None keys so = omega arith
one_by (Some n) keys so = so n

one_taken : (t : Tree) (d : ℕ) (name : List ℕ) → length (keys_taken t d name) ≤ 1
one_taken t d name = one_by (entry_number t (record { dir = d; name = name })) (keys_gone t) (one_gone t)

one_moved : (t : Tree) (from to n : ℕ) → length (keys_moved t from to n) ≤ 1
one_moved t from to n = elim (is_live_directory t n && not (from == to)) as (λ b. length (if b then parent_key n ∷ [] else []) ≤ 1) [ true ↦ omega arith | false ↦ omega arith ]

four_renamed : (t : Tree) (from : ℕ) (old : List ℕ) (to : ℕ) (new : List ℕ) → length (keys_renamed t from old to new) ≤ 4
four_renamed t from old to new =
    let moved = with_number (entry_number t (record { dir = from; name = old })) (keys_moved t from to) in
    let one = one_by (entry_number t (record { dir = from; name = old })) (keys_moved t from to) (one_moved t from to) in
    let other = one_taken t to new in
    elim (lead_to_one (entry_number t (record { dir = from; name = old })) (entry_number t (record { dir = to; name = new }))) as
    (λ b. length (if b then [] else entry_key from old ∷ entry_key to new ∷ moved ++ keys_taken t to new) ≤ 4) [
      | true ↦ omega arith
      | false ↦ omega (arith, length-append moved (keys_taken t to new))
    ]

four_swapped : (t : Tree) (from : ℕ) (old : List ℕ) (to : ℕ) (new : List ℕ) → length (keys_swapped t from old to new) ≤ 4
four_swapped t from old to new =
    let going = with_number (entry_number t (record { dir = from; name = old })) (keys_moved t from to) in
    let coming = with_number (entry_number t (record { dir = to; name = new })) (keys_moved t to from) in
    let one = one_by (entry_number t (record { dir = from; name = old })) (keys_moved t from to) (one_moved t from to) in
    let other = one_by (entry_number t (record { dir = to; name = new })) (keys_moved t to from) (one_moved t to from) in
    elim (lead_to_one (entry_number t (record { dir = from; name = old })) (entry_number t (record { dir = to; name = new }))) as
    (λ b. length (if b then [] else entry_key from old ∷ entry_key to new ∷ going ++ coming) ≤ 4) [
      | true ↦ omega arith
      | false ↦ omega (arith, length-append going coming)
    ]

four_by : (flags : Flags) (t : Tree) (from : ℕ) (old : List ℕ) (to : ℕ) (new : List ℕ) → length (keys_by flags t from old to new) ≤ 4
four_by flags t from old to new =
    elim flags.exchange as (λ b. length (if b then keys_swapped t from old to new else keys_renamed t from old to new) ≤ 4) [ true ↦ four_swapped t from old to new | false ↦ four_renamed t from old to new ]

by_last-few : (last : Last) (keys : List ℕ → List Key) → ((name : List ℕ) → length (keys name) ≤ 4) → length (by_last last keys) ≤ 4
by_last-few (Name name) keys so = so name
by_last-few Root keys so = omega arith
by_last-few Dot keys so = omega arith
by_last-few DotDot keys so = omega arith

by_place-few : (r : Result Where Refusal) (keys : ℕ → List ℕ → List Key) → ((d : ℕ) (name : List ℕ) → length (keys d name) ≤ 4) → length (by_place r keys) ≤ 4
by_place-few (Ok at) keys so = by_last-few at.last (keys at.dir) (so at.dir)
by_place-few (Err refusal) keys so = omega arith

listed-few : (t : Tree) (request : Request) → length (listed t request) ≤ 4
listed-few t (Look base path how) = omega arith
listed-few t (Readlink base path) = omega arith
listed-few t (Stat base path) = omega arith
listed-few t (List_names base path) = omega arith
listed-few t (Mkdir base path) = by_place-few (where_on t base path) _ (λ d name. omega arith)
listed-few t (Create base path) = by_place-few (where_on t base path) _ (λ d name. omega arith)
listed-few t (Hard_link base old new) = by_place-few (where_on t base new) _ (λ d name. omega arith)
listed-few t (Symlink base text path) = by_place-few (where_on t base path) _ (λ d name. omega arith)
listed-few t (Unlink base path) = by_place-few (where_on t base path) _ (λ d name. let one = one_taken t d name in omega arith)
listed-few t (Rmdir base path) = by_place-few (where_on t base path) _ (λ d name. let one = one_taken t d name in omega arith)
listed-few t (Rename base old new flags) = by_place-few (where_on t base old) _ (λ from a. by_place-few (where_on t base new) _ (λ to b. four_by flags t from a to b))

unless-few : (change : Change) (keys : List Key) → length keys ≤ 4 → length (unless_refused change keys) ≤ 4
unless-few (Ok done) keys few = few
unless-few (Err refusal) keys few = omega arith

pub touches-few : TouchesFew
touches-few limit t request = unless-few (change_of limit t request) (listed t request) (listed-few t request)
