-- Which facts of two trees are the same.
use Rattle.std.proofs.Common.{◌≡◌, ◌≢◌, ◌⊎◌, inl, inr, ℕ, ◌==◌, List, [], ◌∷◌, Bool, true, false, not, Option, Some, None, IsTrue, refl, ap, sym, ◌∙◌, option_map, option_and_then, if◌then◌else◌}
use Rattle.std.specs.Ordering.{eq_by_cmp, is_eq}
use Rattle.std.specs.declared.cmp.Ordering.{Ordering}
use Rattle.std.specs.declared.cmp.Ordering.TheVariants.{Less, Equal, Greater}
use Rattle.std.specs.FinMap.{nat_cmp-IsAntisymmetric, slice_cmp-IsAntisymmetric}
use Rattle.std.proofs.lemmas.Map.Lookups.{exact_pairs}
use Rattle.std.specs.Cmp.Lexicographic.{slice_cmp}
use Rattle.std.specs.Ordering.{nat_cmp}
use Rattle.dc_names.specs.declared.kind.Kind.TheVariants.{Dir}
use Rattle.dc_plain.specs.Facts.{Target, Key, Label}
use Rattle.dc_plain.specs.Facts.Label.{Entry, Parent, Text}
use Rattle.dc_plain.specs.Resolution.{root}
use Rattle.dc_plain.specs.Trees.{Tree, Spot, Inode, spot_cmp, inode_of, entry_number, target_at, entry_of, text_of, text_in, fact_at, kind_of, holder_of, is_live_directory, is_directory_inode}
use Rattle.std.specs.Cmp.{tied_itself}
use Rattle.dc_plain.proofs.Made.{is_directory_in, spots_total}
use Rattle.dc_plain.proofs.Holders.{other_test}

-- one of these keys
abbrev pub IsAmong : Key → List Key → Type 0
IsAmong key [] = ⊥
IsAmong key (k ∷ ks) = (key ≡ k) ⊎ IsAmong key ks

-- all but these keys have the same facts
abbrev pub KeepsOthers : Tree → Tree → List Key → Type 0
KeepsOthers t u keys = (key : Key) → IsAmong key keys ⊎ (fact_at u key ≡ fact_at t key)

-- and each of these has another
abbrev pub AltersEach : Tree → Tree → List Key → Type 0
AltersEach t u keys = (key : Key) → IsAmong key keys → fact_at u key ≢ fact_at t key

pub decide : (b : Bool) → (b ≡ true) ⊎ (b ≡ false)
decide true = inl refl
decide false = inr refl

equal_of : (o : Ordering) → is_eq o ≡ true → o ≡ Equal
equal_of Less e = cc
equal_of Equal e = refl
equal_of Greater e = cc

pub same_spot : (a b : Spot) → eq_by_cmp spot_cmp a b ≡ true → a ≡ b
same_spot a b e = ap (λ (p : ℕ × List ℕ). record { dir = p.0; name = p.1 })
    (exact_pairs nat_cmp (slice_cmp nat_cmp) nat_cmp-IsAntisymmetric (slice_cmp-IsAntisymmetric nat_cmp-IsAntisymmetric) (a.dir, a.name) (b.dir, b.name) (equal_of (spot_cmp a b) e))

pub same_key : (d q : ℕ) (name other : List ℕ) → eq_by_cmp spot_cmp (record { dir = q; name = other }) (record { dir = d; name = name }) ≡ true
    → ◌≡◌ {A = Key} (record { number = q; label = Entry other }) (record { number = d; label = Entry name })
same_key d q name other e = ap (λ (s : Spot). record { number = s.dir; label = Entry s.name }) (same_spot (record { dir = q; name = other }) (record { dir = d; name = name }) e)

pub target-same : (t u : Tree) (n : ℕ) → inode_of u n ≡ inode_of t n → target_at u n ≡ target_at t n
target-same t u n e = ap (option_map (λ inode. (n, kind_of inode))) e

pub text-same : (t u : Tree) (n : ℕ) → inode_of u n ≡ inode_of t n → text_of u n ≡ text_of t n
text-same t u n e = ap (option_and_then text_in) e

onward : (t u : Tree) (o : Option ℕ) → ((n : ℕ) → o ≡ Some n → target_at u n ≡ target_at t n) → option_and_then (target_at u) o ≡ option_and_then (target_at t) o
onward t u None so = refl
onward t u (Some n) so = so n refl

pub entry-same : (t u : Tree) (d : ℕ) (name : List ℕ) → entry_number u (record { dir = d; name = name }) ≡ entry_number t (record { dir = d; name = name })
    → ((n : ℕ) → entry_number t (record { dir = d; name = name }) ≡ Some n → target_at u n ≡ target_at t n) → entry_of u d (Entry name) ≡ entry_of t d (Entry name)
entry-same t u d name e so = ap (option_and_then (target_at u)) e ∙ onward t u (entry_number t (record { dir = d; name = name })) so

pub parent-same : (t u : Tree) (n : ℕ) → inode_of u n ≡ inode_of t n → (IsTrue (is_live_directory t n) → holder_of u n ≡ holder_of t n)
    → ((up : ℕ) → holder_of t n ≡ Some up → target_at u up ≡ target_at t up) → entry_of u n Parent ≡ entry_of t n Parent
parent-same t u n inodes held so =
    ap (λ o. if not (is_directory_inode o) then None else if n == 1 then Some root else option_and_then (target_at u) (holder_of u n)) inodes
    ∙ by_live (is_live_directory t n) refl
  where
    by_live : (b : Bool) → is_live_directory t n ≡ b → (if not b then None else if n == 1 then Some root else option_and_then (target_at u) (holder_of u n))
        ≡ (if not b then None else if n == 1 then Some root else option_and_then (target_at t) (holder_of t n))
    by_live false live = refl
    by_live true live = ap (λ o. if n == 1 then Some root else o) (ap (option_and_then (target_at u)) (held live) ∙ onward t u (holder_of t n) so)

-- only a directory has a parent
pub no_parent : (t : Tree) (n : ℕ) → is_live_directory t n ≡ false → entry_of t n Parent ≡ None
no_parent t n e = rw e refl

pub parent-fact : (t : Tree) (n up : ℕ) → IsTrue (is_live_directory t up) → IsTrue (is_live_directory t n) → n ≢ 1 → holder_of t n ≡ Some up → entry_of t n Parent ≡ Some (up, Dir)
parent-fact t n up up_live live other held =
    rw live (rw (other_test n 1 other) (ap (option_and_then (target_at t)) held ∙ ap (option_map (λ inode. (up, kind_of inode))) (is_directory_in (inode_of t up) up_live)))

pub entry-fact : (t : Tree) (d : ℕ) (name : List ℕ) (n : ℕ) (inode : Inode) → entry_number t (record { dir = d; name = name }) ≡ Some n → inode_of t n ≡ Some inode → entry_of t d (Entry name) ≡ Some (n, kind_of inode)
entry-fact t d name n inode e is = ap (option_and_then (target_at t)) e ∙ ap (option_map (λ inode. (n, kind_of inode))) is

-- a name with no entry
pub no_entry : (t : Tree) (d : ℕ) (name : List ℕ) → entry_number t (record { dir = d; name = name }) ≡ None → entry_of t d (Entry name) ≡ None
no_entry t d name e = ap (option_and_then (target_at t)) e

pub tied : (d : ℕ) (name : List ℕ) → eq_by_cmp spot_cmp (record { dir = d; name = name }) (record { dir = d; name = name }) ≡ true
tied d name = ap is_eq (tied_itself spots_total (record { dir = d; name = name }))

-- by the two facts
pub entries-differ : (t u : Tree) (key : Key) (d : ℕ) (label : Label) (before after : Option Target) → key ≡ record { number = d; label = label } → fact_at t (record { number = d; label = label }) ≡ (before, None)
    → fact_at u (record { number = d; label = label }) ≡ (after, None) → after ≢ before → fact_at u key ≢ fact_at t key
entries-differ t u key d label before after is old new apart same =
    apart (ap (λ (f : Option Target × Option (List ℕ)). f.0) (sym new ∙ sym (ap (fact_at u) is) ∙ same ∙ ap (fact_at t) is ∙ old))

pub texts-differ : (t u : Tree) (key : Key) (n : ℕ) (before after : Option (List ℕ)) → key ≡ record { number = n; label = Text } → text_of t n ≡ before → text_of u n ≡ after → after ≢ before → fact_at u key ≢ fact_at t key
texts-differ t u key n before after is old new apart same =
    apart (sym new ∙ ap (λ (f : Option Target × Option (List ℕ)). f.1) (sym (ap (fact_at u) is) ∙ same ∙ ap (fact_at t) is) ∙ old)
