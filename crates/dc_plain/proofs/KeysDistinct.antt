-- No key is listed twice for a call.
use Rattle.std.proofs.Common.{◌≡◌, ◌≢◌, inl, inr, ℕ, ◌==◌, ◌&&◌, not, List, [], ◌∷◌, ◌++◌, true, false, Option, Some, None, Ok, Err, Result, is_some, refl, ap, sym, ◌∙◌, arith, subst, if◌then◌else◌}
use Rattle.std.specs.List.{All, AllPairs}
use Rattle.std.proofs.lemmas.List.Elements.{All-nil, All-cons}
use Rattle.std.proofs.lemmas.List.Kept.{AllPairs-cons}
use Rattle.dc_names.specs.Lasts.{Last}
use Rattle.dc_names.specs.Lasts.Last.{Root, Dot, DotDot, Name}
use Rattle.dc_names.specs.Laws.{PartsAreNamesOrDots}
use Rattle.dc_names.specs.declared.kind.Kind.{Kind}
use Rattle.dc_names.specs.declared.kind.Kind.TheVariants.{Dir, File, Link}
use Rattle.dc_names.specs.declared.refusal.Refusal.{Refusal}
use Rattle.dc_plain.specs.Facts.{Key, Label, Target}
use Rattle.dc_plain.specs.Facts.Label.{Entry, Parent, Text}
use Rattle.dc_plain.specs.IsWellFormed.{IsWellFormed}
use Rattle.dc_plain.specs.Laws.{TouchesEachOnce}
use Rattle.dc_plain.specs.Operations.{Change, change_of, rename, same_inode}
use Rattle.dc_plain.specs.Places.{Where}
use Rattle.dc_plain.specs.Refusals.{where_on}
use Rattle.dc_plain.specs.Requests.{Answer, Request}
use Rattle.dc_plain.specs.Requests.Request.{Look, Readlink, Stat, List_names, Mkdir, Create, Hard_link, Symlink, Unlink, Rmdir, Rename}
use Rattle.dc_plain.specs.TouchedKeys.{entry_key, parent_key, own_keys, keys_at, keys_gone, keys_taken, keys_moved, keys_renamed, keys_swapped, with_number, by_last, by_place, at_name, listed, unless_refused, keys_touched}
use Rattle.dc_plain.specs.Trees.{Tree, Inode, Spot, entry_number, entry_of, inode_of, kind_of, names_of, is_live_directory}
use Rattle.dc_plain.proofs.Found.{Leads, entry-leads}
use Rattle.dc_plain.proofs.FoundMoves.{renames}
use Rattle.dc_plain.proofs.FoundMoves.Renames.{Moving, Swapping, Staying}
use Rattle.dc_plain.proofs.KeysSwapped.{keys_plain, keys_exchanged, swapped_keys}
use Rattle.dc_plain.specs.declared.call.Flags.{Flags}
use Rattle.dc_plain.proofs.Holders.{decided_not, other_test}
use Rattle.dc_plain.proofs.KeysListed.{renamed_so, stay_keys}
use Rattle.dc_plain.proofs.Made.{free_spot}
use Rattle.dc_plain.proofs.KeysRenamed.{renamed_keys, among_either}
use Rattle.dc_plain.proofs.SameFacts.{IsAmong}

-- no key is one of those after it
abbrev AreDistinct : List Key → Type 0
AreDistinct [] = Unit {0}
AreDistinct (k ∷ ks) = (IsAmong k ks → ⊥) × AreDistinct ks

none_later : (k : Key) (ks : List Key) → (IsAmong k ks → ⊥) → All (λ other. k ≢ other) ks
none_later k [] out = All-nil _
none_later k (x ∷ xs) out = All-cons (λ other. k ≢ other) x xs (λ same. out (inl same)) (none_later k xs (λ later. out (inr later)))

in_pairs : (ks : List Key) → AreDistinct ks → AllPairs (λ key other. key ≢ other) ks
in_pairs [] apart = λ i j d low within. absurd (omega arith)
in_pairs (k ∷ ks) apart = AllPairs-cons (λ key other. key ≢ other) k ks (none_later k ks apart.0) (in_pairs ks apart.1)

distinct-append : (xs ys : List Key) → AreDistinct xs → AreDistinct ys → ((key : Key) → IsAmong key xs → IsAmong key ys → ⊥) → AreDistinct (xs ++ ys)
distinct-append [] ys one other apart = other
distinct-append (x ∷ xs) ys one other apart = (
  λ among. elim (among_either x xs ys among) [ inl early ↦ one.0 early | inr later ↦ apart x (inl refl) later ],
  distinct-append xs ys one.1 other (λ key early later. apart key (inr early) later),
)

-- a key of an inode's own is no name's
pub record IsOwn (n : ℕ) (key : Key) : Type 0 where
  pub number : key.number ≡ n
  pub no_name : (d : ℕ) (name : List ℕ) → entry_key d name ≢ key

no_entry_key : (d n : ℕ) (name : List ℕ) (label : Label) → Entry name ≢ label → entry_key d name ≢ record { number = n; label = label }
no_entry_key d n name label other same = other (ap (λ (k : Key). k.label) same)

own-is : (n : ℕ) (kind : Kind) (key : Key) → IsAmong key (own_keys n kind) → IsOwn n key
own-is n Dir key (inl is) = subst (IsOwn n) (sym is) (record { number = refl; no_name = λ d name. no_entry_key d n name Parent (λ e. cc) })
own-is n Dir key (inr never) = absurd never
own-is n File key never = absurd never
own-is n Link key (inl is) = subst (IsOwn n) (sym is) (record { number = refl; no_name = λ d name. no_entry_key d n name Text (λ e. cc) })
own-is n Link key (inr never) = absurd never

own-distinct : (n : ℕ) (kind : Kind) → AreDistinct (own_keys n kind)
own-distinct n Dir = (λ never. never, tt)
own-distinct n File = tt
own-distinct n Link = (λ never. never, tt)

at-own : (n : ℕ) (o : Option Inode) → ((key : Key) → IsAmong key (keys_at n o) → IsOwn n key) × AreDistinct (keys_at n o)
at-own n None = (λ key never. absurd never, tt)
at-own n (Some inode) = (own-is n (kind_of inode), own-distinct n (kind_of inode))

gone-own : (t : Tree) (n : ℕ) → ((key : Key) → IsAmong key (keys_gone t n) → IsOwn n key) × AreDistinct (keys_gone t n)
gone-own t n = elim (names_of t n == 1) as (λ b. ((key : Key) → IsAmong key (if b then keys_at n (inode_of t n) else []) → IsOwn n key) × AreDistinct (if b then keys_at n (inode_of t n) else [])) [
  | true ↦ at-own n (inode_of t n)
  | false ↦ (λ key never. absurd never, tt)
]

moved-own : (t : Tree) (from to n : ℕ) → ((key : Key) → IsAmong key (keys_moved t from to n) → IsOwn n key) × AreDistinct (keys_moved t from to n)
moved-own t from to n =
    elim (is_live_directory t n && not (from == to)) as (λ b. ((key : Key) → IsAmong key (if b then parent_key n ∷ [] else []) → IsOwn n key) × AreDistinct (if b then parent_key n ∷ [] else [])) [
      | true ↦ (own-is n Dir, own-distinct n Dir)
      | false ↦ (λ key never. absurd never, tt)
    ]

-- a name and the keys of one inode
with_own : (d : ℕ) (name : List ℕ) (n : ℕ) (keys : List Key) → ((key : Key) → IsAmong key keys → IsOwn n key) → AreDistinct keys → AreDistinct (entry_key d name ∷ keys)
with_own d name n keys own apart = (λ among. let is = own (entry_key d name) among in is.no_name d name refl, apart)

taken-distinct : (t : Tree) (d : ℕ) (name : List ℕ) → AreDistinct (entry_key d name ∷ keys_taken t d name)
taken-distinct t d name = by_there (entry_number t (record { dir = d; name = name }))
  where
    by_there : (o : Option ℕ) → AreDistinct (entry_key d name ∷ with_number o (keys_gone t))
    by_there None = (λ never. never, tt)
    by_there (Some n) = let gone = gone-own t n in with_own d name n (keys_gone t n) gone.0 gone.1

by_last-distinct : (last : Last) (keys : List ℕ → List Key) → ((name : List ℕ) → AreDistinct (keys name)) → AreDistinct (by_last last keys)
by_last-distinct (Name name) keys so = so name
by_last-distinct Root keys so = tt
by_last-distinct Dot keys so = tt
by_last-distinct DotDot keys so = tt

by_place-distinct : (r : Result Where Refusal) (keys : ℕ → List ℕ → List Key) → ((d : ℕ) (name : List ℕ) → AreDistinct (keys d name)) → AreDistinct (by_place r keys)
by_place-distinct (Ok at) keys so = by_last-distinct at.last (keys at.dir) (so at.dir)
by_place-distinct (Err refusal) keys so = tt

made-distinct : (t : Tree) (base : ℕ) (text : List ℕ) (kind : Kind) → AreDistinct (at_name t base text (λ d name. entry_key d name ∷ own_keys t.next kind))
made-distinct t base text kind = by_place-distinct (where_on t base text) _ (λ d name. with_own d name t.next (own_keys t.next kind) (own-is t.next kind) (own-distinct t.next kind))

abbrev name_in : Label → List ℕ
name_in (Entry name) = name
name_in Parent = []
name_in Text = []

one_spot : (from to : ℕ) (old new : List ℕ) → ◌≡◌ {A = Key} (entry_key from old) (entry_key to new) → ◌≡◌ {A = Spot} (record { dir = from; name = old }) (record { dir = to; name = new })
one_spot from to old new same = ap (λ (k : Key). record { dir = k.number; name = name_in k.label }) same

-- two names that lead to two inodes, or one to none, and the keys of these inodes
pair-distinct : (t : Tree) (from : ℕ) (old : List ℕ) (to : ℕ) (new : List ℕ) (n : ℕ) (gone : List Key) → entry_number t (record { dir = from; name = old }) ≡ Some n → entry_number t (record { dir = to; name = new }) ≢ Some n
    → ((key : Key) → IsAmong key gone → (d : ℕ) (name : List ℕ) → entry_key d name ≢ key) → AreDistinct gone → ((key : Key) → IsAmong key (keys_moved t from to n) → IsAmong key gone → ⊥)
    → AreDistinct (entry_key from old ∷ entry_key to new ∷ keys_moved t from to n ++ gone)
pair-distinct t from old to new n gone source other own apart none =
    let moved = moved-own t from to n in
    let no_name : (d : ℕ) (name : List ℕ) → IsAmong (entry_key d name) (keys_moved t from to n ++ gone) → ⊥ = λ d name among. elim (among_either (entry_key d name) (keys_moved t from to n) gone among) [
      | inl early ↦ let is = moved.0 (entry_key d name) early in is.no_name d name refl
      | inr later ↦ own (entry_key d name) later d name refl
    ] in (
      λ among. elim among [
        | inl same ↦ other (ap (entry_number t) (sym (one_spot from to old new same)) ∙ source)
        | inr later ↦ no_name from old later
      ],
      (no_name to new, distinct-append (keys_moved t from to n) gone moved.1 apart none),
    )

move-distinct : (t : Tree) (from : ℕ) (old : List ℕ) (to : ℕ) (new : List ℕ) (moved : Target) → Leads t from old moved → (there : Option Target) → entry_of t to (Entry new) ≡ there → same_inode moved there ≡ false
    → (free : there ≡ None → entry_number t (record { dir = to; name = new }) ≡ None) → AreDistinct (keys_renamed t from old to new)
move-distinct t from old to new moved source None at apart free =
    let none = free refl in
    subst AreDistinct (sym (renamed_keys t from old to new moved.0 None source.target none refl))
    (pair-distinct t from old to new moved.0 [] source.target (λ same. let clash : None ≡ Some moved.0 = sym none ∙ same in absurd cc) (λ key never. absurd never) tt (λ key early never. never))
move-distinct t from old to new moved source (Some p) at apart free =
    let leads = entry-leads t to new p at in
    let other : moved.0 ≢ p.0 = decided_not moved.0 p.0 apart in
    let gone = gone-own t p.0 in
    let moving = moved-own t from to moved.0 in
    subst AreDistinct (sym (renamed_keys t from old to new moved.0 (Some p.0) source.target leads.target apart))
    (pair-distinct t from old to new moved.0 (keys_gone t p.0) source.target
    (λ same. let clash : Some p.0 ≡ Some moved.0 = sym leads.target ∙ same in let one : p.0 ≡ moved.0 = cc in other (sym one))
    (λ key among. let is = gone.0 key among in is.no_name) gone.1
    (λ key early later. let one = moving.0 key early in let two = gone.0 key later in other (sym one.number ∙ two.number)))

swap-distinct : (t : Tree) (from : ℕ) (old : List ℕ) (to : ℕ) (new : List ℕ) (moved there : Target) → Leads t from old moved → Leads t to new there → moved.0 ≢ there.0 → AreDistinct (keys_swapped t from old to new)
swap-distinct t from old to new moved there source at other =
    let coming = moved-own t to from there.0 in
    let going = moved-own t from to moved.0 in
    subst AreDistinct (sym (swapped_keys t from old to new moved.0 there.0 source.target at.target (other_test moved.0 there.0 other)))
    (pair-distinct t from old to new moved.0 (keys_moved t to from there.0) source.target
    (λ same. let clash : Some there.0 ≡ Some moved.0 = sym at.target ∙ same in let one : there.0 ≡ moved.0 = cc in other (sym one))
    (λ key among. let is = coming.0 key among in is.no_name) coming.1
    (λ key early later. let one = going.0 key early in let two = coming.0 key later in other (sym one.number ∙ two.number)))

rename-distinct : PartsAreNamesOrDots → (t : Tree) (base : ℕ) (old new : List ℕ) (flags : Flags) (done : Answer × Tree) → IsWellFormed t → rename t base old new flags ≡ Ok done → AreDistinct (listed t (Rename base old new flags))
rename-distinct parts t base old new flags done well e = elim (renames parts t base old new flags done well e) [
  | Moving m ↦ subst AreDistinct (sym (renamed_so t base old new flags m.from m.old_name m.to m.new_name _ m.old_ends m.new_ends (keys_plain flags t m.from m.old_name m.to m.new_name m.moves)))
      (move-distinct t m.from m.old_name m.to m.new_name m.moved m.source m.there m.at m.apart (λ none. free_spot t m.to m.new_name well (ap is_some (m.at ∙ none))))
  | Swapping s ↦ subst AreDistinct (sym (renamed_so t base old new flags s.from s.old_name s.to s.new_name _ s.old_ends s.new_ends (keys_exchanged flags t s.from s.old_name s.to s.new_name s.swaps)))
      (swap-distinct t s.from s.old_name s.to s.new_name s.moved s.there s.source s.at s.can.two)
  | Staying s ↦ subst AreDistinct (sym (renamed_so t base old new flags s.from s.old_name s.to s.new_name [] s.old_ends s.new_ends (stay_keys t s.from s.old_name s.to s.new_name flags s.moved s.there s.source s.at s.same))) tt
]

change-distinct : PartsAreNamesOrDots → (limit : ℕ) (t : Tree) (request : Request) (done : Answer × Tree) → IsWellFormed t → change_of limit t request ≡ Ok done → AreDistinct (listed t request)
change-distinct parts limit t (Look base path how) done well e = tt
change-distinct parts limit t (Readlink base path) done well e = tt
change-distinct parts limit t (Stat base path) done well e = tt
change-distinct parts limit t (List_names base path) done well e = tt
change-distinct parts limit t (Mkdir base path) done well e = made-distinct t base path Dir
change-distinct parts limit t (Create base path) done well e = made-distinct t base path File
change-distinct parts limit t (Hard_link base old new) done well e = by_place-distinct (where_on t base new) _ (λ d name. (λ never. never, tt))
change-distinct parts limit t (Symlink base text path) done well e = made-distinct t base path Link
change-distinct parts limit t (Unlink base path) done well e = by_place-distinct (where_on t base path) _ (taken-distinct t)
change-distinct parts limit t (Rmdir base path) done well e = by_place-distinct (where_on t base path) _ (taken-distinct t)
change-distinct parts limit t (Rename base old new flags) done well e = rename-distinct parts t base old new flags done well e

settled-distinct : (keys : List Key) (change : Change) → ((done : Answer × Tree) → change ≡ Ok done → AreDistinct keys) → AreDistinct (unless_refused change keys)
settled-distinct keys (Ok done) so = so done refl
settled-distinct keys (Err refusal) so = tt

pub touches-once : PartsAreNamesOrDots → TouchesEachOnce
touches-once parts limit t request well =
    in_pairs (keys_touched limit t request) (settled-distinct (listed t request) (change_of limit t request) (λ done. change-distinct parts limit t request done well))
