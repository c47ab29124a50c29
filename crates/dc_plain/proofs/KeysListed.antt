-- A call touches the keys that are listed for it, and no others.
use Rattle.std.proofs.Common.{◌≡◌, ◌≢◌, inl, inr, ℕ, zero, suc, ◌==◌, ◌<◌, Result, get_or, List, [], ◌∷◌, Bool, true, false, Option, Some, None, Ok, Err, refl, ap, sym, ◌∙◌, arith, length, subst}
use Rattle.std.specs.List.{Contains}
use Rattle.dc_names.specs.Laws.{PartsAreNamesOrDots}
use Rattle.dc_names.specs.declared.refusal.Refusal.{Refusal}
use Rattle.dc_plain.specs.Facts.{Key, Target}
use Rattle.dc_plain.specs.Facts.Label.{Entry}
use Rattle.dc_plain.specs.Trees.{Tree, Inode, entry_of, kind_of}
use Rattle.dc_plain.specs.Trees.Inode.{Directory, Regular, Symbolic}
use Rattle.dc_plain.specs.Requests.{Answer, Request}
use Rattle.dc_plain.specs.Requests.Request.{Look, Readlink, Stat, List_names, Mkdir, Create, Hard_link, Symlink, Unlink, Rmdir, Rename}
use Rattle.dc_plain.specs.Refusals.{path_or_fault}
use Rattle.dc_plain.specs.Effects.{with_new, with_entry_for, without_entry, without_there, tree_swapped}
use Rattle.dc_plain.specs.Reads.{look, readlink, stat, list_names}
use Rattle.dc_plain.specs.Operations.{make, left_alone, link, rename, change_of, settled, Change, same_inode}
use Rattle.dc_plain.specs.Runs.{tree_after}
use Rattle.dc_plain.specs.IsWellFormed.{IsWellFormed}
use Rattle.dc_plain.specs.TouchedKeys.{entry_key, own_keys, keys_taken, keys_by, keys_gone, keys_renamed, with_number, by_last, by_place, at_name, listed, unless_refused, keys_touched}
use Rattle.dc_plain.specs.Laws.{TouchesTheListed, OthersStay}
use Rattle.dc_plain.proofs.Chains.{after, left_with}
use Rattle.dc_plain.proofs.Found.{Leads, Ends_in, Takes, makes, links, unlinks, rmdirs, entry-leads}
use Rattle.dc_plain.proofs.FoundMoves.{renames}
use Rattle.dc_plain.proofs.FoundMoves.Renames.{Moving, Swapping, Staying}
use Rattle.dc_plain.proofs.KeysSwapped.{keys_plain, keys_exchanged, swapped_keys, unswapped_keys, swapped-others, swapped-each}
use Rattle.dc_plain.specs.Spots.{spot_at}
use Rattle.dc_plain.specs.declared.call.Flags.{Flags}
use Rattle.dc_plain.proofs.Holders.{decided_not, other_test}
use Rattle.dc_plain.proofs.Removed.{IsUnentered, inode-left}
use Rattle.dc_plain.proofs.Moved.{IsReady, moved_to}
use Rattle.dc_plain.proofs.Keys.{made-others, made-each}
use Rattle.dc_plain.proofs.KeysLinked.{linked-others, linked-each}
use Rattle.dc_plain.proofs.KeysRemoved.{removed-others, removed-each, gone-each}
use Rattle.dc_plain.proofs.KeysRenamed.{renamed_keys, unmoved_keys, alone-others, over-others, renamed-each}
use Rattle.dc_plain.proofs.SameFacts.{IsAmong, KeepsOthers, AltersEach}

-- these keys have other facts, and all others the same
abbrev pub IsExact : Tree → List Key → Tree → Type 0
IsExact t keys u = KeepsOthers t u keys × AltersEach t u keys

unaltered : (t : Tree) → IsExact t [] t
unaltered t = (λ key. inr refl, λ key never. absurd never)

pub at_name-is : (t : Tree) (base : ℕ) (text : List ℕ) (d : ℕ) (name : List ℕ) (keys : ℕ → List ℕ → List Key) → Ends_in t base text d name → at_name t base text keys ≡ keys d name
at_name-is t base text d name keys ends =
    ap (λ r. by_place r keys) ends.spot ∙ ap (λ l. by_last l (keys ends.at.dir)) ends.last ∙ ap (λ (k : ℕ). keys k name) ends.dir

make-exact : PartsAreNamesOrDots → (limit : ℕ) (t : Tree) (base : ℕ) (text : List ℕ) (may : Bool) (inode : Inode) (done : Answer × Tree) → IsWellFormed t → make limit t base text may inode ≡ Ok done
    → IsExact t (at_name t base text (λ d name. entry_key d name ∷ own_keys t.next (kind_of inode))) done.1
make-exact parts limit t base text may inode done well e =
    let m = makes parts limit t base text may inode done well e in
    subst (IsExact t (at_name t base text (λ d name. entry_key d name ∷ own_keys t.next (kind_of inode)))) m.left
    (subst (λ keys. IsExact t keys (with_new t m.d m.name inode)) (sym (at_name-is t base text m.d m.name (λ d name. entry_key d name ∷ own_keys t.next (kind_of inode)) m.ends))
    (made-others t m.d m.name inode well m.held m.free, made-each t m.d m.name inode well m.held m.free))

link-exact : PartsAreNamesOrDots → (t : Tree) (base : ℕ) (old new : List ℕ) (done : Answer × Tree) → IsWellFormed t → link t base old new ≡ Ok done → IsExact t (at_name t base new (λ d name. entry_key d name ∷ [])) done.1
link-exact parts t base old new done well e =
    let l = links parts t base old new done well e in
    subst (IsExact t (at_name t base new (λ d name. entry_key d name ∷ []))) l.left
    (subst (λ keys. IsExact t keys (with_entry_for t l.d l.name l.n)) (sym (at_name-is t base new l.d l.name (λ d name. entry_key d name ∷ []) l.ends))
    (linked-others t l.d l.name l.n l.inode well l.held l.free l.lives l.no_directory, linked-each t l.d l.name l.n l.inode well l.held l.free l.lives l.no_directory))

take-exact : (t : Tree) (base : ℕ) (text : List ℕ) (u : Tree) → IsWellFormed t → Takes t base text u → IsExact t (at_name t base text (λ d name. entry_key d name ∷ keys_taken t d name)) u
take-exact t base text u well takes =
    let taken : entry_key takes.d takes.name ∷ keys_gone t takes.n ≡ at_name t base text (λ d name. entry_key d name ∷ keys_taken t d name) =
    sym (at_name-is t base text takes.d takes.name (λ d name. entry_key d name ∷ keys_taken t d name) takes.ends ∙ ap (λ o. entry_key takes.d takes.name ∷ with_number o (keys_gone t)) takes.leads) in
    subst (IsExact t (at_name t base text (λ d name. entry_key d name ∷ keys_taken t d name))) takes.left
    (subst (λ keys. IsExact t keys (without_entry t takes.d takes.name takes.n)) taken
    (removed-others t takes.d takes.name takes.n takes.inode well takes.leads takes.unentered takes.lives, removed-each t takes.d takes.name takes.n takes.inode well takes.leads takes.unentered takes.lives))

reads-exact : (t : Tree) (answered : Result Answer Refusal) (done : Answer × Tree) → left_alone t answered ≡ Ok done → IsExact t [] done.1
reads-exact t (Ok answer) done e = left_with (IsExact t []) answer t done e (unaltered t)
reads-exact t (Err refusal) done e = absurd cc

-- by what stands at the new name
move-exact : (t : Tree) (from : ℕ) (old : List ℕ) (to : ℕ) (new : List ℕ) (moved : Target) → IsWellFormed t → Leads t from old moved → (there : Option Target) → entry_of t to (Entry new) ≡ there → same_inode moved there ≡ false
    → ((p : Target) → there ≡ Some p → IsUnentered t p.0) → IsReady (without_there t to new there) from old to new moved.0
    → IsExact t (keys_renamed t from old to new) (moved_to (without_there t to new there) from old to new moved.0)
move-exact t from old to new moved well source None at apart unentered ready =
    subst (λ keys. IsExact t keys (moved_to t from old to new moved.0)) (sym (renamed_keys t from old to new moved.0 None source.target ready.free refl)) (
      alone-others t from old to new moved.0 source.inode well source.target source.lives ready,
      renamed-each t from old to new moved.0 source.inode well source.target source.lives t ready refl None at (λ e. cc) [] (λ key never. absurd never),
    )
move-exact t from old to new moved well source (Some p) at apart unentered ready =
    let leads = entry-leads t to new p at in
    let other : p.0 ≢ moved.0 = λ same. decided_not moved.0 p.0 apart (sym same) in
    subst (λ keys. IsExact t keys (moved_to (without_entry t to new p.0) from old to new moved.0)) (sym (renamed_keys t from old to new moved.0 (Some p.0) source.target leads.target apart)) (
      over-others t from old to new moved.0 source.inode well source.target source.lives p.0 leads.inode leads.target (unentered p refl) leads.lives other ready,
      renamed-each t from old to new moved.0 source.inode well source.target source.lives (without_entry t to new p.0) ready (inode-left t to new p.0 moved.0 other) (Some p) at
          (λ e. let pair : ◌≡◌ {A = Target} (moved.0, kind_of source.inode) p = cc in other (sym (ap (λ (q : Target). q.0) pair))) (keys_gone t p.0)
          (gone-each t to new p.0 leads.inode well leads.target (unentered p refl) leads.lives (moved_to (without_entry t to new p.0) from old to new moved.0) refl),
    )

-- if both names lead to one inode no key is listed
pub stay_keys : (t : Tree) (from : ℕ) (old : List ℕ) (to : ℕ) (new : List ℕ) (flags : Flags) (moved there : Target) → Leads t from old moved → Leads t to new there → (moved.0 == there.0) ≡ true → keys_by flags t from old to new ≡ []
stay_keys t from old to new flags moved there source at same = by_test flags.exchange refl
  where
    by_test : (b : Bool) → flags.exchange ≡ b → keys_by flags t from old to new ≡ []
    by_test true is = keys_exchanged flags t from old to new is ∙ unswapped_keys t from old to new moved.0 there.0 source.target at.target same
    by_test false is = keys_plain flags t from old to new is ∙ unmoved_keys t from old to new moved.0 there.0 source.target at.target same

-- the keys of a rename, by what it has found
pub renamed_so : (t : Tree) (base : ℕ) (old new : List ℕ) (flags : Flags) (from : ℕ) (a : List ℕ) (to : ℕ) (b : List ℕ) (keys : List Key) → Ends_in t base old from a → Ends_in t base new to b → keys_by flags t from a to b ≡ keys
    → listed t (Rename base old new flags) ≡ keys
renamed_so t base old new flags from a to b keys ends ends' is =
    at_name-is t base old from a (λ from a. at_name t base new (λ to b. keys_by flags t from a to b)) ends ∙ at_name-is t base new to b (λ to b. keys_by flags t from a to b) ends' ∙ is

rename-exact : PartsAreNamesOrDots → (t : Tree) (base : ℕ) (old new : List ℕ) (flags : Flags) (done : Answer × Tree) → IsWellFormed t → rename t base old new flags ≡ Ok done → IsExact t (listed t (Rename base old new flags)) done.1
rename-exact parts t base old new flags done well e = elim (renames parts t base old new flags done well e) [
  | Moving m ↦ subst (IsExact t (listed t (Rename base old new flags))) m.left
      (subst (λ keys. IsExact t keys (moved_to (without_there t m.to m.new_name m.there) m.from m.old_name m.to m.new_name m.moved.0))
      (sym (renamed_so t base old new flags m.from m.old_name m.to m.new_name _ m.old_ends m.new_ends (keys_plain flags t m.from m.old_name m.to m.new_name m.moves)))
      (move-exact t m.from m.old_name m.to m.new_name m.moved well m.source m.there m.at m.apart m.unentered m.ready))
  | Swapping s ↦ subst (IsExact t (listed t (Rename base old new flags))) s.left
      (subst (λ keys. IsExact t keys (tree_swapped t (spot_at s.from s.old_name) s.moved.0 (spot_at s.to s.new_name) s.there.0))
      (sym (renamed_so t base old new flags s.from s.old_name s.to s.new_name _ s.old_ends s.new_ends
      (keys_exchanged flags t s.from s.old_name s.to s.new_name s.swaps ∙ swapped_keys t s.from s.old_name s.to s.new_name s.moved.0 s.there.0 s.source.target s.at.target (other_test s.moved.0 s.there.0 s.can.two))))
      (swapped-others t s.from s.old_name s.moved s.to s.new_name s.there well s.source s.at s.can, swapped-each t s.from s.old_name s.moved s.to s.new_name s.there well s.source s.at s.can))
  | Staying s ↦ subst (IsExact t (listed t (Rename base old new flags))) s.left
      (subst (λ keys. IsExact t keys t)
      (sym (renamed_so t base old new flags s.from s.old_name s.to s.new_name [] s.old_ends s.new_ends (stay_keys t s.from s.old_name s.to s.new_name flags s.moved s.there s.source s.at s.same))) (unaltered t))
]

change-exact : PartsAreNamesOrDots → (limit : ℕ) (t : Tree) (request : Request) (done : Answer × Tree) → IsWellFormed t → change_of limit t request ≡ Ok done → IsExact t (listed t request) done.1
change-exact parts limit t (Look base path how) done well e = reads-exact t (look t base path how) done e
change-exact parts limit t (Readlink base path) done well e = reads-exact t (readlink t base path) done e
change-exact parts limit t (Stat base path) done well e = reads-exact t (stat t base path) done e
change-exact parts limit t (List_names base path) done well e = reads-exact t (list_names t base path) done e
change-exact parts limit t (Mkdir base path) done well e = make-exact parts limit t base path true Directory done well e
change-exact parts limit t (Create base path) done well e = make-exact parts limit t base path false Regular done well e
change-exact parts limit t (Hard_link base old new) done well e = link-exact parts t base old new done well e
change-exact parts limit t (Symlink base text path) done well e = after (path_or_fault text) _ done e (λ link_path good e. make-exact parts limit t base path false (Symbolic text) done well e)
change-exact parts limit t (Unlink base path) done well e = take-exact t base path done.1 well (unlinks t base path done well e)
change-exact parts limit t (Rmdir base path) done well e = take-exact t base path done.1 well (rmdirs t base path done well e)
change-exact parts limit t (Rename base old new flags) done well e = rename-exact parts t base old new flags done well e

settled-exact : (t : Tree) (keys : List Key) (change : Change) → ((done : Answer × Tree) → change ≡ Ok done → IsExact t keys done.1) → IsExact t (unless_refused change keys) (settled t change).1
settled-exact t keys (Ok done) so = so done refl
settled-exact t keys (Err refusal) so = unaltered t

pub calls-exact : PartsAreNamesOrDots → (limit : ℕ) (t : Tree) (request : Request) → IsWellFormed t → IsExact t (keys_touched limit t request) (tree_after limit t request)
calls-exact parts limit t request well = settled-exact t (listed t request) (change_of limit t request) (λ done. change-exact parts limit t request done well)

contained : (key : Key) (keys : List Key) → IsAmong key keys → Contains keys key
contained key [] never = absurd never
contained key (k ∷ keys) (inl is) = (0, omega arith, sym is)
contained key (k ∷ keys) (inr later) = let rest = contained key keys later in (suc rest.0, omega (arith, rest.1), rest.2)

among : (key : Key) (keys : List Key) (i : ℕ) → i < length keys → get_or keys i key ≡ key → IsAmong key keys
among key [] i within is = absurd (omega arith)
among key (k ∷ keys) zero within is = inl (sym is)
among key (k ∷ keys) (suc i) within is = inr (among key keys i (omega arith) is)

pub touches-listed : PartsAreNamesOrDots → TouchesTheListed
touches-listed parts limit t request well key =
    let exact = calls-exact parts limit t request well in (
      λ differs. elim (exact.0 key) [ inl is ↦ contained key (keys_touched limit t request) is | inr same ↦ absurd (differs same) ],
      λ contains. exact.1 key (among key (keys_touched limit t request) contains.0 contains.1 contains.2),
    )

pub others-stay : PartsAreNamesOrDots → OthersStay
others-stay parts limit t request well key = let exact = calls-exact parts limit t request well in elim (exact.0 key) [
  | inl is ↦ inl (contained key (keys_touched limit t request) is)
  | inr same ↦ inr same
]
