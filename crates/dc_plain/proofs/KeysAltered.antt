-- A call alters the tree if it touches some key.
use Rattle.std.proofs.Common.{◌≡◌, ◌≢◌, ◌⊎◌, inl, inr, ℕ, List, [], ◌∷◌, Bool, true, false, Option, Some, None, Result, Ok, Err, refl, ap, sym, ◌∙◌}
use Rattle.dc_names.specs.Laws.{PartsAreNamesOrDots}
use Rattle.dc_names.specs.declared.refusal.Refusal.{Refusal}
use Rattle.dc_plain.specs.Facts.{Key, Target}
use Rattle.dc_plain.specs.Facts.Label.{Entry}
use Rattle.dc_plain.specs.Trees.{Tree, Inode, entry_of, fact_at, kind_of}
use Rattle.dc_plain.specs.Trees.Inode.{Directory, Regular, Symbolic}
use Rattle.dc_plain.specs.Requests.{Answer, Request}
use Rattle.dc_plain.specs.Requests.Request.{Look, Readlink, Stat, List_names, Mkdir, Create, Hard_link, Symlink, Unlink, Rmdir, Rename}
use Rattle.dc_plain.specs.Refusals.{path_or_fault}
use Rattle.dc_plain.specs.Effects.{without_there}
use Rattle.dc_plain.specs.Reads.{look, readlink, stat, list_names}
use Rattle.dc_plain.specs.Operations.{make, left_alone, rename, change_of, settled, Change, same_inode}
use Rattle.dc_plain.specs.Runs.{tree_after}
use Rattle.dc_plain.specs.IsWellFormed.{IsWellFormed}
use Rattle.dc_plain.specs.TouchedKeys.{entry_key, own_keys, keys_taken, keys_renamed, at_name, listed, unless_refused, keys_touched}
use Rattle.dc_plain.specs.Laws.{AltersWhereItTouches}
use Rattle.dc_plain.proofs.Chains.{after, left_with}
use Rattle.dc_plain.proofs.Found.{Leads, Takes, makes, links, unlinks, rmdirs, entry-leads}
use Rattle.dc_plain.proofs.FoundMoves.{renames}
use Rattle.dc_plain.proofs.FoundMoves.Renames.{Moving, Swapping, Staying}
use Rattle.dc_plain.proofs.Holders.{other_test}
use Rattle.dc_plain.proofs.KeysSwapped.{keys_plain, keys_exchanged, swapped_keys}
use Rattle.dc_plain.specs.declared.call.Flags.{Flags}
use Rattle.dc_plain.proofs.Moved.{IsReady}
use Rattle.dc_plain.proofs.KeysRenamed.{renamed_keys}
use Rattle.dc_plain.proofs.SameFacts.{IsAmong}
use Rattle.dc_plain.proofs.KeysListed.{at_name-is, renamed_so, calls-exact}

-- the tree stays, or some key is listed
abbrev StaysOrLists : Tree → Tree → List Key → Type 0
StaysOrLists t u keys = (u ≡ t) ⊎ (keys ≢ [])

begun : {keys : List Key} (k : Key) (ks : List Key) → keys ≡ k ∷ ks → keys ≢ []
begun k ks e none = cc

reads-stay : (t : Tree) (answered : Result Answer Refusal) (done : Answer × Tree) → left_alone t answered ≡ Ok done → StaysOrLists t done.1 []
reads-stay t (Ok answer) done e = inl (left_with (λ u. u ≡ t) answer t done e refl)
reads-stay t (Err refusal) done e = absurd cc

make-lists : PartsAreNamesOrDots → (limit : ℕ) (t : Tree) (base : ℕ) (text : List ℕ) (may : Bool) (inode : Inode) (done : Answer × Tree) → IsWellFormed t → make limit t base text may inode ≡ Ok done
    → at_name t base text (λ d name. entry_key d name ∷ own_keys t.next (kind_of inode)) ≢ []
make-lists parts limit t base text may inode done well e =
    let m = makes parts limit t base text may inode done well e in
    begun (entry_key m.d m.name) _ (at_name-is t base text m.d m.name (λ d name. entry_key d name ∷ own_keys t.next (kind_of inode)) m.ends)

take-lists : (t : Tree) (base : ℕ) (text : List ℕ) (u : Tree) → Takes t base text u → at_name t base text (λ d name. entry_key d name ∷ keys_taken t d name) ≢ []
take-lists t base text u takes = begun (entry_key takes.d takes.name) _ (at_name-is t base text takes.d takes.name (λ d name. entry_key d name ∷ keys_taken t d name) takes.ends)

move-lists : (t : Tree) (from : ℕ) (old : List ℕ) (to : ℕ) (new : List ℕ) (moved : Target) → Leads t from old moved → (there : Option Target) → entry_of t to (Entry new) ≡ there → same_inode moved there ≡ false
    → IsReady (without_there t to new there) from old to new moved.0 → keys_renamed t from old to new ≢ []
move-lists t from old to new moved source None at apart ready = begun (entry_key from old) _ (renamed_keys t from old to new moved.0 None source.target ready.free refl)
move-lists t from old to new moved source (Some p) at apart ready = let leads = entry-leads t to new p at in begun (entry_key from old) _ (renamed_keys t from old to new moved.0 (Some p.0) source.target leads.target apart)

rename-lists : PartsAreNamesOrDots → (t : Tree) (base : ℕ) (old new : List ℕ) (flags : Flags) (done : Answer × Tree) → IsWellFormed t → rename t base old new flags ≡ Ok done → StaysOrLists t done.1 (listed t (Rename base old new flags))
rename-lists parts t base old new flags done well e = elim (renames parts t base old new flags done well e) [
  | Staying s ↦ inl (sym s.left)
  | Swapping s ↦ inr (begun (entry_key s.from s.old_name) _ (renamed_so t base old new flags s.from s.old_name s.to s.new_name _ s.old_ends s.new_ends
      (keys_exchanged flags t s.from s.old_name s.to s.new_name s.swaps ∙ swapped_keys t s.from s.old_name s.to s.new_name s.moved.0 s.there.0 s.source.target s.at.target (other_test s.moved.0 s.there.0 s.can.two))))
  | Moving m ↦ inr (λ none. move-lists t m.from m.old_name m.to m.new_name m.moved m.source m.there m.at m.apart m.ready
      (sym (renamed_so t base old new flags m.from m.old_name m.to m.new_name _ m.old_ends m.new_ends (keys_plain flags t m.from m.old_name m.to m.new_name m.moves)) ∙ none))
]

change-lists : PartsAreNamesOrDots → (limit : ℕ) (t : Tree) (request : Request) (done : Answer × Tree) → IsWellFormed t → change_of limit t request ≡ Ok done → StaysOrLists t done.1 (listed t request)
change-lists parts limit t (Look base path how) done well e = reads-stay t (look t base path how) done e
change-lists parts limit t (Readlink base path) done well e = reads-stay t (readlink t base path) done e
change-lists parts limit t (Stat base path) done well e = reads-stay t (stat t base path) done e
change-lists parts limit t (List_names base path) done well e = reads-stay t (list_names t base path) done e
change-lists parts limit t (Mkdir base path) done well e = inr (make-lists parts limit t base path true Directory done well e)
change-lists parts limit t (Create base path) done well e = inr (make-lists parts limit t base path false Regular done well e)
change-lists parts limit t (Hard_link base old new) done well e =
    let l = links parts t base old new done well e in
    inr (begun (entry_key l.d l.name) [] (at_name-is t base new l.d l.name (λ d name. entry_key d name ∷ []) l.ends))
change-lists parts limit t (Symlink base text path) done well e = after (path_or_fault text) _ done e (λ link_path good e. inr (make-lists parts limit t base path false (Symbolic text) done well e))
change-lists parts limit t (Unlink base path) done well e = inr (take-lists t base path done.1 (unlinks t base path done well e))
change-lists parts limit t (Rmdir base path) done well e = inr (take-lists t base path done.1 (rmdirs t base path done well e))
change-lists parts limit t (Rename base old new flags) done well e = rename-lists parts t base old new flags done well e

settled-lists : (t : Tree) (keys : List Key) (change : Change) → ((done : Answer × Tree) → change ≡ Ok done → StaysOrLists t done.1 keys) → StaysOrLists t (settled t change).1 (unless_refused change keys)
settled-lists t keys (Ok done) so = so done refl
settled-lists t keys (Err refusal) so = inl refl

some_touched : (t u : Tree) (keys : List Key) → ((key : Key) → IsAmong key keys → fact_at u key ≢ fact_at t key) → keys ≢ [] → u ≢ t
some_touched t u [] each some same = some refl
some_touched t u (k ∷ keys) each some same = each k (inl refl) (ap (λ v. fact_at v k) same)

pub alters-where : PartsAreNamesOrDots → AltersWhereItTouches
alters-where parts limit t request well =
    let exact = calls-exact parts limit t request well in (
      λ altered. elim (settled-lists t (listed t request) (change_of limit t request) (λ done. change-lists parts limit t request done well)) [ inl same ↦ absurd (altered same) | inr some ↦ some ],
      some_touched t (tree_after limit t request) (keys_touched limit t request) exact.1,
    )
