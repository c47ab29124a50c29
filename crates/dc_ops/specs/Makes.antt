-- Changes that make a new inode.
use Rattle.std.specs.Prelude.{ℕ, [], ◌∷◌, List, Bool, true, false, Result}
use Rattle.dc_names.specs.declared.name.Name as rust_name
use Rattle.dc_names.specs.declared.refusal.Refusal.{Refusal}
use Rattle.dc_plain.specs.declared.spot.Where as rust_where
use Rattle.dc_plain.specs.Planned.{link_from}
use Rattle.dc_plain.specs.Trees.{Tree, Inode}
use Rattle.dc_plain.specs.Trees.Inode.{Directory, Regular, Symbolic}
use Rattle.dc_plain.specs.Operations.{Change, make}
use Rattle.dc_plain.specs.TouchedKeys.{at_name, entry_key}
use Rattle.dc_store.specs.declared.store.New as rust_new
use Rattle.dc_store.specs.declared.store.New.TheVariants as news
use Rattle.dc_ops.specs.Keys.{keys_made}
use Rattle.dc_ops.specs.Plans.{Settles}
use Rattle.dc_ops.specs.declared.plans.Plan as rust_plan

abbrev pub MakesInode : rust_new.New → Type 0
MakesInode news.Dir = Unit {0}
MakesInode news.File = Unit {0}
MakesInode (news.Link text) = Unit {0}
MakesInode (news.Same n) = ⊥

-- the inode that is made
abbrev pub inode_made : rust_new.New → Inode
inode_made news.Dir = Directory
inode_made news.File = Regular
inode_made (news.Link text) = Symbolic text.bytes.now
inode_made (news.Same n) = Regular

-- a slash may end the path of a new directory alone
abbrev pub may_end_in_slash : rust_new.New → Bool
may_end_in_slash news.Dir = true
may_end_in_slash news.File = false
may_end_in_slash (news.Link text) = false
may_end_in_slash (news.Same n) = false

abbrev pub made_for : ℕ → Tree → ℕ → List ℕ → rust_new.New → Change
made_for limit t base text new = make limit t base text (may_end_in_slash new) (inode_made new)

-- an entry for a new inode comes to a plan, with the keys of the name and of the inode's own, or to its refusal
abbrev pub SettlesMade : ℕ → Tree → ℕ → List ℕ → rust_new.New → Result rust_plan.Plan Refusal → Type 0
SettlesMade limit t base text new found =
    Settles t (made_for limit t base text new) (at_name t base text (λ d name. entry_key d name ∷ keys_made t.next new)) found

-- a further name of what stands at a name comes to a plan with the key of the new name, or to its refusal
abbrev pub SettlesLink : Tree → rust_where.Where → rust_name.Name → rust_where.Where → rust_name.Name → Result rust_plan.Plan Refusal → Type 0
SettlesLink t from old to new found = Settles t (link_from from old to new t) (entry_key to.dir new.bytes.now ∷ []) found
