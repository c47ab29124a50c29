-- What the reply of a look-up that follows no last link tells of a readlink.
use Rattle.std.proofs.Common.{◌≡◌, ◌≢◌, ◌⊎◌, inl, inr, ℕ, List, Result, Ok, Err, Option, Some, None, option_map, option_and_then, refl, ap, sym, ◌∙◌, subst}
use Rattle.dc_names.specs.declared.kind.Kind.{Kind}
use Rattle.dc_names.specs.declared.kind.Kind.TheVariants.{Dir, File, Link}
use Rattle.dc_names.specs.declared.refusal.Refusal.{Refusal}
use Rattle.dc_names.specs.declared.refusal.Refusal.TheVariants.{Invalid}
use Rattle.dc_names.specs.Refusals.{refusal_number}
use Rattle.dc_plain.specs.declared.call.Follow.TheVariants as follow
use Rattle.dc_plain.specs.declared.call.Stamped.{Stamped}
use Rattle.dc_plain.specs.Facts.{Target}
use Rattle.dc_plain.specs.IsWellFormed.{IsWellFormed}
use Rattle.dc_plain.specs.Laws.{KeepsRunsWellFormed}
use Rattle.dc_plain.specs.LivingLaws.{WalksLeadToTheLiving}
use Rattle.dc_plain.specs.Operations.{settled, left_alone}
use Rattle.dc_plain.specs.Refusals.{◌>>=◌, walk_on}
use Rattle.dc_plain.specs.Requests.{Answer, answer_of}
use Rattle.dc_plain.specs.Requests.Answer.{Found, Bytes, Refused}
use Rattle.dc_plain.specs.Trees.{Tree, Inode, empty_tree, inode_of, kind_of, target_at, text_in, text_of}
use Rattle.dc_plain.specs.Trees.Inode.{Directory, Regular, Symbolic}
use Rattle.dc_events.specs.Standing.{tree_of}
use Rattle.dc_events.specs.Views.{View}
use Rattle.dc_walk.specs.Fasts.{Keeps, RecordedAlone}
use Rattle.dc_walk.specs.declared.answer.Fast.TheVariants as fasts
use Rattle.dc_cache.specs.Links.{look_there, ReadsAs, TellsOf, ReadsFast}
use Rattle.dc_cache.specs.declared.links.FastLink as rust_link
use Rattle.dc_cache.specs.declared.links.FastLink.TheVariants as links

-- what the two calls answer, by where the path leads
abbrev looked_by : Tree → Result Target Refusal → Answer
looked_by t found = (settled t (left_alone t (found >>= λ place. Ok (Found place.0 place.1)))).0

abbrev by_text : Tree → Option (List ℕ) → Answer
by_text t text = (settled t (left_alone t (elim text [ None ↦ Err Invalid | Some bytes ↦ Ok (Bytes bytes) ]))).0

abbrev read_by : Tree → Result Target Refusal → Answer
read_by t found = (settled t (left_alone t (found >>= λ place. elim (text_of t place.0) [ None ↦ Err Invalid | Some bytes ↦ Ok (Bytes bytes) ]))).0

-- what lives and is no link has no text
no_text : (n : ℕ) (o : Option Inode) (place : Target) → option_map (λ inode. (n, kind_of inode)) o ≡ Some place → place.1 ≢ Link → option_and_then text_in o ≡ None
no_text n None place e apart = absurd cc
no_text n (Some Directory) place e apart = refl
no_text n (Some Regular) place e apart = refl
no_text n (Some (Symbolic text)) place e apart = let same : (n, Link) ≡ place = cc in absurd (apart (sym (ap (λ p. p.1) same)))

refused_at : (t : Tree) (found : Result Target Refusal) → ((place : Target) → found ≡ Ok place → target_at t place.0 ≡ Some place) → (n : ℕ) (k : Kind) → k ≢ Link → looked_by t found ≡ Found n k
    → read_by t found ≡ Refused (refusal_number Invalid)
refused_at t (Err refusal) lives n k apart e = absurd cc
refused_at t (Ok place) lives n k apart e = let kind : place.1 ≡ k = cc in ap (by_text t) (no_text place.0 (inode_of t place.0) place (lives place refl) (λ is. apart (sym kind ∙ is)))

pub read_refused : WalksLeadToTheLiving → KeepsRunsWellFormed → IsWellFormed empty_tree → (base : ℕ) (text : List ℕ) (n : ℕ) (k : Kind) → k ≢ Link → ReadsAs base text (Found n k) (Refused (refusal_number Invalid))
read_refused living runs opened base text n k apart limit history e = let t = tree_of limit history in
    refused_at t (walk_on t base text follow.No) (λ place found. living t base text follow.No place (runs limit empty_tree history opened) found) n k apart e

pub no_link : (k : Kind) → (k ≡ Dir) ⊎ (k ≡ File) → k ≢ Link
no_link k (inl dir) e = let no : Dir ≡ Link = sym dir ∙ e in absurd cc
no_link k (inr file) e = let no : File ≡ Link = sym file ∙ e in absurd cc

-- and so for a reply that is known by its parts
pub read_invalid : WalksLeadToTheLiving → KeepsRunsWellFormed → IsWellFormed empty_tree → (base : ℕ) (text : List ℕ) (n : ℕ) (k : Kind) → k ≢ Link → (looked : Answer) (number : ℕ) → looked ≡ Found n k → number ≡ refusal_number Invalid
    → ReadsAs base text looked (Refused number)
read_invalid living runs opened base text n k apart looked number is told = subst (λ m. ReadsAs base text looked (Refused m)) (sym told) (subst (λ a. ReadsAs base text a (Refused (refusal_number Invalid))) (sym is) (read_refused living runs opened base text n k apart))

-- what was recorded of the look-up, with what is told by it
reads_by : (base : ℕ) (text : List ℕ) (buckets : ℕ) (before now : View) (found : Stamped) (told : rust_link.FastLink) → TellsOf base text found told → Keeps base text follow.No buckets before now (fasts.Done found)
    → ReadsFast base text buckets before now told
reads_by base text buckets before now found (links.Refused stamped) tells kept = record {
  looked = answer_of found.reply;
  recorded = subst (λ at. RecordedAlone (look_there base text) (answer_of found.reply) at before now) (sym tells.0) kept;
  reads = tells.1;
}
reads_by base text buckets before now found (links.Link stamped) tells kept = record {
  number = tells.1.0;
  found = ap (λ s. answer_of s.reply) tells.0 ∙ tells.1.1;
  recorded = subst (λ s. RecordedAlone (look_there base text) (answer_of s.reply) s.at before now) (sym tells.0) kept;
}
reads_by base text buckets before now found (links.Again why) tells kept = absurd tells

pub reads_fast : (base : ℕ) (text : List ℕ) (buckets : ℕ) (before now : View) (found : Stamped) (told : rust_link.FastLink) → ((base : ℕ) (text : List ℕ) → TellsOf base text found told) → Keeps base text follow.No buckets before now (fasts.Done found)
    → ReadsFast base text buckets before now told
reads_fast base text buckets before now found told tells kept = reads_by base text buckets before now found told (tells base text) kept
