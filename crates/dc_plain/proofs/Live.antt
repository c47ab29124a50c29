-- An inode lives where a path leads.
use Rattle.std.proofs.Common.{◌≡◌, ℕ, zero, suc, List, [], ◌∷◌, ◌++◌, ◌==◌, ◌&&◌, ◌||◌, not, Bool, true, false, cond, Option, Some, None, refl, ap, sym, ◌∙◌, option_map, option_and_then, subst, if◌then◌else◌}
use Rattle.dc_names.specs.declared.refusal.Refusal.TheVariants.{NotFound, NotDirectory, TooManyLinks}
use Rattle.dc_names.specs.Bytes.{is_empty}
use Rattle.dc_names.specs.Paths.{Part, path_in}
use Rattle.dc_names.specs.Paths.Part.{Name, Dot, DotDot}
use Rattle.dc_plain.specs.declared.call.Follow.{Follow}
use Rattle.dc_plain.specs.declared.call.Follow.TheVariants as follow
use Rattle.dc_plain.specs.Facts.{Target, Label}
use Rattle.dc_plain.specs.Facts.Label.{Entry, Parent, Text}
use Rattle.dc_plain.specs.Resolution.{Outcome, Met, root, is_directory, is_link, met_by, at_part, with_met, with_text, ending, over_parts, resolve, wants_directory, keeps_link}
use Rattle.dc_plain.specs.Resolution.Outcome.{Found, Refused}
use Rattle.dc_plain.specs.Resolution.Met.{Goes, Stops, Meets}
use Rattle.dc_plain.specs.Trees.{Tree, Inode, inode_of, target_at, entry_of, entry_number, holder_of, told_of, text_of, kind_of, is_live_directory}
use Rattle.dc_plain.specs.Trees.Inode.{Directory}

-- a place that is as the tree has it
abbrev pub Stands_at : Tree → Target → Type 0
Stands_at t place = target_at t place.0 ≡ Some place

number_of : (n : ℕ) (o : Option Inode) (q : Target) → option_map (λ inode. (n, kind_of inode)) o ≡ Some q → n ≡ q.0
number_of n None q e = cc
number_of n (Some inode) q e = let same : (n, kind_of inode) ≡ q = cc in ap (λ (p : Target). p.0) same

at_own : (t : Tree) (n : ℕ) (q : Target) → target_at t n ≡ Some q → Stands_at t q
at_own t n q e = ap (target_at t) (sym (number_of n (inode_of t n) q e)) ∙ e

by_target : (t : Tree) (o : Option ℕ) (q : Target) → option_and_then (target_at t) o ≡ Some q → Stands_at t q
by_target t None q e = cc
by_target t (Some n) q e = at_own t n q e

entry_stands : (t : Tree) → inode_of t 1 ≡ Some Directory → (d : ℕ) (label : Label) (q : Target) → entry_of t d label ≡ Some q → Stands_at t q
entry_stands t is_root d (Entry name) q e = by_target t (entry_number t (record { dir = d; name = name })) q e
entry_stands t is_root d Text q e = cc
entry_stands t is_root d Parent q e =
    elim (is_live_directory t d) as (λ b. cond (not b) None (cond (d == 1) (Some root) (option_and_then (target_at t) (holder_of t d))) ≡ Some q → Stands_at t q) [
      | false ↦ λ is. cc
      | true ↦ elim (d == 1) as (λ b. cond b (Some root) (option_and_then (target_at t) (holder_of t d)) ≡ Some q → Stands_at t q) [
        | true ↦ λ is. let same : root ≡ q = cc in at_own t 1 q (rw is_root (ap Some same))
        | false ↦ λ is. by_target t (holder_of t d) q is
      ]
    ] e

-- what a part leads to stands
abbrev pub Met_stands : Tree → Met → Type 0
Met_stands t (Goes q) = Stands_at t q
Met_stands t (Stops n) = Unit {0}
Met_stands t (Meets q) = Stands_at t q

met_by_stands : (t : Tree) (o : Option Target) (met : Met) → ((q : Target) → o ≡ Some q → Stands_at t q) → met_by (Some o) ≡ Some met → Met_stands t met
met_by_stands t None met so e = let same : Stops NotFound ≡ met = cc in subst (Met_stands t) same tt
met_by_stands t (Some q) met so e =
    elim (is_link q) as (λ b. Some (if b then Meets q else Goes q) ≡ Some met → Met_stands t met) [
      | true ↦ λ is. let same : Meets q ≡ met = cc in subst (Met_stands t) same (so q refl)
      | false ↦ λ is. let same : Goes q ≡ met = cc in subst (Met_stands t) same (so q refl)
    ] e

goes_there : (t : Tree) (place : Target) (met : Met) → Stands_at t place → Some (Goes place) ≡ Some met → Met_stands t met
goes_there t place met stands e = let same : Goes place ≡ met = cc in subst (Met_stands t) same stands

stops_there : (t : Tree) (met : Met) → Some (Stops NotDirectory) ≡ Some met → Met_stands t met
stops_there t met e = let same : Stops NotDirectory ≡ met = cc in subst (Met_stands t) same tt

met_stands : (t : Tree) → inode_of t 1 ≡ Some Directory → (place : Target) → Stands_at t place → (part : Part) (met : Met) → at_part (told_of t) place part ≡ Some met → Met_stands t met
met_stands t is_root place stands Dot met e =
    elim (is_directory place) as (λ b. cond (not b) (Some (Stops NotDirectory)) (Some (Goes place)) ≡ Some met → Met_stands t met) [
      | false ↦ stops_there t met
      | true ↦ goes_there t place met stands
    ] e
met_stands t is_root place stands (Name name) met e =
    elim (is_directory place) as (λ b. cond (not b) (Some (Stops NotDirectory)) (met_by (Some (entry_of t place.0 (Entry name)))) ≡ Some met → Met_stands t met) [
      | false ↦ stops_there t met
      | true ↦ met_by_stands t (entry_of t place.0 (Entry name)) met (entry_stands t is_root place.0 (Entry name))
    ] e
met_stands t is_root place stands DotDot met e =
    elim (is_directory place) as (λ b. cond (not b) (Some (Stops NotDirectory)) (cond (place.0 == 1) (Some (Goes place)) (met_by (Some (entry_of t place.0 Parent)))) ≡ Some met → Met_stands t met) [
      | false ↦ stops_there t met
      | true ↦ elim (place.0 == 1) as (λ b. cond b (Some (Goes place)) (met_by (Some (entry_of t place.0 Parent))) ≡ Some met → Met_stands t met) [
        | true ↦ goes_there t place met stands
        | false ↦ met_by_stands t (entry_of t place.0 Parent) met (entry_stands t is_root place.0 Parent)
      ]
    ] e

-- where a walk may end
abbrev pub Ends : Tree → Follow → Target → Type 0
Ends t how q = Stands_at t q × (wants_directory how ≡ true → is_directory q ≡ true)

wanted_is : (s w d : Bool) → ((s || w) && not d) ≡ false → w ≡ true → d ≡ true
wanted_is s w true e wanted = refl
wanted_is true w false e wanted = cc
wanted_is false true false e wanted = cc
wanted_is false false false e wanted = cc

pub and_last : (a b : Bool) → (a && b) ≡ true → b ≡ true
and_last true b e = e
and_last false b e = cc

ends_at : (t : Tree) (how : Follow) (place : Target) (slash : Bool) (q : Target) → Stands_at t place → Some (ending how place slash) ≡ Some (Found q) → Ends t how q
ends_at t how place slash q stands e =
    elim ((slash || wants_directory how) && not (is_directory place)) as (λ b. ((slash || wants_directory how) && not (is_directory place)) ≡ b
    → Some (if b then Refused NotDirectory else Found place) ≡ Some (Found q) → Ends t how q) [
      | true ↦ λ test is. absurd cc
      | false ↦ λ test is. let same : place ≡ q = cc in
          subst (Ends t how) same (stands, λ wanted. wanted_is slash (wants_directory how) (is_directory place) test wanted)
    ] refl e

kept_link : (how : Follow) → keeps_link how ≡ true → wants_directory how ≡ false
kept_link follow.Yes e = refl
kept_link follow.No e = refl
kept_link follow.Dir e = cc

true_not_false : (b : Bool) → b ≡ true → b ≡ false → ⊥
true_not_false b yes' no' = cc

over_stands : (t : Tree) → inode_of t 1 ≡ Some Directory → (how : Follow) (follow_link : Target → ℕ → List Part → Bool → Option Outcome)
    → ((place : Target) (link : ℕ) (rest : List Part) (slash : Bool) (q : Target) → Stands_at t place → follow_link place link rest slash ≡ Some (Found q) → Ends t how q)
    → (parts : List Part) (place : Target) (slash : Bool) (q : Target) → Stands_at t place → over_parts (told_of t) how follow_link place parts slash ≡ Some (Found q) → Ends t how q
over_stands t is_root how follow_link so [] place slash q stands e = ends_at t how place slash q stands e
over_stands t is_root how follow_link so (part ∷ rest) place slash q stands e =
    by_met (at_part (told_of t) place part) (met_stands t is_root place stands part)
    (λ next. over_stands t is_root how follow_link so rest next slash q) e
  where
    by_met : (o : Option Met) → ((met : Met) → o ≡ Some met → Met_stands t met) → ((next : Target) → Stands_at t next → over_parts (told_of t) how follow_link next rest slash ≡ Some (Found q) → Ends t how q)
        → with_met o (λ next. over_parts (told_of t) how follow_link next rest slash)
        (λ link. if is_empty rest && not slash && keeps_link how then Some (Found link) else follow_link place link.0 rest slash) ≡ Some (Found q) → Ends t how q
    by_met None met_so on e' = cc
    by_met (Some (Goes next)) met_so on e' = on next (met_so (Goes next) refl) e'
    by_met (Some (Stops n)) met_so on e' = absurd cc
    by_met (Some (Meets link)) met_so on e' =
        elim (is_empty rest && not slash && keeps_link how) as (λ b. (is_empty rest && not slash && keeps_link how) ≡ b
        → (if b then Some (Found link) else follow_link place link.0 rest slash) ≡ Some (Found q) → Ends t how q) [
          | true ↦ λ test is. let same : link ≡ q = cc in
              let wants_none = kept_link how (and_last (is_empty rest && not slash) (keeps_link how) test) in
              subst (Ends t how) same (met_so (Meets link) refl, λ wanted. absurd (true_not_false (wants_directory how) wanted wants_none))
          | false ↦ λ test is. so place link.0 rest slash q stands is
        ] refl e'

pub root_stands : (t : Tree) → inode_of t 1 ≡ Some Directory → Stands_at t root
root_stands t is_root = rw is_root refl

by_text : (t : Tree) → inode_of t 1 ≡ Some Directory → (how : Follow) (left : ℕ) {k : Target} → ((p : Target) (parts : List Part) (s : Bool) → Stands_at t p → resolve (told_of t) how left p parts s ≡ Some (Found k) → Ends t how k)
    → (o : Option (List ℕ)) (p : Target) (r : List Part) (s : Bool) (k' : Target) → Stands_at t p
    → with_text o (λ text. resolve (told_of t) how left (if (path_in text).absolute then root else p) ((path_in text).parts ++ r) (s || is_empty r && (path_in text).slash)) ≡ Some (Found k) → Ends t how k
by_text t is_root how left on None p r s k' st is = cc
by_text t is_root how left on (Some text) p r s k' st is =
    on (if (path_in text).absolute then root else p) _ _ (elim ((path_in text).absolute) as (λ b. Stands_at t (if b then root else p)) [ true ↦ root_stands t is_root | false ↦ st ]) is

pub resolve_stands : (t : Tree) → inode_of t 1 ≡ Some Directory → (how : Follow) (links : ℕ) (place : Target) (parts : List Part) (slash : Bool) (q : Target)
    → Stands_at t place → resolve (told_of t) how links place parts slash ≡ Some (Found q) → Ends t how q
unfolding resolve
resolve_stands t is_root how zero place parts slash q stands e =
    over_stands t is_root how (λ place link rest slash. Some (Refused TooManyLinks)) (λ p l r s k st is. absurd cc) parts place slash q stands e
resolve_stands t is_root how (suc left) place parts slash q stands e =
    over_stands t is_root how (λ place link rest slash. with_text (text_of t link) (λ text.
    resolve (told_of t) how left (if (path_in text).absolute then root else place) ((path_in text).parts ++ rest) (slash || is_empty rest && (path_in text).slash)))
    (λ p l r s k st is. by_text t is_root how left (λ p' parts' s' st'. resolve_stands t is_root how left p' parts' s' k st') (text_of t l) p r s k st is) parts place slash q stands e
