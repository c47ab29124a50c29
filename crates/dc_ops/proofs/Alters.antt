-- What is carried out makes another tree.
use Rattle.std.proofs.Common.{◌≡◌, ◌≢◌, ℕ, ◌==◌, List, Bool, true, false, not, cond, Option, Some, None, Result, Ok, Err, refl, ap, sym, ◌∙◌, IfSome, IfOk, IfErr, subst, if◌then◌else◌}
use Rattle.std.specs.Cmp.{IsTotalOrder, tied_itself}
use Rattle.std.specs.Ordering.{eq_by_cmp, is_eq}
use Rattle.std.specs.FinMap.Entries.{put, find-put, find-where_key}
use Rattle.std.specs.FinMap.Entries.{find as lookup}
use Rattle.dc_plain.specs.Trees.{Tree, Spot, entry_of, spot_cmp, entry_number, names_of, without_spot, without_number}
use Rattle.dc_plain.specs.declared.call.Call.{Call}
use Rattle.dc_plain.specs.Requests.{Request, Answer, request_of}
use Rattle.dc_plain.specs.Requests.Answer.{Nothing, Refused}
use Rattle.dc_plain.specs.Facts.Label.{Entry}
use Rattle.dc_plain.specs.Operations.{change_of, settled, operation, left_alone}
use Rattle.dc_plain.specs.TouchedKeys.{listed, unless_refused}
use Rattle.dc_store.specs.Moved.{tree_moved}
use Rattle.dc_names.specs.declared.refusal.Refusal.{Refusal}
use Rattle.dc_names.specs.Refusals.{refusal_number}
use Rattle.dc_ops.specs.Reads.{answered}
use Rattle.dc_plain.specs.Conditions.{CanSwap}
use Rattle.dc_plain.specs.Effects.{with_entry_for, without_entry, without_entry_alone, without_there, tree_swapped}
use Rattle.dc_plain.specs.LivingLaws.{AltersDecides}
use Rattle.dc_plain.specs.Runs.{alters, tree_after}
use Rattle.dc_store.specs.Added.{tree_added}
use Rattle.dc_plain.specs.Spots.{spot_at, spot_shown}
use Rattle.dc_store.specs.declared.store.New as rust_new
use Rattle.dc_store.specs.declared.store.New.TheVariants as news
use Rattle.dc_ops.specs.declared.plans.Plan as rust_plan
use Rattle.dc_ops.specs.declared.plans.Plan.TheVariants as plans
use Rattle.dc_ops.specs.Plans.{effect, CanCarry, PlanTakesNoMemory, IsPlanOf, CallTakesNoMemory, LivesIfWell, Settles, SettlesIf, Plans, Declines}
use Rattle.dc_ops.specs.Taken.{taken_by, taken_if}
use Rattle.dc_ops.proofs.Distinct.{plan_distinct}

-- what goes by what a call came to is what goes by the call, and lives
pub record TellsTaken (t : Tree) (request : Request) (found : Option rust_plan.Plan) : Type 0 where
  pub taken : taken_if found ≡ taken_by t request
  pub lives : IfSome (taken_if found) (LivesIfWell t)

no_some : (n : ℕ) → ◌≡◌ {A = Option ℕ} None (Some n) → ⊥
no_some n e = cc

-- the test of a call tells whether it makes another tree
module _ (decides : AltersDecides) (limit : ℕ) (t : Tree) (request : Request) where
  alters_so : tree_after limit t request ≢ t → alters limit t request ≡ true
  alters_so other = let is = decides limit t request in is.1 other

  alters_not : tree_after limit t request ≡ t → alters limit t request ≡ false
  alters_not same = by_test (alters limit t request) refl
    where
      by_test : (b : Bool) → alters limit t request ≡ b → alters limit t request ≡ false
      by_test true e = let is = decides limit t request in absurd (is.0 e same)
      by_test false e = e

module _ (total : IsTotalOrder spot_cmp) where
  -- what is put in is found
  found : (spot : Spot) (n : ℕ) (es : List (Spot × ℕ)) → lookup spot_cmp spot (put spot_cmp spot n es) ≡ Some n
  found spot n es = find-put spot_cmp total spot spot n es ∙ ap (λ o. cond (is_eq o) (Some n) (lookup spot_cmp spot es)) (tied_itself total spot)

  put_differs : (spot : Spot) (n : ℕ) (t : Tree) → entry_number t spot ≡ None → put spot_cmp spot n t.entries ≢ t.entries
  put_differs spot n t free same = no_some n (sym (ap (lookup spot_cmp spot) same ∙ free) ∙ found spot n t.entries)

  added_differs : (t : Tree) (d : ℕ) (name : List ℕ) (new : rust_new.New) → entry_number t (spot_at d name) ≡ None → tree_added t d name new ≢ t
  added_differs t d name news.Dir free same = put_differs (spot_at d name) t.next t free (ap (λ (u : Tree). u.entries) same)
  added_differs t d name news.File free same = put_differs (spot_at d name) t.next t free (ap (λ (u : Tree). u.entries) same)
  added_differs t d name (news.Link text) free same = put_differs (spot_at d name) t.next t free (ap (λ (u : Tree). u.entries) same)
  added_differs t d name (news.Same n) free same = put_differs (spot_at d name) n t free (ap (λ (u : Tree). u.entries) same)

  -- an entry that went is no longer found
  taken : (t : Tree) (spot : Spot) (n : ℕ) → entry_number t spot ≡ Some n → without_spot spot t.entries ≢ t.entries
  taken t spot n there same =
      let gone : lookup spot_cmp spot (without_spot spot t.entries) ≡ None =
      find-where_key spot_cmp (λ x. not (eq_by_cmp spot_cmp spot x)) spot (λ x tied. ap (λ o. not (is_eq o)) (tied ∙ sym (tied_itself total spot))) t.entries
      ∙ ap (λ o. cond (not (is_eq o)) (lookup spot_cmp spot t.entries) None) (tied_itself total spot) in
      let still : lookup spot_cmp spot (without_spot spot t.entries) ≡ Some n = ap (lookup spot_cmp spot) same ∙ there in
      no_some n (sym gone ∙ still)

  entries_without : (t : Tree) (d : ℕ) (name : List ℕ) (n : ℕ) → (without_entry t d name n).entries ≡ without_spot (spot_at d name) t.entries
  entries_without t d name n = by (names_of (record t { entries = without_spot (spot_at d name) t.entries }) n == 0)
    where
      by : (b : Bool) → (if b then record t { entries = without_spot (spot_at d name) t.entries; inodes = without_number n t.inodes } else record t { entries = without_spot (spot_at d name) t.entries }).entries ≡ without_spot (spot_at d name) t.entries
      by true = refl
      by false = refl

  dropped_differs : (t : Tree) (d : ℕ) (name : List ℕ) (n : ℕ) → entry_number t (spot_at d name) ≡ Some n → without_entry t d name n ≢ t
  dropped_differs t d name n there same = taken t (spot_at d name) n there (sym (entries_without t d name n) ∙ ap (λ (u : Tree). u.entries) same)

  -- what moved is found at the new name
  moved_differs : (t : Tree) (from to : Spot) (n : ℕ) → entry_number t to ≢ Some n → tree_moved t from to n ≢ t
  moved_differs t from to n other same =
      let rest : Tree = without_entry_alone (without_there t to.dir to.name (entry_of t to.dir (Entry to.name))) from.dir from.name in
      let there : entry_number (tree_moved t from to n) to ≡ Some n = found to n rest.entries in
      other (sym (ap (λ u. entry_number u to) same) ∙ there)

  -- what swapped is found at the other name
  swapped_differs : (t : Tree) (a : Spot) (m : ℕ) (b : Spot) (n : ℕ) → CanSwap t a m b n → tree_swapped t a m b n ≢ t
  swapped_differs t a m b n can same =
      let half : Tree = with_entry_for t a.dir a.name n in
      let both : Some m ≡ Some n = sym (found b m half.entries) ∙ ap (λ (u : Tree). entry_number u b) same ∙ can.second in
      let one : m ≡ n = cc in can.two one

  effect_differs : (plan : rust_plan.Plan) (t : Tree) → CanCarry plan t → (effect plan t).1 ≢ t
  effect_differs (plans.Add d name new number) t can = added_differs t d name.bytes.now new can.1
  effect_differs (plans.Drop d name number kind lost) t can = dropped_differs t d name.bytes.now number can.0
  effect_differs (plans.Move from to number reparents over lost) t can = moved_differs t (spot_shown from) (spot_shown to) number can.1.other
  effect_differs (plans.Swap from to first second) t can = swapped_differs t (spot_shown from) first.number (spot_shown to) second.number can

  -- a change that comes to a plan
  plans_so : AltersDecides → (limit : ℕ) (t : Tree) (request : Request) (plan : rust_plan.Plan) → IsPlanOf t (change_of limit t request) (listed t request) plan
      → (CallTakesNoMemory request → PlanTakesNoMemory plan) → TellsTaken t request (Some plan) → Plans limit t request plan
  plans_so decides limit t request plan is spares goes =
      let whole : operation limit t request ≡ effect plan t = ap (settled t) is.does in
      record {
        operation = whole;
        can = is.can;
        alters = alters_so decides limit t request (λ same. effect_differs plan t is.can (ap (λ (p : Answer × Tree). p.1) (sym whole) ∙ same));
        keys = is.keys ∙ sym (ap (λ change. unless_refused change (listed t request)) is.does);
        distinct = plan_distinct plan t is.can is.loses;
        without_memory = spares;
        takes = goes.taken;
        lives = goes.lives;
      }

-- a call that leaves the tree as it is
declines_so : AltersDecides → (limit : ℕ) (t : Tree) (request : Request) (answer : Answer) → operation limit t request ≡ (answer, t) → Declines limit t request answer
declines_so decides limit t request answer is = record { operation = is; alters = alters_not decides limit t request (ap (λ (p : Answer × Tree). p.1) is) }

-- a read does
told : (t : Tree) (r : Result Answer Refusal) → settled t (left_alone t r) ≡ (answered r, t)
told t (Ok answer) = refl
told t (Err refusal) = refl

pub reads_so : AltersDecides → (limit : ℕ) (t : Tree) (request : Request) (r : Result Answer Refusal) (answer : Answer) → change_of limit t request ≡ left_alone t r → answer ≡ answered r → Declines limit t request answer
reads_so decides limit t request r answer is e = declines_so decides limit t request answer (ap (settled t) is ∙ told t r ∙ ap (λ a. (a, t)) (sym e))

pub reads_if : AltersDecides → (t : Tree) (request : Request) (r : Result Answer Refusal) {A E : Type 0} (shown : A → Answer) (found : Result A E) → ((limit : ℕ) → change_of limit t request ≡ left_alone t r)
    → IfOk found (λ a. shown a ≡ answered r) → IfOk found (λ a. (limit : ℕ) → Declines limit t request (shown a))
reads_if decides t request r shown (Ok a) is e = λ limit. reads_so decides limit t request r (shown a) (is limit) e
reads_if decides t request r shown (Err fault) is e = e

-- a change that may come to nothing
pub plans_if : IsTotalOrder spot_cmp → AltersDecides → (limit : ℕ) (t : Tree) (request : Request) (found : Option rust_plan.Plan) (plan : rust_plan.Plan) → found ≡ Some plan
    → SettlesIf t (change_of limit t request) (listed t request) (Ok found) → (CallTakesNoMemory request → IfSome found PlanTakesNoMemory) → TellsTaken t request found → Plans limit t request plan
plans_if total decides limit t request None plan is settles spares goes = absurd cc
plans_if total decides limit t request (Some other) plan is settles spares goes = let same : other ≡ plan = cc in subst (Plans limit t request) same (plans_so total decides limit t request other settles spares goes)

pub idles_if : AltersDecides → (limit : ℕ) (t : Tree) (request : Request) (found : Option rust_plan.Plan) → found ≡ None → SettlesIf t (change_of limit t request) (listed t request) (Ok found) → Declines limit t request Nothing
idles_if decides limit t request None is settles = declines_so decides limit t request Nothing (ap (settled t) settles)
idles_if decides limit t request (Some plan) is settles = absurd cc

pub refuses_so : AltersDecides → (limit : ℕ) (t : Tree) (request : Request) (refusal : Refusal) → change_of limit t request ≡ Err refusal → Declines limit t request (Refused (refusal_number refusal))
refuses_so decides limit t request refusal is = declines_so decides limit t request (Refused (refusal_number refusal)) (ap (settled t) is)

-- what a call comes to whose change is never idle
pub settles_some : (limit : ℕ) (t : Tree) (call asked : Call) (plan : Result rust_plan.Plan Refusal) (found : Result (Option rust_plan.Plan) Refusal) → call ≡ asked → IfOk plan (λ p. found ≡ Ok (Some p)) → IfErr plan (λ r. found ≡ Err r)
    → Settles t (change_of limit t (request_of asked)) (listed t (request_of asked)) plan → SettlesIf t (change_of limit t (request_of call)) (listed t (request_of call)) found
settles_some limit t call asked plan found is ok err settles = subst (λ call. SettlesIf t (change_of limit t (request_of call)) (listed t (request_of call)) found) (sym is) (by plan ok err settles)
  where
    by : (plan : Result rust_plan.Plan Refusal) → IfOk plan (λ p. found ≡ Ok (Some p)) → IfErr plan (λ r. found ≡ Err r)
        → Settles t (change_of limit t (request_of asked)) (listed t (request_of asked)) plan → SettlesIf t (change_of limit t (request_of asked)) (listed t (request_of asked)) found
    by (Ok plan) is err settles = subst (SettlesIf t (change_of limit t (request_of asked)) (listed t (request_of asked))) (sym is) settles
    by (Err refusal) ok is settles = subst (SettlesIf t (change_of limit t (request_of asked)) (listed t (request_of asked))) (sym is) settles
