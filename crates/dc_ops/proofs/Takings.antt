-- What goes by a plan is what goes by the call.
use Rattle.std.proofs.Common.{◌≡◌, ℕ, ◌==◌, ◌&&◌, ◌||◌, not, List, Bool, true, false, if◌then◌else◌, Option, Some, None, IfSome, IfOk, IfErr, Result, Ok, Err, refl, ap, sym, ◌∙◌, subst}
use Rattle.std.specs.Result.{result_ok}
use Rattle.std.proofs.lemmas.Bool.{eqb-true}
use Rattle.dc_names.specs.Lasts.{last_shown}
use Rattle.dc_names.specs.Lasts.Last.{Name as Named}
use Rattle.dc_names.specs.Paths.{Path}
use Rattle.dc_names.specs.declared.name.Name as rust_name
use Rattle.dc_names.specs.declared.refusal.Refusal.{Refusal}
use Rattle.dc_names.specs.declared.refusal.Refusal.TheVariants.{NotFound, NotDirectory}
use Rattle.dc_plain.specs.declared.spot.Where as rust_where
use Rattle.dc_plain.specs.declared.call.Call.{Call}
use Rattle.dc_plain.specs.declared.call.Follow.TheVariants as follow
use Rattle.dc_plain.specs.Facts.{Target}
use Rattle.dc_plain.specs.LivingLaws.{WalksLeadToTheLiving}
use Rattle.dc_plain.specs.Operations.{replaceable, same_inode}
use Rattle.dc_plain.specs.Places.{Where}
use Rattle.dc_plain.specs.Refusals.{◌>>=◌, path_or_fault, place_on, present, walk_on, where_on}
use Rattle.dc_plain.specs.Spots.{where_shown}
use Rattle.dc_plain.specs.Requests.{Request, request_of}
use Rattle.dc_plain.specs.Requests.Request.{Look, Readlink, Stat, List_names, Mkdir, Create, Hard_link, Symlink, Unlink, Rmdir, Rename}
use Rattle.dc_plain.specs.Resolution.{is_directory}
use Rattle.dc_plain.specs.Trees.{Tree, target_at}
use Rattle.dc_plain.specs.declared.call.Flags.{Flags}
use Rattle.dc_ops.specs.Plans.{LivesIfWell}
use Rattle.dc_ops.specs.Replaced.{may_end, target_by, TakesMoved, TakesNamed}
use Rattle.dc_ops.specs.Taken.{leads_to, replaced, taken, taken_by, taken_if}
use Rattle.dc_ops.specs.declared.plans.Plan.{Plan}
use Rattle.dc_ops.proofs.LastNames.{leads_by}

-- ---- what goes lives
walked : (r : Result Target Refusal) (target : Target) → result_ok r ≡ Some target → r ≡ Ok target
walked (Ok other) target e = cc
walked (Err refusal) target e = absurd cc

by_replaced : (moved there : Option Target) (target : Target) → replaced moved there ≡ Some target → there ≡ Some target
by_replaced None there target e = absurd cc
by_replaced (Some moved) there target e = by (same_inode moved there) e
  where
    by : (one : Bool) → (if one then None else there) ≡ Some target → there ≡ Some target
    by true e = absurd cc
    by false e = e

module _ (living : WalksLeadToTheLiving) (t : Tree) (target : Target) where
  led : (base : ℕ) (text : List ℕ) → leads_to t base text ≡ Some target → LivesIfWell t target
  led base text e = λ well. living t base text follow.No target well (walked (walk_on t base text follow.No) target e)

  renamed : (base : ℕ) (old new : List ℕ) (exchange : Bool) → (if exchange then None else replaced (leads_to t base old) (leads_to t base new)) ≡ Some target → LivesIfWell t target
  renamed base old new true e = absurd cc
  renamed base old new false e = led base new (by_replaced (leads_to t base old) (leads_to t base new) target e)

  taken_lives : (request : Request) → taken_by t request ≡ Some target → LivesIfWell t target
  taken_lives (Unlink base path) e = led base path e
  taken_lives (Rmdir base path) e = led base path e
  taken_lives (Rename base old new flags) e = renamed base old new flags.exchange e
  taken_lives (Look base path how) e = absurd cc
  taken_lives (Readlink base path) e = absurd cc
  taken_lives (Stat base path) e = absurd cc
  taken_lives (List_names base path) e = absurd cc
  taken_lives (Mkdir base path) e = absurd cc
  taken_lives (Create base path) e = absurd cc
  taken_lives (Hard_link base old new) e = absurd cc
  taken_lives (Symlink base text path) e = absurd cc

pub lives_if : WalksLeadToTheLiving → (t : Tree) (request : Request) (found : Option Target) → found ≡ taken_by t request → IfSome found (LivesIfWell t)
lives_if living t request None e = tt
lives_if living t request (Some target) e = taken_lives living t target request (sym e)

-- ---- what is found at a name
pub was_present : (o : Option Target) (refusal : Refusal) (place : Target) → present refusal o ≡ Ok place → o ≡ Some place
was_present None refusal place e = absurd cc
was_present (Some other) refusal place e = cc

-- a directory may end in a slash, and what is none if there is no slash
pub ends_so : (slash : Bool) (o : Option Target) (place : Target) → o ≡ Some place → (not (is_directory place) && slash) ≡ false → may_end slash o ≡ true
ends_so slash None place e passed = absurd cc
ends_so slash (Some other) place e passed =
    let same : other ≡ place = cc in ap (λ (x : Target). not slash || is_directory x) same ∙ by slash (is_directory place) passed
  where
    by : (a b : Bool) → (not b && a) ≡ false → (not a || b) ≡ true
    by true true e = refl
    by true false e = absurd cc
    by false b e = refl

pub no_slash : (slash : Bool) (o : Option Target) → slash ≡ false → may_end slash o ≡ true
no_slash slash None e = refl
no_slash slash (Some place) e = ap (λ (s : Bool). not s || is_directory place) e

pub directory_ends : {directory : Bool} (slash : Bool) (o : Option Target) (place : Target) → o ≡ Some place → directory ≡ is_directory place → not directory ≡ false → may_end slash o ≡ true
directory_ends slash o place e kind is = ends_so slash o place e (ap (λ (b : Bool). not b && slash) (sym kind) ∙ ap (λ (b : Bool). b && slash) is)

-- of the two slashes that a rename's names may have
pub either_ends : (file a b : Bool) → (file && (a || b)) ≡ false → ((file && a) ≡ false) × ((file && b) ≡ false)
either_ends true true b e = absurd cc
either_ends true false b e = (refl, e)
either_ends false a b e = (refl, refl)

-- ---- what a move replaces
pub same_goes : (moved : Target) (there : Option Target) → same_inode moved there ≡ true → None ≡ replaced (Some moved) there
same_goes moved there same = ap (λ (b : Bool). if b then None else there) (sym same)

pub other_goes : (moved : Target) (there : Option Target) → same_inode moved there ≡ false → there ≡ replaced (Some moved) there
other_goes moved there other = ap (λ (b : Bool). if b then None else there) (sym other)

pub one_kind : (t : Tree) (moved : Target) (there : Option Target) → target_at t moved.0 ≡ Some moved → IfSome there (λ place. target_at t place.0 ≡ Some place) → same_inode moved there ≡ true → is_directory moved ≡ true → may_end true there ≡ true
one_kind t moved None lives alive same is = refl
one_kind t moved (Some place) lives alive same is =
    let one : moved.0 ≡ place.0 = eqb-true moved.0 place.0 same in
    let whole : Some moved ≡ Some place = sym lives ∙ ap (target_at t) one ∙ alive in
    let equal : moved ≡ place = cc in
    ap is_directory (sym equal) ∙ is

pub kind_replaced : (t : Tree) (moved : Target) (there : Option Target) → replaceable t moved there ≡ Ok true → is_directory moved ≡ true → may_end true there ≡ true
kind_replaced t moved None may is = refl
kind_replaced t moved (Some place) may is = by (is_directory moved) (is_directory place) _ _ may is
  where
    by : (a b : Bool) (empty file : Result Bool Refusal) → (if a then (if not b then Err NotDirectory else empty) else file) ≡ Ok true → a ≡ true → b ≡ true
    by true true empty file may e = refl
    by true false empty file may e = absurd cc
    by false b empty file may e = absurd cc

-- the new name may end as the old one, by the kinds of what stands there
pub new_ends : (slash : Bool) (moved : Target) (there : Option Target) → (not (is_directory moved) && slash) ≡ false → (is_directory moved ≡ true → may_end true there ≡ true) → may_end slash there ≡ true
new_ends slash moved None passed kinds = refl
new_ends slash moved (Some place) passed kinds = by slash (is_directory moved) (is_directory place) passed kinds
  where
    by : (s a b : Bool) → (not a && s) ≡ false → (a ≡ true → b ≡ true) → (not s || b) ≡ true
    by false a b passed kinds = refl
    by true true b passed kinds = kinds refl
    by true false b passed kinds = absurd cc

-- ---- by a rename, once both names are known
module _ (t : Tree) (from : rust_where.Where) (old : rust_name.Name) (to : rust_where.Where) (new : rust_name.Name) where
  pub named_swap : (exchange : Bool) (found : Result (Option Plan) Refusal) → exchange ≡ true → IfOk found (λ p. taken_if p ≡ None) → IfOk found (TakesNamed t from old to new exchange)
  named_swap exchange found is takes = subst (λ (b : Bool). IfOk found (TakesNamed t from old to new b)) (sym is) takes

  pub named_move : (exchange : Bool) (moved : Target) (found : Result (Option Plan) Refusal) → exchange ≡ false → target_by t from old ≡ Some moved → (not (is_directory moved) && (from.slash || to.slash)) ≡ false
      → IfOk found (TakesMoved t (record { dir = to.dir; name = new }) moved) → IfOk found (TakesNamed t from old to new exchange)
  named_move exchange moved (Err refusal) is stands passed takes = tt
  named_move exchange moved (Ok plan) is stands passed takes =
      let ends = either_ends (not (is_directory moved)) from.slash to.slash passed in
      subst (λ (b : Bool). TakesNamed t from old to new b plan) (sym is)
      (record {
        taken = takes.taken ∙ ap (λ (o : Option Target). replaced o (target_by t to new)) (sym stands);
        old_ends = ends_so from.slash (target_by t from old) moved stands ends.0;
        new_ends = new_ends to.slash moved (target_by t to new) ends.1 takes.kinds;
      })

  renamed_by : (base : ℕ) (a b : List ℕ) → where_on t base a ≡ Ok (where_shown from) → where_on t base b ≡ Ok (where_shown to) → last_shown from.last ≡ Named old.bytes.now → last_shown to.last ≡ Named new.bytes.now
      → (exchange : Bool) (plan : Option Plan) → TakesNamed t from old to new exchange plan → taken_if plan ≡ (if exchange then None else replaced (leads_to t base a) (leads_to t base b))
  renamed_by base a b from_is to_is old_is new_is true plan takes = takes
  renamed_by base a b from_is to_is old_is new_is false plan takes =
      takes.taken ∙ (λ i. replaced (sym (leads_by t base a old.bytes.now from_is old_is takes.old_ends) i) (sym (leads_by t base b new.bytes.now to_is new_is takes.new_ends) i))

  pub rename_takes : (base : ℕ) (a b : List ℕ) (flags : Flags) (found : Result (Option Plan) Refusal) → where_on t base a ≡ Ok (where_shown from) → where_on t base b ≡ Ok (where_shown to) → last_shown from.last ≡ Named old.bytes.now → last_shown to.last ≡ Named new.bytes.now
      → IfOk found (TakesNamed t from old to new flags.exchange) → IfOk found (λ p. taken_if p ≡ taken_by t (Rename base a b flags))
  rename_takes base a b flags (Err refusal) from_is to_is old_is new_is takes = tt
  rename_takes base a b flags (Ok plan) from_is to_is old_is new_is takes = renamed_by base a b from_is to_is old_is new_is flags.exchange plan takes

-- where a text's last part is to be looked up, in two steps
pub where_by : (t : Tree) (base : ℕ) (text : List ℕ) {path : Path} {at : Where} → path_or_fault text ≡ Ok path → place_on t base path ≡ Ok at → where_on t base text ≡ Ok at
where_by t base text is there = ap (λ (p : Result Path Refusal). p >>= place_on t base) is ∙ there

-- ---- by each call
pub takes_some : (t : Tree) (call asked : Call) (plan : Result Plan Refusal) (found : Result (Option Plan) Refusal) → call ≡ asked → IfOk plan (λ p. found ≡ Ok (Some p)) → IfErr plan (λ r. found ≡ Err r)
    → IfOk plan (λ p. taken p ≡ taken_by t (request_of asked)) → IfOk found (λ p. taken_if p ≡ taken_by t (request_of call))
takes_some t call asked (Ok plan) found is ok err takes =
    subst (λ (f : Result (Option Plan) Refusal). IfOk f (λ p. taken_if p ≡ taken_by t (request_of call))) (sym ok) (takes ∙ ap (λ (c : Call). taken_by t (request_of c)) (sym is))
takes_some t call asked (Err refusal) found is ok err takes = subst (λ (f : Result (Option Plan) Refusal). IfOk f (λ p. taken_if p ≡ taken_by t (request_of call))) (sym err) tt

-- of what a call came to
pub takes_if : (t : Tree) (request : Request) (found : Option Plan) (plan : Plan) → found ≡ Some plan → taken_if found ≡ taken_by t request → taken plan ≡ taken_by t request
takes_if t request found plan is takes = ap taken_if (sym is) ∙ takes

pub idle_if : (t : Tree) (request : Request) (found : Option Plan) → found ≡ None → taken_if found ≡ taken_by t request → taken_by t request ≡ None
idle_if t request found is takes = sym takes ∙ ap taken_if is
