-- A change that was made under the lock was made from before the lock was got, and what it took away was told.
use Rattle.std.specs.Borrow.{MutBor}
use Rattle.std.proofs.Common.{◌≡◌, ℕ, ◌++◌, ◌∷◌, [], true, Option, None, Bool, IfOk, IfSome, IsTrue, Result, Ok, Err, arith, refl, ap, sym, subst, ◌∙◌}
use Rattle.dc_plain.specs.Requests.{Answer, Request, answer_of}
use Rattle.dc_plain.specs.Requests.Answer.{Found, Done, Nothing, Bytes, Names, Counted, Refused}
use Rattle.dc_plain.specs.Runs.{alters, reply_of}
use Rattle.dc_plain.specs.Trees.{Tree}
use Rattle.dc_plain.specs.declared.call.Reply.{Reply}
use Rattle.dc_plain.specs.declared.call.Stamped.{Stamped}
use Rattle.dc_ops.specs.Settled.{IsPlanned}
use Rattle.dc_ops.specs.Plans.{LivesIfWell}
use Rattle.dc_ops.specs.Taken.{taken, TakesNothing}
use Rattle.dc_ops.specs.declared.plans.Plan.{Plan}
use Rattle.dc_events.specs.Standing.{tree_of}
use Rattle.dc_rows.specs.Guards.{seat_of, kept_by, rows_of, IsStill}
use Rattle.dc_rows.specs.Outcomes.{IsBack, Makes, RowsAfter}
use Rattle.dc_rows.specs.declared.fault.ChangeFault.{ChangeFault}
use Rattle.dc_rows.specs.declared.guard.Guard.{Guard}
use Rattle.dc_table.specs.Changes.{NothingNew}
use Rattle.dc_table.specs.Holders.{Locked}
use Rattle.dc_table.specs.Passes.{known, share, view, StaysOut}
use Rattle.dc_table.specs.Passes as seats
use Rattle.dc_table.specs.Plays.{Took, rows_as}
use Rattle.dc_table.specs.RowStates.{RowState}
use Rattle.dc_table.specs.Shares.{Known, Share, HadOnce, one_more}
use Rattle.dc_table.specs.declared.table.Guarded.{Guarded}
use Rattle.dc_walk.specs.Becomings.{nothing_again}
use Rattle.dc_cache.specs.Answers.{Made}
use Rattle.dc_cache.specs.Losses.{gone_by, gone_of, gone_with, if_made, parted, unless_refused, MakesOnce, TakesAway, Tells}
use Rattle.dc_cache.specs.declared.cache.Pass.{Pass}
use Rattle.dc_cache.specs.declared.gone.Gone.{Gone}
use Rattle.dc_cache.proofs.Tellings.{nothing_took}

-- the rows that a pass got are those that it has with what the lock guards
pub rows_got : (k l : Known) (x : Guarded) → Took k l x → rows_as l.view.hold.history l.view.hold.words x ≡ l.got
rows_got k l x took = ap (λ (m : Known). rows_as m.view.hold.history m.view.hold.words x) took.now ∙ sym (ap (λ (m : Known). m.got) took.now)

since : (s : RowState) (p u q : seats.Pass) (call : Request) (made : Result (Reply × ℕ) ChangeFault) → NothingNew (view p) (view u) → share u ≡ share p → Makes s u q call made → Makes s p q call made
since s p u q call (Ok made) none same m = record {
  done = record {
    altered = m.done.altered;
    own = m.done.own ∙ ap (λ own. own ++ record { call = call; reply = answer_of made.0; at = made.1; altered = m.done.altered } ∷ []) none.own;
    joined = m.done.joined ∙ none.joined;
    later = omega (arith, none.later, m.done.later);
    seen = m.done.seen;
    past = m.done.past;
  };
  fault = tt;
  within = m.within;
  at = m.at;
  replied = subst (λ (z : Share). answer_of made.0 ≡ reply_of z.limit (tree_of z.limit s.history) call) same m.replied;
  rows = subst (λ (z : Share). RowsAfter z.limit s (known q).left call (Ok made)) same m.rows;
}
since s p u q call (Err fault) none same m = record {
  done = tt;
  fault = record {
    nothing = record { own = m.fault.nothing.own ∙ none.own; joined = m.fault.nothing.joined ∙ none.joined; later = omega (arith, none.later, m.fault.nothing.later) };
    seen = m.fault.seen;
    altering = subst (λ (z : Share). alters z.limit (tree_of z.limit s.history) call ≡ true) same m.fault.altering;
    cause = m.fault.cause;
  };
  within = m.within;
  at = tt;
  replied = tt;
  rows = subst (λ (z : Share). RowsAfter z.limit s (known q).left call (Err fault)) same m.rows;
}

-- by the pass that is back, whose rows are those that it got
pub makes_since : (s : RowState) (p u back seat : seats.Pass) (call : Request) (made : Result (Reply × ℕ) ChangeFault) → NothingNew (view p) (view u) → share u ≡ share p → seat ≡ back → s ≡ (known back).got → Makes s u back call made → Makes (known seat).got p seat call made
makes_since s p u back seat call made none same is rows m = subst (λ (z : seats.Pass). Makes (known z).got p z call made) (sym is) (subst (λ (z : RowState). Makes z p back call made) rows (since s p u back call made none same m))

made_by : (p q : Pass) (call : Request) (result : Result Stamped ChangeFault) → Makes (known q.seat).got p.seat q.seat call (parted result) → Made p q call result
made_by p q call (Ok stamped) m = m.done
made_by p q call (Err fault) m = m.fault

-- the pass that is back had the lock once since before it got it
pub once_since : (k m : Known) (back seat : seats.Pass) → seat ≡ back → m.past ≡ k.past → HadOnce m (known back) → HadOnce k (known seat)
once_since k m back seat is same once = subst (λ (z : seats.Pass). HadOnce k (known z)) (sym is) (once ∙ ap (one_more (known back)) same)

-- a plan tells what goes by its call, and nothing goes by a call that comes to a reply, unless that is a refusal
none_goes : (t : Tree) (call : Request) (answer : Answer) → TakesNothing t call answer → unless_refused answer None ≡ unless_refused answer (gone_of t call)
none_goes t call (Refused number) none = refl
none_goes t call (Found number kind) none = ap (gone_with t) (sym none)
none_goes t call (Done number) none = ap (gone_with t) (sym none)
none_goes t call Nothing none = ap (gone_with t) (sym none)
none_goes t call (Bytes bytes) none = ap (gone_with t) (sym none)
none_goes t call (Names names) none = ap (gone_with t) (sym none)
none_goes t call (Counted number kind count) none = ap (gone_with t) (sym none)

tells_by : (limit : ℕ) (t : Tree) (call : Request) (planned : Result Plan Reply) (going : Option Gone) → IsPlanned limit t call planned → going ≡ gone_by t planned → Tells limit t call going
tells_by limit t call (Ok plan) going so is = ap (unless_refused (reply_of limit t call)) (is ∙ ap (gone_with t) so.takes)
tells_by limit t call (Err reply) going so is =
    let answer : reply_of limit t call ≡ answer_of reply = ap (λ x. x.0) so.0.operation in
    (λ i. unless_refused (answer i) (is i)) ∙ none_goes t call (answer_of reply) so.1 ∙ ap (λ (a : Answer). unless_refused a (gone_of t call)) (sym answer)

if_told : (limit : ℕ) (t : Tree) (call : Request) (result : Result Stamped ChangeFault) (going : Option Gone) → IfOk (parted result) (λ made. answer_of made.0 ≡ reply_of limit t call) → Tells limit t call going → if_made result going ≡ if_made result (gone_of t call)
if_told limit t call (Ok stamped) going replied tells = ap (λ (a : Answer). unless_refused a going) replied ∙ tells ∙ ap (λ (a : Answer). unless_refused a (gone_of t call)) (sym replied)
if_told limit t call (Err fault) going replied tells = refl

-- a pass that walked by rows, and then got the lock, made a change under it
pub makes_once : (telling : Bool) (p q : seats.Pass) (u : seats.Pass) (back : MutBor seats.Pass) (g h : Guard) (call : Request) (planned : Result Plan Reply) (made : Result (Reply × ℕ) ChangeFault) (going : Option Gone) (t : Tree)
    → StaysOut p u → NothingNew (view p) (view u) → Locked u g.holder (kept_by g) → IsStill g h → q ≡ back.now → IsBack h back
    → Makes (rows_of h) (seat_of h) back.now call made → t ≡ (kept_by h).store → IsPlanned (kept_by h).max_inodes (kept_by h).store call planned → (IsTrue telling → going ≡ gone_by t planned) → MakesOnce telling p q call made going
makes_once telling p q u back g h call planned made going t out none locked still is came m tree plans goes =
    let took = locked.took in
    let same : known (seat_of h) ≡ known (seat_of g) = still.holder.same_known in
    let nothing : NothingNew (view p) (view (seat_of h)) = nothing_again none (subst (λ (k : Known). NothingNew (view u) k.view) (sym same) (nothing_took (known u) (known (seat_of g)) (kept_by g) took)) in
    let same_share : share (seat_of h) ≡ share p = ap (λ (k : Known). k.share) same ∙ locked.same.same_share ∙ out.same.same_share in
    let rows : rows_of h ≡ (known back.now).got = (λ i. rows_as (same i).view.hold.history (same i).view.hold.words (still.kept i)) ∙ rows_got (known u) (known (seat_of g)) (kept_by g) took ∙ ap (λ (k : Known). k.got) (sym same) ∙ sym came.got in
    let past : (known (seat_of h)).past ≡ (known p).past = ap (λ (k : Known). k.past) same ∙ ap (λ (k : Known). k.past) took.now ∙ out.untried.past in
    let tree_got : Tree = tree_of (share p).limit (known q).got.history in
    let stood : t ≡ tree_got =
    tree ∙ ap (λ (x : Guarded). x.store) still.kept ∙ took.home.tree ∙ ap (λ (k : Known). tree_of k.share.limit k.view.hold.history) (sym same) ∙ ap (λ (z : Share). tree_of z.limit (view (seat_of h)).hold.history) same_share
    ∙ ap (λ (s : RowState). tree_of (share p).limit s.history) (rows ∙ sym (ap (λ (z : seats.Pass). (known z).got) is)) in
    let limit : (kept_by h).max_inodes ≡ (share p).limit = ap (λ (x : Guarded). x.max_inodes) still.kept ∙ took.home.same_limit ∙ ap (λ (k : Known). k.share.limit) (sym same) ∙ ap (λ (z : Share). z.limit) same_share in
    let there : IsPlanned (share p).limit tree_got call planned =
    subst (λ (n : ℕ). IsPlanned n tree_got call planned) limit (subst (λ (u : Tree). IsPlanned (kept_by h).max_inodes u call planned) (sym tree ∙ stood) plans) in
    record {
      once = once_since (known p) (known (seat_of h)) back.now q is past came.once;
      makes = makes_since (rows_of h) p (seat_of h) back.now q call made nothing same_share is rows m;
      gone = λ asked. tells_by (share p).limit tree_got call planned going there (goes asked ∙ ap (λ (z : Tree). gone_by z planned) stood);
    }

-- and what is told is what it took away
pub takes_away : (p q : Pass) (call : Request) (made : Result (Reply × ℕ) ChangeFault) (result : Result Stamped ChangeFault) (told going : Option Gone) → parted result ≡ made → told ≡ if_made result going → MakesOnce true p.seat q.seat call made going → TakesAway p q call result told
takes_away p q call made result told going is kept m =
    let makes : Makes (known q.seat).got p.seat q.seat call (parted result) = subst (λ (z : Result (Reply × ℕ) ChangeFault). Makes (known q.seat).got p.seat q.seat call z) (sym is) m.makes in
    record {
      made = made_by p q call result makes;
      warm = record { once = m.once; makes = makes };
      gone = kept ∙ if_told (share p.seat).limit (tree_of (share p.seat).limit (known q.seat).got.history) call result going makes.replied (m.gone refl);
    }

-- what a plan tells that goes lives
pub plans_live : (limit : ℕ) (t u : Tree) (call : Request) (planned : Result Plan Reply) → u ≡ t → IsPlanned limit t call planned → IfOk planned (λ plan. IfSome (taken plan) (LivesIfWell u))
plans_live limit t u call (Ok plan) same so = subst (λ (z : Tree). IfSome (taken plan) (LivesIfWell z)) (sym same) so.lives
plans_live limit t u call (Err reply) same so = tt
