-- What a pass records after it got the lock, it has recorded since before that.
use Rattle.std.proofs.Common.{◌≡◌, ◌++◌, ◌∷◌, [], ◌∙◌, ap, arith, ℕ, List, subst, sym, Result, Ok, Err}
use Rattle.dc_plain.specs.Requests.{Request, answer_of}
use Rattle.dc_plain.specs.declared.call.Stamped.{Stamped}
use Rattle.dc_events.specs.Views.{View}
use Rattle.dc_table.specs.Changes.{NothingNew}
use Rattle.dc_table.specs.Passes.{Pass as Seat, known, view}
use Rattle.dc_table.specs.Plays.{Took}
use Rattle.dc_table.specs.Shares.{Known, Share}
use Rattle.dc_table.specs.declared.table.Guarded.{Guarded}
use Rattle.dc_cache.specs.Answers.{ToldTo}

-- one who gets the lock records nothing by that
pub nothing_took : (k l : Known) (x : Guarded) → Took k l x → NothingNew k.view l.view
nothing_took k l x took = record {
  own = ap (λ k. k.view.book.own) took.now;
  joined = ap (λ k. k.view.book.joined) took.now;
  later = omega (arith, took.later, ap (λ k. k.view.book.seen) took.now);
}

told_since : {E : Type 0} (limit : ℕ) (history : List Request) (v u w : View) (call : Request) (told : Result Stamped E) → NothingNew v u → ToldTo limit history u w call told → ToldTo limit history v w call told
told_since limit history v u w call (Ok stamped) none is = record {
  altered = is.altered;
  own = is.own ∙ ap (λ own. own ++ record { call = call; reply = answer_of stamped.reply; at = stamped.at; altered = is.altered } ∷ []) none.own;
  joined = is.joined ∙ none.joined;
  later = omega (arith, none.later, is.later);
  seen = is.seen;
  past = is.past;
}
told_since limit history v u w call (Err fault) none is = record {
  nothing = record { own = is.nothing.own ∙ none.own; joined = is.nothing.joined ∙ none.joined; later = omega (arith, none.later, is.nothing.later) };
  seen = is.seen;
  long = is.long;
}

pub told_with : {E : Type 0} (a b : Share) (history : List Request) (v u w : View) (call : Request) (told : Result Stamped E) → b ≡ a → NothingNew v u → ToldTo b.limit history u w call told → ToldTo a.limit history v w call told
told_with a b history v u w call told same none is = told_since a.limit history v u w call told none (subst (λ s. ToldTo s.limit history u w call told) same is)

-- the seat that came back is the one that the pass has, and the history that of its hold
pub told_back : {E : Type 0} (limit : ℕ) (history : List Request) (v : View) (back seat : Seat) (call : Request) (told : Result Stamped E) → seat ≡ back → history ≡ (known back).got.history
    → ToldTo limit history v (view back) call told → ToldTo limit (known seat).got.history v (view seat) call told
told_back limit history v back seat call told same of is = subst (λ s. ToldTo limit (known s).got.history v (view s) call told) (sym same) (subst (λ l. ToldTo limit l v (view back) call told) of is)
