-- A page that was told under the lock was told from before the lock was got.
use Rattle.std.proofs.Common.{◌≡◌, ◌∙◌, [], arith, ℕ, List, subst, sym, Result, Ok, Err}
use Rattle.std.specs.Global.{Vec}
use Rattle.dc_names.specs.declared.NoMemory.{NoMemory}
use Rattle.dc_ops.specs.Pages.{page_by, IsFound}
use Rattle.dc_plain.specs.Requests.{Request, answer_of}
use Rattle.dc_plain.specs.Runs.{reply_of}
use Rattle.dc_plain.specs.declared.call.Stamped.{Stamped}
use Rattle.dc_events.specs.Standing.{tree_of}
use Rattle.dc_events.specs.Views.{View}
use Rattle.dc_store.specs.Pages.{page_told}
use Rattle.dc_store.specs.declared.pages.Entry.{Entry}
use Rattle.dc_table.specs.Changes.{NothingNew}
use Rattle.dc_table.specs.Passes.{Pass as Seat, known, view}
use Rattle.dc_table.specs.Shares.{Share}
use Rattle.dc_cache.specs.Pages.{look_of, Asked, PagesTo}
use Rattle.dc_cache.proofs.Tellings.{told_with}

pub paged_with : (a b : Share) (history : List Request) (v u w : View) (asked : Asked) (told : Result (Stamped × Vec Entry) NoMemory) → b ≡ a → NothingNew v u → PagesTo b.limit history u w asked told → PagesTo a.limit history v w asked told
paged_with a b history v u w asked (Ok told) same none is = record {
  recorded = told_with {E = ℕ} a b [] v u w (look_of asked) (Ok told.0) same none is.recorded;
  page = subst (λ (s : Share). page_told told.1 ≡ page_by (tree_of s.limit history) asked.after asked.most (answer_of told.0.reply)) same is.page;
}
paged_with a b history v u w asked (Err fault) same none is = record {
  nothing = record { own = is.nothing.own ∙ none.own; joined = is.nothing.joined ∙ none.joined; later = omega (arith, none.later, is.nothing.later) };
  seen = is.seen;
  found = subst (λ (s : Share). IsFound (reply_of s.limit (tree_of s.limit history) (look_of asked))) same is.found;
}

-- the seat that came back is the one that the pass has, and the history that of its hold
pub paged_back : (limit : ℕ) (history : List Request) (v : View) (back seat : Seat) (asked : Asked) (told : Result (Stamped × Vec Entry) NoMemory) → seat ≡ back → history ≡ (known back).got.history
    → PagesTo limit history v (view back) asked told → PagesTo limit (known seat).got.history v (view seat) asked told
paged_back limit history v back seat asked told same of is = subst (λ s. PagesTo limit (known s).got.history v (view s) asked told) (sym same) (subst (λ l. PagesTo limit l v (view back) asked told) of is)
