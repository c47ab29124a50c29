-- What a pass tells of a directory after it got the lock, it has told since before that.
use Rattle.std.proofs.Common.{◌≡◌, ◌++◌, ◌∷◌, [], ◌∙◌, ap, arith, drop, take, length, length-drop, ◌-◌, ℕ, List, subst, sym, Result, Ok, Err}
use Rattle.std.proofs.lemmas.List.{take_all}
use Rattle.dc_names.specs.declared.refusal.Refusal.{Refusal}
use Rattle.dc_names.specs.declared.kind.Kind.TheVariants.{Dir}
use Rattle.dc_plain.specs.Requests.{Answer, Request, answer_of}
use Rattle.dc_plain.specs.Requests.Request.{Look}
use Rattle.dc_plain.specs.Trees.{Tree}
use Rattle.dc_plain.specs.declared.call.Follow.TheVariants as follow
use Rattle.dc_plain.specs.declared.call.Reply.{Reply}
use Rattle.dc_plain.specs.declared.call.Reply.TheVariants as replies
use Rattle.dc_ops.specs.Whereabouts.{FindsBy, HasNoPath, IsPathOf}
use Rattle.dc_ops.specs.Plans.{Declines}
use Rattle.dc_plain.specs.Requests.Answer.{Found}
use Rattle.dc_events.specs.Standing.{tree_of}
use Rattle.dc_events.specs.Views.{View}
use Rattle.dc_table.specs.Changes.{NothingNew, Recorded}
use Rattle.dc_table.specs.Passes.{Pass as Seat, known, view}
use Rattle.dc_table.specs.Shares.{Share}
use Rattle.dc_cache.specs.Whereabouts.{TellsBy, TellsNone, TellsPath, TellsWhere}
use Rattle.dc_cache.specs.declared.whereabouts.Whereabouts.{Whereabouts}

recorded_since : (v u w : View) (call : Request) (reply : Answer) (at : ℕ) → NothingNew v u → Recorded u w call reply at → Recorded v w call reply at
recorded_since v u w call reply at none is = record {
  altered = is.altered;
  own = is.own ∙ ap (λ own. own ++ record { call = call; reply = reply; at = at; altered = is.altered } ∷ []) none.own;
  joined = is.joined ∙ none.joined;
  later = omega (arith, none.later, is.later);
  seen = is.seen;
  past = is.past;
}

-- a buffer's bytes from a place on are all that are left
pub mid_whole : (start : ℕ) (buffer : List ℕ) → length buffer ≡ 4095 → take (4095 - start) (drop start buffer) ≡ drop start buffer
mid_whole start buffer whole = let left = length-drop start buffer in take_all (4095 - start) (drop start buffer) (omega (arith, left, whole))

pub declines_told : (t u : Tree) (number : ℕ) (bytes path : List ℕ) → t ≡ u → bytes ≡ path → FindsBy t number path → (limit : ℕ) → Declines limit u (Look 1 bytes follow.No) (Found number Dir)
declines_told t u number bytes path same is found limit =
    subst (λ (v : Tree). Declines limit v (Look 1 bytes follow.No) (Found number Dir)) same
    (subst (λ (b : List ℕ). Declines limit t (Look 1 b follow.No) (Found number Dir)) (sym is) (found limit follow.No))

-- under the lock the tree is that of the history, and the path's look-up finds the directory
pub path_told : (limit : ℕ) (history : List Request) (v w : View) (number : ℕ) (buffer : List ℕ) (start at : ℕ) (t : Tree) (reply : Reply) (bytes : List ℕ) → t ≡ tree_of limit history → IsPathOf t number (drop start buffer) → reply ≡ replies.Found number Dir → bytes ≡ drop start buffer
    → Recorded v w (Look 1 bytes follow.No) (answer_of reply) at → TellsPath limit history v w number buffer start at
path_told limit history v w number buffer start at t reply bytes same path is whole recorded = record {
  path = subst (λ (u : Tree). IsPathOf u number (drop start buffer)) same path;
  recorded = subst (λ (b : List ℕ). Recorded v w (Look 1 b follow.No) (Found number Dir) at) whole (subst (λ (r : Reply). Recorded v w (Look 1 bytes follow.No) (answer_of r) at) is recorded);
}

pub none_told : (limit : ℕ) (history : List Request) (v w : View) (number : ℕ) (refusal : Refusal) (at : ℕ) (t : Tree) (reply : Answer) → t ≡ tree_of limit history → HasNoPath t number refusal
    → Recorded v w (Look number (46 ∷ []) follow.Dir) reply at → TellsNone limit history v w number refusal at
none_told limit history v w number refusal at t reply same none recorded = record { none = subst (λ (u : Tree). HasNoPath u number refusal) same none; reply = reply; recorded = recorded }

by_since : (limit : ℕ) (history : List Request) (v u w : View) (number : ℕ) (buffer : List ℕ) (at : ℕ) (start : Result ℕ Refusal) → NothingNew v u → TellsBy limit history u w number buffer at start → TellsBy limit history v w number buffer at start
by_since limit history v u w number buffer at (Ok start) none is = record { path = is.path; recorded = recorded_since v u w _ _ at none is.recorded }
by_since limit history v u w number buffer at (Err refusal) none is = record { none = is.none; reply = is.reply; recorded = recorded_since v u w _ is.reply at none is.recorded }

pub where_with : (a b : Share) (history : List Request) (v u w : View) (number : ℕ) (buffer : List ℕ) (told : Whereabouts) → b ≡ a → NothingNew v u → TellsWhere b.limit history u w number buffer told → TellsWhere a.limit history v w number buffer told
where_with a b history v u w number buffer told same none is =
    by_since a.limit history v u w number buffer told.at told.start none (subst (λ (s : Share). TellsWhere s.limit history u w number buffer told) same is)

-- the seat that came back is the one that the pass has, and the history that of its hold
pub where_back : (limit : ℕ) (history : List Request) (v : View) (back seat : Seat) (number : ℕ) (buffer : List ℕ) (told : Whereabouts) → seat ≡ back → history ≡ (known back).got.history
    → TellsWhere limit history v (view back) number buffer told → TellsWhere limit (known seat).got.history v (view seat) number buffer told
where_back limit history v back seat number buffer told same of is =
    subst (λ (s : Seat). TellsWhere limit (known s).got.history v (view s) number buffer told) (sym same) (subst (λ (l : List Request). TellsWhere limit l v (view back) number buffer told) of is)
