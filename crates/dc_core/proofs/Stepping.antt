-- The core after an event, when its parts are known.
use Rattle.std.proofs.Common.{◌≡◌, ℕ, ◌<◌, ◌≤◌, ◌≢◌, List, length, get_or, set, sym, ap, ◌∙◌, subst, arith, get_or-set_same}
use mathlib.Core.Option.{some}
use lib.ListN.{get_elem?}
use Rattle.dc_plain.specs.Requests.{Request}
use Rattle.dc_events.specs.Views.{View}
use Rattle.dc_core.specs.Machine.{State, Actor, Act, actor_at, done, event_by, idle}
use Rattle.dc_core.specs.Lives.{Done, view_of, LivesWith}
use Rattle.dc_core.specs.AsTable.{effect, history_after, Agrees, IsStep}

pub agreed : (u v : View) → u ≡ v → Agrees u v
agreed u v e = record { walk = ap (λ (x : View). x.walk) e; book = ap (λ (x : View). x.book) e; hold = ap (λ (x : View). x.hold) e; loads = ap (λ (x : View). x.loads) e }

module _ (s : State) (j : ℕ) (hist : List Request) (ds : List Done) (inside : length s.actors ≤ j → ⊥) (act : Act) where
  abbrev next : State
  next = done s j act

  abbrev later : List Request
  later = history_after hist (actor_at s j) act

  pub stepped : (a' : Actor) (ds' : List Done) → next.actors ≡ set s.actors j a' → Agrees (view_of next.words later ds' j a') (effect s hist (view_of s.words hist ds j (actor_at s j)) act)
      → ((i : ℕ) (u : Actor) → i ≢ j → get_elem? s.actors i ≡ some u → view_of s.words hist ds i u ≡ view_of next.words later ds' i u) → LivesWith next later ds' → IsStep s hist ds (event_by j act)
  stepped a' ds' acts agrees others lives = let less : j < length s.actors = omega arith in let now : actor_at next j ≡ a' = ap (λ l. get_or l j idle) acts ∙ get_or-set_same s.actors j a' idle less in record {
    next = ds';
    lives = lives;
    mine = subst (λ x. Agrees (view_of next.words later ds' j x) (effect s hist (view_of s.words hist ds j (actor_at s j)) act)) (sym now) agrees;
    others = others;
  }
