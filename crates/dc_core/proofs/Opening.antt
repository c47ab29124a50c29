-- A new core keeps the rule, and no call has begun in it.
use Rattle.std.proofs.Common.{◌≡◌, ℕ, zero, suc, List, [], ◌∷◌, replicate, refl, sym, ap, subst}
use mathlib.Core.Option.{some, some-injective, some-ne-none}
use lib.ListN.{get_elem?}
use Rattle.dc_events.specs.Rows.{opening_words}
use Rattle.dc_events.specs.Rule.{Rule}
use Rattle.dc_events.specs.Effects.{nobody}
use Rattle.dc_events.specs.Laws.{NewTablesHaveTheRule}
use Rattle.dc_core.specs.Machine.{Actor, idle, opening}
use Rattle.dc_core.specs.Lives.{views_from, Lives}
use Rattle.dc_core.proofs.Traces.{Traced, traced_at_first}

idle_views : (words : List ℕ) (k n : ℕ) → views_from words [] [] k (replicate n idle) ≡ replicate n nobody
idle_views words k zero = refl
idle_views words k (suc n) = ap (λ vs. nobody ∷ vs) (idle_views words (suc k) n)

pub opening_lives : NewTablesHaveTheRule → (limit rows actors : ℕ) → Lives (opening limit rows actors)
opening_lives new limit rows actors = (
  [],
  [],
  record {
    rule = subst (λ vs. Rule limit rows (opening_words rows) vs []) (sym (idle_views (opening_words rows) 0 actors)) (new limit rows actors);
    tree = refl;
    finished = refl;
    known = λ i d e. absurd (some-ne-none d (sym e));
  },
)

is_idle : (n j : ℕ) (a : Actor) → get_elem? (replicate n idle) j ≡ some a → idle ≡ a
is_idle zero j a e = absurd (some-ne-none a (sym e))
is_idle (suc n) zero a e = some-injective idle a e
is_idle (suc n) (suc j) a e = is_idle n j a e

pub opening_traced : (limit rows actors : ℕ) → Traced (opening limit rows actors) [] (opening limit rows actors)
opening_traced limit rows actors = traced_at_first (opening limit rows actors) (λ j a e. sym (ap (λ (u : Actor). u.walk.busy) (is_idle actors j a e))) refl
