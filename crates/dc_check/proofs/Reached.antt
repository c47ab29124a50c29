-- The judge has the tree of the point that it reached.
use Rattle.std.proofs.Common.{◌≡◌, ℕ, ◌==◌, Bool, true, false, cond, List, [], ◌∷◌, ◌++◌, refl, sym, ap, ◌∙◌, append_assoc}
use Rattle.std.proofs.lemmas.Bool.Decides.{Decides-eqb}
use Rattle.dc_plain.specs.Requests.{Request}
use Rattle.dc_plain.specs.Runs.{reply_of}
use Rattle.dc_plain.specs.Trees.{Tree}
use Rattle.dc_plain.specs.Legal.{Stamp}
use Rattle.dc_check.specs.Judging.{Judge, IsGood, ReachesIf, Reaches, Takes, opening, reached, settled, taken, with_met}
use Rattle.dc_check.specs.Phases.{tree_at}
use Rattle.dc_check.proofs.Ends.{Led, met_led, moved_led}

-- the judge took all but the rest
pub record Stands (limit : ℕ) (all rest : List Stamp) (judge : Judge) : Type 0 where
  pub done : List Stamp
  pub split : all ≡ done ++ rest
  pub led : Led limit all done judge

pub stands_first : (limit : ℕ) (all : List Stamp) → Stands limit all all (opening limit)
unfolding tree_at
stands_first limit all = record { done = []; split = refl; led = record { limit_is = refl; tree_is = refl; change_is = refl; past = tt } }

pub stands_taken : (limit : ℕ) (all rest : List Stamp) (s : Stamp) (judge : Judge) → Stands limit all (s ∷ rest) judge → Takes judge s → Stands limit all rest (taken judge s)
stands_taken limit all rest s judge stands takes = record {
  done = stands.done ++ s ∷ [];
  split = stands.split ∙ sym (append_assoc stands.done (s ∷ []) rest);
  led = go (s.at == judge.clock) refl takes.0 takes.1;
}
  where
    go : (b : Bool) → (s.at == judge.clock) ≡ b → ReachesIf b judge s.at → IsGood (cond b judge (record (settled judge) { clock = s.at })) s
        → Led limit all (stands.done ++ s ∷ []) (with_met (cond b judge (record (settled judge) { clock = s.at })) s)
    go true e reaches good = met_led limit all stands.done judge s stands.led ((Decides-eqb s.at judge.clock).0 e) good
    go false e moves good =
        met_led limit all stands.done (record (settled judge) { clock = s.at }) s
        (moved_led limit all stands.done (s ∷ rest) judge.limit judge.tree judge.clock judge.change s.at stands.split stands.led moves) refl good

-- at a point that it reaches, its tree is that of the point
pub due_there : (limit at : ℕ) (all rest : List Stamp) (judge : Judge) (request : Request) → Stands limit all rest judge → Reaches judge at
    → reply_of (reached judge at).limit (reached judge at).tree request ≡ reply_of limit (tree_at limit all at) request
due_there limit at all rest judge request stands reaches = go (at == judge.clock) refl reaches
  where
    is_due : (l : ℕ) (t : Tree) (clock : ℕ) → l ≡ limit → t ≡ tree_at limit all clock → clock ≡ at → reply_of l t request ≡ reply_of limit (tree_at limit all at) request
    is_due l t clock same tree here = ap (λ n. reply_of n t request) same ∙ ap (λ u. reply_of limit u request) (tree ∙ ap (tree_at limit all) here)

    go : (b : Bool) → (at == judge.clock) ≡ b → ReachesIf b judge at
        → reply_of (cond b judge (record (settled judge) { clock = at })).limit (cond b judge (record (settled judge) { clock = at })).tree request ≡ reply_of limit (tree_at limit all at) request
    go true e unit = is_due judge.limit judge.tree judge.clock stands.led.limit_is stands.led.tree_is (sym ((Decides-eqb at judge.clock).0 e))
    go false e moves =
        let led = moved_led limit all stands.done rest judge.limit judge.tree judge.clock judge.change at stands.split stands.led moves in
        is_due judge.limit (settled judge).tree at led.limit_is led.tree_is refl
