-- The records of a core that keeps the rule are legal.
use Rattle.std.proofs.Common.{◌≡◌, ℕ, zero, suc, List, [], ◌∷◌, map, refl, sym, ◌∙◌, subst, arith}
use mathlib.Core.Option.{some, some-injective, some-ne-none}
use lib.ListN.{get_elem?}
use Rattle.dc_plain.specs.Requests.{Request}
use Rattle.dc_events.specs.Views.{Record, View}
use Rattle.dc_events.specs.Standing.{all_hits}
use Rattle.dc_events.specs.Rule.{total, view_hits}
use Rattle.dc_events.specs.Legal.{Legal}
use Rattle.dc_core.specs.Machine.{State, Actor}
use Rattle.dc_core.specs.Lives.{Done, strand, strands, Lives, AreLegal, stamp_of, views_from, view_of, LivesWith}
use Rattle.dc_plain.specs.Legal.{IsLegal}
use Rattle.dc_events.specs.Laws.{RecordsAreLegal}
use Rattle.dc_core.proofs.Stamped.{stamped}

total_hits : (p : ℕ) (words : List ℕ) (hist : List Request) (ds : List Done) (k : ℕ) (us : List Actor) → total (view_hits p) (views_from words hist ds k us) ≡ all_hits p (strands ds k us)
total_hits p words hist ds k [] = refl
total_hits p words hist ds k (a ∷ rest) = let r = total_hits p words hist ds (suc k) rest in omega arith

seat : (words : List ℕ) (hist : List Request) (ds : List Done) (k : ℕ) (us : List Actor) (i : ℕ) (x : List Record) → get_elem? (strands ds k us) i ≡ some x → (v : View) × (get_elem? (views_from words hist ds k us) i ≡ some v) × (v.book.own ≡ x)
seat words hist ds k [] i x e = absurd (some-ne-none x (sym e))
seat words hist ds k (a ∷ rest) zero x e = (view_of words hist ds k a, refl, some-injective (strand k ds) x e)
seat words hist ds k (a ∷ rest) (suc i) x e = seat words hist ds (suc k) rest i x e

lived_legal : RecordsAreLegal → (s : State) (hist : List Request) (ds : List Done) → LivesWith s hist ds → Legal s.limit (strands ds 0 s.actors)
lived_legal legal s hist ds L = legal s.limit hist (strands ds 0 s.actors)
    (λ i x e. let v = seat s.words hist ds 0 s.actors i x e in subst (λ (l : List Record). (j : ℕ) (r : Record) → get_elem? l j ≡ some r → Rattle.dc_events.specs.Standing.Stands s.limit hist r) v.2 (L.rule.fits i v.0 v.1).book.own.stand)
    (λ i x e. let v = seat s.words hist ds 0 s.actors i x e in subst (Rattle.dc_events.specs.Standing.Rising 0) v.2 (L.rule.fits i v.0 v.1).book.own.rising)
    (λ p. sym (total_hits p s.words hist ds 0 s.actors) ∙ L.rule.once p)

pub lived_is_legal : RecordsAreLegal → (s : State) → Lives s → AreLegal s
lived_is_legal legal s (hist, ds, L) = subst (λ fs. IsLegal s.limit (map stamp_of fs)) (sym L.finished) (stamped s.limit s.actors ds L.known (lived_legal legal s hist ds L))
