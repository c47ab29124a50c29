-- The records of the phases that were served are a run of the plain tree.
use Rattle.std.proofs.Common.{◌≡◌, ℕ, zero, suc, refl, ◌<◌, ◌≤◌, ◌==◌, Bool, true, false, cond, List, [], ◌∷◌, ◌++◌, filter, length, map, take, ap, sym, ◌∙◌, subst, inl, inr, arith, eq-eqb, le_refl, ◌+◌}
use mathlib.Core.Logic.{dite}
use mathlib.Core.Option.{some, some-injective, some-ne-none}
use native.Mathlib.Decide.{dec_lt}
use lib.ListN.{get_elem?}
use Rattle.std.specs.List.{flat_map}
use Rattle.dc_events.specs.Laws.{RecordsAreLegal}
use Rattle.dc_events.specs.Rule.{once_below}
use Rattle.dc_events.specs.Standing.{Rising, after, all_hits, ends, hits}
use Rattle.dc_events.specs.Views.{Record}
use Rattle.dc_lang.specs.Commands.{Order}
use Rattle.dc_names.specs.declared.limits.TheConstants.{SESSIONS}
use Rattle.dc_plain.specs.Requests.{Request}
use Rattle.dc_plain.specs.Trees.{Tree}
use Rattle.dc_table.specs.Ends.{Ends}
use Rattle.dc_table.specs.Shares.{Known}
use Rattle.dc_serve.specs.Rounds.{Holds, Rounds}
use Rattle.dc_serve.specs.Sessions.{AllRise, Between, present}
use Rattle.dc_lang.specs.Spans.{InPhases, Span}
use Rattle.dc_serve.specs.Turns.{IsRun, Turn, all_of, records_of, span_in, spans_from, strand, strands}
use Rattle.dc_serve.proofs.Items.{Has, has, has-append, has-map}
use Rattle.dc_serve.proofs.Hits.{all-append, more_none, none_late, once_cut, once_past, rounds_hits, strands_none}
use Rattle.dc_serve.proofs.Sessions.{strand-append}
use Rattle.dc_serve.proofs.Stood.{AllStand, ListsStand, cut_all, lists_at, lists_stand, rounds_stand, stand-left, stand_all, stand_at, strands_stand}
use Rattle.dc_serve.proofs.Strands.{ends-append, ends_from, ends_up, rising-append, rising_from}

rises_at : (p : ℕ) (ss : List (List Record)) → AllRise p ss → (i : ℕ) (s : List Record) → get_elem? ss i ≡ some s → Rising p s
rises_at p [] a i s e = absurd (some-ne-none s (sym e))
rises_at p (x ∷ xs) a zero s e = subst (Rising p) (some-injective x s e) a.0
rises_at p (x ∷ xs) a (suc i) s e = rises_at p xs a.1 i s e

-- they rise from phase to phase
rounds_rise : (p q : ℕ) (turns : List (List Turn)) → Rounds p turns q → (s : ℕ) → Rising p (strand s (all_of turns)) × (ends p (strand s (all_of turns)) ≤ q)
rounds_rise p q [] le s = (tt, le)
rounds_rise p q (t ∷ turns) r s =
    let one = r.1 s in
    let rest = rounds_rise r.0 q turns r.2 s in
    let is = strand-append s t (all_of turns) in
    let far = ends_from (ends p (strand s t)) r.0 (strand s (all_of turns)) one.1 in
    let last = rest.1 in
    let both = ends-append p (strand s t) (strand s (all_of turns)) in (
      subst (Rising p) (sym is) (rising-append p (strand s t) (strand s (all_of turns)) one.0 (rising_from _ _ _ one.1 rest.0)),
      subst (λ l. ends p l ≤ q) (sym is) (omega arith),
    )

strands_rise : (p k : ℕ) (turns : List Turn) → ((s : ℕ) → Rising p (strand s turns)) → AllRise p (strands k turns)
unfolding strands
strands_rise p zero turns f = tt
strands_rise p (suc k) turns f = both (strands k turns) (strand k turns) (strands_rise p k turns f) (f k)
  where
    both : (xs : List (List Record)) (y : List Record) → AllRise p xs → Rising p y → AllRise p (xs ++ y ∷ [])
    both [] y a b = (b, tt)
    both (x ∷ xs) y a b = (a.0, both xs y a.1 b)

-- each record lies between the clocks of its phase
abbrev Within : ℕ → ℕ → Turn → Type 0
Within p q t = (p ≤ t.made.at) × (after t.made ≤ q)

within_at : (p q : ℕ) (turns : List Turn) → Between p q turns → (t : Turn) → Has turns t → Within p q t
within_at p q [] b t h = absurd h
within_at p q (u ∷ turns) b t (inl is) =
    let s = u.order.session in
    let here = ap (λ c. records_of (cond c (u ∷ filter (λ v. v.order.session == s) turns) (filter (λ v. v.order.session == s) turns))) (eq-eqb s s refl) in
    let mine = subst (λ l. Rising p l × (ends p l ≤ q)) here (b s) in
    let low = ends_up (after u.made) (strand s turns) mine.0.1 in
    let last = mine.1 in
    subst (Within p q) is (mine.0.0, omega arith)
within_at p q (u ∷ turns) b t (inr more) = within_at p q turns (λ k. rest k (u.order.session == k) (b k)) t more
  where
    rest : (k : ℕ) (c : Bool) → Rising p (records_of (cond c (u ∷ filter (λ v. v.order.session == k) turns) (filter (λ v. v.order.session == k) turns))) × (ends p (records_of (cond c (u ∷ filter (λ v. v.order.session == k) turns) (filter (λ v. v.order.session == k) turns))) ≤ q)
        → Rising p (strand k turns) × (ends p (strand k turns) ≤ q)
    rest k true m =
        let up = m.0.0 in
        let far = ends_from p (after u.made) (strand k turns) (omega arith) in
        let last = m.1 in
        (rising_from p (after u.made) (strand k turns) (omega arith) m.0.1, omega arith)
    rest k false m = m

-- a phase doesn't end before it begins
phase_up : (p q : ℕ) (turns : List Turn) → Between p q turns → p ≤ q
phase_up p q turns b = let up = ends_up p (strand 0 turns) (b 0).0 in let last = (b 0).1 in omega arith

-- the spans of later phases
record Later (p phase : ℕ) (s : Span) : Type 0 where
  pub at : p ≤ s.at
  pub from : phase ≤ s.phase

later : (p q phase : ℕ) (turns : List (List Turn)) → Rounds p turns q → (s : Span) → Has (spans_from phase turns) s → Later p phase s
later p q phase [] r s h = absurd h
later p q phase (t ∷ turns) r s h = elim (has-append (map (span_in phase) t) (spans_from (phase + 1) turns) s h) [
  | inl here ↦ (let found = has-map (span_in phase) t s here in
      subst (Later p phase) found.2 (record { at = (within_at p r.0 t r.1 found.0 found.1).0; from = le_refl phase }))
  | inr more ↦ (let rest = later r.0 q (phase + 1) turns r.2 s more in
      let at = rest.at in let from = rest.from in let up = phase_up p r.0 t r.1 in record { at = omega arith; from = omega arith })
]

-- the spans of a phase
record Now (m phase : ℕ) (s : Span) : Type 0 where
  pub end : s.end ≤ m
  pub is : s.phase ≡ phase

now : (p m phase : ℕ) (t : List Turn) → Between p m t → (s : Span) → Has (map (span_in phase) t) s → Now m phase s
now p m phase t b s h = let found = has-map (span_in phase) t s h in subst (Now m phase) found.2 (record { end = (within_at p m t b found.0 found.1).1; is = refl })

ordered_spans : (p q phase : ℕ) (turns : List (List Turn)) → Rounds p turns q → (a b : Span) → Has (spans_from phase turns) a → Has (spans_from phase turns) b → a.phase < b.phase → a.end ≤ b.at
ordered_spans p q phase [] r a b in_a in_b less = absurd in_a
ordered_spans p q phase (t ∷ turns) r a b in_a in_b less = elim (has-append (map (span_in phase) t) (spans_from (phase + 1) turns) a in_a) [
  | inl here ↦ (let first = now p r.0 phase t r.1 a here in
      let end = first.end in
      let is = first.is in
      elim (has-append (map (span_in phase) t) (spans_from (phase + 1) turns) b in_b) [
        | inl also ↦ (let second = now p r.0 phase t r.1 b also in let same = second.is in absurd (omega arith))
        | inr more ↦ (let next = later r.0 q (phase + 1) turns r.2 b more in let at = next.at in omega arith)
      ])
  | inr further ↦ (let next = later r.0 q (phase + 1) turns r.2 a further in
      let from = next.from in
      elim (has-append (map (span_in phase) t) (spans_from (phase + 1) turns) b in_b) [
        | inl also ↦ (let second = now p r.0 phase t r.1 b also in let same = second.is in absurd (omega arith))
        | inr more ↦ ordered_spans r.0 q (phase + 1) turns r.2 a b further more less
      ])
]

in_phases : (p q : ℕ) (turns : List (List Turn)) → Rounds p turns q → InPhases (spans_from 0 turns)
in_phases p q turns r a b in_a in_b less = ordered_spans p q 0 turns r a b (has (spans_from 0 turns) a in_a) (has (spans_from 0 turns) b in_b) less

-- a history in which the records of each session stand, and of which they make each call once
pub record Found (limit : ℕ) (turns : List Turn) : Type 0 where
  pub history : List Request
  pub stand : (s : ℕ) → s < SESSIONS → AllStand limit history (strand s turns)
  pub once : (p : ℕ) → all_hits p (strands SESSIONS turns) ≡ once_below p (length history)

-- what a whole pass holds of served phases was found in one history, cut at the clock behind them
pub found : {tree : Tree} {closed : ℕ} → (limit : ℕ) (phases : List (List Order)) (turns : List (List Turn)) (clock : ℕ) (more : List (List Record)) (k : Known) → Holds limit phases turns clock more k
    → Ends k.share.limit k tree closed → Found limit (all_of turns)
found limit phases turns clock more k holds e =
    let h = e.history in
    let n = k.share.limit in
    let b = k.view.book in
    let joined = subst (ListsStand n h) holds.joined (lists_stand n h b.joined (λ i s at. stand_all n h s (e.book.joined i s at).stand)) in
    let stood = rounds_stand n h turns (stand-left n h (flat_map (present SESSIONS) turns) more joined) in
    let rises = rounds_rise 0 clock turns holds.rounds in
    let all = all_of turns in
    let once : (p : ℕ) → all_hits p (strands SESSIONS all) ≡ once_below p (length (take clock h)) = λ p. dite (dec_lt p clock)
    (λ less.
    let whole = e.once holds.whole p in
    let own : hits p b.own ≡ 0 = ap (hits p) holds.own in
    let split = ap (all_hits p) holds.joined ∙ all-append p (flat_map (present SESSIONS) turns) more in
    let rest = more_none clock p more holds.rise less in
    let these = rounds_hits p turns in
    let same = once_cut p clock h less in
    omega arith)
    (λ past.
    let none = strands_none p SESSIONS all (λ s. none_late clock p 0 (strand s all) (rises s).0 (rises s).1 (omega arith)) in
    let zero' = once_past p clock h (omega arith) in
    omega arith) in
    record {
      history = take clock h;
      stand = λ s less. subst (λ (m : ℕ). AllStand m (take clock h) (strand s all)) holds.limit_is (cut_all n clock 0 h (strand s all) (rises s).0 (rises s).1 (stood s less));
      once = once;
    }

-- and is a run
pub is_run : RecordsAreLegal → (limit : ℕ) (phases : List (List Order)) (turns : List (List Turn)) (clock : ℕ) (more : List (List Record)) (k : Known) → Holds limit phases turns clock more k
    → Found limit (all_of turns) → IsRun limit phases turns
is_run legal limit phases turns clock more k holds f =
    let h = f.history in
    let all = all_of turns in
    let lists = strands_stand limit h SESSIONS all f.stand in
    let up = strands_rise 0 SESSIONS all (λ s. (rounds_rise 0 clock turns holds.rounds s).0) in
    record {
      orders = holds.orders_are;
      asked = holds.asked;
      legal = legal limit h (strands SESSIONS all) (λ i s at j r there. stand_at limit h s (lists_at limit h (strands SESSIONS all) lists i s at) j r there) (rises_at 0 (strands SESSIONS all) up) f.once;
      phased = in_phases 0 clock turns holds.rounds;
    }
