-- One more event keeps what is known of begins, points and ends.
use Rattle.std.proofs.Common.{◌≡◌, ℕ, ◌+◌, ◌≢◌, ◌⊎◌, Bool, true, false, List, [], ◌∷◌, ◌++◌, length, set, Option, Some, None, refl, sym, ap, ◌∙◌, subst, arith, inl, inr, ⊎_elim, true≢false, length-append, le_refl}
use mathlib.Core.Option.{some, some-ne-none, some-injective}
use lib.ListN.{get_elem?}
use Rattle.dc_plain.specs.Requests.{Request, Answer}
use Rattle.dc_events.specs.Views.{Walk}
use Rattle.dc_events.specs.Walks.{walk_begun, walk_again, no_walk, walk_noted, walk_read, walk_turned, walk_marked}
use Rattle.dc_events.specs.Noted.{answer_in}
use Rattle.dc_core.specs.Machine.{State, Actor, Act, Event, Finished, after, after_all, clock_of, actor_at, concluding, walking, next_word}
use Rattle.dc_core.specs.Machine.Act.{Begin, Take, Shut, Write, Open, Commit, Give, Note, Read, Pivot, Check, Again, Quit}
use Rattle.dc_core.specs.Spans.{Does, Makes, Spanned, moves_call, moves_pivot}
use Rattle.dc_plain.specs.Runs.{alters}
use Rattle.dc_core.specs.Refusals.{Answers, Refusal, Unless, UnlessRow, Passes, IsOdd}
use Rattle.dc_core.specs.Refusals.Refusal.{OddRow, NoCall, Alters}
use Rattle.dc_core.proofs.Seats.{within_list, passed, at_or, held_so}
use Rattle.dc_core.proofs.Trace.{in_snoc, before_end, before_all, does_more, makes_less, at_end, spanned_more, Opened, Unanswered, PivotOn, opened_more, opened_now, unanswered_more, unanswered_now}
use Rattle.atomic_table.proofs.Lists.{at_set, at_last, set_again}

-- the unanswered call of an actor began somewhere, and has no record since
abbrev pub Goes : State → List Event → ℕ → Walk → Type 0
Goes s es j w = (start : ℕ) × Opened s es j start w × Unanswered s es j start

pub record Traced (s : State) (es : List Event) (t : State) : Type 0 where
  pub opened : (j : ℕ) (a : Actor) → get_elem? t.actors j ≡ some a → a.walk.busy ≡ true → Goes s es j a.walk
  pub spans : (m : ℕ) (f : Finished) → get_elem? t.finished m ≡ some f → Spanned s es m f

module _ (s : State) (es : List Event) (e : Event) (T : Traced s es (after_all s es)) where
  abbrev t : State
  t = after_all s es

  abbrev more : List Event
  more = es ++ e ∷ []

  -- a record that this event makes
  abbrev Made : Finished → Type 0
  Made g = get_elem? (after t e).finished (length t.finished) ≡ some g

  none_made : (after t e).finished ≡ t.finished → (g : Finished) → Made g → ⊥
  none_made fins g at = let less = within_list t.finished (length t.finished) g (ap (λ l. get_elem? l (length t.finished)) (sym fins) ∙ at) in omega arith

  others : ((g : Finished) → Made g → g.actor ≡ e.actor) → (j : ℕ) (a : Actor) → j ≢ e.actor → get_elem? t.actors j ≡ some a → a.walk.busy ≡ true → Goes s more j a.walk
  others mine j a other at busy = let o = T.opened j a at busy in let not_this : (act : Act) → e ≡ record { actor = j; act = act } → ⊥ = λ act is. other (sym (ap (λ (x : Event). x.actor) is)) in (
    o.0,
    opened_more s es e j o.0 a.walk a.walk (λ act is. absurd (not_this act is)) refl (λ p. inl (p, refl, λ act is. absurd (not_this act is))) o.1,
    unanswered_more s es e j o.0 (λ g made is. other (sym is ∙ mine g made)) o.2,
  )

  -- this event changes its actor's walk, and makes no record
  walks_on : (a' : Actor) → (after t e).actors ≡ set t.actors e.actor a' → (after t e).finished ≡ t.finished → (a'.walk.busy ≡ true → Goes s more e.actor a'.walk) → Traced s more (after t e)
  walks_on a' acts fins mine = record {
    opened = λ j a at busy. ⊎_elim (λ (h : (j ≡ e.actor) × (a' ≡ a)). subst (λ (z : ℕ × Actor). Goes s more z.0 z.1.walk) (λ i. (sym h.0 i, h.1 i)) (mine (ap (λ (x : Actor). x.walk.busy) h.1 ∙ busy)))
        (λ (h : (j ≢ e.actor) × (get_elem? t.actors j ≡ some a)). others (λ g made. absurd (none_made fins g made)) j a h.0 h.1 busy) (at_set t.actors e.actor j a' a (ap (λ l. get_elem? l j) (sym acts) ∙ at));
    spans = λ m f at. spanned_more s es e m f (T.spans m f (ap (λ l. get_elem? l m) (sym fins) ∙ at));
  }

  -- and makes a record
  records : (a' : Actor) (f : Finished) → (after t e).actors ≡ set t.actors e.actor a' → (after t e).finished ≡ t.finished ++ f ∷ [] → a'.walk.busy ≡ false → f.actor ≡ e.actor → Spanned s more (length t.finished) f → Traced s more (after t e)
  records a' f acts fins idle who span = let mine : (g : Finished) → Made g → g.actor ≡ e.actor = λ g made. ap (λ (x : Finished). x.actor) (some-injective g f (sym made ∙ (ap (λ l. get_elem? l (length t.finished)) fins ∙ at_last t.finished f (length t.finished) refl))) ∙ who in record {
    opened = λ j a at busy. ⊎_elim (λ (h : (j ≡ e.actor) × (a' ≡ a)). absurd (true≢false (sym (ap (λ (x : Actor). x.walk.busy) h.1 ∙ busy) ∙ idle)))
        (λ (h : (j ≢ e.actor) × (get_elem? t.actors j ≡ some a)). others mine j a h.0 h.1 busy) (at_set t.actors e.actor j a' a (ap (λ l. get_elem? l j) (sym acts) ∙ at));
    spans = λ m g at. ⊎_elim (λ (h : get_elem? t.finished m ≡ some g). spanned_more s es e m g (T.spans m g h)) (λ (h : (m ≡ length t.finished) × (f ≡ g)). subst (λ (z : ℕ × Finished). Spanned s more z.0 z.1) (λ i. (sym h.0 i, h.1 i)) span)
        (in_snoc t.finished f g m (ap (λ l. get_elem? l m) (sym fins) ∙ at));
  }

  made_now : (f : Finished) → (after t e).finished ≡ t.finished ++ f ∷ [] → Makes s more (length es) (length t.finished) f
  made_now f fins = (ap (λ (u : State). length u.finished) (before_end s es e), ap (λ (u : State). get_elem? u.finished (length t.finished)) (before_all s es e) ∙ (ap (λ l. get_elem? l (length t.finished)) fins ∙ at_last t.finished f (length t.finished) refl))

  -- the record of a call that is answered at this event
  span_now : (start : ℕ) (w : Walk) (f : Finished) → Opened s es e.actor start w → Unanswered s es e.actor start → f.actor ≡ e.actor → f.call ≡ w.call → f.at ≡ clock_of t → (after t e).finished ≡ t.finished ++ f ∷ []
      → (e ≡ record { actor = e.actor; act = Commit }) ⊎ (e ≡ record { actor = e.actor; act = Give true }) → Spanned s more (length t.finished) f
  span_now start w f o fresh who what when fins how = let st = within_list es start (record { actor = e.actor; act = Begin w.call }) o.begins in let l = length-append es (e ∷ []) in let ev = at_last es e (length es) refl in record {
    start = start;
    point = length es;
    end = length es;
    between = (st, le_refl (length es), omega arith);
    begins = subst (λ (z : ℕ × Request). Does more start z.0 (Begin z.1)) (λ i. (sym who i, sym what i)) (does_more es e start e.actor (Begin w.call) o.begins);
    last = λ k act lo hi d. let d' = subst (λ z. Does more k z act) who d in ⊎_elim (λ (h : Does es k e.actor act). o.last k act lo h)
        (λ (h : (k ≡ length es) × (e ≡ record { actor = e.actor; act = act })). ends_call act h.1 how) (at_end s es e k e.actor act d');
    once = λ k n g lo hi made is. fresh k n g lo hi (makes_less s es e k n g hi made) (is ∙ who);
    acts = ⊎_elim (λ (h : e ≡ record { actor = e.actor; act = Commit }). inl (subst (λ z. Does more (length es) z Commit) (sym who) (ev ∙ ap some h), refl)) (λ (h : e ≡ record { actor = e.actor; act = Give true }). inr (inl (subst (λ z. Does more (length es) z (Give true)) (sym who) (ev ∙ ap some h), refl))) how;
    stays = λ k act lo hi d. absurd (omega arith);
    timed = when ∙ sym (ap clock_of (before_end s es e));
    made = made_now f fins;
  }
    where
      ends_call : (act : Act) → e ≡ record { actor = e.actor; act = act } → (e ≡ record { actor = e.actor; act = Commit }) ⊎ (e ≡ record { actor = e.actor; act = Give true }) → moves_call act ≡ false
      ends_call act is (inl c) = ap (λ (x : Event). moves_call x.act) (sym is ∙ c)
      ends_call act is (inr c) = ap (λ (x : Event). moves_call x.act) (sym is ∙ c)

  -- the record of a look-up that is answered at its pivot
  span_then : (start : ℕ) (w : Walk) (f : Finished) → Opened s more e.actor start w → Unanswered s es e.actor start → w.pivoted ≡ true → f.actor ≡ e.actor → f.call ≡ w.call → f.at ≡ w.pivot → (after t e).finished ≡ t.finished ++ f ∷ [] → Spanned s more (length t.finished) f
  span_then start w f o fresh turned who what when fins = let l = length-append es (e ∷ []) in let p = o.turned turned in let later = p.later in let inside = within_list more p.point (record { actor = e.actor; act = Pivot }) p.here in record {
    start = start;
    point = p.point;
    end = length es;
    between = (later, omega arith, omega arith);
    begins = subst (λ (z : ℕ × Request). Does more start z.0 (Begin z.1)) (λ i. (sym who i, sym what i)) o.begins;
    last = λ k act lo hi d. o.last k act lo (subst (λ z. Does more k z act) who d);
    once = λ k n g lo hi made is. fresh k n g lo hi (makes_less s es e k n g hi made) (is ∙ who);
    acts = inr (inr (subst (λ z. Does more p.point z Pivot) (sym who) p.here));
    stays = λ k act lo hi d. p.stays k act lo (subst (λ z. Does more k z act) who d);
    timed = when ∙ p.timed;
    made = made_now f fins;
  }

  -- the actor of the event, which no refusal stopped
  module _ (ok : Answers t e None) where
    a : Actor
    a = actor_at t e.actor

    at : get_elem? t.actors e.actor ≡ some (actor_at t e.actor)
    at = at_or t.actors e.actor Rattle.dc_core.specs.Machine.idle (let p = (passed ok).0 in omega (arith, p))

    stays : (w' : Walk) → ((act : Act) → e ≡ record { actor = e.actor; act = act } → moves_call act ≡ false) → (w'.busy ≡ true → (actor_at t e.actor).walk.busy ≡ true) → w'.call ≡ (actor_at t e.actor).walk.call
        → (w'.pivoted ≡ true → PivotOn t e e.actor (actor_at t e.actor).walk w') → w'.busy ≡ true → (start : ℕ) × Opened s more e.actor start w' × Unanswered s es e.actor start
    stays w' other busy same pivots b = let o = T.opened e.actor (actor_at t e.actor) at (busy b) in (o.0, opened_more s es e e.actor o.0 (actor_at t e.actor).walk w' other same pivots o.1, o.2)

    -- and no record was made
    goes_on : (w' : Walk) → (after t e).finished ≡ t.finished → (start : ℕ) × Opened s more e.actor start w' × Unanswered s es e.actor start → Goes s more e.actor w'
    goes_on w' fins o = (o.0, o.1, unanswered_more s es e e.actor o.0 (λ g made _. none_made fins g made) o.2)

passed_row : (rows : ℕ) (Test : ℕ → Type 0) (reason : ℕ → Refusal) (next : Option Refusal → Type 0) → UnlessRow rows Test reason next None → next None
passed_row rows Test reason next (inl is) = absurd (none_some is.4)
  where
    none_some : {r : Refusal} → None ≡ Some r → ⊥
    none_some e = cc
passed_row rows Test reason next (inr rest) = rest.1

abbrev pub event : ℕ → Act → Event
event j act = record { actor = j; act = act }

-- the event is this act
this_act : (j : ℕ) (mine act : Act) (moves : Act → Bool) → moves mine ≡ false → event j mine ≡ record { actor = j; act = act } → moves act ≡ false
this_act j mine act moves flat is = ap (λ (x : Event). moves x.act) (sym is) ∙ flat

module _ (s : State) (es : List Event) (j : ℕ) (T : Traced s es (after_all s es)) where
  abbrev u : State
  u = after_all s es

  abbrev mine : Actor
  mine = actor_at u j

  -- the walk goes on, with its call and its pivot
  walks : (act : Act) (w' : Walk) → moves_call act ≡ false → moves_pivot act ≡ false → Answers u (event j act) None → (w'.busy ≡ true → mine.walk.busy ≡ true) → w'.call ≡ mine.walk.call → w'.pivoted ≡ mine.walk.pivoted → w'.pivot ≡ mine.walk.pivot
      → w'.busy ≡ true → (start : ℕ) × Opened s (es ++ event j act ∷ []) j start w' × Unanswered s es j start
  walks act w' call pivot ok busy same turned where_it = stays s es (event j act) T ok w' (λ x. this_act j act x moves_call call) busy same (λ p. inl (sym turned ∙ p, where_it, λ x. this_act j act x moves_pivot pivot))

  -- the walk stays, whatever else of the actor changes
  same_walk : (act : Act) (a' : Actor) → moves_call act ≡ false → moves_pivot act ≡ false → Answers u (event j act) None → (after u (event j act)).actors ≡ set u.actors j a' → (after u (event j act)).finished ≡ u.finished → a'.walk ≡ mine.walk → Traced s (es ++ event j act ∷ []) (after u (event j act))
  same_walk act a' call pivot ok acts fins same = walks_on s es (event j act) T a' acts fins
      (λ b. goes_on s es (event j act) T ok a'.walk fins (walks act a'.walk call pivot ok (λ c. ap (λ (w : Walk). w.busy) (sym same) ∙ c) (ap (λ (w : Walk). w.call) same) (ap (λ (w : Walk). w.pivoted) same) (ap (λ (w : Walk). w.pivot) same) b))

  -- what a pivot or a check makes of a walk
  concludes : (act : Act) (a' : Actor) (o : Option Answer) → Answers u (event j act) None → answer_in a'.walk ≡ o → after u (event j act) ≡ concluding u j a' o → ((a'.walk.busy ≡ true) → (a'.walk.pivoted ≡ true))
      → (a'.walk.busy ≡ true → (start : ℕ) × Opened s (es ++ event j act ∷ []) j start a'.walk × Unanswered s es j start) → Traced s (es ++ event j act ∷ []) (after u (event j act))
  concludes act a' None ok e is turned open_now = let fins = ap (λ (x : State). x.finished) is in walks_on s es (event j act) T a' (ap (λ (x : State). x.actors) is) fins (λ b. goes_on s es (event j act) T ok a'.walk fins (open_now b))
  concludes act a' (Some reply) ok e is turned open_now = let f : Finished = record { actor = j; call = a'.walk.call; reply = reply; at = a'.walk.pivot } in let b = busy_if _ a'.walk.busy e in let o = open_now b in
      records s es (event j act) T (record a' { walk = no_walk }) f (ap (λ (x : State). x.actors) is) (ap (λ (x : State). x.finished) is) refl refl
      (span_then s es (event j act) T o.0 a'.walk f o.1 o.2 (turned b) refl refl refl (ap (λ (x : State). x.finished) is))
    where
      busy_if : (o : Option Answer) (b : Bool) → Rattle.std.specs.Prelude.cond b o None ≡ Some reply → b ≡ true
      busy_if o true e = refl
      busy_if o false e = absurd cc

  -- the holder makes its call
  made : (act : Act) (a' : Actor) (f : Finished) → Answers u (event j act) None → mine.walk.busy ≡ true → (after u (event j act)).actors ≡ set u.actors j a' → (after u (event j act)).finished ≡ u.finished ++ f ∷ [] → a'.walk.busy ≡ false
      → f.actor ≡ j → f.call ≡ mine.walk.call → f.at ≡ clock_of u → (event j act ≡ event j Commit) ⊎ (event j act ≡ event j (Give true)) → Traced s (es ++ event j act ∷ []) (after u (event j act))
  made act a' f ok busy acts fins idle who what when how = let o = T.opened j mine (at s es (event j act) T ok) busy in
      records s es (event j act) T a' f acts fins idle who (span_now s es (event j act) T o.0 mine.walk f o.1 o.2 who what when fins how)

  -- a note, a word or a pivot more
  steps : (act : Act) (a' : Actor) → moves_call act ≡ false → moves_pivot act ≡ false → Answers u (event j act) None → (after u (event j act)).actors ≡ set u.actors j a' → (after u (event j act)).finished ≡ u.finished → a'.walk.busy ≡ mine.walk.busy → a'.walk.call ≡ mine.walk.call
      → a'.walk.pivoted ≡ mine.walk.pivoted → a'.walk.pivot ≡ mine.walk.pivot → Traced s (es ++ event j act ∷ []) (after u (event j act))
  steps act a' call pivot ok acts fins busy same turned where_it = walks_on s es (event j act) T a' acts fins (λ b. goes_on s es (event j act) T ok a'.walk fins (walks act a'.walk call pivot ok (λ c. sym busy ∙ c) same turned where_it b))

  -- an act that changes no actor
  unmoved : (act : Act) → moves_call act ≡ false → moves_pivot act ≡ false → Answers u (event j act) None → (after u (event j act)).actors ≡ u.actors → (after u (event j act)).finished ≡ u.finished → Traced s (es ++ event j act ∷ []) (after u (event j act))
  unmoved act call pivot ok acts fins = same_walk act mine call pivot ok (acts ∙ sym (set_again u.actors j mine (at s es (event j act) T ok))) fins refl

  pub traced : (act : Act) → Answers u (event j act) None → Traced s (es ++ event j act ∷ []) (after u (event j act))
  traced (Begin call) ok = walks_on s es (event j (Begin call)) T (record mine { walk = walk_begun call }) refl refl (λ _. (length es, opened_now s es (event j (Begin call)) j (walk_begun call) refl refl, unanswered_now s es (event j (Begin call)) j))
  traced Take ok = same_walk Take (record mine { holds = true; seen = clock_of u }) refl refl ok refl refl refl
  traced (Shut row) ok = unmoved (Shut row) refl refl ok refl refl
  traced (Write row i x) ok = unmoved (Write row i x) refl refl ok refl refl
  traced (Open row) ok = unmoved (Open row) refl refl ok refl refl
  traced (Give false) ok = same_walk (Give false) (record mine { holds = false }) refl refl ok refl refl refl
  traced Commit ok = let busy = held_so mine.walk.busy (passed (passed (passed ok).1).1).0 in
      let f : Finished = record { actor = j; call = mine.walk.call; reply = Rattle.dc_plain.specs.Runs.reply_of u.limit u.tree mine.walk.call; at = clock_of u } in
      made Commit (record mine { walk = no_walk; seen = clock_of u + 1 }) f ok busy refl refl refl refl refl refl (inl refl)
  traced (Give true) ok = let busy = held_so mine.walk.busy (passed (passed_row u.rows (IsOdd u) OddRow (Unless (mine.walk.busy ≡ false) NoCall (Unless (alters u.limit u.tree mine.walk.call ≡ true) Alters Passes)) (passed (passed ok).1).1)).0 in
      let f : Finished = record { actor = j; call = mine.walk.call; reply = Rattle.dc_plain.specs.Runs.reply_of u.limit u.tree mine.walk.call; at = clock_of u } in
      made (Give true) (record mine { walk = no_walk; seen = clock_of u; holds = false }) f ok busy refl refl refl refl refl refl (inr refl)
  traced (Note row) ok = steps (Note row) (walking mine (walk_noted mine.walk row (Rattle.dc_events.specs.Rows.count u.words row))) refl refl ok refl refl refl refl refl refl
  traced Read ok = steps Read (walking mine (walk_read mine.walk (next_word u mine.walk))) refl refl ok refl refl refl refl refl refl
  traced Pivot ok = let w' : Walk = walk_turned mine.walk (clock_of u) in let a' : Actor = record (walking mine w') { seen = clock_of u } in
      concludes Pivot a' (answer_in w') ok refl refl (λ b. b)
      (stays s es (event j Pivot) T ok w' (λ x. this_act j Pivot x moves_call refl) (λ c. c) refl (λ p. inr (refl, ap (λ z. Rattle.std.specs.Prelude.cond z (clock_of u) 0) p)))
  traced (Check i) ok = let w' : Walk = walk_marked mine.walk i in let turned = held_so mine.walk.pivoted (passed (passed (passed ok).1).1).0 in
      concludes (Check i) (walking mine w') (answer_in w') ok refl refl (λ _. turned) (walks (Check i) w' refl refl ok (λ b. b) refl refl refl)
  traced Again ok = let w' : Walk = walk_again mine.walk in walks_on s es (event j Again) T (record mine { walk = w' }) refl refl
      (λ b. goes_on s es (event j Again) T ok w' refl (stays s es (event j Again) T ok w' (λ x. this_act j Again x moves_call refl) (λ c. c) refl (λ p. absurd (true≢false (sym p))) b))
  traced Quit ok = walks_on s es (event j Quit) T (record mine { walk = no_walk }) refl refl (λ b. absurd (true≢false (sym b)))

-- a new core: no actor has a call, and there is no record
pub traced_at_first : (s : State) → ((j : ℕ) (a : Actor) → get_elem? s.actors j ≡ some a → a.walk.busy ≡ false) → s.finished ≡ [] → Traced s [] s
traced_at_first s idle none = record {
  opened = λ j a at busy. absurd (true≢false (sym busy ∙ idle j a at));
  spans = λ m f at. absurd (some-ne-none f (sym at ∙ ap (λ l. get_elem? l m) none));
}
