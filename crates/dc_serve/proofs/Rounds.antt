-- One more phase.
use Rattle.std.proofs.Common.{drop, ◌≡◌, ℕ, zero, suc, refl, ◌+◌, ◌<◌, ◌≤◌, List, [], ◌∷◌, ◌++◌, get_or, length, take, Option, Some, None, ap, ap₂, sym, ◌∙◌, subst, arith, le_refl}
use Rattle.std.proofs.lemmas.List.{append-nil, get_or-map, length-append, length-map, map-append, take-append-drop, take_more}
use Rattle.std.proofs.lemmas.List.Concat.{flat_map-append}
use Rattle.std.specs.Borrow.{Bor}
use Rattle.std.specs.List.{flat_map}
use Rattle.std.specs.Io.KnownBytes.{Appends}
use Rattle.dc_events.specs.Views.{Book}
use Rattle.dc_names.specs.declared.limits.TheConstants.{SESSIONS}
use Rattle.dc_lang.specs.declared.line.Line.{Line}
use Rattle.dc_lang.specs.Commands.{Order}
use Rattle.dc_table.specs.Shares.{Known}
use Rattle.dc_serve.specs.Bytes.{AppendsFront, IsServiceFault, WritesFront}
use Rattle.dc_lang.specs.Phases.{all_ordered, by_session, in_order, of_sessions, ordered}
use Rattle.dc_serve.specs.Rounds.{Goes, Holds, Rounds, StopsBy}
use Rattle.dc_lang.specs.Bases.{first_bases}
use Rattle.dc_serve.specs.Sessions.{Between, ObeyedBelow, SameShare, TookInSome, outcome, present, size}
use Rattle.dc_serve.specs.Turns.{AsAsked, Turn, all_of, bases_then, orders_of, strand, text_of}
use Rattle.dc_serve.specs.declared.fault.ServeFault.{ServeFault}
use Rattle.dc_serve.specs.declared.fault.ServeFault.TheVariants.{BadSize, Read, BadLine, NoMemory, Spent, Write}
use Rattle.dc_serve.proofs.BytesLemmas.{appends_both, front_after}
use Rattle.dc_serve.proofs.Counts.{size-append}
use Rattle.dc_serve.proofs.Sessions.{asked-append, bases_then-append}
use Rattle.dc_serve.proofs.Shared.{whole_same}
use Rattle.dc_serve.proofs.Strands.{ends_from, rising_from, text-append}

all_of-next : (xs : List (List Turn)) (turns : List Turn) → all_of (xs ++ turns ∷ []) ≡ all_of xs ++ turns
all_of-next xs turns = flat_map-append (λ turns. turns) xs (turns ∷ []) ∙ ap (λ l. all_of xs ++ l) (append-nil turns)

rounds_more : (p q w : ℕ) (xs : List (List Turn)) (turns : List Turn) → Rounds p xs q → Between q w turns → q ≤ w → Rounds p (xs ++ turns ∷ []) w
rounds_more p q w [] turns le between up = (w, (λ s. (rising_from p q (strand s turns) le (between s).0, (let far = (between s).1 in let near = ends_from p q (strand s turns) le in omega arith))), le_refl w)
rounds_more p q w (x ∷ xs) turns r between up = (r.0, r.1, rounds_more r.0 q w xs turns r.2 between up)

-- a phase was served
holds_more : {most : ℕ} → (limit : ℕ) (bases bases' : List ℕ) (phases : List (List Order)) (orders : List Order) (turns : List (List Turn)) (k l : Known) (text : List ℕ) → Holds limit phases turns k.view.book.seen [] k
    → bases ≡ bases_then first_bases (all_of turns) → SameShare k.share l.share → TookInSome most k.view.book l.view.book
    → (f : ObeyedBelow k.view.book bases SESSIONS orders (outcome text bases') l.view.book)
    → Holds limit (phases ++ orders ∷ []) (turns ++ f.turns ∷ []) l.view.book.seen [] l × (bases' ≡ bases_then first_bases (all_of (turns ++ f.turns ∷ [])))
holds_more limit bases bases' phases orders turns k l text holds last same took f =
    let next = all_of-next turns f.turns in
    let t = took.1 in (
      record {
        orders_are = map-append orders_of turns (f.turns ∷ []) ∙ ap₂ (λ l o. l ++ o ∷ []) holds.orders_are f.orders_are ∙ sym (map-append by_session phases (orders ∷ []));
        asked = subst (AsAsked first_bases) (sym next) (asked-append first_bases (all_of turns) f.turns holds.asked (subst (λ b. AsAsked b f.turns) last f.asked));
        own = t.own ∙ holds.own;
        joined = f.joined ∙ ap (λ l. l ++ present SESSIONS f.turns) (holds.joined ∙ append-nil (flat_map (present SESSIONS) turns))
            ∙ ap (λ l. flat_map (present SESSIONS) turns ++ l) (sym (append-nil (present SESSIONS f.turns))) ∙ sym (flat_map-append (present SESSIONS) turns (f.turns ∷ [])) ∙ sym (append-nil _);
        rounds = rounds_more 0 k.view.book.seen l.view.book.seen turns f.turns holds.rounds f.between t.seen;
        rise = tt;
        limit_is = same.limit ∙ holds.limit_is;
        whole = whole_same k.share l.share holds.whole same;
      },
      f.last ∙ ap (λ b. bases_then b f.turns) last ∙ sym (bases_then-append first_bases (all_of turns) f.turns) ∙ ap (bases_then first_bases) (sym next),
    )

-- a phase was begun, and something came of it
holds_past : {most : ℕ} → (limit : ℕ) (phases : List (List Order)) (turns : List (List Turn)) (k l : Known) → Holds limit phases turns k.view.book.seen [] k → SameShare k.share l.share
    → (took : TookInSome most k.view.book l.view.book) → Holds limit phases turns k.view.book.seen took.0 l
holds_past limit phases turns k l holds same took =
    let t = took.1 in
    record {
      orders_are = holds.orders_are;
      asked = holds.asked;
      own = t.own ∙ holds.own;
      joined = t.joined ∙ ap (λ l. l ++ took.0) (holds.joined ∙ append-nil (flat_map (present SESSIONS) turns));
      rounds = holds.rounds;
      rise = t.rise;
      limit_is = same.limit ∙ holds.limit_is;
      whole = whole_same k.share l.share holds.whole same;
    }

abbrev phase_orders : Bor (List Line) → List Order
phase_orders phase = ordered phase.now

-- the parts so far, and one more
next_phase : (phases : List (Bor (List Line))) (i : ℕ) (phase : Bor (List Line)) → i < length phases → phase ≡ get_or phases i phase
    → take (i + 1) (all_ordered phases) ≡ take i (all_ordered phases) ++ ordered phase.now ∷ []
next_phase phases i phase within is =
    take_more (all_ordered phases) i [] (subst (λ (n : ℕ). i < n) (sym (length-map phases phase_orders)) within)
    ∙ ap (λ o. take i (all_ordered phases) ++ o ∷ []) (get_or-map phase_orders phases i phase [] within ∙ ap phase_orders (sym is))

pub none_written : (old : Option (List ℕ)) → Appends old old []
none_written None = tt
none_written (Some bytes) = sym (append-nil bytes)

in_order-next : (phases : List (List Order)) (orders : List Order) → length (in_order (phases ++ orders ∷ [])) ≡ length (in_order phases) + length (by_session orders)
in_order-next phases orders =
    let l = ap length (flat_map-append by_session phases (orders ∷ []) ∙ ap (λ o. in_order phases ++ o) (append-nil (by_session orders))) in
    let s = length-append (in_order phases) (by_session orders) in
    omega arith

in_order-fewer : (phases : List (List Order)) (i : ℕ) → length (in_order (take i phases)) ≤ length (in_order phases)
in_order-fewer phases i =
    let l = ap length (ap in_order (sym (take-append-drop i phases)) ∙ flat_map-append by_session (take i phases) (drop i phases)) in
    let s = length-append (in_order (take i phases)) (in_order (drop i phases)) in
    omega arith

few_more : (a b : Book) (phases : List (List Order)) (orders : List Order) → size a.joined ≤ length (in_order phases) → TookInSome (length (by_session orders)) a b
    → size b.joined ≤ length (in_order phases) + length (by_session orders)
few_more a b phases orders few took =
    let e = ap size took.1.joined in
    let s = size-append a.joined took.0 in
    let l = took.2 in
    omega arith

text_next : (turns : List (List Turn)) (more : List Turn) → text_of (all_of (turns ++ more ∷ [])) ≡ text_of (all_of turns) ++ text_of more
text_next turns more = ap text_of (all_of-next turns more) ∙ text-append (all_of turns) more

-- what serving a phase did to the pass
pub record Phase (k l : Known) (orders : List Order) : Type 0 where
  pub same : SameShare k.share l.share
  pub took : TookInSome (length (by_session orders)) k.view.book l.view.book

goes_more : (limit : ℕ) (bases bases' : List ℕ) (phases : List (List Order)) (orders : List Order) (old mid new : Option (List ℕ)) (k l : Known) (text : List ℕ) → Goes limit bases phases old mid k
    → Phase k l orders → ObeyedBelow k.view.book bases SESSIONS orders (outcome text bases') l.view.book → Appends mid new text → Goes limit bases' (phases ++ orders ∷ []) old new l
goes_more limit bases bases' phases orders old mid new k l text so_far phase f appends =
    let next = holds_more limit bases bases' phases orders so_far.turns k l text so_far.holds so_far.last phase.same phase.took f in
    record {
      turns = so_far.turns ++ f.turns ∷ [];
      holds = next.0;
      last = next.1;
      few = let more = few_more k.view.book l.view.book phases orders so_far.few phase.took in let n = in_order-next phases orders in omega arith;
      written = subst (Appends old new) (sym (text_next so_far.turns f.turns)) (appends_both old mid new (text_of (all_of so_far.turns)) (text_of f.turns) so_far.written (subst (Appends mid new) f.told appends));
    }

goes_stops : (limit : ℕ) (bases : List ℕ) (phases : List (List Order)) (i : ℕ) (orders : List Order) (old new : Option (List ℕ)) (k l : Known) (fault : ServeFault) → Goes limit bases (take i phases) old new k
    → Phase k l orders → take (i + 1) phases ≡ take i phases ++ orders ∷ [] → IsServiceFault l.view.book.seen fault → StopsBy limit phases old new l fault
goes_stops limit bases phases i orders old new k l BadSize g phase next is = absurd is
goes_stops limit bases phases i orders old new k l Read g phase next is = absurd is
goes_stops limit bases phases i orders old new k l (BadLine n) g phase next is = absurd is
goes_stops limit bases phases i orders old new k l NoMemory g phase next is =
    (i, record { turns = g.turns; clock = k.view.book.seen; more = phase.took.0; holds = holds_past limit (take i phases) g.turns k l g.holds phase.same phase.took; written = g.written })
goes_stops limit bases phases i orders old new k l Spent g phase next is =
    let holds = holds_past limit (take i phases) g.turns k l g.holds phase.same phase.took in
    record {
      seen = is;
      own = holds.own;
      few =
          let more = few_more k.view.book l.view.book (take i phases) orders g.few phase.took in
          let n = in_order-next (take i phases) orders in
          let e = ap (λ l. length (in_order l)) next in
          let all = in_order-fewer phases (i + 1) in
          omega arith;
      whole = holds.whole;
    }
goes_stops limit bases phases i orders old new k l Write g phase next is = absurd is

goes_fails : (limit : ℕ) (bases bases' : List ℕ) (phases : List (List Order)) (i : ℕ) (orders : List Order) (old mid new : Option (List ℕ)) (k l : Known) (text : List ℕ) (fault : ServeFault)
    → Goes limit bases (take i phases) old mid k → Phase k l orders → ObeyedBelow k.view.book bases SESSIONS orders (outcome text bases') l.view.book → take (i + 1) phases ≡ take i phases ++ orders ∷ []
    → WritesFront mid new text fault → StopsBy limit phases old new l fault
goes_fails limit bases bases' phases i orders old mid new k l text BadSize g phase f next fails = absurd fails
goes_fails limit bases bases' phases i orders old mid new k l text Read g phase f next fails = absurd fails
goes_fails limit bases bases' phases i orders old mid new k l text (BadLine n) g phase f next fails = absurd fails
goes_fails limit bases bases' phases i orders old mid new k l text NoMemory g phase f next fails = absurd fails
goes_fails limit bases bases' phases i orders old mid new k l text Spent g phase f next fails = absurd fails
goes_fails limit bases bases' phases i orders old mid new k l text Write g phase f next fails =
    let more = holds_more limit bases bases' (take i phases) orders g.turns k l text g.holds g.last phase.same phase.took f in (
      i + 1,
      record {
        turns = g.turns ++ f.turns ∷ [];
        clock = l.view.book.seen;
        more = [];
        holds = subst (λ p. Holds limit p (g.turns ++ f.turns ∷ []) l.view.book.seen [] l) (sym next) more.0;
        written =
            let front = front_after old mid new (text_of (all_of g.turns)) (text_of f.turns) [] g.written (subst (AppendsFront mid new) f.told fails) in
            subst (AppendsFront old new) (ap (λ t. text_of (all_of g.turns) ++ t) (append-nil (text_of f.turns)) ∙ sym (text_next g.turns f.turns)) front;
      },
    )

-- a phase is the next of the parts of an input
pub record IsNext (parts : List (Bor (List Line))) (i : ℕ) (part : Bor (List Line)) : Type 0 where
  pub within : i < length parts
  pub is : part ≡ get_or parts i part

-- the parts so far were served, and the next one, whose replies were written
pub part_more : (limit : ℕ) (bases bases' : List ℕ) (parts : List (Bor (List Line))) (i : ℕ) (part : Bor (List Line)) (old mid new : Option (List ℕ)) (k l : Known) (text : List ℕ) → IsNext parts i part → Goes limit bases (take i (all_ordered parts)) old mid k
    → Phase k l (ordered part.now) → ObeyedBelow k.view.book bases SESSIONS (ordered part.now) (outcome text bases') l.view.book → Appends mid new text → Goes limit bases' (take (i + 1) (all_ordered parts)) old new l
part_more limit bases bases' parts i part old mid new k l text next so_far phase f appends =
    subst (λ (os : List (List Order)). Goes limit bases' os old new l) (sym (next_phase parts i part next.within next.is))
    (goes_more limit bases bases' (take i (all_ordered parts)) (ordered part.now) old mid new k l text so_far phase f appends)

-- and of the next one some calls were made before a fault
pub part_stops : (limit : ℕ) (bases : List ℕ) (parts : List (Bor (List Line))) (i : ℕ) (part : Bor (List Line)) (old new : Option (List ℕ)) (k l : Known) (fault : ServeFault) → IsNext parts i part → Goes limit bases (take i (all_ordered parts)) old new k
    → Phase k l (ordered part.now) → IsServiceFault l.view.book.seen fault → StopsBy limit (all_ordered parts) old new l fault
part_stops limit bases parts i part old new k l fault next so_far phase is =
    goes_stops limit bases (all_ordered parts) i (ordered part.now) old new k l fault so_far phase (next_phase parts i part next.within next.is) is

-- and the next one, of whose replies a front was written
pub part_fails : (limit : ℕ) (bases bases' : List ℕ) (parts : List (Bor (List Line))) (i : ℕ) (part : Bor (List Line)) (old mid new : Option (List ℕ)) (k l : Known) (text : List ℕ) (fault : ServeFault) → IsNext parts i part → Goes limit bases (take i (all_ordered parts)) old mid k
    → Phase k l (ordered part.now) → ObeyedBelow k.view.book bases SESSIONS (ordered part.now) (outcome text bases') l.view.book → WritesFront mid new text fault → StopsBy limit (all_ordered parts) old new l fault
part_fails limit bases bases' parts i part old mid new k l text fault next so_far phase f fails =
    goes_fails limit bases bases' (all_ordered parts) i (ordered part.now) old mid new k l text fault so_far phase f (next_phase parts i part next.within next.is) fails

none_of : (count : ℕ) → of_sessions count [] ≡ []
unfolding of_sessions
none_of zero = refl
none_of (suc count) = ap (λ l. l ++ []) (none_of count)

none_present : (count : ℕ) → present count [] ≡ []
unfolding present
none_present zero = refl
none_present (suc count) = ap (λ l. l ++ []) (none_present count)

-- nobody had an order
obeyed_none : (a : Book) (bases : List ℕ) → ObeyedBelow a bases SESSIONS [] (outcome [] bases) a
obeyed_none a bases = record {
  turns = [];
  orders_are = sym (none_of SESSIONS);
  asked = tt;
  last = refl;
  told = refl;
  joined = sym (append-nil a.joined) ∙ ap (λ l. a.joined ++ l) (sym (none_present SESSIONS));
  between = λ s. (tt, le_refl a.seen);
}

-- and the next one, which has no lines
pub part_none : (limit : ℕ) (bases : List ℕ) (parts : List (Bor (List Line))) (i : ℕ) (part : Bor (List Line)) (old new : Option (List ℕ)) (k : Known) → IsNext parts i part → part.now ≡ [] → Goes limit bases (take i (all_ordered parts)) old new k
    → Goes limit bases (take (i + 1) (all_ordered parts)) old new k
part_none limit bases parts i part old new k next none so_far =
    let phase : Phase k k (ordered part.now) = record {
      same = record { limit = refl; more = 0; parts = omega arith; halvings = omega arith };
      took = ([], record { own = refl; joined = sym (append-nil k.view.book.joined); rise = tt; seen = le_refl k.view.book.seen }, omega arith);
    } in
    let obeyed = subst (λ (lines : List Line). ObeyedBelow k.view.book bases SESSIONS (ordered lines) (outcome [] bases) k.view.book) (sym none) (obeyed_none k.view.book bases) in
    part_more limit bases bases parts i part old new new k k [] next so_far phase obeyed (none_written new)
