-- The pass of a phase takes in the passes of its sessions, one after the other.
use Rattle.std.proofs.Common.{◌≡◌, ℕ, zero, suc, ◌+◌, ◌-◌, ◌<◌, ◌≤◌, max, List, [], ◌∷◌, ◌++◌, length, refl, ap, ap₂, sym, ◌∙◌, subst, arith, le_refl, append_assoc, add-one}
use mathlib.Core.Logic.{dite}
use native.Mathlib.Decide.{ℕ_discrete}
use Rattle.std.proofs.lemmas.List.{append-nil, length-append}
use Rattle.std.specs.Prelude.{slice_index, slice_set}
use Rattle.dc_events.specs.Standing.{Rising, ends}
use Rattle.dc_events.specs.Views.{Book, Record}
use Rattle.dc_lang.specs.Commands.{Order}
use Rattle.dc_table.specs.Shares.{Known}
use Rattle.dc_lang.specs.Phases.{of_session, of_sessions}
use Rattle.dc_serve.specs.Sessions.{AllRise, AskedBy, Obeyed, ObeyedBelow, Outcome, RecordedSome, TookInSome, outcome, present, progress, size, some_of}
use Rattle.dc_serve.specs.Turns.{OrdersAre, Turn, bases_then, orders_of, records_of, strand}
use Rattle.dc_serve.proofs.Counts.{size-append}
use Rattle.dc_serve.proofs.Sessions.{OrdersBelow, asked-append, bases-length, bases_then-append, other_base, own_asked, present_same, session_is, sessions_below, strand-append, strand_all, strand_none, strand_other}
use Rattle.dc_serve.proofs.Shared.{Fork}
use Rattle.dc_serve.proofs.Strands.{orders-append, text-append}

allrise-append : (p : ℕ) (xs ys : List (List Record)) → AllRise p xs → AllRise p ys → AllRise p (xs ++ ys)
allrise-append p [] ys a b = b
allrise-append p (x ∷ xs) ys a b = (a.0, allrise-append p xs ys a.1 b)

-- nobody was served
pub took_nobody : (a : Book) (most : ℕ) → TookInSome most a a
took_nobody a most = ([], record { own = refl; joined = sym (append-nil a.joined); rise = tt; seen = le_refl a.seen }, omega arith)

took_weaker : (a b : Book) (j k : ℕ) → j ≤ k → TookInSome j a b → TookInSome k a b
took_weaker a b j k le t = (t.0, t.1, (let x = t.2 in omega arith))

took_more : (v a u b c w : Known) (j k : ℕ) → Fork v a u b c w → TookInSome j a.view.book b.view.book → RecordedSome k u.view.book c.view.book → TookInSome (j + k) v.view.book w.view.book
took_more v a u b c w j k fork others one =
    let t = others.1 in
    let g = one.1 in
    let cut = ap (λ (z : Known). z.view.book) fork.cut in
    let new = ap (λ (z : Known). z.view.book) fork.new in
    let put = ap (λ (z : Known). z.view.book) fork.joined in
    let old : a.view.book.seen ≡ v.view.book.seen = ap (λ (z : Book). z.seen) cut in
    let begun : u.view.book.seen ≡ v.view.book.seen = ap (λ (z : Book). z.seen) new in
    let latest : w.view.book.seen ≡ max b.view.book.seen c.view.book.seen = ap (λ (z : Book). z.seen) put in
    let own : c.view.book.own ≡ one.0 = g.own ∙ ap (λ (z : Book). z.own ++ one.0) new in
    let none : c.view.book.joined ≡ [] = g.joined ∙ ap (λ (z : Book). z.joined) new in
    let more = others.0 ++ c.view.book.own ∷ c.view.book.joined in (
      more,
      record {
        own = ap (λ (z : Book). z.own) put ∙ t.own ∙ ap (λ (z : Book). z.own) cut;
        joined = ap (λ (z : Book). z.joined) put ∙ ap (λ l. l ++ c.view.book.own ∷ c.view.book.joined) (t.joined ∙ ap (λ (z : Book). z.joined ++ others.0) cut)
            ∙ append_assoc v.view.book.joined others.0 (c.view.book.own ∷ c.view.book.joined);
        rise =
            let mine : Rising v.view.book.seen c.view.book.own = subst (λ l. Rising v.view.book.seen l) (sym own) (subst (λ (p : ℕ). Rising p one.0) begun g.rising) in
            allrise-append v.view.book.seen others.0 (c.view.book.own ∷ c.view.book.joined) (subst (λ (p : ℕ). AllRise p others.0) old t.rise)
            (mine, subst (λ l. AllRise v.view.book.seen l) (sym none) tt);
        seen = let le = t.seen in omega arith;
      },
      (
          let few = others.2 in
          let these = one.2 in
          let mine = ap length own in
          let no_more = ap size none in
          let sum = size-append others.0 (c.view.book.own ∷ c.view.book.joined) in
          omega arith),
    )

pub obeyed_nobody : (a : Book) (bases : List ℕ) (orders : List Order) (text : List ℕ) → text ≡ [] → ObeyedBelow a bases 0 orders (outcome text bases) a
unfolding of_sessions present
obeyed_nobody a bases orders text none = record {
  turns = [];
  orders_are = refl;
  asked = tt;
  last = refl;
  told = none;
  joined = sym (append-nil a.joined);
  between = λ s. (tt, le_refl a.seen);
}

-- a session without orders
pub obeyed_skip : (a : Book) (bases : List ℕ) (session : ℕ) (orders : List Order) (then : Outcome) (b : Book) → of_session session orders ≡ [] → ObeyedBelow a bases session orders then b
    → ObeyedBelow a bases (session + 1) orders then b
unfolding of_sessions present
obeyed_skip a bases session orders then b none f =
    let below = subst (OrdersBelow session) (sym f.orders_are) (sessions_below session orders) in
    let own : strand session f.turns ≡ [] = strand_none session session f.turns below (le_refl session) in
    let up : session + 1 ≡ suc session = add-one session in
    record {
      turns = f.turns;
      orders_are = f.orders_are ∙ sym (ap (λ n. of_sessions n orders) up ∙ ap (λ l. of_sessions session orders ++ l) none ∙ append-nil (of_sessions session orders));
      asked = f.asked;
      last = f.last;
      told = f.told;
      joined = f.joined ∙ sym (ap (λ n. a.joined ++ present n f.turns) up ∙ ap (λ l. a.joined ++ (present session f.turns ++ some_of l)) own ∙ ap (λ l. a.joined ++ l) (append-nil (present session f.turns)));
      between = f.between;
    }

some_some : (turns : List Turn) → 0 < length (orders_of turns) → some_of (records_of turns) ≡ records_of turns ∷ []
some_some [] some' = absurd (omega arith)
some_some (t ∷ turns) some' = refl

-- a session with orders
pub obeyed_more : (v a u b c w : Known) (bases : List ℕ) (session : ℕ) (orders : List Order) (front text : List ℕ) (front_bases : List ℕ) (base : ℕ) → Fork v a u b c w → session < length bases
    → 0 < length (of_session session orders) → ObeyedBelow a.view.book bases session orders (outcome front front_bases) b.view.book
    → Obeyed u.view.book (progress [] (slice_index bases session)) (of_session session orders) (progress text base) c.view.book
    → ObeyedBelow v.view.book bases (session + 1) orders (outcome (front ++ text) (slice_set front_bases session base)) w.view.book
unfolding of_sessions present
obeyed_more v a u b c w bases session orders front text front_bases base fork within some' f s =
    let cut = ap (λ (z : Known). z.view.book) fork.cut in
    let new = ap (λ (z : Known). z.view.book) fork.new in
    let put = ap (λ (z : Known). z.view.book) fork.joined in
    let below = subst (OrdersBelow session) (sym f.orders_are) (sessions_below session orders) in
    let are = subst (OrdersAre session) (sym s.orders_are) (session_is session orders) in
    let before = f.turns in
    let mine = s.turns in
    let old = v.view.book in
    let up : session + 1 ≡ suc session = add-one session in
    let at : slice_index (bases_then bases before) session ≡ slice_index bases session = other_base bases session session before below (le_refl session) in
    let long = bases-length bases before in
    let asked = own_asked (bases_then bases before) session base mine are (omega arith) (subst (λ (k : ℕ). AskedBy k mine base) (sym at) s.asked) in
    let own : c.view.book.own ≡ records_of mine = s.recorded.own ∙ ap (λ (z : Book). z.own ++ records_of mine) new in
    let none : c.view.book.joined ≡ [] = s.recorded.joined ∙ ap (λ (z : Book). z.joined) new in
    let strand_here : strand session (before ++ mine) ≡ records_of mine = strand-append session before mine ∙ ap (λ l. l ++ strand session mine) (strand_none session session before below (le_refl session)) ∙ strand_all session mine are in
    let new_list : present (session + 1) (before ++ mine) ≡ present session before ++ records_of mine ∷ [] =
    ap (λ n. present n (before ++ mine)) up ∙ ap₂ (λ l m. l ++ some_of m) (present_same session session before mine are (le_refl session)) strand_here
    ∙ ap (λ l. present session before ++ l) (some_some mine (subst (λ l. 0 < length l) (sym s.orders_are) some')) in
    let first : a.view.book.seen ≡ old.seen = ap (λ (z : Book). z.seen) cut in
    let begun : u.view.book.seen ≡ old.seen = ap (λ (z : Book). z.seen) new in
    let latest : w.view.book.seen ≡ max b.view.book.seen c.view.book.seen = ap (λ (z : Book). z.seen) put in
    record {
      turns = before ++ mine;
      orders_are = orders-append before mine ∙ ap₂ (λ l m. l ++ m) f.orders_are s.orders_are ∙ sym (ap (λ n. of_sessions n orders) up);
      asked = asked-append bases before mine f.asked asked.0;
      last = ap (λ l. slice_set l session base) f.last ∙ sym asked.1 ∙ sym (bases_then-append bases before mine);
      told = ap₂ (λ l m. l ++ m) f.told s.told ∙ sym (text-append before mine);
      joined = ap (λ (z : Book). z.joined) put ∙ ap₂ (λ l m. l ++ c.view.book.own ∷ m) (f.joined ∙ ap (λ (z : Book). z.joined ++ present session before) cut) none
          ∙ ap (λ r. (old.joined ++ present session before) ++ r ∷ []) own ∙ append_assoc old.joined (present session before) (records_of mine ∷ []) ∙ ap (λ l. old.joined ++ l) (sym new_list);
      between = λ k. dite (ℕ_discrete k session)
          (λ here.
          let is : strand k (before ++ mine) ≡ records_of mine = ap (λ (n : ℕ). strand n (before ++ mine)) here ∙ strand_here in
          let rises = subst (λ (p : ℕ). Rising p (records_of mine)) begun s.recorded.rising in
          let far = subst (λ (p : ℕ). ends p (records_of mine) ≤ c.view.book.seen) begun s.recorded.within in
          (subst (λ l. Rising old.seen l) (sym is) rises, subst (λ l. ends old.seen l ≤ w.view.book.seen) (sym is) (omega arith)))
          (λ other.
          let is : strand k (before ++ mine) ≡ strand k before = strand-append k before mine ∙ ap (λ l. strand k before ++ l) (strand_other k session mine are other) ∙ append-nil (strand k before) in
          let rises = subst (λ (p : ℕ). Rising p (strand k before)) first (f.between k).0 in
          let far = subst (λ (p : ℕ). ends p (strand k before) ≤ b.view.book.seen) first (f.between k).1 in
          (subst (λ l. Rising old.seen l) (sym is) rises, subst (λ l. ends old.seen l ≤ w.view.book.seen) (sym is) (omega arith)));
    }

sessions_count : (session count : ℕ) (orders : List Order) → session + 1 ≡ count → length (of_sessions count orders) ≡ length (of_sessions session orders) + length (of_session session orders)
unfolding of_sessions
sessions_count session count orders up =
    let next : of_sessions count orders ≡ of_sessions session orders ++ of_session session orders = ap (λ n. of_sessions n orders) (sym up ∙ add-one session) in
    ap length next ∙ length-append (of_sessions session orders) (of_session session orders)

pub took_next : (v a u b c w : Known) (session count : ℕ) (orders : List Order) → session + 1 ≡ count → Fork v a u b c w → TookInSome (length (of_sessions session orders)) a.view.book b.view.book
    → RecordedSome (length (of_session session orders)) u.view.book c.view.book → TookInSome (length (of_sessions count orders)) v.view.book w.view.book
took_next v a u b c w session count orders up fork others one =
    let sum = sessions_count session count orders up in
    took_weaker v.view.book w.view.book (length (of_sessions session orders) + length (of_session session orders)) (length (of_sessions count orders)) (omega arith)
    (took_more v a u b c w (length (of_sessions session orders)) (length (of_session session orders)) fork others one)

took_over : (a b : Book) (low more : ℕ) (orders : List Order) → TookInSome (length (of_sessions low orders)) a b → TookInSome (length (of_sessions (low + more) orders)) a b
took_over a b low zero orders t =
    let same : low ≡ low + zero = omega arith in
    subst (λ (n : ℕ). TookInSome (length (of_sessions n orders)) a b) same t
took_over a b low (suc more) orders t =
    let up : (low + more) + 1 ≡ low + suc more = omega arith in
    let sum = sessions_count (low + more) (low + suc more) orders up in
    took_weaker a b (length (of_sessions (low + more) orders)) (length (of_sessions (low + suc more) orders)) (omega arith) (took_over a b low more orders t)

-- as many as the sessions below one have orders are no more than those below a higher one have
pub took_up : (a b : Book) (low count : ℕ) (orders : List Order) → low ≤ count → TookInSome (length (of_sessions low orders)) a b → TookInSome (length (of_sessions count orders)) a b
took_up a b low count orders le t =
    let up : low + (count - low) ≡ count = omega arith in
    subst (λ (n : ℕ). TookInSome (length (of_sessions n orders)) a b) up (took_over a b low (count - low) orders t)
