-- How serving ends.
use Rattle.std.proofs.Common.{ap, arith, ◌≡◌, ◌∙◌, Bool, true, false, ℕ, zero, suc, List, [], ◌∷◌, ◌++◌, length, take, take_all, le_refl, Option, Some, None, refl, sym, subst, inr, true≢false}
use Rattle.std.specs.Prelude.{Result, Ok, Err, IfErr, IfSome, IsSome, OnOk}
use mathlib.Core.Option.{some, some-injective, some-ne-none}
use lib.ListN.{get_elem?}
use Rattle.std.specs.Io.KnownBytes.{Appends}
use Rattle.dc_cache.specs.declared.cache.Ended.{Ended}
use Rattle.dc_events.specs.Laws.{RecordsAreLegal}
use Rattle.dc_events.specs.Rule.{once_below}
use Rattle.dc_events.specs.Standing.{all_hits, hits}
use Rattle.dc_events.specs.Views.{Record}
use Rattle.dc_lang.specs.Commands.{Order, Meaning}
use Rattle.dc_names.specs.declared.limits.TheConstants.{SESSIONS}
use Rattle.dc_plain.specs.Trees.{Tree}
use Rattle.dc_table.specs.Changes.{NothingNew}
use Rattle.dc_table.specs.Ends.{Ends}
use Rattle.dc_table.specs.Shares.{IsWhole, Known, Share, first_known}
use Rattle.dc_names.specs.declared.sizes.MakeFault.{MakeFault}
use Rattle.dc_names.specs.declared.sizes.MakeFault.TheVariants as makings
use Rattle.dc_serve.specs.Bytes.{AppendsFront}
use Rattle.dc_serve.specs.Endings.{Answers, AnswersFront, AnswersPlainly, EndsBy, Serves, ServesFront, Streams, Understood}
use Rattle.dc_serve.specs.Faults.{from_making}
use Rattle.dc_lang.specs.Phases.{phases}
use Rattle.dc_serve.specs.Rounds.{Holds, StopsBy, Wrote}
use Rattle.dc_serve.specs.Sessions.{size}
use Rattle.dc_serve.specs.Turns.{IsRun, Turn, strands}
use Rattle.dc_serve.specs.declared.fault.ServeFault.{ServeFault}
use Rattle.dc_serve.specs.declared.fault.ServeFault.TheVariants.{BadSize, Read, BadLine, NoMemory, Spent, Write}
use Rattle.dc_serve.proofs.BytesLemmas.{front_whole}
use Rattle.dc_serve.proofs.Clocks.{never_spent}
use Rattle.dc_serve.proofs.Counts.{history_short}
use Rattle.dc_serve.proofs.Legals.{found, is_run}
use Rattle.dc_serve.proofs.Rounds.{none_written}
use Rattle.dc_serve.proofs.Turnwise.{turnwise_text}

-- nothing was asked and nothing recorded
abbrev EachNone : List (List Record) → Type 0
EachNone [] = Unit {0}
EachNone (s ∷ ss) = (s ≡ []) × EachNone ss

strands_empty : (k : ℕ) → EachNone (strands k [])
unfolding strands
strands_empty zero = tt
strands_empty (suc k) = more (strands k []) (strands_empty k)
  where
    more : (ss : List (List Record)) → EachNone ss → EachNone (ss ++ [] ∷ [])
    more [] a = (refl, tt)
    more (s ∷ ss) a = (a.0, more ss a.1)

none_at : (ss : List (List Record)) → EachNone ss → (i : ℕ) (s : List Record) → get_elem? ss i ≡ some s → s ≡ []
none_at [] a i s e = absurd (some-ne-none s (sym e))
none_at (x ∷ xs) a zero s e = subst (λ l. l ≡ []) (some-injective x s e) a.0
none_at (x ∷ xs) a (suc i) s e = none_at xs a.1 i s e

no_run : (limit : ℕ) → IsRun limit [] []
no_run limit = record { orders = refl; asked = tt; legal = record { order = []; merges = none_at (strands SESSIONS []) (strands_empty SESSIONS); runs = tt }; phased = λ a b in_a in_b less. (let none = in_a.1 in absurd (omega arith)) }

pub nothing_served : (limit : ℕ) (phases : List (List Order)) (old : Option (List ℕ)) → (count : ℕ) × Serves limit (take count phases) (Appends old old)
nothing_served limit phases old = (0, record { turns = []; run = no_run limit; plain = λ _. refl; written = none_written old })

served : {tree : Tree} {closed : ℕ} → RecordsAreLegal → (limit : ℕ) (phases : List (List Order)) (Written : List ℕ → Type 0) (k : Known) → Ends k.share.limit k tree closed → Wrote limit phases Written k → Serves limit phases Written
served legal limit phases Written k ends wrote =
    let here = found limit phases wrote.turns wrote.clock wrote.more k wrote.holds ends in
    let run = is_run legal limit phases wrote.turns wrote.clock wrote.more k wrote.holds here in
    record { turns = wrote.turns; run = run; plain = turnwise_text legal limit wrote.clock phases wrote.turns run wrote.holds.rounds here; written = wrote.written }

front_served : {tree : Tree} {closed : ℕ} → RecordsAreLegal → (limit : ℕ) (phases : List (List Order)) (old new : Option (List ℕ)) (k : Known) (fault : ServeFault) → Ends k.share.limit k tree closed
    → StopsBy limit phases old new k fault → ServesFront limit phases old new fault
front_served legal limit phases old new k BadSize ends stops = absurd stops
front_served legal limit phases old new k Read ends stops = absurd stops
front_served legal limit phases old new k (BadLine n) ends stops = absurd stops
front_served legal limit phases old new k NoMemory ends stops = (stops.0, served legal limit (take stops.0 phases) (Appends old new) k ends stops.1)
front_served legal limit phases old new k Spent ends stops =
    let b = k.view.book in
    let once : (p : ℕ) → all_hits p b.joined ≡ once_below p (length ends.history) = λ p. let one = ends.once stops.whole p in let none = ap (hits p) stops.own in omega arith in
    let short = history_short b.joined (length ends.history) once in
    let seen = ends.book.seen in
    let far = stops.seen in
    let few = stops.few in
    omega arith
front_served legal limit phases old new k Write ends stops = (stops.0, served legal limit (take stops.0 phases) (AppendsFront old new) k ends stops.1)

pub serving_ends : (limit : ℕ) (streams : Streams) (said : List Meaning) (fault : ServeFault) → Understood streams said
    → ServesFront limit (phases said) streams.old streams.new fault → EndsBy limit streams fault
serving_ends limit streams said BadSize good is = absurd is
serving_ends limit streams said Read good is = absurd is
serving_ends limit streams said (BadLine n) good is = absurd is
serving_ends limit streams said NoMemory good is = inr record { said = said; understood = good; count = is.0; served = is.1 }
serving_ends limit streams said Spent good is = never_spent good.input said good.read.fits good.says is
serving_ends limit streams said Write good is = record { said = said; understood = good; count = is.0; served = is.1 }

-- if the sizes are right, only a lack of memory keeps a cache from being made
pub unmade : {A : Type 0} (limit : ℕ) (phases : List (List Order)) (old : Option (List ℕ)) (right : Bool) (made : Result A MakeFault) (why : MakeFault) → right ≡ true → (made ≡ Err makings.BadSize → right ≡ false)
    → made ≡ Err why → (fault : ServeFault) → fault ≡ from_making why → ServesFront limit phases old old fault
unmade limit phases old right made makings.BadSize is wrong was fault from = absurd (true≢false (sym is ∙ wrong was))
unmade limit phases old right made makings.NoMemory is wrong was fault from = subst (ServesFront limit phases old old) (sym from) (nothing_served limit phases old)

-- a pass with the whole share closes the cache
abbrev pub Closes : Known → Option Ended → Type 0
Closes k ended = IfSome ended (λ e. Ends k.share.limit k e.store e.clock) × (IsWhole k.share → IsSome ended)

closed_ok : RecordsAreLegal → (limit : ℕ) (phases : List (List Order)) (old new : Option (List ℕ)) (k : Known) (result : Result (Unit {0}) ServeFault) (ended : Option Ended) → Closes k ended
    → OnOk result (Wrote limit phases (Appends old new) k) → OnOk result (Serves limit phases (Appends old new))
closed_ok legal limit phases old new k (Err fault) ended closes wrote = tt
closed_ok legal limit phases old new k (Ok x) (Some e) closes wrote = served legal limit phases (Appends old new) k closes.0 wrote
closed_ok legal limit phases old new k (Ok x) None closes wrote = absurd (true≢false (sym (closes.1 wrote.holds.whole)))

stops_whole : (limit : ℕ) (phases : List (List Order)) (old new : Option (List ℕ)) (k : Known) (fault : ServeFault) → StopsBy limit phases old new k fault → IsWhole k.share
stops_whole limit phases old new k BadSize stops = absurd stops
stops_whole limit phases old new k Read stops = absurd stops
stops_whole limit phases old new k (BadLine n) stops = absurd stops
stops_whole limit phases old new k NoMemory stops = stops.1.holds.whole
stops_whole limit phases old new k Spent stops = stops.whole
stops_whole limit phases old new k Write stops = stops.1.holds.whole

closed_err : RecordsAreLegal → (limit : ℕ) (phases : List (List Order)) (old new : Option (List ℕ)) (k : Known) (result : Result (Unit {0}) ServeFault) (ended : Option Ended) → Closes k ended
    → IfErr result (StopsBy limit phases old new k) → IfErr result (ServesFront limit phases old new)
closed_err legal limit phases old new k (Ok x) ended closes stops = tt
closed_err legal limit phases old new k (Err fault) (Some e) closes stops = front_served legal limit phases old new k fault closes.0 stops
closed_err legal limit phases old new k (Err fault) None closes stops = absurd (true≢false (sym (closes.1 (stops_whole limit phases old new k fault stops))))

-- what is known of phases that were served once the cache is closed
pub record Closed (limit : ℕ) (phases : List (List Order)) (old new : Option (List ℕ)) (result : Result (Unit {0}) ServeFault) : Type 0 where
  pub ok : OnOk result (Serves limit phases (Appends old new))
  pub err : IfErr result (ServesFront limit phases old new)

-- nothing was recorded since, and the share is the same
pub record Rests (k l : Known) : Type 0 where
  pub same : l.share ≡ k.share
  pub nothing : NothingNew k.view l.view

holds_still : {limit : ℕ} {phases : List (List Order)} {turns : List (List Turn)} {clock : ℕ} {more : List (List Record)} (k l : Known) → Rests k l → Holds limit phases turns clock more k → Holds limit phases turns clock more l
holds_still k l rests h = record {
  orders_are = h.orders_are;
  asked = h.asked;
  own = rests.nothing.own ∙ h.own;
  joined = rests.nothing.joined ∙ h.joined;
  rounds = h.rounds;
  rise = h.rise;
  limit_is = ap (λ (s : Share). s.limit) rests.same ∙ h.limit_is;
  whole = subst (λ (s : Share). IsWhole s) (sym rests.same) h.whole;
}

wrote_still : (limit : ℕ) (phases : List (List Order)) (Written : List ℕ → Type 0) (k l : Known) → Rests k l → Wrote limit phases Written k → Wrote limit phases Written l
wrote_still limit phases Written k l rests w = record { turns = w.turns; clock = w.clock; more = w.more; holds = holds_still k l rests w.holds; written = w.written }

stops_still : (limit : ℕ) (phases : List (List Order)) (old new : Option (List ℕ)) (k l : Known) (fault : ServeFault) → Rests k l → StopsBy limit phases old new k fault → StopsBy limit phases old new l fault
stops_still limit phases old new k l BadSize rests stops = absurd stops
stops_still limit phases old new k l Read rests stops = absurd stops
stops_still limit phases old new k l (BadLine n) rests stops = absurd stops
stops_still limit phases old new k l NoMemory rests stops = (stops.0, wrote_still limit (take stops.0 phases) (Appends old new) k l rests stops.1)
stops_still limit phases old new k l Spent rests stops =
    let seen = stops.seen in
    let later = rests.nothing.later in
    let few = stops.few in
    let joined = ap size rests.nothing.joined in
    record { seen = omega arith; own = rests.nothing.own ∙ stops.own; few = omega arith; whole = subst (λ (s : Share). IsWhole s) (sym rests.same) stops.whole }
stops_still limit phases old new k l Write rests stops = (stops.0, wrote_still limit (take stops.0 phases) (AppendsFront old new) k l rests stops.1)

all_still : (limit : ℕ) (phases : List (List Order)) (old new : Option (List ℕ)) (k l : Known) (result : Result (Unit {0}) ServeFault) → Rests k l
    → OnOk result (Wrote limit phases (Appends old new) k) → OnOk result (Wrote limit phases (Appends old new) l)
all_still limit phases old new k l (Err fault) rests wrote = tt
all_still limit phases old new k l (Ok x) rests wrote = wrote_still limit phases (Appends old new) k l rests wrote

part_still : (limit : ℕ) (phases : List (List Order)) (old new : Option (List ℕ)) (k l : Known) (result : Result (Unit {0}) ServeFault) → Rests k l
    → IfErr result (StopsBy limit phases old new k) → IfErr result (StopsBy limit phases old new l)
part_still limit phases old new k l (Ok x) rests stops = tt
part_still limit phases old new k l (Err fault) rests stops = stops_still limit phases old new k l fault rests stops

-- phases were served with a pass, and the cache closed with it once nothing more was recorded
pub closed : RecordsAreLegal → (limit rows : ℕ) (phases parts : List (List Order)) (old new : Option (List ℕ)) (first then last : Known) (result : Result (Unit {0}) ServeFault) (ended : Option Ended) → first ≡ first_known limit rows
    → parts ≡ phases → Rests then last → Closes last ended → OnOk result (Wrote first.share.limit parts (Appends old new) then) → IfErr result (StopsBy first.share.limit parts old new then) → Closed limit phases old new result
closed legal limit rows phases parts old new first then last result ended made are rests closes wrote stops =
    let is : first.share.limit ≡ limit = ap (λ (k : Known). k.share.limit) made in
    record {
      ok = closed_ok legal limit phases old new last result ended closes (all_still limit phases old new then last result rests
          (subst (λ (n : ℕ). OnOk result (Wrote n phases (Appends old new) then)) is (subst (λ (l : List (List Order)). OnOk result (Wrote first.share.limit l (Appends old new) then)) are wrote)));
      err = closed_err legal limit phases old new last result ended closes (part_still limit phases old new then last result rests
          (subst (λ (n : ℕ). IfErr result (StopsBy n phases old new then)) is (subst (λ (l : List (List Order)). IfErr result (StopsBy first.share.limit l old new then)) are stops)));
    }

take_every : (phases : List (List Order)) → take (length phases) phases ≡ phases
take_every phases = take_all (length phases) phases (le_refl (length phases))

-- phases in which sessions take turns are answered plainly
pub plainly : (limit : ℕ) (streams : Streams) → Answers limit streams → AnswersPlainly limit streams
plainly limit streams a = record {
  said = a.said;
  understood = a.understood;
  plain = λ wise. subst (Appends streams.old streams.new) (a.served.plain wise) a.served.written;
}

-- all was written, and then the flush failed
pub unflushed : (limit : ℕ) (streams : Streams) → Answers limit streams → AnswersFront limit streams
unflushed limit streams a =
    let front : Serves limit (phases a.said) (AppendsFront streams.old streams.new) = record { turns = a.served.turns; run = a.served.run; plain = a.served.plain; written = front_whole _ _ _ a.served.written } in
    record {
      said = a.said;
      understood = a.understood;
      count = length (phases a.said);
      served = subst (λ (l : List (List Order)). Serves limit l (AppendsFront streams.old streams.new)) (sym (take_every (phases a.said))) front;
    }
