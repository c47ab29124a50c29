-- What was answered and written, said of the passes, lines and replies of the program.
use Rattle.std.specs.Prelude.{◌≡◌, ◌⊎◌, ◌+◌, ◌≤◌, ◌<◌, ℕ, List, [], length, Option, Result, Ok, Err, IfOk, IfErr, IsErrOf, IsOkAnd}
use Rattle.std.specs.Borrow.{Bor}
use Rattle.std.specs.Io.KnownBytes.{Appends}
use Rattle.std.specs.declared.thread.PromisedHandle.{PromisedHandle}
use Rattle.dc_cache.specs.Passes.{known, share, Fits}
use Rattle.dc_cache.specs.declared.cache.Pass.{Pass}
use Rattle.dc_lang.specs.Commands.{Order, said_by}
use Rattle.dc_lang.specs.Phases.{all_ordered, of_sessions, ordered, ordered_by, phases}
use Rattle.dc_lang.specs.declared.line.Line.{Line}
use Rattle.dc_serve.specs.Bytes.{IsServiceFault}
use Rattle.dc_serve.specs.Endings.{Serves, ServesFront}
use Rattle.dc_serve.specs.Rounds.{StopsBy, Wrote}
use Rattle.dc_serve.specs.Sessions.{Obeyed, ObeyedBelow, SameShare, TookInSome, progress}
use Rattle.dc_serve.specs.Threads.{Adds, Dcache, Returns, book, outcome_of, progress_of}
use Rattle.dc_table.specs.Shares.{both}
use Rattle.dc_serve.specs.declared.fault.ServeFault.{ServeFault}
use Rattle.dc_serve.specs.declared.fault.ServeFault.TheVariants.{NoMemory}
use Rattle.dc_serve.specs.declared.phase.Handed.{Handed}
use Rattle.dc_serve.specs.declared.phase.PhaseReplies.{PhaseReplies}
use Rattle.dc_serve.specs.declared.session.SessionReplies.{SessionReplies}

-- these orders were answered with the pass, and their lines added to the replies
abbrev pub Obeys : (p : Pass) (before : SessionReplies) → List Order → (after : SessionReplies) (q : Pass) → Type 0
Obeys p before orders after q = Obeyed (book p) (progress_of before) orders (progress_of after) (book q)

-- the replies are those to these orders of a session that starts here
abbrev pub ObeysFrom : (p : Pass) (base : ℕ) → List Order → (q : Pass) → SessionReplies → Type 0
ObeysFrom p base orders q replies = Obeyed (book p) (progress [] base) orders (progress_of replies) (book q)

-- the replies are those to the orders of the sessions below a number, which start here
abbrev pub ObeysBelow : (count : ℕ) → List Line → (bases : List ℕ) (p q : Pass) → PhaseReplies → Type 0
ObeysBelow count lines bases p q replies = ObeyedBelow (book p) bases count (ordered lines) (outcome_of replies) (book q)

-- these are the replies of some sessions with those of one more, which both have some
abbrev pub AddsBoth : Result PhaseReplies ServeFault → (session : ℕ) → Result SessionReplies ServeFault → PhaseReplies → Type 0
AddsBoth others session told all = IsOkAnd others (λ front. IsOkAnd told (λ last. Adds front session last all))

-- what a session gives back: by its thread, or at once if none could be started
abbrev pub Gives : Result (PromisedHandle (Pass × Result SessionReplies ServeFault) Handed) (Pass × Result SessionReplies ServeFault) → Pass × Result SessionReplies ServeFault → Type 0
Gives (Ok handle) back = Returns handle.promise back
Gives (Err left) back = back ≡ left

-- a pass took in what a session gave back, and its replies stand behind those of others
pub record TakesIn (cache : Dcache) (p : Pass) (others : Result PhaseReplies ServeFault) (session : ℕ) (back : Pass × Result SessionReplies ServeFault) (q : Pass) (result : Result PhaseReplies ServeFault) : Type 0 where
  pub fits : Fits cache q
  pub joined : known q ≡ both (known p) (known back.0)
  pub ok : IfOk result (AddsBoth others session back.1)
  pub err : IfErr result (λ fault. (fault ≡ NoMemory) ⊎ (IsErrOf others fault ⊎ IsErrOf back.1 fault))

pub record EndsSession (cache : Dcache) (started : Result (PromisedHandle (Pass × Result SessionReplies ServeFault) Handed) (Pass × Result SessionReplies ServeFault)) (p : Pass) (others : Result PhaseReplies ServeFault) (session : ℕ) (q : Pass) (result : Result PhaseReplies ServeFault) : Type 0 where
  pub back : Pass × Result SessionReplies ServeFault
  pub gives : Gives started back
  pub takes : TakesIn cache p others session back q result

-- no session from one up to another, which isn't among them, has a line
abbrev pub NoLines : (low count : ℕ) → List Line → Type 0
NoLines low count lines = (session : ℕ) → low ≤ session → session < count → ordered_by session lines ≡ []

-- the session is the highest below a number that has a line
pub record IsHighest (count : ℕ) (lines : List Line) (session : ℕ) : Type 0 where
  pub below : session < count
  pub some : 0 < length (ordered_by session lines)
  pub none : NoLines (session + 1) count lines

-- the session is the lowest that has a line
pub record IsLowest (session : ℕ) (lines : List Line) : Type 0 where
  pub some : 0 < length (ordered_by session lines)
  pub none : NoLines 0 session lines

-- a session and those below it were served, and a pass took in what they gave back
pub record ServesDownFrom (cache : Dcache) (session : ℕ) (lines : List Line) (bases : List ℕ) (p q : Pass) (result : Result PhaseReplies ServeFault) : Type 0 where
  pub fits : Fits cache q
  pub same_share : SameShare (share p) (share q)
  pub took_in : TookInSome (length (of_sessions (session + 1) (ordered lines))) (book p) (book q)
  pub ok : IfOk result (ObeysBelow (session + 1) lines bases p q)
  pub err : IfErr result (IsServiceFault (book q).seen)

-- with the first pass of a cache these phases were served, and the replies to them written
abbrev pub WroteAll : (p : Pass) → List (Bor (List Line)) → (old new : Option (List ℕ)) (q : Pass) → Type 0
WroteAll p parts old new q = Wrote (share p).limit (all_ordered parts) (Appends old new) (known q)

-- with the first pass of a cache these phases were served until a fault
abbrev pub WroteUntil : (p : Pass) → List (Bor (List Line)) → (old new : Option (List ℕ)) (q : Pass) → ServeFault → Type 0
WroteUntil p parts old new q fault = StopsBy (share p).limit (all_ordered parts) old new (known q) fault

-- what lines say was served, and the replies to it written
abbrev pub ServesLines : (limit : ℕ) → List Line → (old new : Option (List ℕ)) → Type 0
ServesLines limit lines old new = Serves limit (phases (said_by lines)) (Appends old new)

-- what lines say was served until a fault
abbrev pub ServesUntil : (limit : ℕ) → List Line → (old new : Option (List ℕ)) → ServeFault → Type 0
ServesUntil limit lines old new fault = ServesFront limit (phases (said_by lines)) old new fault
