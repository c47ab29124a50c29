-- What a session's thread gives back.
use Rattle.std.specs.Prelude.{◌≡◌, ℕ, Bool, false, List, [], ◌++◌, ◌==◌, length, slice_set, IfOk, IfErr, Result}
use Rattle.dc_cache.specs.Passes.{Fits, share, view}
use Rattle.dc_cache.specs.declared.cache.Cache.{Cache}
use Rattle.dc_cache.specs.declared.cache.Pass.{Pass}
use Rattle.dc_events.specs.Views.{Book}
use Rattle.dc_lang.specs.Commands.{Order, Meaning}
use Rattle.dc_lang.specs.Commands.Meaning.{Sync, Orders}
use Rattle.dc_serve.specs.Bytes.{IsServiceFault, bytes_of}
use Rattle.dc_serve.specs.Sessions.{Obeyed, Outcome, Progress, RecordedSome, outcome, progress}
use Rattle.dc_serve.specs.declared.fault.ServeFault.{ServeFault}
use Rattle.dc_lang.specs.Phases.{ordered_by}
use Rattle.dc_table.specs.declared.acts.wakes.Sleepers.{Sleepers}
use Rattle.dc_serve.specs.declared.phase.Handed.{Handed}
use Rattle.dc_serve.specs.declared.phase.PhaseReplies.{PhaseReplies}
use Rattle.dc_serve.specs.declared.session.SessionReplies.{SessionReplies}

-- a cache whose calls may wait for the lock
abbrev pub Dcache : Type 0
Dcache = Cache Sleepers

-- what a pass has recorded, taken in and seen
abbrev pub book : Pass → Book
book p = (view p).book

-- what the program holds of a session and of a phase
abbrev pub progress_of : SessionReplies → Progress
progress_of replies = progress replies.text.items replies.base

abbrev pub outcome_of : PhaseReplies → Outcome
outcome_of replies = outcome (bytes_of replies.texts.items) replies.bases

-- the pass that was handed over, with the answers to the session's orders, or to some and then a fault
pub record GaveBack (cache : Dcache) (p : Pass) (base : ℕ) (orders : List Order) (q : Pass) (replies : Result SessionReplies ServeFault) : Type 0 where
  pub fits : Fits cache q
  pub same_share : share q ≡ share p
  pub recorded : RecordedSome (length orders) (book p) (book q)
  pub ok : IfOk replies (λ r. Obeyed (book p) (progress [] base) orders (progress_of r) (book q))
  pub err : IfErr replies (IsServiceFault (book q).seen)

-- what comes back for what a thread was handed
abbrev pub Returns : Handed → Pass × Result SessionReplies ServeFault → Type 0
Returns handed back = GaveBack handed.cache.now handed.pass.value handed.base (ordered_by handed.session handed.lines.now) back.0 back.1

-- the replies of some sessions with those of one more
pub record Adds (front : PhaseReplies) (session : ℕ) (last : SessionReplies) (all : PhaseReplies) : Type 0 where
  pub text : bytes_of all.texts.items ≡ bytes_of front.texts.items ++ last.text.items
  pub bases : all.bases ≡ slice_set front.bases session last.base

-- what is said is an order of the session
abbrev pub is_order_of : ℕ → Meaning → Bool
is_order_of session Sync = false
is_order_of session (Orders order) = order.session == session
